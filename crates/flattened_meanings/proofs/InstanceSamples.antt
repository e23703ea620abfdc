-- A LET with an instance of a module, and nodes that are it: so all that is asked of modules can be met too.
use Rattle.std.proofs.Common.{◌≡◌, ℕ, zero, suc, ◌+◌, Bool, true, false, cond, List, [], ◌∷◌, ◌++◌, Option, Some, None, if◌then◌else◌, nat_eq, refl, sym, ap, ◌∙◌, subst, take, arith}
use Rattle.std.specs.Prelude.{codes}
use Rattle.tla_symbols.specs.declared.lexeme.LexKind.{LexKind}
use Rattle.tla_symbols.specs.declared.lexeme.Lexeme.{Lexeme}
use Rattle.tla_tree.specs.declared.form.Form.TheVariants as Form
use Rattle.tla_tree.specs.Syntax.{Tree, Trees, Node, Nil, Cons}
use Rattle.tla_model.specs.declared.entity.Entity.TheVariants as entity
use Rattle.tla_model.specs.declared.names.Meaning.TheVariants.{Declared}
use Rattle.tla_model.specs.Tables.{Named, Word, Symbol, empty, same_named}
use Rattle.tla_model.specs.Entities.{Meaning, Text, own}
use Rattle.tla_model.specs.Contexts.{meaning_of}
use Rattle.module_model.specs.Exports.{Exports, Known, Path, behind_instance as behind_view, entry_of, onward}
use Rattle.kind_text.specs.ExpandedKind.{Expanded, Given}
use Rattle.kind_text.specs.FlatModule.{FlatModule, Form as NodeForm, IsMadeOfEarlier, IsOrdered, Replacement}
use Rattle.kind_text.specs.Expansion.{text as text_at}
use Rattle.kind_text.specs.Substitution.{Item, at as item_at}
use Rattle.tree_kinds.specs.Standing.{Environment, Outside, Steps}
use Rattle.tree_kinds.specs.TreeLevels.{declared_level}
use Rattle.flat_trees.specs.Stands.{Fits, IsStanding, Stand, Unsaid, Defined, defined_text}
use Rattle.flat_trees.specs.Layouts.{IsMeant, Layout}
use Rattle.flat_trees.specs.Instances.{IsModuleBehind, exported_value}
use Rattle.flat_trees.proofs.Instances.{parameter-stays}
use Rattle.flattened_trees.specs.Leads.{FlatFace, Lead, Setting, behind, behind_instance, nowhere, with_parameters}
use Rattle.flattened_trees.specs.Questions.{IsShallowInstance, Question, UseAs, over}
use Rattle.flattened_trees.specs.NodeForms.{constant_node, plain_node}
use Rattle.flattened_trees.specs.Flattened.{IsFlattened, Right, asked_at, asks_of}
use Rattle.flattened_trees.specs.Readable.{IsReadable}
use Rattle.flattened_trees.specs.Agreeing.{TakesBehind, lead_by, unsaid_stand}
use Rattle.flattened_meanings.specs.Faces.{IsFaceOf}
use Rattle.flattened_meanings.specs.Rounds.{IsKnownRound}
use Rattle.flattened_meanings.proofs.Behind.{fresh-round, known-round, seen-round}
use Rattle.flattened_meanings.proofs.Meant.{tree-kept}

-- ---- a module with a constant c, and F == c

abbrev c : Meaning
c = Declared (entity.Constant 0) (record { instance = 0; decl = record { «module» = codes "M"; place = 0 }; via = [] })

abbrev f : Meaning
f = Declared (entity.Definition []) (record { instance = 0; decl = record { «module» = codes "M"; place = 1 }; via = [] })

abbrev f_name : Named
f_name = Word (codes "F")

abbrev symbols : Exports
symbols = (Word (codes "c"), c) ∷ []

abbrev entries : Path → Exports
entries [] = (Word (codes "c"), c) ∷ ((f_name, f) ∷ [])
entries (first ∷ path) = []

-- F is the constant
abbrev stands_there : Environment → Steps → Expanded
stands_there standing [] = Given None
stands_there standing (step ∷ steps) = cond (same_named step.name f_name) (standing c [] []) (Given None)

abbrev outside : Outside
outside = record { view = record { entries = entries; parameters = symbols }; standing = stands_there; depths = λ path. record { depth = 0; replaced = 0 }; is_constant = true }

abbrev inner : Named → Stand
inner name = cond (same_named name f_name) (Defined 0 []) Unsaid

abbrev leads : List Named → Lead
leads [] = nowhere
leads (name ∷ names) = lead_by (inner name) names

abbrev face : FlatFace
face = record { parameters = symbols; outer = 0; leads = leads; is_constant = true }

-- ---- LET I(p) == INSTANCE M WITH c <- p IN I(1)!F

abbrev at : ℕ → Lexeme
at from = record { kind = LexKind.Name; span = record { start = from; end = from + 1 }; line = 0; col = from }

abbrev node : Form.the_data → ℕ → Trees → Tree
node form from parts = Node form (record { start = from; end = from + 1 }) parts

-- the names alone, in their order, and the number
abbrev pub text : Text
text = record { file = codes "T"; source = codes "IpMcpI1F"; starts = 0 ∷ (1 ∷ []) }

abbrev i : Meaning
i = Declared (entity.Instance (0 ∷ [])) (own text (at 0))

abbrev p : Meaning
p = Declared (entity.Parameter 0) (own text (at 1))

abbrev pub means : ℕ → Option Meaning
means from = if nat_eq from 4 then Some p else if nat_eq from 5 then Some i else if nat_eq from 7 then Some f else None

abbrev segments : Trees
segments = Cons (node (Form.Segment (at 4)) 4 Nil) Nil

abbrev right : Trees
right = Cons (node Form.Identifier 4 segments) Nil

abbrev rights : Trees
rights = Cons (node (Form.Replacement (at 3)) 3 right) Nil

abbrev definition_form : Form.the_data
definition_form = Form.ModuleDefinition (at 0)

abbrev parts : Trees
parts = Cons (node (Form.Name (at 1)) 1 Nil) (Cons (node (Form.Instance (at 2)) 2 rights) Nil)

abbrev arguments : Trees
arguments = Cons (node (Form.Number (at 6)) 6 Nil) Nil

abbrev path : Trees
path = Cons (node (Form.Segment (at 5)) 5 arguments) (Cons (node (Form.Segment (at 7)) 7 Nil) Nil)

abbrev pub tree : Tree
tree = node Form.Let 0 (Cons (node definition_form 0 parts) (Cons (node Form.Identifier 5 path) Nil))

abbrev replacement : Replacement
replacement = record { root = 0; most = Some 2 }

-- the constant, which is the parameter too; the number; the use behind the instance; and the LET
abbrev pub flat : FlatModule
flat = record {
  nodes = plain_node (NodeForm.Parameter 0) [] ∷ (constant_node ∷ (plain_node (NodeForm.Use (0 ∷ []) 0) (1 ∷ []) ∷ (plain_node NodeForm.Let (2 ∷ (0 ∷ [])) ∷ [])));
  definitions = record { outer = 1; root = 0 } ∷ [];
  instances = record { outer = 0; parameters = 1; guards = true; replacements = replacement ∷ [] } ∷ [];
}

abbrev pub layout : Layout
layout = record { context = empty; stands = unsaid_stand; places = 0; olds = [] }

abbrev pub setting : Setting
setting = record { leads = λ meaning names. lead_by (unsaid_stand meaning) names; frame = []; olds = [] }

abbrev pub named : List ℕ → Outside
named module_name = outside

abbrev pub faces : List ℕ → FlatFace
faces module_name = face

abbrev pub nameable : List ℕ → Bool
nameable module_name = true

abbrev pub implied : ℕ → List Meaning
implied from = []

abbrev pub known : Known
known decl = Some (behind_view outside.view)

pub ordered : IsOrdered flat
ordered zero n is = let same : plain_node (NodeForm.Parameter 0) [] ≡ n = cc in subst (IsMadeOfEarlier flat 0) same (record { parts = tt; uses = tt })
ordered (suc zero) n is = let same : constant_node ≡ n = cc in subst (IsMadeOfEarlier flat 1) same (record { parts = tt; uses = tt })
ordered (suc (suc zero)) n is =
    let same : plain_node (NodeForm.Use (0 ∷ []) 0) (1 ∷ []) ≡ n = cc in
    subst (IsMadeOfEarlier flat 2) same
    (record {
      parts = (omega arith, tt);
      uses = (((record { outer = 0; parameters = 1; guards = true; replacements = replacement ∷ [] }, refl, (omega arith, tt)), tt), (record { outer = 1; root = 0 }, refl, omega arith));
    })
ordered (suc (suc (suc zero))) n is =
    let same : plain_node NodeForm.Let (2 ∷ (0 ∷ [])) ≡ n = cc in
    subst (IsMadeOfEarlier flat 3) same (record { parts = (omega arith, (omega arith, tt)); uses = tt })
ordered (suc (suc (suc (suc j)))) n is = cc is

-- the first node is the first item
first_node : (s : List Item) → text_at flat 0 s ≡ item_at s 0
first_node = parameter-stays flat (record { root = 0; most = None }) (plain_node (NodeForm.Parameter 0) []) 0 ordered refl refl

-- the names of the module stand so over its symbol
kept : IsModuleBehind flat (λ meaning. Unsaid) 0 inner outside
kept [] standing many all name = absurd (omega (arith, many))
kept (x ∷ []) standing many all name = by_name (same_named name f_name) refl
  where
    by_name : (b : Bool) → same_named name f_name ≡ b → IsStanding flat (x ∷ []) [] (cond b (Defined 0 []) Unsaid) (exported_value outside standing name)
    by_name true e = (record { outer = 1; root = 0 }, refl, omega arith, λ made others fits. gives made others fits)
      where
        gives : (made others : List Item) → Fits [] made others → exported_value outside standing name others [] ≡ defined_text flat (record { outer = 1; root = 0 }) (x ∷ []) [] made
        gives [] [] fits =
            ap (λ b. cond b (standing c [] []) (Given None)) e ∙ (all c).1 ∙ sym (ap (λ (y : Item). y.text) (first_node (take 1 (x ∷ []) ++ [])))
        gives [] (z ∷ others) fits = absurd fits
        gives (y ∷ made) others fits = absurd fits
    by_name false e = tt
kept (x ∷ (y ∷ more)) standing many all name = absurd (omega (arith, many))

takes : (name : Named) (next : Meaning) → entry_of (behind_view outside.view []) name ≡ Some next → TakesBehind (inner name) (onward (behind_view outside.view) name) next
takes name next e = by_name (same_named name f_name) e
  where
    by_name : (b : Bool) → cond b (Some f) None ≡ Some next → TakesBehind (cond b (Defined 0 []) Unsaid) (onward (behind_view outside.view) name) next
    by_name true is = let same : f ≡ next = cc in subst (λ meaning. TakesBehind (Defined 0 []) (onward (behind_view outside.view) name) meaning) same (tt, refl)
    by_name false is = cc is

face_of_module : (new : Meaning → Bool) → IsFaceOf flat new unsaid_stand face outside
face_of_module new =
    record {
      base = λ meaning. Unsaid;
      inner = inner;
      leads = λ name names. refl;
      kept = kept;
      takes = takes;
      apart = (refl, tt);
      symbols = λ meaning. tt;
      unsaid = λ meaning is free. refl;
    }

pub round : IsKnownRound flat text known named faces nameable layout setting [] tree
round =
    record {
      settings = record { leads = λ meaning names. refl; places = refl; olds = refl };
      orders = λ other meaning e. nothing other meaning e;
      names = λ other meaning e. nothing other meaning e;
      fresh = (refl, (refl, tt));
      unsaid = λ meaning is. refl;
      modules = λ module_name can. face_of_module _;
      instances = (tt, ((tt, ((tt, tt), ((refl, ((tt, ((tt, ((tt, tt), tt)), tt)), tt)), tt))), ((tt, ((tt, ((tt, tt), tt)), ((tt, tt), tt))), tt)));
    }
  where
    nothing : {C : Type 0} (other : Named) (meaning : Meaning) → meaning_of empty other ≡ Some meaning → C
    nothing (Word bytes) meaning e = cc e
    nothing (Symbol op) meaning e = cc e

pub readable : IsReadable text known named means implied faces layout.context tree
readable = (
  (refl, refl, (record { parameters = refl; constant = refl }, refl, (refl, refl, refl, ((p, record { here = refl; there = refl }, (tt, refl)), refl), tt))),
  (refl, refl, ((i, record { here = refl; there = refl }, (refl, (refl, refl, refl, tt), (tt, refl))), refl), refl),
)

-- ---- the nodes

abbrev inner_setting : Setting
inner_setting = with_parameters text setting definition_form parts

abbrev asked_of : Setting → ℕ → Form.the_data → ℕ → Trees → List Question
asked_of round_it number form from those = asked_at text means implied faces flat round_it number form (record { start = from; end = from + 1 }) those

abbrev p_asked : List Question
p_asked = asked_of inner_setting 0 Form.Identifier 4 segments ++ []

p_written : IsFlattened text means implied faces flat inner_setting (node Form.Identifier 4 segments) 0 p_asked
p_written = ([], [], ([], [], [], [], refl, refl, (refl, refl), (refl, refl)), refl, refl)

abbrev written_right : Right
written_right = record { name = Word (codes "c"); node = 0; at = record { start = 4; end = 5 } }

abbrev rights_asked : List Question
rights_asked = over inner_setting.frame (UseAs (at 3) (declared_level (Some c)) ∷ []) ++ ((p_asked ++ []) ++ [])

abbrev instance_asked : List Question
instance_asked = asks_of flat inner_setting.leads inner_setting.frame true (written_right ∷ []) (at 2) written_right.at replacement (Word (codes "c"), c) ∷ []

abbrev definition_asked : List Question
definition_asked = over [] (IsShallowInstance (at 0) 0 ∷ []) ++ (rights_asked ++ instance_asked)

-- behind the definition
abbrev behind_setting : Setting
behind_setting = behind text setting (node definition_form 0 parts) (behind_instance 0 face)

abbrev number_asked : List Question
number_asked = asked_of behind_setting 1 (Form.Number (at 6)) 6 Nil ++ []

number_written : IsFlattened text means implied faces flat behind_setting (node (Form.Number (at 6)) 6 Nil) 1 number_asked
number_written = ([], [], (refl, refl), refl, refl)

abbrev use_asked : List Question
use_asked = asked_of behind_setting 2 Form.Identifier 5 path ++ ((number_asked ++ []) ++ [])

use_written : IsFlattened text means implied faces flat behind_setting (node Form.Identifier 5 path) 2 use_asked
use_written = (
  1 ∷ [],
  (number_asked ++ []) ++ [],
  (
    1 ∷ [],
    [],
    number_asked ++ [],
    [],
    refl,
    refl,
    (1 ∷ [], [], number_asked, [], refl, refl, (1, refl, number_written), (refl, refl)),
    ([], [], [], [], refl, refl, (refl, refl), (refl, refl)),
  ),
  refl,
  refl,
)

abbrev pub tree_asked : List Question
tree_asked = definition_asked ++ (use_asked ++ [])

pub written : IsFlattened text means implied faces flat setting tree 3 tree_asked
written = (
  Some 2,
  0 ∷ [],
  (
    definition_asked,
    use_asked ++ [],
    refl,
    (
      behind_instance 0 face,
      0 ∷ [],
      [],
      (
        written_right ∷ [],
        0,
        rights_asked,
        instance_asked,
        (0 ∷ [], [], p_asked ++ [], [], [], (0 ∷ [], [], p_asked, [], refl, refl, (0, refl, p_written), (refl, refl)), (refl, refl, refl), refl, refl, refl),
        ([], replacement ∷ [], refl, tt, ([], refl, (refl, refl, (refl, refl)))),
        refl,
        refl,
      ),
      (use_asked, [], refl, (2, None, use_written, (refl, refl, refl), refl)),
      refl,
    ),
  ),
  refl,
)

-- so the node means the LET
means_tree : IsMeant flat text known named layout 3 tree
means_tree =
    tree-kept flat text known named means implied faces nameable ordered tree round.instances layout setting (seen-round flat text known named faces nameable layout setting [] tree round) 3 tree_asked
    (known-round flat text known named faces nameable layout setting [] tree round) written readable (fresh-round flat text known named faces nameable layout setting [] tree round)
