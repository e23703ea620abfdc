-- A LET with an operator, and nodes that are it: so all that is asked of a tree can be met.
use Rattle.std.proofs.Common.{◌≡◌, ℕ, zero, suc, ◌+◌, Bool, false, List, [], ◌∷◌, ◌++◌, Option, Some, None, if◌then◌else◌, nat_eq, refl, subst, arith}
use Rattle.std.specs.Prelude.{codes}
use Rattle.tla_symbols.specs.declared.lexeme.LexKind.{LexKind}
use Rattle.tla_symbols.specs.declared.lexeme.Lexeme.{Lexeme}
use Rattle.tla_tree.specs.declared.form.Form.TheVariants as Form
use Rattle.tla_tree.specs.Syntax.{Tree, Trees, Node, Nil, Cons}
use Rattle.tla_model.specs.declared.entity.Entity.TheVariants as entity
use Rattle.tla_model.specs.declared.names.Meaning.TheVariants.{Declared}
use Rattle.tla_model.specs.Tables.{Named, Word, Symbol, empty}
use Rattle.tla_model.specs.Entities.{Meaning, Text, own}
use Rattle.tla_model.specs.Contexts.{meaning_of}
use Rattle.module_model.specs.Exports.{Known}
use Rattle.kind_text.specs.FlatModule.{FlatModule, Form as NodeForm, IsMadeOfEarlier, IsOrdered}
use Rattle.tree_kinds.specs.Standing.{Outside}
use Rattle.flat_trees.specs.Layouts.{IsMeant, Layout}
use Rattle.flattened_trees.specs.declared.End.TheVariants as end
use Rattle.flattened_trees.specs.Leads.{FlatFace, Setting, behind, only, with_parameters}
use Rattle.flattened_trees.specs.Questions.{IsShallow, Question, over}
use Rattle.flattened_trees.specs.NodeForms.{constant_node, plain_node}
use Rattle.flattened_trees.specs.Flattened.{IsFlattened, asked_at}
use Rattle.flattened_trees.specs.Readable.{IsReadable}
use Rattle.flattened_trees.specs.Agreeing.{lead_by, unsaid_stand}
use Rattle.flattened_meanings.specs.Rounds.{IsKnownRound}
use Rattle.flattened_meanings.proofs.Behind.{fresh-round, known-round, seen-round}
use Rattle.flattened_meanings.proofs.Meant.{tree-kept}

abbrev at : ℕ → Lexeme
at from = record { kind = LexKind.Name; span = record { start = from; end = from + 1 }; line = 0; col = from }

abbrev node : Form.the_data → ℕ → Trees → Tree
node form from parts = Node form (record { start = from; end = from + 1 }) parts

-- a name with these arguments
abbrev segments : ℕ → Trees → Trees
segments from arguments = Cons (node (Form.Segment (at from)) from arguments) Nil

abbrev name : ℕ → Trees → Tree
name from arguments = node Form.Identifier from (segments from arguments)

-- f(x) == x
abbrev parts : Trees
parts = Cons (node (Form.Name (at 1)) 1 Nil) (Cons (name 2 Nil) Nil)

abbrev definition_form : Form.the_data
definition_form = Form.OperatorDefinition (at 0)

-- 1
abbrev arguments : Trees
arguments = Cons (node (Form.Number (at 4)) 4 Nil) Nil

-- LET f(x) == x IN f(1)
abbrev pub tree : Tree
tree = node Form.Let 0 (Cons (node definition_form 0 parts) (Cons (name 3 arguments) Nil))

-- the names alone, in their order, and the number
abbrev pub text : Text
text = record { file = codes "M"; source = codes "fxxf1"; starts = 0 ∷ (1 ∷ []) }

abbrev f : Meaning
f = Declared (entity.Definition (0 ∷ [])) (own text (at 0))

abbrev x : Meaning
x = Declared (entity.Parameter 0) (own text (at 1))

abbrev pub means : ℕ → Option Meaning
means from = if nat_eq from 2 then Some x else if nat_eq from 3 then Some f else None

-- the parameter, the number, the use and the LET
abbrev pub flat : FlatModule
flat = record {
  nodes = plain_node (NodeForm.Parameter 0) [] ∷ (constant_node ∷ (plain_node (NodeForm.Use [] 0) (1 ∷ []) ∷ (plain_node NodeForm.Let (2 ∷ (0 ∷ [])) ∷ [])));
  definitions = record { outer = 0; root = 0 } ∷ [];
  instances = [];
}

abbrev pub layout : Layout
layout = record { context = empty; stands = unsaid_stand; places = 0; olds = [] }

abbrev pub setting : Setting
setting = record { leads = λ meaning names. lead_by (unsaid_stand meaning) names; frame = []; olds = [] }

abbrev pub nameable : List ℕ → Bool
nameable module_name = false

module _ (known : Known) (named : List ℕ → Outside) (implied : ℕ → List Meaning) (faces : List ℕ → FlatFace) where
  pub round : IsKnownRound flat text known named faces nameable layout setting [] tree
  round =
      record {
        settings = record { leads = λ meaning names. refl; places = refl; olds = refl };
        orders = λ other meaning e. nothing other meaning e;
        names = λ other meaning e. nothing other meaning e;
        fresh = (refl, (refl, tt));
        unsaid = λ meaning is. refl;
        modules = λ module_name never. absurd (cc never);
        instances = (tt, ((tt, ((tt, tt), ((tt, ((tt, tt), tt)), tt))), ((tt, ((tt, ((tt, tt), tt)), tt)), tt)));
      }
    where
      nothing : {C : Type 0} (other : Named) (meaning : Meaning) → meaning_of empty other ≡ Some meaning → C
      nothing (Word bytes) meaning e = cc e
      nothing (Symbol op) meaning e = cc e

  pub readable : IsReadable text known named means implied faces layout.context tree
  readable = (
    ((refl, refl, refl), (refl, (refl, tt)), (tt, ((refl, ((x, record { here = refl; there = refl }, (tt, refl)), refl)), tt))),
    (refl, refl, ((f, record { here = refl; there = refl }, (tt, (refl, refl, refl, tt))), refl), refl),
  )

  -- in the definition
  abbrev inner_setting : Setting
  inner_setting = with_parameters text setting definition_form parts

  abbrev asked_of : Setting → ℕ → Form.the_data → ℕ → Trees → List Question
  asked_of round_it i form from those = asked_at text means implied faces flat round_it i form (record { start = from; end = from + 1 }) those

  abbrev x_asked : List Question
  x_asked = asked_of inner_setting 0 Form.Identifier 2 (segments 2 Nil) ++ []

  x_written : IsFlattened text means implied faces flat inner_setting (name 2 Nil) 0 x_asked
  x_written = ([], [], ([], [], [], [], refl, refl, (refl, refl), (refl, refl)), refl, refl)

  -- behind the definition
  abbrev behind_setting : Setting
  behind_setting = behind text setting (node definition_form 0 parts) (only (end.Definition 0))

  abbrev number_asked : List Question
  number_asked = asked_of behind_setting 1 (Form.Number (at 4)) 4 Nil ++ []

  number_written : IsFlattened text means implied faces flat behind_setting (node (Form.Number (at 4)) 4 Nil) 1 number_asked
  number_written = ([], [], (refl, refl), refl, refl)

  abbrev use_asked : List Question
  use_asked = asked_of behind_setting 2 Form.Identifier 3 (segments 3 arguments) ++ ((number_asked ++ []) ++ [])

  use_written : IsFlattened text means implied faces flat behind_setting (name 3 arguments) 2 use_asked
  use_written = (
    1 ∷ [],
    (number_asked ++ []) ++ [],
    (1 ∷ [], [], number_asked ++ [], [], refl, refl, (1 ∷ [], [], number_asked, [], refl, refl, (1, refl, number_written), (refl, refl)), (refl, refl)),
    refl,
    refl,
  )

  abbrev definition_asked : List Question
  definition_asked = over [] (IsShallow (at 0) 0 ∷ []) ++ ([] ++ (x_asked ++ []))

  abbrev pub tree_asked : List Question
  tree_asked = definition_asked ++ (use_asked ++ [])

  pub written : IsFlattened text means implied faces flat setting tree 3 tree_asked
  written = (
    Some 2,
    0 ∷ [],
    (
      definition_asked,
      use_asked ++ [],
      refl,
      (
        only (end.Definition 0),
        0 ∷ [],
        [],
        (0 ∷ [], 0, 0, [] ++ (x_asked ++ []), ([], 0 ∷ [], [], x_asked ++ [], refl, refl, (refl, refl), (0 ∷ [], [], x_asked, [], refl, refl, (0, refl, x_written), (refl, refl))), refl, refl, refl, refl, refl),
        (use_asked, [], refl, (2, None, use_written, (refl, refl, refl), refl)),
        refl,
      ),
    ),
    refl,
  )

  pub ordered : IsOrdered flat
  ordered zero n is = let same : plain_node (NodeForm.Parameter 0) [] ≡ n = cc in subst (IsMadeOfEarlier flat 0) same (record { parts = tt; uses = tt })
  ordered (suc zero) n is = let same : constant_node ≡ n = cc in subst (IsMadeOfEarlier flat 1) same (record { parts = tt; uses = tt })
  ordered (suc (suc zero)) n is =
      let same : plain_node (NodeForm.Use [] 0) (1 ∷ []) ≡ n = cc in
      subst (IsMadeOfEarlier flat 2) same (record { parts = (omega arith, tt); uses = (tt, (record { outer = 0; root = 0 }, refl, omega arith)) })
  ordered (suc (suc (suc zero))) n is =
      let same : plain_node NodeForm.Let (2 ∷ (0 ∷ [])) ≡ n = cc in
      subst (IsMadeOfEarlier flat 3) same (record { parts = (omega arith, (omega arith, tt)); uses = tt })
  ordered (suc (suc (suc (suc i)))) n is = cc is

  -- so the node means the LET
  means_tree : IsMeant flat text known named layout 3 tree
  means_tree =
      tree-kept flat text known named means implied faces nameable ordered tree round.instances layout setting (seen-round flat text known named faces nameable layout setting [] tree round) 3 tree_asked
      (known-round flat text known named faces nameable layout setting [] tree round) written readable (fresh-round flat text known named faces nameable layout setting [] tree round)
