-- A module with a nested one that defines a name, and an instance of that, with the nodes that these are: so all that is asked can be met.
use Rattle.std.proofs.Common.{◌≡◌, inl, inr, ℕ, zero, suc, ◌+◌, Bool, true, false, cond, List, [], ◌∷◌, ◌++◌, Option, Some, None, refl, sym, ap, subst}
use Rattle.std.specs.Prelude.{codes}
use Rattle.std.specs.Str.{bytes_eq}
use Rattle.std.proofs.lemmas.Slice.Eq.{bytes_eq-Decides}
use Rattle.tla_symbols.specs.declared.lexeme.LexKind.{LexKind}
use Rattle.tla_symbols.specs.declared.lexeme.Lexeme.{Lexeme}
use Rattle.tla_tree.specs.declared.form.Form.TheVariants as Form
use Rattle.tla_tree.specs.Syntax.{Tree, Trees, Node, Nil, Cons}
use Rattle.unit_grammar.specs.Units.{UnitTree, OperatorDefinition, ModuleDefinition, ModuleBegin, ModuleEnd, ModuleUnits}
use Rattle.tla_model.specs.declared.entity.Entity.TheVariants as entity
use Rattle.tla_model.specs.declared.names.Meaning.TheVariants.{Declared}
use Rattle.tla_model.specs.Entities.{Meaning, Text, own}
use Rattle.tla_model.specs.Contexts.{meaning_of}
use Rattle.tla_model.specs.Tables.{Named, Word, same_named}
use Rattle.module_scope.specs.Environments.{begun, ended, first as first_scope, inside, meaning as module_meaning}
use Rattle.module_model.specs.Exports.{exported, exports_by}
use Rattle.module_model.specs.Modules.{exports_under, text_of}
use Rattle.module_model.specs.Resolution.{words_of}
use Rattle.kind_text.specs.FlatModule.{FlatModule, IsMadeOfEarlier, IsOrdered}
use Rattle.tree_kinds.specs.Standing.{Outside}
use Rattle.module_kinds.specs.ModuleKinds.{KindState, after, first, module_under, named_in, nowhere as no_module, views}
use Rattle.flat_trees.proofs.Meanings.{named-equal}
use Rattle.flattened_trees.specs.declared.End.TheVariants as end
use Rattle.flattened_trees.specs.Flattened.{asked_at}
use Rattle.flattened_trees.specs.Leads.{FlatFace, Setting, behind, behind_instance, only, with_parameters}
use Rattle.flattened_trees.specs.NodeForms.{constant_node}
use Rattle.flattened_trees.specs.Questions.{IsShallow, IsShallowInstance, Question, over}
use Rattle.flattened_units.specs.Units.{IsModuleMade, Reader, face_in, nested_face, no_face, no_leads, with_symbols}
use Rattle.module_meanings.specs.Following.{IsMeantSo}
use Rattle.module_meanings.specs.Premises.{IsBegunGivenBy, IsEndedGiven, IsExtendedFile, IsFileAt, IsModuleGiven}
use Rattle.module_meanings.proofs.Modules.{module-means, module-meant}

abbrev at : ℕ → Lexeme
at from = record { kind = LexKind.Name; span = record { start = from; end = from + 1 }; line = 0; col = from }

abbrev node : Form.the_data → ℕ → Trees → Tree
node form from parts = Node form (record { start = from; end = from + 1 }) parts

-- F == 1
abbrev number : Tree
number = node (Form.Number (at 3)) 3 Nil

abbrev parts : Trees
parts = Cons number Nil

abbrev defining : Tree
defining = node (Form.OperatorDefinition (at 2)) 2 parts

-- I == INSTANCE N
abbrev instances : Trees
instances = Cons (node (Form.Instance (at 5)) 5 Nil) Nil

abbrev instancing : Tree
instancing = node (Form.ModuleDefinition (at 4)) 4 instances

abbrev begins : UnitTree
begins = ModuleBegin (at 1) (at 1) []

abbrev defines : UnitTree
defines = OperatorDefinition None defining

abbrev ends : UnitTree
ends = ModuleEnd (at 1)

abbrev names : UnitTree
names = ModuleDefinition None instancing

-- MODULE M | MODULE N | F == 1 | end | I == INSTANCE N, its names alone and the number
abbrev pub source : List ℕ
source = codes "MNF1IN"

abbrev pub units : ModuleUnits
units = record { name = at 0; extends = []; units = begins ∷ (defines ∷ (ends ∷ (names ∷ []))) }

abbrev text : Text
text = text_of source units

abbrev words : List ℕ
words = words_of units

abbrev pub outsides : List ℕ → Outside
outsides name = no_module

abbrev pub files : List ℕ → FlatFace
files name = no_face

abbrev pub means : ℕ → Option Meaning
means from = None

abbrev pub implied : ℕ → List Meaning
implied from = []

-- the number, F over it, and the instance
abbrev pub flat : FlatModule
flat = record {
  nodes = constant_node ∷ [];
  definitions = record { outer = 0; root = 0 } ∷ [];
  instances = record { outer = 0; parameters = 0; guards = true; replacements = [] } ∷ [];
}

pub ordered : IsOrdered flat
ordered zero n is = let same : constant_node ≡ n = cc in subst (IsMadeOfEarlier flat 0) same (record { parts = tt; uses = tt })
ordered (suc i) n is = cc is

-- ---- states and readers

abbrev state0 : KindState
state0 = first outsides source units

abbrev state1 : KindState
state1 = after text outsides words state0 begins

abbrev state2 : KindState
state2 = after text outsides words state1 defines

abbrev state3 : KindState
state3 = after text outsides words state2 ends

abbrev setting0 : Setting
setting0 = record { leads = with_symbols no_leads [] 0; frame = []; olds = [] }

abbrev reader0 : Reader
reader0 = record { setting = setting0; round = []; faces = first_scope text.file }

abbrev setting1 : Setting
setting1 = record { leads = with_symbols setting0.leads [] 0; frame = []; olds = [] }

abbrev reader1 : Reader
reader1 = record { setting = setting1; round = setting0 ∷ []; faces = begun reader0.faces (codes "N") }

abbrev setting2 : Setting
setting2 = behind text setting1 defining (only (end.Definition 0))

abbrev reader2 : Reader
reader2 = record reader1 { setting = setting2 }

abbrev face : FlatFace
face = nested_face flat text means implied files outsides words state2 state0.read.place.here setting2 setting0

abbrev reader3 : Reader
reader3 = record { setting = setting0; round = []; faces = ended face reader2.faces.here reader2.faces.round }

abbrev pub reader4 : Reader
reader4 = record reader3 { setting = behind text setting0 instancing (behind_instance 0 face) }

-- ---- the nodes

abbrev number_asked : List Question
number_asked = asked_at text means implied (face_in flat text means implied files outsides words reader1.faces) flat (with_parameters text setting1 (Form.OperatorDefinition (at 2)) parts) 0 (Form.Number (at 3)) (record { start = 3; end = 4 }) Nil ++ []

abbrev defined_asked : List Question
defined_asked = over [] (IsShallow (at 2) 0 ∷ []) ++ (number_asked ++ [])

abbrev named_asked : List Question
named_asked = over [] (IsShallowInstance (at 4) 0 ∷ []) ++ ([] ++ [])

abbrev pub asked : List Question
asked = [] ++ (defined_asked ++ ([] ++ (named_asked ++ [])))

abbrev pub made : IsModuleMade flat means implied files outsides source units [] reader4 asked
made = (
  setting0.leads,
  refl,
  (
    reader1,
    [],
    defined_asked ++ ([] ++ (named_asked ++ [])),
    (([], setting1.leads, (refl, refl)), refl),
    (
      reader2,
      defined_asked,
      [] ++ (named_asked ++ []),
      (
        only (end.Definition 0),
        0 ∷ [],
        (0 ∷ [], 0, 0, number_asked ++ [], (0 ∷ [], [], number_asked, [], refl, refl, (0, refl, ([], [], (refl, refl), refl, refl)), (refl, refl)), refl, refl, refl, refl, refl),
        refl,
      ),
      (
        reader3,
        [],
        named_asked ++ [],
        ((refl, refl), refl),
        (
          reader4,
          named_asked,
          [],
          (behind_instance 0 face, [], ([], 0, [], [], (refl, refl, refl), ([], [], refl, tt, (refl, refl)), refl, refl), refl),
          (refl, refl),
          refl,
        ),
        refl,
      ),
      refl,
    ),
    refl,
  ),
)

-- ---- what is asked

-- the module names mean the same to what is read of names and of levels
same-modules : (title : List ℕ)
    → exports_under (exports_by (views text outsides words)) (module_meaning (inside state0.read.place.here.modules (codes "N")) title) title
    ≡ exported (named_in text outsides words (begun state0.modules (codes "N")) title).view
same-modules title = by_names (bytes_eq title (codes "M")) (bytes_eq title (codes "N"))
  where
    by_names : (a b : Bool) → exports_under (exports_by (views text outsides words)) (cond a (Some None) (cond b (Some None) None)) title ≡ exported (module_under outsides (cond a (Some None) (cond b (Some None) None)) title).view
    by_names true b = refl
    by_names false true = refl
    by_names false false = refl

begun-given : (symbols : List Meaning) → [] ≡ symbols → IsBegunGivenBy flat text means implied files outsides words (IsExtendedFile flat text means implied files outsides words) state0 reader0 symbols (at 1) (at 1) []
begun-given symbols e =
    subst (λ (ms : List Meaning). IsBegunGivenBy flat text means implied files outsides words (IsExtendedFile flat text means implied files outsides words) state0 reader0 ms (at 1) (at 1) []) e
    (record { new = tt; extended = record { each = tt; others = λ name m is none. inr (name, is) }; same = same-modules })

abbrev f : Meaning
f = Declared (entity.Definition []) (own text (at 2))

ended-given : IsEndedGiven flat text means implied files outsides words state2 reader2 setting0 []
ended-given =
    record {
      once = ((tt, tt), tt);
      distinct = tt;
      apart = λ m is. cc is;
      usable = λ name m found behind. by_name name m (same_named name (Word (codes "F"))) refl found;
    }
  where
    by_name : (name : Named) (m : Meaning) (b : Bool) → same_named name (Word (codes "F")) ≡ b → cond b (Some f) None ≡ Some m → meaning_of state2.read.place.here.context name ≡ Some m
    by_name name m true is found =
        let named : name ≡ Word (codes "F") = named-equal name (Word (codes "F")) is in
        let same : f ≡ m = cc found in
        subst (λ n. meaning_of state2.read.place.here.context name ≡ Some n) same (ap (meaning_of state2.read.place.here.context) named)
    by_name name m false is found = cc found

-- N can be named behind its end
nested-named : (new : Meaning → Bool) (name : List ℕ) → bytes_eq name (codes "N") ≡ true → IsFileAt flat text means implied files outsides words state3 reader3 new name
nested-named new name is =
    subst (λ (n : List ℕ). IsFileAt flat text means implied files outsides words state3 reader3 new n) (sym ((bytes_eq-Decides name (codes "N")).0 is)) (λ m. inr refl)

pub given : IsModuleGiven flat means implied files outsides source units [] reader4 asked made
given =
    record {
      extended = record { each = tt; others = λ name m is none. inr (name, is) };
      given = (
        ((λ m is. inl tt), tt),
        (λ symbols e. begun-given symbols e),
        (
          (tt, tt),
          record { given = record { fresh = (refl, tt); nameable = λ name. false; names = (tt, ((tt, tt), tt)); faces = λ name can. absurd (cc can) }; readable = (refl, (refl, tt), ((refl, refl), tt)) },
          (
            (tt, ended-given),
            tt,
            (
              (tt, tt),
              record {
                given = record { fresh = (refl, tt); nameable = λ name. bytes_eq name (codes "N"); names = (tt, ((refl, tt), tt)); faces = λ name can. nested-named _ name can };
                readable = (refl, refl, (record { parameters = refl; constant = refl }, refl, tt));
              },
              tt,
            ),
          ),
        ),
      );
      ends = refl;
    }

-- so the flat module means it
pub means-module : IsMeantSo flat outsides source units [] reader4
means-module =
    module-means flat ordered means implied files outsides source units [] reader4
    (module-meant flat ordered means implied files outsides source units [] reader4 asked made given)
