-- A small module and one that extends it, with a flat module that is built along both.
use Rattle.std.proofs.Common.{◌≡◌, ℕ, zero, suc, ◌+◌, ◌<◌, Bool, true, false, cond, List, [], ◌∷◌, ◌++◌, None, if◌then◌else◌, nat_eq, refl, sym, ap, ◌∙◌, subst, length, take, arith}
use Rattle.std.specs.Prelude.{codes}
use Rattle.std.specs.Str.{bytes_eq}
use Rattle.tla_symbols.specs.declared.lexeme.LexKind.{LexKind}
use Rattle.tla_symbols.specs.declared.lexeme.Lexeme.{Lexeme}
use Rattle.tla_tree.specs.declared.form.Form.TheVariants as Form
use Rattle.tla_tree.specs.Lexemes.{one}
use Rattle.tla_tree.specs.Syntax.{Tree, Trees, Node, Nil}
use Rattle.unit_grammar.specs.Units.{UnitTree, Constants, OperatorDefinition, ModuleUnits}
use Rattle.tla_model.specs.declared.entity.Entity.TheVariants as entity
use Rattle.tla_model.specs.declared.names.Meaning.TheVariants.{Declared}
use Rattle.tla_model.specs.Tables.{Word}
use Rattle.tla_model.specs.Entities.{Meaning, Text, own}
use Rattle.module_model.specs.Exports.{Known}
use Rattle.module_model.specs.Modules.{text_of}
use Rattle.kind_text.specs.FlatModule.{FlatModule, Form as NodeForm, Instance, IsMadeOfEarlier, IsOrdered}
use Rattle.kind_text.specs.Expansion.{text as text_at}
use Rattle.kind_text.specs.Substitution.{Item, at as item_at}
use Rattle.tree_kinds.specs.Standing.{Outside}
use Rattle.tree_kinds.specs.Expanding.{Around, defined_value}
use Rattle.module_kinds.specs.ModuleKinds.{KindState, after, first, known_at, named, nowhere, outside}
use Rattle.flat_trees.specs.Stands.{Fits, Stand, Unsaid, Place, Defined, defined_text}
use Rattle.flat_trees.specs.Layouts.{Stands, with_stands}
use Rattle.flat_trees.specs.Instances.{StaysIn, symbols_of}
use Rattle.flat_trees.proofs.Instances.{parameter-stays}
use Rattle.flat_kinds.specs.Declarations.{AreSymbols, AreUnitsDeclared, Declarations}
use Rattle.flat_kinds.specs.Readings.{Extension}
use Rattle.flat_kinds.specs.Modules.{Stands as Behind, Current, IsBuiltAlong, first_current, here_behind, module_stands}
use Rattle.flat_kinds.specs.Symbols.{same_symbol, symbols_at}
use Rattle.flat_kinds.proofs.Distinct.{module-symbols}
use Rattle.flat_kinds.proofs.Modules.{module-read}

abbrev at : ℕ → Lexeme
at from = record { kind = LexKind.Name; span = record { start = from; end = from + 1 }; line = 0; col = from }

abbrev node : Form.the_data → ℕ → Trees → Tree
node form from parts = Node form (record { start = from; end = from + 1 }) parts

-- c, and F == c
abbrev constant_unit : UnitTree
constant_unit = Constants (one (node (Form.Name (at 1)) 1 Nil))

abbrev definition_tree : Tree
definition_tree = node (Form.OperatorDefinition (at 2)) 2 (one (node Form.Identifier 3 (one (node (Form.Segment (at 3)) 3 Nil))))

-- M: CONSTANT c | F == c
abbrev source : List ℕ
source = codes "McFc"

abbrev units : ModuleUnits
units = record { name = at 0; extends = []; units = constant_unit ∷ OperatorDefinition None definition_tree ∷ [] }

abbrev no_files : List ℕ → Outside
no_files file = nowhere

abbrev text : Text
text = text_of source units

abbrev c : Meaning
c = Declared (entity.Constant 0) (own text (at 1))

abbrev f : Meaning
f = Declared (entity.Definition []) (own text (at 2))

-- to extend M lets its symbol stay
abbrev instance : Instance
instance = record { outer = 1; parameters = 0; guards = false; replacements = record { root = 0; most = None } ∷ [] }

-- c is the symbol at the first place, and F the first definition
abbrev flat : FlatModule
flat = record {
  nodes = record { form = NodeForm.Parameter 0; places = None; parts = [] } ∷ [];
  definitions = record { outer = 1; root = 0 } ∷ [];
  instances = instance ∷ [];
}

abbrev symbols : Meaning → Stand
symbols = symbols_at (λ (meaning : Meaning). Unsaid) (c ∷ []) 0

abbrev begins : Current
begins = first_current no_files source units symbols 1 []

abbrev declared : Current
declared = here_behind text no_files [] (first no_files source units) begins [] constant_unit (Behind symbols)

abbrev stands : Meaning → Stand
stands = with_stands symbols (f ∷ []) (Defined 0 [])

ordered : IsOrdered flat
ordered zero n is = let same : (record { form = NodeForm.Parameter 0; places = None; parts = [] }) ≡ n = cc in subst (IsMadeOfEarlier flat 0) same (record { parts = tt; uses = tt })
ordered (suc i) n is = cc is

-- the first node is the first item
first-node : (s : List Item) → text_at flat 0 s ≡ item_at s 0
first-node = parameter-stays flat (record { root = 0; most = None }) (record { form = NodeForm.Parameter 0; places = None; parts = [] }) 0 ordered refl refl

-- F stands for what it gives
value : (known : Known) (named : List ℕ → Outside) (around : Around) (x : Item) → around.context ≡ declared.layout.context → around.standing c [] [] ≡ x.text → defined_value text known named around definition_tree [] [] ≡ x.text
value known named around x context is = subst (λ z. defined_value text known named (record { context = z; standing = around.standing; old = around.old }) definition_tree [] [] ≡ x.text) (sym context) is

gives : (known : Known) (named : List ℕ → Outside) → Stands flat declared.layout (Defined 0 []) (λ around. defined_value text known named around definition_tree)
gives known named [] around agrees = absurd (omega (arith, agrees.places))
gives known named (x ∷ more) around agrees =
    let there : (0 < length (x ∷ more)) × (around.standing c [] [] ≡ x.text) = agrees.standing c in
    (record { outer = 1; root = 0 }, refl, there.0, on there.1)
  where
    on : around.standing c [] [] ≡ x.text → (made arguments : List Item) → Fits [] made arguments → defined_value text known named around definition_tree arguments [] ≡ defined_text flat (record { outer = 1; root = 0 }) (x ∷ more) [] made
    on is [] [] fits = value known named around x agrees.context is ∙ sym (ap (λ (y : Item). y.text) (first-node (take 1 (x ∷ more) ++ [])))
    on is [] (y ∷ ys) fits = absurd fits
    on is (z ∷ zs) ys fits = absurd fits

abbrev behind : Current
behind = here_behind text no_files [] (after text no_files [] (first no_files source units) constant_unit) declared [] (OperatorDefinition None definition_tree) (Behind stands)

-- the flat module is built along it
built : IsBuiltAlong no_files source units flat symbols 1 [] (Behind symbols ∷ Behind stands ∷ []) behind
built =
    let state : KindState = after text no_files [] (first no_files source units) constant_unit in
    record {
      extended = tt;
      read = ((refl, tt), (((Defined 0 [], gives (known_at text no_files [] state (OperatorDefinition None definition_tree)) (named text no_files [] state), refl), tt), refl));
    }

-- its names are declared at their places, and c is its symbol
abbrev declares : Declarations
declares decl = if nat_eq decl.place 0 then (Word (codes "c"), entity.Constant 0) else (Word (codes "F"), entity.Definition [])

names-declared : AreUnitsDeclared declares text units.units
names-declared = ((refl, tt), ((refl, tt), tt))

its-symbols : symbols_of (outside no_files source units) ≡ c ∷ []
its-symbols = refl

symbols-declared : AreSymbols declares (symbols_of (outside no_files source units))
symbols-declared = module-symbols declares no_files source units (λ name. tt) names-declared

-- N: EXTENDS M
abbrev files : List ℕ → Outside
files name = if bytes_eq name (codes "M") then outside no_files source units else nowhere

abbrev extending : ModuleUnits
extending = record { name = at 0; extends = at 1 ∷ []; units = [] }

abbrev extension : Extension
extension = record { number = 0; instance = instance; symbols = symbols; places = 1; inner = module_stands no_files source units behind.layout }

stays : (meaning : Meaning) → StaysIn flat instance.replacements (symbols meaning) (symbols meaning)
stays meaning = by_symbol (same_symbol meaning c)
  where
    by_symbol : (b : Bool) → StaysIn flat instance.replacements (cond b (Place 0 0) Unsaid) (cond b (Place 0 0) Unsaid)
    by_symbol true = (record { root = 0; most = None }, 0, refl, first-node, refl)
    by_symbol false = tt

-- and along the module that extends it
extending-built : IsBuiltAlong files (codes "NM") extending flat symbols 1 (extension ∷ []) [] (first_current files (codes "NM") extending symbols 1 (extension ∷ []))
extending-built = record {
  extended = (
    record {
      made = record { there = refl; outer = refl; parameters = refl; guards = refl };
      many = refl;
      kept = module-read flat no_files source units symbols 1 [] (Behind symbols ∷ Behind stands ∷ []) behind built;
      stays = stays;
    },
    tt,
  );
  read = refl;
}
