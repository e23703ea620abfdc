-- The trees of each unit that lexemes derive stand where they belong.
use Rattle.std.proofs.Common.{ℕ, List, [], ◌∷◌, Option}
use Rattle.std.specs.List.{AllByRecursion}
use Rattle.list_laws.proofs.Lists.{all-both}
use Rattle.tla_symbols.specs.declared.lexeme.Lexeme.{Lexeme}
use Rattle.tla_tree.specs.declared.form.Form.TheVariants as Form
use Rattle.tla_tree.specs.Syntax.{Tree, Node}
use Rattle.unit_grammar.specs.Units.{UnitTree, ModuleEnd, ModuleUnits, defined}
use Rattle.unit_grammar.specs.Derivation as d
use Rattle.front_laws.specs.Fronts.{IsFront, Tree as TreeFront, read, whole}
use Rattle.grammar_shapes.specs.Units.{IsArrangedUnit, IsShapedUnit}
use Rattle.grammar_shapes.proofs.Parts.{IsDefinition}
use Rattle.grammar_shapes.proofs.Trees.{definition-in, expression-in, instance-in}

module _ (holds : Lexeme → Lexeme → Type 0) where
  -- both are so
  pub record IsGood (unit : UnitTree) : Type 0 where
    pub shaped : IsShapedUnit unit
    pub arranged : IsArrangedUnit holds unit

  defined-good : (local : Option Lexeme) (x : Tree) → IsDefinition holds x → IsGood (defined local x)
  defined-good local (Node (Form.FunctionDefinition n) s parts) e = record { shaped = e.shaped; arranged = e.arranged }
  defined-good local (Node (Form.ModuleDefinition n) s parts) e = record { shaped = e.shaped; arranged = e.arranged }
  defined-good local (Node _ s parts) e = record { shaped = e.shaped; arranged = e.arranged }

  mutual
    unit-in : {units : List UnitTree} {a : List Lexeme} {t : Lexeme} → d.DerivesUnit units a t → AllByRecursion IsGood units
    unit-in (d.variables k ns) = (record { shaped = tt; arranged = tt }, tt)
    unit-in (d.constants k xs) = (record { shaped = tt; arranged = tt }, tt)
    unit-in (d.definition {before = local} {x = x} l y) = (defined-good local x (definition-in holds y), tt)
    unit-in (d.instance l x) = (record { shaped = (instance-in holds x).ends; arranged = (instance-in holds x).arranged }, tt)
    unit-in (d.assumption k x) = (record { shaped = (expression-in holds x).shaped; arranged = (expression-in holds x).arranged }, tt)
    unit-in (d.theorem k x) = (record { shaped = (expression-in holds x).shaped; arranged = (expression-in holds x).arranged }, tt)
    unit-in (d.line k m) = (record { shaped = tt; arranged = tt }, tt)
    unit-in (d.nested {units = units} e k us m) = (record { shaped = tt; arranged = tt }, all-both IsGood units (ModuleEnd e ∷ []) (units-in us) (record { shaped = tt; arranged = tt }, tt))

    units-in : {units : List UnitTree} {a : List Lexeme} {t : Lexeme} → d.DerivesUnits units a t → AllByRecursion IsGood units
    units-in d.no_units = tt
    units-in (d.more_units {unit = unit} {units = units} u us) = all-both IsGood unit units (unit-in u) (units-in us)

  module-in : {found : ModuleUnits} {a : List Lexeme} → d.DerivesModule found a → AllByRecursion IsGood found.units
  module-in (d.outermost c k us m) = units-in us

  pub front-good : (name bytes : List ℕ) (found : ModuleUnits) → IsFront name bytes (TreeFront found) → AllByRecursion IsGood found.units
  front-good name bytes found (read r l m (whole d h s)) = module-in d
