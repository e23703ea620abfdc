-- Trees that lexemes derive are arranged as they are written, for whatever holds of all module definitions in them.
use Rattle.std.proofs.Common.{ℕ, List, Option}
use Rattle.std.specs.List.{AllByRecursion}
use Rattle.list_laws.proofs.Lists.{all-weaker}
use Rattle.tla_symbols.specs.declared.lexeme.Lexeme.{Lexeme}
use Rattle.tla_tree.specs.Syntax.{Tree}
use Rattle.tla_tree.specs.Derivation as d
use Rattle.unit_grammar.specs.Units.{ModuleUnits}
use Rattle.front_laws.specs.Fronts.{IsFront, Tree as TreeFront}
use Rattle.flattened_depths.specs.Arranged.{IsArranged, IsArrangedDefinition}
use Rattle.grammar_shapes.specs.Instances.{HoldsThrough}
use Rattle.grammar_shapes.specs.Units.{IsArrangedUnit, IsArrangedWith}
use Rattle.grammar_shapes.proofs.Trees.{definition-in, expression-in, instance-in}
use Rattle.grammar_shapes.proofs.Units.{IsGood, front-good}

module _ (holds : Lexeme → Lexeme → Type 0) where
  -- an expression
  pub expression-arranged : (x : Tree) (a : List Lexeme) (inner : ℕ) (next : Option Lexeme) → d.Derives x a inner next → HoldsThrough holds x → IsArranged holds x
  expression-arranged x a inner next derives = (expression-in holds derives).arranged

  -- a definition
  pub definition-arranged : (x : Tree) (a : List Lexeme) (inner : ℕ) (next : Option Lexeme) → d.DerivesDefinition x a inner next → HoldsThrough holds x → IsArrangedDefinition holds x
  definition-arranged x a inner next derives = (definition-in holds derives).arranged

  -- an INSTANCE
  pub instance-arranged : (x : Tree) (a : List Lexeme) (inner : ℕ) (next : Option Lexeme) → d.DerivesInstance x a inner next → HoldsThrough holds x → IsArrangedWith holds x
  instance-arranged x a inner next derives = (instance-in holds derives).arranged

  -- the trees of each unit of a module that is the front of some bytes
  pub front-arranged : (name bytes : List ℕ) (found : ModuleUnits) → IsFront name bytes (TreeFront found) → AllByRecursion (IsArrangedUnit holds) found.units
  front-arranged name bytes found front = all-weaker (IsGood holds) (IsArrangedUnit holds) (λ unit good. good.arranged) found.units (front-good holds name bytes found front)
