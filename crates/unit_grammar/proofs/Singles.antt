-- Units that begin and end no nested module.
use Rattle.std.proofs.Common.{◌≡◌, ℕ, suc, ◌+◌, ◌-◌, max, Bool, true, false, List, ◌∷◌, Option, refl, arith}
use Rattle.tla_symbols.specs.declared.lexeme.Lexeme.{Lexeme}
use Rattle.tla_tree.specs.declared.form.Form.TheVariants as Form
use Rattle.tla_tree.specs.Syntax.{Tree, Node}
use Rattle.unit_grammar.specs.Units.{UnitTree, ModuleBegin, ModuleEnd, defined}
use Rattle.unit_grammar.specs.Heights.{unit_height, highest_unit}

abbrev pub is_single : UnitTree → Bool
is_single (ModuleBegin dashes name extends) = false
is_single (ModuleEnd closing) = false
is_single _ = true

pub single-height : (u : UnitTree) → is_single u ≡ true → (inside : ℕ) (vs : List UnitTree) → highest_unit inside (u ∷ vs) ≡ max (inside + unit_height u) (highest_unit inside vs)
single-height (ModuleBegin dashes name extends) e inside vs = cc
single-height (ModuleEnd closing) e inside vs = cc
single-height _ e inside vs = refl

pub defined-single : (local : Option Lexeme) (x : Tree) → is_single (defined local x) ≡ true
defined-single local (Node (Form.FunctionDefinition n) s parts) = refl
defined-single local (Node (Form.ModuleDefinition n) s parts) = refl
defined-single local (Node _ s parts) = refl

-- one module less is open behind a nested one
pub one-less : (inside : ℕ) → suc inside - 1 ≡ inside
one-less inside = omega arith
