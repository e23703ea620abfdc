-- The lexemes of the units of a module.
use Rattle.std.proofs.Common.{◌≡◌, List, [], ◌∷◌, subst, sym}
use Rattle.std.specs.Prelude.{map}
use Rattle.std.specs.List.{AllByRecursion}
use Rattle.list_laws.proofs.Lists.{all-left, all-right}
use Rattle.tla_symbols.specs.declared.lexeme.Lexeme.{Lexeme}
use Rattle.tla_tree.specs.declared.unit.ModuleTree.{ModuleTree}
use Rattle.tla_tree.specs.declared.unit.Unit.TheVariants as unit
use Rattle.tla_model.specs.Lexemes.{module_lexemes, unit_lexemes, units_lexemes}
use Rattle.unit_grammar.specs.UnitNodes.{module_of, unit_at}

abbrev Unit : Type 0
Unit = unit.the_data

-- the units of a module hold lexemes of it
pub units-lie : (P : Lexeme → Type 0) (tree : ModuleTree) (units : List Unit) → units ≡ tree.units → AllByRecursion P (module_lexemes (module_of tree)) → AllByRecursion (λ (x : Unit). AllByRecursion P (unit_lexemes (unit_at tree.tree x))) units
units-lie P tree units is lie = subst (AllByRecursion (λ (x : Unit). AllByRecursion P (unit_lexemes (unit_at tree.tree x)))) (sym is) (each tree.units (all-right P tree.extends (units_lexemes (map (unit_at tree.tree) tree.units)) lie.1))
  where
    each : (xs : List Unit) → AllByRecursion P (units_lexemes (map (unit_at tree.tree) xs)) → AllByRecursion (λ (x : Unit). AllByRecursion P (unit_lexemes (unit_at tree.tree x))) xs
    each [] all = tt
    each (x ∷ xs) all = (all-left P (unit_lexemes (unit_at tree.tree x)) (units_lexemes (map (unit_at tree.tree) xs)) all, each xs (all-right P (unit_lexemes (unit_at tree.tree x)) (units_lexemes (map (unit_at tree.tree) xs)) all))
