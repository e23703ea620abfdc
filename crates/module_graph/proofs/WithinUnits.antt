-- What a module needs stands in its lexemes in their order, and so do the names that are compared.
use Rattle.std.proofs.Common.{◌≡◌, ℕ, List, [], ◌∷◌, ◌++◌, refl, sym, subst}
use Rattle.std.specs.Prelude.{⊤, Option, None}
use Rattle.std.specs.List.{AllByRecursion}
use Rattle.tla_symbols.specs.declared.lexeme.Lexeme.{Lexeme}
use Rattle.tla_tree.specs.declared.form.Form.TheVariants as Form
use Rattle.tla_tree.specs.Syntax.{Tree, Node}
use Rattle.unit_grammar.specs.Units.{UnitTree, Instance, Assumption, Theorem, ModuleEnd, ModuleUnits, defined}
use Rattle.unit_grammar.specs.Derivation as d
use Rattle.tla_model.specs.ModuleNames.{module_names, instances}
use Rattle.list_laws.proofs.Lists.{all-both, all-left, all-right}
use Rattle.tla_model.specs.Lexemes.{spelled}
use Rattle.module_scope.specs.Environments.{Scope, begun, first}
use Rattle.module_scope.specs.Imports.{imports_from, imports_of, is_needed}
use Rattle.module_graph.specs.Imports.{compared, LiesIn, AreNamesPlaced}
use Rattle.module_graph.specs.Within.{IsWithin, none, other, next}
use Rattle.module_graph.proofs.Within.{after, both, before, last, filtered, all-within}
use Rattle.module_graph.proofs.WithinTrees.{expression-in, definition-in, instance-in}
use Rattle.module_graph.proofs.Passing.{scope_after, imports-append}

names-spelled : {names a : List Lexeme} → d.SpellsNames names a → IsWithin names a
names-spelled (d.last_name n) = next _ none
names-spelled (d.more_names n t ns) = next _ (other _ (names-spelled ns))

-- the name of a module and the names that it extends
head-in : {dashes n : Lexeme} {names a : List Lexeme} → d.BeginsModule dashes n names a → IsWithin (n ∷ names) a
head-in (d.alone t w n e) = other _ (other _ (next _ none))
head-in (d.extending t w n e x ns) = other _ (other _ (next _ (other _ (other _ (names-spelled ns)))))

extends-in : {dashes n : Lexeme} {names a : List Lexeme} → d.BeginsModule dashes n names a → IsWithin names a
extends-in (d.alone t w n e) = none
extends-in (d.extending t w n e x ns) = other _ (other _ (other _ (other _ (other _ (names-spelled ns)))))

names-defined : (before : Option Lexeme) (x : Tree) → module_names (defined before x) ≡ instances x
names-defined before (Node (Form.FunctionDefinition n) s parts) = refl
names-defined before (Node (Form.ModuleDefinition n) s parts) = refl
names-defined before (Node _ s parts) = refl

defined-in : (before : Option Lexeme) (x : Tree) {a : List Lexeme} → IsWithin (instances x) a → IsWithin (module_names (defined before x)) a
defined-in before x {a = a} w = subst (λ z. IsWithin z a) (sym (names-defined before x)) w

module _ (text outermost : List ℕ) where
  -- of one unit
  needed-in : (scope : Scope ⊤) (unit : UnitTree) {a : List Lexeme} → IsWithin (module_names unit) a → IsWithin (imports_from text outermost scope (unit ∷ [])) a
  needed-in scope unit w = last (filtered _ w)

  mutual
    unit-in : {units : List UnitTree} {a : List Lexeme} {t : Lexeme} → d.DerivesUnit units a t → (scope : Scope ⊤) → IsWithin (imports_from text outermost scope units) a
    unit-in (d.variables k ns) scope = none
    unit-in (d.constants k ns) scope = none
    unit-in (d.definition {before} {x} {a} {b} l x') scope = after a (needed-in scope (defined before x) (defined-in before x (definition-in x')))
    unit-in (d.instance {before} {x} {a} {b} l x') scope = after a (needed-in scope (Instance before x) (instance-in x'))
    unit-in (d.assumption {w} {x = x} k x') scope = other w (needed-in scope (Assumption w None x) (expression-in x'))
    unit-in (d.theorem {w} {x = x} k x') scope = other w (needed-in scope (Theorem w None x) (expression-in x'))
    unit-in (d.line k m) scope = none
    unit-in (d.nested {n} {names} {a} {b} {units} e k ds m) scope =
        let within : Scope ⊤ = begun scope (spelled text n) in
        both (filtered (is_needed text outermost within) (extends-in k))
        (subst (λ z. IsWithin z (b ++ e ∷ [])) (sym (imports-append text outermost within units (ModuleEnd e ∷ []))) (both (units-in ds within) none))

    units-in : {units : List UnitTree} {a : List Lexeme} {t : Lexeme} → d.DerivesUnits units a t → (scope : Scope ⊤) → IsWithin (imports_from text outermost scope units) a
    units-in d.no_units scope = none
    units-in (d.more_units {unit} {units} {a} {b} u us) scope =
        subst (λ z. IsWithin z (a ++ b)) (sym (imports-append text outermost scope unit units)) (both (unit-in u scope) (units-in us (scope_after text outermost scope unit)))

-- the needs of a module stand in its lexemes, in their order
pub imports-in : (text : List ℕ) (found : ModuleUnits) (lexemes : List Lexeme) → d.DerivesModule found lexemes → IsWithin (imports_of text found) lexemes
imports-in text _ _ (d.outermost {n} {names} {a} {b} {units} c k us m) = both (extends-in k) (before (c ∷ []) (units-in text (spelled text n) us (first (spelled text n))))

module _ (P : Lexeme → Type 0) where
  abbrev Compares : UnitTree → Type 0
  Compares unit = AllByRecursion P (compared unit)

  compared-defined : (before : Option Lexeme) (x : Tree) → compared (defined before x) ≡ instances x
  compared-defined before (Node (Form.FunctionDefinition n) s parts) = refl
  compared-defined before (Node (Form.ModuleDefinition n) s parts) = refl
  compared-defined before (Node _ s parts) = refl

  mutual
    unit-compares : {units : List UnitTree} {a : List Lexeme} {t : Lexeme} → d.DerivesUnit units a t → AllByRecursion P a → AllByRecursion Compares units
    unit-compares (d.variables k ns) all = (tt, tt)
    unit-compares (d.constants k ns) all = (tt, tt)
    unit-compares (d.definition {before} {x} {a} {b} l x') all = (subst (AllByRecursion P) (sym (compared-defined before x)) (all-within P (definition-in x') (all-right P a b all)), tt)
    unit-compares (d.instance {before} {x} {a} {b} l x') all = (all-within P (instance-in x') (all-right P a b all), tt)
    unit-compares (d.assumption w x) all = (all-within P (expression-in x) all.1, tt)
    unit-compares (d.theorem w x) all = (all-within P (expression-in x) all.1, tt)
    unit-compares (d.line k m) all = (tt, tt)
    unit-compares (d.nested {n} {names} {a} {b} {units} e k ds m) all =
        (all-within P (head-in k) (all-left P a (b ++ e ∷ []) all), all-both Compares units (ModuleEnd e ∷ []) (units-compare ds (all-left P b (e ∷ []) (all-right P a (b ++ e ∷ []) all))) (tt, tt))

    units-compare : {units : List UnitTree} {a : List Lexeme} {t : Lexeme} → d.DerivesUnits units a t → AllByRecursion P a → AllByRecursion Compares units
    units-compare d.no_units all = tt
    units-compare (d.more_units {unit} {units} {a} {b} u us) all = all-both Compares unit units (unit-compares u (all-left P a b all)) (units-compare us (all-right P a b all))

-- where the lexemes of a module lie in the text, the names that are compared do
pub names-lie : (text : List ℕ) (found : ModuleUnits) (lexemes : List Lexeme) → d.DerivesModule found lexemes → AllByRecursion (LiesIn text) lexemes → AreNamesPlaced text found
names-lie text _ _ (d.outermost {n} {names} {a} {b} {units} c k us m) all =
    record { name = (all-within (LiesIn text) (head-in k) (all-left (LiesIn text) a (b ++ c ∷ []) all)).0; units = units-compare (LiesIn text) us (all-left (LiesIn text) b (c ∷ []) (all-right (LiesIn text) a (b ++ c ∷ []) all)) }
