-- What is needed, unit by unit.
use Rattle.std.proofs.Common.{◌≡◌, ℕ, zero, suc, ◌<◌, List, [], ◌∷◌, length, get_or, ap, sym, subst, ◌∙◌, arith}
use Rattle.std.specs.Prelude.{map}
use Rattle.std.specs.List.{AllByRecursion}
use Rattle.tla_symbols.specs.declared.lexeme.Lexeme.{Lexeme}
use Rattle.tla_tree.specs.declared.unit.Unit.TheVariants as unit
use Rattle.tla_tree.specs.Arena.{Node}
use Rattle.unit_grammar.specs.Units.{UnitTree, Variables, Constants, OperatorDefinition, FunctionDefinition, ModuleDefinition, Instance, Assumption, Theorem, Line, ModuleBegin, ModuleEnd}
use Rattle.unit_grammar.specs.UnitNodes.{unit_at}
use Rattle.module_graph.specs.UnitNames.{begun_name}
use Rattle.tla_model.specs.ModuleNames.{module_names}
use Rattle.module_graph.specs.Imports.{LiesIn, compared}

-- what holds for all holds for the one at a place
all-at : {A : Type 0} (P : A → Type 0) (xs : List A) (i : ℕ) (x : A) → AllByRecursion P xs → i < length xs → x ≡ get_or xs i x → P x
all-at P [] i x all there is = absurd (omega (arith, there))
all-at P (y ∷ xs) zero x all there is = subst P (sym is) all.0
all-at P (y ∷ xs) (suc i) x all there is = all-at P xs i x all.1 (omega (arith, there)) is

all-map : {A B : Type 0} (P : B → Type 0) (f : A → B) (xs : List A) → AllByRecursion P (map f xs) → AllByRecursion (λ x. P (f x)) xs
all-map P f [] all = tt
all-map P f (x ∷ xs) all = (all.0, all-map P f xs all.1)

mapped-at : {A B : Type 0} (P : B → Type 0) (f : A → B) (xs : List A) (i : ℕ) (x : A) → AllByRecursion P (map f xs) → i < length xs → x ≡ get_or xs i x → P (f x)
mapped-at P f xs i x all there is = all-at (λ x. P (f x)) xs i x (all-map P f xs all) there is

-- the module names of a unit are among the names that are compared
pub names-compared : (P : Lexeme → Type 0) (unit : UnitTree) → AllByRecursion P (compared unit) → AllByRecursion P (module_names unit)
names-compared P (ModuleBegin dashes name extends) all = all.1
names-compared P (Variables names) all = all
names-compared P (Constants declarations) all = all
names-compared P (OperatorDefinition local x) all = all
names-compared P (FunctionDefinition local x) all = all
names-compared P (ModuleDefinition local x) all = all
names-compared P (Instance local x) all = all
names-compared P (Assumption word name x) all = all
names-compared P (Theorem word name x) all = all
names-compared P (Line dashes) all = all
names-compared P (ModuleEnd closing) all = all

begun-compared : (P : Lexeme → Type 0) (nodes : List Node) (u : unit.the_data) → AllByRecursion P (compared (unit_at nodes u)) → AllByRecursion P (begun_name u)
begun-compared P nodes (unit.ModuleBegin dashes name extends) all = (all.0, tt)
begun-compared P nodes (unit.Variables names) all = tt
begun-compared P nodes (unit.Constants declarations) all = tt
begun-compared P nodes (unit.OperatorDefinition local node) all = tt
begun-compared P nodes (unit.FunctionDefinition local node) all = tt
begun-compared P nodes (unit.ModuleDefinition local node) all = tt
begun-compared P nodes (unit.Instance local node) all = tt
begun-compared P nodes (unit.Assumption word name node) all = tt
begun-compared P nodes (unit.Theorem word name node) all = tt
begun-compared P nodes (unit.Line dashes) all = tt
begun-compared P nodes (unit.ModuleEnd closing) all = tt

-- the names of the unit at a place are placed
placed-at : (text text' : List ℕ) (nodes : List Node) (units items : List unit.the_data) (i : ℕ) (u : unit.the_data) → AllByRecursion (λ x. AllByRecursion (LiesIn text) (compared x)) (map (unit_at nodes) units) → text' ≡ text → items ≡ units → i < length items → u ≡ get_or items i u → AllByRecursion (LiesIn text') (compared (unit_at nodes u))
placed-at text text' nodes units items i u all source same there is =
    rw source (mapped-at (λ x. AllByRecursion (LiesIn text) (compared x)) (unit_at nodes) units i u all (rw (← same) there) (is ∙ ap (λ z. get_or z i u) same))

pub names-placed : (text text' : List ℕ) (nodes : List Node) (units items : List unit.the_data) (i : ℕ) (u : unit.the_data) (names : List Lexeme) → AllByRecursion (λ x. AllByRecursion (LiesIn text) (compared x)) (map (unit_at nodes) units) → text' ≡ text → items ≡ units → i < length items → u ≡ get_or items i u → names ≡ module_names (unit_at nodes u) → AllByRecursion (LiesIn text') names
names-placed text text' nodes units items i u names all source same there is are =
    rw are (names-compared (LiesIn text') (unit_at nodes u) (placed-at text text' nodes units items i u all source same there is))

pub begun-placed : (text text' : List ℕ) (nodes : List Node) (units items : List unit.the_data) (i : ℕ) (u : unit.the_data) → AllByRecursion (λ x. AllByRecursion (LiesIn text) (compared x)) (map (unit_at nodes) units) → text' ≡ text → items ≡ units → i < length items → u ≡ get_or items i u → AllByRecursion (LiesIn text') (begun_name u)
begun-placed text text' nodes units items i u all source same there is =
    begun-compared (LiesIn text') nodes u (placed-at text text' nodes units items i u all source same there is)
