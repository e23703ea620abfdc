-- The lexemes that a module holds are among those that it derives.
use Rattle.std.proofs.Common.{◌≡◌, ℕ, ◌<◌, ◌^◌, List, [], ◌∷◌, ◌++◌, Option, length, arith, append_assoc, refl, sym, ap, ◌∙◌, subst}
use Rattle.std.specs.List.{AllByRecursion}
use Rattle.tla_symbols.specs.declared.lexeme.Lexeme.{Lexeme}
use Rattle.tla_tree.specs.declared.form.Form.TheVariants as Form
use Rattle.tla_tree.specs.declared.unit.ModuleTree.{ModuleTree}
use Rattle.tla_tree.specs.Syntax.{Tree, Node}
use Rattle.unit_grammar.specs.Units.{UnitTree, ModuleEnd, ModuleUnits, defined}
use Rattle.unit_grammar.specs.UnitNodes.{module_of}
use Rattle.unit_grammar.specs.Derivation as d
use Rattle.tla_model.specs.Entities.{declaring}
use Rattle.tla_model.specs.Lexemes.{lexemes, unit_lexemes, units_lexemes, module_lexemes, LiesIn, LexemesLie}
use Rattle.front_laws.specs.Fronts.{Tree as Whole, IsFrontOfLexemes, whole, IsTree, IsReadFront}
use Rattle.front_laws.proofs.Held.{IsHeld, none, itself, other, next, both, before, after, last}
use Rattle.front_laws.proofs.HeldTrees.{expression-in, definition-in, instance-in, parameters-in}
use Rattle.front_laws.proofs.FewNames.{declaring-few}

units-append : (us vs : List UnitTree) → units_lexemes (us ++ vs) ≡ units_lexemes us ++ units_lexemes vs
units-append [] vs = refl
units-append (u ∷ us) vs = ap (λ z. unit_lexemes u ++ z) (units-append us vs) ∙ sym (append_assoc (unit_lexemes u) (units_lexemes us) (units_lexemes vs))

lexemes-defined : (before : Option Lexeme) (x : Tree) → unit_lexemes (defined before x) ≡ lexemes x
lexemes-defined before (Node (Form.FunctionDefinition n) s parts) = refl
lexemes-defined before (Node (Form.ModuleDefinition n) s parts) = refl
lexemes-defined before (Node _ s parts) = refl

module _ {P : Lexeme → Type 0} where
  names-spelled : {names a : List Lexeme} → d.SpellsNames names a → IsHeld P names a
  names-spelled (d.last_name {n = n} k) = itself n
  names-spelled (d.more_names {n = n} {t = t} k l ns) = next n (other t (names-spelled ns))

  -- the name of a module and the names that it extends
  head-in : {dashes n : Lexeme} {names a : List Lexeme} → d.BeginsModule dashes n names a → IsHeld P (n ∷ names) a
  head-in (d.alone {n = n} t w k e) = other _ (other _ (next n none))
  head-in (d.extending {n = n} t w k e x ns) = other _ (other _ (next n (other _ (other _ (names-spelled ns)))))

  defined-in : (local : Option Lexeme) (x : Tree) {a : List Lexeme} → IsHeld P (lexemes x) a → IsHeld P (units_lexemes (defined local x ∷ [])) a
  defined-in local x {a = a} w = last (subst (λ z. IsHeld P z a) (sym (lexemes-defined local x)) w)

  units-both : (us vs : List UnitTree) {a b : List Lexeme} → IsHeld P (units_lexemes us) a → IsHeld P (units_lexemes vs) b → IsHeld P (units_lexemes (us ++ vs)) (a ++ b)
  units-both us vs {a = a} {b = b} w v = subst (λ z. IsHeld P z (a ++ b)) (sym (units-append us vs)) (both w v)

  mutual
    unit-in : {units : List UnitTree} {a : List Lexeme} {t : Lexeme} → d.DerivesUnit units a t → IsHeld P (units_lexemes units) a
    unit-in (d.variables k ns) = other _ (last (names-spelled ns))
    unit-in (d.constants k ns) = other _ (last (parameters-in ns))
    unit-in (d.definition {before = local} {x = x} {a = a} l x') = defined-in local x (after a (definition-in x'))
    unit-in (d.instance {a = a} l x') = last (after a (instance-in x'))
    unit-in (d.assumption k x) = other _ (last (expression-in x))
    unit-in (d.theorem k x) = other _ (last (expression-in x))
    unit-in (d.line k m) = none
    unit-in (d.nested {units = units} e k ds m) = both (head-in k) (units-both units (ModuleEnd e ∷ []) (units-in ds) none)

    units-in : {units : List UnitTree} {a : List Lexeme} {t : Lexeme} → d.DerivesUnits units a t → IsHeld P (units_lexemes units) a
    units-in d.no_units = none
    units-in (d.more_units {unit = unit} {units = units} u us) = units-both unit units (unit-in u) (units-in us)

  module-in : {found : ModuleUnits} {a : List Lexeme} → d.DerivesModule found a → IsHeld P (module_lexemes found) a
  module-in (d.outermost {b = b} c k us m) = both (head-in k) (before (c ∷ []) (units-in us))

-- ---- of a tree that was read

same-module : (tree : ModuleTree) (found : ModuleUnits) (text : List ℕ) → IsTree tree found text → module_of tree ≡ found
same-module tree found text h = rw (h.name, h.extends, h.units.are) refl

derives-read : (name text : List ℕ) (lexemes : List Lexeme) (tree : ModuleTree) → IsReadFront name text lexemes tree → d.DerivesModule (module_of tree) lexemes
derives-read name text lexemes tree r = subst (λ found. d.DerivesModule found lexemes) (sym (same-module tree r.0 text r.2)) (by r.1)
  where
    by : IsFrontOfLexemes name text lexemes (Whole r.0) → d.DerivesModule r.0 lexemes
    by (whole derives low spelled) = derives

pub read-lie : (name text : List ℕ) (lexemes : List Lexeme) (tree : ModuleTree) → IsReadFront name text lexemes tree → AllByRecursion (LiesIn text) lexemes → LexemesLie text (module_of tree)
read-lie name text lexemes tree r all =
    let held : IsHeld (LiesIn text) (module_lexemes (module_of tree)) lexemes = module-in (derives-read name text lexemes tree r) in
    held.holds all

pub read-few : (name text : List ℕ) (lexemes : List Lexeme) (tree : ModuleTree) → IsReadFront name text lexemes tree → length lexemes < 2 ^ 32 → length (declaring (module_of tree).units) < 2 ^ 32
read-few name text lexemes tree r few =
    let held : IsHeld (LiesIn text) (module_lexemes (module_of tree)) lexemes = module-in (derives-read name text lexemes tree r) in
    omega (arith, held.few, few, declaring-few (module_of tree))
