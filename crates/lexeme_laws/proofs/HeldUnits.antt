-- What a module holds is among the lexemes that it derives.
use Rattle.std.proofs.Common.{◌≡◌, ◌+◌, List, [], ◌∷◌, ◌++◌, Option, Bool, arith}
use Rattle.tla_symbols.specs.declared.lexeme.Lexeme.{Lexeme}
use Rattle.tla_tree.specs.declared.form.Form.TheVariants as Form
use Rattle.tla_tree.specs.Syntax.{Tree, Node}
use Rattle.tla_model.specs.Lexemes.{lexemes, module_lexemes, unit_lexemes, units_lexemes}
use Rattle.unit_grammar.specs.Units.{UnitTree, ModuleEnd, ModuleUnits, defined}
use Rattle.unit_grammar.specs.Derivation as d
use Rattle.lexeme_laws.specs.Apart.{counted}
use Rattle.lexeme_laws.proofs.Counting.{Held, none, itself, other, next, both, before, behind, last, count-append}
use Rattle.lexeme_laws.proofs.HeldTrees.{definition-in, expression-in, instance-in, parameters-in}

module _ {p : Lexeme → Bool} where
  names-in : {names a : List Lexeme} → d.SpellsNames names a → Held p names a
  names-in (d.last_name k) = itself
  names-in (d.more_names {t = t} k l ns) = next (other t (names-in ns))

  begin-in : {e n : Lexeme} {names a : List Lexeme} → d.BeginsModule e n names a → Held p (n ∷ names) a
  begin-in (d.alone {d = d} {w = w} k l m o) = other d (other w (next none))
  begin-in (d.extending {d = d} {w = w} {e = e} {x = x} k l m o q ns) = other d (other w (next (other e (other x (names-in ns)))))

  defined-in : (local : Option Lexeme) (x : Tree) {a : List Lexeme} → Held p (lexemes x) a → Held p (unit_lexemes (defined local x)) a
  defined-in local (Node (Form.FunctionDefinition n) s parts) h = h
  defined-in local (Node (Form.ModuleDefinition n) s parts) h = h
  defined-in local (Node _ s parts) h = h

units-count : (p : Lexeme → Bool) (us vs : List UnitTree) → counted p (units_lexemes (us ++ vs)) ≡ counted p (units_lexemes us) + counted p (units_lexemes vs)
units-count p [] vs = omega arith
units-count p (u ∷ us) vs = omega (arith, count-append p (unit_lexemes u) (units_lexemes (us ++ vs)), count-append p (unit_lexemes u) (units_lexemes us), units-count p us vs)

module _ {p : Lexeme → Bool} where
  joined-in : (us vs : List UnitTree) {a b : List Lexeme} → Held p (units_lexemes us) a → Held p (units_lexemes vs) b → Held p (units_lexemes (us ++ vs)) (a ++ b)
  joined-in us vs {a} {b} w v = record { few = omega (arith, units-count p us vs, count-append p a b, w.few, v.few) }

  mutual
    unit-in : {units : List UnitTree} {a : List Lexeme} {t : Lexeme} → d.DerivesUnit units a t → Held p (units_lexemes units) a
    unit-in (d.variables {w = w} k ns) = other w (last (names-in ns))
    unit-in (d.constants {w = w} k xs) = other w (last (parameters-in xs))
    unit-in (d.definition {before = local} {x = x} {a = a} l y) = behind a (last (defined-in local x (definition-in y)))
    unit-in (d.instance {a = a} l x) = behind a (last (instance-in x))
    unit-in (d.assumption {w = w} k x) = other w (last (expression-in x))
    unit-in (d.theorem {w = w} k x) = other w (last (expression-in x))
    unit-in (d.line k m) = none
    unit-in (d.nested {units = units} e k us m) = both (begin-in k) (joined-in units (ModuleEnd e ∷ []) (units-in us) none)

    units-in : {units : List UnitTree} {a : List Lexeme} {t : Lexeme} → d.DerivesUnits units a t → Held p (units_lexemes units) a
    units-in d.no_units = none
    units-in (d.more_units {unit = unit} {units = units} u us) = joined-in unit units (unit-in u) (units-in us)

  pub module-in : {found : ModuleUnits} {a : List Lexeme} → d.DerivesModule found a → Held p (module_lexemes found) a
  module-in (d.outermost c k us m) = both (begin-in k) (before (c ∷ []) (units-in us))
