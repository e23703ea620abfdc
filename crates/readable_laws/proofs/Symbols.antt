-- Symbols at their places, from the table.
use Rattle.std.proofs.Common.{◌≡◌, ℕ, Bool, true, false, Option, Some, None, is_some, not, refl}
use Rattle.std.specs.Prelude.{IsTrue, nat_eq, ◌&&◌, ◌||◌}
use Rattle.std.proofs.Common.{if◌then◌else◌}
use Rattle.std.proofs.lemmas.Bool.{eqb-true}
use Rattle.tla_symbols.specs.declared.op.Op.TheVariants as Op
use Rattle.tla_symbols.specs.declared.place.Fix.TheVariants.{Prefix, Infix, Postfix}
use Rattle.tla_symbols.specs.declared.lexeme.LexKind.TheVariants as LexKind
use Rattle.tla_symbols.specs.Symbols.{is_definable, range_of, rule_of}
use Rattle.tla_model.specs.Scopes.{is_free, prefixed}
use Rattle.tree_kinds.specs.Expanding.{bare_rule, built_in_places}

-- what the table has: each test is passed by all symbols

prefix-table : (op : Op.the_data) → (is_some (rule_of op Prefix) || (not (is_some (range_of op Prefix)) || (is_free (prefixed op) && nat_eq (built_in_places (prefixed op)) 1))) ≡ true
prefix-table Op.Not = refl
prefix-table _ = refl

infix-table : (op : Op.the_data) → (is_some (rule_of op Infix) || (not (is_some (range_of op Infix)) || (is_free op && nat_eq (built_in_places op) 2))) ≡ true
infix-table Op.Not = refl
infix-table _ = refl

postfix-table : (op : Op.the_data) → (is_some (rule_of op Postfix) || (not (is_some (range_of op Postfix)) || (is_free op && nat_eq (built_in_places op) 1))) ≡ true
postfix-table Op.Not = refl
postfix-table _ = refl

bare-table : (op : Op.the_data) → (is_some (bare_rule (LexKind.Sym op)) || is_free op) ≡ true
bare-table Op.Not = refl
bare-table _ = refl

infix-places : (op : Op.the_data) → (not (is_definable op Infix) || nat_eq (built_in_places op) 2) ≡ true
infix-places Op.Not = refl
infix-places _ = refl

postfix-places : (op : Op.the_data) → (not (is_definable op Postfix) || nat_eq (built_in_places op) 1) ≡ true
postfix-places Op.Not = refl
postfix-places _ = refl

-- ---- what follows

from-table : {R : Type 0} (rule : Option R) (ranged free counted : Bool) → (is_some rule || (not ranged || (free && counted))) ≡ true → rule ≡ None → IsTrue ranged → (free ≡ true) × (counted ≡ true)
from-table (Some rule) ranged free counted all none at = absurd (cc)
from-table None true true true all none at = (refl, refl)
from-table None true true false all none at = absurd (cc)
from-table None true false counted all none at = absurd (cc)
from-table None false free counted all none at = absurd (cc)

-- a symbol without a rule is one that a module defines, for so many operands
pub record IsFreeFor (op : Op.the_data) (places : ℕ) : Type 0 where
  pub free : is_free op ≡ true
  pub places_are : built_in_places op ≡ places

pub prefix-free : (op : Op.the_data) → IsTrue (is_some (range_of op Prefix)) → rule_of op Prefix ≡ None → IsFreeFor (prefixed op) 1
prefix-free op at none =
    let parts = from-table (rule_of op Prefix) (is_some (range_of op Prefix)) (is_free (prefixed op)) (nat_eq (built_in_places (prefixed op)) 1) (prefix-table op) none at in
    record { free = parts.0; places_are = eqb-true (built_in_places (prefixed op)) 1 parts.1 }

pub infix-free : (op : Op.the_data) → IsTrue (is_some (range_of op Infix)) → rule_of op Infix ≡ None → IsFreeFor op 2
infix-free op at none =
    let parts = from-table (rule_of op Infix) (is_some (range_of op Infix)) (is_free op) (nat_eq (built_in_places op) 2) (infix-table op) none at in
    record { free = parts.0; places_are = eqb-true (built_in_places op) 2 parts.1 }

pub postfix-free : (op : Op.the_data) → IsTrue (is_some (range_of op Postfix)) → rule_of op Postfix ≡ None → IsFreeFor op 1
postfix-free op at none =
    let parts = from-table (rule_of op Postfix) (is_some (range_of op Postfix)) (is_free op) (nat_eq (built_in_places op) 1) (postfix-table op) none at in
    record { free = parts.0; places_are = eqb-true (built_in_places op) 1 parts.1 }

pub bare-free : (op : Op.the_data) → bare_rule (LexKind.Sym op) ≡ None → is_free op ≡ true
bare-free op none = by (bare_rule (LexKind.Sym op)) (is_free op) (bare-table op) none
  where
    by : {R : Type 0} (rule : Option R) (free : Bool) → (is_some rule || free) ≡ true → rule ≡ None → free ≡ true
    by (Some rule) free all none = absurd (cc)
    by None free all none = all

-- a symbol that is defined between or behind operands has so many places
pub infix-defined : (op : Op.the_data) → IsTrue (is_definable op Infix) → built_in_places op ≡ 2
infix-defined op at = by (is_definable op Infix) (nat_eq (built_in_places op) 2) (infix-places op) at (eqb-true (built_in_places op) 2)
  where
    by : (defined counted : Bool) → (not defined || counted) ≡ true → IsTrue defined → (counted ≡ true → built_in_places op ≡ 2) → built_in_places op ≡ 2
    by true counted all at next = next all
    by false counted all at next = absurd (cc)

pub postfix-defined : (op : Op.the_data) → IsTrue (is_definable op Postfix) → built_in_places op ≡ 1
postfix-defined op at = by (is_definable op Postfix) (nat_eq (built_in_places op) 1) (postfix-places op) at (eqb-true (built_in_places op) 1)
  where
    by : (defined counted : Bool) → (not defined || counted) ≡ true → IsTrue defined → (counted ≡ true → built_in_places op ≡ 1) → built_in_places op ≡ 1
    by true counted all at next = next all
    by false counted all at next = absurd (cc)

pub places-some : (op : Op.the_data) → nat_eq (built_in_places op) 0 ≡ false
places-some op = by (is_some (range_of op Infix))
  where
    by : (b : Bool) → nat_eq (if b then 2 else 1) 0 ≡ false
    by true = refl
    by false = refl
