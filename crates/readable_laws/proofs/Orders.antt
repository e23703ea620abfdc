-- What names take, by what is no fault of arity at them.
use Rattle.std.proofs.Common.{◌≡◌, ◌≤◌, ◌<◌, ℕ, zero, suc, List, [], ◌∷◌, ◌++◌, Bool, true, false, Option, Some, None, not, refl, sym, ap, ◌∙◌, subst, length, if◌then◌else◌, arith}
use Rattle.std.specs.Prelude.{nat_eq, nat_lt, replicate, slice_get, ◌&&◌, ◌||◌}
use Rattle.std.specs.List.{list_all}
use Rattle.std.proofs.lemmas.Bool.{eqb-true, false≢true, ltb-true, ltb-false}
use Rattle.tla_symbols.specs.declared.lexeme.Span.{Span}
use Rattle.tla_model.specs.declared.entity.Entity.TheVariants as entity
use Rattle.tla_model.specs.declared.names.Meaning.TheVariants.{BuiltIn, Declared}
use Rattle.tla_model.specs.Entities.{Entity, Meaning}
use Rattle.tree_kinds.specs.Standing.{operator_places, places}
use Rattle.arity_rules.specs.declared.place.Due.TheVariants as due
use Rattle.arity_rules.specs.Arities.{arity, due_by, fault_if, is_instance, is_miscounted, is_no_expression, is_operator, order_at, other_faults, takes_expressions, use_faults}
use Rattle.flat_trees.specs.Names.{places_by}
use Rattle.flattened_trees.specs.Readable.{IsInstanceOf, IsNoInstance, entity_orders, orders_of}
use Rattle.readable_laws.proofs.FoundMeanings.{entity_in}

-- ---- tests and lists

pub first-empty : {A : Type 0} (a b : List A) → a ++ b ≡ [] → a ≡ []
first-empty [] b e = refl
first-empty (x ∷ a) b e = absurd (cc)

pub rest-empty : {A : Type 0} (a b : List A) → a ++ b ≡ [] → b ≡ []
rest-empty [] b e = e
rest-empty (x ∷ a) b e = absurd (cc)

pub no-fault : (b : Bool) (code : ℕ) (at : Span) → fault_if b code at ≡ [] → b ≡ false
no-fault true code at e = absurd (cc)
no-fault false code at e = refl

either-false : (a b : Bool) → (a || b) ≡ false → (a ≡ false) × (b ≡ false)
either-false true b e = absurd (cc)
either-false false b e = (refl, e)

both-true : (a b : Bool) → (a && b) ≡ true → (a ≡ true) × (b ≡ true)
both-true true b e = (refl, e)
both-true false b e = absurd (cc)

pub suc-apart : (n : ℕ) → nat_eq (suc n) 0 ≡ false
suc-apart n = by (nat_eq (suc n) 0) refl
  where
    by : (b : Bool) → nat_eq (suc n) 0 ≡ b → nat_eq (suc n) 0 ≡ false
    by true e = absurd (omega (arith, eqb-true (suc n) 0 e))
    by false e = e

not-false : (b : Bool) → not b ≡ false → b ≡ true
not-false true e = refl
not-false false e = absurd (cc)

not-true : (b : Bool) → not b ≡ true → b ≡ false
not-true true e = absurd (cc)
not-true false e = refl

-- as many expressions
abbrev pub expressions : ℕ → List ℕ
expressions n = replicate n 0

pub length-replicate : (n : ℕ) → length (expressions n) ≡ n
length-replicate zero = refl
length-replicate (suc n) = ap suc (length-replicate n)

replicate-within : (n i : ℕ) → i < n → slice_get (expressions n) i ≡ Some 0
replicate-within zero i lt = absurd (omega arith)
replicate-within (suc n) zero lt = refl
replicate-within (suc n) (suc i) lt = replicate-within n i (omega arith)

pub replicate-only : (n i order : ℕ) → slice_get (expressions n) i ≡ Some order → order ≡ 0
replicate-only zero zero order at = absurd (cc)
replicate-only zero (suc i) order at = absurd (cc)
replicate-only (suc n) zero order at = cc
replicate-only (suc n) (suc i) order at = replicate-only n i order at

replicate-beyond : (n i : ℕ) → n ≤ i → slice_get (expressions n) i ≡ None
replicate-beyond zero zero le = refl
replicate-beyond zero (suc i) le = refl
replicate-beyond (suc n) zero le = absurd (omega arith)
replicate-beyond (suc n) (suc i) le = replicate-beyond n i (omega arith)

replicate-at : (n i : ℕ) → (if◌then◌else◌ {A = Option ℕ} (nat_lt i n) (Some 0) None) ≡ slice_get (expressions n) i
replicate-at n i = by (nat_lt i n) refl
  where
    by : (b : Bool) → nat_lt i n ≡ b → (if◌then◌else◌ {A = Option ℕ} b (Some 0) None) ≡ slice_get (expressions n) i
    by true e = sym (replicate-within n i (ltb-true i n e))
    by false e = sym (replicate-beyond n i (ltb-false i n e))

expressions-alone : (orders : List ℕ) → list_all (λ order. nat_eq order 0) orders ≡ true → orders ≡ replicate (length orders) 0
expressions-alone [] all = refl
expressions-alone (order ∷ orders) all =
    let parts = both-true (nat_eq order 0) (list_all (λ o. nat_eq o 0) orders) all in
    let first : order ≡ 0 = eqb-true order 0 parts.0 in
    ap (λ o. o ∷ orders) first ∙ ap (λ os. 0 ∷ os) (expressions-alone orders parts.1)

empty-length : (orders : List ℕ) → length orders ≡ 0 → orders ≡ []
empty-length [] e = refl
empty-length (o ∷ orders) e = absurd (omega arith)

-- ---- entities

pub arity-length : (e : Entity) → arity e ≡ length (entity_orders e)
arity-length (entity.Constant n) = sym (length-replicate n)
arity-length (entity.Parameter n) = sym (length-replicate n)
arity-length (entity.Definition orders) = refl
arity-length (entity.Instance orders) = refl
arity-length _ = refl

pub order-at : (e : Entity) (i : ℕ) → order_at e i ≡ slice_get (entity_orders e) i
order-at (entity.Constant n) i = replicate-at n i
order-at (entity.Parameter n) i = replicate-at n i
order-at (entity.Definition orders) i = refl
order-at (entity.Instance orders) i = refl
order-at _ i = replicate-at 0 i

-- the places of an operator, by what it takes
pub places-arity : (e : Entity) → places e ≡ arity e
places-arity (entity.Constant n) = refl
places-arity _ = refl

pub test-places : (n : ℕ) → (if nat_eq n 0 then None else Some n) ≡ places_by n
test-places zero = refl
test-places (suc n) = rw (suc-apart n) refl

pub meaning-places : (m : Meaning) → operator_places (Some m) ≡ places_by (arity (entity_in m))
meaning-places BuiltIn = refl
meaning-places (Declared e callee) = test-places (places e) ∙ ap places_by (places-arity e)

pub meaning-orders : (m : Meaning) → orders_of m ≡ entity_orders (entity_in m)
meaning-orders BuiltIn = refl
meaning-orders (Declared e callee) = refl

pub no-instance : (m : Meaning) → is_instance (entity_in m) ≡ false → IsNoInstance m
no-instance BuiltIn e = tt
no-instance (Declared (entity.Instance is) callee) e = absurd (cc)
no-instance (Declared _ callee) e = tt

pub instance-entity : (m : Meaning) → IsInstanceOf m (orders_of m) → is_instance (entity_in m) ≡ true
instance-entity (Declared (entity.Instance is) callee) h = refl
instance-entity _ h = absurd h

-- ---- what is no fault

takes-alone : (e : Entity) → is_instance e ≡ false → takes_expressions e ≡ true → entity_orders e ≡ replicate (length (entity_orders e)) 0
takes-alone (entity.Constant n) apart all = ap (λ k. replicate k 0) (sym (length-replicate n))
takes-alone (entity.Parameter n) apart all = ap (λ k. replicate k 0) (sym (length-replicate n))
takes-alone (entity.Definition orders) apart all = expressions-alone orders all
takes-alone (entity.Instance orders) apart all = absurd (cc)
takes-alone _ apart all = refl

-- what stands bare where this order is due takes as many expressions
pub record StandsBare (e : Entity) (order : ℕ) : Type 0 where
  pub apart : is_instance e ≡ false
  pub takes : entity_orders e ≡ replicate order 0

bare-expression : (at : Span) (e : Entity) → use_faults due.Expression at 0 (Some e) ≡ [] → StandsBare e 0
bare-expression at e none =
    let tests = either-false (is_instance e) (not (nat_eq (arity e) 0)) (no-fault (is_no_expression 0 e) 502 at (rest-empty (fault_if (is_miscounted due.Expression 0 e) 501 at) (fault_if (is_no_expression 0 e) 502 at) none)) in
    record { apart = tests.0; takes = empty-length (entity_orders e) (sym (arity-length e) ∙ eqb-true (arity e) 0 (not-false (nat_eq (arity e) 0) tests.1)) }

bare-operator : (order : ℕ) (whole at : Span) (e : Entity) → use_faults (due.Operator order whole) at 0 (Some e) ≡ [] → StandsBare e order
bare-operator order whole at e none =
    let test = not-false (is_operator order 0 e) (no-fault (not (is_operator order 0 e)) 502 whole (rest-empty (fault_if (is_miscounted (due.Operator order whole) 0 e) 501 at) (fault_if (not (is_operator order 0 e)) 502 whole) none)) in
    let outer = both-true (not (is_instance e)) (nat_eq (arity e) order && takes_expressions e) test in
    let inner = both-true (nat_eq (arity e) order) (takes_expressions e) outer.1 in
    let apart : is_instance e ≡ false = not-true (is_instance e) outer.0 in
    record { apart = apart; takes = takes-alone e apart inner.1 ∙ ap (λ n. replicate n 0) (sym (arity-length e) ∙ eqb-true (arity e) order inner.0) }

due-operator : (order : ℕ) (whole : Span) → due_by (Some (suc order)) whole ≡ due.Operator (suc order) whole
due-operator order whole = rw (suc-apart order) refl

pub bare-use : (order : ℕ) (whole at : Span) (e : Entity) → use_faults (due_by (Some order) whole) at 0 (Some e) ≡ [] → StandsBare e order
bare-use zero whole at e none = bare-expression at e none
bare-use (suc order) whole at e none = bare-operator (suc order) whole at e (subst (λ d. use_faults d at 0 (Some e) ≡ []) (due-operator order whole) none)

-- with arguments it takes these, and stands for an expression
pub record StandsApplied (e : Entity) (order written : ℕ) : Type 0 where
  pub apart : is_instance e ≡ false
  pub plain : order ≡ 0
  pub takes : written ≡ arity e

applied-operator : (order written : ℕ) (whole at : Span) (e : Entity) → use_faults (due.Operator order whole) at (suc written) (Some e) ≡ [] → ⊥
applied-operator order written whole at e none =
    let test = not-false (is_operator order (suc written) e) (no-fault (not (is_operator order (suc written) e)) 502 whole (rest-empty (fault_if (is_miscounted (due.Operator order whole) (suc written) e) 501 at) (fault_if (not (is_operator order (suc written) e)) 502 whole) none)) in
    false≢true (sym (suc-apart written) ∙ (both-true (nat_eq (suc written) 0) (not (is_instance e) && (nat_eq (arity e) order && takes_expressions e)) test).0)

applied-expression : (written : ℕ) (at : Span) (e : Entity) → use_faults due.Expression at (suc written) (Some e) ≡ [] → StandsApplied e 0 (suc written)
applied-expression written at e none =
    let first = first-empty (fault_if (is_miscounted due.Expression (suc written) e) 501 at) (fault_if (is_no_expression (suc written) e) 502 at) none in
    let second = rest-empty (fault_if (is_miscounted due.Expression (suc written) e) 501 at) (fault_if (is_no_expression (suc written) e) 502 at) none in
    let counted : (not (nat_eq (suc written) 0) && not (nat_eq (suc written) (arity e))) ≡ false = no-fault (is_miscounted due.Expression (suc written) e) 501 at first in
    let count : not (nat_eq (suc written) (arity e)) ≡ false = subst (λ b. (not b && not (nat_eq (suc written) (arity e))) ≡ false) (suc-apart written) counted in
    record {
      apart = (either-false (is_instance e) (nat_eq (suc written) 0 && not (nat_eq (arity e) 0)) (no-fault (is_no_expression (suc written) e) 502 at second)).0;
      plain = refl;
      takes = eqb-true (suc written) (arity e) (not-false (nat_eq (suc written) (arity e)) count);
    }

pub applied-use : (order written : ℕ) (whole at : Span) (e : Entity) → use_faults (due_by (Some order) whole) at (suc written) (Some e) ≡ [] → StandsApplied e order (suc written)
applied-use zero written whole at e none = applied-expression written at e none
applied-use (suc order) written whole at e none = absurd (applied-operator (suc order) written whole at e (subst (λ d. use_faults d at (suc written) (Some e) ≡ []) (due-operator order whole) none))

-- an instance before `!` has all of its arguments
qualifier-count : (written : ℕ) (e : Entity) → is_instance e ≡ true → is_miscounted due.Qualifier written e ≡ false → written ≡ arity e
qualifier-count written e is none =
    let test : not (nat_eq written (arity e)) ≡ false = subst (λ b. ((b || not (nat_eq written 0)) && not (nat_eq written (arity e))) ≡ false) is none in
    eqb-true written (arity e) (not-false (nat_eq written (arity e)) test)

pub qualifier-use : (written : ℕ) (at : Span) (e : Entity) → is_instance e ≡ true → use_faults due.Qualifier at written (Some e) ≡ [] → written ≡ arity e
qualifier-use written at e is none = qualifier-count written e is (no-fault (is_miscounted due.Qualifier written e) 501 at (first-empty (fault_if (is_miscounted due.Qualifier written e) 501 at) [] none))

-- where an expression that is no name stands, no operator is due
pub other-plain : (order : ℕ) (whole : Span) → other_faults (due_by (Some order) whole) ≡ [] → order ≡ 0
other-plain zero whole none = refl
other-plain (suc order) whole none = absurd (by (subst (λ d. other_faults d ≡ []) (due-operator order whole) none))
  where
    by : other_faults (due.Operator (suc order) whole) ≡ [] → ⊥
    by e = absurd (cc)
