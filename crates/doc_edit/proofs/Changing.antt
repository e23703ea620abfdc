-- What is known of a change whose area is not backward.
use Rattle.std.proofs.Common.{◌≡◌, ℕ, ◌+◌, Bool, true, false, cond, ltb, List, [], ◌∷◌, length, refl, sym, subst}
use Rattle.std.proofs.lemmas.Option.{none-some}
use Rattle.std.specs.Prelude.{Option, Some, None, Result, Ok, Err}
use Rattle.std.specs.Result.{IsErrAnd, IfErr}
use Rattle.lsp_wire.specs.declared.types.Change.{Change}
use Rattle.doc_edit.specs.declared.EditError.{EditError}
use Rattle.doc_edit.specs.declared.EditError.TheVariants.{BackwardRange, TooLarge, Memory}
use Rattle.doc_edit.specs.Edits.{most_bytes, after_change, first_excess, IsRefused, is_backward, backward_from, first_backward}

none_turn : (backward : Bool) (at from : ℕ) (x y : Option ℕ) → cond backward (Some at) x ≡ None → (x ≡ None → y ≡ None) → cond backward (Some from) y ≡ None
none_turn true at from x y h more = absurd (none-some at (sym h))
none_turn false at from x y h more = more h

-- from where changes are counted does not matter to whether one is backward
none_from : (at from : ℕ) (cs : List Change) → backward_from at cs ≡ None → backward_from from cs ≡ None
none_from at from [] h = refl
none_from at from (c ∷ cs) h = none_turn (is_backward c.area) at from (backward_from (at + 1) cs) (backward_from (from + 1) cs) h (none_from (at + 1) (from + 1) cs)

first_forward : (backward : Bool) (x : Option ℕ) → cond backward (Some 0) x ≡ None → (backward ≡ false) × (x ≡ None)
first_forward true x h = absurd (none-some 0 (sym h))
first_forward false x h = (refl, h)

-- where no change is backward, neither the first nor one of the others is
pub forward_more : (c : Change) (cs : List Change) → first_backward (c ∷ cs) ≡ None → (is_backward c.area ≡ false) × (first_backward cs ≡ None)
forward_more c cs h =
    let parts = first_forward (is_backward c.area) (backward_from 1 cs) h in
    (parts.0, none_from 1 0 cs parts.1)

-- ---- refusals

-- what a `?` hands on
pub IfErr-from : {T E : Type 0} (r : Result T E) {P Q : E → Type 0} → IsErrAnd r P → ((e : E) → P e → Q e) → IfErr r Q
IfErr-from (Ok x) h f = absurd h
IfErr-from (Err e) h f = f e h

-- ---- texts that are too long

rest_turn : (long : Bool) (n : ℕ) (x : Option ℕ) → cond long (Some n) None ≡ None → cond long (Some n) x ≡ x
rest_turn true n x h = absurd (none-some n (sym h))
rest_turn false n x h = refl

-- after a change that makes the text not too long, the others decide
pub first_excess-more : (text : List ℕ) (c : Change) (cs : List Change) → first_excess text (c ∷ []) ≡ None → first_excess text (c ∷ cs) ≡ first_excess (after_change text c) cs
first_excess-more text c cs h = rest_turn (ltb most_bytes (length (after_change text c))) (length (after_change text c)) (first_excess (after_change text c) cs) h

long_turn : (long : Bool) (n bytes : ℕ) (x : Option ℕ) → cond long (Some n) None ≡ Some bytes → cond long (Some n) x ≡ Some bytes
long_turn true n bytes x h = h
long_turn false n bytes x h = absurd (none-some bytes h)

-- what refuses the first change refuses them all
pub refused_first : (text : List ℕ) (c : Change) (cs : List Change) (e : EditError) → IsRefused None (first_excess text (c ∷ [])) e → IsRefused None (first_excess text (c ∷ cs)) e
refused_first text c cs (BackwardRange index) h = h
refused_first text c cs (TooLarge bytes) h = (refl, long_turn (ltb most_bytes (length (after_change text c))) (length (after_change text c)) bytes (first_excess (after_change text c) cs) h.1)
refused_first text c cs Memory h = tt

pub refused_same : (backward x y : Option ℕ) (e : EditError) → backward ≡ None → x ≡ y → IsRefused None x e → IsRefused backward y e
refused_same backward x y e none same h = subst (λ b. IsRefused b y e) (sym none) (subst (λ z. IsRefused None z e) same h)
