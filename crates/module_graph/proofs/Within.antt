-- Lists that stand in another one in its order.
use Rattle.std.proofs.Common.{Bool, true, false, List, [], ◌∷◌, ◌++◌, sym, subst}
use Rattle.std.specs.Prelude.{filter, cond}
use Rattle.std.specs.List.{AllByRecursion}
use Rattle.std.proofs.lemmas.List.{append-nil}
use Rattle.module_graph.specs.Within.{IsWithin, none, other, next}

pub after : {A : Type 0} (a : List A) {xs b : List A} → IsWithin xs b → IsWithin xs (a ++ b)
after [] w = w
after (x ∷ a) w = other x (after a w)

pub both : {A : Type 0} {xs ys a b : List A} → IsWithin xs a → IsWithin ys b → IsWithin (xs ++ ys) (a ++ b)
both (none {ys = a}) v = after a v
both (other y w) v = other y (both w v)
both (next x w) v = next x (both w v)

pub before : {A : Type 0} {xs a : List A} (b : List A) → IsWithin xs a → IsWithin xs (a ++ b)
before {xs = xs} {a = a} b w = subst (λ z. IsWithin z (a ++ b)) (append-nil xs) (both w (none {ys = b}))

-- and nothing more
pub last : {A : Type 0} {xs a : List A} → IsWithin xs a → IsWithin (xs ++ []) a
last {xs = xs} {a = a} w = subst (λ z. IsWithin z a) (sym (append-nil xs)) w

kept-or-not : {A : Type 0} (p : A → Bool) (x : A) (xs : List A) (b : Bool) {ys : List A} → IsWithin (filter p xs) ys → IsWithin (cond b (x ∷ filter p xs) (filter p xs)) (x ∷ ys)
kept-or-not p x xs true w = next x w
kept-or-not p x xs false w = other x w

pub filtered : {A : Type 0} (p : A → Bool) {xs a : List A} → IsWithin xs a → IsWithin (filter p xs) a
filtered p none = none
filtered p (other y w) = other y (filtered p w)
filtered p (next {xs = xs} x w) = kept-or-not p x xs (p x) (filtered p w)

pub all-within : {A : Type 0} (P : A → Type 0) {xs a : List A} → IsWithin xs a → AllByRecursion P a → AllByRecursion P xs
all-within P none all = tt
all-within P (other y w) all = all-within P w all.1
all-within P (next x w) all = (all.0, all-within P w all.1)
