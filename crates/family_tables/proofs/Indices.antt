-- Where the members of a family stand among its modules, and what stands in the front of a list.
use Rattle.std.proofs.Common.{◌≡◌, ◌<◌, ℕ, zero, suc, List, [], ◌∷◌, Some, sym, ◌∙◌, take, arith, subst}
use Rattle.std.specs.Prelude.{Contains, slice_get}
use Rattle.list_laws.proofs.Lists.{contains-map}
use Rattle.family_facts.specs.Family.{Member}
use Rattle.family_tables.specs.Modules.{Entry, IsEntry, AreModules}
use Rattle.family_tables.specs.Tables.{names_in}
use Rattle.family_facts.proofs.Lists.{mapped, zip-left, zip-right}

pub member-named : (family : List Member) (entries : List Entry) (name : List ℕ) → AreModules family entries → Contains (names_in entries) name → (m : Member) × Contains family m × (m.name ≡ name)
member-named family entries name are h =
    let e = mapped (λ (x : Entry). x.0) entries name h in
    let m = zip-right IsEntry family entries e.0 are e.1 in
    (m.0, m.1, sym (m.2).named ∙ e.2)

pub named-member : (family : List Member) (entries : List Entry) (m : Member) → AreModules family entries → Contains family m → Contains (names_in entries) m.name
named-member family entries m are h =
    let e = zip-left IsEntry family entries m are h in
    subst (λ n. Contains (names_in entries) n) (e.2).named (contains-map (λ (x : Entry). x.0) entries e.0 e.1)

pub at-taken : {A : Type 0} (n : ℕ) (xs : List A) (i : ℕ) (x : A) → slice_get (take n xs) i ≡ Some x → (slice_get xs i ≡ Some x) × (i < n)
at-taken zero xs zero x e = cc
at-taken zero xs (suc i) x e = cc
at-taken (suc n) [] zero x e = cc
at-taken (suc n) [] (suc i) x e = cc
at-taken (suc n) (y ∷ xs) zero x e = (e, omega arith)
at-taken (suc n) (y ∷ xs) (suc i) x e = let r = at-taken n xs i x e in let l : i < n = r.1 in (r.0, omega arith)

pub at-take : {A : Type 0} (n : ℕ) (xs : List A) (i : ℕ) (x : A) → i < n → slice_get xs i ≡ Some x → slice_get (take n xs) i ≡ Some x
at-take zero xs i x l e = absurd (omega (arith, l))
at-take (suc n) [] i x l e = e
at-take (suc n) (y ∷ xs) zero x l e = e
at-take (suc n) (y ∷ xs) (suc i) x l e = at-take n xs i x (omega (arith, l)) e
