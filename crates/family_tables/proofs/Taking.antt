-- The first names of some, with one more.
use Rattle.std.proofs.Common.{◌≡◌, ◌<◌, ℕ, ◌+◌, List, [], ◌∷◌, ◌++◌, sym, ap, ◌∙◌, get_or, length, subst, take}
use Rattle.std.specs.Prelude.{◌⊎◌, Contains}
use Rattle.std.proofs.lemmas.List.{take_more}
use Rattle.std.proofs.lemmas.List.Elements.{Contains-append_left, Contains-append_right}
use Rattle.family_facts.proofs.Lists.{contains-pushed, here}

module _ (names : List (List ℕ)) (i : ℕ) (d item : List ℕ) (l : i < length names) (is : item ≡ get_or names i d) where
  taken : take i names ++ item ∷ [] ≡ take (i + 1) names
  taken = ap (λ x. take i names ++ x ∷ []) is ∙ sym (take_more names i d l)

  pub item-taken : Contains (take (i + 1) names) item
  item-taken = subst (λ ns. Contains ns item) taken (Contains-append_right (take i names) (item ∷ []) item (here item []))

  pub before-taken : (x : List ℕ) → Contains (take i names) x → Contains (take (i + 1) names) x
  before-taken x h = subst (λ ns. Contains ns x) taken (Contains-append_left (take i names) (item ∷ []) x h)

  pub taken-cases : (x : List ℕ) → Contains (take (i + 1) names) x → Contains (take i names) x ⊎ (item ≡ x)
  taken-cases x h = contains-pushed (take i names) item x (subst (λ ns. Contains ns x) (sym taken) h)
