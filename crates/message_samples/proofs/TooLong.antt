-- The limit that a text meets which is too long.
use Rattle.std.proofs.Common.{◌≡◌, ℕ, ◌<◌, cond, ltb, [], ◌∷◌, length, Option, Some, None, ap, ◌∙◌}
use Rattle.std.proofs.lemmas.Bool.{lt-ltb}
use Rattle.std.proofs.lemmas.List.{length-replicate}
use Rattle.lsp_answers.specs.States.{State, After, first_too_long, most_bytes, unless_limit}
use Rattle.message_samples.specs.Silent.{zeros}

length-zeros : (n : ℕ) → length (zeros n) ≡ n
unfolding zeros
length-zeros n = length-replicate n 0

first_is : (n : ℕ) → most_bytes < n → first_too_long (zeros n ∷ []) ≡ Some n
first_is n h =
    let P : ℕ → Option ℕ = λ k. cond (ltb most_bytes k) (Some k) None in
    ap P (length-zeros n) ∙ ap (λ b. cond b (Some n) None) (lt-ltb most_bytes n h)

pub limit_is : (s : State) (after : After) (n : ℕ) → most_bytes < n → (unless_limit (first_too_long (zeros n ∷ [])) s after).limit ≡ Some n
limit_is s after n h = ap (λ o. (unless_limit o s after).limit) (first_is n h)
