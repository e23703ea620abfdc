-- How many bytes of a text can be read.
use Rattle.std.proofs.Common.{◌≡◌, ℕ, suc, zero, ◌≤◌, ◌<◌, List, length, take, Bool, true, false, sym, arith, subst, ⊎_elim}
use Rattle.std.proofs.Math.Nat.{eq-or-lt_of_le}
use Rattle.std.proofs.Math.Seq.{take-length}
use Rattle.std.proofs.lemmas.Bool.{cases_Bool, cases_lt}
use Rattle.std.proofs.lemmas.Str.{IsUtf8-from_is_utf8, is_utf8-from_IsUtf8}
use Rattle.std.specs.Str.{IsValidUpTo, IsUtf8, is_utf8}
use Rattle.tla_text.specs.Places.{IsLongestUtf8}
use Rattle.front_laws.specs.Fronts.{greatest, readable_len}

-- the greatest number that passes is the one above which none does
greatest-is : (p : ℕ → Bool) (m n : ℕ) → p m ≡ true → m ≤ n → ((k : ℕ) → m < k → k ≤ n → p k ≡ false) → greatest p n ≡ m
greatest-is p m zero hit le above = omega arith
greatest-is p m (suc n) hit le above =
    ⊎_elim
    (λ (e : m ≡ suc n). rw (subst (λ k. p k ≡ true) e hit) (sym e))
    (λ (l : m < suc n). rw (above (suc n) l (omega arith)) (greatest-is p m n hit (omega arith) (λ k lt le'. above k lt (omega arith))))
    (eq-or-lt_of_le le)

no_longer : (bytes : List ℕ) (at k : ℕ) → IsLongestUtf8 bytes at → at < k → k ≤ length bytes → is_utf8 (take k bytes) ≡ false
no_longer bytes at k longest lt le =
    ⊎_elim
    (λ (hit : is_utf8 (take k bytes) ≡ true). absurd (omega (arith, longest.longest k le (IsUtf8-from_is_utf8 (take k bytes) hit))))
    (λ (miss : is_utf8 (take k bytes) ≡ false). miss)
    (cases_Bool (is_utf8 (take k bytes)))

-- from what `from_utf8` says of a refusal
pub longest-from : (bytes : List ℕ) (at n : ℕ) → at ≡ n → IsValidUpTo bytes n → IsLongestUtf8 bytes at
longest-from bytes at n e h =
    let longest : IsLongestUtf8 bytes n = record {
      fits = omega (arith, h.short);
      front = h.front;
      longest = λ m l u. ⊎_elim (λ (lt : n < m). absurd (h.longest m lt u)) (λ (le : m ≤ n). le) (cases_lt n m);
    } in
    subst (λ k. IsLongestUtf8 bytes k) (sym e) longest

-- what can be read is the longest front that is UTF-8
pub readable_len-longest : (bytes : List ℕ) (at : ℕ) → IsLongestUtf8 bytes at → readable_len bytes ≡ at
readable_len-longest bytes at longest =
    greatest-is (λ n. is_utf8 (take n bytes)) at (length bytes) (is_utf8-from_IsUtf8 (take at bytes) longest.front) longest.fits (λ k lt le. no_longer bytes at k longest lt le)

-- a text is read whole
pub readable_len-text : (bytes : List ℕ) → IsUtf8 bytes → readable_len bytes ≡ length bytes
readable_len-text bytes text =
    greatest-is (λ n. is_utf8 (take n bytes)) (length bytes) (length bytes) (is_utf8-from_IsUtf8 (take (length bytes) bytes) (subst IsUtf8 (sym (take-length bytes)) text)) (omega arith) (λ k lt le. absurd (omega arith))
