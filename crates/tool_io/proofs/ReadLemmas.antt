-- What a read leaves.
use Rattle.std.proofs.Common.{◌≡◌, ℕ, ◌+◌, ◌<◌, List, [], ◌++◌, length, take, drop, sym, ap, ◌∙◌, arith, min, length-drop}
use Rattle.std.proofs.lemmas.List.{take-append-drop, drop-drop, nil_from_length}

-- the front of a buffer and what is left are what was left before, and none comes only at the end
pub read_by : (xs rest buf : List ℕ) (at n most : ℕ) → rest ≡ drop at xs → 0 < most → n ≡ min (min (length rest) (length buf)) most → take n buf ≡ take n rest →
    (drop at xs ≡ take n buf ++ drop (at + n) xs) × (n ≡ 0 → 0 < length buf → drop (at + n) xs ≡ [])
read_by xs rest buf at n most is some count front = (
  sym (take-append-drop n (drop at xs)) ∙ ap (λ l. take n (drop at xs) ++ l) (drop-drop n at xs) ∙ ap (λ l. l ++ drop (at + n) xs) (sym (front ∙ ap (λ l. take n l) is)),
  λ z lt. nil_from_length (drop (at + n) xs) (omega (arith, length-drop (at + n) xs, length-drop at xs, ap length is)),
)
