-- Lists that end once, from a place on.
use Rattle.std.proofs.Common.{◌≡◌, ℕ, ◌+◌, ◌<◌, ◌↔◌, IsTrue, List, [], ◌∷◌, length, drop, nat_eq, refl, ap, sym, subst, arith}
use Rattle.std.specs.Prelude.{slice_index_or}
use Rattle.std.proofs.lemmas.List.{drop_more}
use Rattle.std.proofs.lemmas.Bool.Decides.{nat_tests}
use Rattle.tla_symbols.specs.declared.lexeme.Lexeme.{Lexeme}
use Rattle.unit_grammar.specs.FirstBad.{IsLast, EndsOnce}

length-drop-one : (xs : List Lexeme) (i : ℕ) (t : Lexeme) (rest : List Lexeme) → drop i xs ≡ t ∷ rest → length xs ≡ i + (length rest + 1)
length-drop-one [] ℕ.zero t rest e = cc
length-drop-one [] (ℕ.suc i) t rest e = cc
length-drop-one (x ∷ xs) ℕ.zero t rest e = let k = ap length e in omega (arith, k)
length-drop-one (x ∷ xs) (ℕ.suc i) t rest e = let k = length-drop-one xs i t rest e in omega (arith, k)

last-alone : (t : Lexeme) (rest : List Lexeme) → IsLast t → EndsOnce (t ∷ rest) → length rest ≡ 0
last-alone t [] l e = refl
last-alone t (u ∷ rest) l e = absurd (e.0 l)

alone-ends : (t : Lexeme) (rest : List Lexeme) → IsLast t → length rest ≡ 0 → EndsOnce (t ∷ rest)
alone-ends t [] l e = l
alone-ends t (u ∷ rest) l e = cc

-- a last lexeme stands here: the list ends once where it ends here
pub ends-here : (xs : List Lexeme) (i : ℕ) (d : Lexeme) → i < length xs → (EndsOnce xs ↔ EndsOnce (drop i xs)) → IsLast (slice_index_or xs i d) → IsTrue (nat_eq (i + 1) (length xs)) ↔ EndsOnce xs
ends-here xs i d below same l =
    let e = drop_more xs i d below in
    let t : Lexeme = slice_index_or xs i d in
    let rest : List Lexeme = drop (i + 1) xs in
    let n : length xs ≡ i + (length rest + 1) = length-drop-one xs i t rest e in (
      (λ q. same.1 (subst EndsOnce (sym e) (alone-ends t rest l (grind (arith, nat_tests, q, n))))),
      (λ o. let k = last-alone t rest l (subst EndsOnce e (same.0 o)) in grind (arith, nat_tests, k, n)),
    )

skips : (t : Lexeme) (rest : List Lexeme) → (IsLast t → ⊥) → EndsOnce (t ∷ rest) ↔ EndsOnce rest
skips t [] k = (λ l. absurd (k l), λ e. absurd e)
skips t (u ∷ rest) k = (λ e. e.1, λ e. (k, e))

-- and another lexeme here is passed over
pub ends-later : (xs : List Lexeme) (i : ℕ) (d : Lexeme) → i < length xs → (EndsOnce xs ↔ EndsOnce (drop i xs)) → (IsLast (slice_index_or xs i d) → ⊥) → EndsOnce xs ↔ EndsOnce (drop (i + 1) xs)
ends-later xs i d below same k =
    let e = drop_more xs i d below in
    let s = skips (slice_index_or xs i d) (drop (i + 1) xs) k in (
      (λ o. s.0 (subst EndsOnce e (same.0 o))),
      (λ o. same.1 (subst EndsOnce (sym e) (s.1 o))),
    )
