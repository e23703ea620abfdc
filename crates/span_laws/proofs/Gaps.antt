-- A character begins behind blanks and comments, and behind a lexeme.
use Rattle.std.proofs.Common.{◌≡◌, ℕ, zero, suc, ◌+◌, ◌-◌, ◌<◌, ◌≤◌, true, false, List, [], ◌∷◌, length, get_or, take, drop, slice_index, codes, Some, refl, sym, subst, ⊎_elim, ◌⊎◌, arith, length-drop}
use Rattle.std.proofs.lemmas.Bool.{cases_lt, both_ways}
use Rattle.std.proofs.lemmas.List.{get_or-drop}
use Rattle.std.proofs.lemmas.List.Sums.{prefix_len_stops, prefix_len-le-length}
use Rattle.std.proofs.lemmas.Str.{IsCharBoundary-after_ascii, IsCharBoundary-before_ascii, IsCharBoundary-end}
use Rattle.std.specs.Str.{IsUtf8, IsCharBoundary}
use Rattle.tla_symbols.specs.declared.lexeme.LexKind.{LexKind}
use Rattle.tla_lexeme.specs.declared.class.Class.TheVariants.{InLine, Blank}
use Rattle.tla_lexeme.specs.LexemeSets.{is_in, kind_of}
use Rattle.tla_lexeme.specs.Lexing.{begins, line_len, comment_len}
use Rattle.tla_lexeme.specs.Longest.{IsGap, Passes, IsTaken}
use Rattle.tla_lexeme.proofs.LastLemmas.{end-low}
use Rattle.tla_lexeme.proofs.StepLemmas.{blank-low, comment_low, line-stops}

-- behind a byte of ASCII
behind-low : (text : List ℕ) (at n : ℕ) → IsUtf8 text → suc n ≤ length (drop at text) → get_or (drop at text) n 0 < 128 → IsCharBoundary text (at + suc n)
behind-low text at n utf8 inside low =
    let place : at + n + 1 ≡ at + suc n = omega arith in
    subst (λ i. IsCharBoundary text i) place (IsCharBoundary-after_ascii text (at + n) utf8 (omega (arith, inside, length-drop at text)) (subst (λ b. b < 128) (get_or-drop at text n 0) low))

-- ---- comments

comment-cut : (text : List ℕ) (at len : ℕ) → IsUtf8 text → comment_len (drop at text) ≡ Some len → IsCharBoundary text (at + len)
comment-cut text at len utf8 e =
    let ends = comment_low 0 0 0 (drop at text) len e in
    let size : suc ends.last_at ≡ len = omega (arith, ends.size) in
    subst (λ n. IsCharBoundary text (at + n)) size (behind-low text at ends.last_at utf8 ends.inside (omega (arith, ends.paren)))

line-cut : (text : List ℕ) (at : ℕ) → at ≤ length text → IsCharBoundary text (at + line_len (drop at text))
line-cut text at l =
    let n : ℕ = line_len (drop at text) in
    let fits = prefix_len-le-length (is_in InLine) (drop at text) in
    ⊎_elim
    (λ (lt : at + n < length text). IsCharBoundary-before_ascii text (at + n) lt (subst (λ b. b < 128) (get_or-drop at text n 0) (line-stops (get_or (drop at text) n 0) (prefix_len_stops (is_in InLine) (drop at text) 0 (omega (arith, length-drop at text))))))
    (λ (ge : length text ≤ at + n). subst (λ i. IsCharBoundary text i) (let e : length text ≡ at + n = omega (arith, fits, length-drop at text) in e) (IsCharBoundary-end text))
    (cases_lt (at + n) (length text))

-- ---- blanks

blank-first : (xs : List ℕ) → is_in Blank (slice_index xs 0) ≡ true → (1 ≤ length xs) × (get_or xs 0 0 < 128)
blank-first [] h = absurd (both_ways false refl h)
blank-first (c ∷ cs) h = (omega arith, blank-low c h)

blank-cut : (text : List ℕ) (at : ℕ) → IsUtf8 text → is_in Blank (slice_index (drop at text) 0) ≡ true → IsCharBoundary text (at + 1)
blank-cut text at utf8 h = let first = blank-first (drop at text) h in behind-low text at 0 utf8 first.0 first.1

-- ---- in a text

gap-cut : (text : List ℕ) (at len : ℕ) → IsUtf8 text → IsCharBoundary text at → IsGap (drop at text) len → IsCharBoundary text (at + len)
gap-cut text at len utf8 cut gap =
    ⊎_elim
    (λ (blank : (len ≡ 1) × (is_in Blank (slice_index (drop at text) 0) ≡ true)). subst (λ n. IsCharBoundary text (at + n)) (sym blank.0) (blank-cut text at utf8 blank.1))
    (λ (comment : ((begins (drop at text) (codes "\\*") ≡ true) × (len ≡ line_len (drop at text))) ⊎ ((begins (drop at text) (codes "(*") ≡ true) × (comment_len (drop at text) ≡ Some len))).
    ⊎_elim
    (λ (line : (begins (drop at text) (codes "\\*") ≡ true) × (len ≡ line_len (drop at text))). subst (λ n. IsCharBoundary text (at + n)) (sym line.1) (line-cut text at cut.0))
    (λ (block : (begins (drop at text) (codes "(*") ≡ true) × (comment_len (drop at text) ≡ Some len)). comment-cut text at len utf8 block.1)
    comment)
    gap

pub gaps-cut : (text : List ℕ) (at : ℕ) (lens : List ℕ) (to : ℕ) → IsUtf8 text → IsCharBoundary text at → Passes text at lens to → IsCharBoundary text to
gaps-cut text at [] to utf8 cut h = subst (λ n. IsCharBoundary text n) (sym h) cut
gaps-cut text at (len ∷ lens) to utf8 cut h = gaps-cut text (at + len) lens to utf8 (gap-cut text at len utf8 cut h.0) h.1

taken-by : (text : List ℕ) (at : ℕ) (kind : LexKind) (len : ℕ) → IsUtf8 text → 0 < len → len ≤ length (drop at text) → kind_of (take len (drop at text)) ≡ Some kind → IsCharBoundary text (at + len)
taken-by text at kind zero utf8 some fits is = absurd (omega (arith, some))
taken-by text at kind (suc n) utf8 some fits is = behind-low text at n utf8 fits (end-low n (drop at text) kind fits is)

pub taken-cut : (text : List ℕ) (at : ℕ) (kind : LexKind) (len : ℕ) → IsUtf8 text → IsTaken (drop at text) kind len → IsCharBoundary text (at + len)
taken-cut text at kind len utf8 taken = taken-by text at kind len utf8 taken.some taken.fits taken.is
