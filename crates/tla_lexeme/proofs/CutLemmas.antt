-- Where the character ends at which no lexeme begins.
use Rattle.std.proofs.Common.{◌≡◌, ℕ, suc, ◌+◌, ◌/◌, ◌<◌, ◌≤◌, true, false, ltb, List, [], ◌∷◌, ◌++◌, length, drop, codes, Option, Some, None, refl, sym, ap, ◌∙◌, subst, ⊎_elim, arith, length-drop}
use Rattle.std.proofs.lemmas.Bool.{cases_Bool, cond_both, lt-ltb, lt-leb, ltb-true}
use Rattle.std.proofs.lemmas.Str.{IsUtf8-drop, IsCharBoundary-past_char, len_utf8_bounds}
use Rattle.std.proofs.Math.Utf8.{encode, encodes}
use Rattle.std.proofs.lemmas.List.Elements.{All-nil, All-cons, All-append}
use Rattle.std.specs.List.{All}
use Rattle.std.specs.Char.{len_utf8}
use Rattle.std.specs.Str.{IsUtf8, IsCharBoundary, continuation_len}
use Rattle.tla_symbols.specs.declared.lexeme.Lexeme.{Lexeme}
use Rattle.tla_lexeme.specs.Spans.{IsPlaced}
use Rattle.tla_lexeme.specs.declared.begin.Member.{Member}
use Rattle.tla_lexeme.specs.declared.begin.Begin.{Begin}
use Rattle.tla_lexeme.specs.declared.begin.Begin.TheVariants.{Gap, Longest, Nothing, TextEnd}
use Rattle.tla_lexeme.specs.declared.class.Class.TheVariants.{Blank}
use Rattle.tla_lexeme.specs.LexemeSets.{is_in}
use Rattle.tla_lexeme.specs.Lexing.{lexeme_at, begins, line_len, comment_len, char_len, gap_or_fault, longest_or_fault, what_begins}
use Rattle.tla_lexeme.proofs.StepLemmas.{IsStep, IsLowFront, step_from, front_byte}
use Rattle.tla_lexeme.proofs.CommentLemmas.{begins_longer}

-- how many bytes follow the first byte of a character
not_below : (a b : ℕ) → b ≤ a → ltb a b ≡ false
not_below a b le = lt-leb (suc a) b (omega arith)

follow-two : (a : ℕ) → 192 ≤ a → a < 224 → continuation_len a ≡ 1
follow-two a low high = rw (not_below a 128 (omega arith), lt-ltb a 224 high) refl

follow-three : (a : ℕ) → 224 ≤ a → a < 240 → continuation_len a ≡ 2
follow-three a low high = rw (not_below a 128 (omega arith), not_below a 224 low, lt-ltb a 240 high) refl

follow-four : (a : ℕ) → 240 ≤ a → continuation_len a ≡ 3
follow-four a low = rw (not_below a 128 (omega arith), not_below a 224 (omega arith), not_below a 240 low) refl

-- the first byte of a character tells how many it has
char_len-encode : (c : ℕ) (rest : List ℕ) → char_len (encode c ++ rest) ≡ len_utf8 c
unfolding encode
char_len-encode c rest =
    ⊎_elim
    (λ (one : ltb c 128 ≡ true). rw (one, one) refl)
    (λ (more : ltb c 128 ≡ false).
    ⊎_elim
    (λ (two : ltb c 2048 ≡ true). rw (more, two, follow-two (192 + c / 64) (omega arith) (omega (arith, ltb-true c 2048 two))) refl)
    (λ (longer : ltb c 2048 ≡ false).
    ⊎_elim
    (λ (three : ltb c 65536 ≡ true). rw (more, longer, three, follow-three (224 + c / 4096) (omega arith) (omega (arith, ltb-true c 65536 three))) refl)
    (λ (four : ltb c 65536 ≡ false). rw (more, longer, four, follow-four (240 + c / 262144) (omega arith)) refl)
    (cases_Bool (ltb c 65536)))
    (cases_Bool (ltb c 2048)))
    (cases_Bool (ltb c 128))

cut_first : (text cs : List ℕ) (at : ℕ) → at < length text → IsUtf8 (drop at text) → encodes cs ≡ drop at text → IsStep text at (char_len (drop at text))
cut_first text [] at lt u e = absurd (omega (arith, ap length e, length-drop at text))
cut_first text (c ∷ cs) at lt u e =
    let len : char_len (drop at text) ≡ len_utf8 c = ap char_len (sym e) ∙ char_len-encode c (encodes cs) in
    let cut = IsCharBoundary-past_char text (encodes cs) at c (omega arith) u (sym e) in
    let some = len_utf8_bounds c in
    subst (λ n. IsStep text at n) (sym len) (record { some = some.0; fits = cut.0; cut = cut })

-- the character at a place is passed over
pub char_step : (text : List ℕ) (at : ℕ) → IsUtf8 text → IsCharBoundary text at → at < length text → IsStep text at (char_len (drop at text))
char_step text at u boundary lt = let rest = IsUtf8-drop text at u boundary in cut_first text rest.0 at lt rest rest.1.1

-- what begins no lexeme ends where a character does
abbrev IsCut : List ℕ → ℕ → Begin → Type 0
IsCut text at (Nothing len) = IsStep text at len
IsCut text at (Gap len) = Unit {0}
IsCut text at (Longest m) = Unit {0}
IsCut text at TextEnd = Unit {0}

cut_cons : (text : List ℕ) (at c : ℕ) (cs : List ℕ) → IsUtf8 text → IsCharBoundary text at → drop at text ≡ c ∷ cs → IsCut text at (what_begins (c ∷ cs))
cut_cons text at c cs u boundary e =
    cond_both (is_in Blank c) (Gap 1) _ (IsCut text at) (λ _. tt)
    (λ _. cond_both (begins (c ∷ cs) (codes "\\*")) (Gap (line_len (c ∷ cs))) _ (IsCut text at) (λ _. tt)
    (λ _. cond_both (begins (c ∷ cs) (codes "(*")) (gap_or_fault (comment_len (c ∷ cs))) _ (IsCut text at) (λ block. by_comment block (comment_len (c ∷ cs)))
    (λ _. by_lexeme (lexeme_at (c ∷ cs)))))
  where
    inside : at < length text
    inside = omega (arith, ap length e, length-drop at text)

    opened : begins (c ∷ cs) (codes "(*") ≡ true → IsStep text at 2
    opened block =
        step_from text at 2 u (omega (arith, inside))
        (subst (λ r. IsLowFront r 2) (sym e) (record { some = omega arith; fits = begins_longer (codes "(*") (c ∷ cs) block; low = omega (arith, front_byte (codes "(*") (c ∷ cs) 1 block (omega arith)) }))

    by_comment : begins (c ∷ cs) (codes "(*") ≡ true → (o : Option ℕ) → IsCut text at (gap_or_fault o)
    by_comment block None = opened block
    by_comment block (Some n) = tt

    by_lexeme : (o : Option Member) → IsCut text at (longest_or_fault o (char_len (c ∷ cs)))
    by_lexeme None = subst (λ r. IsStep text at (char_len r)) e (char_step text at u boundary inside)
    by_lexeme (Some m) = tt

cut_rest : (text rest : List ℕ) (at : ℕ) → IsUtf8 text → IsCharBoundary text at → drop at text ≡ rest → IsCut text at (what_begins rest)
cut_rest text [] at u boundary e = tt
cut_rest text (c ∷ cs) at u boundary e = cut_cons text at c cs u boundary e

pub nothing_step : (text : List ℕ) (at len : ℕ) → IsUtf8 text → IsCharBoundary text at → what_begins (drop at text) ≡ Nothing len → IsStep text at len
nothing_step text at len u boundary e = subst (λ b. IsCut text at b) e (cut_rest text (drop at text) at u boundary refl)

-- one more lexeme that stands in a text
pub placed-more : (text bytes : List ℕ) (found found' : List Lexeme) (l : Lexeme) (at len : ℕ) → bytes ≡ text → All (λ (x : Lexeme). IsPlaced text x.span) found → found' ≡ found ++ l ∷ [] →
    l.span.start ≡ at → l.span.end ≡ at + len → IsCharBoundary bytes at → IsCharBoundary bytes (at + len) → All (λ (x : Lexeme). IsPlaced text x.span) found'
placed-more text bytes found found' l at len same placed more start end at_char end_at_char =
    let own : IsPlaced text l.span = record {
      start = subst (λ n. IsCharBoundary text n) (sym start) (subst (λ b. IsCharBoundary b at) same at_char);
      end = subst (λ n. IsCharBoundary text n) (sym end) (subst (λ b. IsCharBoundary b (at + len)) same end_at_char);
    } in
    subst (λ ls. All (λ (x : Lexeme). IsPlaced text x.span) ls) (sym more)
    (All-append (λ (x : Lexeme). IsPlaced text x.span) found (l ∷ []) placed (All-cons (λ (x : Lexeme). IsPlaced text x.span) l [] own (All-nil (λ (x : Lexeme). IsPlaced text x.span))))
