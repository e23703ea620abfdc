-- Turns of the loop over a comment.
use Rattle.std.proofs.Common.{◌≡◌, ℕ, ◌+◌, ◌-◌, ◌<◌, ◌≤◌, true, false, leb, List, [], ◌∷◌, length, drop, codes, refl, sym, ap, ◌∙◌, take, arith, length-take, length-drop}
use Rattle.std.proofs.lemmas.Bool.{cond-true, cond-false, lt-leb}
use Rattle.std.proofs.lemmas.Slice.Eq.{bytes_eq-Decides}
use Rattle.std.specs.Str.{continuation_len}
use Rattle.tla_lexeme.specs.declared.begin.Begin.{Begin}
use Rattle.tla_lexeme.specs.declared.class.Class.TheVariants.{Blank}
use Rattle.tla_lexeme.specs.LexemeSets.{is_in}
use Rattle.tla_lexeme.specs.Lexing.{begins, comment_end, what_begins, longest_or_fault, lexeme_at}

skip_one : (at depth : ℕ) (cs : List ℕ) → comment_end at depth 1 cs ≡ comment_end (at + 1) depth 0 (drop 1 cs)
skip_one at depth [] = refl
skip_one at depth (c ∷ cs) = refl

two_on : (at depth : ℕ) (cs : List ℕ) → comment_end (at + 1) depth 1 cs ≡ comment_end (at + 2) depth 0 (drop 1 cs)
two_on at depth cs = skip_one (at + 1) depth cs ∙ ap (λ n. comment_end n depth 0 (drop 1 cs)) (let e : at + 1 + 1 ≡ at + 2 = omega arith in e)

pub opens_turn : (at depth c : ℕ) (rest cs after : List ℕ) → rest ≡ c ∷ cs → begins rest (codes "(*") ≡ true → after ≡ drop 1 cs → comment_end (at + 2) (depth + 1) 0 after ≡ comment_end at depth 0 rest
opens_turn at depth c rest cs after isrest opens isafter =
    ap (λ l. comment_end (at + 2) (depth + 1) 0 l) isafter ∙ sym (ap (λ l. comment_end at depth 0 l) isrest ∙ cond-true (begins (c ∷ cs) (codes "(*")) _ _ (ap (λ l. begins l (codes "(*")) (sym isrest) ∙ opens) ∙ two_on at (depth + 1) cs)

pub closes_turn : (at depth c : ℕ) (rest cs after : List ℕ) → rest ≡ c ∷ cs → begins rest (codes "(*") ≡ false → begins rest (codes "*)") ≡ true → 1 < depth → after ≡ drop 1 cs → comment_end (at + 2) (depth - 1) 0 after ≡ comment_end at depth 0 rest
closes_turn at depth c rest cs after isrest opens closes deep isafter =
    ap (λ l. comment_end (at + 2) (depth - 1) 0 l) isafter ∙ sym (ap (λ l. comment_end at depth 0 l) isrest ∙ cond-false (begins (c ∷ cs) (codes "(*")) _ _ (ap (λ l. begins l (codes "(*")) (sym isrest) ∙ opens) ∙ cond-true (begins (c ∷ cs) (codes "*)")) _ _ (ap (λ l. begins l (codes "*)")) (sym isrest) ∙ closes) ∙ cond-false (leb depth 1) _ _ (lt-leb depth 1 deep) ∙ two_on at (depth - 1) cs)

-- a text is at least as long as what it begins with
pub begins_longer : (f xs : List ℕ) → begins xs f ≡ true → length f ≤ length xs
begins_longer f xs h = let e : f ≡ take (length f) xs = (bytes_eq-Decides f (take (length f) xs)).0 h in omega (arith, ap length e, length-take (length f) xs)

pub two_passed : (at : ℕ) (c : ℕ) (f rest cs after text : List ℕ) → length f ≡ 2 → rest ≡ c ∷ cs → begins rest f ≡ true → after ≡ drop 1 cs → at + length rest ≡ length text → at + 2 + length after ≡ length text
two_passed at c f rest cs after text two isrest h isafter inv = omega (arith, begins_longer f rest h, two, ap length isrest, ap length isafter, length-drop 1 cs, inv)

begins_cons : (c : ℕ) (cs : List ℕ) → is_in Blank c ≡ false → begins (c ∷ cs) (codes "\\*") ≡ false → begins (c ∷ cs) (codes "(*") ≡ false → what_begins (c ∷ cs) ≡ longest_or_fault (lexeme_at (c ∷ cs)) (1 + continuation_len c)
begins_cons c cs blank line block = cond-false (is_in Blank c) _ _ blank ∙ cond-false (begins (c ∷ cs) (codes "\\*")) _ _ line ∙ cond-false (begins (c ∷ cs) (codes "(*")) _ _ block

-- what begins where neither a blank nor a comment does
pub begins_lexeme : (c : ℕ) (cs text : List ℕ) (found : Begin) → text ≡ c ∷ cs → is_in Blank c ≡ false → begins text (codes "\\*") ≡ false → begins text (codes "(*") ≡ false → found ≡ longest_or_fault (lexeme_at text) (1 + continuation_len c) → found ≡ what_begins text
begins_lexeme c cs text found e blank line block is =
    is ∙ ap (λ l. longest_or_fault (lexeme_at l) (1 + continuation_len c)) e ∙ sym (begins_cons c cs blank (ap (λ l. begins l (codes "\\*")) (sym e) ∙ line) (ap (λ l. begins l (codes "(*")) (sym e) ∙ block)) ∙ ap what_begins (sym e)
