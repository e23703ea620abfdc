-- The lexemes of a text begin one behind the other.
use Rattle.std.proofs.Common.{◌≡◌, ℕ, suc, ◌+◌, ◌≤◌, List, [], ◌∷◌, true, false, Option, Some, None, subst, ⊎_elim, drop, length, if◌then◌else◌, arith}
use Rattle.std.specs.Prelude.{◌==◌}
use Rattle.std.specs.Option.{option_map}
use Rattle.std.specs.List.{All}
use Rattle.std.proofs.lemmas.Bool.{cases_Bool}
use Rattle.tla_symbols.specs.declared.lexeme.Lexeme.{Lexeme}
use Rattle.tla_lexeme.specs.Lexing.{lexemes_after}
use Rattle.tla_lexeme.specs.Longest.{Lexes, Passes, ReadsLongest}
use Rattle.tla_lexeme.specs.ModulePart.{header_of, is_equals, is_module_word, module_part, part_from, up_to_close}
use Rattle.tla_lexeme.specs.Spans.{IsPlaced}
use Rattle.unit_heights.specs.FirstHigh.{BeginsFurther}

nearer : (a b : ℕ) (ls : List Lexeme) → a ≤ b → BeginsFurther b ls → BeginsFurther a ls
nearer a b [] le h = tt
nearer a b (l ∷ ls) le h = (omega (arith, le, h.0), h.1)

passes-le : (text : List ℕ) (at : ℕ) (lens : List ℕ) (to : ℕ) → Passes text at lens to → at ≤ to
passes-le text at [] to h = omega (arith, h)
passes-le text at (len ∷ lens) to h = omega (arith, passes-le text (at + len) lens to h.1)

lexes-further : (text : List ℕ) (at : ℕ) (ls : List Lexeme) → Lexes text at ls → BeginsFurther at ls
lexes-further text at [] h = absurd h
lexes-further text at (l ∷ []) h = (passes-le text at h.gaps l.span.start h.passed, tt)
lexes-further text at (l ∷ m ∷ ls) h =
    let one = h.0 in
    (passes-le text at one.gaps l.span.start one.passed, nearer (suc l.span.start) l.span.end (m ∷ ls) (omega (arith, one.end, one.is.some)) (lexes-further text l.span.end (m ∷ ls) h.1))

close-further : (words runs at : ℕ) (ls : List Lexeme) → BeginsFurther at ls → BeginsFurther at (up_to_close words runs ls)
close-further words runs at [] h = h
close-further words runs at (l ∷ ls) h =
    ⊎_elim
    (λ (run : is_equals l.kind ≡ true).
    ⊎_elim
    (λ (closes : (runs + 1 == words) ≡ true). rw (run, closes) (h.0, tt))
    (λ (goes : (runs + 1 == words) ≡ false). rw (run, goes) (h.0, close-further words (runs + 1) (suc l.span.start) ls h.1))
    (cases_Bool (runs + 1 == words)))
    (λ (other : is_equals l.kind ≡ false). rw other (h.0, close-further (if is_module_word l.kind then words + 1 else words) runs (suc l.span.start) ls h.1))
    (cases_Bool (is_equals l.kind))

part-further : (text : List ℕ) (found : Option ℕ) (lexemes : List Lexeme) → ((at : ℕ) → ReadsLongest text at) → option_map (λ at. part_from text at) found ≡ Some lexemes → BeginsFurther 0 lexemes
part-further text None lexemes law e = absurd (cc)
part-further text (Some at) lexemes law e =
    let same : part_from text at ≡ lexemes = cc in
    let all : List Lexeme = lexemes_after text at 0 (drop at text) in
    subst (λ r. BeginsFurther 0 r) same (close-further 0 0 0 all (nearer 0 at all (omega arith) (lexes-further text at all (law at))))

pub text-further : ((text : List ℕ) (at : ℕ) → ReadsLongest text at) → (text : List ℕ) (lexemes : List Lexeme) → module_part text ≡ Some lexemes → BeginsFurther 0 lexemes
text-further law text lexemes e = part-further text (header_of text) lexemes (λ at. law text at) e

-- ---- what that says of how many there are

-- a text has no more lexemes than bytes, and one
few-from : (text : List ℕ) (at : ℕ) (ls : List Lexeme) → BeginsFurther at ls → All (λ l. IsPlaced text l.span) ls → at ≤ length text + 1 → length ls + at ≤ length text + 1
few-from text at [] h within le = omega (arith, le)
few-from text at (l ∷ ls) h within le =
    let here : IsPlaced text l.span = within 0 l (omega arith) in
    omega (arith, h.0, few-from text (suc l.span.start) ls h.1 (λ k d lt. within (suc k) d (omega (arith, lt))) (omega (arith, here.start.0)))

pub few-lexemes : (text : List ℕ) (ls : List Lexeme) → BeginsFurther 0 ls → All (λ l. IsPlaced text l.span) ls → length ls ≤ length text + 1
few-lexemes text ls h within = omega (arith, few-from text 0 ls h within (omega arith))
