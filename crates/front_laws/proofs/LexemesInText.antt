-- The lexemes of a text lie in it, each with its start before its end.
use Rattle.std.proofs.Common.{◌≡◌, ℕ, suc, ◌+◌, ◌≤◌, List, [], ◌∷◌, true, false, Option, Some, None, subst, ⊎_elim, drop, if◌then◌else◌, arith}
use Rattle.std.specs.Prelude.{◌==◌}
use Rattle.std.specs.Option.{option_map}
use Rattle.std.specs.List.{All, AllByRecursion}
use Rattle.std.proofs.lemmas.Bool.{cases_Bool}
use Rattle.tla_symbols.specs.declared.lexeme.Lexeme.{Lexeme}
use Rattle.tla_lexeme.specs.Lexing.{lexemes_after}
use Rattle.tla_lexeme.specs.Longest.{Lexes, ReadsLongest}
use Rattle.tla_lexeme.specs.ModulePart.{header_of, is_equals, is_module_word, module_part, part_from, up_to_close}
use Rattle.tla_lexeme.specs.Spans.{IsPlaced}
use Rattle.tla_model.specs.Lexemes.{LiesIn}

-- no end stands before the start
abbrev AreOrdered : List Lexeme → Type 0
AreOrdered lexemes = AllByRecursion (λ (l : Lexeme). l.span.start ≤ l.span.end) lexemes

lexes-ordered : (text : List ℕ) (at : ℕ) (ls : List Lexeme) → Lexes text at ls → AreOrdered ls
lexes-ordered text at [] h = absurd h
lexes-ordered text at (l ∷ []) h = (omega (arith, h.end), tt)
lexes-ordered text at (l ∷ m ∷ ls) h = (omega (arith, h.0.end), lexes-ordered text l.span.end (m ∷ ls) h.1)

close-ordered : (words runs : ℕ) (ls : List Lexeme) → AreOrdered ls → AreOrdered (up_to_close words runs ls)
close-ordered words runs [] h = h
close-ordered words runs (l ∷ ls) h =
    ⊎_elim
    (λ (run : is_equals l.kind ≡ true).
    ⊎_elim
    (λ (closes : (runs + 1 == words) ≡ true). rw (run, closes) (h.0, tt))
    (λ (goes : (runs + 1 == words) ≡ false). rw (run, goes) (h.0, close-ordered words (runs + 1) ls h.1))
    (cases_Bool (runs + 1 == words)))
    (λ (other : is_equals l.kind ≡ false). rw other (h.0, close-ordered (if is_module_word l.kind then words + 1 else words) runs ls h.1))
    (cases_Bool (is_equals l.kind))

part-ordered : (text : List ℕ) (found : Option ℕ) (lexemes : List Lexeme) → ((at : ℕ) → ReadsLongest text at) → option_map (λ at. part_from text at) found ≡ Some lexemes → AreOrdered lexemes
part-ordered text None lexemes law e = absurd (cc)
part-ordered text (Some at) lexemes law e =
    let same : part_from text at ≡ lexemes = cc in
    let all : List Lexeme = lexemes_after text at 0 (drop at text) in
    subst AreOrdered same (close-ordered 0 0 all (lexes-ordered text at all (law at)))

lie : (text : List ℕ) (ls : List Lexeme) → AreOrdered ls → All (λ l. IsPlaced text l.span) ls → AllByRecursion (LiesIn text) ls
lie text [] ordered placed = tt
lie text (l ∷ ls) ordered placed =
    let here : IsPlaced text l.span = placed 0 l (omega arith) in
    (record { order = ordered.0; start = here.start; end = here.end }, lie text ls ordered.1 (λ k d lt. placed (suc k) d (omega (arith, lt))))

pub text-lies : ((text : List ℕ) (at : ℕ) → ReadsLongest text at) → (text : List ℕ) (lexemes : List Lexeme) → module_part text ≡ Some lexemes → All (λ l. IsPlaced text l.span) lexemes → AllByRecursion (LiesIn text) lexemes
text-lies law text lexemes e placed = lie text lexemes (part-ordered text (header_of text) lexemes (λ at. law text at) e) placed
