-- The lexemes of a text begin one behind the other.
use Rattle.std.proofs.Common.{◌≡◌, ◌≤◌, ◌<◌, ◌+◌, ◌-◌, ◌⊎◌, inl, inr, ℕ, zero, suc, List, [], ◌∷◌, Bool, true, false, Option, Some, None, refl, subst, drop, if◌then◌else◌, arith, ⊎_elim}
use Rattle.std.specs.Prelude.{◌==◌}
use Rattle.std.proofs.lemmas.Bool.{eqb-true}
use Rattle.tla_symbols.specs.declared.lexeme.Lexeme.{Lexeme}
use Rattle.tla_lexeme.specs.declared.begin.Begin.{Begin}
use Rattle.tla_lexeme.specs.declared.begin.Begin.TheVariants.{Gap, Longest, Nothing, TextEnd}
use Rattle.tla_lexeme.specs.Lexing.{lexeme_of, lexemes_after, what_begins}
use Rattle.tla_lexeme.specs.ModulePart.{closed, header_of, is_equals, is_module_word, module_part, part_from, up_to_close}
use Rattle.lexeme_laws.specs.Apart.{BeginApart, begins_at, counted, weight}
use Rattle.tla_symbols.specs.declared.lexeme.LexKind.TheVariants.{Bad, End}

-- lexemes begin one behind the other, the first from here on
abbrev pub From : ℕ → List Lexeme → Type 0
From at [] = Unit {0}
From at (l ∷ ls) = (at ≤ l.span.start) × From (l.span.start + 1) ls

earlier : (at more : ℕ) (ls : List Lexeme) → at ≤ more → From more ls → From at ls
earlier at more [] le h = tt
earlier at more (l ∷ ls) le h = (omega (arith, le, h.0), h.1)

-- what begins a text, and what follows it
abbrev from_begin : List ℕ → ℕ → List ℕ → Begin → List Lexeme
from_begin text at cs b = elim b [
  | Gap len ↦ lexemes_after text (at + 1) (len - 1) cs
  | Longest m ↦ lexeme_of text at m.kind m.len ∷ lexemes_after text (at + 1) (m.len - 1) cs
  | Nothing len ↦ lexeme_of text at Bad len ∷ []
  | TextEnd ↦ lexeme_of text at End 0 ∷ []
]

begun : (text : List ℕ) (at : ℕ) (cs : List ℕ) → ((skip : ℕ) → From (at + 1) (lexemes_after text (at + 1) skip cs)) → (b : Begin) → From at (from_begin text at cs b)
begun text at cs rest (Gap len) = earlier at (at + 1) (lexemes_after text (at + 1) (len - 1) cs) (omega arith) (rest (len - 1))
begun text at cs rest (Longest m) = (omega arith, rest (m.len - 1))
begun text at cs rest (Nothing len) = (omega arith, tt)
begun text at cs rest TextEnd = (omega arith, tt)

lexed : (text : List ℕ) (at skip : ℕ) (bytes : List ℕ) → From at (lexemes_after text at skip bytes)
lexed text at skip [] = (omega arith, tt)
lexed text at (suc skip) (c ∷ cs) = earlier at (at + 1) (lexemes_after text (at + 1) skip cs) (omega arith) (lexed text (at + 1) skip cs)
lexed text at zero (c ∷ cs) = begun text at cs (λ skip. lexed text (at + 1) skip cs) (what_begins (c ∷ cs))

-- what is kept of a lexeme and those behind it
kept-from : (at : ℕ) (l : Lexeme) (behind others : List Lexeme) (run closes : Bool) → at ≤ l.span.start → From (l.span.start + 1) behind → From (l.span.start + 1) others
    → From at (if run then (if closes then closed l ∷ [] else l ∷ behind) else l ∷ others)
kept-from at l behind others true true le h k = (le, tt)
kept-from at l behind others true false le h k = (le, h)
kept-from at l behind others false closes le h k = (le, k)

closed-from : (at words runs : ℕ) (ls : List Lexeme) → From at ls → From at (up_to_close words runs ls)
closed-from at words runs [] h = tt
closed-from at words runs (l ∷ ls) h =
    kept-from at l (up_to_close words (runs + 1) ls) (up_to_close (if is_module_word l.kind then words + 1 else words) runs ls) (is_equals l.kind) (runs + 1 == words) h.0
    (closed-from (l.span.start + 1) words (runs + 1) ls h.1) (closed-from (l.span.start + 1) (if is_module_word l.kind then words + 1 else words) runs ls h.1)

part-begins : (text : List ℕ) (at : ℕ) → From at (part_from text at)
part-begins text at = closed-from at 0 0 (lexemes_after text at 0 (drop at text)) (lexed text at 0 (drop at text))

-- a lexeme that begins later does not begin here, and one that does counts once
weight-later : (start : ℕ) (l : Lexeme) → start < l.span.start → weight (begins_at start) l ≡ 0
weight-later start l lt = by (begins_at start l) refl
  where
    by : (b : Bool) → begins_at start l ≡ b → weight (begins_at start) l ≡ 0
    by true e = absurd (omega (arith, lt, eqb-true l.span.start start e))
    by false e = rw e refl

weight-few : (start : ℕ) (l : Lexeme) → weight (begins_at start) l ≤ 1
weight-few start l = by (begins_at start l) refl
  where
    by : (b : Bool) → begins_at start l ≡ b → weight (begins_at start) l ≤ 1
    by true e = rw e (omega arith)
    by false e = rw e (omega arith)

weight-here : (start : ℕ) (l : Lexeme) → (weight (begins_at start) l ≡ 0) ⊎ (l.span.start ≡ start)
weight-here start l = by (begins_at start l) refl
  where
    by : (b : Bool) → begins_at start l ≡ b → (weight (begins_at start) l ≡ 0) ⊎ (l.span.start ≡ start)
    by true e = inr (eqb-true l.span.start start e)
    by false e = inl (rw e refl)

-- none of those behind begins here
none-behind : (start at : ℕ) (ls : List Lexeme) → start < at → From at ls → counted (begins_at start) ls ≡ 0
none-behind start at [] lt h = refl
none-behind start at (l ∷ ls) lt h =
    omega (arith, weight-later start l (omega (arith, lt, h.0)), none-behind start (l.span.start + 1) ls (omega (arith, lt, h.0)) h.1)

apart : (start at : ℕ) (ls : List Lexeme) → From at ls → counted (begins_at start) ls ≤ 1
apart start at [] h = omega arith
apart start at (l ∷ ls) h =
    ⊎_elim
    (λ (none : weight (begins_at start) l ≡ 0). omega (arith, none, apart start (l.span.start + 1) ls h.1))
    (λ (here : l.span.start ≡ start). omega (arith, weight-few start l, none-behind start (l.span.start + 1) ls (omega (arith, here)) h.1))
    (weight-here start l)

pub part-apart : (text : List ℕ) (lexemes : List Lexeme) → module_part text ≡ Some lexemes → BeginApart lexemes
part-apart text lexemes e start = by (header_of text) refl
  where
    by : (found : Option ℕ) → header_of text ≡ found → counted (begins_at start) lexemes ≤ 1
    by None h = absurd (cc)
    by (Some at) h =
        let same : part_from text at ≡ lexemes = cc in
        subst (λ ls. counted (begins_at start) ls ≤ 1) same (apart start at (part_from text at) (part-begins text at))
