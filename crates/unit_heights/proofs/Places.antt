-- Of lexemes that begin one behind the other each is found by its place.
use Rattle.std.proofs.Common.{◌≡◌, ℕ, suc, ◌≤◌, List, [], ◌∷◌, ◌++◌, refl, length, arith}
use Rattle.std.proofs.lemmas.Bool.{ne_eqb, eq-eqb}
use Rattle.tla_symbols.specs.declared.lexeme.Lexeme.{Lexeme}
use Rattle.unit_heights.specs.FirstHigh.{BeginsFurther, place_of}

behind : (at : ℕ) (before : List Lexeme) (l : Lexeme) (after : List Lexeme) → BeginsFurther at (before ++ l ∷ after) → at ≤ l.span.start
behind at [] l after h = h.0
behind at (b ∷ before) l after h = omega (arith, h.0, behind (suc b.span.start) before l after h.1)

pub place_of-there : (at : ℕ) (before : List Lexeme) (l : Lexeme) (after : List Lexeme) → BeginsFurther at (before ++ l ∷ after) → place_of (before ++ l ∷ after) l.span.start ≡ length before
place_of-there at [] l after h = rw (eq-eqb l.span.start l.span.start refl) refl
place_of-there at (b ∷ before) l after h =
    let further : suc b.span.start ≤ l.span.start = behind (suc b.span.start) before l after h.1 in
    rw (ne_eqb b.span.start l.span.start (λ e. absurd (omega (arith, e, further)))) (omega (arith, place_of-there (suc b.span.start) before l after h.1))
