-- Lexemes up to the closing run.
use Rattle.std.proofs.Common.{◌≡◌, ℕ, ◌+◌, ◌≤◌, Bool, true, false, ◌&&◌, ◌||◌, eqb, cond, List, [], ◌∷◌, ◌++◌, drop, refl, sym, ap, ◌∙◌, subst, append_assoc, arith}
use Rattle.std.proofs.lemmas.List.{append-nil}
use Rattle.tla_text.specs.declared.Place.{Place}
use Rattle.tla_text.specs.declared.Measure.TheVariants.{Alignment}
use Rattle.tla_text.specs.Places.{place_at}
use Rattle.std.proofs.lemmas.Bool.{both_ways}
use Rattle.tla_symbols.specs.declared.lexeme.LexKind.{LexKind}
use Rattle.tla_symbols.specs.declared.lexeme.LexKind.TheVariants.{Equals, Close}
use Rattle.tla_symbols.specs.declared.lexeme.Lexeme.{Lexeme}
use Rattle.tla_lexeme.specs.Lengths.{lexemes_behind}
use Rattle.tla_lexeme.specs.Lexing.{lexemes_after, lexeme_of}
use Rattle.tla_lexeme.specs.ModulePart.{is_equals, is_module_word, closed, up_to_close, part_from}

equals-no-word : (k : LexKind) → is_equals k ≡ true → is_module_word k ≡ false
equals-no-word Equals h = refl
equals-no-word k h = absurd (both_ways false refl h)

-- what is left of the lexemes behind one
abbrev pub rest_of : Bool → ℕ → ℕ → LexKind → List Lexeme → List Lexeme
rest_of closes words runs kind ls = cond closes [] (up_to_close (cond (is_module_word kind) (words + 1) words) (cond (is_equals kind) (runs + 1) runs) ls)

up_by : (equals module_word closes : Bool) (words runs : ℕ) (l : Lexeme) (ls : List Lexeme) → (equals ≡ true → module_word ≡ false) →
    cond equals (cond closes (closed l ∷ []) (l ∷ up_to_close words (runs + 1) ls)) (l ∷ up_to_close (cond module_word (words + 1) words) runs ls) ≡
    record { kind = cond (equals && closes) Close l.kind; span = l.span; line = l.line; col = l.col } ∷ cond (equals && closes) [] (up_to_close (cond module_word (words + 1) words) (cond equals (runs + 1) runs) ls)
up_by true true closes words runs l ls f = absurd (both_ways true (f refl) refl)
up_by true false true words runs l ls f = refl
up_by true false false words runs l ls f = refl
up_by false w closes words runs l ls f = refl

up_cons : (words runs : ℕ) (l : Lexeme) (ls : List Lexeme) → up_to_close words runs (l ∷ ls) ≡ record { kind = cond (is_equals l.kind && eqb (runs + 1) words) Close l.kind; span = l.span; line = l.line; col = l.col } ∷ rest_of (is_equals l.kind && eqb (runs + 1) words) words runs l.kind ls
up_cons words runs l ls = up_by (is_equals l.kind) (is_module_word l.kind) (eqb (runs + 1) words) words runs l ls (equals-no-word l.kind)

-- a lexeme is read
pub read_one : (text : List ℕ) (at len words runs : ℕ) (kind : LexKind) (closes : Bool) (ls : List Lexeme) → closes ≡ (is_equals kind && eqb (runs + 1) words) → up_to_close words runs (lexeme_of text at kind len ∷ ls) ≡ lexeme_of text at (cond closes Close kind) len ∷ rest_of closes words runs kind ls
read_one text at len words runs kind closes ls e =
    up_cons words runs (lexeme_of text at kind len) ls ∙ ap (λ b. lexeme_of text at (cond b Close kind) len ∷ rest_of b words runs kind ls) (sym e)

-- a turn of the loop: what was found, the lexeme, and what is left
pub part_turn : (found found' all ls : List Lexeme) (l : Lexeme) (left : List Lexeme) → found ++ ls ≡ all → ls ≡ l ∷ left → found' ≡ found ++ l ∷ [] → found' ++ left ≡ all
part_turn found found' all ls l left inv e isfound = ap (λ f. f ++ left) isfound ∙ append_assoc found (l ∷ []) left ∙ ap (λ x. found ++ x) (sym e) ∙ inv

-- nothing is left behind a lexeme that closes, or behind the last
pub none_left : (closes is_last : Bool) (words runs : ℕ) (kind : LexKind) (text : List ℕ) (end : ℕ) → (closes || is_last) ≡ true → rest_of closes words runs kind (lexemes_behind text is_last end) ≡ []
none_left true is_last words runs kind text end h = refl
none_left false true words runs kind text end h = refl
none_left false false words runs kind text end h = absurd (both_ways false refl h)

-- a lexeme as the code makes it
placed : (text : List ℕ) (here len : ℕ) (kind seen : LexKind) (place : Place) (l : Lexeme) → place ≡ place_at Alignment text here → seen ≡ kind → l ≡ record { kind = seen; span = record { start = here; end = here + len }; line = place.line; col = place.column } → l ≡ lexeme_of text here kind len
placed text here len kind seen place l isplace isseen is = is ∙ ap (λ p. record { kind = seen; span = record { start = here; end = here + len }; line = p.line; col = p.column }) isplace ∙ ap (λ k. lexeme_of text here k len) isseen

pub whole_turn : (text bytes : List ℕ) (found found' : List Lexeme) (start at words runs here len : ℕ) (kind seen : LexKind) (closes is_last : Bool) (place : Place) (l : Lexeme) → bytes ≡ text →
    found ++ up_to_close words runs (lexemes_after text at 0 (drop at text)) ≡ part_from text start →
    lexemes_after bytes at 0 (drop at bytes) ≡ lexeme_of bytes here kind len ∷ lexemes_behind bytes is_last (here + len) →
    closes ≡ (is_equals kind && eqb (runs + 1) words) → place ≡ place_at Alignment text here → seen ≡ cond closes Close kind →
    l ≡ record { kind = seen; span = record { start = here; end = here + len }; line = place.line; col = place.column } → found' ≡ found ++ l ∷ [] →
    found' ++ rest_of closes words runs kind (lexemes_behind text is_last (here + len)) ≡ part_from text start
whole_turn text bytes found found' start at words runs here len kind seen closes is_last place l same inv lexemes iscloses isplace isseen isl isfound =
    let there : lexemes_after text at 0 (drop at text) ≡ lexeme_of text here kind len ∷ lexemes_behind text is_last (here + len) = subst (λ t. lexemes_after t at 0 (drop at t) ≡ lexeme_of t here kind len ∷ lexemes_behind t is_last (here + len)) same lexemes in
    let one = read_one text here len words runs kind closes (lexemes_behind text is_last (here + len)) iscloses in
    part_turn found found' (part_from text start) (up_to_close words runs (lexemes_after text at 0 (drop at text))) (lexeme_of text here (cond closes Close kind) len) (rest_of closes words runs kind (lexemes_behind text is_last (here + len))) inv (ap (up_to_close words runs) there ∙ one)
    (isfound ∙ ap (λ x. found ++ x ∷ []) (placed text here len (cond closes Close kind) seen place l isplace isseen isl))

-- what is left after a turn that goes on, and after the last
pub left_more : (text : List ℕ) (found : List Lexeme) (start words runs words' runs' end : ℕ) (kind : LexKind) (closes is_last : Bool) → found ++ rest_of closes words runs kind (lexemes_behind text is_last end) ≡ part_from text start → closes ≡ false → is_last ≡ false → words' ≡ cond (is_module_word kind) (words + 1) words → runs' ≡ cond (is_equals kind) (runs + 1) runs → found ++ up_to_close words' runs' (lexemes_after text end 0 (drop end text)) ≡ part_from text start
left_more text found start words runs words' runs' end kind closes is_last h nc nl w r =
    ap (λ n. found ++ up_to_close n runs' (lexemes_after text end 0 (drop end text))) w ∙ ap (λ n. found ++ up_to_close (cond (is_module_word kind) (words + 1) words) n (lexemes_after text end 0 (drop end text))) r ∙ sym (ap (λ b. found ++ rest_of false words runs kind (lexemes_behind text b end)) nl) ∙ sym (ap (λ b. found ++ rest_of b words runs kind (lexemes_behind text is_last end)) nc) ∙ h

pub left_none : (text : List ℕ) (found : List Lexeme) (start words runs end : ℕ) (kind : LexKind) (closes is_last : Bool) → found ++ rest_of closes words runs kind (lexemes_behind text is_last end) ≡ part_from text start → (closes || is_last) ≡ true → found ≡ part_from text start
left_none text found start words runs end kind closes is_last h last = sym (append-nil found) ∙ sym (ap (λ x. found ++ x) (none_left closes is_last words runs kind text end last)) ∙ h

pub count-le : (b : Bool) (n m : ℕ) → n + 1 ≤ m → cond b (n + 1) n ≤ m
count-le true n m h = h
count-le false n m h = omega (arith, h)
