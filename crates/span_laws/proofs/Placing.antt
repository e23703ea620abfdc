-- The lexemes of a module that is read lie in its text.
use Rattle.std.proofs.Common.{◌≡◌, ℕ, zero, suc, ◌+◌, ◌⊎◌, inl, inr, Bool, true, false, leb, List, [], ◌∷◌, ◌++◌, length, get_or, take, drop, Option, Some, None, refl, sym, ap, ◌∙◌, subst, ⊎_elim, if◌then◌else◌, arith, length-drop, add-zero}
use Rattle.std.specs.Prelude.{◌==◌}
use Rattle.std.specs.List.{prefix_len, AllByRecursion}
use Rattle.std.specs.Option.{option_map}
use Rattle.std.specs.Str.{IsUtf8, is_utf8, IsCharBoundary}
use Rattle.std.proofs.Math.Seq.{take-length}
use Rattle.std.proofs.lemmas.Bool.{cases_Bool, and_parts, both_ways, leb-true, eqb-true, cond-true, cond-false}
use Rattle.std.proofs.lemmas.List.{get_or-drop, drop-drop}
use Rattle.std.proofs.lemmas.List.Sums.{prefix_len_passes}
use Rattle.std.proofs.lemmas.Str.{IsCharBoundary-before_ascii, IsUtf8-from_is_utf8, is_utf8-from_IsUtf8, IsUtf8-nil}
use Rattle.tla_symbols.specs.declared.lexeme.LexKind.{LexKind}
use Rattle.tla_symbols.specs.declared.lexeme.Lexeme.{Lexeme}
use Rattle.tla_lexeme.specs.declared.class.Class.TheVariants.{Dash, Space}
use Rattle.tla_lexeme.specs.LexemeSets.{is_in}
use Rattle.tla_lexeme.specs.Lexing.{lexemes_after}
use Rattle.tla_lexeme.specs.Longest.{IsEnd, IsTaken, IsNext, Lexes, ReadsLongest}
use Rattle.tla_lexeme.specs.ModulePart.{begins_with_header, begins_with_module, behind, closed, header_from, header_of, is_equals, is_module_word, module_part, part_from, up_to_close}
use Rattle.tla_lexeme.proofs.StringLemmas.{some_same}
use Rattle.tla_model.specs.Lexemes.{LiesIn}
use Rattle.front_laws.specs.Fronts.{greatest, readable_len}
use Rattle.front_laws.proofs.OneFront.{greatest-le}
use Rattle.span_laws.proofs.Gaps.{gaps-cut, taken-cut}

-- all lexemes lie in a text
abbrev pub Lie : List ℕ → List Lexeme → Type 0
Lie text lexemes = AllByRecursion (LiesIn text) lexemes

-- the last lexeme closes a module
abbrev pub EndsClosed : List Lexeme → Type 0
EndsClosed [] = ⊥
EndsClosed (l ∷ []) = l.kind ≡ LexKind.Close
EndsClosed (l ∷ m ∷ ls) = EndsClosed (m ∷ ls)

closed-cons : (l : Lexeme) (ls : List Lexeme) → EndsClosed ls → EndsClosed (l ∷ ls)
closed-cons l [] h = absurd h
closed-cons l (m ∷ ls) h = h

pub closed-append : (a b : List Lexeme) → EndsClosed b → EndsClosed (a ++ b)
closed-append [] b h = h
closed-append (l ∷ a) b h = closed-cons l (a ++ b) (closed-append a b h)

closed-rest : (l m : Lexeme) (rest ls : List Lexeme) → rest ≡ m ∷ ls → EndsClosed (l ∷ rest) → EndsClosed rest
closed-rest l m rest ls e h = subst EndsClosed (sym e) (subst (λ r. EndsClosed (l ∷ r)) e h)

-- ---- lexemes from an offset on

taken-lies : (text : List ℕ) (at : ℕ) (l : Lexeme) → IsUtf8 text → IsCharBoundary text at → IsNext text at l IsTaken → LiesIn text l
taken-lies text at l utf8 cut h = record {
  order = omega (arith, h.end);
  start = gaps-cut text at h.gaps l.span.start utf8 cut h.passed;
  end = subst (IsCharBoundary text) (sym h.end) (taken-cut text l.span.start l.kind h.len utf8 h.is);
}

end-kind : (text : List ℕ) (kind : LexKind) (len : ℕ) → IsEnd text kind len → (kind ≡ LexKind.End) ⊎ (kind ≡ LexKind.Bad)
end-kind text kind len (inl h) = inl h.1
end-kind text kind len (inr (inl h)) = inr h.2
end-kind text kind len (inr (inr h)) = inr h.2

-- ---- up to the closing run

-- what is kept of a lexeme and those behind it
abbrev Kept : Bool → Bool → Lexeme → List Lexeme → List Lexeme → List Lexeme
Kept run closes l behind other = if run then (if closes then closed l ∷ [] else l ∷ behind) else l ∷ other

open-by : (run closes : Bool) (l : Lexeme) → run ≡ false → (l.kind ≡ LexKind.Close → ⊥) → EndsClosed (Kept run closes l [] []) → ⊥
open-by true closes l none other h = absurd (both_ways true none refl)
open-by false closes l none other h = other h

-- the last lexeme of a text closes no module
end-open : (words runs : ℕ) (l : Lexeme) → (l.kind ≡ LexKind.End) ⊎ (l.kind ≡ LexKind.Bad) → EndsClosed (up_to_close words runs (l ∷ [])) → ⊥
end-open words runs l (inl e) h = open-by (is_equals l.kind) (runs + 1 == words) l (ap is_equals e) (λ k. other (sym e ∙ k)) h
  where
    other : LexKind.End ≡ LexKind.Close → ⊥
    other k = cc
end-open words runs l (inr e) h = open-by (is_equals l.kind) (runs + 1 == words) l (ap is_equals e) (λ k. other (sym e ∙ k)) h
  where
    other : LexKind.Bad ≡ LexKind.Close → ⊥
    other k = cc

some-by : (run closes : Bool) (l : Lexeme) (a b : List Lexeme) → (m : Lexeme) × (more : List Lexeme) × (Kept run closes l a b ≡ m ∷ more)
some-by true true l a b = (closed l, [], refl)
some-by true false l a b = (l, a, refl)
some-by false closes l a b = (l, b, refl)

-- what is kept of lexemes has a first, so the last of them is behind any other
behind-closed : (words runs : ℕ) (l m : Lexeme) (ls : List Lexeme) → EndsClosed (l ∷ up_to_close words runs (m ∷ ls)) → EndsClosed (up_to_close words runs (m ∷ ls))
behind-closed words runs l m ls h =
    let some = some-by (is_equals m.kind) (runs + 1 == words) m (up_to_close words (runs + 1) ls) (up_to_close (if is_module_word m.kind then words + 1 else words) runs ls) in
    closed-rest l some.0 (up_to_close words runs (m ∷ ls)) some.1 some.2 h

lie-by : (text : List ℕ) (run closes : Bool) (l : Lexeme) (a b : List Lexeme) → LiesIn text l → (EndsClosed (l ∷ a) → Lie text a) → (EndsClosed (l ∷ b) → Lie text b) → EndsClosed (Kept run closes l a b) → Lie text (Kept run closes l a b)
lie-by text true true l a b here one two h = (record { order = here.order; start = here.start; end = here.end }, tt)
lie-by text true false l a b here one two h = (here, one h)
lie-by text false closes l a b here one two h = (here, two h)

lexes-lie : (text : List ℕ) (at words runs : ℕ) (ls : List Lexeme) → IsUtf8 text → IsCharBoundary text at → Lexes text at ls → EndsClosed (up_to_close words runs ls) → Lie text (up_to_close words runs ls)
lexes-lie text at words runs [] utf8 cut h ends = tt
lexes-lie text at words runs (l ∷ []) utf8 cut h ends = absurd (end-open words runs l (end-kind (drop l.span.start text) l.kind h.len h.is) ends)
lexes-lie text at words runs (l ∷ m ∷ ls) utf8 cut h ends =
    let here : LiesIn text l = taken-lies text at l utf8 cut h.0 in
    let more : ℕ = if is_module_word l.kind then words + 1 else words in
    lie-by text (is_equals l.kind) (runs + 1 == words) l (up_to_close words (runs + 1) (m ∷ ls)) (up_to_close more runs (m ∷ ls)) here
    (λ e. lexes-lie text l.span.end words (runs + 1) (m ∷ ls) utf8 here.end h.1 (behind-closed words (runs + 1) l m ls e))
    (λ e. lexes-lie text l.span.end more runs (m ∷ ls) utf8 here.end h.1 (behind-closed more runs l m ls e))
    ends

-- ---- the header

header-dash : (c : ℕ) (cs : List ℕ) → begins_with_header (c ∷ cs) ≡ true → c ≡ 45
header-dash c cs h =
    let four = leb-true 4 (prefix_len (is_in Dash) (c ∷ cs)) (and_parts (leb 4 (prefix_len (is_in Dash) (c ∷ cs))) (begins_with_module (behind (is_in Space) (behind (is_in Dash) (c ∷ cs)))) h).0 in
    eqb-true c 45 (prefix_len_passes (is_in Dash) (c ∷ cs) 0 0 (omega (arith, four)))

-- a header begins at a character
header-cut : (text : List ℕ) (at : ℕ) (xs : List ℕ) (n : ℕ) → drop at text ≡ xs → header_from at xs ≡ Some n → IsCharBoundary text n
header-cut text at [] n e h = absurd (cc)
header-cut text at (c ∷ cs) n e h =
    ⊎_elim
    (λ (yes : begins_with_header (c ∷ cs) ≡ true).
    let same : at ≡ n = some_same at n (sym (cond-true (begins_with_header (c ∷ cs)) (Some at) (header_from (at + 1) cs) yes) ∙ h) in
    let first : get_or text at 0 ≡ c = ap (λ i. get_or text i 0) (sym (add-zero at)) ∙ sym (get_or-drop at text 0 0) ∙ ap (λ r. get_or r 0 0) e in
    subst (IsCharBoundary text) same (IsCharBoundary-before_ascii text at (omega (arith, ap length e, length-drop at text)) (omega (arith, first, header-dash c cs yes))))
    (λ (later : begins_with_header (c ∷ cs) ≡ false).
    header-cut text (at + 1) cs n (sym (drop-drop 1 at text) ∙ ap (drop 1) e) (sym (cond-false (begins_with_header (c ∷ cs)) (Some at) (header_from (at + 1) cs) later) ∙ h))
    (cases_Bool (begins_with_header (c ∷ cs)))

-- ---- of bytes that are read

greatest-passes : (p : ℕ → Bool) (n : ℕ) → greatest p n ≡ n → p 0 ≡ true → p n ≡ true
greatest-passes p zero e first = first
greatest-passes p (suc n) e first =
    ⊎_elim
    (λ (yes : p (suc n) ≡ true). yes)
    (λ (no_one : p (suc n) ≡ false). absurd (omega (arith, e, cond-false (p (suc n)) (suc n) (greatest p n) no_one, greatest-le p n)))
    (cases_Bool (p (suc n)))

-- bytes that can be read whole are a text
readable-utf8 : (bytes : List ℕ) → readable_len bytes ≡ length bytes → IsUtf8 bytes
readable-utf8 bytes e = subst IsUtf8 (take-length bytes) (IsUtf8-from_is_utf8 (take (length bytes) bytes) (greatest-passes (λ n. is_utf8 (take n bytes)) (length bytes) e (is_utf8-from_IsUtf8 [] IsUtf8-nil)))

part-lies : (text : List ℕ) (found : Option ℕ) (lexemes : List Lexeme) → ((at : ℕ) → ReadsLongest text at) → IsUtf8 text → header_of text ≡ found → option_map (λ at. part_from text at) found ≡ Some lexemes → EndsClosed lexemes → Lie text lexemes
part-lies text None lexemes law utf8 header e ends = absurd (cc)
part-lies text (Some at) lexemes law utf8 header e ends =
    let same : part_from text at ≡ lexemes = cc in
    subst (Lie text) same (lexes-lie text at 0 0 (lexemes_after text at 0 (drop at text)) utf8 (header-cut text 0 text at refl header) (law at) (subst EndsClosed (sym same) ends))

pub text-lies : ((text : List ℕ) (at : ℕ) → ReadsLongest text at) → (text : List ℕ) (lexemes : List Lexeme) → readable_len text ≡ length text → module_part text ≡ Some lexemes → EndsClosed lexemes → Lie text lexemes
text-lies law text lexemes readable e ends = part-lies text (header_of text) lexemes (λ at. law text at) (readable-utf8 text readable) refl e ends
