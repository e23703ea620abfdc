-- What stands behind what begins at a place.
use Rattle.std.proofs.Common.{◌≡◌, ℕ, zero, suc, ◌+◌, ◌-◌, ◌<◌, ◌≤◌, Bool, true, false, ◌||◌, eqb, leb, ltb, cond, List, [], ◌∷◌, length, get_or, take, drop, codes, Option, Some, None, refl, sym, ap, ◌∙◌, subst, ⊎_elim, arith, length-drop, add-zero}
use Rattle.std.proofs.lemmas.Bool.{cases_lt, or_parts, or_cases, both_ways, eqb-true, cond-true, cond-false, cond_both, not-false}
use Rattle.std.proofs.lemmas.List.{get_or-drop, get_or-take, drop-drop, drop_all}
use Rattle.std.proofs.lemmas.List.Sums.{prefix_len_stops}
use Rattle.std.proofs.lemmas.Slice.Eq.{bytes_eq-Decides}
use Rattle.std.proofs.lemmas.Str.{IsCharBoundary-after_ascii, IsCharBoundary-before_ascii, IsCharBoundary-end}
use Rattle.std.specs.List.{list_any, prefix_len}
use Rattle.std.specs.Str.{IsUtf8, IsCharBoundary, continuation_len}
use Rattle.tla_symbols.specs.declared.lexeme.LexKind.{LexKind}
use Rattle.tla_symbols.specs.declared.lexeme.LexKind.TheVariants.{Bad, End}
use Rattle.tla_symbols.specs.declared.lexeme.Lexeme.{Lexeme}
use Rattle.tla_lexeme.specs.declared.begin.Member.{Member}
use Rattle.tla_lexeme.specs.declared.begin.Begin.{Begin}
use Rattle.tla_lexeme.specs.declared.begin.Begin.TheVariants.{Gap, Longest, Nothing, TextEnd}
use Rattle.tla_lexeme.specs.declared.class.Class.TheVariants.{Letter, WordChar, InLine, Blank}
use Rattle.tla_lexeme.specs.LexemeSets.{is_in, kind_of}
use Rattle.tla_lexeme.specs.Lexing.{longest_of, member_or, lexeme_at, begins, line_len, comment_end, comment_len, char_len, gap_or_fault, longest_or_fault, what_begins, lexeme_of, lexemes_after}
use Rattle.tla_lexeme.specs.Lengths.{has_letter, bare_len, is_gap}
use Rattle.tla_lexeme.proofs.SetLemmas.{prefix-le}
use Rattle.tla_lexeme.proofs.CommentLemmas.{begins_longer}
use Rattle.tla_lexeme.proofs.WordLemmas.{bare-none}
use Rattle.tla_lexeme.proofs.HeaderLemmas.{prefix-drop}
use Rattle.tla_lexeme.proofs.LastLemmas.{member-low, last-take}

-- so many bytes are passed over, up to the beginning of a character
pub record IsStep (text : List ℕ) (at len : ℕ) : Type 0 where
  pub some : 0 < len
  pub fits : at + len ≤ length text
  pub cut : IsCharBoundary text (at + len)

-- ---- a prefix whose last byte is ASCII

-- the prefix of what stands at a place
pub record IsLowFront (rest : List ℕ) (len : ℕ) : Type 0 where
  pub some : 0 < len
  pub fits : len ≤ length rest
  pub low : get_or rest (len - 1) 0 < 128

pub step_from : (text : List ℕ) (at len : ℕ) → IsUtf8 text → at ≤ length text → IsLowFront (drop at text) len → IsStep text at len
step_from text at len u l h =
    let place : at + (len - 1) + 1 ≡ at + len = omega (arith, h.some) in
    let inside : at + len ≤ length text = omega (arith, h.fits, length-drop at text) in record {
      some = h.some;
      fits = inside;
      cut = subst (λ n. IsCharBoundary text n) place (IsCharBoundary-after_ascii text (at + (len - 1)) u (omega (arith, h.some)) (subst (λ b. b < 128) (get_or-drop at text (len - 1) 0) h.low));
    }

-- ---- lexemes

some_same : {A : Type 0} (a b : A) → (let o : Option A = Some a in o) ≡ Some b → a ≡ b
some_same a b e = cc

none_some : {A : Type 0} (b : A) → (let o : Option A = None in o) ≡ Some b → ⊥
none_some b e = cc

record IsMember (kind : List ℕ → Option LexKind) (most : ℕ) (text : List ℕ) (m : Member) : Type 0 where
  pub some : 0 < m.len
  pub fits : m.len ≤ most
  pub is : kind (take m.len text) ≡ Some m.kind

longest_is : (kind : List ℕ → Option LexKind) (most : ℕ) (text : List ℕ) (m : Member) → longest_of kind most text ≡ Some m → IsMember kind most text m
longest_is kind zero text m h = absurd (none_some m h)
longest_is kind (suc n) text m h = by_kind (kind (take (suc n) text)) refl h (λ g. longest_is kind n text m g)
  where
    by_kind : (o : Option LexKind) → kind (take (suc n) text) ≡ o → member_or o (suc n) (longest_of kind n text) ≡ Some m → (longest_of kind n text ≡ Some m → IsMember kind n text m) → IsMember kind (suc n) text m
    by_kind None e g more = let is = more g in record { some = is.some; fits = omega (arith, is.fits); is = is.is }
    by_kind (Some k) e g more =
        let same = some_same (record { len = suc n; kind = k }) m g in
        subst (λ x. IsMember kind (suc n) text x) same (record { some = omega arith; fits = omega arith; is = e })

low_member : (c : ℕ) (cs : List ℕ) (n : ℕ) (k : LexKind) → n ≤ length (c ∷ cs) → 0 < n → kind_of (take n (c ∷ cs)) ≡ Some k → IsLowFront (c ∷ cs) n
low_member c cs zero k l pos h = absurd (omega arith)
low_member c cs (suc n) k l pos h = record {
  some = pos;
  fits = l;
  low = subst (λ i. get_or (c ∷ cs) i 0 < 128) (let e : n ≡ suc n - 1 = omega arith in e) (subst (λ b. b < 128) (last-take n c cs (omega arith)) (member-low c (take n cs) k h));
}

lexeme_low : (c : ℕ) (cs : List ℕ) (m : Member) → lexeme_at (c ∷ cs) ≡ Some m → IsLowFront (c ∷ cs) m.len
lexeme_low c cs m h = let is = longest_is kind_of (length (c ∷ cs)) (c ∷ cs) m h in low_member c cs m.len m.kind is.fits is.some is.is

-- ---- comments

pub front_byte : (f xs : List ℕ) (i : ℕ) → begins xs f ≡ true → i < length f → get_or xs i 0 ≡ get_or f i 0
front_byte f xs i h l = let e : f ≡ take (length f) xs = (bytes_eq-Decides f (take (length f) xs)).0 h in sym (get_or-take (length f) xs i 0 l) ∙ sym (ap (λ k. get_or k i 0) e)

-- where a comment ends, its last byte is a parenthesis
pub record EndsComment (at n : ℕ) (xs : List ℕ) : Type 0 where
  pub last_at : ℕ
  pub size : n ≡ at + suc last_at
  pub inside : last_at < length xs
  pub paren : get_or xs last_at 0 ≡ 41

comment_shift : (at n c : ℕ) (cs : List ℕ) → EndsComment (at + 1) n cs → EndsComment at n (c ∷ cs)
comment_shift at n c cs h = record { last_at = suc h.last_at; size = omega (arith, h.size); inside = omega (arith, h.inside); paren = h.paren }

pub comment_low : (at depth skip : ℕ) (xs : List ℕ) (n : ℕ) → comment_end at depth skip xs ≡ Some n → EndsComment at n xs
comment_low at depth skip [] n h = absurd (none_some n h)
comment_low at depth (suc skip) (c ∷ cs) n h = comment_shift at n c cs (comment_low (at + 1) depth skip cs n h)
comment_low at depth zero (c ∷ cs) n h = by_begin (begins (c ∷ cs) (codes "(*")) (begins (c ∷ cs) (codes "*)")) (leb depth 1) refl h (λ d s g. comment_shift at n c cs (comment_low (at + 1) d s cs n g))
  where
    by_begin : (opens closes ends : Bool) → begins (c ∷ cs) (codes "*)") ≡ closes → cond opens (comment_end (at + 1) (depth + 1) 1 cs) (cond closes (cond ends (Some (at + 2)) (comment_end (at + 1) (depth - 1) 1 cs)) (comment_end (at + 1) depth 0 cs)) ≡ Some n → ((d s : ℕ) → comment_end (at + 1) d s cs ≡ Some n → EndsComment at n (c ∷ cs)) → EndsComment at n (c ∷ cs)
    by_begin true closes ends e g more = more (depth + 1) 1 g
    by_begin false true true e g more = record {
      last_at = 1;
      size = let same = some_same (at + 2) n g in omega (arith, same);
      inside = omega (arith, begins_longer (codes "*)") (c ∷ cs) e);
      paren = front_byte (codes "*)") (c ∷ cs) 1 e (omega arith);
    }
    by_begin false true false e g more = more (depth - 1) 1 g
    by_begin false false ends e g more = more depth 0 g

pub low_comment : (c : ℕ) (cs : List ℕ) (n : ℕ) → comment_len (c ∷ cs) ≡ Some n → IsLowFront (c ∷ cs) n
low_comment c cs n h =
    let is = comment_low 0 0 0 (c ∷ cs) n h in record {
      some = omega (arith, is.size);
      fits = omega (arith, is.size, is.inside);
      low = subst (λ i. get_or (c ∷ cs) i 0 < 128) (let e : is.last_at ≡ n - 1 = omega (arith, is.size) in e) (subst (λ b. b < 128) (sym is.paren) (omega arith));
    }

-- a comment to the line's end stops at a byte of a line end, or at the text's end
pub line-stops : (b : ℕ) → is_in InLine b ≡ false → b < 128
line-stops b h = ⊎_elim (λ (e : eqb b 10 ≡ true). omega (arith, eqb-true b 10 e)) (λ (e : eqb b 13 ≡ true). omega (arith, eqb-true b 13 e)) (or_cases (eqb b 10) (eqb b 13) (not-false (eqb b 10 || eqb b 13) h))

pub line-some : (c : ℕ) (cs : List ℕ) → begins (c ∷ cs) (codes "\\*") ≡ true → 0 < line_len (c ∷ cs)
line-some c cs h =
    let first : c ≡ 92 = front_byte (codes "\\*") (c ∷ cs) 0 h (omega arith) in
    let e : line_len (c ∷ cs) ≡ 1 + line_len cs = cond-true (is_in InLine c) (1 + line_len cs) 0 (subst (λ b. is_in InLine b ≡ true) (sym first) refl) in
    omega (arith, e)

line_step : (text : List ℕ) (at : ℕ) → at ≤ length text → 0 < line_len (drop at text) → IsStep text at (line_len (drop at text))
line_step text at l some =
    let n : ℕ = line_len (drop at text) in
    let fits = prefix-le (is_in InLine) (drop at text) in
    let inside : at + n ≤ length text = omega (arith, fits, length-drop at text) in record {
      some = some;
      fits = inside;
      cut = ⊎_elim
          (λ (lt : at + n < length text). IsCharBoundary-before_ascii text (at + n) lt (subst (λ b. b < 128) (get_or-drop at text n 0) (line-stops (get_or (drop at text) n 0) (prefix_len_stops (is_in InLine) (drop at text) 0 (omega (arith, length-drop at text))))))
          (λ (ge : length text ≤ at + n). subst (λ i. IsCharBoundary text i) (let e : length text ≡ at + n = omega arith in e) (IsCharBoundary-end text))
          (cases_lt (at + n) (length text));
    }

-- ---- what begins

-- what begins at a place ends where a character does
abbrev pub IsSound : List ℕ → ℕ → Begin → Type 0
IsSound text at (Gap len) = IsStep text at len
IsSound text at (Longest m) = IsStep text at m.len
IsSound text at (Nothing len) = len ≤ 4
IsSound text at TextEnd = ⊥

pub blank-low : (b : ℕ) → is_in Blank b ≡ true → b < 128
blank-low b h =
    ⊎_elim
    (λ (first : (eqb b 32 || eqb b 9 || eqb b 12 || eqb b 10) ≡ true).
    ⊎_elim
    (λ (second : (eqb b 32 || eqb b 9 || eqb b 12) ≡ true).
    ⊎_elim (λ (third : (eqb b 32 || eqb b 9) ≡ true). ⊎_elim (λ (e : eqb b 32 ≡ true). omega (arith, eqb-true b 32 e)) (λ (e : eqb b 9 ≡ true). omega (arith, eqb-true b 9 e)) (or_cases (eqb b 32) (eqb b 9) third)) (λ (e : eqb b 12 ≡ true). omega (arith, eqb-true b 12 e))
    (or_cases (eqb b 32 || eqb b 9) (eqb b 12) second))
    (λ (e : eqb b 10 ≡ true). omega (arith, eqb-true b 10 e))
    (or_cases (eqb b 32 || eqb b 9 || eqb b 12) (eqb b 10) first))
    (λ (e : eqb b 13 ≡ true). omega (arith, eqb-true b 13 e))
    (or_cases (eqb b 32 || eqb b 9 || eqb b 12 || eqb b 10) (eqb b 13) h)

continuation-le : (b : ℕ) → 1 + continuation_len b ≤ 4
continuation-le b = by (ltb b 128) (ltb b 224) (ltb b 240)
  where
    by : (x y z : Bool) → 1 + cond x 0 (cond y 1 (cond z 2 3)) ≤ 4
    by true y z = omega arith
    by false true z = omega arith
    by false false true = omega arith
    by false false false = omega arith

sound_cons : (text : List ℕ) (at c : ℕ) (cs : List ℕ) → IsUtf8 text → at ≤ length text → drop at text ≡ c ∷ cs → IsSound text at (what_begins (c ∷ cs))
sound_cons text at c cs u l e =
    cond_both (is_in Blank c) (Gap 1) _ (IsSound text at) (λ blank. step_at 1 (record { some = omega arith; fits = omega arith; low = blank-low c blank }))
    (λ _. cond_both (begins (c ∷ cs) (codes "\\*")) (Gap (line_len (c ∷ cs))) _ (IsSound text at) (λ line. subst (λ r. 0 < line_len r → IsStep text at (line_len r)) e (line_step text at l) (line-some c cs line))
    (λ _. cond_both (begins (c ∷ cs) (codes "(*")) (gap_or_fault (comment_len (c ∷ cs))) _ (IsSound text at) (λ _. by_comment (comment_len (c ∷ cs)) refl)
    (λ _. by_lexeme (lexeme_at (c ∷ cs)) refl)))
  where
    step_at : (n : ℕ) → IsLowFront (c ∷ cs) n → IsStep text at n
    step_at n h = step_from text at n u l (subst (λ r. IsLowFront r n) (sym e) h)

    by_comment : (o : Option ℕ) → comment_len (c ∷ cs) ≡ o → IsSound text at (gap_or_fault o)
    by_comment None h = omega arith
    by_comment (Some n) h = step_at n (low_comment c cs n h)

    by_lexeme : (o : Option Member) → lexeme_at (c ∷ cs) ≡ o → IsSound text at (longest_or_fault o (char_len (c ∷ cs)))
    by_lexeme None h = continuation-le c
    by_lexeme (Some m) h = step_at m.len (lexeme_low c cs m h)

sound_rest : (text rest : List ℕ) (at : ℕ) → IsUtf8 text → at ≤ length text → drop at text ≡ rest → 0 < length rest → IsSound text at (what_begins rest)
sound_rest text [] at u l e some = absurd (omega arith)
sound_rest text (c ∷ cs) at u l e some = sound_cons text at c cs u l e

pub sound : (text : List ℕ) (at : ℕ) (b : Begin) → IsUtf8 text → at < length text → what_begins (drop at text) ≡ b → IsSound text at b
sound text at b u l e = subst (λ x. IsSound text at x) e (sound_rest text (drop at text) at u (omega arith) refl (omega (arith, length-drop at text)))

-- ---- all lexemes

-- what follows a place, by what begins there
abbrev pub go_on : List ℕ → ℕ → List ℕ → Begin → List Lexeme
go_on text at cs (Gap len) = lexemes_after text (at + 1) (len - 1) cs
go_on text at cs (Longest m) = lexeme_of text at m.kind m.len ∷ lexemes_after text (at + 1) (m.len - 1) cs
go_on text at cs (Nothing len) = lexeme_of text at Bad len ∷ []
go_on text at cs TextEnd = lexeme_of text at End 0 ∷ []

pub lexemes-begin : (text : List ℕ) (at c : ℕ) (cs : List ℕ) (b : Begin) → what_begins (c ∷ cs) ≡ b → lexemes_after text at 0 (c ∷ cs) ≡ go_on text at cs b
lexemes-begin text at c cs b e = by (what_begins (c ∷ cs)) ∙ ap (λ x. go_on text at cs x) e
  where
    by : (x : Begin) → (elim x [ Gap len ↦ lexemes_after text (at + 1) (len - 1) cs | Longest m ↦ lexeme_of text at m.kind m.len ∷ lexemes_after text (at + 1) (m.len - 1) cs | Nothing len ↦ lexeme_of text at Bad len ∷ [] | TextEnd ↦ lexeme_of text at End 0 ∷ [] ]) ≡ go_on text at cs x
    by (Gap len) = refl
    by (Longest m) = refl
    by (Nothing len) = refl
    by TextEnd = refl

lexemes-skip : (text : List ℕ) (at k : ℕ) (xs : List ℕ) → k ≤ length xs → lexemes_after text at k xs ≡ lexemes_after text (at + k) 0 (drop k xs)
lexemes-skip text at zero xs l = ap (λ n. lexemes_after text n 0 xs) (sym (add-zero at))
lexemes-skip text at (suc k) [] l = absurd (omega arith)
lexemes-skip text at (suc k) (c ∷ cs) l = lexemes-skip text (at + 1) k cs (omega arith) ∙ ap (λ n. lexemes_after text n 0 (drop k cs)) (let e : at + 1 + k ≡ at + suc k = omega arith in e)

skip_step : (text : List ℕ) (at len c : ℕ) (cs : List ℕ) → 0 < len → len ≤ length (c ∷ cs) → lexemes_after text (at + 1) (len - 1) cs ≡ lexemes_after text (at + len) 0 (drop len (c ∷ cs))
skip_step text at zero c cs pos l = absurd (omega arith)
skip_step text at (suc k) c cs pos l = ap (λ n. lexemes_after text (at + 1) n cs) (let e : suc k - 1 ≡ k = omega arith in e) ∙ lexemes-skip text (at + 1) k cs (omega arith) ∙ ap (λ n. lexemes_after text n 0 (drop k cs)) (let e : at + 1 + k ≡ at + suc k = omega arith in e)

gap_rest : (text : List ℕ) (at len : ℕ) (rest : List ℕ) → what_begins rest ≡ Gap len → 0 < len → len ≤ length rest → lexemes_after text at 0 rest ≡ lexemes_after text (at + len) 0 (drop len rest)
gap_rest text at len [] e pos l = absurd (omega arith)
gap_rest text at len (c ∷ cs) e pos l = lexemes-begin text at c cs (Gap len) e ∙ skip_step text at len c cs pos l

longest_rest : (text : List ℕ) (at : ℕ) (m : Member) (rest : List ℕ) → what_begins rest ≡ Longest m → 0 < m.len → m.len ≤ length rest → lexemes_after text at 0 rest ≡ lexeme_of text at m.kind m.len ∷ lexemes_after text (at + m.len) 0 (drop m.len rest)
longest_rest text at m [] e pos l = absurd (omega arith)
longest_rest text at m (c ∷ cs) e pos l = lexemes-begin text at c cs (Longest m) e ∙ ap (λ ls. lexeme_of text at m.kind m.len ∷ ls) (skip_step text at m.len c cs pos l)

pub gap_turn : (text : List ℕ) (at len : ℕ) → what_begins (drop at text) ≡ Gap len → IsStep text at len → lexemes_after text at 0 (drop at text) ≡ lexemes_after text (at + len) 0 (drop (at + len) text)
gap_turn text at len e step = gap_rest text at len (drop at text) e step.some (omega (arith, step.fits, length-drop at text)) ∙ ap (λ r. lexemes_after text (at + len) 0 r) (drop-drop len at text)

pub longest_turn : (text : List ℕ) (at : ℕ) (m : Member) → what_begins (drop at text) ≡ Longest m → IsStep text at m.len → lexemes_after text at 0 (drop at text) ≡ lexeme_of text at m.kind m.len ∷ lexemes_after text (at + m.len) 0 (drop (at + m.len) text)
longest_turn text at m e step = longest_rest text at m (drop at text) e step.some (omega (arith, step.fits, length-drop at text)) ∙ ap (λ r. lexeme_of text at m.kind m.len ∷ lexemes_after text (at + m.len) 0 r) (drop-drop m.len at text)

pub nothing_turn : (text : List ℕ) (at len : ℕ) (rest : List ℕ) → what_begins rest ≡ Nothing len → lexemes_after text at 0 rest ≡ lexeme_of text at Bad len ∷ []
nothing_turn text at len [] e = absurd (end_nothing len e)
  where
    end_nothing : (n : ℕ) → TextEnd ≡ Nothing n → ⊥
    end_nothing n h = cc
nothing_turn text at len (c ∷ cs) e = lexemes-begin text at c cs (Nothing len) e

pub end_turn : (text : List ℕ) (at : ℕ) (rest : List ℕ) → what_begins rest ≡ TextEnd → lexemes_after text at 0 rest ≡ lexeme_of text at End 0 ∷ []
end_turn text at [] e = refl
end_turn text at (c ∷ cs) e = lexemes-begin text at c cs TextEnd e

-- ---- runs without letters

any-drop : (p : ℕ → Bool) (n m : ℕ) (xs : List ℕ) → list_any p (take (n + m) xs) ≡ false → list_any p (take m (drop n xs)) ≡ false
any-drop p zero m xs h = subst (λ i. list_any p (take i xs) ≡ false) (let e : 0 + m ≡ m = omega arith in e) h
any-drop p (suc n) m [] h = nil m
  where
    nil : (m : ℕ) → list_any p (take m []) ≡ false
    nil zero = refl
    nil (suc m) = refl
any-drop p (suc n) m (x ∷ xs) h = any-drop p n m xs (or_parts (p x) (list_any p (take (n + m) xs)) (subst (λ i. list_any p (take i (x ∷ xs)) ≡ false) (let e : suc n + m ≡ suc (n + m) = omega arith in e) h)).1

pub bare-drop : (n : ℕ) (xs : List ℕ) → 0 < bare_len xs - n → bare_len xs - n ≡ bare_len (drop n xs)
bare-drop n xs pos =
    let none = bare-none xs (omega arith) in
    let split = prefix-drop (is_in WordChar) n xs (omega (arith, none.1)) in
    let left : ℕ = prefix_len (is_in WordChar) (drop n xs) in
    let letters : has_letter (take left (drop n xs)) ≡ false = any-drop (is_in Letter) n left xs (subst (λ i. list_any (is_in Letter) (take i xs) ≡ false) split none.0) in
    let e : bare_len (drop n xs) ≡ left = cond-false (has_letter (take left (drop n xs))) 0 left letters in
    omega (arith, e, none.1, split)

pub bare_drop_at : (text : List ℕ) (at len known left : ℕ) → known ≡ bare_len (drop at text) → left ≡ known - len → 0 < left → left ≡ bare_len (drop (at + len) text)
bare_drop_at text at len known left isknown isleft pos =
    isleft ∙ ap (λ n. n - len) isknown ∙ bare-drop len (drop at text) (omega (arith, isknown, isleft)) ∙ ap bare_len (drop-drop len at text)

-- ---- at any place

at_end : (text : List ℕ) (at : ℕ) → length text ≤ at → what_begins (drop at text) ≡ TextEnd
at_end text at l = ap what_begins (drop_all at text l)

pub longest_sound : (text : List ℕ) (at : ℕ) (m : Member) → IsUtf8 text → what_begins (drop at text) ≡ Longest m → IsStep text at m.len
longest_sound text at m u e =
    ⊎_elim (λ (lt : at < length text). sound text at (Longest m) u lt e) (λ (ge : length text ≤ at). absurd (end_longest m (sym (at_end text at ge) ∙ e))) (cases_lt at (length text))
  where
    end_longest : (m : Member) → TextEnd ≡ Longest m → ⊥
    end_longest m h = cc

pub nothing_sound : (text : List ℕ) (at len : ℕ) → IsUtf8 text → what_begins (drop at text) ≡ Nothing len → len ≤ 4
nothing_sound text at len u e =
    ⊎_elim (λ (lt : at < length text). sound text at (Nothing len) u lt e) (λ (ge : length text ≤ at). absurd (end_nothing len (sym (at_end text at ge) ∙ e))) (cases_lt at (length text))
  where
    end_nothing : (n : ℕ) → TextEnd ≡ Nothing n → ⊥
    end_nothing n h = cc

pub last_turn : (text : List ℕ) (at : ℕ) (b : Begin) → what_begins (drop at text) ≡ b → is_gap b ≡ false → ((m : Member) → b ≡ Longest m → ⊥) → ((n : ℕ) → b ≡ Nothing n → ⊥) → lexemes_after text at 0 (drop at text) ≡ lexeme_of text at End 0 ∷ []
last_turn text at (Gap len) e gap longest nothing = absurd (both_ways true gap refl)
last_turn text at (Longest m) e gap longest nothing = absurd (longest m refl)
last_turn text at (Nothing n) e gap longest nothing = absurd (nothing n refl)
last_turn text at TextEnd e gap longest nothing = end_turn text at (drop at text) e
