-- The place of an offset, by the start of its line.
use Rattle.std.proofs.Common.{◌≡◌, ℕ, zero, suc, ◌+◌, ◌-◌, ◌<◌, ◌≤◌, Bool, true, false, leb, cond, List, [], ◌∷◌, ◌++◌, length, get_or, take, drop, refl, sym, ap, ◌∙◌, subst, ⊎_elim, arith, length-append, add-zero, zero-add, append_assoc}
use Rattle.std.proofs.Math.Utf8.{encode, encodes, scalars, scalar}
use Rattle.std.proofs.lemmas.Bool.{cases_lt, and_parts, leb-true, leb-false}
use Rattle.std.proofs.lemmas.List.{append-nil, drop_at, take_at, take-append-drop, length-take-le}
use Rattle.std.proofs.lemmas.Str.{length-encode, encodes-append, encodes-chars, encodes_same, scalars-chars, IsUtf8-take, IsUtf8-drop, IsUtf8-append, IsCharBoundary-at_seam, IsCharBoundary-start}
use Rattle.std.specs.Str.{chars, IsUtf8, IsCharBoundary, IsValidUpTo}
use Rattle.std.specs.List.Sorted.{IsPartitionPoint}
use Rattle.std.specs.Char.{len_utf8}
use Rattle.tla_text.specs.declared.Place.{Place}
use Rattle.tla_text.specs.Places.{ends_line, place_after, place_at, next_column, bytes_before, bytes_of_units, offset_of_unit, IsLongestUtf8}
use Rattle.tla_text.specs.LineStarts.{starts_after, column_after, IsLineOf}
use Rattle.tla_text.specs.declared.Measure.{Measure}
use Rattle.tla_text.specs.declared.Measure.TheVariants.{Characters}
use Rattle.tla_text.proofs.LineLemmas.{starts_after-char, starts_after-above}

abbrev at_column : Measure → ℕ → List ℕ → Place
at_column m line seen = record { line = line; column = column_after m 0 seen }

-- Where a place is that comes behind some characters, in a line of which others were seen: so many lines
-- start between, and the last of them, or the one that began, starts behind `before`.
record IsPlaced (m : Measure) (line start k : ℕ) (starts seen cs after : List ℕ) : Type 0 where
  before : List ℕ
  mid : List ℕ
  split : seen ++ cs ≡ before ++ mid
  start_is : get_or (start ∷ starts) k 0 ≡ start + length (encodes before)
  place : place_after m (at_column m line seen) cs after ≡ at_column m (line + k) mid

column_after-push : (m : Measure) (column c : ℕ) (cs : List ℕ) → column_after m column (cs ++ c ∷ []) ≡ next_column m (column_after m column cs) c
column_after-push m column c [] = refl
column_after-push m column c (d ∷ ds) = column_after-push m (next_column m column d) c ds

-- the line of an offset is the first where the next starts behind it
none_passed : (at line : ℕ) (bs : List ℕ) → IsLineOf line at (starts_after at bs) → line ≡ 0
none_passed at zero bs h = refl
none_passed at (suc line) bs h =
    absurd (let above = starts_after-above at bs 0 (omega (arith, h.bound)) in omega (arith, h.below 0 (omega arith), above))

pub line_of_fewer : (line offset s : ℕ) (ss : List ℕ) → IsLineOf (suc line) offset (s ∷ ss) → IsLineOf line offset ss
line_of_fewer line offset s ss h = record {
  bound = omega (arith, h.bound);
  below = λ i l. h.below (suc i) (omega arith);
  above = λ i l m. h.above (suc i) (omega arith) (omega arith);
}

placed_none : (m : Measure) (line start at k : ℕ) (seen after : List ℕ) → IsLineOf k at (starts_after at (encodes after)) → IsPlaced m line start k (starts_after at (encodes after)) seen [] after
placed_none m line start at k seen after h =
    let none : k ≡ 0 = none_passed at k (encodes after) h in
    subst (λ n. IsPlaced m line start n (starts_after at (encodes after)) seen [] after) (sym none) (record {
      before = [];
      mid = seen;
      split = append-nil seen;
      start_is = sym (add-zero start);
      place = ap (λ n. at_column m n seen) (sym (add-zero line));
    })

-- a character that ends a line
placed_end : (m : Measure) (line start next k c : ℕ) (starts seen cs after : List ℕ) → next ≡ start + length (encodes (seen ++ c ∷ [])) → ends_line c (cs ++ after) ≡ true →
    IsPlaced m (line + 1) next k starts [] cs after → IsPlaced m line start (suc k) (next ∷ starts) seen (c ∷ cs) after
placed_end m line start next k c starts seen cs after isnext ends p = record {
  before = (seen ++ c ∷ []) ++ p.before;
  mid = p.mid;
  split = sym (append_assoc seen (c ∷ []) cs) ∙ ap (λ l. (seen ++ c ∷ []) ++ l) p.split ∙ sym (append_assoc (seen ++ c ∷ []) p.before p.mid);
  start_is = omega (arith, p.start_is, isnext, ap length (encodes-append (seen ++ c ∷ []) p.before), length-append (encodes (seen ++ c ∷ [])) (encodes p.before));
  place = rw ends (p.place ∙ ap (λ n. at_column m n p.mid) (let e : line + 1 + k ≡ line + suc k = omega arith in e));
}

-- a character that ends none
placed_more : (m : Measure) (line start k c : ℕ) (starts seen cs after : List ℕ) → ends_line c (cs ++ after) ≡ false →
    IsPlaced m line start k starts (seen ++ c ∷ []) cs after → IsPlaced m line start k starts seen (c ∷ cs) after
placed_more m line start k c starts seen cs after ends p = record {
  before = p.before;
  mid = p.mid;
  split = sym (append_assoc seen (c ∷ []) cs) ∙ p.split;
  start_is = p.start_is;
  place = rw (ends, ← column_after-push m 0 c seen) p.place;
}

line_of_end : (k offset next : ℕ) (ss : List ℕ) → next ≤ offset → IsLineOf k offset (next ∷ ss) → (j : ℕ) × (k ≡ suc j)
line_of_end zero offset next ss l h = absurd (omega (arith, h.above 0 (omega arith) (omega arith)))
line_of_end (suc j) offset next ss l h = (j, refl)

placed_turn : (e : Bool) (m : Measure) (line start at next offset k c : ℕ) (starts seen cs after : List ℕ) → ends_line c (cs ++ after) ≡ e → next ≡ start + length (encodes (seen ++ c ∷ [])) → next ≤ offset →
    IsLineOf k offset (cond e (next ∷ starts) starts) →
    ((j : ℕ) → IsLineOf j offset starts → IsPlaced m (line + 1) next j starts [] cs after) →
    (IsLineOf k offset starts → IsPlaced m line start k starts (seen ++ c ∷ []) cs after) →
    IsPlaced m line start k (cond e (next ∷ starts) starts) seen (c ∷ cs) after
placed_turn true m line start at next offset k c starts seen cs after ends isnext low h new same =
    let j = line_of_end k offset next starts low h in
    subst (λ n. IsPlaced m line start n (next ∷ starts) seen (c ∷ cs) after) (sym j.1)
    (placed_end m line start next j.0 c starts seen cs after isnext ends (new j.0 (line_of_fewer j.0 offset next starts (subst (λ n. IsLineOf n offset (next ∷ starts)) j.1 h))))
placed_turn false m line start at next offset k c starts seen cs after ends isnext low h new same =
    placed_more m line start k c starts seen cs after ends (same h)

placed : (m : Measure) (line start at k : ℕ) (seen cs after : List ℕ) → at ≡ start + length (encodes seen) → IsLineOf k (at + length (encodes cs)) (starts_after at (encodes (cs ++ after))) → IsPlaced m line start k (starts_after at (encodes (cs ++ after))) seen cs after
placed m line start at k seen [] after isat h = placed_none m line start at k seen after (subst (λ n. IsLineOf k n (starts_after at (encodes after))) (add-zero at) h)
placed m line start at k seen (c ∷ cs) after isat h =
    let next : ℕ = at + length (encode c) in
    let offset : ℕ = at + length (encodes (c ∷ cs)) in
    let starts : List ℕ = starts_after next (encodes (cs ++ after)) in
    let shape = starts_after-char at c (cs ++ after) in
    let far : next + length (encodes cs) ≡ offset = omega (arith, length-append (encode c) (encodes cs)) in
    let isnext : next ≡ start + length (encodes (seen ++ c ∷ [])) = omega (arith, ap length (encodes-append seen (c ∷ [])), length-append (encodes seen) (encodes (c ∷ [])), length-append (encode c) [], isat) in
    rw shape (placed_turn (ends_line c (cs ++ after)) m line start at next offset k c starts seen cs after refl isnext (omega (arith, far)) (subst (λ l. IsLineOf k offset l) shape h)
    (λ j g. placed m (line + 1) next next j [] cs after (sym (add-zero next)) (subst (λ n. IsLineOf j n starts) (sym far) g))
    (λ g. placed m line start next k (seen ++ c ∷ []) cs after isnext (subst (λ n. IsLineOf k n starts) (sym far) g)))

scalars_back : (xs ys : List ℕ) → scalars (xs ++ ys) ≡ true → scalars ys ≡ true
scalars_back [] ys h = h
scalars_back (x ∷ xs) ys h = scalars_back xs ys (and_parts (scalar x) (scalars (xs ++ ys)) h).1

-- what stands behind some characters of a text is a text
pub utf8_back : (before rest : List ℕ) → scalars (before ++ rest) ≡ true → IsUtf8 (encodes rest)
utf8_back before rest h = (rest, (scalars_back before rest h, refl))

-- the part of a text from the start of an offset's line up to the offset
pub record HasLine (text : List ℕ) (offset line start : ℕ) : Type 0 where
  pub cut : IsCharBoundary text start
  pub low : start ≤ offset
  pub place : (m : Measure) → place_at m text offset ≡ at_column m line (chars (take (offset - start) (drop start text)))

whole : (text : List ℕ) (offset : ℕ) → IsUtf8 text → IsCharBoundary text offset → text ≡ encodes (chars (take offset text) ++ chars (drop offset text))
whole text offset u b =
    sym (encodes-append (chars (take offset text)) (chars (drop offset text)) ∙ ap (λ l. l ++ encodes (chars (drop offset text))) (encodes-chars (take offset text) (IsUtf8-take text offset u b)) ∙ ap (λ l. take offset text ++ l) (encodes-chars (drop offset text) (IsUtf8-drop text offset u b)) ∙ take-append-drop offset text)

-- a text cut twice, at the start of a line and at an offset
cut_twice : (text front mid back : List ℕ) (start offset : ℕ) → text ≡ encodes front ++ (encodes mid ++ back) → length (encodes front) ≡ start → start + length (encodes mid) ≡ offset → take (offset - start) (drop start text) ≡ encodes mid
cut_twice text front mid back start offset e isstart isoffset =
    rw (e, drop_at (encodes front) (encodes mid ++ back) start isstart) (take_at (encodes mid) back (offset - start) (omega arith))

has_line_from : (m : Measure) (text : List ℕ) (offset line : ℕ) → IsUtf8 text → IsCharBoundary text offset →
    IsPlaced m 0 0 line (starts_after 0 text) [] (chars (take offset text)) (chars (drop offset text)) →
    IsCharBoundary text (get_or (0 ∷ starts_after 0 text) line 0) × (get_or (0 ∷ starts_after 0 text) line 0 ≤ offset) × (place_at m text offset ≡ at_column m line (chars (take (offset - get_or (0 ∷ starts_after 0 text) line 0) (drop (get_or (0 ∷ starts_after 0 text) line 0) text))))
has_line_from m text offset line u b p =
    let start : ℕ = get_or (0 ∷ starts_after 0 text) line 0 in
    let head : encodes (chars (take offset text)) ≡ take offset text = encodes-chars (take offset text) (IsUtf8-take text offset u b) in
    let halves : encodes p.before ++ encodes p.mid ≡ take offset text = sym (encodes-append p.before p.mid) ∙ ap encodes (sym p.split) ∙ head in
    let good : scalars (chars (take offset text)) ≡ true = scalars-chars (take offset text) (IsUtf8-take text offset u b) in
    let goodmid : IsUtf8 (encodes p.mid) = utf8_back p.before p.mid (subst (λ l. scalars l ≡ true) p.split good) in
    let split : text ≡ encodes p.before ++ (encodes p.mid ++ drop offset text) = sym (take-append-drop offset text) ∙ ap (λ l. l ++ drop offset text) (sym halves) ∙ append_assoc (encodes p.before) (encodes p.mid) (drop offset text) in
    let isstart : length (encodes p.before) ≡ start = omega (arith, p.start_is) in
    let isoffset : start + length (encodes p.mid) ≡ offset = omega (arith, p.start_is, ap length halves, length-append (encodes p.before) (encodes p.mid), length-take-le offset text b.0) in
    let part : take (offset - start) (drop start text) ≡ encodes p.mid = cut_twice text p.before p.mid (drop offset text) start offset split isstart isoffset in
    let back : IsUtf8 (encodes p.mid ++ drop offset text) = IsUtf8-append (encodes p.mid) (drop offset text) goodmid (IsUtf8-drop text offset u b) in (
      subst (λ n. IsCharBoundary text n) isstart (IsCharBoundary-at_seam text (encodes p.before) (encodes p.mid ++ drop offset text) split back),
      omega (arith, isoffset),
      p.place ∙ ap (λ n. at_column m n p.mid) (zero-add line) ∙ ap (λ l. at_column m line l) (encodes_same p.mid (chars (take (offset - start) (drop start text))) (sym (encodes-chars (take (offset - start) (drop start text)) (subst IsUtf8 (sym part) goodmid) ∙ part))),
    )

pub has_line : (text : List ℕ) (offset line : ℕ) → IsUtf8 text → IsCharBoundary text offset → IsLineOf line offset (starts_after 0 text) → HasLine text offset line (get_or (0 ∷ starts_after 0 text) line 0)
has_line text offset line u b h =
    let all : (m : Measure) → IsPlaced m 0 0 line (starts_after 0 text) [] (chars (take offset text)) (chars (drop offset text)) =
    λ m. subst (λ l. IsPlaced m 0 0 line (starts_after 0 l) [] (chars (take offset text)) (chars (drop offset text))) (sym (whole text offset u b))
    (placed m 0 0 0 line [] (chars (take offset text)) (chars (drop offset text)) refl
    (subst (λ n. IsLineOf line n (starts_after 0 (encodes (chars (take offset text) ++ chars (drop offset text))))) (omega (arith, ap length (encodes-chars (take offset text) (IsUtf8-take text offset u b)), length-take-le offset text b.0))
    (subst (λ l. IsLineOf line offset (starts_after 0 l)) (whole text offset u b) h)))
    in
    let one = has_line_from Characters text offset line u b (all Characters) in record {
      cut = one.0;
      low = one.1;
      place = λ m. (has_line_from m text offset line u b (all m)).2;
    }

-- ---- offsets of units

-- where a line starts in some characters, and what the units in it mean
record IsStarted (at line units : ℕ) (starts cs : List ℕ) : Type 0 where
  before : List ℕ
  rest : List ℕ
  split : cs ≡ before ++ rest
  start_is : get_or starts line 0 ≡ at + length (encodes before)
  units_are : bytes_before (suc line) units cs ≡ length (encodes before) + bytes_of_units units rest

started_behind : (at next line units c : ℕ) (starts cs : List ℕ) → next ≡ at + length (encode c) → bytes_before (suc line) units (c ∷ cs) ≡ len_utf8 c + bytes_before (suc line) units cs → IsStarted next line units starts cs → IsStarted at line units starts (c ∷ cs)
started_behind at next line units c starts cs isnext same p = record {
  before = c ∷ p.before;
  rest = p.rest;
  split = ap (λ l. c ∷ l) p.split;
  start_is = omega (arith, p.start_is, length-append (encode c) (encodes p.before));
  units_are = omega (arith, same, p.units_are, length-append (encode c) (encodes p.before), length-encode c);
}

started_behind_end : (at next line units c : ℕ) (starts cs : List ℕ) → next ≡ at + length (encode c) → bytes_before (suc (suc line)) units (c ∷ cs) ≡ len_utf8 c + bytes_before (suc line) units cs → IsStarted next line units starts cs → IsStarted at (suc line) units (next ∷ starts) (c ∷ cs)
started_behind_end at next line units c starts cs isnext same p = record {
  before = c ∷ p.before;
  rest = p.rest;
  split = ap (λ l. c ∷ l) p.split;
  start_is = omega (arith, p.start_is, length-append (encode c) (encodes p.before));
  units_are = omega (arith, same, p.units_are, length-append (encode c) (encodes p.before), length-encode c);
}

started_here : (at next units c : ℕ) (starts cs : List ℕ) → next ≡ at + length (encode c) → bytes_before 1 units (c ∷ cs) ≡ len_utf8 c + bytes_of_units units cs → IsStarted at zero units (next ∷ starts) (c ∷ cs)
started_here at next units c starts cs isnext same = record {
  before = c ∷ [];
  rest = cs;
  split = refl;
  start_is = omega (arith, isnext, length-append (encode c) []);
  units_are = omega (arith, same, length-append (encode c) [], length-encode c);
}

units_past : (e : Bool) (line units c : ℕ) (cs : List ℕ) → ends_line c cs ≡ e → bytes_before (suc line) units (c ∷ cs) ≡ len_utf8 c + cond e (bytes_before line units cs) (bytes_before (suc line) units cs)
units_past e line units c cs h = ap (λ b. len_utf8 c + cond b (bytes_before line units cs) (bytes_before (suc line) units cs)) h

started_turn : (e : Bool) (at next line units c : ℕ) (starts cs : List ℕ) → ends_line c cs ≡ e → next ≡ at + length (encode c) → line < length (cond e (next ∷ starts) starts) →
    ((j : ℕ) → j < length starts → IsStarted next j units starts cs) → IsStarted at line units (cond e (next ∷ starts) starts) (c ∷ cs)
started_turn true at next zero units c starts cs ends isnext h more = started_here at next units c starts cs isnext (units_past true zero units c cs ends)
started_turn true at next (suc line) units c starts cs ends isnext h more = started_behind_end at next line units c starts cs isnext (units_past true (suc line) units c cs ends) (more line (omega arith))
started_turn false at next line units c starts cs ends isnext h more = started_behind at next line units c starts cs isnext (units_past false line units c cs ends) (more line h)

started : (at line units : ℕ) (cs : List ℕ) → line < length (starts_after at (encodes cs)) → IsStarted at line units (starts_after at (encodes cs)) cs
started at line units [] h = absurd (omega arith)
started at line units (c ∷ cs) h =
    let next : ℕ = at + length (encode c) in
    let shape = starts_after-char at c cs in
    rw shape (started_turn (ends_line c cs) at next line units c (starts_after next (encodes cs)) cs refl refl (subst (λ l. line < length l) shape h) (λ j l. started next j units cs l))

-- a line past the last one
past_turn : (e : Bool) (line units c next : ℕ) (starts cs : List ℕ) → ends_line c cs ≡ e → length (cond e (next ∷ starts) starts) ≤ line →
    ((j : ℕ) → length starts ≤ j → bytes_before (suc j) units cs ≡ length (encodes cs)) → bytes_before (suc line) units (c ∷ cs) ≡ length (encodes (c ∷ cs))
past_turn true zero units c next starts cs ends h more = absurd (omega arith)
past_turn true (suc line) units c next starts cs ends h more = omega (arith, units_past true (suc line) units c cs ends, more line (omega arith), length-append (encode c) (encodes cs), length-encode c)
past_turn false line units c next starts cs ends h more = omega (arith, units_past false line units c cs ends, more line h, length-append (encode c) (encodes cs), length-encode c)

past : (at line units : ℕ) (cs : List ℕ) → length (starts_after at (encodes cs)) ≤ line → bytes_before (suc line) units cs ≡ length (encodes cs)
past at line units [] h = refl
past at line units (c ∷ cs) h =
    let next : ℕ = at + length (encode c) in
    past_turn (ends_line c cs) line units c next (starts_after next (encodes cs)) cs refl (subst (λ l. length l ≤ line) (starts_after-char at c cs) h) (λ j l. past next j units cs l)

pub offset_of_unit-past : (text : List ℕ) (line units : ℕ) → IsUtf8 text → length (starts_after 0 text) < line → offset_of_unit text line units ≡ length text
offset_of_unit-past text zero units u h = absurd (omega arith)
offset_of_unit-past text (suc line) units u h =
    past 0 line units (chars text) (subst (λ l. length (starts_after 0 l) ≤ line) (sym (encodes-chars text u)) (omega arith)) ∙ ap length (encodes-chars text u)

-- what stands behind the start of a line
pub record HasUnits (text : List ℕ) (line units start : ℕ) : Type 0 where
  pub cut : IsCharBoundary text start
  pub offset : offset_of_unit text line units ≡ start + bytes_of_units units (chars (drop start text))

drop_front : (text front back : List ℕ) (n : ℕ) → text ≡ front ++ back → length front ≡ n → drop n text ≡ back
drop_front text front back n e l = rw e (drop_at front back n l)

has_units_from : (text : List ℕ) (line units : ℕ) → IsUtf8 text → IsStarted 0 line units (starts_after 0 text) (chars text) → HasUnits text (suc line) units (get_or (starts_after 0 text) line 0)
has_units_from text line units u p =
    let start : ℕ = get_or (starts_after 0 text) line 0 in
    let isstart : length (encodes p.before) ≡ start = omega (arith, p.start_is) in
    let split : text ≡ encodes p.before ++ encodes p.rest = sym (encodes-chars text u) ∙ ap encodes p.split ∙ encodes-append p.before p.rest in
    let good : IsUtf8 (encodes p.rest) = utf8_back p.before p.rest (subst (λ l. scalars l ≡ true) p.split (scalars-chars text u)) in
    let behind : drop start text ≡ encodes p.rest = drop_front text (encodes p.before) (encodes p.rest) start split isstart in record {
      cut = subst (λ n. IsCharBoundary text n) isstart (IsCharBoundary-at_seam text (encodes p.before) (encodes p.rest) split good);
      offset = p.units_are ∙ ap (λ n. n + bytes_of_units units p.rest) isstart ∙ ap (λ l. start + bytes_of_units units l) (encodes_same p.rest (chars (drop start text)) (sym (encodes-chars (drop start text) (subst IsUtf8 (sym behind) good) ∙ behind)));
    }

pub has_units : (text : List ℕ) (line units : ℕ) → IsUtf8 text → line ≤ length (starts_after 0 text) → HasUnits text line units (get_or (0 ∷ starts_after 0 text) line 0)
has_units text zero units u h = record { cut = IsCharBoundary-start text u; offset = sym (zero-add (bytes_of_units units (chars text))) }
has_units text (suc line) units u h =
    has_units_from text line units u (subst (λ l. IsStarted 0 line units (starts_after 0 l) (chars text)) (encodes-chars text u) (started 0 line units (chars text) (subst (λ l. line < length (starts_after 0 l)) (sym (encodes-chars text u)) (omega arith))))

pub starts_of_view : (bytes text starts : List ℕ) → bytes ≡ text → starts ≡ starts_after 0 bytes → starts ≡ starts_after 0 text
starts_of_view bytes text starts e h = h ∙ ap (λ l. starts_after 0 l) e

-- from what `from_utf8` says of a refusal
pub IsLongestUtf8-from : (bytes : List ℕ) (n : ℕ) → IsValidUpTo bytes n → IsLongestUtf8 bytes n
IsLongestUtf8-from bytes n h = record {
  fits = omega (arith, h.short);
  front = h.front;
  longest = λ m l u. ⊎_elim (λ (lt : n < m). absurd (h.longest m lt u)) (λ (le : m ≤ n). le) (cases_lt n m);
}

-- the line that a search among the line starts gives
pub IsLineOf-from : (line offset : ℕ) (starts : List ℕ) → line ≤ length starts → IsPartitionPoint (λ y. leb y offset ≡ true) (λ y. leb y offset ≡ false) starts line → IsLineOf line offset starts
IsLineOf-from line offset starts le p = record {
  bound = le;
  below = λ i l. leb-true (get_or starts i 0) offset (p.0 i 0 (omega arith) l);
  above = λ i l m. leb-false (get_or starts i 0) offset (p.1 i 0 l m);
}

-- the same by the piece that was cut out
pub place_by_piece : (m : Measure) (text same piece : List ℕ) (offset line start from : ℕ) → HasLine text offset line start → same ≡ text → from ≡ start → piece ≡ take (offset - from) (drop from same) → place_at m text offset ≡ record { line = line; column = column_after m 0 (chars piece) }
place_by_piece m text same piece offset line start from h issame isfrom ispiece =
    h.place m ∙ ap (λ l. at_column m line (chars l)) (sym (ispiece ∙ ap (λ t. take (offset - from) (drop from t)) issame ∙ ap (λ n. take (offset - n) (drop n text)) isfrom))

pub units_by_rest : (text same rest : List ℕ) (line units start from bytes : ℕ) → HasUnits text line units start → same ≡ text → from ≡ start → rest ≡ drop from same → bytes ≡ bytes_of_units units (chars rest) → from + bytes ≡ offset_of_unit text line units
units_by_rest text same rest line units start from bytes h issame isfrom isrest isbytes =
    ap (λ n. n + bytes) isfrom ∙ ap (λ n. start + n) (isbytes ∙ ap (λ l. bytes_of_units units (chars l)) (isrest ∙ ap (λ t. drop from t) issame ∙ ap (λ n. drop n text) isfrom)) ∙ sym h.offset
