-- Offsets of positions are in the order of the positions.
use Rattle.std.proofs.Common.{◌≡◌, ℕ, zero, suc, ◌-◌, ◌<◌, ◌≤◌, Bool, true, false, ◌&&◌, ◌||◌, eqb, ltb, List, [], ◌∷◌, refl, sym, ◌∙◌, subst, ⊎_elim, arith}
use Rattle.std.proofs.lemmas.Bool.{cases_lt, and_cases, or_parts, ltb-false, le-ltb, eq-eqb, true≢false}
use Rattle.std.specs.Str.{chars}
use Rattle.lsp_wire.specs.declared.types.Position.{Position}
use Rattle.doc_edit.specs.Edits.{offset_of, is_after}
use Rattle.tla_text.specs.Places.{ends_line, stops_before, utf16_len, bytes_before, bytes_of_units}

-- a character before which a number of units does not stop ends no line
ends-none : (units c : ℕ) (cs : List ℕ) → stops_before units c ≡ false → ends_line c cs ≡ false
ends-none units c cs h =
    let parts = or_parts (eqb c 10 || eqb c 13) (ltb units (utf16_len c)) h in
    let marks = or_parts (eqb c 10) (eqb c 13) parts.0 in
    rw (marks.0, marks.1) refl

-- what does not stop fewer units does not stop more
stops-later : (a b c : ℕ) → a ≤ b → stops_before a c ≡ false → stops_before b c ≡ false
stops-later a b c le h =
    let parts = or_parts (eqb c 10 || eqb c 13) (ltb a (utf16_len c)) h in
    let room = ltb-false a (utf16_len c) parts.1 in
    let more : ltb b (utf16_len c) ≡ false = le-ltb b (utf16_len c) (omega (arith, room)) in
    rw (parts.0, more) refl

units_turn : (stops : Bool) (a b c : ℕ) (cs : List ℕ) → a ≤ b → stops_before a c ≡ stops → bytes_of_units (a - utf16_len c) cs ≤ bytes_of_units (b - utf16_len c) cs → bytes_of_units a (c ∷ cs) ≤ bytes_of_units b (c ∷ cs)
units_turn true a b c cs le e more = rw e (omega arith)
units_turn false a b c cs le e more = rw (e, stops-later a b c le e) (omega (arith, more))

units_rise : (a b : ℕ) (cs : List ℕ) → a ≤ b → bytes_of_units a cs ≤ bytes_of_units b cs
units_rise a b [] le = omega arith
units_rise a b (c ∷ cs) le = units_turn (stops_before a c) a b c cs le refl (units_rise (a - utf16_len c) (b - utf16_len c) cs (omega arith))

past_turn : (ends : Bool) (line a b c : ℕ) (cs : List ℕ) → ends_line c cs ≡ ends → bytes_before line a cs ≤ bytes_before line b cs → bytes_before (suc line) a cs ≤ bytes_before (suc line) b cs → bytes_before (suc line) a (c ∷ cs) ≤ bytes_before (suc line) b (c ∷ cs)
past_turn true line a b c cs e new same = rw e (omega (arith, new))
past_turn false line a b c cs e new same = rw e (omega (arith, same))

-- more units of the same line
line_rise : (line a b : ℕ) (cs : List ℕ) → a ≤ b → bytes_before line a cs ≤ bytes_before line b cs
line_rise zero a b cs le = units_rise a b cs le
line_rise (suc line) a b [] le = omega arith
line_rise (suc line) a b (c ∷ cs) le = past_turn (ends_line c cs) line a b c cs refl (line_rise line a b cs le) (line_rise (suc line) a b cs le)

next_turn : (stops : Bool) (line a b c : ℕ) (cs : List ℕ) → stops_before a c ≡ stops → bytes_of_units (a - utf16_len c) cs ≤ bytes_before (suc line) b cs → bytes_of_units a (c ∷ cs) ≤ bytes_before (suc line) b (c ∷ cs)
next_turn true line a b c cs e more = rw e (omega arith)
next_turn false line a b c cs e more = rw (e, ends-none a c cs e) (omega (arith, more))

-- units of the first line, and of a later one
next_rise : (line a b : ℕ) (cs : List ℕ) → bytes_of_units a cs ≤ bytes_before (suc line) b cs
next_rise line a b [] = omega arith
next_rise line a b (c ∷ cs) = next_turn (stops_before a c) line a b c cs refl (next_rise line (a - utf16_len c) b cs)

later_turn : (ends : Bool) (k l a b c : ℕ) (cs : List ℕ) → ends_line c cs ≡ ends → bytes_before k a cs ≤ bytes_before l b cs → bytes_before (suc k) a cs ≤ bytes_before (suc l) b cs → bytes_before (suc k) a (c ∷ cs) ≤ bytes_before (suc l) b (c ∷ cs)
later_turn true k l a b c cs e new same = rw e (omega (arith, new))
later_turn false k l a b c cs e new same = rw e (omega (arith, same))

-- units of a line, and of a later one
later_rise : (k l a b : ℕ) (cs : List ℕ) → k < l → bytes_before k a cs ≤ bytes_before l b cs
later_rise k zero a b cs lt = absurd (omega arith)
later_rise zero (suc l) a b cs lt = next_rise l a b cs
later_rise (suc k) (suc l) a b [] lt = omega arith
later_rise (suc k) (suc l) a b (c ∷ cs) lt = later_turn (ends_line c cs) k l a b c cs refl (later_rise k l a b cs (omega arith)) (later_rise (suc k) (suc l) a b cs lt)

same_or_later : (k l a b : ℕ) (cs : List ℕ) → k ≤ l → (k ≡ l → a ≤ b) → bytes_before k a cs ≤ bytes_before l b cs
same_or_later k l a b cs le same =
    ⊎_elim
    (λ (lt : k < l). later_rise k l a b cs lt)
    (λ (ge : l ≤ k).
    let e : k ≡ l = omega arith in
    subst (λ n. bytes_before k a cs ≤ bytes_before n b cs) e (line_rise k a b cs (same e)))
    (cases_lt k l)

-- a position that is not after another is not behind it in the text
pub offset_of-order : (text : List ℕ) (a b : Position) → is_after a b ≡ false → offset_of text a ≤ offset_of text b
offset_of-order text a b h =
    let parts = or_parts (ltb b.line a.line) (eqb a.line b.line && ltb b.unit a.unit) h in
    same_or_later a.line b.line a.unit b.unit (chars text) (ltb-false b.line a.line parts.0)
    (λ e. ⊎_elim
    (λ (other : eqb a.line b.line ≡ false). absurd (true≢false (sym (eq-eqb a.line b.line e) ∙ other)))
    (λ (less : ltb b.unit a.unit ≡ false). ltb-false b.unit a.unit less)
    (and_cases (eqb a.line b.line) (ltb b.unit a.unit) parts.1))
