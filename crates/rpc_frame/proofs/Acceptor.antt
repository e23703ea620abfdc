-- What may come behind each place of a header, byte by byte, and that a step of the reader takes its first byte.
use Rattle.std.proofs.Common.{◌≡◌, ◌≢◌, ℕ, ◌+◌, ◌-◌, ◌*◌, ◌<◌, ◌≤◌, Bool, true, false, cond, eqb, ltb, leb, List, [], ◌∷◌, drop, Option, Some, None, ◌⊎◌, inl, inr, refl, sym, ap, ◌∙◌, subst, ⊎_elim, slice_get, zero, suc, arith}
use Rattle.std.specs.Prelude.{codes}
use Rattle.std.specs.Char.{to_ascii_lowercase, is_ascii_digit, IsAsciiDigit}
use Rattle.std.proofs.lemmas.Bool.{cond_both, eqb-true, eqb-false, ltb-true, ltb-false, leb-true, leb-false, le-leb, and_parts, and_from, both_ways}
use Rattle.rpc_frame.specs.declared.header.Field.{Field}
use Rattle.rpc_frame.specs.declared.header.Field.TheVariants.{ContentLength, ContentType}
use Rattle.rpc_frame.specs.declared.header.Part.{Part}
use Rattle.rpc_frame.specs.declared.header.Part.TheVariants.{LineStart, Prefix, Name, Spaces, Digits, Value, LineFeed, LastFeed, Whole}
use Rattle.rpc_frame.specs.declared.header.Header.{Header}
use Rattle.rpc_frame.specs.HeaderMachine.{step, step_line_start, step_prefix, step_prefix_at, step_fork, step_name, step_name_at, step_spaces, step_digits, step_digit, step_value}

-- a set of byte lists
abbrev pub Texts : Type 1
Texts = List ℕ → Type 0

abbrev pub ReadsByte : ℕ → Texts → Texts
ReadsByte c K [] = ⊥
ReadsByte c K (b ∷ bs) = (b ≡ c) × K bs

abbrev pub ReadsName : List ℕ → Texts → Texts
ReadsName [] K bs = K bs
ReadsName (c ∷ name) K [] = ⊥
ReadsName (c ∷ name) K (b ∷ bs) = (to_ascii_lowercase b ≡ c) × ReadsName name K bs

-- the digits of a length behind `count` digits that say `value`
abbrev pub ReadsDigits : ℕ → ℕ → ℕ → (ℕ → Texts) → Texts
ReadsDigits left count value K [] = ⊥
ReadsDigits left count value K (b ∷ bs) =
    ((b ≡ 13) × ReadsByte 10 (K value) bs) ⊎ (IsAsciiDigit b × (count < 15) × (1 ≤ left) × ReadsDigits (left - 1) (count + 1) (value * 10 + (b - 48)) K bs)

abbrev pub ReadsSpaces : ℕ → (ℕ → Texts) → Texts
ReadsSpaces left K [] = ⊥
ReadsSpaces left K (b ∷ bs) =
    ((b ≡ 32) × (2 ≤ left) × ReadsSpaces (left - 1) K bs) ⊎ (IsAsciiDigit b × (1 ≤ left) × ReadsDigits (left - 1) 1 (0 * 10 + (b - 48)) K bs)

abbrev pub ReadsValue : ℕ → Texts → Texts
ReadsValue left K [] = ⊥
ReadsValue left K (b ∷ bs) =
    ((b ≡ 13) × ReadsByte 10 K bs) ⊎ ((b ≢ 13) × (b ≢ 10) × (1 ≤ left) × ReadsValue (left - 1) K bs)

-- a field's line behind `Content-`
abbrev pub ReadsLength : (ℕ → Texts) → Texts
ReadsLength K = ReadsName (codes "length") (ReadsByte 58 (ReadsSpaces 1009 K))

abbrev pub ReadsType : Texts → Texts
ReadsType K = ReadsName (codes "type") (ReadsByte 58 (ReadsValue 1011 K))

-- nothing is left, and this was said
abbrev pub Ends : Option ℕ → ℕ → Texts
Ends None n bs = ⊥
Ends (Some said) n bs = (said ≡ n) × (bs ≡ [])

abbrev pub ReadsEnd : Option ℕ → ℕ → Texts
ReadsEnd said n = ReadsByte 13 (ReadsByte 10 (Ends said n))

-- behind the lines of both fields, and of each alone
abbrev pub BehindBoth : ℕ → ℕ → Texts
BehindBoth said n = ReadsEnd (Some said) n

abbrev pub BehindLength : ℕ → ℕ → Texts
BehindLength said n bs = BehindBoth said n bs ⊎ ReadsName (codes "content-") (ReadsType (BehindBoth said n)) bs

abbrev pub BehindType : ℕ → Texts
BehindType n = ReadsName (codes "content-") (ReadsLength (λ said. BehindBoth said n))

-- behind `Content-`
abbrev pub Forks : Option ℕ → Bool → ℕ → Texts
Forks None false n bs = ReadsLength (λ said. BehindLength said n) bs ⊎ ReadsType (BehindType n) bs
Forks None true n bs = ReadsLength (λ said. BehindBoth said n) bs
Forks (Some said) false n bs = ReadsType (BehindBoth said n) bs
Forks (Some said) true n bs = ⊥

-- at a line's start
abbrev pub Lines : Option ℕ → Bool → ℕ → Texts
Lines None false n bs = ReadsName (codes "content-") (Forks None false n) bs
Lines None true n bs = BehindType n bs
Lines (Some said) false n bs = BehindLength said n bs
Lines (Some said) true n bs = BehindBoth said n bs

abbrev pub RemainsAt : Part → Option ℕ → Bool → ℕ → Texts
RemainsAt LineStart said typed n bs = Lines said typed n bs
RemainsAt (Prefix letters) said typed n bs = ReadsName (drop letters (codes "content-")) (Forks said typed n) bs
RemainsAt (Name ContentLength letters) said typed n bs =
    ReadsName (drop letters (codes "length")) (ReadsByte 58 (ReadsSpaces 1009 (λ m. Lines (Some m) typed n))) bs
RemainsAt (Name ContentType letters) said typed n bs =
    ReadsName (drop letters (codes "type")) (ReadsByte 58 (ReadsValue 1011 (Lines said true n))) bs
RemainsAt (Spaces left) said typed n bs = ReadsSpaces left (λ m. Lines (Some m) typed n) bs
RemainsAt (Digits left count value) said typed n bs = ReadsDigits left count value (λ m. Lines (Some m) typed n) bs
RemainsAt (Value left) said typed n bs = ReadsValue left (Lines said true n) bs
RemainsAt LineFeed said typed n bs = ReadsByte 10 (Lines said typed n) bs
RemainsAt LastFeed said typed n bs = ReadsByte 10 (Ends said n) bs
RemainsAt Whole said typed n bs = Ends said n bs

-- what completes a header that says n
abbrev pub Remains : Header → ℕ → Texts
Remains h n bs = RemainsAt h.part h.length h.typed n bs

-- the same where a step may have found no way on
abbrev pub RemainsIf : Option Header → ℕ → Texts
RemainsIf None n bs = ⊥
RemainsIf (Some h) n bs = Remains h n bs

-- each implies the other
abbrev pub Both : Type 0 → Type 0 → Type 0
Both A B = (A → B) × (B → A)

abbrev header : Option ℕ → Bool → Part → Header
header said typed part = record { length = said; typed = typed; part = part }

-- a name's next letter, or none at its end
abbrev NextLetter : List ℕ → ℕ → Option ℕ → Type 0
NextLetter name k None = drop k name ≡ []
NextLetter name k (Some c) = drop k name ≡ c ∷ drop (k + 1) name

next_letter : (name : List ℕ) (k : ℕ) → NextLetter name k (slice_get name k)
next_letter [] zero = refl
next_letter [] (suc k) = refl
next_letter (c ∷ name) zero = refl
next_letter (c ∷ name) (suc k) = later name k c (slice_get name k) (next_letter name k)
  where
    later : (name : List ℕ) (k c : ℕ) (o : Option ℕ) → NextLetter name k o → NextLetter (c ∷ name) (suc k) o
    later name k c None e = e
    later name k c (Some d) e =
        let more : suc (k + 1) ≡ suc k + 1 = omega arith in e ∙ ap (λ j. d ∷ drop j (c ∷ name)) more

pub is_ascii_digit-true : (b : ℕ) → is_ascii_digit b ≡ true → IsAsciiDigit b
is_ascii_digit-true b t =
    let p = and_parts (leb 48 b) (leb b 57) t in (leb-true 48 b p.0, leb-true b 57 p.1)

is_ascii_digit-false : (b : ℕ) → is_ascii_digit b ≡ false → IsAsciiDigit b → ⊥
is_ascii_digit-false b f d =
    both_ways (is_ascii_digit b) f (and_from (leb 48 b) (leb b 57) (le-leb 48 b d.0) (le-leb b 57 d.1))

no_letter : (b c : ℕ) → eqb b 13 ≡ true → to_ascii_lowercase b ≡ c → eqb c 13 ≡ false → ⊥
no_letter b c t e ne = eqb-false c 13 ne (sym e ∙ ap to_ascii_lowercase (eqb-true b 13 t))

fork : (said : Option ℕ) (typed : Bool) (part : Part) (b n : ℕ) (bs : List ℕ) → Both (Forks said typed n (b ∷ bs)) (RemainsIf (step_fork (header said typed part) b) n bs)
fork None false part b n bs =
    cond_both (eqb (to_ascii_lowercase b) 108) _ _ (λ o. Both (Forks None false n (b ∷ bs)) (RemainsIf o n bs))
    (λ t.
    (⊎_elim (λ r. r.1) (λ r. absurd (omega (arith, r.0, eqb-true _ _ t))), λ r. inl (eqb-true _ _ t, r)))
    (λ f.
    cond_both (eqb (to_ascii_lowercase b) 116) _ _ (λ o. Both (Forks None false n (b ∷ bs)) (RemainsIf o n bs))
    (λ t.
    (⊎_elim (λ r. absurd (eqb-false _ _ f r.0)) (λ r. r.1), λ r. inr (eqb-true _ _ t, r)))
    (λ g.
    (⊎_elim (λ r. absurd (eqb-false _ _ f r.0)) (λ r. absurd (eqb-false _ _ g r.0)), λ r. absurd r)))
fork None true part b n bs =
    cond_both (eqb (to_ascii_lowercase b) 108) _ _ (λ o. Both (Forks None true n (b ∷ bs)) (RemainsIf o n bs))
    (λ t. (λ r. r.1, λ r. (eqb-true _ _ t, r)))
    (λ f.
    cond_both (eqb (to_ascii_lowercase b) 116) _ _ (λ o. Both (Forks None true n (b ∷ bs)) (RemainsIf o n bs))
    (λ t. (λ r. absurd (eqb-false _ _ f r.0), λ r. absurd r)) (λ g. (λ r. absurd (eqb-false _ _ f r.0), λ r. absurd r)))
fork (Some said) false part b n bs =
    cond_both (eqb (to_ascii_lowercase b) 108) _ _ (λ o. Both (Forks (Some said) false n (b ∷ bs)) (RemainsIf o n bs))
    (λ t. (λ r. absurd (omega (arith, r.0, eqb-true _ _ t)), λ r. absurd r))
    (λ f.
    cond_both (eqb (to_ascii_lowercase b) 116) _ _ (λ o. Both (Forks (Some said) false n (b ∷ bs)) (RemainsIf o n bs))
    (λ t. (λ r. r.1, λ r. (eqb-true _ _ t, r))) (λ g. (λ r. absurd (eqb-false _ _ g r.0), λ r. absurd r)))
fork (Some said) true part b n bs =
    cond_both (eqb (to_ascii_lowercase b) 108) _ _ (λ o. Both (Forks (Some said) true n (b ∷ bs)) (RemainsIf o n bs))
    (λ t. (λ r. absurd r, λ r. absurd r))
    (λ f.
    cond_both (eqb (to_ascii_lowercase b) 116) _ _ (λ o. Both (Forks (Some said) true n (b ∷ bs)) (RemainsIf o n bs))
    (λ t. (λ r. absurd r, λ r. absurd r)) (λ g. (λ r. absurd r, λ r. absurd r)))

prefix : (said : Option ℕ) (typed : Bool) (part : Part) (k b n : ℕ) (bs : List ℕ) → Both (ReadsName (drop k (codes "content-")) (Forks said typed n) (b ∷ bs)) (RemainsIf (step_prefix (header said typed part) k b) n bs)
prefix said typed part k b n bs =
    by_letter said typed part k b n bs (slice_get (codes "content-") k) (next_letter (codes "content-") k)
  where
    by_letter : (said : Option ℕ) (typed : Bool) (part : Part) (k b n : ℕ) (bs : List ℕ) (o : Option ℕ) → NextLetter (codes "content-") k o → Both (ReadsName (drop k (codes "content-")) (Forks said typed n) (b ∷ bs)) (RemainsIf (step_prefix_at o (header said typed part) k b) n bs)
    by_letter said typed part k b n bs None e =
        let P : List ℕ → Type 0 = λ name. Both (ReadsName name (Forks said typed n) (b ∷ bs)) (RemainsIf (step_fork (header said typed part) b) n bs) in
        subst P (sym e) (fork said typed part b n bs)
    by_letter said typed part k b n bs (Some c) e =
        let P : List ℕ → Type 0 = λ name. Both (ReadsName name (Forks said typed n) (b ∷ bs)) (RemainsIf (step_prefix_at (Some c) (header said typed part) k b) n bs) in
        subst P (sym e)
        (cond_both (eqb (to_ascii_lowercase b) c) _ _ (λ o. Both (ReadsName (c ∷ drop (k + 1) (codes "content-")) (Forks said typed n) (b ∷ bs)) (RemainsIf o n bs))
        (λ t. (λ r. r.1, λ r. (eqb-true _ _ t, r))) (λ f. (λ r. absurd (eqb-false _ _ f r.0), λ r. absurd r)))

line_start : (said : Option ℕ) (typed : Bool) (b n : ℕ) (bs : List ℕ) → Both (Lines said typed n (b ∷ bs)) (RemainsIf (step_line_start (header said typed LineStart) b) n bs)
line_start None false b n bs =
    cond_both (eqb b 13) _ _ (λ o. Both (Lines None false n (b ∷ bs)) (RemainsIf o n bs))
    (λ t. (λ r. absurd (no_letter b 99 t r.0 refl), λ r. absurd r)) (λ f. prefix None false LineStart 0 b n bs)
line_start None true b n bs =
    cond_both (eqb b 13) _ _ (λ o. Both (Lines None true n (b ∷ bs)) (RemainsIf o n bs))
    (λ t. (λ r. absurd (no_letter b 99 t r.0 refl), λ r. absurd r)) (λ f. prefix None true LineStart 0 b n bs)
line_start (Some said) false b n bs =
    cond_both (eqb b 13) _ _ (λ o. Both (Lines (Some said) false n (b ∷ bs)) (RemainsIf o n bs))
    (λ t. (⊎_elim (λ r. r.1) (λ r. absurd (no_letter b 99 t r.0 refl)), λ r. inl (eqb-true _ _ t, r)))
    (λ f.
    let p = prefix (Some said) false LineStart 0 b n bs in
    (⊎_elim (λ r. absurd (eqb-false _ _ f r.0)) (λ r. p.0 r), λ r. inr (p.1 r)))
line_start (Some said) true b n bs =
    cond_both (eqb b 13) _ _ (λ o. Both (Lines (Some said) true n (b ∷ bs)) (RemainsIf o n bs))
    (λ t. (λ r. r.1, λ r. (eqb-true _ _ t, r))) (λ f. (λ r. absurd (eqb-false _ _ f r.0), λ r. absurd r))

name : (said : Option ℕ) (typed : Bool) (part : Part) (field : Field) (k b n : ℕ) (bs : List ℕ) → Both (RemainsAt (Name field k) said typed n (b ∷ bs)) (RemainsIf (step_name (header said typed part) field k b) n bs)
name said typed part ContentLength k b n bs =
    by_letter said typed part k b n bs (slice_get (codes "length") k) (next_letter (codes "length") k)
  where
    by_letter : (said : Option ℕ) (typed : Bool) (part : Part) (k b n : ℕ) (bs : List ℕ) (o : Option ℕ) → NextLetter (codes "length") k o → Both (RemainsAt (Name ContentLength k) said typed n (b ∷ bs)) (RemainsIf (step_name_at o (header said typed part) ContentLength k b) n bs)
    by_letter said typed part k b n bs None e =
        let P : List ℕ → Type 0 = λ name. Both (ReadsName name (ReadsByte 58 (ReadsSpaces 1009 (λ m. Lines (Some m) typed n))) (b ∷ bs)) (RemainsIf (step_name_at None (header said typed part) ContentLength k b) n bs) in
        subst P (sym e)
        (cond_both (eqb b 58) _ _ (λ o. Both (ReadsName [] (ReadsByte 58 (ReadsSpaces 1009 (λ m. Lines (Some m) typed n))) (b ∷ bs)) (RemainsIf o n bs))
        (λ t. (λ r. r.1, λ r. (eqb-true _ _ t, r))) (λ f. (λ r. absurd (eqb-false _ _ f r.0), λ r. absurd r)))
    by_letter said typed part k b n bs (Some c) e =
        let P : List ℕ → Type 0 = λ name. Both (ReadsName name (ReadsByte 58 (ReadsSpaces 1009 (λ m. Lines (Some m) typed n))) (b ∷ bs)) (RemainsIf (step_name_at (Some c) (header said typed part) ContentLength k b) n bs) in
        subst P (sym e)
        (cond_both (eqb (to_ascii_lowercase b) c) _ _ (λ o. Both (ReadsName (c ∷ drop (k + 1) (codes "length")) (ReadsByte 58 (ReadsSpaces 1009 (λ m. Lines (Some m) typed n))) (b ∷ bs)) (RemainsIf o n bs))
        (λ t. (λ r. r.1, λ r. (eqb-true _ _ t, r))) (λ f. (λ r. absurd (eqb-false _ _ f r.0), λ r. absurd r)))
name said typed part ContentType k b n bs =
    by_letter said typed part k b n bs (slice_get (codes "type") k) (next_letter (codes "type") k)
  where
    by_letter : (said : Option ℕ) (typed : Bool) (part : Part) (k b n : ℕ) (bs : List ℕ) (o : Option ℕ) → NextLetter (codes "type") k o → Both (RemainsAt (Name ContentType k) said typed n (b ∷ bs)) (RemainsIf (step_name_at o (header said typed part) ContentType k b) n bs)
    by_letter said typed part k b n bs None e =
        let P : List ℕ → Type 0 = λ name. Both (ReadsName name (ReadsByte 58 (ReadsValue 1011 (Lines said true n))) (b ∷ bs)) (RemainsIf (step_name_at None (header said typed part) ContentType k b) n bs) in
        subst P (sym e)
        (cond_both (eqb b 58) _ _ (λ o. Both (ReadsName [] (ReadsByte 58 (ReadsValue 1011 (Lines said true n))) (b ∷ bs)) (RemainsIf o n bs))
        (λ t. (λ r. r.1, λ r. (eqb-true _ _ t, r))) (λ f. (λ r. absurd (eqb-false _ _ f r.0), λ r. absurd r)))
    by_letter said typed part k b n bs (Some c) e =
        let P : List ℕ → Type 0 = λ name. Both (ReadsName name (ReadsByte 58 (ReadsValue 1011 (Lines said true n))) (b ∷ bs)) (RemainsIf (step_name_at (Some c) (header said typed part) ContentType k b) n bs) in
        subst P (sym e)
        (cond_both (eqb (to_ascii_lowercase b) c) _ _ (λ o. Both (ReadsName (c ∷ drop (k + 1) (codes "type")) (ReadsByte 58 (ReadsValue 1011 (Lines said true n))) (b ∷ bs)) (RemainsIf o n bs))
        (λ t. (λ r. r.1, λ r. (eqb-true _ _ t, r))) (λ f. (λ r. absurd (eqb-false _ _ f r.0), λ r. absurd r)))

-- a digit of a length, and what comes behind it
abbrev ReadsDigit : ℕ → ℕ → ℕ → (ℕ → Texts) → ℕ → Texts
ReadsDigit left count value K b bs =
    IsAsciiDigit b × (count < 15) × (1 ≤ left) × ReadsDigits (left - 1) (count + 1) (value * 10 + (b - 48)) K bs

digit : (said : Option ℕ) (typed : Bool) (part : Part) (left count value b n : ℕ) (bs : List ℕ) → Both (ReadsDigit left count value (λ m. Lines (Some m) typed n) b bs) (RemainsIf (step_digit (header said typed part) left count value b) n bs)
digit said typed part left count value b n bs =
    cond_both (is_ascii_digit b) _ _ (λ o. Both (ReadsDigit left count value (λ m. Lines (Some m) typed n) b bs) (RemainsIf o n bs))
    (λ t.
    cond_both (ltb count 15) _ _ (λ o. Both (ReadsDigit left count value (λ m. Lines (Some m) typed n) b bs) (RemainsIf o n bs))
    (λ u.
    cond_both (leb 1 left) _ _ (λ o. Both (ReadsDigit left count value (λ m. Lines (Some m) typed n) b bs) (RemainsIf o n bs))
    (λ v. (λ r. r.3, λ r. (is_ascii_digit-true b t, ltb-true _ _ u, leb-true _ _ v, r)))
    (λ f. (λ r. absurd (omega (arith, leb-false _ _ f, r.2)), λ r. absurd r)))
    (λ f. (λ r. absurd (omega (arith, ltb-false _ _ f, r.1)), λ r. absurd r)))
    (λ f. (λ r. absurd (is_ascii_digit-false b f r.0), λ r. absurd r))

spaces : (said : Option ℕ) (typed : Bool) (part : Part) (left b n : ℕ) (bs : List ℕ) → Both (RemainsAt (Spaces left) said typed n (b ∷ bs)) (RemainsIf (step_spaces (header said typed part) left b) n bs)
spaces said typed part left b n bs =
    cond_both (eqb b 32) _ _ (λ o. Both (RemainsAt (Spaces left) said typed n (b ∷ bs)) (RemainsIf o n bs))
    (λ t.
    cond_both (leb 2 left) _ _ (λ o. Both (RemainsAt (Spaces left) said typed n (b ∷ bs)) (RemainsIf o n bs))
    (λ u.
    (⊎_elim (λ r. r.2) (λ r. absurd (omega (arith, eqb-true _ _ t, r.0))), λ r. inl (eqb-true _ _ t, leb-true _ _ u, r)))
    (λ f.
    (⊎_elim (λ r. absurd (omega (arith, leb-false _ _ f, r.1))) (λ r. absurd (omega (arith, eqb-true _ _ t, r.0))), λ r. absurd r)))
    (λ f.
    let p = digit said typed part left 0 0 b n bs in
    (⊎_elim (λ r. absurd (eqb-false _ _ f r.0)) (λ r. p.0 (r.0, omega arith, r.1, r.2)), λ r. let q = p.1 r in inr (q.0, q.2, q.3)))

digits : (said : Option ℕ) (typed : Bool) (part : Part) (left count value b n : ℕ) (bs : List ℕ) → Both (RemainsAt (Digits left count value) said typed n (b ∷ bs)) (RemainsIf (step_digits (header said typed part) left count value b) n bs)
digits said typed part left count value b n bs =
    cond_both (eqb b 13) _ _ (λ o. Both (RemainsAt (Digits left count value) said typed n (b ∷ bs)) (RemainsIf o n bs))
    (λ t.
    (⊎_elim (λ r. r.1) (λ r. absurd (omega (arith, eqb-true _ _ t, r.0))), λ r. inl (eqb-true _ _ t, r)))
    (λ f.
    let p = digit said typed part left count value b n bs in
    (⊎_elim (λ r. absurd (eqb-false _ _ f r.0)) (λ r. p.0 r), λ r. inr (p.1 r)))

value : (said : Option ℕ) (typed : Bool) (part : Part) (left b n : ℕ) (bs : List ℕ) → Both (RemainsAt (Value left) said typed n (b ∷ bs)) (RemainsIf (step_value (header said typed part) left b) n bs)
value said typed part left b n bs =
    cond_both (eqb b 13) _ _ (λ o. Both (RemainsAt (Value left) said typed n (b ∷ bs)) (RemainsIf o n bs))
    (λ t.
    (⊎_elim (λ r. r.1) (λ r. absurd (r.0 (eqb-true _ _ t))), λ r. inl (eqb-true _ _ t, r)))
    (λ f.
    cond_both (eqb b 10) _ _ (λ o. Both (RemainsAt (Value left) said typed n (b ∷ bs)) (RemainsIf o n bs))
    (λ t.
    (⊎_elim (λ r. absurd (eqb-false _ _ f r.0)) (λ r. absurd (r.1 (eqb-true _ _ t))), λ r. absurd r))
    (λ g.
    cond_both (leb 1 left) _ _ (λ o. Both (RemainsAt (Value left) said typed n (b ∷ bs)) (RemainsIf o n bs))
    (λ t.
    (⊎_elim (λ r. absurd (eqb-false _ _ f r.0)) (λ r. r.3), λ r. inr (eqb-false _ _ f, eqb-false _ _ g, leb-true _ _ t, r)))
    (λ h.
    (⊎_elim (λ r. absurd (eqb-false _ _ f r.0)) (λ r. absurd (omega (arith, leb-false _ _ h, r.2))), λ r. absurd r))))

feed : (K : Texts) (h : Header) (b n : ℕ) (bs : List ℕ) → (Remains h n bs → K bs) → (K bs → Remains h n bs) → Both (ReadsByte 10 K (b ∷ bs)) (RemainsIf (cond (eqb b 10) (Some h) None) n bs)
feed K h b n bs out back =
    cond_both (eqb b 10) _ _ (λ o. Both (ReadsByte 10 K (b ∷ bs)) (RemainsIf o n bs))
    (λ t. (λ r. back r.1, λ r. (eqb-true _ _ t, out r))) (λ f. (λ r. absurd (eqb-false _ _ f r.0), λ r. absurd r))

whole : (said : Option ℕ) (b n : ℕ) (bs : List ℕ) → Ends said n (b ∷ bs) → ⊥
whole None b n bs r = r
whole (Some m) b n bs r = cc

steps_at : (part : Part) (said : Option ℕ) (typed : Bool) (b n : ℕ) (bs : List ℕ) → Both (RemainsAt part said typed n (b ∷ bs)) (RemainsIf (step (header said typed part) b) n bs)
steps_at LineStart said typed b n bs = line_start said typed b n bs
steps_at (Prefix letters) said typed b n bs = prefix said typed (Prefix letters) letters b n bs
steps_at (Name field letters) said typed b n bs = name said typed (Name field letters) field letters b n bs
steps_at (Spaces left) said typed b n bs = spaces said typed (Spaces left) left b n bs
steps_at (Digits left count v) said typed b n bs = digits said typed (Digits left count v) left count v b n bs
steps_at (Value left) said typed b n bs = value said typed (Value left) left b n bs
steps_at LineFeed said typed b n bs = feed (Lines said typed n) (header said typed LineStart) b n bs (λ r. r) (λ r. r)
steps_at LastFeed said typed b n bs = feed (Ends said n) (header said typed Whole) b n bs (λ r. r) (λ r. r)
steps_at Whole said typed b n bs = (λ r. whole said b n bs r, λ r. absurd r)

-- a step of the reader takes the first byte of what completes the header
pub steps : (h : Header) (b n : ℕ) (bs : List ℕ) → Both (Remains h n (b ∷ bs)) (RemainsIf (step h b) n bs)
steps h b n bs = steps_at h.part h.length h.typed b n bs
