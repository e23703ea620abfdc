-- What completes a header at its start is a header.
use Rattle.std.proofs.Common.{◌≡◌, ◌≢◌, ℕ, ◌+◌, ◌-◌, ◌*◌, ◌≤◌, false, List, [], ◌∷◌, ◌++◌, length, map, Some, None, ◌⊎◌, inl, inr, refl, sym, ap, ◌∙◌, subst, ⊎_elim, zero, suc, All, append_assoc, length-append, arith}
use Rattle.std.specs.Prelude.{codes}
use Rattle.std.specs.Char.{to_ascii_lowercase, IsAsciiDigit}
use Rattle.std.proofs.lemmas.List.{length-map}
use Rattle.rpc_frame.specs.Frames.{number_from, IsLengthLine, IsTypeLine, HasFields, IsHeader}
use Rattle.rpc_frame.proofs.Acceptor.{Texts, Lines, Forks, Ends, ReadsName, ReadsByte, ReadsSpaces, ReadsDigits, ReadsValue, ReadsLength, ReadsType, BehindBoth, BehindLength, BehindType}

pub all_cons : {X : Type 0} (P : X → Type 0) (x : X) (xs : List X) → P x → All P xs → All P (x ∷ xs)
all_cons P x xs p h zero d l = p
all_cons P x xs p h (suc k) d l = h k d (omega arith)

pub all_none : {X : Type 0} (P : X → Type 0) → All P []
all_none P k d l = absurd (omega arith)

pub all_head : {X : Type 0} (P : X → Type 0) (x : X) (xs : List X) → All P (x ∷ xs) → P x
all_head P x xs h = h 0 x (omega arith)

pub all_tail : {X : Type 0} (P : X → Type 0) (x : X) (xs : List X) → All P (x ∷ xs) → All P xs
all_tail P x xs h k d l = h (suc k) d (omega arith)

byte_out : (c : ℕ) (K : Texts) (bs : List ℕ) → ReadsByte c K bs → (rest : List ℕ) × (bs ≡ c ∷ rest) × K rest
byte_out c K [] r = absurd r
byte_out c K (b ∷ bs) r = (bs, ap (λ x. x ∷ bs) r.0, r.1)

name_out : (name : List ℕ) (K : Texts) (bs : List ℕ) → ReadsName name K bs → (written rest : List ℕ) × (bs ≡ written ++ rest) × (map to_ascii_lowercase written ≡ name) × K rest
name_out [] K bs r = ([], bs, refl, refl, r)
name_out (c ∷ name) K [] r = absurd r
name_out (c ∷ name) K (b ∷ bs) r =
    let p = name_out name K bs r.1 in
    (b ∷ p.0, p.1, ap (λ t. b ∷ t) p.2, ap (λ x. x ∷ map to_ascii_lowercase p.0) r.0 ∙ ap (λ t. c ∷ t) p.3, p.4)

name_in : (written rest : List ℕ) (K : Texts) → K rest → ReadsName (map to_ascii_lowercase written) K (written ++ rest)
name_in [] rest K r = r
name_in (b ∷ written) rest K r = (refl, name_in written rest K r)

names_join : (a name : List ℕ) (K : Texts) (bs : List ℕ) → ReadsName a (ReadsName name K) bs → ReadsName (a ++ name) K bs
names_join [] name K bs r = r
names_join (c ∷ a) name K [] r = absurd r
names_join (c ∷ a) name K (b ∷ bs) r = (r.0, names_join a name K bs r.1)

names_part : (a name : List ℕ) (K : Texts) (bs : List ℕ) → ReadsName (a ++ name) K bs → ReadsName a (ReadsName name K) bs
names_part [] name K bs r = r
names_part (c ∷ a) name K [] r = absurd r
names_part (c ∷ a) name K (b ∷ bs) r = (r.0, names_part a name K bs r.1)

name_or : (name : List ℕ) (J K : Texts) (bs : List ℕ) → ReadsName name (λ t. J t ⊎ K t) bs → ReadsName name J bs ⊎ ReadsName name K bs
name_or [] J K bs r = r
name_or (c ∷ name) J K [] r = absurd r
name_or (c ∷ name) J K (b ∷ bs) r =
    ⊎_elim (λ q. inl (r.0, q)) (λ q. inr (r.0, q)) (name_or name J K bs r.1)

name_weaker : (name : List ℕ) (J K : Texts) (bs : List ℕ) → ((t : List ℕ) → J t → K t) → ReadsName name J bs → ReadsName name K bs
name_weaker [] J K bs w r = w bs r
name_weaker (c ∷ name) J K [] w r = absurd r
name_weaker (c ∷ name) J K (b ∷ bs) w r = (r.0, name_weaker name J K bs w r.1)

record DigitsThen (left count value : ℕ) (K : ℕ → Texts) (bs : List ℕ) : Type 0 where
  digits : List ℕ
  rest : List ℕ
  written : bs ≡ digits ++ 13 ∷ 10 ∷ rest
  decimal : All IsAsciiDigit digits
  few : count ≤ 15 → count + length digits ≤ 15
  room : length digits ≤ left
  behind : K (number_from value digits) rest

digits_out : (left count value : ℕ) (K : ℕ → Texts) (bs : List ℕ) → ReadsDigits left count value K bs → DigitsThen left count value K bs
digits_out left count value K [] r = absurd r
digits_out left count value K (b ∷ bs) r =
    ⊎_elim
    (λ q.
    let p = byte_out 10 (K value) bs q.1 in
    record {
      digits = [];
      rest = p.0;
      written = ap (λ x. x ∷ bs) q.0 ∙ ap (λ t. 13 ∷ t) p.1;
      decimal = all_none IsAsciiDigit;
      few = λ h. omega arith;
      room = omega arith;
      behind = p.2;
    })
    (λ q.
    let p = digits_out (left - 1) (count + 1) (value * 10 + (b - 48)) K bs q.3 in
    record {
      digits = b ∷ p.digits;
      rest = p.rest;
      written = ap (λ t. b ∷ t) p.written;
      decimal = all_cons IsAsciiDigit b p.digits q.0 p.decimal;
      few = λ h. let more = p.few (omega (arith, q.1)) in omega (arith, more);
      room = omega (arith, p.room, q.2);
      behind = p.behind;
    }) r

digits_in : (digits : List ℕ) (left count value : ℕ) (K : ℕ → Texts) (rest : List ℕ) → All IsAsciiDigit digits → count + length digits ≤ 15 → length digits ≤ left → K (number_from value digits) rest → ReadsDigits left count value K (digits ++ 13 ∷ 10 ∷ rest)
digits_in [] left count value K rest decimal few room behind = inl (refl, (refl, behind))
digits_in (d ∷ digits) left count value K rest decimal few room behind =
    inr
    (all_head IsAsciiDigit d digits decimal, omega arith, omega arith, digits_in digits (left - 1) (count + 1) (value * 10 + (d - 48)) K rest (all_tail IsAsciiDigit d digits decimal) (omega arith) (omega arith) behind)

record SpacesThen (left : ℕ) (K : ℕ → Texts) (bs : List ℕ) : Type 0 where
  spaces : List ℕ
  digits : List ℕ
  rest : List ℕ
  written : bs ≡ spaces ++ (digits ++ 13 ∷ 10 ∷ rest)
  blank : All (λ b. b ≡ 32) spaces
  decimal : All IsAsciiDigit digits
  some : 1 ≤ length digits
  few : length digits ≤ 15
  room : length spaces + length digits ≤ left
  behind : K (number_from 0 digits) rest

spaces_out : (left : ℕ) (K : ℕ → Texts) (bs : List ℕ) → ReadsSpaces left K bs → SpacesThen left K bs
spaces_out left K [] r = absurd r
spaces_out left K (b ∷ bs) r =
    ⊎_elim
    (λ q.
    let p = spaces_out (left - 1) K bs q.2 in
    record {
      spaces = b ∷ p.spaces;
      digits = p.digits;
      rest = p.rest;
      written = ap (λ t. b ∷ t) p.written;
      blank = all_cons (λ c. c ≡ 32) b p.spaces q.0 p.blank;
      decimal = p.decimal;
      some = p.some;
      few = p.few;
      room = omega (arith, p.room, q.1);
      behind = p.behind;
    })
    (λ q.
    let p = digits_out (left - 1) 1 (0 * 10 + (b - 48)) K bs q.2 in
    record {
      spaces = [];
      digits = b ∷ p.digits;
      rest = p.rest;
      written = ap (λ t. b ∷ t) p.written;
      blank = all_none (λ c. c ≡ 32);
      decimal = all_cons IsAsciiDigit b p.digits q.0 p.decimal;
      some = omega arith;
      few = let more = p.few (omega arith) in omega (arith, more);
      room = omega (arith, p.room, q.1);
      behind = p.behind;
    }) r

spaces_in : (spaces digits : List ℕ) (left : ℕ) (K : ℕ → Texts) (rest : List ℕ) → All (λ b. b ≡ 32) spaces → All IsAsciiDigit digits → 1 ≤ length digits → length digits ≤ 15 → length spaces + length digits ≤ left → K (number_from 0 digits) rest → ReadsSpaces left K (spaces ++ (digits ++ 13 ∷ 10 ∷ rest))
spaces_in [] [] left K rest blank decimal some few room behind = absurd (omega arith)
spaces_in [] (d ∷ digits) left K rest blank decimal some few room behind =
    inr
    (all_head IsAsciiDigit d digits decimal, omega arith, digits_in digits (left - 1) 1 (0 * 10 + (d - 48)) K rest (all_tail IsAsciiDigit d digits decimal) (omega arith) (omega arith) behind)
spaces_in (b ∷ spaces) digits left K rest blank decimal some few room behind =
    inl
    (all_head (λ c. c ≡ 32) b spaces blank, omega arith, spaces_in spaces digits (left - 1) K rest (all_tail (λ c. c ≡ 32) b spaces blank) decimal some few (omega arith) behind)

abbrev IsPlain : ℕ → Type 0
IsPlain b = (b ≢ 13) × (b ≢ 10)

record ValueThen (left : ℕ) (K : Texts) (bs : List ℕ) : Type 0 where
  value : List ℕ
  rest : List ℕ
  written : bs ≡ value ++ 13 ∷ 10 ∷ rest
  plain : All IsPlain value
  room : length value ≤ left
  behind : K rest

value_out : (left : ℕ) (K : Texts) (bs : List ℕ) → ReadsValue left K bs → ValueThen left K bs
value_out left K [] r = absurd r
value_out left K (b ∷ bs) r =
    ⊎_elim
    (λ q.
    let p = byte_out 10 K bs q.1 in
    record {
      value = [];
      rest = p.0;
      written = ap (λ x. x ∷ bs) q.0 ∙ ap (λ t. 13 ∷ t) p.1;
      plain = all_none IsPlain;
      room = omega arith;
      behind = p.2;
    })
    (λ q.
    let p = value_out (left - 1) K bs q.3 in
    record {
      value = b ∷ p.value;
      rest = p.rest;
      written = ap (λ t. b ∷ t) p.written;
      plain = all_cons IsPlain b p.value (q.0, q.1) p.plain;
      room = omega (arith, p.room, q.2);
      behind = p.behind;
    }) r

value_in : (value : List ℕ) (left : ℕ) (K : Texts) (rest : List ℕ) → All IsPlain value → length value ≤ left → K rest → ReadsValue left K (value ++ 13 ∷ 10 ∷ rest)
value_in [] left K rest plain room behind = inl (refl, (refl, behind))
value_in (b ∷ value) left K rest plain room behind =
    let p = all_head IsPlain b value plain in
    inr
    (p.0, p.1, omega arith, value_in value (left - 1) K rest (all_tail IsPlain b value plain) (omega arith) behind)

-- a line of the length, and what comes behind its CR LF
abbrev LengthThen : (ℕ → Texts) → Texts
LengthThen K bs =
    (line : List ℕ) × (said : ℕ) × (rest : List ℕ) × (bs ≡ line ++ 13 ∷ 10 ∷ rest) × IsLengthLine line said × K said rest

regroup_length : (name spaces digits tail : List ℕ) → name ++ 58 ∷ (spaces ++ (digits ++ tail)) ≡ (name ++ 58 ∷ (spaces ++ digits)) ++ tail
regroup_length name spaces digits tail =
    ap (λ t. name ++ 58 ∷ t) (sym (append_assoc spaces digits tail)) ∙ sym (append_assoc name (58 ∷ (spaces ++ digits)) tail)

length_out : (K : ℕ → Texts) (bs : List ℕ) → ReadsName (codes "content-") (ReadsLength K) bs → LengthThen K bs
length_out K bs r =
    let n = name_out (codes "content-length") (ReadsByte 58 (ReadsSpaces 1009 K)) bs (names_join (codes "content-") (codes "length") (ReadsByte 58 (ReadsSpaces 1009 K)) bs r) in
    let colon = byte_out 58 (ReadsSpaces 1009 K) n.1 n.4 in
    let p = spaces_out 1009 K colon.0 colon.2 in
    let line = n.0 ++ 58 ∷ (p.spaces ++ p.digits) in
    let letters : length n.0 ≡ 14 = sym (length-map n.0 to_ascii_lowercase) ∙ ap length n.3 in (
      line,
      number_from 0 p.digits,
      p.rest,
      n.2 ∙ ap (λ t. n.0 ++ t) (colon.1 ∙ ap (λ t. 58 ∷ t) p.written) ∙ regroup_length n.0 p.spaces p.digits (13 ∷ 10 ∷ p.rest),
      record {
        name = n.0;
        spaces = p.spaces;
        digits = p.digits;
        written = refl;
        named = n.3;
        blank = p.blank;
        decimal = p.decimal;
        some = p.some;
        few = p.few;
        says = refl;
        short = omega (arith, length-append n.0 (58 ∷ (p.spaces ++ p.digits)), length-append p.spaces p.digits, letters, p.room);
      },
      p.behind,
    )

length_in : (K : ℕ → Texts) (line : List ℕ) (said : ℕ) (rest : List ℕ) → IsLengthLine line said → K said rest → ReadsName (codes "content-") (ReadsLength K) (line ++ 13 ∷ 10 ∷ rest)
length_in K line said rest l r =
    let tail = 13 ∷ 10 ∷ rest in
    let letters : length l.name ≡ 14 = sym (length-map l.name to_ascii_lowercase) ∙ ap length l.named in
    let long : length line ≡ length l.name + suc (length l.spaces + length l.digits) = ap length l.written ∙ length-append l.name (58 ∷ (l.spaces ++ l.digits)) ∙ ap (λ k. length l.name + suc k) (length-append l.spaces l.digits) in
    let S : ℕ → Type 0 = λ m. K m rest in
    let behind : ReadsSpaces 1009 K (l.spaces ++ (l.digits ++ tail)) = spaces_in l.spaces l.digits 1009 K rest l.blank l.decimal l.some l.few (omega (arith, letters, long, l.short)) (subst S l.says r) in
    let N : List ℕ → Type 0 = λ name. ReadsName name (ReadsByte 58 (ReadsSpaces 1009 K)) (l.name ++ 58 ∷ (l.spaces ++ (l.digits ++ tail))) in
    let named : N (codes "content-length") = subst N l.named (name_in l.name (58 ∷ (l.spaces ++ (l.digits ++ tail))) (ReadsByte 58 (ReadsSpaces 1009 K)) (refl, behind)) in
    let parted = names_part (codes "content-") (codes "length") (ReadsByte 58 (ReadsSpaces 1009 K)) _ named in
    let Q : List ℕ → Type 0 = λ t. ReadsName (codes "content-") (ReadsLength K) t in
    subst Q (regroup_length l.name l.spaces l.digits tail ∙ ap (λ t. t ++ tail) (sym l.written)) parted

-- a line of the type, and what comes behind its CR LF
abbrev TypeThen : Texts → Texts
TypeThen K bs =
    (line rest : List ℕ) × (bs ≡ line ++ 13 ∷ 10 ∷ rest) × IsTypeLine line × K rest

type_out : (K : Texts) (bs : List ℕ) → ReadsName (codes "content-") (ReadsType K) bs → TypeThen K bs
type_out K bs r =
    let n = name_out (codes "content-type") (ReadsByte 58 (ReadsValue 1011 K)) bs (names_join (codes "content-") (codes "type") (ReadsByte 58 (ReadsValue 1011 K)) bs r) in
    let colon = byte_out 58 (ReadsValue 1011 K) n.1 n.4 in
    let p = value_out 1011 K colon.0 colon.2 in
    let letters : length n.0 ≡ 12 = sym (length-map n.0 to_ascii_lowercase) ∙ ap length n.3 in (
      n.0 ++ 58 ∷ p.value,
      p.rest,
      n.2 ∙ ap (λ t. n.0 ++ t) (colon.1 ∙ ap (λ t. 58 ∷ t) p.written) ∙ sym (append_assoc n.0 (58 ∷ p.value) (13 ∷ 10 ∷ p.rest)),
      record {
        name = n.0;
        value = p.value;
        written = refl;
        named = n.3;
        plain = p.plain;
        short = omega (arith, length-append n.0 (58 ∷ p.value), letters, p.room);
      },
      p.behind,
    )

type_in : (K : Texts) (line rest : List ℕ) → IsTypeLine line → K rest → ReadsName (codes "content-") (ReadsType K) (line ++ 13 ∷ 10 ∷ rest)
type_in K line rest l r =
    let tail = 13 ∷ 10 ∷ rest in
    let letters : length l.name ≡ 12 = sym (length-map l.name to_ascii_lowercase) ∙ ap length l.named in
    let long : length line ≡ length l.name + suc (length l.value) = ap length l.written ∙ length-append l.name (58 ∷ l.value) in
    let behind : ReadsValue 1011 K (l.value ++ tail) = value_in l.value 1011 K rest l.plain (omega (arith, letters, long, l.short)) r in
    let N : List ℕ → Type 0 = λ name. ReadsName name (ReadsByte 58 (ReadsValue 1011 K)) (l.name ++ 58 ∷ (l.value ++ tail)) in
    let named : N (codes "content-type") = subst N l.named (name_in l.name (58 ∷ (l.value ++ tail)) (ReadsByte 58 (ReadsValue 1011 K)) (refl, behind)) in
    let parted = names_part (codes "content-") (codes "type") (ReadsByte 58 (ReadsValue 1011 K)) _ named in
    let Q : List ℕ → Type 0 = λ t. ReadsName (codes "content-") (ReadsType K) t in
    subst Q (sym (append_assoc l.name (58 ∷ l.value) tail) ∙ ap (λ t. t ++ tail) (sym l.written)) parted

end_out : (said n : ℕ) (bs : List ℕ) → BehindBoth said n bs → (bs ≡ 13 ∷ 10 ∷ []) × (said ≡ n)
end_out said n bs r =
    let p = byte_out 13 (ReadsByte 10 (Ends (Some said) n)) bs r in
    let q = byte_out 10 (Ends (Some said) n) p.0 p.2 in
    (p.1 ∙ ap (λ t. 13 ∷ t) (q.1 ∙ ap (λ t. 10 ∷ t) q.2.1), q.2.0)

ended : List ℕ → List ℕ → List ℕ
ended line rest = line ++ 13 ∷ 10 ∷ rest

type_last : (line : List ℕ) (said n : ℕ) (bs rest : List ℕ) → bs ≡ line ++ 13 ∷ 10 ∷ rest → IsLengthLine line said → TypeThen (BehindBoth said n) rest → IsHeader bs n
type_last line said n bs rest w l t =
    let e = end_out said n t.1 t.4 in
    let L : ℕ → Type 0 = λ m. IsLengthLine line m in
    (line, subst L e.1 l, inr (t.0, t.3, inl (w ∙ ap (λ u. line ++ 13 ∷ 10 ∷ u) (t.2 ∙ ap (λ u. t.0 ++ 13 ∷ 10 ∷ u) e.0))))

length_alone : (line : List ℕ) (said n : ℕ) (bs rest : List ℕ) → bs ≡ line ++ 13 ∷ 10 ∷ rest → IsLengthLine line said → BehindBoth said n rest → IsHeader bs n
length_alone line said n bs rest w l b =
    let e = end_out said n rest b in
    let L : ℕ → Type 0 = λ m. IsLengthLine line m in
    (line, subst L e.1 l, inl (w ∙ ap (λ u. line ++ 13 ∷ 10 ∷ u) e.0))

length_first : (n : ℕ) (bs : List ℕ) → LengthThen (λ said. BehindLength said n) bs → IsHeader bs n
length_first n bs t =
    ⊎_elim (length_alone t.0 t.1 n bs t.2 t.3 t.4)
    (λ q. type_last t.0 t.1 n bs t.2 t.3 t.4 (type_out (BehindBoth t.1 n) t.2 q)) t.5

type_first : (n : ℕ) (bs : List ℕ) → TypeThen (BehindType n) bs → IsHeader bs n
type_first n bs t =
    let l = length_out (λ said. BehindBoth said n) t.1 t.4 in
    let e = end_out l.1 n l.2 l.5 in
    let L : ℕ → Type 0 = λ m. IsLengthLine l.0 m in
    (l.0, subst L e.1 l.4, inr (t.0, t.3, inr (t.2 ∙ ap (λ u. t.0 ++ 13 ∷ 10 ∷ u) (l.3 ∙ ap (λ u. l.0 ++ 13 ∷ 10 ∷ u) e.0))))

-- what is read is a header
pub header_from_lines : (n : ℕ) (bs : List ℕ) → Lines None false n bs → IsHeader bs n
header_from_lines n bs r =
    ⊎_elim (λ q. length_first n bs (length_out (λ said. BehindLength said n) bs q))
    (λ q. type_first n bs (type_out (BehindType n) bs q))
    (name_or (codes "content-") (ReadsLength (λ said. BehindLength said n)) (ReadsType (BehindType n)) bs r)

end_in : (n : ℕ) → BehindBoth n n (13 ∷ 10 ∷ [])
end_in n = (refl, (refl, (refl, refl)))

lines_at : (n : ℕ) (line header : List ℕ) → IsLengthLine line n → HasFields header line → Lines None false n header
lines_at n line header l f =
    let F : List ℕ → Type 0 = λ t. Lines None false n t in
    let J = ReadsLength (λ said. BehindLength said n) in
    let K = ReadsType (BehindType n) in
    let left = λ (bs : List ℕ). name_weaker (codes "content-") J (Forks None false n) bs (λ t q. inl q) in
    let right = λ (bs : List ℕ). name_weaker (codes "content-") K (Forks None false n) bs (λ t q. inr q) in
    ⊎_elim
    (λ e.
    subst F (sym e) (left _ (length_in (λ said. BehindLength said n) line n (13 ∷ 10 ∷ []) l (inl (end_in n)))))
    (λ q.
    ⊎_elim
    (λ e.
    subst F (sym e)
    (left _
    (length_in (λ said. BehindLength said n) line n (q.0 ++ 13 ∷ 10 ∷ 13 ∷ 10 ∷ []) l (inr (type_in (BehindBoth n n) q.0 (13 ∷ 10 ∷ []) q.1 (end_in n))))))
    (λ e.
    subst F (sym e)
    (right _
    (type_in (BehindType n) q.0 (line ++ 13 ∷ 10 ∷ 13 ∷ 10 ∷ []) q.1 (length_in (λ said. BehindBoth said n) line n (13 ∷ 10 ∷ []) l (end_in n))))) q.2) f

-- and each header is read
pub lines_from_header : (n : ℕ) (bs : List ℕ) → IsHeader bs n → Lines None false n bs
lines_from_header n bs h = lines_at n h.0 bs h.1 h.2
