-- What the bytes that wait are, by where a reader of their header stands.
use Rattle.std.proofs.Common.{◌≡◌, ℕ, Bool, IsSome, ◌+◌, ◌-◌, ◌^◌, ◌<◌, ◌≤◌, List, [], ◌∷◌, ◌++◌, length, take, drop, get_or, Option, Some, None, ◌⊎◌, inl, inr, refl, sym, ap, ◌∙◌, subst, ⊎_elim, zero, suc, length-drop, arith}
use Rattle.std.specs.Prelude.{option_and_then}
use Rattle.std.proofs.lemmas.Bool.{false≢true}
use Rattle.std.proofs.lemmas.List.{append-nil, take-append-drop, take-take, take_all, drop-take, drop-drop, drop_more, length-take-le}
use Rattle.rpc_frame.specs.declared.header.Part.{Part}
use Rattle.rpc_frame.specs.declared.header.Part.TheVariants.{LineStart, Prefix, Name, Spaces, Digits, Value, LineFeed, LastFeed, Whole}
use Rattle.rpc_frame.specs.declared.header.Header.{Header}
use Rattle.rpc_frame.specs.declared.header.Progress.{Progress}
use Rattle.rpc_frame.specs.HeaderMachine.{start, step, run, IsLive, said_at, said_by, HasRead, HasStopped}
use Rattle.rpc_frame.specs.Frames.{IsHeader, IsFrame, IsPartOfHeader, LacksContent, IsUnfinished, IsTooLong, IsBad}
use Rattle.rpc_frame.specs.declared.header.Found.TheVariants.{Frame}
use Rattle.rpc_frame.specs.Framing.{IsFound}
use Rattle.rpc_frame.proofs.Acceptor.{Remains}
use Rattle.rpc_frame.proofs.Runs.{completes, IsWhole, whole_from}
use Rattle.rpc_frame.proofs.Headers.{IsRead, front_begins, header_from_rest, header_from_whole, live_read, none_is_some, read_from_begins, read_header, read_more, read_on, whole_is_all}

-- so many bytes are read
abbrev pub HasReadTo : List ℕ → ℕ → Header → Type 0
HasReadTo bytes read h = (read ≤ length bytes) × (run start (take read bytes) ≡ Some h)

parts : (bytes : List ℕ) (m n : ℕ) → take (m + n) bytes ≡ take m bytes ++ take n (drop m bytes)
parts bytes m n =
    sym (take-append-drop m (take (m + n) bytes)) ∙ ap (λ t. t ++ drop m (take (m + n) bytes)) (take-take m (m + n) bytes (omega arith)) ∙ ap (λ t. take m bytes ++ t) (drop-take m n bytes)

pub frame_found : (bytes : List ℕ) (read said : ℕ) (h : Header) → HasReadTo bytes read h → IsWhole h said → said ≤ 2 ^ 24 → read + said ≤ length bytes → IsFrame (take (read + said) bytes) (take said (drop read bytes))
frame_found bytes read said h r w fits within =
    let long : length (take said (drop read bytes)) ≡ said = length-take-le said (drop read bytes) (omega (arith, length-drop read bytes)) in
    let H : ℕ → Type 0 = λ n. IsHeader (take read bytes) n in
    record {
      header = take read bytes;
      written = parts bytes read said;
      says = subst H (sym long) (header_from_whole (take read bytes) said h r.1 w);
      fits = omega (arith, long);
    }

pub content_lacking : (bytes : List ℕ) (read said : ℕ) (h : Header) → HasReadTo bytes read h → IsWhole h said → said ≤ 2 ^ 24 → length bytes < read + said → LacksContent bytes
content_lacking bytes read said h r w fits lacking =
    record {
      header = take read bytes;
      content = drop read bytes;
      said = said;
      written = sym (take-append-drop read bytes);
      says = header_from_whole (take read bytes) said h r.1 w;
      fits = fits;
      lacking = omega (arith, length-drop read bytes, r.0);
    }

pub too_long_found : (bytes : List ℕ) (read said : ℕ) (h : Header) → HasReadTo bytes read h → IsWhole h said → 2 ^ 24 < said → IsTooLong bytes said
too_long_found bytes read said h r w large =
    record {
      header = take read bytes;
      more = drop read bytes;
      written = sym (take-append-drop read bytes);
      says = header_from_whole (take read bytes) said h r.1 w;
      large = large;
    }

lacks_some : (more : List ℕ) → (more ≡ [] → ⊥) → 0 < length more
lacks_some [] some = absurd (some refl)
lacks_some (b ∷ more) some = omega arith

pub part_found : (bytes : List ℕ) (read : ℕ) (h : Header) → HasReadTo bytes read h → read ≡ length bytes → (h.part ≡ Whole → ⊥) → 0 < length bytes → IsPartOfHeader bytes
part_found bytes read h r all open_ some =
    let is : IsRead bytes h = ap (run start) (sym (take_all read bytes (omega (arith, all)))) ∙ r.1 in
    let c = completes h (live_read bytes h is) in
    record {
      more = c.0;
      said = c.1;
      header = header_from_rest bytes c.0 c.1 h is c.2;
      some = some;
      lacking = lacks_some c.0 (λ e. open_ (whole_from h c.1 (nothing_more h c.1 c.0 e c.2)).0);
    }
  where
    nothing_more : (h : Header) (n : ℕ) (more : List ℕ) → more ≡ [] → Remains h n more → Remains h n []
    nothing_more h n more e r = let P : List ℕ → Type 0 = λ t. Remains h n t in subst P e r

-- two splits of one list: one's front goes on into the other's
pub two_splits : {A : Type 0} (a b c d : List A) → a ++ b ≡ c ++ d → ((e : List A) × (c ≡ a ++ e) × (b ≡ e ++ d)) ⊎ ((e : List A) × (a ≡ c ++ e) × (d ≡ e ++ b))
two_splits [] b c d e = inl (c, refl, e)
two_splits (x ∷ a) b [] d e = inr (x ∷ a, refl, sym e)
two_splits (x ∷ a) b (y ∷ c) d e =
    let heads : x ≡ y = cc in
    let tails : a ++ b ≡ c ++ d = cc in
    ⊎_elim (λ p. inl (p.0, ap (λ t. y ∷ t) p.1 ∙ ap (λ z. z ∷ (a ++ p.0)) (sym heads), p.2))
    (λ p. inr (p.0, ap (λ t. x ∷ t) p.1 ∙ ap (λ z. z ∷ (c ++ p.0)) heads, p.2)) (two_splits a b c d tails)

no_header : (bytes : List ℕ) (read : ℕ) (h : Header) → HasReadTo bytes read h → read < length bytes → (h.part ≡ Whole → ⊥) → step h (get_or bytes read 0) ≡ None → (header more : List ℕ) (said : ℕ) → bytes ≡ header ++ more → IsHeader header said → ⊥
no_header bytes read h r within open_ stops header more said e is =
    ⊎_elim (λ p. open_ (whole_is_all header p.0 said h is (ap (run start) (sym p.1) ∙ r.1)).1.0)
    (λ p. longer bytes read h r within open_ stops header more said is p.0 p.1 p.2)
    (two_splits header more (take read bytes) (drop read bytes) (sym e ∙ sym (take-append-drop read bytes)))
  where
    longer : (bytes : List ℕ) (read : ℕ) (h : Header) → HasReadTo bytes read h → read < length bytes → (h.part ≡ Whole → ⊥) → step h (get_or bytes read 0) ≡ None → (header more : List ℕ) (said : ℕ) → IsHeader header said → (rest : List ℕ) → header ≡ take read bytes ++ rest → drop read bytes ≡ rest ++ more → ⊥
    longer bytes read h r within open_ stops header more said is [] f g =
        open_ (whole_is_all header [] said h is (ap (run start) (append-nil header ∙ f ∙ append-nil (take read bytes)) ∙ r.1)).1.0
    longer bytes read h r within open_ stops header more said is (c ∷ rest) f g =
        let w = read_header header said is in
        let at : get_or bytes read 0 ∷ drop (read + 1) bytes ≡ c ∷ (rest ++ more) = sym (drop_more bytes read 0 within) ∙ g in
        let same : get_or bytes read 0 ≡ c = cc in
        let none : run start (take read bytes ++ c ∷ rest) ≡ None = read_on (take read bytes) (c ∷ rest) h r.1 ∙ ap (option_and_then (λ next. run next rest)) (ap (step h) (sym same) ∙ stops) in
        none_is_some w.0 (sym none ∙ ap (run start) (sym f) ∙ w.1)

pub bad_found : (bytes : List ℕ) (read : ℕ) (h : Header) → HasReadTo bytes read h → read < length bytes → (h.part ≡ Whole → ⊥) → step h (get_or bytes read 0) ≡ None → IsBad bytes read
bad_found bytes read h r within open_ stops =
    record {
      within = within;
      none = no_header bytes read h r within open_ stops;
      bad = λ b.
          let g = read_from_begins (take (read + 1) bytes) b in
          none_is_some g.0 (sym (read_more bytes read h within r.1 ∙ stops) ∙ g.1);
      least = λ k less. front_begins bytes read (k + 1) h (omega arith) r.1;
    }

-- what a whole header says
pub whole_from_said : (h : Header) (n : ℕ) → said_by h ≡ Some n → IsWhole h n
whole_from_said h n e = at_part h.part h.length e
  where
    at_part : (part : Part) (said : Option ℕ) → said_at part said ≡ Some n → (part ≡ Whole) × (said ≡ Some n)
    at_part LineStart said e = cc
    at_part (Prefix k) said e = cc
    at_part (Name field k) said e = cc
    at_part (Spaces left) said e = cc
    at_part (Digits left count value) said e = cc
    at_part (Value left) said e = cc
    at_part LineFeed said e = cc
    at_part LastFeed said e = cc
    at_part Whole said e = (refl, e)

-- what says nothing is not whole
pub open_from_said : (h : Header) → IsLive h → None ≡ said_by h → h.part ≡ Whole → ⊥
open_from_said h live none whole = at_part h.part h.length h.typed live none whole
  where
    unsaid : (said : Option ℕ) → None ≡ said → IsSome said → ⊥
    unsaid None e s = false≢true s
    unsaid (Some n) e s = cc

    at_part : (part : Part) (said : Option ℕ) (typed : Bool) → IsLive (record { length = said; typed = typed; part = part }) → None ≡ said_at part said → part ≡ Whole → ⊥
    at_part LineStart said typed live none whole = cc
    at_part (Prefix k) said typed live none whole = cc
    at_part (Name field k) said typed live none whole = cc
    at_part (Spaces left) said typed live none whole = cc
    at_part (Digits left count value) said typed live none whole = cc
    at_part (Value left) said typed live none whole = cc
    at_part LineFeed said typed live none whole = cc
    at_part LastFeed said typed live none whole = cc
    at_part Whole said typed live none whole = unsaid said none live

-- a whole header is not empty
pub some_read : (bytes : List ℕ) (p : Progress) (n : ℕ) → HasRead bytes p → said_by p.header ≡ Some n → 0 < p.read
some_read bytes p n r e = at_read p.read r.1
  where
    at_read : (read : ℕ) → run start (take read bytes) ≡ Some p.header → 0 < read
    at_read zero f = absurd (none_said (ap said_by (start_is p.header f) ∙ e))
      where
        start_is : (h : Header) → Some start ≡ Some h → start ≡ h
        start_is h f = cc

        none_said : None ≡ Some n → ⊥
        none_said f = cc
    at_read (suc read) f = omega arith

-- nothing, or a frame that is not whole
pub unfinished_found : (bytes : List ℕ) (p : Progress) → HasRead bytes p → length bytes ≤ p.read → None ≡ said_by p.header → (bytes ≡ []) ⊎ IsUnfinished bytes
unfinished_found bytes p r all none =
    let live = live_read (take p.read bytes) p.header r.1 in
    or_nothing bytes (λ some. inl (part_found bytes p.read p.header r (omega (arith, r.0)) (open_from_said p.header live none) some))
  where
    or_nothing : (bytes : List ℕ) → (0 < length bytes → IsUnfinished bytes) → (bytes ≡ []) ⊎ IsUnfinished bytes
    or_nothing [] f = inl refl
    or_nothing (b ∷ bytes) f = inr (f (omega arith))

pub bad_at : (bytes : List ℕ) (p : Progress) → HasRead bytes p → HasStopped bytes p → p.read < length bytes → None ≡ said_by p.header → IsBad bytes p.read
bad_at bytes p r stopped within none =
    let live = live_read (take p.read bytes) p.header r.1 in
    bad_found bytes p.read p.header r within (open_from_said p.header live none) (stopped within)

-- one more byte
pub read_one : (bytes : List ℕ) (p : Progress) (next : Header) → HasRead bytes p → p.read < length bytes → Some next ≡ step p.header (get_or bytes p.read 0) → HasRead bytes (record { header = next; read = p.read + 1 })
read_one bytes p next r within e =
    (omega (arith, within), read_more bytes p.read p.header within r.1 ∙ sym e)

-- a frame found among the bytes behind a place is taken
pub frame_taken : (items : List ℕ) (start taken header content : ℕ) → IsFound (drop start items) (Frame header content) → (frame : List ℕ) × (drop start items ≡ frame ++ drop (start + header + content) items) × IsFrame frame (take (start + header + content - (start + header)) (drop (start + header) items)) × (taken + (header + content) ≡ taken + length frame)
frame_taken items start taken header content f =
    let waiting = drop start items in
    let long : header + content ≤ length waiting = f.1 in
    let same : start + (header + content) ≡ start + header + content = omega arith in
    let size : content ≡ start + header + content - (start + header) = omega arith in
    let P : List ℕ → Type 0 = λ t. IsFrame (take (header + content) waiting) t in
    let whole = ap (λ t. take (header + content) waiting ++ t) (drop-drop (header + content) start items ∙ ap (λ k. drop k items) same) in
    (take (header + content) waiting, sym (take-append-drop (header + content) waiting) ∙ whole, subst P (ap (take content) (drop-drop header start items) ∙ ap (λ k. take k (drop (start + header) items)) size) f.2, ap (λ k. taken + k) (sym (length-take-le (header + content) waiting long)))
