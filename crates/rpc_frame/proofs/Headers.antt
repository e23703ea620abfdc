-- Where a reader that began at the start stands, in the words of the grammar.
use Rattle.std.proofs.Common.{◌≡◌, ℕ, ◌+◌, ◌<◌, ◌≤◌, Bool, List, [], ◌∷◌, ◌++◌, length, take, drop, get_or, Option, Some, None, refl, sym, ap, ◌∙◌, subst}
use Rattle.std.specs.Prelude.{option_and_then}
use Rattle.std.proofs.lemmas.List.{append-nil, take-append-drop, take_more, take-take}
use Rattle.rpc_frame.specs.declared.header.Part.{Part}
use Rattle.rpc_frame.specs.declared.header.Part.TheVariants.{Whole}
use Rattle.rpc_frame.specs.declared.header.Header.{Header}
use Rattle.rpc_frame.specs.HeaderMachine.{start, step, run, IsLive}
use Rattle.rpc_frame.specs.Frames.{IsHeader, BeginsHeader}
use Rattle.rpc_frame.proofs.Acceptor.{Remains, RemainsIf}
use Rattle.rpc_frame.proofs.Grammar.{header_from_lines, lines_from_header}
use Rattle.rpc_frame.proofs.Runs.{runs, live_run, LiveIf, completes, IsWhole, whole_from, remains_whole}

-- a reader has read these bytes
abbrev pub IsRead : List ℕ → Header → Type 0
IsRead bytes h = run start bytes ≡ Some h

remains_if : (o : Option Header) (n : ℕ) (bs : List ℕ) → RemainsIf o n bs → (h : Header) × (o ≡ Some h) × Remains h n bs
remains_if None n bs r = absurd r
remains_if (Some h) n bs r = (h, refl, r)

live_if : (o : Option Header) (h : Header) → o ≡ Some h → LiveIf o → IsLive h
live_if o h e l = subst LiveIf e l

pub live_read : (bytes : List ℕ) (h : Header) → IsRead bytes h → IsLive h
live_read bytes h e = live_if (run start bytes) h e (live_run start bytes tt)

-- each front of a header is read
pub read_front : (front more : List ℕ) (n : ℕ) → IsHeader (front ++ more) n → (h : Header) × IsRead front h × Remains h n more
read_front front more n header =
    remains_if (run start front) n more ((runs start front more n).0 (lines_from_header n (front ++ more) header))

-- what completes a header behind the bytes read does so
pub header_from_rest : (front more : List ℕ) (n : ℕ) (h : Header) → IsRead front h → Remains h n more → IsHeader (front ++ more) n
header_from_rest front more n h e r =
    let P : Option Header → Type 0 = λ o. RemainsIf o n more in
    header_from_lines n (front ++ more) ((runs start front more n).1 (subst P (sym e) r))

pub read_header : (header : List ℕ) (n : ℕ) → IsHeader header n → (h : Header) × IsRead header h × IsWhole h n
read_header header n is =
    let H : List ℕ → Type 0 = λ t. IsHeader t n in
    let r = read_front header [] n (subst H (sym (append-nil header)) is) in
    (r.0, r.1, whole_from r.0 n r.2)

pub header_from_whole : (header : List ℕ) (n : ℕ) (h : Header) → IsRead header h → IsWhole h n → IsHeader header n
header_from_whole header n h e w =
    let H : List ℕ → Type 0 = λ t. IsHeader t n in
    subst H (append-nil header) (header_from_rest header [] n h e (remains_whole h n w))

pub begins_from_read : (front : List ℕ) (h : Header) → IsRead front h → BeginsHeader front
begins_from_read front h e =
    let c = completes h (live_read front h e) in (c.0, c.1, header_from_rest front c.0 c.1 h e c.2)

pub read_from_begins : (front : List ℕ) → BeginsHeader front → (h : Header) × IsRead front h
read_from_begins front b = let r = read_front front b.0 b.1 b.2 in (r.0, r.1)

run_on : (o : Option Header) (front more : List ℕ) → ((h : Header) → run h (front ++ more) ≡ option_and_then (λ next. run next more) (run h front)) → option_and_then (λ next. run next (front ++ more)) o ≡ option_and_then (λ next. run next more) (option_and_then (λ next. run next front) o)
run_on None front more each = refl
run_on (Some h) front more each = each h

pub run-append : (h : Header) (front more : List ℕ) → run h (front ++ more) ≡ option_and_then (λ next. run next more) (run h front)
run-append h [] more = refl
run-append h (b ∷ front) more = run_on (step h b) front more (λ next. run-append next front more)

-- from there on
pub read_on : (front more : List ℕ) (h : Header) → IsRead front h → run start (front ++ more) ≡ run h more
read_on front more h e = run-append start front more ∙ ap (option_and_then (λ next. run next more)) e

-- one more byte
pub read_more : (bytes : List ℕ) (k : ℕ) (h : Header) → k < length bytes → IsRead (take k bytes) h → run start (take (k + 1) bytes) ≡ step h (get_or bytes k 0)
read_more bytes k h within e =
    ap (run start) (take_more bytes k 0 within) ∙ read_on (take k bytes) (get_or bytes k 0 ∷ []) h e ∙ one (step h (get_or bytes k 0))
  where
    one : (o : Option Header) → option_and_then (λ next. run next []) o ≡ o
    one None = refl
    one (Some h) = refl

some_front : (o : Option Header) (h : Header) (f : Header → Option Header) → option_and_then f o ≡ Some h → (g : Header) × (o ≡ Some g)
some_front None h f e = cc
some_front (Some g) h f e = (g, refl)

-- each front of what is read is read
pub front_read : (front more : List ℕ) (h : Header) → IsRead (front ++ more) h → (g : Header) × IsRead front g
front_read front more h e =
    some_front (run start front) h (λ next. run next more) (sym (run-append start front more) ∙ e)

pub front_begins : (bytes : List ℕ) (k j : ℕ) (h : Header) → j ≤ k → IsRead (take k bytes) h → BeginsHeader (take j bytes)
front_begins bytes k j h le e =
    let parts : take j bytes ++ drop j (take k bytes) ≡ take k bytes = ap (λ t. t ++ drop j (take k bytes)) (sym (take-take j k bytes le)) ∙ take-append-drop j (take k bytes) in
    let g = front_read (take j bytes) (drop j (take k bytes)) h (ap (run start) parts ∙ e) in
    begins_from_read (take j bytes) g.0 g.1

-- behind a whole header nothing is read
step_whole : (part : Part) (said : Option ℕ) (typed : Bool) (b : ℕ) → part ≡ Whole → step (record { length = said; typed = typed; part = part }) b ≡ None
step_whole part said typed b e = ap (λ p. step (record { length = said; typed = typed; part = p }) b) e

pub whole_stops : (h : Header) (b n : ℕ) → IsWhole h n → step h b ≡ None
whole_stops h b n w = step_whole h.part h.length h.typed b w.0

pub whole_says : (h : Header) (m n : ℕ) → IsWhole h m → IsWhole h n → m ≡ n
whole_says h m n v w = cc

pub none_is_some : (h : Header) → None ≡ Some h → ⊥
none_is_some h e = cc

-- a whole header that begins what is read is all of it
pub whole_is_all : (header more : List ℕ) (n : ℕ) (h : Header) → IsHeader header n → IsRead (header ++ more) h → (more ≡ []) × IsWhole h n
whole_is_all header [] n h is e =
    let r = read_header header n is in
    let same : Some r.0 ≡ Some h = sym r.1 ∙ ap (run start) (sym (append-nil header)) ∙ e in
    let W : Header → Type 0 = λ g. IsWhole g n in
    (refl, subst W (some_same _ _ same) r.2)
  where
    some_same : (g h : Header) → Some g ≡ Some h → g ≡ h
    some_same g h e = cc
whole_is_all header (b ∷ more) n h is e =
    let r = read_header header n is in
    let stops : run r.0 (b ∷ more) ≡ None = ap (option_and_then (λ next. run next more)) (whole_stops r.0 b n r.2) in
    absurd (none_is_some h (sym stops ∙ sym (read_on header (b ∷ more) r.0 r.1) ∙ e))
