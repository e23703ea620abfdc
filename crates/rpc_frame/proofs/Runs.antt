-- Where a reader stands after some bytes: what completes a header there, and that something does.
use Rattle.std.proofs.Common.{◌≡◌, ℕ, ◌+◌, ◌-◌, ◌≤◌, Bool, true, false, eqb, ltb, leb, List, [], ◌∷◌, ◌++◌, drop, Option, Some, None, inl, inr, refl, sym, ap, subst, ⊎_elim, IsSome, is_some, slice_get, zero, suc, lit<, lit≤, arith}
use Rattle.std.specs.Prelude.{codes, option_and_then}
use Rattle.std.specs.Char.{to_ascii_lowercase, is_ascii_digit}
use Rattle.std.proofs.lemmas.Bool.{cond_both, ltb-true, leb-true, false≢true}
use Rattle.rpc_frame.specs.declared.header.Field.{Field}
use Rattle.rpc_frame.specs.declared.header.Field.TheVariants.{ContentLength, ContentType}
use Rattle.rpc_frame.specs.declared.header.Part.{Part}
use Rattle.rpc_frame.specs.declared.header.Part.TheVariants.{LineStart, Prefix, Name, Spaces, Digits, Value, LineFeed, LastFeed, Whole}
use Rattle.rpc_frame.specs.declared.header.Header.{Header}
use Rattle.rpc_frame.specs.HeaderMachine.{step, step_line_start, step_prefix_at, step_fork, step_name_at, step_digit, field_name, run, IsLive, IsCounted, IsOpen}
use Rattle.rpc_frame.proofs.Numbers.{ten_times_counted}
use Rattle.rpc_frame.proofs.Acceptor.{Texts, Both, steps, Remains, RemainsAt, RemainsIf, Lines, Forks, Ends, ReadsName, ReadsByte, ReadsSpaces, ReadsValue, ReadsLength, BehindBoth, BehindLength, BehindType, is_ascii_digit-true}

runs_on : (o : Option Header) (front more : List ℕ) (n : ℕ) → ((h : Header) → Both (Remains h n (front ++ more)) (RemainsIf (run h front) n more)) → Both (RemainsIf o n (front ++ more)) (RemainsIf (option_and_then (λ next. run next front) o) n more)
runs_on None front more n each = (λ r. r, λ r. r)
runs_on (Some h) front more n each = each h

-- a reader takes what completes the header byte by byte
pub runs : (h : Header) (front more : List ℕ) (n : ℕ) → Both (Remains h n (front ++ more)) (RemainsIf (run h front) n more)
runs h [] more n = (λ r. r, λ r. r)
runs h (b ∷ front) more n =
    let one = steps h b n (front ++ more) in
    let rest = runs_on (step h b) front more n (λ next. runs next front more n) in
    (λ r. rest.0 (one.0 r), λ r. one.1 (rest.1 r))

-- where no way on was found, nothing is asked
abbrev pub LiveIf : Option Header → Type 0
LiveIf None = Unit {0}
LiveIf (Some h) = IsLive h

abbrev header : Option ℕ → Bool → Part → Header
header said typed part = record { length = said; typed = typed; part = part }

live_fork : (said : Option ℕ) (typed : Bool) (part : Part) (b : ℕ) → LiveIf (step_fork (header said typed part) b)
live_fork said typed part b =
    cond_both (eqb (to_ascii_lowercase b) 108) _ _ LiveIf (λ t. cond_both (is_some said) _ _ LiveIf (λ u. tt) (λ u. tt))
    (λ f.
    cond_both (eqb (to_ascii_lowercase b) 116) _ _ LiveIf (λ t. cond_both typed _ _ LiveIf (λ u. tt) (λ u. tt)) (λ u. tt))

live_prefix : (o : Option ℕ) (said : Option ℕ) (typed : Bool) (part : Part) (k b : ℕ) → IsOpen said typed → LiveIf (step_prefix_at o (header said typed part) k b)
live_prefix None said typed part k b open_ = live_fork said typed part b
live_prefix (Some c) said typed part k b open_ = cond_both (eqb (to_ascii_lowercase b) c) _ _ LiveIf (λ t. open_) (λ f. tt)

live_line_start : (said : Option ℕ) (typed : Bool) (b : ℕ) → LiveIf (step_line_start (header said typed LineStart) b)
live_line_start None typed b =
    cond_both (eqb b 13) _ _ LiveIf (λ t. tt) (λ f. live_prefix (Some 99) None typed LineStart 0 b tt)
live_line_start (Some said) true b = cond_both (eqb b 13) _ _ LiveIf (λ t. refl) (λ f. tt)
live_line_start (Some said) false b =
    cond_both (eqb b 13) _ _ LiveIf (λ t. refl) (λ f. live_prefix (Some 99) (Some said) false LineStart 0 b tt)

live_name : (o : Option ℕ) (said : Option ℕ) (typed : Bool) (part : Part) (field : Field) (k b : ℕ) → LiveIf (step_name_at o (header said typed part) field k b)
live_name None said typed part ContentLength k b = cond_both (eqb b 58) _ _ LiveIf (λ t. lit≤ tt) (λ f. tt)
live_name None said typed part ContentType k b = cond_both (eqb b 58) _ _ LiveIf (λ t. tt) (λ f. tt)
live_name (Some c) said typed part field k b =
    cond_both (eqb (to_ascii_lowercase b) c) _ _ LiveIf (λ t. tt) (λ f. tt)

live_digit : (said : Option ℕ) (typed : Bool) (part : Part) (left count value b : ℕ) → IsCounted count value → LiveIf (step_digit (header said typed part) left count value b)
live_digit said typed part left count value b small =
    cond_both (is_ascii_digit b) _ _ LiveIf
    (λ t.
    cond_both (ltb count 15) _ _ LiveIf
    (λ u.
    let d = is_ascii_digit-true b t in
    let more : count + 1 ≤ 15 = omega (arith, ltb-true _ _ u) in
    cond_both (leb 1 left) _ _ LiveIf (λ v. (more, ten_times_counted count value (b - 48) small.1 (omega (arith, d.1)))) (λ f. tt)) (λ f. tt)) (λ f. tt)

live_at : (part : Part) (said : Option ℕ) (typed : Bool) (b : ℕ) → IsLive (header said typed part) → LiveIf (step (header said typed part) b)
live_at LineStart said typed b l = live_line_start said typed b
live_at (Prefix k) said typed b l = live_prefix (slice_get (codes "content-") k) said typed (Prefix k) k b l
live_at (Name field k) said typed b l = live_name (slice_get (field_name field) k) said typed (Name field k) field k b
live_at (Spaces left) said typed b l =
    cond_both (eqb b 32) _ _ LiveIf
    (λ t.
    cond_both (leb 2 left) _ _ LiveIf (λ u. let two = leb-true _ _ u in omega (arith, two)) (λ u. tt)) (λ f. live_digit said typed (Spaces left) left 0 0 b (lit≤ tt, lit< tt))
live_at (Digits left count value) said typed b l =
    cond_both (eqb b 13) _ _ LiveIf (λ t. tt) (λ f. live_digit said typed (Digits left count value) left count value b l)
live_at (Value left) said typed b l =
    cond_both (eqb b 13) _ _ LiveIf (λ t. tt)
    (λ f.
    cond_both (eqb b 10) _ _ LiveIf (λ t. tt) (λ f. cond_both (leb 1 left) _ _ LiveIf (λ t. tt) (λ f. tt)))
live_at LineFeed said typed b l = cond_both (eqb b 10) _ _ LiveIf (λ t. tt) (λ f. tt)
live_at LastFeed said typed b l = cond_both (eqb b 10) _ _ LiveIf (λ t. l) (λ f. tt)
live_at Whole said typed b l = tt

live_run_on : (o : Option Header) (bs : List ℕ) → LiveIf o → ((h : Header) → IsLive h → LiveIf (run h bs)) → LiveIf (option_and_then (λ next. run next bs) o)
live_run_on None bs l each = tt
live_run_on (Some h) bs l each = each h l

-- a reader stays where one that began at the start may stand
pub live_run : (h : Header) (bs : List ℕ) → IsLive h → LiveIf (run h bs)
live_run h [] l = l
live_run h (b ∷ bs) l =
    live_run_on (step h b) bs (live_at h.part h.length h.typed b l) (λ next m. live_run next bs m)

-- the letters of a name in lower case are its own
abbrev IsLow : List ℕ → Type 0
IsLow [] = Unit {0}
IsLow (c ∷ name) = (to_ascii_lowercase c ≡ c) × IsLow name

low-drop : (k : ℕ) (name : List ℕ) → IsLow name → IsLow (drop k name)
low-drop zero name l = l
low-drop (suc k) [] l = tt
low-drop (suc k) (c ∷ name) l = low-drop k name l.1

reads_name : (name : List ℕ) (K : Texts) (bs : List ℕ) → IsLow name → K bs → ReadsName name K (name ++ bs)
reads_name [] K bs l r = r
reads_name (c ∷ name) K bs l r = (l.0, reads_name name K bs l.1 r)

prefix_low : IsLow (codes "content-")
prefix_low = (refl, (refl, (refl, (refl, (refl, (refl, (refl, (refl, tt))))))))

length_low : IsLow (codes "length")
length_low = (refl, (refl, (refl, (refl, (refl, (refl, tt))))))

type_low : IsLow (codes "type")
type_low = (refl, (refl, (refl, (refl, tt))))

-- something completes the header
abbrev Completes : (ℕ → Texts) → Type 0
Completes K = (bs : List ℕ) × (n : ℕ) × K n bs

end_completes : (said : ℕ) → BehindBoth said said (13 ∷ 10 ∷ [])
end_completes said = (refl, (refl, (refl, refl)))

length_completes : (K : ℕ → ℕ → Texts) (k : ℕ) → Completes (K 0) → Completes (λ n. ReadsName (drop k (codes "length")) (ReadsByte 58 (ReadsSpaces 1009 (λ m. K m n))))
length_completes K k c =
    (drop k (codes "length") ++ 58 ∷ 48 ∷ 13 ∷ 10 ∷ c.0, c.1, reads_name _ _ _ (low-drop k _ length_low) (refl, inr ((lit≤ tt, lit≤ tt), lit≤ tt, inl (refl, (refl, c.2)))))

type_completes : (K : ℕ → Texts) (k : ℕ) → Completes K → Completes (λ n. ReadsName (drop k (codes "type")) (ReadsByte 58 (ReadsValue 1011 (K n))))
type_completes K k c =
    (drop k (codes "type") ++ 58 ∷ 13 ∷ 10 ∷ c.0, c.1, reads_name _ _ _ (low-drop k _ type_low) (refl, inl (refl, (refl, c.2))))

prefix_completes : (K : ℕ → Texts) (k : ℕ) → Completes K → Completes (λ n. ReadsName (drop k (codes "content-")) (K n))
prefix_completes K k c =
    (drop k (codes "content-") ++ c.0, c.1, reads_name _ _ _ (low-drop k _ prefix_low) c.2)

type_alone_completes : Completes (λ n. BehindType n)
type_alone_completes =
    prefix_completes (λ n. ReadsLength (λ said. BehindBoth said n)) 0 (length_completes BehindBoth 0 (13 ∷ 10 ∷ [], 0, end_completes 0))

fork_completes : (said : Option ℕ) (typed : Bool) → IsOpen said typed → Completes (Forks said typed)
fork_completes None false o =
    let c = length_completes BehindLength 0 (13 ∷ 10 ∷ [], 0, inl (end_completes 0)) in (c.0, c.1, inl c.2)
fork_completes None true o = length_completes BehindBoth 0 (13 ∷ 10 ∷ [], 0, end_completes 0)
fork_completes (Some said) false o = type_completes (BehindBoth said) 0 (13 ∷ 10 ∷ [], said, end_completes said)
fork_completes (Some said) true o = absurd o

lines_complete : (said : Option ℕ) (typed : Bool) → Completes (Lines said typed)
lines_complete None false = prefix_completes (Forks None false) 0 (fork_completes None false tt)
lines_complete None true = type_alone_completes
lines_complete (Some said) false = (13 ∷ 10 ∷ [], said, inl (end_completes said))
lines_complete (Some said) true = (13 ∷ 10 ∷ [], said, end_completes said)

ends_complete : (said : Option ℕ) → IsSome said → Completes (Ends said)
ends_complete None s = absurd (false≢true s)
ends_complete (Some said) s = ([], said, (refl, refl))

completes_at : (part : Part) (said : Option ℕ) (typed : Bool) → IsLive (header said typed part) → Completes (RemainsAt part said typed)
completes_at LineStart said typed l = lines_complete said typed
completes_at (Prefix k) said typed l = prefix_completes (Forks said typed) k (fork_completes said typed l)
completes_at (Name ContentLength k) said typed l =
    length_completes (λ m. Lines (Some m) typed) k (lines_complete (Some 0) typed)
completes_at (Name ContentType k) said typed l = type_completes (Lines said true) k (lines_complete said true)
completes_at (Spaces left) said typed l =
    let c = lines_complete (Some 0) typed in
    (48 ∷ 13 ∷ 10 ∷ c.0, c.1, inr ((lit≤ tt, lit≤ tt), l, inl (refl, (refl, c.2))))
completes_at (Digits left count value) said typed l =
    let c = lines_complete (Some value) typed in (13 ∷ 10 ∷ c.0, c.1, inl (refl, (refl, c.2)))
completes_at (Value left) said typed l =
    let c = lines_complete said true in (13 ∷ 10 ∷ c.0, c.1, inl (refl, (refl, c.2)))
completes_at LineFeed said typed l = let c = lines_complete said typed in (10 ∷ c.0, c.1, (refl, c.2))
completes_at LastFeed said typed l = let c = ends_complete said l in (10 ∷ c.0, c.1, (refl, c.2))
completes_at Whole said typed l = ends_complete said l

pub completes : (h : Header) → IsLive h → (bs : List ℕ) × (n : ℕ) × Remains h n bs
completes h l = completes_at h.part h.length h.typed l

-- the header is whole, and says n
abbrev pub IsWhole : Header → ℕ → Type 0
IsWhole h n = (h.part ≡ Whole) × (h.length ≡ Some n)

name_lacks : (name : List ℕ) (K : Texts) → (K [] → ⊥) → ReadsName name K [] → ⊥
name_lacks [] K none r = none r
name_lacks (c ∷ name) K none r = r

fork_lacks : (said : Option ℕ) (typed : Bool) (n : ℕ) → Forks said typed n [] → ⊥
fork_lacks None false n r = ⊎_elim (λ q. q) (λ q. q) r
fork_lacks None true n r = r
fork_lacks (Some said) false n r = r
fork_lacks (Some said) true n r = r

lines_lack : (said : Option ℕ) (typed : Bool) (n : ℕ) → Lines said typed n [] → ⊥
lines_lack None false n r = r
lines_lack None true n r = r
lines_lack (Some said) false n r = ⊎_elim (λ q. q) (λ q. q) r
lines_lack (Some said) true n r = r

end_says : (said : Option ℕ) (n : ℕ) → Ends said n [] → said ≡ Some n
end_says None n r = absurd r
end_says (Some m) n r = ap Some r.0

whole_at : (part : Part) (said : Option ℕ) (typed : Bool) (n : ℕ) → RemainsAt part said typed n [] → (part ≡ Whole) × (said ≡ Some n)
whole_at LineStart said typed n r = absurd (lines_lack said typed n r)
whole_at (Prefix k) said typed n r = absurd (name_lacks _ (Forks said typed n) (fork_lacks said typed n) r)
whole_at (Name ContentLength k) said typed n r =
    absurd (name_lacks (drop k (codes "length")) (ReadsByte 58 (ReadsSpaces 1009 (λ m. Lines (Some m) typed n))) (λ q. q) r)
whole_at (Name ContentType k) said typed n r =
    absurd (name_lacks (drop k (codes "type")) (ReadsByte 58 (ReadsValue 1011 (Lines said true n))) (λ q. q) r)
whole_at (Spaces left) said typed n r = absurd r
whole_at (Digits left count value) said typed n r = absurd r
whole_at (Value left) said typed n r = absurd r
whole_at LineFeed said typed n r = absurd r
whole_at LastFeed said typed n r = absurd r
whole_at Whole said typed n r = (refl, end_says said n r)

-- nothing completes only a whole header
pub whole_from : (h : Header) (n : ℕ) → Remains h n [] → IsWhole h n
whole_from h n r = whole_at h.part h.length h.typed n r

remains_whole_at : (part : Part) (said : Option ℕ) (typed : Bool) (n : ℕ) → part ≡ Whole → said ≡ Some n → RemainsAt part said typed n []
remains_whole_at part said typed n p s =
    let P : Part → Type 0 = λ q. RemainsAt q said typed n [] in
    let Q : Option ℕ → Type 0 = λ o. RemainsAt Whole o typed n [] in
    subst P (sym p) (subst Q (sym s) (refl, refl))

pub remains_whole : (h : Header) (n : ℕ) → IsWhole h n → Remains h n []
remains_whole h n w = remains_whole_at h.part h.length h.typed n w.0 w.1
