-- Each stream comes apart into frames and a rest, in one way.
use Rattle.std.proofs.Common.{◌≡◌, ℕ, ◌+◌, ◌^◌, ◌<◌, ◌≤◌, List, [], ◌∷◌, ◌++◌, length, take, drop, get_or, Option, Some, None, ◌⊎◌, inl, inr, refl, sym, subst, ⊎_elim, zero, suc, length-drop, arith}
use Rattle.std.proofs.lemmas.List.{take-append-drop}
use Rattle.std.proofs.lemmas.Bool.{cases_lt}
use Rattle.rpc_frame.specs.declared.framer.FrameNext.{FrameNext}
use Rattle.rpc_frame.specs.declared.framer.FrameNext.TheVariants.{Message, NotYet, BadHeader, TooLong}
use Rattle.rpc_frame.specs.declared.header.Header.{Header}
use Rattle.rpc_frame.specs.declared.header.Progress.{Progress}
use Rattle.rpc_frame.specs.declared.header.Found.{Found}
use Rattle.rpc_frame.specs.declared.header.Found.TheVariants.{Frame, Unfinished, Bad, Long}
use Rattle.rpc_frame.specs.HeaderMachine.{start, step, said_by, HasRead, HasStopped}
use Rattle.rpc_frame.specs.Frames.{IsFrame, HasNoFrame}
use Rattle.rpc_frame.specs.Framing.{Held, IsNext, IsFound}
use Rattle.rpc_frame.specs.Streams as streams
use Rattle.rpc_frame.specs.Streams.{Rest, Nothing, Begun, Broken, IsRest, IsApart, ComesApart}
use Rattle.rpc_frame.proofs.Fronts.{read_one, whole_from_said, too_long_found, content_lacking, frame_found, some_read, unfinished_found, bad_at}
use Rattle.rpc_frame.proofs.OneReading.{one_answer, message_or_none, unfinished_some, one_stream}

-- ---- the reader of a header can read on until it stops

abbrev Stopped : List ℕ → Type 0
Stopped bytes = (p : Progress) × HasRead bytes p × HasStopped bytes p

at_end : (bytes : List ℕ) (p : Progress) → length bytes ≤ p.read → HasStopped bytes p
at_end bytes p all = λ within. absurd (omega (arith, within, all))

-- the next step, by what it leads to
by_step : (bytes : List ℕ) (p : Progress) → HasRead bytes p → p.read < length bytes → (next : Option Header) → next ≡ step p.header (get_or bytes p.read 0) → ((q : Progress) → q.read ≡ p.read + 1 → HasRead bytes q → Stopped bytes) → Stopped bytes
by_step bytes p r within None e on = (p, r, λ w. sym e)
by_step bytes p r within (Some next) e on =
    on (record { header = next; read = p.read + 1 }) refl (read_one bytes p next r within e)

stops : (n : ℕ) (bytes : List ℕ) (p : Progress) → HasRead bytes p → length bytes ≤ p.read + n → Stopped bytes
stops zero bytes p r few = (p, r, at_end bytes p (omega (arith, few)))
stops (suc n) bytes p r few =
    ⊎_elim
    (λ within.
    by_step bytes p r within (step p.header (get_or bytes p.read 0)) refl (λ q one read. stops n bytes q read (omega (arith, few, one))))
    (λ all. (p, r, at_end bytes p all)) (cases_lt p.read (length bytes))

-- ---- what it finds there

abbrev Finds : List ℕ → Type 0
Finds bytes = (found : Found) × IsFound bytes found

behind_header : (bytes : List ℕ) (p : Progress) (said : ℕ) → HasRead bytes p → said_by p.header ≡ Some said → Finds bytes
behind_header bytes p said r e =
    let whole = whole_from_said p.header said e in
    ⊎_elim (λ large. (Long said, too_long_found bytes p.read said p.header r whole large))
    (λ fits.
    ⊎_elim (λ lacking. (Unfinished, inr (inr (content_lacking bytes p.read said p.header r whole fits lacking))))
    (λ within.
    (Frame p.read said, (some_read bytes p said r e, within, frame_found bytes p.read said p.header r whole fits within))) (cases_lt (length bytes) (p.read + said))) (cases_lt (2 ^ 24) said)

found_of : (said : Option ℕ) (bytes : List ℕ) (p : Progress) → HasRead bytes p → HasStopped bytes p → said ≡ said_by p.header → Finds bytes
found_of (Some said) bytes p r stopped e = behind_header bytes p said r (sym e)
found_of None bytes p r stopped e =
    ⊎_elim (λ within. (Bad p.read, bad_at bytes p r stopped within e)) (λ all. (Unfinished, unfinished_found bytes p r all e)) (cases_lt p.read (length bytes))

abbrev first : Progress
first = record { header = start; read = 0 }

finds : (bytes : List ℕ) → Finds bytes
finds bytes =
    let s = stops (length bytes) bytes first (omega arith, refl) (omega arith) in
    found_of (said_by s.0.header) bytes s.0 s.1 s.2 refl

-- ---- frame by frame

rest_is : (stream : List ℕ) (kind : Rest) → IsRest stream kind → ComesApart stream
rest_is stream kind is = ([], stream, kind, record { frames = refl; behind = is })

frame_behind : (stream frame more content : List ℕ) → stream ≡ frame ++ more → IsFrame frame content → ComesApart more → ComesApart stream
frame_behind stream frame more content e f c =
    (content ∷ c.0, c.1, c.2, record { frames = (frame, more, e, f, c.3.frames); behind = c.3.behind })

by_found : (stream : List ℕ) (found : Found) → IsFound stream found → ((more : List ℕ) → length more < length stream → ComesApart more) → ComesApart stream
by_found stream Unfinished f behind =
    ⊎_elim (λ none. rest_is stream Nothing none) (λ begun. rest_is stream Begun begun) f
by_found stream (Bad place) f behind = rest_is stream (Broken place) f
by_found stream (Long said) f behind = rest_is stream (streams.Long said) f
by_found stream (Frame header content) f behind =
    let more = drop (header + content) stream in
    frame_behind stream (take (header + content) stream) more (take content (drop header stream)) (sym (take-append-drop (header + content) stream)) f.2
    (behind more (omega (arith, length-drop (header + content) stream, f.0, f.1)))

apart : (n : ℕ) (stream : List ℕ) → length stream ≤ n → ComesApart stream
apart zero stream few =
    by_found stream (finds stream).0 (finds stream).1 (λ more less. absurd (omega (arith, few, less)))
apart (suc n) stream few =
    by_found stream (finds stream).0 (finds stream).1 (λ more less. apart n more (omega (arith, few, less)))

-- each stream comes apart
pub comes_apart : (stream : List ℕ) → ComesApart stream
comes_apart stream = apart (length stream) stream (omega arith)

-- ---- in one way

abbrev waits : List ℕ → Held
waits bytes = record { taken = 0; content = []; waiting = bytes }

abbrev answer_of : Rest → FrameNext
answer_of Nothing = NotYet
answer_of Begun = NotYet
answer_of (streams.Long said) = TooLong said
answer_of (Broken place) = BadHeader place

answered : (bytes : List ℕ) (kind : Rest) → IsRest bytes kind → IsNext (waits bytes) (answer_of kind) (waits bytes)
answered bytes Nothing is = (refl, inl is)
answered bytes Begun is = (refl, inr is)
answered bytes (streams.Long said) is = (refl, is)
answered bytes (Broken place) is = (refl, place, is, omega arith)

no_message : (bytes : List ℕ) (kind : Rest) → (answer_of kind ≡ Message) ⊎ HasNoFrame bytes → HasNoFrame bytes
no_message bytes Nothing o = ⊎_elim (λ e. absurd cc) (λ none. none) o
no_message bytes Begun o = ⊎_elim (λ e. absurd cc) (λ none. none) o
no_message bytes (streams.Long said) o = ⊎_elim (λ e. absurd cc) (λ none. none) o
no_message bytes (Broken place) o = ⊎_elim (λ e. absurd cc) (λ none. none) o

pub no_frame : (bytes : List ℕ) (kind : Rest) → IsRest bytes kind → HasNoFrame bytes
no_frame bytes kind is =
    no_message bytes kind (message_or_none (waits bytes) (answer_of kind) (waits bytes) (answered bytes kind is))

same_kind : (bytes : List ℕ) (a b : Rest) → IsRest bytes a → IsRest bytes b → answer_of a ≡ answer_of b → a ≡ b
same_kind bytes Nothing Nothing p q e = refl
same_kind bytes Nothing Begun p q e = absurd (unfinished_some bytes p q)
same_kind bytes Nothing (streams.Long n) p q e = cc
same_kind bytes Nothing (Broken k) p q e = cc
same_kind bytes Begun Nothing p q e = absurd (unfinished_some bytes q p)
same_kind bytes Begun Begun p q e = refl
same_kind bytes Begun (streams.Long n) p q e = cc
same_kind bytes Begun (Broken k) p q e = cc
same_kind bytes (streams.Long m) Nothing p q e = cc
same_kind bytes (streams.Long m) Begun p q e = cc
same_kind bytes (streams.Long m) (streams.Long n) p q e = cc
same_kind bytes (streams.Long m) (Broken k) p q e = cc
same_kind bytes (Broken j) Nothing p q e = cc
same_kind bytes (Broken j) Begun p q e = cc
same_kind bytes (Broken j) (streams.Long n) p q e = cc
same_kind bytes (Broken j) (Broken k) p q e = cc

one_kind : (bytes : List ℕ) (a b : Rest) → IsRest bytes a → IsRest bytes b → a ≡ b
one_kind bytes a b p q =
    same_kind bytes a b p q (one_answer (waits bytes) (answer_of a) (answer_of b) (waits bytes) (waits bytes) (answered bytes a p) (answered bytes b q)).0

-- its frames, its rest and the rest's kind are the only ones
pub one_apart : (stream rest rest' : List ℕ) (contents contents' : List (List ℕ)) (kind kind' : Rest) → IsApart stream contents rest kind → IsApart stream contents' rest' kind' → (contents ≡ contents') × (rest ≡ rest') × (kind ≡ kind')
one_apart stream rest rest' contents contents' kind kind' a b =
    let same = one_stream stream rest rest' contents contents' a.frames (no_frame rest kind a.behind) b.frames (no_frame rest' kind' b.behind) in
    let P : List ℕ → Type 0 = λ t. IsRest t kind' in
    (same.0, same.1, one_kind rest kind kind' a.behind (subst P (sym same.1) b.behind))
