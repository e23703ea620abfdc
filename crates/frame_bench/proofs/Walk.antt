-- The walk over a stream: what was seen of its front.
use Rattle.std.proofs.Common.{◌≡◌, ℕ, ◌+◌, ◌<◌, ◌≤◌, List, [], ◌∷◌, ◌++◌, length, take, drop, Bool, cond, refl, sym, ap, ◌∙◌, subst, ⊎_elim, length-append, length-drop, arith}
use Rattle.std.specs.List.{sum_by}
use Rattle.std.proofs.Math.Seq.{take-add, take-append_seam}
use Rattle.std.proofs.lemmas.List.Sums.{sum_by-cons, sum_by-append}
use Rattle.rpc_frame.specs.declared.framer.FrameNext.{FrameNext}
use Rattle.rpc_frame.specs.declared.framer.FrameNext.TheVariants.{Message, NotYet, BadHeader, TooLong}
use Rattle.rpc_frame.specs.Frames.{IsFrame, IsHeader, HasFields, header_of, HasFrames, HasNoFrame}
use Rattle.rpc_frame.specs.Framing.{Held, IsNext, HasGiven}
use Rattle.rpc_frame.proofs.OneReading.{message_or_none, given_fed, given_taken}
use Rattle.rpc_frame.proofs.Written.{nothing_framed}
use Rattle.lsp_wire.specs.Messages.{IsMessage}
use Rattle.lsp_wire.specs.declared.types.Incoming.{Incoming}
use Rattle.frame_bench.specs.declared.counts.Counts.{Counts}
use Rattle.frame_bench.specs.declared.task.Task.{Task}
use Rattle.frame_bench.specs.declared.task.Task.TheVariants.{Frames, Messages}
use Rattle.frame_bench.specs.Counting.{AreMessages, is_refused, HasRefused, HasCounts, HasFound, HasSeen}

header_some : (header : List ℕ) (said : ℕ) → IsHeader header said → 1 ≤ length header
header_some header said h = by_fields h.0 h.2
  where
    line_some : (line : List ℕ) (lines : List (List ℕ)) → header ≡ header_of (line ∷ lines) → 1 ≤ length header
    line_some line lines e = omega (arith, ap length e, length-append line (13 ∷ 10 ∷ header_of lines))

    by_fields : (line : List ℕ) → HasFields header line → 1 ≤ length header
    by_fields line f =
        ⊎_elim (line_some line [])
        (λ q. ⊎_elim (line_some line (q.0 ∷ [])) (line_some q.0 (line ∷ [])) q.2) f

-- a frame is longer than its content
pub frame_longer : (frame content : List ℕ) → IsFrame frame content → length content < length frame
frame_longer frame content f =
    let some = header_some f.header (length content) f.says in
    omega (arith, some, ap length f.written, length-append f.header content)

abbrev bytes_of : List (List ℕ) → ℕ
bytes_of contents = sum_by (λ content. length content) contents

-- contents and their bytes are no more than the stream
frames_bound : (stream rest : List ℕ) (contents : List (List ℕ)) → HasFrames stream contents rest → length contents + bytes_of contents + length rest ≤ length stream
frames_bound stream rest [] h = omega (arith, ap length h)
frames_bound stream rest (content ∷ contents) h =
    let later = frames_bound h.1 rest contents h.4 in
    let longer = frame_longer h.0 content h.3 in
    omega (arith, later, longer, ap length h.2, length-append h.0 h.1, sum_by-cons (λ c. length c) content contents)

pub seen_bound : (task : Task) (front : List ℕ) (held : Held) (counts : Counts) → HasSeen task front held counts → counts.contents + counts.bytes + length held.waiting ≤ length front
seen_bound task front held counts s =
    let bound = frames_bound front held.waiting s.contents s.given.frames in
    omega (arith, bound, s.counted.number, s.counted.size)

messages_join : (contents more : List (List ℕ)) (messages others : List Incoming) → AreMessages contents messages → AreMessages more others → AreMessages (contents ++ more) (messages ++ others)
messages_join [] more [] others a b = b
messages_join [] more (m ∷ messages) others a b = absurd a
messages_join (c ∷ contents) more [] others a b = absurd a
messages_join (c ∷ contents) more (m ∷ messages) others a b = (a.0, messages_join contents more messages others a.1 b)

pub refused_join : (task : Task) (contents more : List (List ℕ)) (a b : ℕ) → HasRefused task contents a → HasRefused task more b → HasRefused task (contents ++ more) (a + b)
refused_join (Frames cutting) contents more a b p q = omega (arith, p, q)
refused_join Messages contents more a b p q =
    (p.0 ++ q.0, messages_join contents more p.0 q.0 p.1 q.1, omega (arith, p.2, q.2, sum_by-append (λ m. cond (is_refused m) 1 0) p.0 q.0))

-- one content that is read
pub one_refused : (task : Task) (content : List ℕ) (b v : Bool) → task ≡ Messages → b ≡ v → ((message : Incoming) × IsMessage content message × (b ≡ is_refused message)) → HasRefused task (content ∷ []) (cond v 1 0)
one_refused task content b v e same q =
    let H : Task → Type 0 = λ t. HasRefused t (content ∷ []) (cond v 1 0) in
    let f : Incoming → ℕ = λ m. cond (is_refused m) 1 0 in
    let told : cond v 1 0 ≡ f q.0 = ap (λ (w : Bool). cond {A = ℕ} w 1 0) (sym same ∙ q.2) in
    subst H (sym e) (q.0 ∷ [], (q.1, tt), omega (arith, told, sum_by-cons f q.0 []))

pub counts_more : (task : Task) (contents : List (List ℕ)) (content : List ℕ) (old new : Counts) (n : ℕ) → HasRefused task (content ∷ []) n → new.contents ≡ old.contents + 1 → new.bytes ≡ old.bytes + length content → new.refused ≡ old.refused + n → HasCounts task contents old → HasCounts task (contents ++ content ∷ []) new
counts_more task contents content old new n r number size refused c =
    let R : ℕ → Type 0 = λ k. HasRefused task (contents ++ content ∷ []) k in
    record {
      number = omega (arith, number, c.number, length-append contents (content ∷ []));
      size = omega (arith, size, c.size, sum_by-append (λ l. length l) contents (content ∷ []), sum_by-cons (λ l. length l) content []);
      refused = subst R (sym refused) (refused_join task contents (content ∷ []) old.refused n c.refused r);
    }

-- before the first piece
pub seen_none : (task : Task) (held : Held) (counts : Counts) → held ≡ record { taken = 0; content = []; waiting = [] } → HasCounts task [] counts → HasSeen task [] held counts × HasNoFrame held.waiting
seen_none task held counts e c =
    let G : Held → Type 0 = λ h. HasGiven [] [] h in
    let N : Held → Type 0 = λ h. HasNoFrame h.waiting in
    (record { contents = []; given = subst G (sym e) (record { frames = refl; counted = refl }); counted = c }, subst N (sym e) nothing_framed)

pub seen_fed : (task : Task) (front piece : List ℕ) (old new : Held) (counts : Counts) → new ≡ record old { waiting = old.waiting ++ piece } → HasSeen task front old counts → HasSeen task (front ++ piece) new counts
seen_fed task front piece old new counts e s =
    let S : Held → Type 0 = λ held. HasGiven (front ++ piece) s.contents held in
    record {
      contents = s.contents;
      given = subst S (sym e) (given_fed front piece s.contents old s.given);
      counted = s.counted;
    }

pub seen_more : (task : Task) (front : List ℕ) (old new : Held) (counts after : Counts) (content : List ℕ) → IsNext old Message new → content ≡ new.content → ((contents : List (List ℕ)) → HasCounts task contents counts → HasCounts task (contents ++ content ∷ []) after) → HasSeen task front old counts → HasSeen task front new after
seen_more task front old new counts after content p same more s =
    let C : List ℕ → Type 0 = λ l. HasCounts task (s.contents ++ l ∷ []) after in
    record {
      contents = s.contents ++ new.content ∷ [];
      given = given_taken front s.contents old new s.given p;
      counted = subst C same (more s.contents s.counted);
    }

pub seen_as : (task : Task) (front : List ℕ) (old new : Held) (counts : Counts) → new ≡ old → HasSeen task front old counts → HasSeen task front new counts
seen_as task front old new counts e s = let S : Held → Type 0 = λ held. HasSeen task front held counts in subst S (sym e) s

pub seen_front : (task : Task) (front more : List ℕ) (held : Held) (counts : Counts) → front ≡ more → HasSeen task front held counts → HasSeen task more held counts
seen_front task front more held counts e s = let S : List ℕ → Type 0 = λ l. HasSeen task l held counts in subst S e s

-- a message that waits has room to be counted
pub room_for : (task : Task) (front : List ℕ) (old new : Held) (counts : Counts) → IsNext old Message new → HasSeen task front old counts → counts.contents + counts.bytes + length new.content < length front + 1
room_for task front old new counts p s =
    let bound = seen_bound task front old counts s in
    let longer = frame_longer p.0 new.content p.2 in
    omega (arith, bound, longer, ap length p.1, length-append p.0 new.waiting)

pub waits_less : (old new : Held) → IsNext old Message new → length new.waiting < length old.waiting
waits_less old new p =
    let longer = frame_longer p.0 new.content p.2 in
    omega (arith, longer, ap length p.1, length-append p.0 new.waiting)

-- any answer but a message changes nothing
pub other_stays : (old : Held) (a : FrameNext) (new : Held) → IsNext old a new → (a ≡ Message → ⊥) → (new ≡ old) × HasNoFrame new.waiting
other_stays old a new p ne =
    let same = unchanged a p ne in
    let N : Held → Type 0 = λ held. HasNoFrame held.waiting in
    (same, subst N (sym same) (⊎_elim (λ e. absurd (ne e)) (λ none. none) (message_or_none old a new p)))
  where
    unchanged : (a : FrameNext) → IsNext old a new → (a ≡ Message → ⊥) → new ≡ old
    unchanged Message p ne = absurd (ne refl)
    unchanged NotYet p ne = p.0
    unchanged (BadHeader k) p ne = p.0
    unchanged (TooLong n) p ne = p.0

pub found : (task : Task) (stream : List ℕ) (held : Held) (counts : Counts) → HasSeen task stream held counts → HasNoFrame held.waiting → HasFound task stream counts
found task stream held counts s none =
    record {
      contents = s.contents;
      rest = held.waiting;
      frames = s.given.frames;
      none = none;
      counted = s.counted;
    }

-- the front that one more piece makes
pub further : (stream piece more : List ℕ) (k : ℕ) → drop k stream ≡ piece ++ more → take k stream ++ piece ≡ take (k + length piece) stream
further stream piece more k e =
    sym (take-add k (length piece) stream ∙ ap (λ l. take k stream ++ take (length piece) l) e ∙ ap (λ l. take k stream ++ l) (take-append_seam piece more))

pub further_within : (stream piece more : List ℕ) (k : ℕ) → k ≤ length stream → drop k stream ≡ piece ++ more → k + length piece ≤ length stream
further_within stream piece more k within e =
    omega (arith, within, ap length e, length-append piece more, length-drop k stream)
