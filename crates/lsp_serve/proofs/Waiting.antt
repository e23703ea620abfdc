-- What waits in a framer, message by message.
use Rattle.std.proofs.Common.{◌≡◌, ℕ, ◌<◌, List, [], ◌∷◌, ◌++◌, length, Option, Some, None, refl, sym, ap, subst, length-append, arith}
use Rattle.tool_output.proofs.Appending.{appends_both}
use Rattle.rpc_frame.specs.declared.framer.FrameNext.TheVariants.{Message, BadHeader, TooLong}
use Rattle.rpc_frame.specs.Frames.{IsFrame}
use Rattle.rpc_frame.specs.Framing.{Held, IsNext, HasGiven}
use Rattle.rpc_frame.proofs.OneReading.{given_fed, given_taken}
use Rattle.rpc_frame.proofs.Written.{nothing_framed}
use Rattle.lsp_answers.specs.States.{State, Meaning}
use Rattle.lsp_session.specs.declared.phase.Phase.{Phase}
use Rattle.lsp_session.specs.declared.phase.Phase.TheVariants.{Uninitialized}
use Rattle.lsp_serve.specs.declared.ends.End.{End}
use Rattle.lsp_serve.specs.declared.ends.End.TheVariants as end
use Rattle.lsp_serve.specs.InTime.{AppendsMore}
use Rattle.lsp_serve.specs.Serving.{step, StepTells, AllTell}
use Rattle.lsp_serve.specs.Walk.{IsMet, HasGone, HasWritten, HasAnswered, EndsAt, EndsBehind, EndsUnfed, IsRefused}
use Rattle.lsp_serve.proofs.Gone.{gone_more, gone_tells, tells_front}

-- a message that is taken leaves less
frame_some : (frame content : List ℕ) → IsFrame frame content → 0 < length frame
frame_some [] content f = absurd (nothing_framed [] [] content refl f)
frame_some (b ∷ frame) content f = omega arith

pub waits_less : (old new : Held) → IsNext old Message new → length new.waiting < length old.waiting
waits_less old new p =
    omega (arith, frame_some p.0 new.content p.2, ap length p.1, length-append p.0 new.waiting)

-- what was written grows
pub adds_both : (a b c : Option (List ℕ)) → AppendsMore a b [] → AppendsMore b c [] → AppendsMore a c []
adds_both a b c p q = (p.0 ++ q.0, appends_both a b c p.0 q.0 p.1 q.1)

module _ (m : Meaning) (s : State) (read : List ℕ) (old new : Held) (phase after : Phase) (before now : State) (first mid last : Option (List ℕ)) (content : List ℕ) (next : IsNext old Message new) (same : content ≡ new.content) (a : HasAnswered m s read old phase before first mid) where
  took : HasGiven read (a.contents ++ content ∷ []) new
  took = let P : List ℕ → Type 0 = λ l. HasGiven read (a.contents ++ l ∷ []) new in subst P (sym same) (given_taken read a.contents old new a.given next)

  -- the session before it, and that the folder tells what it asks
  record Came : Type 0 where
    gone : HasWritten m s a.contents phase before first mid
    asks : StepTells phase before content

  came : AllTell m Uninitialized s (a.contents ++ content ∷ []) → Came
  came t =
      let w = a.gone (tells_front m Uninitialized s a.contents (content ∷ []) t) in
      record { gone = w; asks = (gone_tells m Uninitialized s a.contents w.0 phase before w.1 (content ∷ []) t).0 }

  -- one message more is answered
  pub answered_more : (StepTells phase before content → IsMet (step m phase before content) after now mid last None) → HasAnswered m s read new after now first last
  answered_more meets =
      record {
        contents = a.contents ++ content ∷ [];
        given = took;
        gone = λ t.
            let k = came t in
            let w = k.gone in
            let o = step m phase before content in
            let met = meets k.asks in
            let G : Phase → Type 0 = λ p. HasGone m Uninitialized s (a.contents ++ content ∷ []) (w.0 ++ o.bytes) p o.state in
            let S : State → Type 0 = λ u. HasGone m Uninitialized s (a.contents ++ content ∷ []) (w.0 ++ o.bytes) after u in
            (w.0 ++ o.bytes, subst S (sym met.same_state) (subst G (sym met.same_phase) (gone_more m Uninitialized s a.contents w.0 phase before content w.1 met.on)), appends_both first mid last w.0 o.bytes w.2 met.written);
      }

  -- or the session ends at it
  pub ended_at : (e : End) → (StepTells phase before content → IsMet (step m phase before content) after now mid last (Some e)) → EndsAt m s read now first last e
  ended_at e meets =
      record {
        contents = a.contents;
        content = content;
        rest = new.waiting;
        frames = took.frames;
        gone = λ t. let k = came t in (phase, after, before, mid, k.gone, meets k.asks);
      }

module _ (m : Meaning) (s : State) (read : List ℕ) (held : Held) (phase : Phase) (now : State) (first last : Option (List ℕ)) where
  pub answered_as : (new : Held) → new ≡ held → HasAnswered m s read held phase now first last → HasAnswered m s read new phase now first last
  answered_as new e a = let P : Held → Type 0 = λ h. HasAnswered m s read h phase now first last in subst P (sym e) a

  -- what waits is bad, or too long
  pub behind_bad : (new : Held) (place : ℕ) → IsNext held (BadHeader place) new → HasAnswered m s read held phase now first last → EndsBehind m s read new phase now first last end.BadHeader
  behind_bad new place n a =
      let P : Held → Type 0 = λ h. IsRefused h.waiting end.BadHeader in
      record { answered = answered_as new n.0 a; refused = subst P (sym n.0) (n.1, n.2) }

  pub behind_long : (new : Held) (said : ℕ) → IsNext held (TooLong said) new → HasAnswered m s read held phase now first last → EndsBehind m s read new phase now first last end.Limit
  behind_long new said n a =
      let P : Held → Type 0 = λ h. IsRefused h.waiting end.Limit in
      record { answered = answered_as new n.0 a; refused = subst P (sym n.0) (said, n.1) }

  -- a piece more is read
  pub answered_fed : (piece : List ℕ) (new : Held) → new ≡ record held { waiting = held.waiting ++ piece } → HasAnswered m s read held phase now first last → HasAnswered m s (read ++ piece) new phase now first last
  answered_fed piece new e a =
      let P : Held → Type 0 = λ h. HasGiven (read ++ piece) a.contents h in
      record {
        contents = a.contents;
        given = subst P (sym e) (given_fed read piece a.contents held a.given);
        gone = a.gone;
      }

  -- there was no room for it
  pub unfed : (piece : List ℕ) → HasAnswered m s read held phase now first last → EndsUnfed m s (read ++ piece) now first last end.NoMemory
  unfed piece a =
      record { unfed = refl; front = read; more = piece; split = refl; held = held; phase = phase; answered = a }
