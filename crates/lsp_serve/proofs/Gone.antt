-- How far a session has come, and what comes behind.
use Rattle.std.proofs.Common.{◌≡◌, ℕ, Bool, List, [], ◌∷◌, ◌++◌, Option, Some, None, refl, sym, ap, ◌∙◌, subst, append_assoc}
use Rattle.std.proofs.lemmas.List.{append-nil}
use Rattle.rpc_frame.specs.Streams.{Rest}
use Rattle.lsp_answers.specs.States.{State, Meaning}
use Rattle.lsp_session.specs.declared.phase.Phase.{Phase}
use Rattle.lsp_session.specs.declared.phase.Turn.{Turn}
use Rattle.lsp_session.specs.declared.phase.Turn.TheVariants.{On, Ended}
use Rattle.lsp_session.specs.SessionOutput.{Outcome}
use Rattle.lsp_serve.specs.InTime.{IsOn, AllGoOn}
use Rattle.lsp_serve.specs.Serving.{Served, step, after_by, served, end_status, Behind, AllTell}
use Rattle.lsp_serve.specs.Walk.{HasGone}

-- bytes stand before what is written
abbrev pub behind : List ℕ → Served → Served
behind bytes all = record all { bytes = bytes ++ all.bytes }

-- so much was written, and that was left
abbrev pub came_to : List ℕ → ℕ → State → Served
came_to bytes status state = record { bytes = bytes; status = status; state = state }

after_on : (l : Option ℕ) (t : Turn) (o : Outcome) (later : Served) → l ≡ None → t ≡ On → after_by l t o later ≡ behind o.bytes later
after_on None On o later e f = refl
after_on None (Ended status) o later e f = cc
after_on (Some said) t o later e f = cc

tell_on : (l : Option ℕ) (t : Turn) (P : Type 0) → l ≡ None → t ≡ On → Behind l t P → P
tell_on None On P e f p = p
tell_on None (Ended status) P e f p = absurd cc
tell_on (Some said) t P e f p = absurd cc

tell_less : (l : Option ℕ) (t : Turn) (P Q : Type 0) → (P → Q) → Behind l t P → Behind l t Q
tell_less None On P Q f p = f p
tell_less None (Ended status) P Q f p = tt
tell_less (Some said) t P Q f p = tt

-- the session over the contents behind those that it has gone over
pub gone_served : (m : Meaning) (p : Phase) (s : State) (cs : List (List ℕ)) (bytes : List ℕ) (after : Phase) (now : State) → HasGone m p s cs bytes after now → (later : List (List ℕ)) (over : Bool) (kind : Rest) → served m p s (cs ++ later) over kind ≡ behind bytes (served m after now later over kind)
gone_served m p s [] bytes after now h later over kind = rw (h.0, h.1, h.2) refl
gone_served m p s (c ∷ cs) bytes after now h later over kind =
    let o = step m p s c in
    let y = served m after now later over kind in
    after_on o.limit o.turn o _ h.0.unlimited h.0.on ∙ ap (behind o.bytes) (gone_served m o.phase o.state cs h.1 after now h.3 later over kind) ∙ ap (λ l. record y { bytes = l }) (sym (append_assoc o.bytes h.1 y.bytes)) ∙ ap (λ l. behind l y) (sym h.2)

-- one more content
gone_one : (m : Meaning) (p : Phase) (s : State) (c : List ℕ) → IsOn (step m p s c) → HasGone m p s (c ∷ []) (step m p s c).bytes (step m p s c).phase (step m p s c).state
gone_one m p s c on = (on, [], sym (append-nil (step m p s c).bytes), (refl, refl, refl))

pub gone_more : (m : Meaning) (p : Phase) (s : State) (cs : List (List ℕ)) (bytes : List ℕ) (after : Phase) (now : State) (c : List ℕ) → HasGone m p s cs bytes after now → IsOn (step m after now c) → HasGone m p s (cs ++ c ∷ []) (bytes ++ (step m after now c).bytes) (step m after now c).phase (step m after now c).state
gone_more m p s [] bytes after now c h on =
    let A : Phase → Type 0 = λ q. IsOn (step m q now c) in
    let S : State → Type 0 = λ t. IsOn (step m p t c) in
    rw (h.0, h.1, h.2) (gone_one m p s c (subst S h.2 (subst A h.1 on)))
gone_more m p s (d ∷ cs) bytes after now c h on =
    let o = step m p s d in
    let last = step m after now c in
    (h.0, h.1 ++ last.bytes, ap (λ l. l ++ last.bytes) h.2 ∙ append_assoc o.bytes h.1 last.bytes, gone_more m o.phase o.state cs h.1 after now c h.3 on)

-- what the folder tells behind them
pub gone_tells : (m : Meaning) (p : Phase) (s : State) (cs : List (List ℕ)) (bytes : List ℕ) (after : Phase) (now : State) → HasGone m p s cs bytes after now → (later : List (List ℕ)) → AllTell m p s (cs ++ later) → AllTell m after now later
gone_tells m p s [] bytes after now h later t =
    let A : Phase → Type 0 = λ q. AllTell m q s later in
    let S : State → Type 0 = λ u. AllTell m after u later in
    subst S (sym h.2) (subst A (sym h.1) t)
gone_tells m p s (c ∷ cs) bytes after now h later t =
    let o = step m p s c in
    gone_tells m o.phase o.state cs h.1 after now h.3 later (tell_on o.limit o.turn _ h.0.unlimited h.0.on t.1)

pub tells_front : (m : Meaning) (p : Phase) (s : State) (cs later : List (List ℕ)) → AllTell m p s (cs ++ later) → AllTell m p s cs
tells_front m p s [] later t = tt
tells_front m p s (c ∷ cs) later t =
    let o = step m p s c in
    (t.0, tell_less o.limit o.turn (AllTell m o.phase o.state (cs ++ later)) (AllTell m o.phase o.state cs) (tells_front m o.phase o.state cs later) t.1)

pub gone_on : (m : Meaning) (p : Phase) (s : State) (cs : List (List ℕ)) (bytes : List ℕ) (after : Phase) (now : State) → HasGone m p s cs bytes after now → AllGoOn m p s cs
gone_on m p s [] bytes after now h = tt
gone_on m p s (c ∷ cs) bytes after now h =
    let o = step m p s c in (h.0, gone_on m o.phase o.state cs h.1 after now h.3)

-- nothing came behind them
pub gone_all : (m : Meaning) (p : Phase) (s : State) (cs : List (List ℕ)) (bytes : List ℕ) (after : Phase) (now : State) → HasGone m p s cs bytes after now → (over : Bool) (kind : Rest) → served m p s cs over kind ≡ came_to bytes (end_status after over kind) now
gone_all m p s cs bytes after now h over kind =
    ap (λ l. served m p s l over kind) (sym (append-nil cs)) ∙ gone_served m p s cs bytes after now h [] over kind ∙ ap (λ l. came_to l (end_status after over kind) now) (append-nil bytes)
