-- Ends of sessions, and what was written by then.
use Rattle.std.proofs.Common.{◌≡◌, ◌↔◌, ℕ, Bool, true, false, ltb, List, [], ◌∷◌, ◌++◌, length, take, Option, Some, None, IsTrue, ⊎_elim, refl, sym, ap, ◌∙◌, subst, append_assoc, length-append, arith}
use Rattle.std.specs.Bool.{OnFalse, OnTrue}
use Rattle.std.specs.Io.KnownBytes.{Appends}
use Rattle.std.proofs.lemmas.List.{append-nil}
use Rattle.std.proofs.lemmas.Bool.{false≢true}
use Rattle.tool_output.specs.Output.{AppendsFront, AppendsSome}
use Rattle.tool_output.proofs.Appending.{appends_both}
use Rattle.rpc_frame.specs.Frames.{EndsInside}
use Rattle.rpc_frame.specs.Framing.{Held}
use Rattle.rpc_frame.specs.Streams.{Rest, Nothing, Begun, Long, Broken, IsRest, IsApart}
use Rattle.rpc_frame.proofs.OneReading.{bad_stays, too_long_stays, nothing_inside, inside_unfinished}
use Rattle.lsp_answers.specs.States.{State, Meaning}
use Rattle.lsp_session.specs.declared.phase.Phase.{Phase}
use Rattle.lsp_session.specs.declared.phase.Phase.TheVariants.{Uninitialized, Running, Stopped}
use Rattle.lsp_session.specs.declared.phase.Turn.{Turn}
use Rattle.lsp_session.specs.declared.phase.Turn.TheVariants.{On, Ended}
use Rattle.lsp_session.specs.SessionOutput.{Outcome}
use Rattle.lsp_serve.specs.declared.ends.End.{End}
use Rattle.lsp_serve.specs.declared.ends.End.TheVariants.{Done, FolderFault, InputFault, OutputFault, NoMemory, Limit, BadHeader}
use Rattle.lsp_serve.specs.Ends.{Serves, is_fault, is_done, status_of, end_of_input}
use Rattle.lsp_serve.specs.InTime.{IsUndecided}
use Rattle.lsp_serve.specs.Serving.{most_input, Served, step, after_by, after_message, served, end_status, IsSession, FolderTells}
use Rattle.lsp_serve.specs.Walk.{written_by, IsMet, HasAnswered, IsPart, EndsAt, EndsBehind, EndsUnfed, IsTaken}
use Rattle.lsp_serve.proofs.Gone.{behind, came_to, gone_served, gone_all}
use Rattle.lsp_serve.proofs.Sessions.{Front, goes, tells, goes_no_further, session_by, tells_by}

after_fault : (b : Bool) (P : Type 0) → b ≡ true → OnFalse b P
after_fault true P e = tt
after_fault false P e = absurd (false≢true e)

not_done : (b : Bool) (P : Type 0) → b ≡ false → OnTrue b P
not_done true P e = absurd (false≢true (sym e))
not_done false P e = tt

on_false : (b : Bool) (P : Type 0) → P → OnFalse b P
on_false true P p = tt
on_false false P p = p

on_true : (b : Bool) (P : Type 0) → P → OnTrue b P
on_true true P p = p
on_true false P p = tt

-- ---- what was written of a session

module _ (all : Served) (old new : Option (List ℕ)) where
  pub serves_fault : (status : ℕ) (now : State) → is_fault status ≡ true → is_done status ≡ false → AppendsFront old new all.bytes → Serves all status now old new
  serves_fault status now f d a = record { front = a; whole = after_fault (is_fault status) _ f; kept = not_done (is_done status) _ d }

  -- all of it, to an end at which whoever answers is left so
  pub serves_all : (bytes : List ℕ) (status : ℕ) (now : State) → all ≡ came_to bytes status now → Appends old new bytes → Serves all status now old new
  serves_all bytes status now e a =
      let b : all.bytes ≡ bytes = ap (λ (x : Served). x.bytes) e in
      let written = subst (Appends old new) (sym b) a in
      record {
        front = (all.bytes, [], sym (append-nil all.bytes), written);
        whole = on_false (is_fault status) _ (sym (ap (λ (x : Served). x.status) e), written);
        kept = on_true (is_done status) _ (sym (ap (λ (x : Served). x.state) e));
      }

-- ---- at a message

same_status : (a b : ℕ) → Ended a ≡ Ended b → a ≡ b
same_status a b e = cc

after_ended : (l : Option ℕ) (t : Turn) (o : Outcome) (later : Served) (status : ℕ) → l ≡ None → t ≡ Ended status → after_by l t o later ≡ came_to o.bytes status o.state
after_ended None (Ended n) o later status e f = ap (λ k. came_to o.bytes k o.state) (same_status n status f)
after_ended None On o later status e f = cc
after_ended (Some said) t o later status e f = cc

after_limited : (l : Option ℕ) (t : Turn) (o : Outcome) (later : Served) (said : ℕ) → l ≡ Some said → after_by l t o later ≡ came_to [] 7 o.state
after_limited None t o later said e = cc
after_limited (Some n) t o later said e = refl

after_bytes : (l : Option ℕ) (t : Turn) (o : Outcome) (later : Served) → (more : List ℕ) × ((after_by l t o later).bytes ≡ written_by l o.bytes ++ more)
after_bytes None On o later = (later.bytes, refl)
after_bytes None (Ended status) o later = ([], sym (append-nil o.bytes))
after_bytes (Some said) t o later = ([], refl)

regroup : (b front rest more : List ℕ) → b ++ ((front ++ rest) ++ more) ≡ (b ++ front) ++ (rest ++ more)
regroup b front rest more = simp append_assoc

module _ (o : Outcome) (b : List ℕ) (later all : Served) (is : all ≡ behind b (after_message o later)) where
  -- the bytes before the message, and those that are written for it
  bytes_by : (whole front rest : List ℕ) → written_by o.limit o.bytes ≡ whole → whole ≡ front ++ rest → (more : List ℕ) × (all.bytes ≡ (b ++ front) ++ (rest ++ more))
  bytes_by whole front rest w e =
      let a = after_bytes o.limit o.turn o later in
      (a.0, ap (λ (x : Served). x.bytes) is ∙ ap (λ l. b ++ l) (a.1 ∙ ap (λ l. l ++ a.0) (w ∙ e)) ∙ regroup b front rest a.0)

  front_by : (old mid new : Option (List ℕ)) → Appends old mid b → AppendsFront mid new (written_by o.limit o.bytes) → AppendsFront old new all.bytes
  front_by old mid new a w =
      let e = bytes_by (written_by o.limit o.bytes) w.0 w.1 refl w.2 in
      (b ++ w.0, w.1 ++ e.0, e.1, appends_both old mid new b w.0 a w.3)

  -- the output failed within it
  pub some_by : (old mid new : Option (List ℕ)) → Appends old mid b → o.limit ≡ None → AppendsSome mid new o.bytes → AppendsSome old new all.bytes
  some_by old mid new a none w =
      let e = bytes_by o.bytes w.0 w.1 (ap (λ l. written_by l o.bytes) none) w.2 in
      (b ++ w.0, w.1 ++ e.0, e.1, λ q. w.3 (front_nil w.1 e.0 q), appends_both old mid new b w.0 a w.4)
    where
      front_nil : (x y : List ℕ) → x ++ y ≡ [] → x ≡ []
      front_nil [] y e = refl
      front_nil (c ∷ x) y e = cc

  pub met_serves : (after : Phase) (now : State) (old mid new : Option (List ℕ)) (end : End) → Appends old mid b → IsMet o after now mid new (Some end) → Serves all (status_of end) now old new
  met_serves after now old mid new (Done status) a met =
      let e = is ∙ ap (behind b) (after_ended o.limit o.turn o later status met.unlimited met.ended) ∙ ap (came_to (b ++ o.bytes) status) (sym met.same_state) in
      serves_all all old new (b ++ o.bytes) status now e (appends_both old mid new b o.bytes a met.written)
  met_serves after now old mid new FolderFault a met =
      serves_fault all old new 3 now refl refl (front_by old mid new a ([], written_by o.limit o.bytes, refl, met))
  met_serves after now old mid new InputFault a met = absurd met
  met_serves after now old mid new OutputFault a met =
      let w = some_by old mid new a met.unlimited met.written in
      serves_fault all old new 5 now refl refl (w.0, w.1, w.2, w.4)
  met_serves after now old mid new NoMemory a met = serves_fault all old new 6 now refl refl (front_by old mid new a met)
  met_serves after now old mid new Limit a met =
      let e = is ∙ ap (behind b) (after_limited o.limit o.turn o later met.said met.limit) in
      let w = front_by old mid new a ([], written_by o.limit o.bytes, refl, met.written) in
      let written = subst (Appends old new) (sym (ap (λ (x : Served). x.bytes) e)) (appends_both old mid new b [] a met.written) in
      record { front = w; whole = (sym (ap (λ (x : Served). x.status) e), written); kept = tt }
  met_serves after now old mid new BadHeader a met = absurd met

-- the message at which a session ended, and the session before it
pub record Ending (m : Meaning) (s : State) (now : State) (old new : Option (List ℕ)) (end : End) (all : Served) : Type 0 where
  pub phase : Phase
  pub after : Phase
  pub before : State
  pub content : List ℕ
  pub later : Served
  pub bytes : List ℕ
  pub mid : Option (List ℕ)
  pub is : all ≡ behind bytes (after_message (step m phase before content) later)
  pub written : Appends old mid bytes
  pub met : IsMet (step m phase before content) after now mid new (Some end)

pub ending : (m : Meaning) (s : State) (stream read : List ℕ) (now : State) (old new : Option (List ℕ)) (end : End) (all : Served) → Front stream read → EndsAt m s read now old new end → IsSession m s stream all → FolderTells m s stream → Ending m s now old new end all
ending m s stream read now old new end all f e x t =
    let cs = e.contents ++ e.content ∷ [] in
    let g = goes m s stream read e.rest cs all f e.frames x in
    let k = e.gone (tells m s stream read e.rest cs f e.frames t) in
    let o = step m k.0 k.2 e.content in
    record {
      phase = k.0;
      after = k.1;
      before = k.2;
      content = e.content;
      later = served m o.phase o.state g.later g.over g.kind;
      bytes = k.4.0;
      mid = k.3;
      is = g.is ∙ ap (λ l. served m Uninitialized s l g.over g.kind) (append_assoc e.contents (e.content ∷ []) g.later) ∙ gone_served m Uninitialized s e.contents k.4.0 k.0 k.2 k.4.1 (e.content ∷ g.later) g.over g.kind;
      written = k.4.2;
      met = k.5;
    }

at_serves : (m : Meaning) (s : State) (stream read : List ℕ) (now : State) (old new : Option (List ℕ)) (end : End) (all : Served) → Front stream read → EndsAt m s read now old new end → IsSession m s stream all → FolderTells m s stream → Serves all (status_of end) now old new
at_serves m s stream read now old new end all f e x t =
    let k = ending m s stream read now old new end all f e x t in
    met_serves (step m k.phase k.before k.content) k.bytes k.later all k.is k.after now old k.mid new end k.written k.met

-- ---- behind all messages

refused_serves : (m : Meaning) (s : State) (stream read : List ℕ) (held : Held) (phase : Phase) (now : State) (old new : Option (List ℕ)) (end : End) (all : Served) (a : HasAnswered m s read held phase now old new) → Front stream read → (kind : Rest) → ((tail : List ℕ) → IsRest (held.waiting ++ tail) kind) → ((over : Bool) → end_status phase over kind ≡ status_of end) → IsSession m s stream all → FolderTells m s stream → Serves all (status_of end) now old new
refused_serves m s stream read held phase now old new end all a f kind stays status x t =
    let g = goes m s stream read held.waiting a.contents all f a.given.frames x in
    let w = a.gone (tells m s stream read held.waiting a.contents f a.given.frames t) in
    let e = goes_no_further m s a.contents held.waiting all kind g (stays g.tail) ∙ ap (λ l. served m Uninitialized s l g.over kind) (append-nil a.contents) ∙ gone_all m Uninitialized s a.contents w.0 phase now w.1 g.over kind ∙ ap (λ n. came_to w.0 n now) (status g.over) in
    serves_all all old new w.0 (status_of end) now e w.2

behind_serves : (m : Meaning) (s : State) (stream read : List ℕ) (held : Held) (phase : Phase) (now : State) (old new : Option (List ℕ)) (end : End) (all : Served) → Front stream read → EndsBehind m s read held phase now old new end → IsSession m s stream all → FolderTells m s stream → Serves all (status_of end) now old new
behind_serves m s stream read held phase now old new (Done status) all f e x t = absurd e.refused
behind_serves m s stream read held phase now old new FolderFault all f e x t = absurd e.refused
behind_serves m s stream read held phase now old new InputFault all f e x t = absurd e.refused
behind_serves m s stream read held phase now old new OutputFault all f e x t = absurd e.refused
behind_serves m s stream read held phase now old new NoMemory all f e x t = absurd e.refused
behind_serves m s stream read held phase now old new Limit all f e x t =
    refused_serves m s stream read held phase now old new Limit all e.answered f (Long e.refused.0) (λ tail. too_long_stays held.waiting tail e.refused.0 e.refused.1) (λ over. refl) x t
behind_serves m s stream read held phase now old new BadHeader all f e x t =
    refused_serves m s stream read held phase now old new BadHeader all e.answered f (Broken e.refused.0) (λ tail. bad_stays held.waiting tail e.refused.0 e.refused.1) (λ over. refl) x t

-- ---- the input was not read to its end

pub answered_front : (m : Meaning) (s : State) (stream read : List ℕ) (held : Held) (phase : Phase) (now : State) (old new : Option (List ℕ)) (all : Served) → HasAnswered m s read held phase now old new → Front stream read → IsSession m s stream all → FolderTells m s stream → AppendsFront old new all.bytes
answered_front m s stream read held phase now old new all a f x t =
    let g = goes m s stream read held.waiting a.contents all f a.given.frames x in
    let w = a.gone (tells m s stream read held.waiting a.contents f a.given.frames t) in
    let later = served m phase now g.later g.over g.kind in
    (w.0, later.bytes, ap (λ (y : Served). y.bytes) (g.is ∙ gone_served m Uninitialized s a.contents w.0 phase now w.1 g.later g.over g.kind), w.2)

unfed_serves : (m : Meaning) (s : State) (stream read : List ℕ) (now : State) (old new : Option (List ℕ)) (end : End) (all : Served) → Front stream read → EndsUnfed m s read now old new end → IsSession m s stream all → FolderTells m s stream → Serves all (status_of end) now old new
unfed_serves m s stream read now old new end all f e x t =
    let short : Front stream e.front = record { more = e.more ++ f.more; split = f.split ∙ ap (λ l. l ++ f.more) e.split ∙ append_assoc e.front e.more f.more; few = omega (arith, f.few, ap length e.split, length-append e.front e.more) } in
    let P : End → Type 0 = λ d. Serves all (status_of d) now old new in
    subst P (sym e.unfed) (serves_fault all old new 6 now refl refl (answered_front m s stream e.front e.held e.phase now old new all e.answered short x t))

pub taken_serves : (m : Meaning) (s : State) (stream read : List ℕ) (held : Held) (phase : Phase) (now : State) (old new : Option (List ℕ)) (end : End) (all : Served) → Front stream read → IsTaken m s read held phase now old new (Some end) → IsSession m s stream all → FolderTells m s stream → Serves all (status_of end) now old new
taken_serves m s stream read held phase now old new end all f e x t =
    ⊎_elim (λ a. at_serves m s stream read now old new end all f a x t)
    (λ q.
    ⊎_elim (λ a. behind_serves m s stream read held phase now old new end all f a x t) (λ a. unfed_serves m s stream read now old new end all f a x t) q) e

-- ---- all that is looked at was read

pub closed_serves : (m : Meaning) (s : State) (stream read : List ℕ) (held : Held) (phase : Phase) (now : State) (old new : Option (List ℕ)) (kind : Rest) (over : Bool) (status : ℕ) (all : Served) → HasAnswered m s read held phase now old new → IsRest held.waiting kind → take most_input stream ≡ read → ltb most_input (length stream) ≡ over → status ≡ end_status phase over kind → IsSession m s stream all → FolderTells m s stream → Serves all status now old new
closed_serves m s stream read held phase now old new kind over status all a is looked e same x t =
    let apart : IsApart read a.contents held.waiting kind = record { frames = a.given.frames; behind = is } in
    let w = a.gone (tells_by m s stream read held.waiting a.contents kind looked apart t) in
    serves_all all old new w.0 status now (session_by m s stream read held.waiting a.contents kind over all looked e apart x ∙ gone_all m Uninitialized s a.contents w.0 phase now w.1 over kind ∙ ap (λ n. came_to w.0 n now) (sym same)) w.2

-- what waits is nothing, or has begun
pub record Undecided (waiting : List ℕ) : Type 0 where
  pub kind : Rest
  pub is : IsRest waiting kind
  pub undecided : IsUndecided kind

pub undecided : (waiting : List ℕ) → IsPart waiting → Undecided waiting
undecided waiting p =
    ⊎_elim (λ none. record { kind = Nothing; is = none; undecided = tt }) (λ begun. record { kind = Begun; is = begun; undecided = tt }) p

pub over_status : (phase : Phase) (kind : Rest) → IsUndecided kind → 7 ≡ end_status phase true kind
over_status phase Nothing u = refl
over_status phase Begun u = refl
over_status phase (Long said) u = absurd u
over_status phase (Broken place) u = absurd u

-- the input ended there
pub record Closing (waiting : List ℕ) (phase : Phase) (status : ℕ) : Type 0 where
  pub kind : Rest
  pub is : IsRest waiting kind
  pub same : status ≡ end_status phase false kind

closes_between : (shut inside : Bool) (phase : Phase) → (IsTrue shut ↔ (phase ≡ Stopped)) → (IsTrue inside → ⊥) → status_of (end_of_input shut inside) ≡ end_status phase false Nothing
closes_between true true phase s i = absurd (i refl)
closes_between true false phase s i = ap (λ p. end_status p false Nothing) (sym (s.0 refl))
closes_between false inside Stopped s i = absurd (false≢true (s.1 refl))
closes_between false inside Running s i = refl
closes_between false inside Uninitialized s i = refl

closes_inside : (shut inside : Bool) (phase : Phase) → IsTrue inside → status_of (end_of_input shut inside) ≡ end_status phase false Begun
closes_inside true true phase i = refl
closes_inside true false phase i = absurd (false≢true i)
closes_inside false inside phase i = refl

pub closes : (waiting : List ℕ) (shut inside : Bool) (phase : Phase) → IsPart waiting → (IsTrue shut ↔ (phase ≡ Stopped)) → (IsTrue inside ↔ EndsInside waiting) → Closing waiting phase (status_of (end_of_input shut inside))
closes waiting shut inside phase p s i =
    ⊎_elim
    (λ none.
    record {
      kind = Nothing;
      is = none;
      same = closes_between shut inside phase s (λ t. nothing_inside waiting none (i.0 t));
    })
    (λ begun.
    record {
      kind = Begun;
      is = begun;
      same = closes_inside shut inside phase (i.1 (inside_unfinished waiting begun));
    }) p
