-- A folder that goes on telling.
use Rattle.std.proofs.Common.{◌≡◌, ℕ, ℤ, List, [], ◌∷◌, Option, Some, None, IsSome}
use Rattle.lsp_wire.specs.Messages.{message_in}
use Rattle.lsp_wire.specs.declared.types.Id.{Id}
use Rattle.lsp_wire.specs.declared.types.Call.{Call}
use Rattle.lsp_wire.specs.declared.types.Call.TheVariants.{Initialize, Shutdown, Definition, References, Symbols, BadParams, Unknown}
use Rattle.lsp_wire.specs.declared.types.Notice as told
use Rattle.lsp_wire.specs.declared.types.Notice.TheVariants.{Exit, Open, Change, Close, Files, Other}
use Rattle.lsp_wire.specs.declared.types.Incoming.{Incoming}
use Rattle.lsp_wire.specs.declared.types.Incoming.TheVariants.{Request, Notice, Dropped, Invalid}
use Rattle.lsp_answers.specs.States.{State, After, Meaning, judged, judged_reads, unless_limit, limit_of, first_too_long}
use Rattle.lsp_session.specs.declared.phase.Phase.{Phase}
use Rattle.lsp_session.specs.declared.phase.Phase.TheVariants.{Uninitialized, Running, Stopped}
use Rattle.lsp_session.specs.declared.phase.Turn.{Turn}
use Rattle.lsp_session.specs.declared.phase.Turn.TheVariants.{On, Ended}
use Rattle.lsp_session.specs.SessionOutput.{Tells, TellsRequested, TellsNotified, handled, refusal, requested_by, answered, told_running, told_idle, notified}
use Rattle.lsp_serve.specs.Serving.{step, StepTells, Behind, AllTell, FolderTells, KeepsTelling}

abbrev Told : State → Type 0
Told s = IsSome s.folder

-- ---- where it is asked

told_requested : (code : Option ℤ) (s : State) (call : Call) → Told s → TellsRequested code s call
told_requested (Some code) s call t = tt
told_requested None s (Initialize root) t = t
told_requested None s Shutdown t = tt
told_requested None s (Definition uri at) t = tt
told_requested None s (References uri at declared) t = tt
told_requested None s (Symbols uri) t = tt
told_requested None s BadParams t = tt
told_requested None s Unknown t = tt

told_notified : (p : Phase) (s : State) (n : told.Notice) → Told s → TellsNotified p s n
told_notified Uninitialized s n t = tt
told_notified Stopped s n t = tt
told_notified Running s Exit t = tt
told_notified Running s (Open uri text) t = tt
told_notified Running s (Change uri changes) t = tt
told_notified Running s (Close uri) t = t
told_notified Running s (Files events) t = t
told_notified Running s Other t = tt

told_asked : (p : Phase) (s : State) (message : Incoming) → Told s → Tells p s message
told_asked p s (Request id call) t = told_requested (refusal p call) s call t
told_asked p s (Notice n) t = told_notified p s n t
told_asked p s Dropped t = tt
told_asked p s (Invalid code id) t = tt

-- ---- behind a message

told_unless : (said : Option ℕ) (s : State) (after : After) → Told s → Told after.state → Told (unless_limit said s after).state
told_unless None s after t u = u
told_unless (Some said) s after t u = t

module _ (m : Meaning) (k : KeepsTelling m) where
  told_reads : (s : State) (names : List (List ℕ)) → Told s → Told (judged_reads m.after_read s names).state
  told_reads s [] t = t
  told_reads s (name ∷ names) t =
      told_unless (limit_of s) s (judged_reads m.after_read (m.after_read s name) names) t (told_reads (m.after_read s name) names (k.read s name t))

  told_answered : (s : State) (id : Id) (call : Call) → Told s → Told (answered m s id call).state
  told_answered s id (Initialize root) t = told_reads (m.after_root s root) (m.root_modules s root) (k.root s root t)
  told_answered s id Shutdown t = t
  told_answered s id (Definition uri at) t = t
  told_answered s id (References uri at declared) t = t
  told_answered s id (Symbols uri) t = t
  told_answered s id BadParams t = t
  told_answered s id Unknown t = t

  told_behind_request : (code : Option ℤ) (p : Phase) (s : State) (id : Id) (call : Call) → Told s → Told (requested_by code m p s id call).state
  told_behind_request None p s id call t = told_answered s id call t
  told_behind_request (Some code) p s id call t = t

  told_behind_running : (s : State) (n : told.Notice) → Told s → Told (told_running m s n).state
  told_behind_running s Exit t = t
  told_behind_running s (Open uri text) t = k.opens s uri text t
  told_behind_running s (Change uri changes) t =
      told_unless (first_too_long (m.changed_texts s uri changes)) s (judged (m.after_change s uri changes)) t (k.changes s uri changes t)
  told_behind_running s (Close uri) t = k.closes s uri t
  told_behind_running s (Files events) t = k.files s events t
  told_behind_running s Other t = t

  told_behind_idle : (p : Phase) (s : State) (n : told.Notice) → Told s → Told (told_idle p s n).state
  told_behind_idle p s Exit t = t
  told_behind_idle p s (Open uri text) t = t
  told_behind_idle p s (Change uri changes) t = t
  told_behind_idle p s (Close uri) t = t
  told_behind_idle p s (Files events) t = t
  told_behind_idle p s Other t = t

  told_behind_notice : (p : Phase) (s : State) (n : told.Notice) → Told s → Told (notified m p s n).state
  told_behind_notice Uninitialized s n t = told_behind_idle Uninitialized s n t
  told_behind_notice Running s n t = told_behind_running s n t
  told_behind_notice Stopped s n t = told_behind_idle Stopped s n t

  told_behind : (p : Phase) (s : State) (message : Incoming) → Told s → Told (handled m p s message).state
  told_behind p s (Request id call) t = told_behind_request (refusal p call) p s id call t
  told_behind p s (Notice n) t = told_behind_notice p s n t
  told_behind p s Dropped t = t
  told_behind p s (Invalid code id) t = t

  step_tells : (p : Phase) (s : State) (content : List ℕ) → Told s → StepTells p s content
  unfolding StepTells
  step_tells p s content t = told_asked p s (message_in content) t

  step_keeps : (p : Phase) (s : State) (content : List ℕ) → Told s → Told (step m p s content).state
  unfolding step
  step_keeps p s content t = told_behind p s (message_in content) t

  tells_then : (l : Option ℕ) (turn : Turn) (P : Type 0) → P → Behind l turn P
  tells_then None On P p = p
  tells_then None (Ended status) P p = tt
  tells_then (Some said) turn P p = tt

  all_tell : (p : Phase) (s : State) (contents : List (List ℕ)) → Told s → AllTell m p s contents
  all_tell p s [] t = tt
  all_tell p s (c ∷ contents) t =
      let o = step m p s c in
      (step_tells p s c t, tells_then o.limit o.turn _ (all_tell o.phase o.state contents (step_keeps p s c t)))

pub folder_tells : (m : Meaning) (s : State) (stream : List ℕ) → KeepsTelling m → Told s → FolderTells m s stream
folder_tells m s stream k t = λ contents rest kind a. all_tell m k Uninitialized s contents t
