-- Each message is answered before the input is read further.
use Rattle.std.proofs.Common.{◌≡◌, ℕ, ◌≤◌, false, List, [], ◌∷◌, ◌++◌, length, Option, Some, ⊎_elim, refl, sym, ap, ◌∙◌, subst, arith}
use Rattle.std.specs.Io.KnownBytes.{Appends}
use Rattle.std.proofs.lemmas.List.{append-nil, take_all}
use Rattle.std.proofs.lemmas.Bool.{le-ltb}
use Rattle.tool_output.specs.Output.{AppendsSome}
use Rattle.tool_output.proofs.Appending.{appends_both}
use Rattle.rpc_frame.specs.Framing.{Held}
use Rattle.rpc_frame.specs.Streams.{Nothing, IsApart}
use Rattle.rpc_frame.proofs.Streams.{one_apart}
use Rattle.lsp_answers.specs.States.{State, Meaning}
use Rattle.lsp_session.specs.declared.phase.Phase.{Phase}
use Rattle.lsp_session.specs.declared.phase.Phase.TheVariants.{Uninitialized}
use Rattle.lsp_serve.specs.declared.ends.End.{End}
use Rattle.lsp_serve.specs.declared.ends.End.TheVariants.{Done, FolderFault, InputFault, OutputFault, NoMemory, Limit, BadHeader}
use Rattle.lsp_serve.specs.Ends.{status_of, IsOfBytes}
use Rattle.lsp_serve.specs.InTime.{IsUndecided, AllGoOn, LeadsOn, AppendsMore, StopsBefore, before_last, IsInTime}
use Rattle.lsp_serve.specs.Serving.{most_input, Served, step, IsSession, FolderTells}
use Rattle.lsp_serve.specs.Walk.{HasAnswered, HasWritten, IsPart, EndsAt, IsTaken}
use Rattle.lsp_serve.proofs.Gone.{gone_on, gone_all}
use Rattle.lsp_serve.proofs.Sessions.{Front, tells, session_by}
use Rattle.lsp_serve.proofs.Ended.{undecided, ending, some_by}

-- what is said of the faults alone
pub record Faults (m : Meaning) (s : State) (read : List ℕ) (status : ℕ) (old new : Option (List ℕ)) : Type 0 where
  pub input_fault : status ≡ 4 → (all : Served) → IsSession m s read all → Appends old new all.bytes
  pub output_fault : status ≡ 5 → (all : Served) → IsSession m s read all → AppendsSome old new all.bytes
  pub folder_fault : status ≡ 3 → StopsBefore m s read old new

module _ (m : Meaning) (s : State) where
  -- ---- what was read before

  module _ (before : List ℕ) (held : Held) (phase : Phase) (now : State) (old mid : Option (List ℕ)) (a : HasAnswered m s before held phase now old mid) (part : IsPart held.waiting) (few : length before ≤ most_input) where
    written_before : HasWritten m s a.contents phase now old mid → (all : Served) → IsSession m s before all → Appends old mid all.bytes
    written_before w all x =
        let u = undecided held.waiting part in
        let apart : IsApart before a.contents held.waiting u.kind = record { frames = a.given.frames; behind = u.is } in
        let e = session_by m s before before held.waiting a.contents u.kind false all (take_all most_input before few) (le-ltb most_input (length before) few) apart x ∙ gone_all m Uninitialized s a.contents w.0 phase now w.1 false u.kind in
        subst (Appends old mid) (sym (ap (λ (y : Served). y.bytes) e)) w.2

    leads_on : HasWritten m s a.contents phase now old mid → LeadsOn m s before
    leads_on w = λ contents rest kind x.
        let u = undecided held.waiting part in
        let e = one_apart before rest held.waiting contents a.contents kind u.kind x (record { frames = a.given.frames; behind = u.is }) in
        (subst (AllGoOn m Uninitialized s) (sym e.0) (gone_on m Uninitialized s a.contents w.0 phase now w.1), subst IsUndecided (sym e.2) u.undecided)

    front_tells : (read : List ℕ) → Front read before → FolderTells m s read → HasWritten m s a.contents phase now old mid
    front_tells read f t = a.gone (tells m s read before held.waiting a.contents f a.given.frames t)

    -- the last read came behind it
    pub in_time : (read : List ℕ) (last status : ℕ) (new : Option (List ℕ)) → Front read before → before_last last read ≡ before → AppendsMore mid new [] → FolderTells m s read → Faults m s read status old new → IsInTime m s read last status old new
    in_time read last status new f is more t faults =
        let w = front_tells read f t in
        let L : List ℕ → Type 0 = λ l. LeadsOn m s l in
        let A : List ℕ → Type 0 = λ l. (all : Served) → IsSession m s l all → AppendsMore old new all.bytes in
        record {
          leads_on = subst L (sym is) (leads_on w);
          answered = subst A (sym is) (λ all x. (more.0, appends_both old mid new all.bytes more.0 (written_before w all x) more.1));
          input_fault = faults.input_fault;
          output_fault = faults.output_fault;
          folder_fault = faults.folder_fault;
        }

    -- the input failed behind it
    pub input_faults : FolderTells m s before → Faults m s before 4 old mid
    input_faults t =
        let f : Front before before = record { more = []; split = sym (append-nil before); few = few } in
        record {
          input_fault = λ e all x. written_before (front_tells before f t) all x;
          output_fault = λ e. absurd (omega (arith, e));
          folder_fault = λ e. absurd (omega (arith, e));
        }

  -- ---- ends that are no faults of objects

  pub no_faults : (read : List ℕ) (status : ℕ) (old new : Option (List ℕ)) → (status ≡ 3 → ⊥) → (status ≡ 4 → ⊥) → (status ≡ 5 → ⊥) → Faults m s read status old new
  no_faults read status old new a b c =
      record {
        input_fault = λ e. absurd (b e);
        output_fault = λ e. absurd (c e);
        folder_fault = λ e. absurd (a e);
      }

  -- ---- ends that the bytes lead to

  not_input : (end : End) → IsOfBytes (Some end) → status_of end ≡ 4 → ⊥
  not_input (Done status) p e = ⊎_elim (λ q. omega (arith, q, e)) (λ q. omega (arith, q, e)) p
  not_input FolderFault p e = omega (arith, e)
  not_input InputFault p e = p
  not_input OutputFault p e = omega (arith, e)
  not_input NoMemory p e = omega (arith, e)
  not_input Limit p e = omega (arith, e)
  not_input BadHeader p e = omega (arith, e)

  is_output : (end : End) → IsOfBytes (Some end) → status_of end ≡ 5 → end ≡ OutputFault
  is_output (Done status) p e = absurd (⊎_elim (λ q. omega (arith, q, e)) (λ q. omega (arith, q, e)) p)
  is_output FolderFault p e = absurd (omega (arith, e))
  is_output InputFault p e = absurd p
  is_output OutputFault p e = refl
  is_output NoMemory p e = absurd (omega (arith, e))
  is_output Limit p e = absurd (omega (arith, e))
  is_output BadHeader p e = absurd (omega (arith, e))

  is_folder : (end : End) → IsOfBytes (Some end) → status_of end ≡ 3 → end ≡ FolderFault
  is_folder (Done status) p e = absurd (⊎_elim (λ q. omega (arith, q, e)) (λ q. omega (arith, q, e)) p)
  is_folder FolderFault p e = refl
  is_folder InputFault p e = absurd p
  is_folder OutputFault p e = absurd (omega (arith, e))
  is_folder NoMemory p e = absurd (omega (arith, e))
  is_folder Limit p e = absurd (omega (arith, e))
  is_folder BadHeader p e = absurd (omega (arith, e))

  module _ (read : List ℕ) (held : Held) (phase : Phase) (now : State) (old new : Option (List ℕ)) where
    at_output : IsTaken m s read held phase now old new (Some OutputFault) → EndsAt m s read now old new OutputFault
    at_output t = ⊎_elim (λ a. a) (λ q. ⊎_elim (λ a. absurd a.refused) (λ a. absurd (no_output a.unfed)) q) t
      where
        no_output : OutputFault ≡ NoMemory → ⊥
        no_output e = cc

    at_folder : IsTaken m s read held phase now old new (Some FolderFault) → EndsAt m s read now old new FolderFault
    at_folder t = ⊎_elim (λ a. a) (λ q. ⊎_elim (λ a. absurd a.refused) (λ a. absurd (no_folder a.unfed)) q) t
      where
        no_folder : FolderFault ≡ NoMemory → ⊥
        no_folder e = cc

    module _ (f : Front read read) (t : FolderTells m s read) where
      cut : EndsAt m s read now old new OutputFault → (all : Served) → IsSession m s read all → AppendsSome old new all.bytes
      cut e all x =
          let k = ending m s read read now old new OutputFault all f e x t in
          some_by (step m k.phase k.before k.content) k.bytes k.later all k.is old k.mid new k.written k.met.unlimited k.met.written

      stops : EndsAt m s read now old new FolderFault → StopsBefore m s read old new
      stops e =
          let k = e.gone (tells m s read read e.rest (e.contents ++ e.content ∷ []) f e.frames t) in
          let w = k.4 in
          let b = appends_both old k.3 new w.0 [] w.2 k.5 in
          let all = gone_all m Uninitialized s e.contents w.0 k.0 k.2 w.1 false Nothing in
          record {
            contents = e.contents;
            content = e.content;
            rest = e.rest;
            frames = e.frames;
            go_on = gone_on m Uninitialized s e.contents w.0 k.0 k.2 w.1;
            written = subst (Appends old new) (append-nil w.0 ∙ sym (ap (λ (y : Served). y.bytes) all)) b;
          }

      pub taken_faults : (end : End) → IsOfBytes (Some end) → IsTaken m s read held phase now old new (Some end) → Faults m s read (status_of end) old new
      taken_faults end p taken =
          let T : End → Type 0 = λ d. IsTaken m s read held phase now old new (Some d) in
          record {
            input_fault = λ e. absurd (not_input end p e);
            output_fault = λ e. cut (at_output (subst T (is_output end p e) taken));
            folder_fault = λ e. stops (at_folder (subst T (is_folder end p e) taken));
          }
