-- What was read of an input, and what is said of it when the session ends.
use Rattle.std.proofs.Common.{◌≡◌, ℕ, ◌+◌, ◌-◌, ◌^◌, ◌<◌, ◌≤◌, ⊎_elim, inl, zero, suc, lit<, Bool, true, false, List, [], ◌++◌, length, take, Option, Some, None, IfSome, refl, sym, ap, ◌∙◌, subst, append_assoc, length-append, arith}
use Rattle.std.specs.Io.KnownBytes.{Consumes, Keeps, IsAtEnd}
use Rattle.std.proofs.KnownBytes.{Consumes-nil, Consumes-trans, Consumes-kept}
use Rattle.std.proofs.lemmas.List.{append-nil, take_all, length-take-le}
use Rattle.std.proofs.lemmas.Bool.{lt-ltb, le-ltb}
use Rattle.std.proofs.Math.Seq.{take-append_seam}
use Rattle.tool_output.proofs.Appending.{appends_nothing}
use Rattle.rpc_frame.specs.Framing.{Held, HasGiven}
use Rattle.rpc_frame.proofs.OneReading.{unfinished_short}
use Rattle.lsp_answers.specs.States.{State, Meaning}
use Rattle.lsp_session.specs.declared.phase.Phase.{Phase}
use Rattle.lsp_session.specs.declared.phase.Phase.TheVariants.{Uninitialized}
use Rattle.lsp_serve.specs.declared.ends.End.{End}
use Rattle.lsp_serve.specs.Ends.{status_of, end_of_input, IsOfBytes, ServesInput}
use Rattle.lsp_serve.specs.InTime.{AppendsMore, before_last, IsInTime, ReadsInTime}
use Rattle.lsp_serve.specs.Serving.{most_input, FolderTells}
use Rattle.lsp_serve.specs.Walk.{HasAnswered, IsPart, IsTaken}
use Rattle.lsp_serve.proofs.Ended.{undecided, Closing, over_status, serves_fault, answered_front, taken_serves, closed_serves}
use Rattle.lsp_serve.proofs.Timely.{Faults, in_time, input_faults, no_faults, taken_faults}

-- ---- lists

before_piece : (front piece : List ℕ) (last : ℕ) → last ≡ length piece → before_last last (front ++ piece) ≡ front
before_piece front piece last e =
    let k : length (front ++ piece) - last ≡ length front = omega (arith, length-append front piece, e) in
    ap (λ n. take n (front ++ piece)) k ∙ take-append_seam front piece

before_all : (read : List ℕ) (last : ℕ) → last ≡ 0 → before_last last read ≡ read
before_all read last e =
    let k : length read - last ≡ length read = omega (arith, e) in take_all (length read - last) read (omega (arith, k))

if_some : {T : Type 0} (o : Option T) (P Q : Type 0) → (P → Q) → IfSome o (λ _. P) → IfSome o (λ _. Q)
if_some None P Q f p = tt
if_some (Some x) P Q f p = f p

if_any : {T : Type 0} (o : Option T) (P : Type 0) → P → IfSome o (λ _. P)
if_any None P p = tt
if_any (Some x) P p = p

-- an input that tells gave what was read, and has the rest left
serves_input : (m : Meaning) (s : State) (left now : Option (List ℕ)) (read : List ℕ) (status : ℕ) (state : State) (old new : Option (List ℕ)) → Consumes left now read → ((rest stream : List ℕ) → now ≡ Some rest → stream ≡ read ++ rest → ServesInput m s (Some stream) status state old new) → ServesInput m s left status state old new
serves_input m s None now read status state old new c each = tt
serves_input m s (Some stream) None read status state old new c each = absurd c
serves_input m s (Some stream) (Some rest) read status state old new c each = each rest stream refl c

at_end : (now : Option (List ℕ)) (rest : List ℕ) → IsAtEnd now → now ≡ Some rest → rest ≡ []
at_end None rest is e = cc
at_end (Some xs) rest is e = sym (same_rest e) ∙ is
  where
    same_rest : Some xs ≡ Some rest → xs ≡ rest
    same_rest e = cc

module _ (m : Meaning) (s : State) (left mid : Option (List ℕ)) (front : List ℕ) (held : Held) (phase : Phase) (state : State) (first last : Option (List ℕ)) (consumed : Consumes left mid front) (a : HasAnswered m s front held phase state first last) (few : length front ≤ most_input) where
  -- the input ended
  pub end_serves : (now : Option (List ℕ)) (status : ℕ) → Consumes mid now [] → IsAtEnd now → Closing held.waiting phase status → ServesInput m s left status state first last
  end_serves now status c is k =
      serves_input m s left now (front ++ []) status state first last (Consumes-trans left mid now front [] consumed c)
      (λ rest stream e split all x t.
      let whole : stream ≡ front = split ∙ ap (λ l. (front ++ []) ++ l) (at_end now rest is e) ∙ append-nil (front ++ []) ∙ append-nil front in
      let small : length stream ≤ most_input = omega (arith, few, ap length whole) in
      closed_serves m s stream front held phase state first last k.kind false status all a k.is (take_all most_input stream small ∙ whole) (le-ltb most_input (length stream) small) k.same x t)

  -- the input failed
  pub fault_serves : (now : Option (List ℕ)) → Keeps mid now → ServesInput m s left 4 state first last
  fault_serves now c =
      serves_input m s left now front 4 state first last (Consumes-kept left mid now front consumed c)
      (λ rest stream e split all x t.
      serves_fault all first last 4 state refl refl (answered_front m s stream front held phase state first last all a (record { more = rest; split = split; few = few }) x t))

  -- more came than is looked at
  pub over_serves : (now : Option (List ℕ)) (piece : List ℕ) → Consumes mid now piece → 0 < length piece → length front ≡ most_input → IsPart held.waiting → ServesInput m s left 7 state first last
  over_serves now piece c some full part =
      let u = undecided held.waiting part in
      serves_input m s left now (front ++ piece) 7 state first last (Consumes-trans left mid now front piece consumed c)
      (λ rest stream e split all x t.
      let whole : stream ≡ front ++ (piece ++ rest) = split ∙ append_assoc front piece rest in
      let looked : take most_input stream ≡ front = ap (λ l. take most_input l) whole ∙ ap (λ n. take n (front ++ (piece ++ rest))) (sym full) ∙ take-append_seam front (piece ++ rest) in
      let large : most_input < length stream = omega (arith, some, full, ap length whole, length-append front (piece ++ rest), length-append piece rest) in
      closed_serves m s stream front held phase state first last u.kind true 7 all a u.is looked (lt-ltb most_input (length stream) large) (over_status phase u.kind u.undecided) x t)

  module _ (part : IsPart held.waiting) where
    -- nothing was read behind it
    reads_none : (now : Option (List ℕ)) (status n : ℕ) → Consumes left now front → IfSome now (λ _. n ≡ 0) → (FolderTells m s front → Faults m s front status first last) → ReadsInTime m s left now n status first last
    reads_none now status n c gave faults =
        (front, c, if_some now (n ≡ 0) (FolderTells m s front → IsInTime m s front n status first last) (λ e t. in_time m s front held phase state first last a part few front n status last (record { more = []; split = sym (append-nil front); few = few }) (before_all front n e) ([], appends_nothing last) t (faults t)) gave)

    -- the input ended, which is no fault
    pub end_in_time : (now : Option (List ℕ)) (status n : ℕ) → Consumes mid now [] → IfSome now (λ _. n ≡ 0) → status < 3 → ReadsInTime m s left now n status first last
    end_in_time now status n c gave plain =
        let joined : Consumes left now front = subst (Consumes left now) (append-nil front) (Consumes-trans left mid now front [] consumed c) in
        reads_none now status n joined gave (λ t. no_faults m s front status first last (λ e. omega (arith, plain, e)) (λ e. omega (arith, plain, e)) (λ e. omega (arith, plain, e)))

    pub fault_in_time : (now : Option (List ℕ)) (n : ℕ) → Keeps mid now → IfSome now (λ _. n ≡ 0) → ReadsInTime m s left now n 4 first last
    fault_in_time now n c gave =
        reads_none now 4 n (Consumes-kept left mid now front consumed c) gave (λ t. input_faults m s front held phase state first last a part few t)

    -- a piece was read behind it
    reads_piece : (now : Option (List ℕ)) (piece : List ℕ) (status n : ℕ) (new : Option (List ℕ)) → Consumes mid now piece → IfSome now (λ _. n ≡ length piece) → AppendsMore last new [] → (FolderTells m s (front ++ piece) → Faults m s (front ++ piece) status first new) → ReadsInTime m s left now n status first new
    reads_piece now piece status n new c gave more faults =
        let read = front ++ piece in
        (read, Consumes-trans left mid now front piece consumed c, if_some now (n ≡ length piece) (FolderTells m s read → IsInTime m s read n status first new) (λ e t. in_time m s front held phase state first last a part few read n status new (record { more = piece; split = refl; few = few }) (before_piece front piece n e) more t (faults t)) gave)

    pub over_in_time : (now : Option (List ℕ)) (piece : List ℕ) (n : ℕ) → Consumes mid now piece → IfSome now (λ _. n ≡ length piece) → ReadsInTime m s left now n 7 first last
    over_in_time now piece n c gave =
        reads_piece now piece 7 n last c gave ([], appends_nothing last) (λ t. no_faults m s (front ++ piece) 7 first last (λ e. omega (arith, e)) (λ e. omega (arith, e)) (λ e. omega (arith, e)))

    -- what was read ended the session
    pub taken_in_time : (now : Option (List ℕ)) (piece : List ℕ) (n : ℕ) (newer : Held) (phase' : Phase) (state' : State) (new : Option (List ℕ)) (end : End) → Consumes mid now piece → IfSome now (λ _. n ≡ length piece) → AppendsMore last new [] → length (front ++ piece) ≤ most_input → IsOfBytes (Some end) → IsTaken m s (front ++ piece) newer phase' state' first new (Some end) → ReadsInTime m s left now n (status_of end) first new
    taken_in_time now piece n newer phase' state' new end c gave more small ends taken =
        let read = front ++ piece in
        reads_piece now piece (status_of end) n new c gave more (λ t. taken_faults m s read newer phase' state' first new (record { more = []; split = sym (append-nil read); few = small }) t end ends taken)

  pub taken_serves_input : (now : Option (List ℕ)) (piece : List ℕ) (newer : Held) (phase' : Phase) (state' : State) (new : Option (List ℕ)) (end : End) → Consumes mid now piece → length (front ++ piece) ≤ most_input → IsTaken m s (front ++ piece) newer phase' state' first new (Some end) → ServesInput m s left (status_of end) state' first new
  taken_serves_input now piece newer phase' state' new end c small taken =
      serves_input m s left now (front ++ piece) (status_of end) state' first new (Consumes-trans left mid now front piece consumed c)
      (λ rest stream e split all x t.
      taken_serves m s stream (front ++ piece) newer phase' state' first new end all (record { more = rest; split = split; few = small }) taken x t)

-- what waits is short
pub part_short : (waiting : List ℕ) → IsPart waiting → length waiting < 2 ^ 24 + 2 ^ 12
part_short waiting p = ⊎_elim (λ e. omega (arith, ap length e)) (λ u. unfinished_short waiting u) p

-- ---- before the first read

module _ (m : Meaning) (s : State) (left first : Option (List ℕ)) where
  pub starts : (held : Held) (phase : Phase) → held ≡ record { taken = 0; content = []; waiting = [] } → phase ≡ Uninitialized → HasAnswered m s [] held phase s first first × IsPart held.waiting
  starts held phase e f =
      let G : Held → Type 0 = λ h. HasGiven [] [] h in
      let P : Held → Type 0 = λ h. IsPart h.waiting in (
        record {
          contents = [];
          given = subst G (sym e) (record { frames = refl; counted = refl });
          gone = λ t. ([], (refl, f, refl), appends_nothing first);
        },
        subst P (sym e) (inl refl),
      )

  abbrev unfed : Held
  unfed = record { taken = 0; content = []; waiting = [] }

  -- there was no room for what is read
  pub nothing_serves : ServesInput m s left 6 s first first
  nothing_serves =
      serves_input m s left left [] 6 s first first (Consumes-nil left)
      (λ rest stream e split all x t.
      serves_fault all first first 6 s refl refl (answered_front m s stream [] unfed Uninitialized s first first all (starts unfed Uninitialized refl refl).0 (record { more = rest; split = split; few = omega arith }) x t))

  pub nothing_in_time : (last : ℕ) → ReadsInTime m s left left last 6 first first
  nothing_in_time last =
      let a = starts unfed Uninitialized refl refl in
      ([], Consumes-nil left, if_any left (FolderTells m s [] → IsInTime m s [] last 6 first first) (λ t. in_time m s [] unfed Uninitialized s first first a.0 a.1 (omega arith) [] last 6 first (record { more = []; split = refl; few = omega arith }) (take_all (0 - last) [] (omega arith)) ([], appends_nothing first) t (no_faults m s [] 6 first first (λ e. omega (arith, e)) (λ e. omega (arith, e)) (λ e. omega (arith, e)))))

-- ---- one read

pub end_read : (count : ℕ) (mid now : Option (List ℕ)) (buffer : List ℕ) → count ≡ 0 → 0 < length buffer → Consumes mid now (take count buffer) × (count ≡ 0 → 0 < length buffer → IsAtEnd now) → Consumes mid now [] × IsAtEnd now
end_read count mid now buffer e some h =
    let P : ℕ → Type 0 = λ n. Consumes mid now (take n buffer) in (subst P e h.0, h.1 e some)

pub gave_as : (now : Option (List ℕ)) (n a b : ℕ) → a ≡ b → IfSome now (λ _. n ≡ a) → IfSome now (λ _. n ≡ b)
gave_as now n a b e g = if_some now (n ≡ a) (n ≡ b) (λ q. q ∙ e) g

pub piece_long : (count : ℕ) (buffer : List ℕ) → count ≤ length buffer → count ≡ length (take count buffer)
piece_long count buffer few = sym (length-take-le count buffer few)

pub read_more : (left mid now : Option (List ℕ)) (front piece : List ℕ) → Consumes left mid front → Consumes mid now piece → Consumes left now (front ++ piece)
read_more left mid now front piece c d = Consumes-trans left mid now front piece c d

pub plain_end : (shut inside : Bool) → status_of (end_of_input shut inside) < 3
plain_end true true = lit< tt
plain_end true false = lit< tt
plain_end false inside = lit< tt

pub some_count : (count : ℕ) → (count ≡ 0 → ⊥) → 0 < count
some_count zero ne = absurd (ne refl)
some_count (suc n) ne = omega arith
