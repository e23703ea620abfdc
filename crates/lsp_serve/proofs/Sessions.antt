-- Sessions over streams, by the frames that the streams begin with.
use Rattle.std.proofs.Common.{◌≡◌, ℕ, ◌+◌, ◌-◌, ◌≤◌, Bool, ltb, List, [], ◌∷◌, ◌++◌, length, take, refl, sym, ap, ◌∙◌, subst, arith}
use Rattle.std.proofs.Math.Seq.{take-append-add}
use Rattle.rpc_frame.specs.Frames.{HasFrames}
use Rattle.rpc_frame.specs.Streams.{Rest, IsRest, IsApart}
use Rattle.rpc_frame.proofs.OneReading.{frames_fed}
use Rattle.rpc_frame.proofs.Streams.{comes_apart, one_apart}
use Rattle.lsp_answers.specs.States.{State, Meaning}
use Rattle.lsp_session.specs.declared.phase.Phase.TheVariants.{Uninitialized}
use Rattle.lsp_serve.specs.Serving.{most_input, Served, served, IsSession, AllTell, FolderTells}
use Rattle.lsp_serve.proofs.Gone.{tells_front}

-- ---- over each stream there is one session

pub comes : (m : Meaning) (s : State) (stream : List ℕ) → (all : Served) × IsSession m s stream all
comes m s stream =
    let c = comes_apart (take most_input stream) in
    (served m Uninitialized s c.0 (ltb most_input (length stream)) c.2, record { contents = c.0; rest = c.1; kind = c.2; apart = c.3; is = refl })

pub one : (m : Meaning) (s : State) (stream : List ℕ) (all other : Served) → IsSession m s stream all → IsSession m s stream other → all ≡ other
one m s stream all other x y =
    let e = one_apart (take most_input stream) x.rest y.rest x.contents y.contents x.kind y.kind x.apart y.apart in
    let over = ltb most_input (length stream) in
    x.is ∙ ap (λ l. served m Uninitialized s l over x.kind) e.0 ∙ ap (λ k. served m Uninitialized s y.contents over k) e.2 ∙ sym y.is

-- ---- by the frames of all that is looked at

pub session_by : (m : Meaning) (s : State) (stream looked rest : List ℕ) (contents : List (List ℕ)) (kind : Rest) (over : Bool) (all : Served) → take most_input stream ≡ looked → ltb most_input (length stream) ≡ over → IsApart looked contents rest kind → IsSession m s stream all → all ≡ served m Uninitialized s contents over kind
session_by m s stream looked rest contents kind over all e o a x =
    let P : List ℕ → Type 0 = λ l. IsApart l x.contents x.rest x.kind in
    let same = one_apart looked x.rest rest x.contents contents x.kind kind (subst P e x.apart) a in
    x.is ∙ ap (λ b. served m Uninitialized s x.contents b x.kind) o ∙ ap (λ l. served m Uninitialized s l over x.kind) same.0 ∙ ap (λ k. served m Uninitialized s contents over k) same.2

pub tells_by : (m : Meaning) (s : State) (stream looked rest : List ℕ) (contents : List (List ℕ)) (kind : Rest) → take most_input stream ≡ looked → IsApart looked contents rest kind → FolderTells m s stream → AllTell m Uninitialized s contents
tells_by m s stream looked rest contents kind e a t =
    let P : List ℕ → Type 0 = λ l. IsApart l contents rest kind in t contents rest kind (subst P (sym e) a)

-- ---- by the frames of its front

frames_join : (stream mid rest : List ℕ) (cs later : List (List ℕ)) → HasFrames stream cs mid → HasFrames mid later rest → HasFrames stream (cs ++ later) rest
frames_join stream mid rest [] later h k = let P : List ℕ → Type 0 = λ l. HasFrames l later rest in subst P (sym h) k
frames_join stream mid rest (c ∷ cs) later h k = (h.0, h.1, h.2, h.3, frames_join h.1 mid rest cs later h.4 k)

apart_behind : (read more rest rest' : List ℕ) (cs contents : List (List ℕ)) (kind : Rest) → HasFrames read cs rest → IsApart (read ++ more) contents rest' kind → (later : List (List ℕ)) × (contents ≡ cs ++ later) × IsApart (rest ++ more) later rest' kind
apart_behind read more rest rest' cs contents kind f a =
    let c = comes_apart (rest ++ more) in
    let joined : IsApart (read ++ more) (cs ++ c.0) c.1 c.2 = record { frames = frames_join (read ++ more) (rest ++ more) c.1 cs c.0 (frames_fed read more rest cs f) c.3.frames; behind = c.3.behind } in
    let e = one_apart (read ++ more) rest' c.1 contents (cs ++ c.0) kind c.2 a joined in
    let R : List ℕ → Type 0 = λ r. IsApart (rest ++ more) c.0 r c.2 in
    let K : Rest → Type 0 = λ k. IsApart (rest ++ more) c.0 rest' k in
    (c.0, e.0, subst K (sym e.2) (subst R (sym e.1) c.3))

take_over : (n : ℕ) (xs ys : List ℕ) → length xs ≤ n → take n (xs ++ ys) ≡ xs ++ take (n - length xs) ys
take_over n xs ys few =
    let e : n ≡ length xs + (n - length xs) = omega arith in
    ap (λ k. take k (xs ++ ys)) e ∙ take-append-add xs ys (n - length xs)

-- a stream begins with what was read
pub record Front (stream read : List ℕ) : Type 0 where
  pub more : List ℕ
  pub split : stream ≡ read ++ more
  pub few : length read ≤ most_input

-- the session over the stream, and what stands behind these frames
pub record Goes (m : Meaning) (s : State) (cs : List (List ℕ)) (rest : List ℕ) (all : Served) : Type 0 where
  pub tail : List ℕ
  pub later : List (List ℕ)
  pub last : List ℕ
  pub kind : Rest
  pub over : Bool
  pub apart : IsApart (rest ++ tail) later last kind
  pub is : all ≡ served m Uninitialized s (cs ++ later) over kind

looked_at : (stream read : List ℕ) (b : Front stream read) → take most_input stream ≡ read ++ take (most_input - length read) b.more
looked_at stream read b = ap (λ l. take most_input l) b.split ∙ take_over most_input read b.more b.few

pub goes : (m : Meaning) (s : State) (stream read rest : List ℕ) (cs : List (List ℕ)) (all : Served) → Front stream read → HasFrames read cs rest → IsSession m s stream all → Goes m s cs rest all
goes m s stream read rest cs all b f x =
    let tail = take (most_input - length read) b.more in
    let P : List ℕ → Type 0 = λ l. IsApart l x.contents x.rest x.kind in
    let a = apart_behind read tail rest x.rest cs x.contents x.kind f (subst P (looked_at stream read b) x.apart) in
    let over = ltb most_input (length stream) in
    record {
      tail = tail;
      later = a.0;
      last = x.rest;
      kind = x.kind;
      over = over;
      apart = a.2;
      is = x.is ∙ ap (λ l. served m Uninitialized s l over x.kind) a.1;
    }

pub tells : (m : Meaning) (s : State) (stream read rest : List ℕ) (cs : List (List ℕ)) → Front stream read → HasFrames read cs rest → FolderTells m s stream → AllTell m Uninitialized s cs
tells m s stream read rest cs b f t =
    let c = comes_apart (take most_input stream) in
    let tail = take (most_input - length read) b.more in
    let P : List ℕ → Type 0 = λ l. IsApart l c.0 c.1 c.2 in
    let a = apart_behind read tail rest c.1 cs c.0 c.2 f (subst P (looked_at stream read b) c.3) in
    tells_front m Uninitialized s cs a.0 (subst (AllTell m Uninitialized s) a.1 (t c.0 c.1 c.2 c.3))

-- what stands behind all frames decides
pub goes_no_further : (m : Meaning) (s : State) (cs : List (List ℕ)) (rest : List ℕ) (all : Served) (kind : Rest) → (g : Goes m s cs rest all) → IsRest (rest ++ g.tail) kind → all ≡ served m Uninitialized s (cs ++ []) g.over kind
goes_no_further m s cs rest all kind g is =
    let stops : IsApart (rest ++ g.tail) [] (rest ++ g.tail) kind = record { frames = refl; behind = is } in
    let e = one_apart (rest ++ g.tail) g.last (rest ++ g.tail) g.later [] g.kind kind g.apart stops in
    g.is ∙ ap (λ l. served m Uninitialized s (cs ++ l) g.over g.kind) e.0 ∙ ap (λ k. served m Uninitialized s (cs ++ []) g.over k) e.2
