-- What is counted in a stream.
use Rattle.std.specs.Prelude.{◌≡◌, ℕ, Bool, true, false, List, [], ◌∷◌, length, count_by}
use Rattle.std.specs.List.{sum_by}
use Rattle.rpc_frame.specs.Frames.{HasFrames, HasNoFrame}
use Rattle.rpc_frame.specs.Framing.{Held, HasGiven}
use Rattle.lsp_wire.specs.Messages.{IsMessage}
use Rattle.lsp_wire.specs.declared.types.Incoming.{Incoming}
use Rattle.lsp_wire.specs.declared.types.Incoming.TheVariants.{Request, Notice, Dropped, Invalid}
use Rattle.frame_bench.specs.declared.counts.Counts.{Counts}
use Rattle.frame_bench.specs.declared.task.Task.{Task}
use Rattle.frame_bench.specs.declared.task.Task.TheVariants.{Frames, Messages}

-- the contents are these messages, one after another
abbrev pub AreMessages : List (List ℕ) → List Incoming → Type 0
AreMessages [] [] = Unit {0}
AreMessages [] (message ∷ messages) = ⊥
AreMessages (content ∷ contents) [] = ⊥
AreMessages (content ∷ contents) (message ∷ messages) = IsMessage content message × AreMessages contents messages

-- what is no message
abbrev pub is_refused : Incoming → Bool
is_refused (Request id call) = false
is_refused (Notice notice) = false
is_refused Dropped = false
is_refused (Invalid code id) = true

-- so many contents are no message; none is looked at where the framer alone is measured
abbrev pub HasRefused : Task → List (List ℕ) → ℕ → Type 0
HasRefused (Frames cutting) contents count = count ≡ 0
HasRefused Messages contents count =
    (messages : List Incoming) × AreMessages contents messages × (count ≡ count_by is_refused messages)

-- the counts of these contents
pub record HasCounts (task : Task) (contents : List (List ℕ)) (counts : Counts) : Type 0 where
  pub number : counts.contents ≡ length contents
  pub size : counts.bytes ≡ sum_by (λ content. length content) contents
  pub refused : HasRefused task contents counts.refused

-- the counts of the contents of all frames of the stream
pub record HasFound (task : Task) (stream : List ℕ) (counts : Counts) : Type 0 where
  pub contents : List (List ℕ)
  pub rest : List ℕ
  pub frames : HasFrames stream contents rest
  pub none : HasNoFrame rest
  pub counted : HasCounts task contents counts

-- ---- for private clauses: of the stream's front that was fed, what was given and counted, and what waits
pub record HasSeen (task : Task) (front : List ℕ) (held : Held) (counts : Counts) : Type 0 where
  pub contents : List (List ℕ)
  pub given : HasGiven front contents held
  pub counted : HasCounts task contents counts
