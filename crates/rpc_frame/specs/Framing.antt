-- What a framer holds, and what it answers of it.
use Rattle.std.specs.Prelude.{◌≡◌, ℕ, ◌+◌, ◌<◌, ◌≤◌, ◌^◌, ◌⊎◌, List, [], ◌++◌, length, take, drop}
use Rattle.rpc_frame.specs.declared.framer.FrameNext.{FrameNext}
use Rattle.rpc_frame.specs.declared.framer.FrameNext.TheVariants.{Message, NotYet, BadHeader, TooLong}
use Rattle.rpc_frame.specs.declared.header.Found.{Found}
use Rattle.rpc_frame.specs.declared.header.Found.TheVariants.{Frame, Unfinished, Bad, Long}
use Rattle.rpc_frame.specs.Frames.{IsFrame, IsUnfinished, IsTooLong, IsBad, HasFrames}

-- how many bytes of the stream were taken as frames, the last frame's content, and the bytes that wait
pub record Held : Type 0 where
  pub taken : ℕ
  pub content : List ℕ
  pub waiting : List ℕ

-- so many bytes may be fed
abbrev pub HasRoom : Held → ℕ → Type 0
HasRoom held count = (length held.waiting + count < 2 ^ 26) × (held.taken + length held.waiting + count < 2 ^ 63)

-- the answer to what waits, and what is held afterwards
abbrev pub IsNext : Held → FrameNext → Held → Type 0
-- a whole frame waits, and is taken
IsNext old Message new =
    (frame : List ℕ) × (old.waiting ≡ frame ++ new.waiting) × IsFrame frame new.content × (new.taken ≡ old.taken + length frame)
-- nothing waits, or a frame that is not whole
IsNext old NotYet new = (new ≡ old) × ((old.waiting ≡ []) ⊎ IsUnfinished old.waiting)
-- what waits begins no header; the place is one of the whole stream
IsNext old (BadHeader place) new =
    (new ≡ old) × (k : ℕ) × IsBad old.waiting k × (place ≡ old.taken + k)
IsNext old (TooLong said) new = (new ≡ old) × IsTooLong old.waiting said

-- of the stream that was fed these contents were given, and the rest waits
pub record HasGiven (stream : List ℕ) (contents : List (List ℕ)) (held : Held) : Type 0 where
  pub frames : HasFrames stream contents held.waiting
  pub counted : length stream ≡ held.taken + length held.waiting

-- what was found at the front of these bytes
abbrev pub IsFound : List ℕ → Found → Type 0
IsFound bytes (Frame header content) =
    (0 < header) × (header + content ≤ length bytes) × IsFrame (take (header + content) bytes) (take content (drop header bytes))
IsFound bytes Unfinished = (bytes ≡ []) ⊎ IsUnfinished bytes
IsFound bytes (Bad place) = IsBad bytes place
IsFound bytes (Long said) = IsTooLong bytes said
