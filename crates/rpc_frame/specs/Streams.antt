-- What stands behind the frames of a stream.
use Rattle.std.specs.Prelude.{◌≡◌, ℕ, List, []}
use Rattle.rpc_frame.specs.Frames.{IsUnfinished, IsTooLong, IsBad, HasFrames}

-- the four kinds of a rest that begins with no frame
pub data Rest : Type 0 where
  Nothing : Rest
  Begun : Rest
  Long : ℕ → Rest
  Broken : ℕ → Rest

-- nothing is left; a frame has begun; a whole header says so much, more than a frame may hold; or up to
-- this place, from 0 at the rest's start, no header begins with it
abbrev pub IsRest : List ℕ → Rest → Type 0
IsRest bytes Nothing = bytes ≡ []
IsRest bytes Begun = IsUnfinished bytes
IsRest bytes (Long said) = IsTooLong bytes said
IsRest bytes (Broken place) = IsBad bytes place

-- a stream taken apart: the contents of its frames, and a rest of this kind
pub record IsApart (stream : List ℕ) (contents : List (List ℕ)) (rest : List ℕ) (kind : Rest) : Type 0 where
  pub frames : HasFrames stream contents rest
  pub behind : IsRest rest kind

-- some contents and some rest
abbrev pub ComesApart : List ℕ → Type 0
ComesApart stream = (contents : List (List ℕ)) × (rest : List ℕ) × (kind : Rest) × IsApart stream contents rest kind
