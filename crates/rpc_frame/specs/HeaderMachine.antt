-- A reader of one header that takes a byte at a step.
use Rattle.std.specs.Prelude.{◌≡◌, ℕ, ◌+◌, ◌-◌, ◌*◌, ◌^◌, ◌<◌, ◌≤◌, ◌==◌, nat_le, nat_lt, Bool, true, false, ◌&&◌, if◌then◌else◌, List, [], ◌∷◌, Option, Some, None, IsSome, is_some, slice_get, slice_index, length, take, codes, option_and_then}
use Rattle.std.specs.Char.{to_ascii_lowercase, is_ascii_digit}
use Rattle.rpc_frame.specs.declared.header.Field.{Field}
use Rattle.rpc_frame.specs.declared.header.Field.TheVariants.{ContentLength, ContentType}
use Rattle.rpc_frame.specs.declared.header.Part.{Part}
use Rattle.rpc_frame.specs.declared.header.Part.TheVariants.{LineStart, Prefix, Name, Spaces, Digits, Value, LineFeed, LastFeed, Whole}
use Rattle.rpc_frame.specs.declared.header.Header.{Header}
use Rattle.rpc_frame.specs.declared.header.Progress.{Progress}

-- before the first byte
abbrev pub start : Header
start = record { length = None; typed = false; part = LineStart }

-- the same fields stood, and the reader stands there
abbrev pub at : Header → Part → Header
at h part = record { length = h.length; typed = h.typed; part = part }

-- after a letter of Content-Length or Content-Type behind what they share
abbrev pub step_fork : Header → ℕ → Option Header
step_fork h b =
    if to_ascii_lowercase b == 108 then (if is_some h.length then None else Some (at h (Name ContentLength 1))) else (if to_ascii_lowercase b == 116 then (if h.typed then None else Some (at h (Name ContentType 1))) else None)

-- in what the names share, by the letter that must stand there, or behind all of it
abbrev pub step_prefix_at : Option ℕ → Header → ℕ → ℕ → Option Header
step_prefix_at None h letters b = step_fork h b
step_prefix_at (Some letter) h letters b =
    if to_ascii_lowercase b == letter then Some (at h (Prefix (letters + 1))) else None

-- in what the names share
abbrev pub step_prefix : Header → ℕ → ℕ → Option Header
step_prefix h letters b = step_prefix_at (slice_get (codes "content-") letters) h letters b

-- at a line's start
abbrev pub step_line_start : Header → ℕ → Option Header
step_line_start h b =
    if b == 13 then (if is_some h.length then Some (at h LastFeed) else None) else (if is_some h.length && h.typed then None else step_prefix h 0 b)

-- a field's name behind what the names share
abbrev pub field_name : Field → List ℕ
field_name ContentLength = codes "length"
field_name ContentType = codes "type"

-- what comes after a name's colon: the line has room for so many more bytes
abbrev pub value_part : Field → Part
value_part ContentLength = Spaces 1009
value_part ContentType = Value 1011

-- in a field's own part of its name, by the letter that must stand there, or at the colon behind it
abbrev pub step_name_at : Option ℕ → Header → Field → ℕ → ℕ → Option Header
step_name_at None h field letters b = if b == 58 then Some (at h (value_part field)) else None
step_name_at (Some letter) h field letters b =
    if to_ascii_lowercase b == letter then Some (at h (Name field (letters + 1))) else None

-- in a field's own part of its name
abbrev pub step_name : Header → Field → ℕ → ℕ → Option Header
step_name h field letters b = step_name_at (slice_get (field_name field) letters) h field letters b

-- at a digit of a length
abbrev pub step_digit : Header → ℕ → ℕ → ℕ → ℕ → Option Header
step_digit h left count value b =
    if is_ascii_digit b then (if nat_lt count 15 then (if nat_le 1 left then Some (at h (Digits (left - 1) (count + 1) (value * 10 + (b - 48)))) else None) else None) else None

-- before a length's first digit
abbrev pub step_spaces : Header → ℕ → ℕ → Option Header
step_spaces h left b =
    if b == 32 then (if nat_le 2 left then Some (at h (Spaces (left - 1))) else None) else step_digit h left 0 0 b

-- in a length's digits
abbrev pub step_digits : Header → ℕ → ℕ → ℕ → ℕ → Option Header
step_digits h left count value b =
    if b == 13 then Some (record { length = Some value; typed = h.typed; part = LineFeed }) else step_digit h left count value b

-- in the value of Content-Type
abbrev pub step_value : Header → ℕ → ℕ → Option Header
step_value h left b =
    if b == 13 then Some (record { length = h.length; typed = true; part = LineFeed }) else (if b == 10 then None else (if nat_le 1 left then Some (at h (Value (left - 1))) else None))

-- after a CR
abbrev pub step_feed : Header → Part → ℕ → Option Header
step_feed h part b = if b == 10 then Some (at h part) else None

-- after the next byte, by where the reader stands
abbrev pub step_at : Part → Header → ℕ → Option Header
step_at LineStart h b = step_line_start h b
step_at (Prefix letters) h b = step_prefix h letters b
step_at (Name field letters) h b = step_name h field letters b
step_at (Spaces left) h b = step_spaces h left b
step_at (Digits left count value) h b = step_digits h left count value b
step_at (Value left) h b = step_value h left b
step_at LineFeed h b = step_feed h LineStart b
step_at LastFeed h b = step_feed h Whole b
step_at Whole h b = None

-- after the next byte; none where no header goes on with it
abbrev pub step : Header → ℕ → Option Header
step h b = step_at h.part h b

-- after these bytes
abbrev pub run : Header → List ℕ → Option Header
run h [] = Some h
run h (b ∷ bs) = option_and_then (λ next. run next bs) (step h b)

-- a number of so many digits
abbrev pub IsCounted : ℕ → ℕ → Type 0
IsCounted count value = (count ≤ 15) × (value < 10 ^ count)

-- a line may still begin
abbrev pub IsOpen : Option ℕ → Bool → Type 0
IsOpen None typed = Unit {0}
IsOpen (Some said) true = ⊥
IsOpen (Some said) false = Unit {0}

-- what is true of a reader that stands at this part of a header
abbrev pub IsLiveAt : Part → Header → Type 0
IsLiveAt LineStart h = Unit {0}
IsLiveAt (Prefix letters) h = IsOpen h.length h.typed
IsLiveAt (Name field letters) h = Unit {0}
IsLiveAt (Spaces left) h = 1 ≤ left
IsLiveAt (Digits left count value) h = IsCounted count value
IsLiveAt (Value left) h = Unit {0}
IsLiveAt LineFeed h = Unit {0}
IsLiveAt LastFeed h = IsSome h.length
IsLiveAt Whole h = IsSome h.length

-- where a reader that began at the start may stand
abbrev pub IsLive : Header → Type 0
IsLive h = IsLiveAt h.part h

-- what a whole header says
abbrev pub said_at : Part → Option ℕ → Option ℕ
said_at LineStart said = None
said_at (Prefix letters) said = None
said_at (Name field letters) said = None
said_at (Spaces left) said = None
said_at (Digits left count value) said = None
said_at (Value left) said = None
said_at LineFeed said = None
said_at LastFeed said = None
said_at Whole said = said

-- the length that a header says, once it is whole
abbrev pub said_by : Header → Option ℕ
said_by h = said_at h.part h.length

-- a reader that began at the start of these bytes has read so many of them
abbrev pub HasRead : List ℕ → Progress → Type 0
HasRead bytes p = (p.read ≤ length bytes) × (run start (take p.read bytes) ≡ Some p.header)

-- it can read no more
abbrev pub HasStopped : List ℕ → Progress → Type 0
HasStopped bytes p = p.read < length bytes → step p.header (slice_index bytes p.read) ≡ None
