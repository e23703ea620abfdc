-- The frames of a stream: header lines, an empty line and content, as in the base protocol of LSP.
use Rattle.std.specs.Prelude.{◌≡◌, ◌≢◌, ℕ, ◌+◌, ◌-◌, ◌*◌, ◌^◌, ◌<◌, ◌≤◌, ◌⊎◌, List, [], ◌∷◌, ◌++◌, All, length, map, take, codes, decimal}
use Rattle.std.specs.Char.{IsAsciiDigit, to_ascii_lowercase}

-- the name of a field, written without regard to the case of its letters
abbrev pub Names : List ℕ → List ℕ → Type 0
Names field written = map to_ascii_lowercase written ≡ field

-- the number that decimal digits behind a number make of it
abbrev pub number_from : ℕ → List ℕ → ℕ
number_from value [] = value
number_from value (digit ∷ digits) = number_from (value * 10 + (digit - 48)) digits

-- a line of Content-Length, without its CR LF: the name, a colon, spaces, and the digits of a number
pub record IsLengthLine (line : List ℕ) (said : ℕ) : Type 0 where
  pub name : List ℕ
  pub spaces : List ℕ
  pub digits : List ℕ
  pub written : line ≡ name ++ 58 ∷ (spaces ++ digits)
  pub named : Names (codes "content-length") name
  pub blank : All (λ b. b ≡ 32) spaces
  pub decimal : All IsAsciiDigit digits
  pub some : 1 ≤ length digits
  pub few : length digits ≤ 15
  pub says : said ≡ number_from 0 digits
  pub short : length line ≤ 1024

-- a line of Content-Type, without its CR LF: the name, a colon, and any bytes but CR and LF
pub record IsTypeLine (line : List ℕ) : Type 0 where
  pub name : List ℕ
  pub value : List ℕ
  pub written : line ≡ name ++ 58 ∷ value
  pub named : Names (codes "content-type") name
  pub plain : All (λ b. (b ≢ 13) × (b ≢ 10)) value
  pub short : length line ≤ 1024

-- these lines, each ended by CR LF, and an empty line
abbrev pub header_of : List (List ℕ) → List ℕ
header_of [] = 13 ∷ 10 ∷ []
header_of (line ∷ lines) = line ++ 13 ∷ 10 ∷ header_of lines

-- the header's line of Content-Length stands alone, or before or behind one of Content-Type
abbrev pub HasFields : List ℕ → List ℕ → Type 0
HasFields header line =
    (header ≡ header_of (line ∷ [])) ⊎ ((other : List ℕ) × IsTypeLine other × ((header ≡ header_of (line ∷ other ∷ [])) ⊎ (header ≡ header_of (other ∷ line ∷ []))))

-- a header, and how many bytes of content it says
abbrev pub IsHeader : List ℕ → ℕ → Type 0
IsHeader header said = (line : List ℕ) × IsLengthLine line said × HasFields header line

-- some header begins with these bytes
abbrev pub BeginsHeader : List ℕ → Type 0
BeginsHeader bytes = (more : List ℕ) × (said : ℕ) × IsHeader (bytes ++ more) said

-- a frame: a header, and as much content as it says
pub record IsFrame (frame content : List ℕ) : Type 0 where
  pub header : List ℕ
  pub written : frame ≡ header ++ content
  pub says : IsHeader header (length content)
  pub fits : length content ≤ 2 ^ 24

-- the frame of a content as it is written: a header that says the content's length in bytes, and the content
abbrev pub frame_of : List ℕ → List ℕ
frame_of content = (codes "Content-Length: " ++ (decimal (length content) ++ codes "\r\n\r\n")) ++ content

-- some bytes of a header, which is not whole
pub record IsPartOfHeader (bytes : List ℕ) : Type 0 where
  pub more : List ℕ
  pub said : ℕ
  pub header : IsHeader (bytes ++ more) said
  pub some : 0 < length bytes
  pub lacking : 0 < length more

-- a whole header, and less content than it says
pub record LacksContent (bytes : List ℕ) : Type 0 where
  pub header : List ℕ
  pub content : List ℕ
  pub said : ℕ
  pub written : bytes ≡ header ++ content
  pub says : IsHeader header said
  pub fits : said ≤ 2 ^ 24
  pub lacking : length content < said

-- a frame has begun, and is not whole
abbrev pub IsUnfinished : List ℕ → Type 0
IsUnfinished bytes = IsPartOfHeader bytes ⊎ LacksContent bytes

-- a whole header says more than a frame may hold
pub record IsTooLong (bytes : List ℕ) (said : ℕ) : Type 0 where
  pub header : List ℕ
  pub more : List ℕ
  pub written : bytes ≡ header ++ more
  pub says : IsHeader header said
  pub large : 2 ^ 24 < said

-- no whole header stands at the front, no header begins with the bytes up to this place, and one does with those up to each earlier place
pub record IsBad (bytes : List ℕ) (place : ℕ) : Type 0 where
  pub within : place < length bytes
  pub none : (header more : List ℕ) (said : ℕ) → bytes ≡ header ++ more → IsHeader header said → ⊥
  pub bad : BeginsHeader (take (place + 1) bytes) → ⊥
  pub least : (k : ℕ) → k < place → BeginsHeader (take (k + 1) bytes)

-- the stream is frames of these contents, one behind another, and a rest
abbrev pub HasFrames : List ℕ → List (List ℕ) → List ℕ → Type 0
HasFrames stream [] rest = stream ≡ rest
HasFrames stream (content ∷ contents) rest =
    (frame more : List ℕ) × (stream ≡ frame ++ more) × IsFrame frame content × HasFrames more contents rest

-- no whole frame stands at the front
abbrev pub HasNoFrame : List ℕ → Type 0
HasNoFrame bytes = (frame more content : List ℕ) → bytes ≡ frame ++ more → IsFrame frame content → ⊥

-- behind whole frames the stream ends within one
abbrev pub EndsInside : List ℕ → Type 0
EndsInside stream = (contents : List (List ℕ)) × (rest : List ℕ) × HasFrames stream contents rest × IsUnfinished rest
