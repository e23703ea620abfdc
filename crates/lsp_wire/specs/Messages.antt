-- The reading of a frame's content: JSON, then a message of JSON-RPC, then its method.
use Rattle.std.specs.Prelude.{◌≡◌, ℕ, ℤ, ◌||◌, if◌then◌else◌, ◌⊎◌, List, Option, Some, None, is_some, option_and_then, codes, IsUtf8}
use Rattle.std.specs.Str.{is_utf8}
use Rattle.serde_json.specs.Data.{Data, null, boolean, number, string, array, object}
use Rattle.serde_json.specs.Find.{get, as_str, as_number, as_integer, as_object}
use Rattle.serde_json.specs.Read.{read}
use Rattle.lsp_wire.specs.declared.types.Id.TheVariants.{Int, Text, Null}
use Rattle.lsp_wire.specs.declared.types.Incoming.{Incoming}
use Rattle.lsp_wire.specs.declared.types.Incoming.TheVariants.{Request, Notice, Dropped, Invalid}
use Rattle.lsp_wire.specs.declared.read.FoundId.{FoundId}
use Rattle.lsp_wire.specs.declared.read.FoundId.TheVariants.{Absent, Valid, Refused}
use Rattle.lsp_wire.specs.Errors.{parse_error, invalid_request}
use Rattle.lsp_wire.specs.Params.{params_of}
use Rattle.lsp_wire.specs.Methods.{call_of, notice_of}

-- the id of a number: one that is no integer names no request
abbrev id_from : Option ℤ → FoundId
id_from None = Refused
id_from (Some n) = Valid (Int n)

-- an integer names a request
abbrev pub number_id : Data → FoundId
number_id d = id_from (option_and_then as_integer (as_number d))

-- and so does a string
abbrev pub found_id : Option Data → FoundId
found_id None = Absent
found_id (Some null) = Refused
found_id (Some (boolean b)) = Refused
found_id (Some (number n)) = number_id (number n)
found_id (Some (string s)) = Valid (Text s)
found_id (Some (array ds)) = Refused
found_id (Some (object ms)) = Refused

-- a refusal names its message where that has a name
abbrev pub refusal : FoundId → Incoming
refusal Absent = Invalid invalid_request Null
refusal (Valid id) = Invalid invalid_request id
refusal Refused = Invalid invalid_request Null

-- an answer to nothing is dropped
abbrev pub without_method : FoundId → Data → Incoming
without_method id d = if is_some (get (codes "result") d) || is_some (get (codes "error") d) then Dropped else refusal id

-- a method asks for an answer where the message has a name
abbrev pub with_method : FoundId → Option (List ℕ) → Data → Incoming
with_method Refused method d = Invalid invalid_request Null
with_method (Valid id) None d = Invalid invalid_request id
with_method Absent None d = Invalid invalid_request Null
with_method (Valid id) (Some method) d = Request id (call_of method (params_of d))
with_method Absent (Some method) d = Notice (notice_of method (params_of d))

-- a message by its member `method`, if it has one
abbrev message_by : Option Data → FoundId → Data → Incoming
message_by None id d = without_method id d
message_by (Some method) id d = with_method id (as_str method) d

-- what a value is as a message
abbrev pub message_of : Data → Incoming
message_of d =
    if is_some (as_object d) then message_by (get (codes "method") d) (found_id (get (codes "id") d)) d else Invalid invalid_request Null

-- the content is a value, which is this message
pub record IsRead (content : List ℕ) (message : Incoming) : Type 0 where
  pub value : Data
  pub utf8 : IsUtf8 content
  pub reads : read content ≡ Some value
  pub is : message ≡ message_of value

-- the content is this message: what no text or no JSON is, is an error that names no request
abbrev pub IsMessage : List ℕ → Incoming → Type 0
IsMessage content message =
    IsRead content message ⊎ ((IsUtf8 content → read content ≡ None) × (message ≡ Invalid parse_error Null))

-- ---- as a function

-- the message of what was read, if something was
abbrev pub read_as : Option Data → Incoming
read_as None = Invalid parse_error Null
read_as (Some value) = message_of value

-- the message that a content is
abbrev pub message_in : List ℕ → Incoming
message_in content = if is_utf8 content then read_as (read content) else Invalid parse_error Null
