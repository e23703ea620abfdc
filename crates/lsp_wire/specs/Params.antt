-- What the parameters of a message say. A member that is missing or of another type is none.
use Rattle.std.specs.Prelude.{ℕ, ◌^◌, ◌==◌, nat_lt, Bool, true, false, if◌then◌else◌, List, [], ◌∷◌, Option, Some, None, option_map, option_and_then, unwrap_or, codes}
use Rattle.std.specs.Option.{option_or}
use Rattle.serde_json.specs.Data.{Data, null, boolean, number, string, array, object, Items, no_items, item}
use Rattle.serde_json.specs.Find.{get, at, as_str, as_u64, as_number, as_bool, as_array}
use Rattle.lsp_wire.specs.declared.types.Position.{Position}
use Rattle.lsp_wire.specs.declared.types.Area.{Area}
use Rattle.lsp_wire.specs.declared.types.Change.{Change}
use Rattle.lsp_wire.specs.declared.types.FileEvent.{FileEvent}

-- the parameters of a message; without them there is no member
abbrev pub params_of : Data → Data
params_of message = unwrap_or (get (codes "params") message) null

-- a string member
abbrev pub text_at : List ℕ → Data → Option (List ℕ)
text_at key d = option_and_then as_str (get key d)

-- from 0 to 2^31 - 1
abbrev pub if_small : ℕ → Option ℕ
if_small n = if nat_lt n (2 ^ 31) then Some n else None

-- such an integer
abbrev pub small : Data → Option ℕ
small d = option_and_then if_small (option_and_then as_u64 (as_number d))

-- a `Position` of LSP: a line, and how many UTF-16 units stand before the place in it
abbrev pub position_of : Data → Option Position
position_of d =
    option_and_then (λ line. option_map (λ unit. record { line = line; unit = unit }) (option_and_then small (get (codes "character") d))) (option_and_then small (get (codes "line") d))

-- a `Range` of LSP: from its start up to its end
abbrev pub area_of : Data → Option Area
area_of d =
    option_and_then (λ start. option_map (λ end. record { start = start; end = end }) (option_and_then position_of (get (codes "end") d))) (option_and_then position_of (get (codes "start") d))

-- a range that may be missing or null
abbrev pub range_of : Option Data → Option (Option Area)
range_of None = Some None
range_of (Some null) = Some None
range_of (Some (boolean b)) = None
range_of (Some (number n)) = None
range_of (Some (string s)) = None
range_of (Some (array ds)) = None
range_of (Some (object ms)) = option_map Some (area_of (object ms))

-- a changed text, and the range that it replaces, which is the whole document where none is given
abbrev pub change_of : Data → Option Change
change_of d =
    option_and_then (λ text. option_map (λ area. record { area = area; text = text }) (range_of (get (codes "range") d))) (text_at (codes "text") d)

-- what each item is, if each is one
abbrev pub all_of : {A : Type 0} → (Data → Option A) → Items → Option (List A)
all_of one no_items = Some []
all_of one (item d ds) = option_and_then (λ x. option_map (λ xs. x ∷ xs) (all_of one ds)) (one d)

-- the changes of a document, in the order in which they were made
abbrev pub changes_of : Data → Option (List Change)
changes_of params = option_and_then (all_of change_of) (option_and_then as_array (get (codes "contentChanges") params))

-- 1 and 2 are a file that was made or changed, 3 one that was deleted
abbrev pub gone_from : ℕ → Option Bool
gone_from n = if n == 1 then Some false else (if n == 2 then Some false else (if n == 3 then Some true else None))

-- whether the type of a file's event says that the file was deleted
abbrev pub gone_of : Data → Option Bool
gone_of d = option_and_then gone_from (option_and_then as_u64 (as_number d))

-- a file of the folder, and whether it was deleted
abbrev pub event_of : Data → Option FileEvent
event_of d =
    option_and_then (λ uri. option_map (λ gone. record { uri = uri; gone = gone }) (option_and_then gone_of (get (codes "type") d))) (text_at (codes "uri") d)

-- the events of the folder's files, in their order
abbrev pub events_of : Data → Option (List FileEvent)
events_of params = option_and_then (all_of event_of) (option_and_then as_array (get (codes "changes") params))

-- the document
abbrev pub uri_of : Data → Option (List ℕ)
uri_of params = option_and_then (text_at (codes "uri")) (get (codes "textDocument") params)

-- the text of the document
abbrev pub text_of : Data → Option (List ℕ)
text_of params = option_and_then (text_at (codes "text")) (get (codes "textDocument") params)

-- whether a request asks for the declaration too
abbrev pub with_declaration : Data → Option Bool
with_declaration params =
    option_and_then as_bool (option_and_then (get (codes "includeDeclaration")) (get (codes "context") params))

-- the URI of the first workspace folder
abbrev pub folder_of : Data → Option (List ℕ)
folder_of params =
    option_and_then (text_at (codes "uri")) (option_and_then (at 0) (get (codes "workspaceFolders") params))

-- that URI, else the root's
abbrev pub root_of : Data → Option (List ℕ)
root_of params = option_or (folder_of params) (text_at (codes "rootUri") params)
