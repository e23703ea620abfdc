-- The JSON of what is written.
use Rattle.std.specs.Prelude.{ℕ, ℤ, List, ◌++◌, true, Option, Some, None, map, codes, decimal}
use Rattle.serde_json.specs.Data.{Data, null, boolean, number, unsigned, string, array, object, Members, no_members, member}
use Rattle.serde_json.specs.Find.{of_integer}
use Rattle.serde_json.specs.View.{items_of}
use Rattle.serde_json.specs.Written.{compact_text}
use Rattle.lsp_wire.specs.declared.types.Position.{Position}
use Rattle.lsp_wire.specs.declared.types.Area.{Area}
use Rattle.lsp_wire.specs.declared.types.Location.{Location}
use Rattle.lsp_wire.specs.declared.types.Note.{Note}
use Rattle.lsp_wire.specs.declared.types.Symbol.{Symbol, fold-Symbol}
use Rattle.lsp_wire.specs.declared.types.Symbol.TheOpen.{Symbol-F}
use Rattle.lsp_wire.specs.declared.types.Id.{Id}
use Rattle.lsp_wire.specs.declared.types.Id.TheVariants.{Int, Text, Null}
use Rattle.lsp_wire.specs.Errors.{error_text}
use Rattle.lsp_wire.specs.Notes.{note_text}

-- a `Position` of LSP, which counts UTF-16 units
abbrev pub position_data : Position → Data
position_data at =
    object (member (codes "character") (number (unsigned at.unit)) (member (codes "line") (number (unsigned at.line)) no_members))

-- a `Range` of LSP
abbrev pub area_data : Area → Data
area_data area =
    object (member (codes "end") (position_data area.end) (member (codes "start") (position_data area.start) no_members))

-- a `Location` of LSP: a range of a document
abbrev pub location_data : Location → Data
location_data location =
    object (member (codes "range") (area_data location.area) (member (codes "uri") (string location.uri) no_members))

-- a `Diagnostic` of LSP, which counts as an error, with its code as reports show it
abbrev pub note_data : Note → Data
note_data note =
    object (member (codes "code") (string (codes "E" ++ decimal note.code)) (member (codes "message") (string (note_text note.code)) (member (codes "range") (area_data note.area) (member (codes "severity") (number (unsigned 1)) (member (codes "source") (string (codes "sany")) no_members)))))

-- the parameters of a notice: a document with all its diagnostics
abbrev pub notes_data : List ℕ → List Note → Data
notes_data uri notes =
    object (member (codes "diagnostics") (array (items_of (map note_data notes))) (member (codes "uri") (string uri) no_members))

-- an error of JSON-RPC: its code and its text
abbrev pub error_data : ℤ → Data
error_data code =
    object (member (codes "code") (number (of_integer code)) (member (codes "message") (string (error_text code)) no_members))

-- what names a request
abbrev pub id_data : Id → Data
id_data (Int n) = number (of_integer n)
id_data (Text text) = string text
id_data Null = null

-- the answer of JSON-RPC with an error, for the request of this id
abbrev pub error_message : Id → ℤ → Data
error_message id code =
    object (member (codes "error") (error_data code) (member (codes "id") (id_data id) (member (codes "jsonrpc") (string (codes "2.0")) no_members)))

-- the content of an error
unfoldable pub error_content : Id → ℤ → List ℕ
error_content id code = compact_text (error_message id code)

-- the notification `textDocument/publishDiagnostics` for a document
abbrev pub notes_message : List ℕ → List Note → Data
notes_message uri notes =
    object (member (codes "jsonrpc") (string (codes "2.0")) (member (codes "method") (string (codes "textDocument/publishDiagnostics")) (member (codes "params") (notes_data uri notes) no_members)))

-- the content of a notice of diagnostics
unfoldable pub notes_content : List ℕ → List Note → List ℕ
notes_content uri notes = compact_text (notes_message uri notes)

-- what the server can do
abbrev pub initialized_data : Data
initialized_data =
    object (member (codes "capabilities") (object (member (codes "definitionProvider") (boolean true) (member (codes "documentSymbolProvider") (boolean true) (member (codes "referencesProvider") (boolean true) (member (codes "textDocumentSync") (object (member (codes "change") (number (unsigned 2)) (member (codes "openClose") (boolean true) no_members))) no_members))))) (member (codes "serverInfo") (object (member (codes "name") (string (codes "sany_tool")) no_members)) no_members))

-- the names inside stand first
abbrev pub with_children : Option (List Data) → Members → Members
with_children None ms = ms
with_children (Some children) ms = member (codes "children") (array (items_of children)) ms

-- what each symbol has, with names inside or without
abbrev pub symbol_members : List ℕ → ℕ → Area → Area → Members
symbol_members name kind area name_area =
    member (codes "kind") (number (unsigned kind)) (member (codes "name") (string name) (member (codes "range") (area_data area) (member (codes "selectionRange") (area_data name_area) no_members)))

-- one level, with each name inside already seen as its data
abbrev pub symbol_step : Symbol-F Data → Data
symbol_step s = object (with_children s.children (symbol_members s.name s.kind s.area s.name_area))

-- a `DocumentSymbol` of LSP, with those inside it
abbrev pub symbol_data : Symbol → Data
symbol_data = fold-Symbol Data symbol_step
