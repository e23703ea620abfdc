-- The content of an answer.
use Rattle.std.specs.Prelude.{ℕ, List, map, codes}
use Rattle.serde_json.specs.Data.{Data, null, string, array, object, member, no_members}
use Rattle.serde_json.specs.View.{items_of}
use Rattle.serde_json.specs.Written.{compact_text}
use Rattle.lsp_wire.specs.declared.types.Id.{Id}
use Rattle.lsp_wire.specs.declared.types.Reply.{Reply}
use Rattle.lsp_wire.specs.declared.types.Reply.TheVariants.{Initialized, Null, Place, Places, Symbols}
use Rattle.lsp_wire.specs.Written.{id_data, location_data, initialized_data, symbol_data}

-- the result of an answer
abbrev pub result_data : Reply → Data
result_data Initialized = initialized_data
result_data Null = null
result_data (Place location) = location_data location
result_data (Places locations) = array (items_of (map location_data locations))
result_data (Symbols symbols) = array (items_of (map symbol_data symbols))

-- the answer of JSON-RPC with a result, for the request of this id
abbrev pub reply_message : Id → Reply → Data
reply_message id reply =
    object (member (codes "id") (id_data id) (member (codes "jsonrpc") (string (codes "2.0")) (member (codes "result") (result_data reply) no_members)))

-- the content of an answer
unfoldable pub reply_content : Id → Reply → List ℕ
reply_content id reply = compact_text (reply_message id reply)

-- ---- for private clauses: the result's text, reply by reply

-- the text of what the server can do
unfoldable pub initialized_text : List ℕ
initialized_text = compact_text initialized_data

-- the text of a reply's result
unfoldable pub result_text : Reply → List ℕ
result_text Initialized = initialized_text
result_text Null = compact_text null
result_text (Place location) = compact_text (location_data location)
result_text (Places locations) = compact_text (array (items_of (map location_data locations)))
result_text (Symbols symbols) = compact_text (array (items_of (map symbol_data symbols)))
