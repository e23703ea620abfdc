-- What a method asks or tells.
use Rattle.std.specs.Prelude.{ℕ, Bool, if◌then◌else◌, List, Option, Some, None, option_and_then, codes}
use Rattle.std.specs.Str.{bytes_eq}
use Rattle.serde_json.specs.Data.{Data}
use Rattle.serde_json.specs.Find.{get}
use Rattle.lsp_wire.specs.declared.types.Position.{Position}
use Rattle.lsp_wire.specs.declared.types.Change as changed
use Rattle.lsp_wire.specs.declared.types.FileEvent.{FileEvent}
use Rattle.lsp_wire.specs.declared.types.Call.{Call}
use Rattle.lsp_wire.specs.declared.types.Call.TheVariants.{Initialize, Shutdown, Definition, References, Symbols, BadParams, Unknown}
use Rattle.lsp_wire.specs.declared.types.Notice.{Notice}
use Rattle.lsp_wire.specs.declared.types.Notice.TheVariants.{Exit, Open, Change, Close, Files, Other}
use Rattle.lsp_wire.specs.Params.{position_of, uri_of, with_declaration, root_of, text_of, changes_of, events_of}

-- the declaration of the name at this place of a document is asked for, if both are given
abbrev definition_from : Option (List ℕ) → Option Position → Call
definition_from None at = BadParams
definition_from (Some uri) None = BadParams
definition_from (Some uri) (Some at) = Definition uri at

-- what the parameters of `textDocument/definition` ask
abbrev pub definition_call : Data → Call
definition_call params = definition_from (uri_of params) (option_and_then position_of (get (codes "position") params))

-- the uses of the name at this place are asked for, with its declaration or without, if all are given
abbrev references_from : Option (List ℕ) → Option Position → Option Bool → Call
references_from None at declared = BadParams
references_from (Some uri) None declared = BadParams
references_from (Some uri) (Some at) None = BadParams
references_from (Some uri) (Some at) (Some declared) = References uri at declared

-- what the parameters of `textDocument/references` ask
abbrev pub references_call : Data → Call
references_call params =
    references_from (uri_of params) (option_and_then position_of (get (codes "position") params)) (with_declaration params)

-- the names that a document declares are asked for, if it is given
abbrev symbols_from : Option (List ℕ) → Call
symbols_from None = BadParams
symbols_from (Some uri) = Symbols uri

-- what the parameters of `textDocument/documentSymbol` ask
abbrev pub symbols_call : Data → Call
symbols_call params = symbols_from (uri_of params)

-- what a request asks
abbrev pub call_of : List ℕ → Data → Call
call_of method params =
    if bytes_eq method (codes "initialize") then Initialize (root_of params) else (if bytes_eq method (codes "shutdown") then Shutdown else (if bytes_eq method (codes "textDocument/definition") then definition_call params else (if bytes_eq method (codes "textDocument/references") then references_call params else (if bytes_eq method (codes "textDocument/documentSymbol") then symbols_call params else Unknown))))

-- a document was opened with this text; where one of them is missing nothing is told
abbrev open_from : Option (List ℕ) → Option (List ℕ) → Notice
open_from None text = Other
open_from (Some uri) None = Other
open_from (Some uri) (Some text) = Open uri text

-- what the parameters of `textDocument/didOpen` tell
abbrev pub open_notice : Data → Notice
open_notice params = open_from (uri_of params) (text_of params)

-- a document was changed so; where one of them is missing nothing is told
abbrev change_from : Option (List ℕ) → Option (List changed.Change) → Notice
change_from None changes = Other
change_from (Some uri) None = Other
change_from (Some uri) (Some changes) = Change uri changes

-- what the parameters of `textDocument/didChange` tell
abbrev pub change_notice : Data → Notice
change_notice params = change_from (uri_of params) (changes_of params)

-- a document was closed; where it is missing nothing is told
abbrev close_from : Option (List ℕ) → Notice
close_from None = Other
close_from (Some uri) = Close uri

-- what the parameters of `textDocument/didClose` tell
abbrev pub close_notice : Data → Notice
close_notice params = close_from (uri_of params)

-- files of the folder were made, changed or deleted; where they are missing nothing is told
abbrev files_from : Option (List FileEvent) → Notice
files_from None = Other
files_from (Some events) = Files events

-- what the parameters of `workspace/didChangeWatchedFiles` tell
abbrev pub files_notice : Data → Notice
files_notice params = files_from (events_of params)

-- what a notification tells
abbrev pub notice_of : List ℕ → Data → Notice
notice_of method params =
    if bytes_eq method (codes "exit") then Exit else (if bytes_eq method (codes "textDocument/didOpen") then open_notice params else (if bytes_eq method (codes "textDocument/didChange") then change_notice params else (if bytes_eq method (codes "textDocument/didClose") then close_notice params else (if bytes_eq method (codes "workspace/didChangeWatchedFiles") then files_notice params else Other))))
