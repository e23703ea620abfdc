-- What the calls of the server mean.
use Rattle.lsp_wire.specs.declared.types.Call.{Call}
use Rattle.lsp_wire.specs.declared.types.Call.TheVariants.{Initialize, Shutdown, Definition, References, Symbols, BadParams, Unknown}
use Rattle.lsp_wire.specs.declared.types.Reply.{Reply}
use Rattle.lsp_wire.specs.declared.types.Reply.TheVariants.{Null}
use Rattle.lsp_answers.specs.States.{State, Meaning}
use Rattle.server_texts.specs.Answers.{definition_reply, references_reply}
use Rattle.server_documents.specs.Documents.{after_root, root_modules, with_file, after_open, after_change, changed_texts, after_close, after_files}
use Rattle.server_texts.specs.Notes.{notes_of}
use Rattle.server_texts.specs.Outlines.{symbols_reply}

-- the reply to a question; nothing else is asked
abbrev pub reply_to : State → Call → Reply
reply_to s (Definition uri at) = definition_reply s uri at
reply_to s (References uri at declared) = references_reply s uri at declared
reply_to s (Symbols uri) = symbols_reply s uri
reply_to s (Initialize root) = Null
reply_to s Shutdown = Null
reply_to s BadParams = Null
reply_to s Unknown = Null

-- what the server's calls mean
abbrev pub server_meaning : Meaning
server_meaning =
    record {
      after_root = after_root;
      root_modules = root_modules;
      after_read = with_file;
      after_open = after_open;
      after_change = after_change;
      changed_texts = changed_texts;
      after_close = after_close;
      after_files = after_files;
      notes_of = notes_of;
      reply_to = reply_to;
    }
