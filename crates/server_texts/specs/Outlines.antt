-- What is answered to `documentSymbol`: the names that a module's text declares, by the text alone.
use Rattle.std.specs.Prelude.{ℕ, List, [], Option, Some, None}
use Rattle.family_facts.specs.Fronts.{front_of}
use Rattle.lsp_wire.specs.declared.types.Reply.{Reply}
use Rattle.lsp_wire.specs.declared.types.Reply.TheVariants.{Symbols}
use Rattle.lsp_wire.specs.declared.types.Symbol.{Symbol}
use Rattle.lsp_answers.specs.States.{State, ModuleText}
use Rattle.server_outlines.specs.Outlines.{symbols_by}
use Rattle.server_texts.specs.Answers.{module_at}

-- the names of a module's text; without a text there are none
abbrev pub symbols_in : Option ModuleText → List Symbol
symbols_in None = []
symbols_in (Some t) = symbols_by t.bytes (front_of t.name t.bytes)

-- the reply to `documentSymbol` on a document
abbrev pub symbols_reply : State → List ℕ → Reply
symbols_reply s uri = Symbols (symbols_in (module_at s uri))
