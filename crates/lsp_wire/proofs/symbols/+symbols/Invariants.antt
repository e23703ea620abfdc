use Rattle.std.specs.Prelude.{string_bytes}
use Rattle.lsp_wire.specs.Written.{symbol_data}
use Rattle.lsp_wire.proofs.Texts.{IsSoFar}
use Rattle.lsp_wire.proofs.symbols.+symbols.Given as goal

abbrev pub invariant-symbols_text-symbols : goal.invariant-symbols_text-symbols
invariant-symbols_text-symbols l = IsSoFar symbol_data l.symbols l.symbol-index l.later (string_bytes l.text)
