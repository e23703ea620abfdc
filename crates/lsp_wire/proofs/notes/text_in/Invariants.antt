use Rattle.std.proofs.Common.{◌≡◌, drop}
use Rattle.lsp_wire.specs.Notes.{text_at_code}
use Rattle.lsp_wire.proofs.notes.text_in.Given as goal

abbrev pub invariant-rows : goal.invariant-rows
invariant-rows l =
    text_at_code (λ row. row.0) (λ row. row.1.now) (drop l.row-index l.table) l.code ≡ text_at_code (λ row. row.0) (λ row. row.1.now) l.table l.code
