use Rattle.std.proofs.Common.{◌++◌, sym, ◌∙◌}
use Rattle.exact_faces.specs.Searching.{of_symbols}
use Rattle.exact_faces.proofs.Searching.{among-table}
use Rattle.exact_faces.proofs.reached.instances_in.Goals as goal

pub returns : goal.returns
returns c =
    let table = c.args.table.now in
    c.in_ok-push_symbols.ensures
    ∙ (λ i. c.in_ok-found.ensures i ++ of_symbols (c.symbols.ensures i))
    ∙ sym (among-table table.words table.symbols)
