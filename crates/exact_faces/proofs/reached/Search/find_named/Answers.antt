use Rattle.std.proofs.Common.{ap, ◌∙◌}
use Rattle.module_model.specs.Exports.{exports_of}
use Rattle.exact_faces.specs.Searching.{shown}
use Rattle.exact_faces.proofs.Named.{table-once}
use Rattle.exact_faces.proofs.Searching.{can-among, named-found}
use Rattle.exact_faces.proofs.reached.Search.find_named.Goals as goal

pub find_all-requires-clause-reached : goal.find_all-requires-clause-reached
find_all-requires-clause-reached c =
    let table = c.args.table.now in
    can-among c.args.self.now (exports_of table) (shown c.as_slice.result.now) (ap shown c.as_slice.ensures.value ∙ c.in_ok-meanings.ensures)
    (table-once table c.len-len.ensures.once c.len-len.ensures.symbols_once) c.requires.reached

pub returns-clause-named : goal.returns-clause-named
returns-clause-named c =
    let table = c.args.table.now in
    named-found c.args.self.now c.find_all.new.self (exports_of table) (shown c.as_slice.result.now) (ap shown c.as_slice.ensures.value ∙ c.in_ok-meanings.ensures)
    c.in_ok-find_all.ensures.grown c.requires.inside c.in_ok-find_all.ensures.there
