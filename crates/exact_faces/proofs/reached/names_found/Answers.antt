use Rattle.std.proofs.Common.{ap, subst, sym, ◌∙◌}
use Rattle.module_model.specs.Exports.{exports_of}
use Rattle.exact_faces.specs.Searching.{IsFound, OfAll, shown}
use Rattle.exact_faces.proofs.Searching.{all-found}
use Rattle.exact_faces.proofs.reached.names_found.Goals as goal

pub returns : goal.returns
returns c = λ are. all-found c.args.found.now (exports_of c.args.table.now) (shown c.as_slice.result.now) (ap shown c.as_slice.ensures.value ∙ c.in_ok-meanings.ensures) (c.are_found.ensures are)
