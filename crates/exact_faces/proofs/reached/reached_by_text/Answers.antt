use Rattle.std.proofs.Common.{subst}
use Rattle.module_model.specs.Exports.{exports_of}
use Rattle.exact_faces.specs.Exact.{First, IsNamed}
use Rattle.exact_faces.proofs.reached.reached_by_text.Goals as goal

pub find_named-requires-clause-reached : goal.find_named-requires-clause-reached
find_named-requires-clause-reached c = λ decl named. First (subst (λ table. IsNamed (exports_of table) decl) c.deref.ensures named)
