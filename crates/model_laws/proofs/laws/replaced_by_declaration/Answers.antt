use Rattle.model_laws.proofs.Replacing.{by-declaration}
use Rattle.model_laws.proofs.laws.replaced_by_declaration.Goals as goal

pub returns : goal.returns
returns c = by-declaration
