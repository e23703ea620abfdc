use Rattle.std.proofs.Common.{◌≡◌, ◌∙◌, List, ◌∷◌, [], ap, sym}
use Rattle.tla_model.specs.declared.names.Meaning.TheVariants.{Declared}
use Rattle.module_model.specs.Exports.{and_known}
use Rattle.instance_leads.specs.declared.ended.Ended.{Ended}
use Rattle.instance_leads.specs.Found.{known_here}
use Rattle.instance_leads.specs.Leading.{known_in}
use Rattle.instance_leads.proofs.Naming.{on-so}
use Rattle.instance_leads.proofs.imports.put_meant.Goals as goal

pub returns-in-Declared-clause-known : goal.returns-in-Declared-clause-known
returns-in-Declared-clause-known c =
    on-so ((nested : List Ended) → known_in nested c.put_called.new.more ≡ and_known (known_in nested c.args.more.now) (known_here c.args.face.now (Declared c.in-Declared.entity c.in-Declared.callee ∷ [])))
    ((nested : List Ended) → known_in nested c.put_called.new.more ≡ and_known (known_in nested c.args.more.now) (known_here c.args.face.now (c.args.meaning.now ∷ []))) c.put_called.result
    (λ known nested. known nested ∙ ap (λ m. and_known (known_in nested c.args.more.now) (known_here c.args.face.now (m ∷ []))) (sym c.in-Declared.is))
    c.put_called.ensures.known
