use Rattle.kind_table.specs.Flattened.{flat_of}
use Rattle.module_leads.specs.Faces.{faces_of}
use Rattle.module_leads.proofs.Likeness.{leads-same}
use Rattle.module_leads.proofs.alike.faces_alike.Goals as goal

pub returns-clause-found : goal.returns-clause-found
returns-clause-found c = λ exact here there same.
    c.in_ok-same.ensures.alike.found exact (λ names. (here names, there names)) (leads-same (flat_of c.args.flat.now) (faces_of c.args.faces.now c.args.one) (faces_of c.args.faces.now c.args.other) same)
