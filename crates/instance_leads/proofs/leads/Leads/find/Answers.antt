use Rattle.std.proofs.Common.{◌∙◌}
use Rattle.tla_model.specs.Entities.{same_decl}
use Rattle.tla_model.specs.Tables.{lookup}
use Rattle.instance_leads.specs.Keys.{decl_of}
use Rattle.instance_leads.proofs.Noting.{lookup-noted}
use Rattle.instance_leads.proofs.leads.Leads.find.Goals as goal

pub returns-in-Some : goal.returns-in-Some
returns-in-Some c =
    c.in-Some.ensures.value ∙ lookup-noted c.self.inside.entries.entries c.args.«module».now c.args.place
    ∙ (λ i. lookup same_decl (c.self.view_is i) (decl_of c.args.«module».now c.args.place))

pub returns-in-None : goal.returns-in-None
returns-in-None c =
    c.in-None.ensures.value ∙ lookup-noted c.self.inside.entries.entries c.args.«module».now c.args.place
    ∙ (λ i. lookup same_decl (c.self.view_is i) (decl_of c.args.«module».now c.args.place))
