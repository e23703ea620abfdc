use Rattle.std.proofs.Common.{◌∙◌}
use Rattle.tla_model.specs.Entities.{same_decl}
use Rattle.tla_model.specs.Tables.{lookup}
use Rattle.instance_leads.specs.Keys.{decl_of}
use Rattle.instance_leads.proofs.Noting.{lookup-noted}
use Rattle.instance_leads.proofs.leads.Leads.get.Goals as goal

pub returns : goal.returns
returns c =
    c.copied.ensures ∙ c.get.ensures.value ∙ lookup-noted c.self.inside.entries.entries c.as_str.result.now c.args.decl.now.place
    ∙ (λ i. lookup same_decl (c.self.view_is i) (decl_of (c.as_str.ensures i) c.args.decl.now.place))
