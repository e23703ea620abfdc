use Rattle.std.proofs.Common.{◌∙◌, ap, sym}
use Rattle.std.specs.Prelude.{is_some}
use Rattle.tla_model.specs.Entities.{same_decl}
use Rattle.tla_model.specs.Tables.{lookup}
use Rattle.instance_leads.specs.Keys.{decl_of, leads_of}
use Rattle.instance_leads.proofs.Noting.{key-same, lookup-noted}
use Rattle.instance_leads.proofs.leads.key_of.Goals as goal

pub returns-in_default-clause-there : goal.returns-in_default-clause-there
returns-in_default-clause-there c =
    let rows = c.args.entries.now.entries in
    c.in_default.ensures.found ∙ ap is_some (lookup-noted rows c.as_str.result.now c.args.decl.now.place ∙ (λ i. lookup same_decl (leads_of rows) (decl_of (c.as_str.ensures i) c.args.decl.now.place)))

pub returns-clause-key : goal.returns-clause-key
returns-clause-key c =
    key-same c.args.entries.now.entries c.in-Some.index c.in-Some-get_index.key.now c.in-Some-get_index.field-0-1.now c.as_str.result.now c.args.decl.now c.in-Some.ensures.index c.as_str.ensures (sym c.in-Some-get_index.ensures.entry)

pub returns-clause-there : goal.returns-clause-there
returns-clause-there c =
    let rows = c.args.entries.now.entries in
    c.in-Some.ensures.found ∙ ap is_some (lookup-noted rows c.as_str.result.now c.args.decl.now.place ∙ (λ i. lookup same_decl (leads_of rows) (decl_of (c.as_str.ensures i) c.args.decl.now.place)))
