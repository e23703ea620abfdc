use Rattle.std.proofs.Common.{◌∙◌, sym}
use Rattle.name_context.specs.AsTables.{meant_by}
use Rattle.module_model.proofs.Entries.{entry-of-table}
use Rattle.instance_leads.proofs.entries.meant_among.Goals as goal

pub returns : goal.returns
returns c = c.get.ensures.meaning ∙ sym (entry-of-table c.args.exports.now (meant_by c.args.name))
