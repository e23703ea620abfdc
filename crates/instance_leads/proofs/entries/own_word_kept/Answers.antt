use Rattle.std.proofs.Common.{◌∙◌, sym, ap}
use Rattle.instance_leads.specs.Found.{if_kept, of_kind}
use Rattle.instance_leads.proofs.Naming.{word-kept}
use Rattle.instance_leads.proofs.entries.own_word_kept.Goals as goal

pub returns : goal.returns
returns c = c.keep.ensures ∙ ap (if_kept (of_kind c.args.kind)) c.get.ensures.meaning ∙ sym (word-kept (of_kind c.args.kind) c.args.exports.now.words c.args.word.now c.get.ensures.once)
