use Rattle.std.proofs.Common.{◌∙◌, sym, ap}
use Rattle.instance_leads.specs.Found.{if_kept, of_kind}
use Rattle.instance_leads.proofs.Naming.{among-all, word-kept}
use Rattle.instance_leads.proofs.entries.word_kept.Goals as goal

pub returns : goal.returns
returns c =
    c.keep.ensures ∙ ap (if_kept (of_kind c.args.kind)) (c.word_among.ensures ∙ among-all c.args.table.now.words c.len.result c.args.word.now c.len.ensures.len)
    ∙ sym (word-kept (of_kind c.args.kind) c.args.table.now.words c.args.word.now c.len.ensures.once)
