use Rattle.std.proofs.Common.{◌∙◌, ap, arith}
use Rattle.tree_flattener.specs.Making.{segment_of}
use Rattle.tree_flattener.proofs.MadeForms.{head-is}
use Rattle.tree_flattener.proofs.forms.head_of.Goals as goal

pub returns-in-len1-up : goal.returns-in-len1-up
returns-in-len1-up c = c.segment_of.ensures ∙ ap segment_of c.form.ensures ∙ head-is c.args.tree.now c.args.segments.now 0 (omega arith) c.requires
