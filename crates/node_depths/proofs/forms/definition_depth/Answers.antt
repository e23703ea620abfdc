use Rattle.std.proofs.Common.{sym, ap, arith}
use Rattle.kind_table.specs.Flattened.{number_in}
use Rattle.kind_table.proofs.Lookups.{definition_gone, definition_got}
use Rattle.level_text.specs.Depth as text
use Rattle.node_depths.proofs.forms.definition_depth.Goals as goal

pub returns-in-Some-clause-value : goal.returns-in-Some-clause-value
returns-in-Some-clause-value c =
    let at_d = definition_got c.args.flat.now c.deref.result.now c.args.definition c.in-Some.body.now c.deref.ensures.value c.in-Some.ensures.lookup.3.0 c.in-Some.ensures.lookup.1 in
    let e = ap (text.depth_of (number_in c.args.depths.now)) at_d in omega (arith, c.depth_at.ensures.value, e)

pub returns-in-None-clause-value : goal.returns-in-None-clause-value
returns-in-None-clause-value c =
    sym (ap (text.depth_of (number_in c.args.depths.now)) (definition_gone c.args.flat.now c.deref.result.now c.args.definition c.deref.ensures.value c.in-None.ensures.lookup.3))
