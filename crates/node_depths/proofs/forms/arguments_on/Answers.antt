use Rattle.std.proofs.Common.{ap, ◌∙◌, take, get_or, arith}
use Rattle.std.proofs.lemmas.List.{take_more}
use Rattle.kind_table.specs.Flattened.{flat_of}
use Rattle.level_text.specs.Depth as text
use Rattle.node_depths.proofs.Greatest.{parameters-push}
use Rattle.node_depths.proofs.forms.arguments_on.Goals as goal

pub loop-instance-preserved : goal.loop-instance-preserved
loop-instance-preserved c =
    let m = flat_of c.args.flat.now in let path = c.args.path.now in let k = c.loop-instance.instance-index in
    let p = ap (text.parameters_on m (λ i. 0)) (take_more path k 0 c.loop-instance-test.true) ∙ parameters-push m (λ i. 0) (take k path) (get_or path k 0) in
    (omega (arith, p, c.loop-instance.invariant, c.parameters_of.ensures, c.min-taken.ensures), omega (arith, c.loop-instance.invariant, c.min-taken.ensures))
