use Rattle.std.proofs.Common.{sym, ap, arith}
use Rattle.std.specs.Prelude.{slice_get}
use Rattle.kind_table.specs.Flattened.{flat_of, number_in}
use Rattle.kind_table.proofs.Lookups.{instance_gone, instance_got}
use Rattle.level_text.specs.Depth as text
use Rattle.node_depths.proofs.Greatest.{replaced_read}
use Rattle.node_depths.proofs.forms.instance_depth.Goals as goal

pub returns-in-Some-clause-value : goal.returns-in-Some-clause-value
returns-in-Some-clause-value c =
    let f = number_in c.args.depths.now in let o = slice_get (flat_of c.args.flat.now).instances c.args.instance in
    let at_j = instance_got c.args.flat.now c.deref.result.now c.args.instance c.in-Some.instance.now c.deref.ensures.value c.in-Some.ensures.lookup.3.0 c.in-Some.ensures.lookup.1 in
    let r = replaced_read f o c.in-Some.instance.now c.deref-in-Some.result.now c.greatest_root.result at_j c.deref-in-Some.ensures.value c.greatest_root.ensures.value in
    let e = ap (text.instance_depth f) at_j in let d = ap (text.replaced_depth f) at_j in omega (arith, r, e, d)

pub returns-in-None-clause-value : goal.returns-in-None-clause-value
returns-in-None-clause-value c =
    sym (ap (text.instance_depth (number_in c.args.depths.now)) (instance_gone c.args.flat.now c.deref.result.now c.args.instance c.deref.ensures.value c.in-None.ensures.lookup.3))
