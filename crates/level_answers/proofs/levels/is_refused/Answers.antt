use Rattle.std.proofs.Common.{None, Some, ap, ◌∙◌, sym}
use Rattle.std.specs.Prelude.{is_some}
use Rattle.std.specs.List.{list_all}
use Rattle.kind_table.specs.Flattened.{flat_of, node_of}
use Rattle.kind_table.proofs.Lookups.{node_gone, node_got}
use Rattle.level_answers.specs.Found.{found_kind}
use Rattle.level_answers.proofs.Answering.{refused_when}
use Rattle.level_answers.proofs.levels.is_refused.Goals as goal

pub returns-in-Some : goal.returns-in-Some
returns-in-Some c =
    let kinds = c.args.kinds.now in
    let there = node_got c.args.flat.now c.deref.result.now c.args.node c.in-Some.here.now c.deref.ensures.value c.in-Some.ensures.lookup.3.0 c.in-Some.ensures.lookup.1 in
    c.have_kinds.ensures ∙ ap (list_all (λ i. is_some (found_kind c.args.start kinds i))) c.deref-in-Some.ensures.value
    ∙ refused_when (flat_of c.args.flat.now) c.args.start kinds c.args.node (Some (node_of c.args.flat.now.paths.items c.in-Some.here.now)) (ap is_some (sym c.kind_of.ensures) ∙ sym c.if-is_some.ensures) there

pub returns-in-None : goal.returns-in-None
returns-in-None c =
    let gone = node_gone c.args.flat.now c.deref.result.now c.args.node c.deref.ensures.value c.in-None.ensures.lookup.3 in
    refused_when (flat_of c.args.flat.now) c.args.start c.args.kinds.now c.args.node None (ap is_some (sym c.kind_of.ensures) ∙ sym c.if-is_some.ensures) gone
