use Rattle.std.proofs.Common.{ap, ◌∙◌, refl, arith}
use Rattle.std.proofs.lemmas.Option.{slice_get_read}
use Rattle.kind_table.specs.Flattened.{flat_of}
use Rattle.level_answers.specs.Found.{found_kind}
use Rattle.found_levels.proofs.Covering.{kind-covered, kind-past, past-in}
use Rattle.found_levels.proofs.stretches.kind_in.Goals as goal

pub returns-then-node-len-clause-kind : goal.returns-then-node-len-clause-kind
returns-then-node-len-clause-kind c = λ round e. kind-past (flat_of c.args.flat.now) round c.args.node (past-in c.args.flat.now c.args.node (omega (arith, c.len.ensures, c.if-node-len.true)))

pub returns-clause-kind : goal.returns-clause-kind
returns-clause-kind c = λ round e.
    let s = c.index-stretch.result.now in let kept = c.in_ok-prepare.ensures.kept in
    let at = slice_get_read c.prepare.new.kept.items _ c.args.frame s refl (omega (arith, kept.long, c.if-frame-frames.false)) c.index-stretch.ensures in
    c.kind_of.ensures ∙ ap (λ ks. found_kind s.start ks c.args.node) c.deref.ensures.value
    ∙ kind-covered (flat_of c.args.flat.now) round c.args.node s (kept.each c.args.frame round s e at) (c.in_ok-prepare.ensures.ready s at)
