use Rattle.std.proofs.Common.{ap, ◌∙◌, refl, arith}
use Rattle.std.proofs.lemmas.Option.{slice_get_read}
use Rattle.kind_table.specs.Flattened.{flat_of}
use Rattle.level_answers.specs.Found.{is_refused}
use Rattle.found_levels.proofs.Covering.{refused-covered, refused-past, past-in}
use Rattle.found_levels.proofs.stretches.is_refused_in.Goals as goal

pub returns-then-node-len-clause-refused : goal.returns-then-node-len-clause-refused
returns-then-node-len-clause-refused c = λ round e. refused-past (flat_of c.args.flat.now) round c.args.node (past-in c.args.flat.now c.args.node (omega (arith, c.len.ensures, c.if-node-len.true)))

pub returns-clause-refused : goal.returns-clause-refused
returns-clause-refused c = λ round e.
    let m = flat_of c.args.flat.now in let s = c.index-stretch.result.now in let kept = c.in_ok-prepare.ensures.kept in
    let at = slice_get_read c.prepare.new.kept.items _ c.args.frame s refl (omega (arith, kept.long, c.if-frame-frames.false)) c.index-stretch.ensures in
    c.is_refused.ensures ∙ ap (λ ks. is_refused m s.start ks c.args.node) c.deref.ensures.value
    ∙ refused-covered m round c.args.node c.requires.ordered s (kept.each c.args.frame round s e at) (c.in_ok-prepare.ensures.ready s at)
