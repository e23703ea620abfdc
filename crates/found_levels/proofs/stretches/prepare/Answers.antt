use Rattle.std.proofs.Common.{subst, sym}
use Rattle.kind_table.specs.Flattened.{flat_of}
use Rattle.found_levels.specs.Stretches.{Covers, IsStretch}
use Rattle.found_levels.proofs.Covering.{frame-read, kept-set, set-here}
use Rattle.found_levels.proofs.stretches.prepare.Goals as goal

pub returns-clause-kept : goal.returns-clause-kept
returns-clause-kept c =
    let m = flat_of c.args.flat.now in let s = c.in_ok-stretch.stretch in
    kept-set m c.args.frames.now c.args.kept.now.items c.args.frame s
    (λ frame e. subst (λ f. IsStretch m f s) (frame-read c.args.frames.now c.args.frame c.index-frames-frame.result c.as_slice.result.now frame c.requires.frame c.index-frames-frame.is c.as_slice.ensures e) c.in_ok-stretch.ensures.kinds)
    c.requires.kept

pub returns-clause-ready : goal.returns-clause-ready
returns-clause-ready c = λ s e. subst (λ x. Covers (flat_of c.args.flat.now) x c.args.node) (sym (set-here c.args.kept.now.items c.args.frame s c.in_ok-stretch.stretch e)) c.in_ok-stretch.ensures.covers
