use Rattle.std.proofs.Common.{refl, arith}
use Rattle.found_levels.specs.declared.stretches.Stretch.{Stretch}
use Rattle.found_levels.proofs.Covering.{each-more, long-more}
use Rattle.found_levels.proofs.stretches.no_stretches.Goals as goal

pub loop-frame-preserved : goal.loop-frame-preserved
loop-frame-preserved c =
    let inv = c.loop-frame.invariant in let s : Stretch = record { start = 0; kinds = c.new.result } in record {
      long = long-more c.loop-frame.kept.items c.push.new.self.items s c.loop-frame._frame c.in_ok-push.ensures.items inv.long;
      each = each-more c.loop-frame.kept.items c.push.new.self.items s c.in_ok-push.ensures.items refl c.new.ensures.items inv.each;
    }

pub returns : goal.returns
returns c = λ flat all e. record {
  long = omega (arith, c.loop-frame.invariant.long, c.loop-frame-test.false, c.loop-frame.auto._frame-end, e);
  each = λ i frame s at_frame at_kept. c.loop-frame.invariant.each flat frame i s at_kept;
}
