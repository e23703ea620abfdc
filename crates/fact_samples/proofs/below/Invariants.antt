use Rattle.std.proofs.Common.{◌≡◌, ◌<◌, take}
use Rattle.fact_store.specs.Given.{states}
use Rattle.fact_samples.specs.Sample as sample
use Rattle.fact_samples.proofs.below.Given as goal

abbrev pub invariant-loop-input : goal.invariant-loop-input
invariant-loop-input l = record {
  is : l.digest ≡ sample.below (states (take l.input-index l.given));
  small : l.digest < 65536;
}
