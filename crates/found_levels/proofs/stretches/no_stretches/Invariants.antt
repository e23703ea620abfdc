use Rattle.std.proofs.Common.{◌≡◌, ℕ, List, Some, length}
use Rattle.std.specs.Prelude.{slice_get}
use Rattle.tla_model.specs.Entities.{Meaning}
use Rattle.kind_text.specs.FlatModule.{FlatModule}
use Rattle.found_levels.specs.declared.stretches.Stretch.{Stretch}
use Rattle.found_levels.specs.Stretches.{IsStretch}
use Rattle.found_levels.proofs.stretches.no_stretches.Given as goal

abbrev pub invariant-loop-frame : goal.invariant-loop-frame
invariant-loop-frame l = record {
  long : length l.kept.items ≡ l._frame;
  each : (flat : FlatModule) (frame : List Meaning) (i : ℕ) (s : Stretch) → slice_get l.kept.items i ≡ Some s → IsStretch flat frame s;
}
