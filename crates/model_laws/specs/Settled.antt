-- While a module is read, it is known what stands behind each instance that it exports so far, and that one round it does.
use Rattle.std.specs.List.{AllByRecursion}
use Rattle.module_model.specs.Exports.{Known, exports_of}
use Rattle.module_model.specs.Given.{AreReached}
use Rattle.module_model.specs.Modules.{Reading}
use Rattle.module_model.specs.Resolution.{ReadState}

-- it is known what stands behind the instances that a module exports so far
abbrev pub IsKnown : Known → Reading → Type 0
IsKnown known reading = AreReached known (exports_of reading.exports)

-- the same of the module that is read, and of those round it
pub record IsSettled (state : ReadState) : Type 0 where
  pub here : IsKnown state.known state.place.here
  pub round : AllByRecursion (IsKnown state.known) state.place.round
