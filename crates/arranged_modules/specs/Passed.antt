-- What laws above ask of given modules and of depths, passed on with what is said here.
pub use Rattle.given_modules.specs.Passed.{Behinds, IsForeign, IsForeignView, with_own}
pub use Rattle.given_modules.specs.Good.{AreGoodFiles, IsFaultless, IsGoodFile, face_of}
pub use Rattle.given_modules.specs.Nested.{IsModuleBringing}
pub use Rattle.given_modules.specs.Others.{BringsOthers, IsNamedOf}
pub use Rattle.given_modules.specs.Yielding.{with_own_yields}
pub use Rattle.given_modules.specs.Passed.{AreSymbolsPlain, GivenDepths, IsGivenOutside, declared_depth, no_reach}
pub use Rattle.given_modules.specs.Passed.{with_own_depths}
pub use Rattle.flattened_units.specs.Units.{IsModuleMade, Reader, no_face}
pub use Rattle.given_modules.specs.Passed.{IsModuleGiven}
pub use Rattle.readable_laws.specs.Uses.{implied_by, means_by}
