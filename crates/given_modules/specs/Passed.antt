-- What laws above ask of accepted modules, of their meanings, depths and shapes, passed on with what is said here.
pub use Rattle.accepted_modules.specs.Behind.{Behinds, IsForeign, IsForeignView, with_own}
pub use Rattle.accepted_modules.specs.Faces.{FacesReadAs}
pub use Rattle.accepted_modules.specs.Named.{AllNamed}
pub use Rattle.accepted_modules.specs.States.{kinds_behind}
pub use Rattle.given_depths.specs.Given.{AreEndsGiven, AreModulesGiven, ArePlainNames, AreSeenGiven, AreSymbolsPlain, GivenDepths, Gives, IsGivenOutside, declared_depth, no_reach}
pub use Rattle.given_depths.specs.Own.{AreOwnApart, HasOwnNames, IsOfNone, IsOfOthers, if_replaced, with_own_depths}
pub use Rattle.grammar_shapes.specs.Instances.{HoldThrough, HoldsAmong, HoldsIn, HoldsOf, HoldsThrough}
pub use Rattle.grammar_shapes.specs.Units.{IsArrangedUnit, IsArrangedWith}
pub use Rattle.module_meanings.specs.Faces.{IsFaceWithin}
pub use Rattle.module_meanings.specs.Premises.{AreUnitsGiven, IsEndGiven, IsFileAt, IsModuleGiven, IsUnitGivenBy, extended_meanings, first_seen, seen_behind}
pub use Rattle.given_depths.specs.Passed.{AreUnitsArranged, IsArrangedBringing, IsBegunArranged, IsDeepBehind, IsDeepBehindBy, IsDeepFile, IsDeepFileBy, IsDeepSo, IsModuleArranged, IsUnitArranged, SeenStayDeep, AreUnitsShaped, IsModuleShaped, IsUnitShaped}
