-- What laws above ask of the answers of modules, passed on with what is said here.
pub use Rattle.module_answers.specs.Deep.{AreUnitsArranged, IsArrangedBringing, IsBegunArranged, IsDeepBehind, IsDeepBehindBy, IsDeepFile, IsDeepFileBy, IsDeepSo, IsModuleArranged, IsUnitArranged, SeenStayDeep}
pub use Rattle.module_answers.specs.Shaped.{AreUnitsShaped, IsModuleShaped, IsShapedInstance, IsUnitShaped}
