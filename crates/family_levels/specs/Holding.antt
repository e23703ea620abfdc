-- Versions that are kept from one check to the next.
use Rattle.std.specs.Prelude.{Option, Some, None}
use Rattle.leveled_modules.specs.Leveled.{AreKept}
use Rattle.family_levels.specs.declared.versions.Versions.{Versions}
use Rattle.tree_numbers.specs.Numbered.{IsNumbered}
use Rattle.family_levels.specs.Versions.{AreHeld}

-- this was found of all of them, with what they are to the levels of others
abbrev pub HoldVersions : Option Versions → Type 0
HoldVersions None = Unit {0}
HoldVersions (Some versions) = AreKept versions.nodes.known × IsNumbered versions.nodes.known.tables.state.flat versions.nodes.trees × AreHeld versions.nodes.known versions.nodes.next versions.modules
