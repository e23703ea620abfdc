use Rattle.std.proofs.Common.{ℕ, Option}
use Rattle.family_levels.specs.Versions.{AreVersions, Shown}
use Rattle.family_levels.proofs.versions.Versions.with_others.Given as goal

abbrev pub invariant-loop-index : goal.invariant-loop-index
invariant-loop-index l = (shown : ℕ → Option Shown) × AreVersions l.nodes.known shown l.nodes.next l.versions × AreVersions l.nodes.known shown l.nodes.next l.old
