use Rattle.std.proofs.Common.{List, take}
use Rattle.std.specs.List.{fold}
use Rattle.family_facts.specs.Family.{Member}
use Rattle.family_facts.specs.Verdicts.{built_in}
use Rattle.family_tables.specs.Modules.{AreModules, added}
use Rattle.family_read.proofs.read.add_all.Given as goal

abbrev pub invariant-loop-name : goal.invariant-loop-name
invariant-loop-name l = (members : List Member) → AreModules members l.initial.modules → AreModules (fold (λ found name. added found (built_in name.now)) members (take l.name-index l.names)) l.modules
