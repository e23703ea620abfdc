use Rattle.std.proofs.Common.{ℕ, List, take}
use Rattle.std.specs.Prelude.{Contains}
use Rattle.module_facts.specs.Checks.{given_in}
use Rattle.family_tables.specs.Agreement.{AreFrom}
use Rattle.family_tables.specs.Modules.{Entry}
use Rattle.family_tables.specs.Outcomes.{ImportsOnly, IsNeedTold}
use Rattle.family_tables.specs.Plans as plans
use Rattle.family_tables.specs.Plans.{IsPlan}
use Rattle.family_tables.proofs.imports.imports_of.Given as goal

abbrev pub invariant-loop-need : goal.invariant-loop-need
invariant-loop-need l = record {
  told : (modules : List Entry) → IsPlan modules l.plan → ((need : List ℕ) → Contains l.needs need → plans.Needs modules l.name need) → (need : List ℕ) → Contains (take l.need-index l.needs) need → IsNeedTold modules l.outcomes l.name need (given_in l.imported need);
  from : AreFrom l.outcomes l.imported;
  others : ImportsOnly (take l.need-index l.needs) l.imported;
}
