-- The texts of files agree with those of the part of them that some modules reach.
use Rattle.std.proofs.Common.{ℕ, List}
use Rattle.family_facts.specs.Facts.{texts_of}
use Rattle.family_facts.specs.Verdicts.{AreDistinct, family_of}
use Rattle.family_facts.specs.declared.verdict.File.{File}
use Rattle.family_facts.proofs.Needing.{HasNoOther}
use Rattle.family_facts.proofs.Once.{members-differ}
use Rattle.family_facts.proofs.Parts.{part, part-text}
use Rattle.family_facts.proofs.States.{needs-out}
use Rattle.family_tables.specs.Modules.{AreModules, Entry}
use Rattle.family_tables.specs.Plans.{IsClosed}
use Rattle.family_tables.specs.Tables.{has_name}
use Rattle.family_tables.proofs.Bridging.{all-needs}
use Rattle.leveled_facts.specs.Families.{AgreeOn, fact_of}

pub reached-agree : {T : Type 0} (one : HasNoOther) (files : List File) (distinct : AreDistinct files) (modules : List Entry) → AreModules (family_of files) modules → (reached : List (List ℕ × T)) → IsClosed modules reached → AgreeOn (texts_of (family_of files)) (texts_of (family_of (part (has_name reached) files distinct))) (has_name reached)
reached-agree one files distinct modules are reached closed = record {
  same = part-text (has_name reached) files distinct;
  closed = λ name need among h. closed name need among (all-needs one (family_of files) modules are name need (needs-out fact_of one (family_of files) (members-differ files distinct) name need h));
}
