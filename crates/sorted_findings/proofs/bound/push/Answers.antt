use Rattle.std.proofs.Common.{refl}
use Rattle.std.proofs.lemmas.Result.{on_ok_weaker}
use Rattle.tla_model.specs.declared.names.Finding.TheVariants.{Clashes, Implied, InstanceClashes, NotReplaceable, ReplacedTwice, Taken, Unknown, Unreplaced}
use Rattle.sorted_findings.proofs.Sorting.{more-fault, more-implied}
use Rattle.sorted_findings.proofs.bound.push.Goals as goal

pub returns-in-Unknown : goal.returns-in-Unknown
returns-in-Unknown c =
    on_ok_weaker c.push_fault.result (more-fault c.args.finding (Unknown c.in-Unknown.at) c.args.bound.now c.push_fault.new.faults c.in-Unknown.is refl refl) c.push_fault.ensures

pub returns-in-Taken : goal.returns-in-Taken
returns-in-Taken c =
    on_ok_weaker c.push_fault-in-Taken.result (more-fault c.args.finding (Taken c.in-Taken.at) c.args.bound.now c.push_fault-in-Taken.new.faults c.in-Taken.is refl refl) c.push_fault-in-Taken.ensures

pub returns-in-Clashes : goal.returns-in-Clashes
returns-in-Clashes c =
    on_ok_weaker c.push_fault-in-Clashes.result (more-fault c.args.finding (Clashes c.in-Clashes.at) c.args.bound.now c.push_fault-in-Clashes.new.faults c.in-Clashes.is refl refl) c.push_fault-in-Clashes.ensures

pub returns-in-InstanceClashes : goal.returns-in-InstanceClashes
returns-in-InstanceClashes c =
    on_ok_weaker c.push_fault-in-InstanceClashes.result (more-fault c.args.finding (InstanceClashes c.in-InstanceClashes.at) c.args.bound.now c.push_fault-in-InstanceClashes.new.faults c.in-InstanceClashes.is refl refl) c.push_fault-in-InstanceClashes.ensures

pub returns-in-NotReplaceable : goal.returns-in-NotReplaceable
returns-in-NotReplaceable c =
    on_ok_weaker c.push_fault-in-NotReplaceable.result (more-fault c.args.finding (NotReplaceable c.in-NotReplaceable.at) c.args.bound.now c.push_fault-in-NotReplaceable.new.faults c.in-NotReplaceable.is refl refl) c.push_fault-in-NotReplaceable.ensures

pub returns-in-ReplacedTwice : goal.returns-in-ReplacedTwice
returns-in-ReplacedTwice c =
    on_ok_weaker c.push_fault-in-ReplacedTwice.result (more-fault c.args.finding (ReplacedTwice c.in-ReplacedTwice.at) c.args.bound.now c.push_fault-in-ReplacedTwice.new.faults c.in-ReplacedTwice.is refl refl) c.push_fault-in-ReplacedTwice.ensures

pub returns-in-Unreplaced : goal.returns-in-Unreplaced
returns-in-Unreplaced c =
    on_ok_weaker c.push_fault-in-Unreplaced.result (more-fault c.args.finding (Unreplaced c.in-Unreplaced.at) c.args.bound.now c.push_fault-in-Unreplaced.new.faults c.in-Unreplaced.is refl refl) c.push_fault-in-Unreplaced.ensures

pub returns-in-Implied : goal.returns-in-Implied
returns-in-Implied c =
    on_ok_weaker c.push_implied.result (more-implied c.args.finding (Implied c.in-Implied.at c.in-Implied.parameter c.in-Implied.meaning) c.args.bound.now c.push_implied.new.implied c.in-Implied.is refl refl) c.push_implied.ensures
