use Rattle.instance_parts.proofs.Gathereds.{not-true, seen-done, unseen-done}
use Rattle.instance_parts.proofs.reached.Gathering.reach_seen.Goals as goal

pub returns-clause-done : goal.returns-clause-done
returns-clause-done c = seen-done c.args.self.now c.reach_nested.new.self c.args.number c.in_ok-reach_nested.ensures.grown c.in_ok-reach_nested.ensures.below c.in_ok-reach_nested.ensures.done c.requires.done

pub returns-then-not-is_seen-clause-done : goal.returns-then-not-is_seen-clause-done
returns-then-not-is_seen-clause-done c = unseen-done c.args.self.now c.args.number (λ seen. not-true c.is_seen.result (c.is_seen.ensures.1 seen) c.if-not-is_seen.true) c.requires.done
