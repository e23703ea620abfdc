use Rattle.std.proofs.Common.{◌∙◌, refl, sym, subst, ◌<◌, arith}
use Rattle.instance_parts.proofs.Gathers.{mark-gathered, mark-grown, set-apart, set-at, set-length}
use Rattle.instance_parts.proofs.reached.Gathering.mark.Goals as goal

pub returns-then-number-len-clause-gathering : goal.returns-then-number-len-clause-gathering
returns-then-number-len-clause-gathering c =
    record {
      sound = c.requires.gathering.sound;
      gathered = mark-gathered c.args.self.now.scope.now c.args.self.now.own c.args.self.now.parts c.args.self.now.seen.items c.args.number (subst (λ n. c.args.number < n) (sym c.requires.gathering.count) c.requires.there) c.requires.gathering.gathered;
      joined = c.requires.gathering.joined;
      count = set-length c.args.self.now.seen.items c.args.number ∙ c.requires.gathering.count;
    }

pub returns-then-number-len-clause-grown : goal.returns-then-number-len-clause-grown
returns-then-number-len-clause-grown c =
    record { scope = refl; grown = mark-grown c.args.self.now.scope.now c.args.self.now.own c.args.self.now.parts c.args.self.now.seen.items c.args.number (subst (λ n. c.args.number < n) (sym c.requires.gathering.count) c.requires.there) }

pub returns-then-number-len-clause-below : goal.returns-then-number-len-clause-below
returns-then-number-len-clause-below c = λ count less number within is.
    sym (set-apart c.args.self.now.seen.items c.args.number number (omega (arith, less, within))) ∙ is

pub returns-then-number-len-clause-seen : goal.returns-then-number-len-clause-seen
returns-then-number-len-clause-seen c = set-at c.args.self.now.seen.items c.args.number (subst (λ n. c.args.number < n) (sym c.requires.gathering.count) c.requires.there)
