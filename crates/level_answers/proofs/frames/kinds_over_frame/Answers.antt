use Rattle.std.proofs.Common.{ap, ◌∙◌, map, subst}
use Rattle.kind_table.specs.Flattened.{flat_of}
use Rattle.level_facts.specs.Facts.{AreKinds, argument_item}
use Rattle.level_answers.proofs.frames.kinds_over_frame.Goals as goal

pub returns-clause-kinds : goal.returns-clause-kinds
returns-clause-kinds c =
    let m = flat_of c.args.flat.now in
    subst (λ s. AreKinds m s c.args.start c.args.end c.in_ok-kinds.kinds.items) (ap (map (argument_item m)) c.deref.ensures.value ∙ c.in_ok-arguments.ensures m) c.in_ok-kinds.ensures.kinds
