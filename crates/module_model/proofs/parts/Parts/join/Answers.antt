use Rattle.std.proofs.Common.{sym, subst, ◌∷◌, []}
use Rattle.std.specs.Arc.{arc_value}
use Rattle.module_model.specs.Parts.{AreJoined}
use Rattle.module_model.proofs.PartTables.{join-next}
use Rattle.module_model.proofs.parts.Parts.join.Goals as goal

pub loop-index-preserved : goal.loop-index-preserved
loop-index-preserved c =
    join-next c.other.inside.texts.entries c.loop-index.index c.in-Some.title.now c.in-Some.part.now c.loop-index.self c.join_part.new.self c.args.self.now c.args.other.now
    c.len-index-end.ensures.unique (sym c.in-Some.ensures.entry)
    (subst (λ title. AreJoined c.join_part.new.self c.loop-index.self ((title, arc_value c.in-Some.part.now) ∷ [])) c.as_str.ensures.value c.in_ok-join_part.ensures) c.loop-index.invariant
