use Rattle.std.proofs.Common.{◌∙◌, ap, sym}
use Rattle.std.specs.Prelude.{nat_eq}
use Rattle.tla_model.specs.Tables.{added}
use Rattle.module_model.proofs.PartTables.{unite-next}
use Rattle.module_model.proofs.parts.Part.put_all.Goals as goal

pub loop-index-preserved : goal.loop-index-preserved
loop-index-preserved c =
    unite-next c.other.inside.instances.entries c.loop-index.index c.in-Some.place.now c.in-Some.exports.now c.loop-index.self c.put.new.self c.args.self.now c.args.other.now
    (sym c.in-Some.ensures.entry) (c.in_ok-put.ensures ∙ ap (λ z. added nat_eq c.loop-index.self c.in-Some.place.now z) c.in_ok-clone.ensures.cases) c.loop-index.invariant
