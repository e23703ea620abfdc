use Rattle.std.proofs.Common.{sym}
use Rattle.std.specs.Prelude.{map}
use Rattle.tla_model.specs.EntityKinds.{is_instance}
use Rattle.tla_model.specs.Stretches.{shown}
use Rattle.name_exports.proofs.Keeping.{kept-next}
use Rattle.name_exports.proofs.exported.push_instances.Goals as goal

pub loop-index-preserved : goal.loop-index-preserved
loop-index-preserved c =
    kept-next is_instance (map shown c.args.found.now.items) (map shown c.loop-index.found.items) (map shown c.push_kept.new.found.items) c.is_instance.result c.args.words.now.entries c.loop-index.index
    c.in-Some.word.now c.in-Some.meaning.now c.loop-index.invariant (sym c.in-Some.ensures.entry) c.is_instance.ensures c.in_ok-push_kept.ensures
