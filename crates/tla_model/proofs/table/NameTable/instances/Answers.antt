use Rattle.std.proofs.Common.{◌∙◌, ◌++◌, ap}
use Rattle.std.specs.Prelude.{map}
use Rattle.tla_model.specs.EntityKinds.{is_instance, words_meant}
use Rattle.tla_model.specs.Stretches.{shown}
use Rattle.tla_model.proofs.Noting.{meant-next}
use Rattle.tla_model.proofs.table.NameTable.instances.Goals as goal

pub loop-stretch-preserved : goal.loop-stretch-preserved
loop-stretch-preserved c =
    let now = map shown c.loop-stretch.found.items in
    meant-next is_instance c.as_slice-stretch-items.result.now c.loop-stretch.stretch-index c.stretch-item.result now (map shown c.push_instances.new.found.items) (words_meant is_instance c.args.self.now.words)
    c.loop-stretch.invariant c.loop-stretch-test.true c.stretch-item.is (c.in_ok-push_instances.ensures ∙ ap (λ z. now ++ words_meant is_instance z) c.deref.ensures)
