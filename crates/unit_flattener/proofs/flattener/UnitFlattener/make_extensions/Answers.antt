use Rattle.std.proofs.Common.{[], subst}
use Rattle.std.proofs.lemmas.List.{take_all}
use Rattle.tla_symbols.specs.declared.lexeme.LexKind.TheVariants.{Name}
use Rattle.unit_flattener.specs.Walked.{MakesExtensions}
use Rattle.unit_flattener.specs.Walking.{world_at}
use Rattle.unit_flattener.proofs.ExtensionLists.{extensions-next}
use Rattle.unit_flattener.proofs.GrowingState.{changes-on, within-grown}
use Rattle.unit_flattener.proofs.flattener.UnitFlattener.make_extensions.Goals as goal

pub make_extension-requires-clause-within : goal.make_extension-requires-clause-within
make_extension-requires-clause-within c =
    let made = c.loop-module.invariant.made in
    within-grown c.args.written.now.text.now c.args.self.now c.loop-module.self [] c.requires.within c.loop-module.invariant.others made.steps made.locals

pub loop-module-preserved : goal.loop-module-preserved
loop-module-preserved c = record {
  made = extensions-next c.args.written.now c.args.self.now c.loop-module.self c.make_extension.new.self c.args.modules.now c.loop-module.module-index (record { kind = Name; span = record { start = 0; end = 0 }; line = 0; col = 0 })
      c.loop-module.instances.items c.push.new.self.items c.in_ok-j.j c.loop-module-test.true c.requires.within.before.at.setting.there c.loop-module.invariant.made c.loop-module.invariant.others c.in_ok-j.ensures.made c.in_ok-push.ensures.items;
  others = changes-on c.args.self.now c.loop-module.self c.make_extension.new.self c.loop-module.invariant.others c.in_ok-j.ensures.others;
}

pub returns-clause-made : goal.returns-clause-made
returns-clause-made c =
    subst (λ names. MakesExtensions (world_at c.args.written.now c.args.self.now) c.args.self.now c.loop-module.self names c.loop-module.instances.items)
    (take_all c.loop-module.module-index c.args.modules.now c.loop-module-test.false) c.loop-module.invariant.made
