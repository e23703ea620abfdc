use Rattle.tla_symbols.specs.declared.lexeme.LexKind.TheVariants.{Name}
use Rattle.unit_flattener.proofs.ExtensionLists.{brings-next}
use Rattle.unit_flattener.proofs.GrowingState.{changes-leads-on}
use Rattle.unit_flattener.proofs.flattener.UnitFlattener.bring_modules.Goals as goal

pub loop-index-preserved : goal.loop-index-preserved
loop-index-preserved c = record {
  brings = brings-next c.args.written.now c.args.self.now c.loop-index.self c.bring_module.new.self c.args.modules.now c.args.instances.now c.loop-index.index
      (record { kind = Name; span = record { start = 0; end = 0 }; line = 0; col = 0 }) c.loop-index-test.true c.requires.each c.loop-index.invariant.brings c.loop-index.invariant.others c.in_ok-bring_module.ensures.brings;
  others = changes-leads-on c.args.self.now c.loop-index.self c.bring_module.new.self c.loop-index.invariant.others c.in_ok-bring_module.ensures.others;
}
