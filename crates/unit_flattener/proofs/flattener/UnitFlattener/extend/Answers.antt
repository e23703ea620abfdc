use Rattle.std.proofs.Common.{subst}
use Rattle.unit_flattener.specs.Walked.{BringsAll}
use Rattle.unit_flattener.proofs.ExtensionLists.{all-extended, within-extended}
use Rattle.unit_flattener.proofs.flattener.UnitFlattener.extend.Goals as goal

pub returns-clause-extended : goal.returns-clause-extended
returns-clause-extended c =
    all-extended c.args.written.now c.args.self.now c.make_extensions.new.self c.bring_modules.new.self c.args.modules.now c.in_ok-instances.instances.items c.in_ok-instances.ensures.made c.in_ok-instances.ensures.others
    (subst (BringsAll c.args.written.now c.make_extensions.new.self c.bring_modules.new.self c.args.modules.now) c.as_slice.ensures.value c.in_ok-bring_modules.ensures.brings) c.in_ok-bring_modules.ensures.others

pub returns-clause-within : goal.returns-clause-within
returns-clause-within c =
    within-extended c.args.written.now c.args.self.now c.bring_modules.new.self c.args.modules.now c.requires.within
    (all-extended c.args.written.now c.args.self.now c.make_extensions.new.self c.bring_modules.new.self c.args.modules.now c.in_ok-instances.instances.items c.in_ok-instances.ensures.made c.in_ok-instances.ensures.others
    (subst (BringsAll c.args.written.now c.make_extensions.new.self c.bring_modules.new.self c.args.modules.now) c.as_slice.ensures.value c.in_ok-bring_modules.ensures.brings) c.in_ok-bring_modules.ensures.others)
