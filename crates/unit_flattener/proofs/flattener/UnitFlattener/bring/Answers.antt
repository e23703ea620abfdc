use Rattle.std.proofs.Common.{◌∙◌, subst}
use Rattle.std.specs.List.{AllByRecursion}
use Rattle.tla_model.specs.Lexemes.{LiesIn}
use Rattle.declared_names.proofs.Nodewise.{tree-at}
use Rattle.unit_scope.proofs.UnitParts.{instance-lies}
use Rattle.unit_flattener.specs.declared.flattener.UnitFlattener.{UnitFlattener}
use Rattle.unit_flattener.proofs.PlacedInstances.{no-instance-walked, walked-as}
use Rattle.unit_flattener.proofs.flattener.UnitFlattener.bring.Goals as goal

pub bring_instance-requires-clause-whole : goal.bring_instance-requires-clause-whole
bring_instance-requires-clause-whole c =
    tree-at c.args.written.now.tree.now c.args.node c.requires.node.there (subst (AllByRecursion _) c.children-children.ensures.children c.children-children.ensures.before)

pub bring_instance-requires-clause-lies : goal.bring_instance-requires-clause-lies
bring_instance-requires-clause-lies c =
    instance-lies (LiesIn c.args.written.now.text.now.source) c.args.written.now.tree.now c.args.node c.in-Instance.«module» c.requires.node.there c.in-Instance.ensures c.requires.node.lie

pub returns-in_ok-pass-in_default : goal.returns-in_ok-pass-in_default
returns-in_ok-pass-in_default c =
    let written = c.args.written.now in
    let old = c.args.self.now in
    let new : UnitFlattener = record old { reader = c.pass.new.self } in
    walked-as written c.args.unit.now c.args.local c.args.node old old new c.requires.unit
    (no-instance-walked written c.args.node c.args.local old c.pass.new.self c.requires.node.there (λ l is. c.in_default.not-Instance l (c.form.ensures ∙ is)))
    c.in_ok-pass-in_default.ensures.state
