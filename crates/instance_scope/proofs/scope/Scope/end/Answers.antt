use Rattle.std.proofs.Common.{refl}
use Rattle.module_model.specs.Exports.{exports_of}
use Rattle.name_context.specs.AsTables.{context_of}
use Rattle.instance_leads.specs.declared.ended.Ended.{Ended}
use Rattle.instance_scope.proofs.NestedEnds.{kept-end, known-found, same-known, sound-end, view-after}
use Rattle.instance_scope.proofs.scope.Scope.end.Goals as goal

pub kept_leads-requires : goal.kept_leads-requires
kept_leads-requires c = known-found c.args.self.now.nested.items c.args.self.now.known (exports_of c.args.exports) c.requires.reached

pub returns-clause-sound : goal.returns-clause-sound
returns-clause-sound c =
    let ended : Ended = record { exports = c.args.exports; parameters = c.in_ok-parameters.parameters; instances = c.in_ok-instances.instances } in
    sound-end c.args.self.now (record c.args.self.now { nested = c.push.new.self }) ended c.requires.sound c.in_ok-instances.ensures.known c.in_ok-instances.ensures.told c.in_ok-push.ensures.items refl refl refl

pub returns-clause-kept : goal.returns-clause-kept
returns-clause-kept c =
    let ended : Ended = record { exports = c.args.exports; parameters = c.in_ok-parameters.parameters; instances = c.in_ok-instances.instances } in
    kept-end c.args.self.now (record c.args.self.now { nested = c.push.new.self }) ended c.requires.sound c.in_ok-instances.ensures.known c.in_ok-instances.ensures.told c.in_ok-push.ensures.items refl refl refl refl refl

pub returns-clause-known : goal.returns-clause-known
returns-clause-known c =
    let ended : Ended = record { exports = c.args.exports; parameters = c.in_ok-parameters.parameters; instances = c.in_ok-instances.instances } in
    same-known c.args.self.now (record c.args.self.now { nested = c.push.new.self }) ended c.requires.sound c.in_ok-instances.ensures.known c.in_ok-instances.ensures.told c.in_ok-push.ensures.items refl refl refl

pub returns-clause-view : goal.returns-clause-view
returns-clause-view c =
    let ended : Ended = record { exports = c.args.exports; parameters = c.in_ok-parameters.parameters; instances = c.in_ok-instances.instances } in
    view-after c.args.self.now (record c.args.self.now { nested = c.push.new.self }) ended c.requires.sound c.in_ok-instances.ensures.known c.in_ok-instances.ensures.told c.in_ok-push.ensures.items refl refl refl
    (context_of c.args.context.now) c.in_ok-parameters.ensures
