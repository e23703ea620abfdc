use Rattle.std.proofs.Common.{◌∙◌, sym, subst}
use Rattle.module_model.specs.Exports.{exports_of}
use Rattle.module_model.specs.Given.{AreReached}
use Rattle.instance_scope.specs.declared.scope.Scope.{Scope}
use Rattle.instance_parts.specs.Parts.{AreParts}
use Rattle.instance_scope.specs.Scoped.{known_of}
use Rattle.instance_parts.proofs.Gathereds.{all-done, roots-on}
use Rattle.instance_parts.proofs.Parting.{are-parts}
use Rattle.instance_parts.proofs.reached.reached_from.Goals as goal

pub reach_exported-requires-clause-reached : goal.reach_exported-requires-clause-reached
reach_exported-requires-clause-reached c = subst (λ (s : Scope). AreReached (known_of s) (exports_of c.args.exports.now)) (sym c.in_ok-gathering.ensures.scope) c.requires.reached

pub returns : goal.returns
returns c =
    let g = c.reach_all.new.self in
    let all = c.in_ok-reach_all.ensures in
    let same = all.grown.scope ∙ c.in_ok-reach_exported.ensures.grown.scope ∙ c.in_ok-gathering.ensures.scope in
    subst (λ (s : Scope). AreParts s (exports_of c.args.exports.now) c.in_ok-parts.parts) same
    (are-parts g.scope.now all.gathering.sound g.own g.parts g.seen.items all.gathering.gathered (exports_of c.args.exports.now)
    (all-done g all.done) (roots-on c.reach_exported.new.self g all.grown (exports_of c.args.exports.now) c.in_ok-reach_exported.ensures.roots) c.in_ok-parts.parts c.in_ok-parts.ensures)
