use Rattle.std.proofs.Common.{[], ◌∷◌, ◌++◌, sym, subst, ◌∙◌}
use Rattle.std.proofs.lemmas.Result.{on_ok_weaker}
use Rattle.tla_tree.specs.Arena.{tree_at}
use Rattle.tla_tree.specs.Syntax.{span}
use Rattle.tla_tree.specs.declared.unit.Unit.TheVariants as units
use Rattle.unit_grammar.specs.UnitNodes.{unit_at}
use Rattle.kind_text.specs.FlatModule.{Extends}
use Rattle.flattened_trees.specs.Questions.{IsConstant, IsShallowNode, over}
use Rattle.tree_flattener.specs.Steps.{Asks}
use Rattle.tree_flattener.specs.Worlds.{frame_at}
use Rattle.unit_flattener.specs.Walked.{Walks}
use Rattle.unit_flattener.specs.declared.flattener.UnitFlattener.{UnitFlattener}
use Rattle.unit_flattener.proofs.Making.{assumption-walked, constant-steps, reads-so, span-of}
use Rattle.unit_flattener.proofs.flattener.UnitFlattener.assume.Goals as goal

pub returns : goal.returns
returns c =
    let written = c.args.written.now in let nodes = written.tree.now in let old = c.args.self.now in let mid = c.make_claim.new.self in
    let state = c.ask_constant.new.state in let i = c.in_ok-i.i in let x = tree_at nodes c.args.node in
    let new : UnitFlattener = record { reader = c.pass.new.self; leads = mid.leads; files = mid.files; modules = mid.modules; own = mid.own; state = state; frame = mid.frame; round = mid.round } in
    let made = c.in_ok-i.ensures.made in let others = c.in_ok-i.ensures.others in let asks = c.in_ok-ask_constant.ensures in
    let asks_here : Asks mid.state state old.frame (IsConstant (span x) i ∷ []) =
    subst (λ frame. Asks mid.state state frame (IsConstant (span x) i ∷ [])) others.place.frame
    (subst (λ at. Asks mid.state state mid.frame (IsConstant at i ∷ [])) (c.span.ensures ∙ sym (span-of nodes c.args.node c.requires.node.there)) asks) in
    on_ok_weaker c.pass.result
    (λ reads. subst (λ u. Walks written (unit_at nodes u) old new) (sym c.requires.unit)
    (λ walk before rest reader at.
    assumption-walked written walk before rest old new reader c.args.word c.args.name x i made.asked
    (record { files = others.place.files; modules = others.place.modules; own = others.place.own; frame = others.place.frame; round = others.place.round })
    others.leads (asks.locals ∙ made.locals) (λ more extends. made.holds more (subst (λ flat. Extends flat more) asks.flat extends)) at
    (constant-steps old.state mid.state state old.frame (over (frame_at old.state.frames.items old.frame) (IsShallowNode c.args.word i ∷ []) ++ made.asked) (IsConstant (span x) i ∷ []) at.setting.there made.steps asks_here)
    (reads-so written.text.now nodes c.args.unit.now (units.Assumption c.args.word c.args.name c.args.node) old.reader mid.reader c.pass.new.self c.requires.unit others.place.reader reads)))
    c.pass.ensures.state
