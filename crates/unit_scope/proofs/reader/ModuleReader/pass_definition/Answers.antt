use Rattle.std.proofs.Common.{◌∙◌, ap, refl}
use Rattle.tla_tree.specs.Arena.{tree_at}
use Rattle.tla_model.specs.Scopes.{definition}
use Rattle.unit_grammar.specs.UnitNodes.{unit_at}
use Rattle.module_model.specs.Modules.{declare_all}
use Rattle.instance_leads.specs.Leading.{views}
use Rattle.unit_scope.specs.Steps.{noted}
use Rattle.unit_scope.specs.declared.reader.ModuleReader.{ModuleReader}
use Rattle.unit_scope.proofs.Growing.{went-declares}
use Rattle.unit_scope.proofs.Onward.{reads-on}
use Rattle.unit_scope.proofs.reader.ModuleReader.pass_definition.Goals as goal

pub returns : goal.returns
returns c = λ over state at.
    let text = c.args.text.now in
    let read = c.note_named.new.self in
    let next : ModuleReader = record { here = record { name = read.here.name; names = c.define.new.names; modules = read.here.modules }; round = read.round; scope = read.scope } in
    let mid = c.in_ok-note_named.ensures over state at in
    let binders = definition (tree_at c.args.tree.now c.args.node) in
    reads-on text over read next (noted text (unit_at c.args.tree.now c.args.unit.now) over state) (declare_all text c.args.local state.place.here binders) mid refl refl refl
    (c.in_ok-define.ensures read.here.name.now (views read.scope.nested.items read.here.modules) ∙ ap (λ r. declare_all text c.args.local r binders) mid.here) (went-declares text c.args.local state.place.here binders)
