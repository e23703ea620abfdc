use Rattle.std.proofs.Common.{[], ◌<◌, ap, ◌∙◌, subst, length, drop, map}
use Rattle.list_laws.proofs.Lists.{all-weaker}
use Rattle.tla_model.specs.Lexemes.{spelled}
use Rattle.tree_names.specs.Parameters.{entry_in}
use Rattle.tree_flattener.specs.Replacing.{ReplacesAll, rights_in}
use Rattle.tree_flattener.specs.Worlds.{implied_of, setting_of, world_of}
use Rattle.tree_flattener.proofs.Replacements.{replaces-start}
use Rattle.tree_flattener.proofs.Parameters.{parameters-done, parameters-on}
use Rattle.tree_flattener.proofs.Stepping.{ready-on}
use Rattle.tree_flattener.proofs.Within.{below-on}
use Rattle.tree_flattener.proofs.instances.replace_all.Goals as goal

pub loop-parameter-init : goal.loop-parameter-init
loop-parameter-init g c =
    let w = world_of (g.N.Names.leads c.args.names.now) (g.N.Names.faces c.args.names.now) c.args.written.now in
    replaces-start (setting_of w c.args.state.now c.args.frame []) c.is_constant-constant.result (rights_in c.args.rights.now) c.args.«module» c.args.state.now (map entry_in c.as_slice-items.result.now) (implied_of c.args.written.now c.args.«module».span.start) c.args.made.now.items

pub replace_one-requires-clause-ready : goal.replace_one-requires-clause-ready
replace_one-requires-clause-ready g c =
    let w = world_of (g.N.Names.leads c.args.names.now) (g.N.Names.faces c.args.names.now) c.args.written.now in
    let inv = c.loop-parameter.invariant in ready-on w c.args.state.now c.loop-parameter.state c.args.frame [] inv.steps.extends inv.steps.frames inv.locals c.requires.ready

pub replace_one-requires-clause-rights : goal.replace_one-requires-clause-rights
replace_one-requires-clause-rights g c =
    all-weaker (λ right. right.node < length c.args.state.now.flat.nodes) (λ right. right.node < length c.loop-parameter.state.flat.nodes) (λ right. below-on c.args.state.now.flat c.loop-parameter.state.flat c.loop-parameter.invariant.steps.extends right.node) c.args.rights.now c.requires.rights

pub loop-parameter-preserved : goal.loop-parameter-preserved
loop-parameter-preserved g c =
    let w = world_of (g.N.Names.leads c.args.names.now) (g.N.Names.faces c.args.names.now) c.args.written.now in
    let symbols = implied_of c.args.written.now c.args.«module».span.start in
    parameters-on w c.args.state.now c.loop-parameter.state c.replace_one.new.state c.args.frame c.is_constant-constant.result (rights_in c.args.rights.now) c.args.«module» c.as_slice-items.result.now c.loop-parameter.parameter-index c.parameter-item.result symbols (drop c.loop-parameter.next symbols) (drop c.in_ok-next.next symbols) c.args.made.now.items c.loop-parameter.made.items c.replace_one.new.made.items
    c.loop-parameter-test.true c.parameter-item.is c.requires.ready.framed c.loop-parameter.invariant c.in_ok-next.ensures

pub returns : goal.returns
returns g c =
    let w = world_of (g.N.Names.leads c.args.names.now) (g.N.Names.faces c.args.names.now) c.args.written.now in
    let symbols = implied_of c.args.written.now c.args.«module».span.start in
    let setting = setting_of w c.args.state.now c.args.frame [] in
    let rights = rights_in c.args.rights.now in
    let l = c.args.«module» in
    let done = parameters-done setting c.is_constant-constant.result rights l c.args.state.now c.loop-parameter.state c.as_slice-items.result.now c.loop-parameter.parameter-index symbols (drop c.loop-parameter.next symbols) c.args.made.now.items c.loop-parameter.made.items c.loop-parameter-test.false c.loop-parameter.invariant in
    subst (λ z. ReplacesAll setting z rights l c.args.state.now c.loop-parameter.state (w.faces (spelled w.text.source l)).parameters symbols c.args.made.now.items c.loop-parameter.made.items)
    (c.is_constant-constant.ensures ∙ ap (λ z. (w.faces z).is_constant) c.spelled-name.ensures)
    (subst (λ z. ReplacesAll setting c.is_constant-constant.result rights l c.args.state.now c.loop-parameter.state z symbols c.args.made.now.items c.loop-parameter.made.items)
    (ap (map entry_in) c.as_slice-items.ensures ∙ c.in_ok-parameters.ensures ∙ ap (λ z. (w.faces z).parameters) c.spelled-name.ensures) done)
