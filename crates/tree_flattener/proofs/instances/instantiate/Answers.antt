use Rattle.std.proofs.Common.{[], ◌<◌, refl, ap, ◌∙◌, subst, length}
use Rattle.list_laws.proofs.Lists.{all-weaker}
use Rattle.tla_model.specs.Lexemes.{spelled}
use Rattle.tree_flattener.specs.declared.state.Flattening.{Flattening}
use Rattle.tree_flattener.specs.Replacing.{AreStayed, Instantiates, ReplacesAll, rights_in}
use Rattle.tree_flattener.specs.Worlds.{world_of, setting_of}
use Rattle.tree_flattener.proofs.Instantiating.{instance-made}
use Rattle.tree_flattener.proofs.Stepping.{ready-on}
use Rattle.tree_flattener.proofs.Within.{below-on}
use Rattle.tree_flattener.proofs.instances.instantiate.Goals as goal

pub replace_all-requires-clause-ready : goal.replace_all-requires-clause-ready
replace_all-requires-clause-ready g c =
    let w = world_of (g.N.Names.leads c.args.names.now) (g.N.Names.faces c.args.names.now) c.args.written.now in
    let r = c.in_ok-stay.ensures in ready-on w c.args.state.now c.stay.new.state c.args.frame [] r.steps.extends r.steps.frames r.locals c.requires.ready

pub replace_all-requires-clause-rights : goal.replace_all-requires-clause-rights
replace_all-requires-clause-rights g c =
    all-weaker (λ right. right.node < length c.args.state.now.flat.nodes) (λ right. right.node < length c.stay.new.state.flat.nodes) (λ right. below-on c.args.state.now.flat c.stay.new.state.flat c.in_ok-stay.ensures.steps.extends right.node) c.args.rights.now c.requires.rights

pub returns : goal.returns
returns g c =
    let w = world_of (g.N.Names.leads c.args.names.now) (g.N.Names.faces c.args.names.now) c.args.written.now in
    let l = c.args.«module» in
    let new : Flattening = record { flat = c.instantiate.new.self; locals = c.replace_all.new.state.locals; frames = c.replace_all.new.state.frames; asked = c.replace_all.new.state.asked } in
    subst (λ n. Instantiates w (setting_of w c.args.state.now c.args.frame []) n c.args.count c.args.guards l (rights_in c.args.rights.now) c.args.state.now new c.in_ok-j.j) c.frame_len-outer.ensures
    (instance-made w c.args.state.now c.stay.new.state c.replace_all.new.state new c.args.frame c.frame_len-outer.result c.args.count c.in_ok-j.j c.args.guards l (rights_in c.args.rights.now) c.new-made.result.items c.stay.new.made.items c.replace_all.new.made.items
    c.requires.ready.framed c.new-made.ensures.items
    (subst (λ n. AreStayed c.args.state.now c.stay.new.state n c.new-made.result.items c.stay.new.made.items) (c.outer.ensures ∙ ap (λ z. (w.faces z).outer) c.spelled.ensures) c.in_ok-stay.ensures)
    (subst (λ z. ReplacesAll (setting_of w c.stay.new.state c.args.frame []) (w.faces (spelled w.text.source l)).is_constant z l c.stay.new.state c.replace_all.new.state (w.faces (spelled w.text.source l)).parameters (w.implied l.span.start) c.stay.new.made.items c.replace_all.new.made.items) refl c.in_ok-replace_all.ensures)
    c.in_ok-j.ensures.added c.in_ok-j.ensures.number refl refl refl)
