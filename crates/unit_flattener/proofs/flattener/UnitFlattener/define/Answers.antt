use Rattle.std.proofs.Common.{refl, sym, ap, subst, ◌∙◌}
use Rattle.std.specs.Prelude.{map}
use Rattle.std.proofs.lemmas.Result.{on_ok_weaker}
use Rattle.tla_tree.specs.Arena.{tree_at}
use Rattle.tla_model.specs.Entities.{meant}
use Rattle.tla_model.specs.Scopes.{definition}
use Rattle.unit_grammar.specs.UnitNodes.{unit_at}
use Rattle.kind_text.specs.FlatModule.{Extends}
use Rattle.flattened_trees.specs.Leads.{with_leads}
use Rattle.tree_flattener.specs.Apart.{IsLeadOf}
use Rattle.tree_flattener.specs.Steps.{Steps}
use Rattle.module_leads.specs.Leading.{IsSound, leading, leading_in}
use Rattle.module_leads.specs.There.{LeadWithin}
use Rattle.module_leads.proofs.Led.{there-on}
use Rattle.unit_scope.specs.Steps.{Leads, behind_unit}
use Rattle.unit_flattener.specs.Walking.{world_at}
use Rattle.unit_flattener.specs.declared.flattener.UnitFlattener.{UnitFlattener}
use Rattle.unit_flattener.proofs.Definitions.{defined-walked, leads-within}
use Rattle.unit_flattener.proofs.GrowingState.{world-same}
use Rattle.unit_flattener.proofs.flattener.UnitFlattener.define.Goals as goal

pub put_defined-requires : goal.put_defined-requires
put_defined-requires c = record { lies = c.in_ok-local.ensures.made.1.lies }

pub returns : goal.returns
returns c =
    let written = c.args.written.now in let text = written.text.now in let nodes = written.tree.now in let x = tree_at nodes c.args.node in let unit = unit_at nodes c.args.unit.now in
    let old = c.args.self.now in let mid = c.make_definition.new.self in let put = c.put_defined.new.self in let local = c.in_ok-local.local in
    let new : UnitFlattener = record { reader = c.pass.new.self; leads = put.leads; files = put.files; modules = put.modules; own = put.own; state = put.state; frame = put.frame; round = put.round } in
    let made = c.in_ok-local.ensures.made.1 in let first = c.in_ok-local.ensures.others in let then = c.in_ok-put_defined.ensures.others in
    let names_are = c.as_slice.ensures ∙ c.in_ok-meanings.ensures in
    let known = leading_in old.leads in
    let names = map (meant text) (definition x) in
    let here : IsLeadOf (world_at written mid) x local made.lead = subst (λ w. IsLeadOf w x local made.lead) (sym (world-same written old mid first)) made.leads in
    let leads_are = c.in_ok-put_defined.ensures.leads x made.lead here names_are
    ∙ ap (λ l. leading (leading_in l) (with_leads (leading_in l).leads c.as_slice.result.now made.lead)) first.leads
    ∙ ap (λ ms. leading known (with_leads known.leads ms made.lead)) names_are in
    on_ok_weaker c.pass.result
    (λ reads walk before rest reader at.
    defined-walked written walk before rest unit old new reader x made.lead made.first made.asked at c.requires.defines
    (record { files = then.place.files ∙ first.place.files; modules = then.place.modules ∙ first.place.modules; own = then.place.own ∙ first.place.own; frame = then.place.frame ∙ first.place.frame; round = then.place.round ∙ first.place.round })
    (subst (λ state. Steps old.state state made.asked) (sym then.state) made.steps)
    (ap (λ state. state.locals.items) then.state ∙ made.locals)
    leads_are
    (c.in_ok-put_defined.ensures.sound (subst IsSound (sym first.leads) at.sound))
    (subst (λ l. LeadWithin put.state.flat l.leads) (sym leads_are)
    (subst (λ state. LeadWithin state.flat (with_leads known.leads names made.lead)) (sym then.state)
    (leads-within (world_at written old) mid.state.flat x local made.lead names known.leads made.leads made.within refl (there-on old.state.flat mid.state.flat known made.steps.extends at.within).leads)))
    (subst (λ read. Leads text (behind_unit text unit) read c.pass.new.self) (then.place.reader ∙ first.place.reader) reads)
    (λ more extends. made.holds more (subst (λ state. Extends state.flat more) then.state extends)))
    c.pass.ensures.state
