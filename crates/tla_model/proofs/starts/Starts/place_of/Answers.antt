use Rattle.std.proofs.Common.{◌∙◌, ap, arith}
use Rattle.tla_model.proofs.Placing.{place-found, place-missed, place-within}
use Rattle.tla_model.specs.Entities.{place_in}
use Rattle.tla_model.proofs.starts.Starts.place_of.Goals as goal

pub returns-in-Some-clause-place : goal.returns-in-Some-clause-place
returns-in-Some-clause-place c =
    place-found c.self.inside.places.entries c.self.inside.starts.items c.args.start c.in-Some.place.now c.self.invariant c.in-Some.ensures.value
    ∙ ap (λ t. place_in t c.args.start) c.self.view_is

pub returns-in-None-clause-place : goal.returns-in-None-clause-place
returns-in-None-clause-place c =
    c.len.ensures ∙ c.self.inside.starts.ok.0 ∙ place-missed c.self.inside.places.entries c.self.inside.starts.items c.args.start c.self.invariant c.in-None.ensures.value
    ∙ ap (λ t. place_in t c.args.start) c.self.view_is

pub returns-in-Some-clause-few : goal.returns-in-Some-clause-few
returns-in-Some-clause-few c =
    let same = place-found c.self.inside.places.entries c.self.inside.starts.items c.args.start c.in-Some.place.now c.self.invariant c.in-Some.ensures.value in
    let within = place-within c.self.inside.starts.items c.args.start in
    let few = c.self.invariant.few in omega (arith, same, within, few)
