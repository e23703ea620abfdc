use Rattle.std.proofs.Common.{◌≡◌, ◌∙◌, ap, length, min, nat_eq, sym}
use Rattle.std.specs.Option.{option_or}
use Rattle.std.specs.Map.{lookup}
use Rattle.std.proofs.lemmas.Slice.Zip.{zip_end}
use Rattle.arity_rules.proofs.Noting.{none-left, either-none}
use Rattle.arity_rules.proofs.meanings.declared_names.Goals as goal

pub returns : goal.returns
returns c = λ x.
    let uses = ap (λ z. z.a.rest.now) c.into_iter-name-iterator.ensures.into_iter_gives ∙ ap (λ z. z.rest.now) c.zip-name-items.ensures.first ∙ c.iter.ensures.rest in
    let second : c.zip-name-items.result.b.rest.now ≡ c.args.entities.now = c.zip-name-items.ensures.second.0 in
    let entities = ap (λ z. z.b.rest.now) c.into_iter-name-iterator.ensures.into_iter_gives ∙ second in
    let ends : length c.loop-name.yielded ≡ min (length c.args.uses.now) (length c.args.entities.now) = zip_end c.args.uses.now c.args.entities.now c.loop-name.yielded _ _ c.next.new.self _ uses entities c.loop-name.yielded_by c.in-None.is c.next.ensures.steps in
    sym (either-none (lookup (nat_eq x) c.loop-name.declared.entries)) ∙ ap (λ z. option_or (lookup (nat_eq x) c.loop-name.declared.entries) (lookup (nat_eq x) z)) (sym (none-left c.args.uses.now c.args.entities.now (length c.loop-name.yielded) ends)) ∙ c.loop-name.invariant x
