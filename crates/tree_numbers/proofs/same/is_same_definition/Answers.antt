use Rattle.std.proofs.Common.{◌∙◌, ap, rules, subst, sym}
use Rattle.kind_table.specs.Flattened.{flat_of}
use Rattle.kind_table.proofs.Lookups.{definition_gone, definition_got}
use Rattle.resolved_trees.specs.Resolved.{definition_at, resolved}
use Rattle.tree_numbers.specs.Same.{IsNumberedDefinition}
use Rattle.tree_numbers.proofs.same.is_same_definition.Goals as goal

pub returns-in-Some-Some-clause-same : goal.returns-in-Some-Some-clause-same
returns-in-Some-Some-clause-same c same told =
    let t = c.args.flat.now in
    let flat = flat_of t in
    let one = definition_got t c.deref.result.now c.args.one c.in-Some-Some.one.now c.deref.ensures.value (search (rules, c.in-Some-Some.ensures.lookup.0)) c.in-Some-Some.ensures.lookup.1 in
    let other = definition_got t c.deref-2.result.now c.args.other c.in-Some-Some.other.now c.deref-2.ensures.value (search (rules, c.in-Some-Some.ensures'.lookup.0)) c.in-Some-Some.ensures'.lookup.1 in
    ap (definition_at flat (resolved flat)) one ∙ c.is_same_body.ensures.same same flat told ∙ sym (ap (definition_at flat (resolved flat)) other)

pub returns-in-Some-Some-clause-found : goal.returns-in-Some-Some-clause-found
returns-in-Some-Some-clause-found c told numbered others same =
    let t = c.args.flat.now in
    let flat = flat_of t in
    let numbers = c.args.numbers.now in
    let one = definition_got t c.deref.result.now c.args.one c.in-Some-Some.one.now c.deref.ensures.value (search (rules, c.in-Some-Some.ensures.lookup.0)) c.in-Some-Some.ensures.lookup.1 in
    let other = definition_got t c.deref-2.result.now c.args.other c.in-Some-Some.other.now c.deref-2.ensures.value (search (rules, c.in-Some-Some.ensures'.lookup.0)) c.in-Some-Some.ensures'.lookup.1 in
    c.is_same_body.ensures.found flat told (subst (IsNumberedDefinition numbers) one numbered) (subst (IsNumberedDefinition numbers) other others)
    (sym (ap (definition_at flat (resolved flat)) one) ∙ same ∙ ap (definition_at flat (resolved flat)) other)

pub returns-in_default-clause-found : goal.returns-in_default-clause-found
returns-in_default-clause-found c told numbered others same =
    let t = c.args.flat.now in
    absurd (subst (IsNumberedDefinition c.args.numbers.now) (definition_gone t c.deref-2.result.now c.args.other c.deref-2.ensures.value (search (rules, c.in_default.ensures'.lookup.3))) others)

pub returns-in_default-2-clause-found : goal.returns-in_default-2-clause-found
returns-in_default-2-clause-found c told numbered others same =
    let t = c.args.flat.now in
    absurd (subst (IsNumberedDefinition c.args.numbers.now) (definition_gone t c.deref.result.now c.args.one c.deref.ensures.value (search (rules, c.in_default.ensures.lookup.3))) numbered)
