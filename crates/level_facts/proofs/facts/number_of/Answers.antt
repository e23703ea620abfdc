use Rattle.std.proofs.Common.{[], ◌∷◌, sym, subst}
use Rattle.kind_table.specs.Flattened.{definition_of, flat_of}
use Rattle.level_facts.specs.Facts.{AddsArguments}
use Rattle.level_facts.proofs.Keeping.{adds_built_in, adds_missing, adds_operator, adds_staying, adds_value}
use Rattle.level_facts.proofs.facts.number_of.Goals as goal

pub returns-in_ok-n-in-Value-clause-added : goal.returns-in_ok-n-in-Value-clause-added
returns-in_ok-n-in-Value-clause-added c =
    let n = c.in_ok-n-in-Value.n in
    subst (λ a. AddsArguments (flat_of c.args.flat.now) c.args.facts.now.arguments.keys c.number.new.facts.arguments.keys (n ∷ []) (a ∷ [])) (sym c.in-Value.is)
    (adds_value (flat_of c.args.flat.now) n c.in-Value.kind c.in_ok-n-in-Value.ensures.grows c.in_ok-n-in-Value.ensures.stored)

pub returns-in_ok-n-in-Stays-clause-added : goal.returns-in_ok-n-in-Stays-clause-added
returns-in_ok-n-in-Stays-clause-added c =
    let n = c.in_ok-n-in-Stays.n in
    subst (λ a. AddsArguments (flat_of c.args.flat.now) c.args.facts.now.arguments.keys c.number-in-Stays.new.facts.arguments.keys (n ∷ []) (a ∷ [])) (sym c.in-Stays.is)
    (adds_staying (flat_of c.args.flat.now) n c.in-Stays.rule c.in_ok-n-in-Stays.ensures.grows c.in_ok-n-in-Stays.ensures.stored)

pub returns-in_ok-n-in-BuiltIn-clause-added : goal.returns-in_ok-n-in-BuiltIn-clause-added
returns-in_ok-n-in-BuiltIn-clause-added c =
    let n = c.in_ok-n-in-BuiltIn.n in
    subst (λ a. AddsArguments (flat_of c.args.flat.now) c.args.facts.now.arguments.keys c.number-in-BuiltIn.new.facts.arguments.keys (n ∷ []) (a ∷ [])) (sym c.in-BuiltIn.is)
    (adds_built_in (flat_of c.args.flat.now) n c.in-BuiltIn.rule c.in_ok-n-in-BuiltIn.ensures.grows c.in_ok-n-in-BuiltIn.ensures.stored)

pub number-requires-in-Some-clause-body : goal.number-requires-in-Some-clause-body
number-requires-in-Some-clause-body c = (definition_of c.in-Some.field-0, c.in-Some.ensures.here, c.in-Some.ensures.root)

pub returns-in_ok-n-in-None-clause-added : goal.returns-in_ok-n-in-None-clause-added
returns-in_ok-n-in-None-clause-added c =
    let n = c.in_ok-n-in-None.n in
    subst (λ a. AddsArguments (flat_of c.args.flat.now) c.args.facts.now.arguments.keys c.number-in-None.new.facts.arguments.keys (n ∷ []) (a ∷ [])) (sym c.in-Operator.is)
    (adds_missing (flat_of c.args.flat.now) n c.in-Operator.definition c.in-None.ensures c.in_ok-n-in-None.ensures.grows c.in_ok-n-in-None.ensures.stored)

pub returns-in_ok-n-in-Some-clause-added : goal.returns-in_ok-n-in-Some-clause-added
returns-in_ok-n-in-Some-clause-added c =
    let n = c.in_ok-n-in-Some.n in
    subst (λ a. AddsArguments (flat_of c.args.flat.now) c.args.facts.now.arguments.keys c.number-in-Some.new.facts.arguments.keys (n ∷ []) (a ∷ [])) (sym c.in-Operator.is)
    (adds_operator (flat_of c.args.flat.now) n c.in-Operator.definition c.new.result c.new.ensures.items c.in_ok-n-in-Some.ensures.grows c.in_ok-n-in-Some.ensures.stored)
