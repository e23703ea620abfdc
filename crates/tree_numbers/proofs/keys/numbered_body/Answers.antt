use Rattle.std.proofs.Common.{ℕ, Some, sym, ap, ◌∙◌}
use Rattle.std.specs.Prelude.{option_map}
use Rattle.kind_table.proofs.Lookups.{definition_gone, definition_got}
use Rattle.tree_numbers.specs.declared.keys.Body.{Body}
use Rattle.tree_numbers.specs.Keys.{numbered_body}
use Rattle.tree_numbers.proofs.keys.numbered_body.Goals as goal

pub returns-in-None : goal.returns-in-None
returns-in-None c = sym (ap (option_map (numbered_body c.args.numbers.now)) (definition_gone c.args.flat.now c.deref.result.now c.args.definition c.deref.ensures.value c.in-None.ensures.lookup.3))

pub returns-in-Some : goal.returns-in-Some
returns-in-Some c =
    let here = c.in-Some.here.now in
    ap (λ (n : ℕ). let body : Body = record { outer = here.outer; root = n } in Some body) c.number_of.ensures
    ∙ sym (ap (option_map (numbered_body c.args.numbers.now)) (definition_got c.args.flat.now c.deref.result.now c.args.definition here c.deref.ensures.value c.in-Some.ensures.lookup.3.0 c.in-Some.ensures.lookup.1))
