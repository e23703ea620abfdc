use Rattle.std.proofs.Common.{List, [], ◌∷◌, ◌++◌, ◌+◌, ◌<◌, Some, refl, sym, ap, ◌∙◌, subst, length, drop}
use Rattle.std.specs.Prelude.{if◌then◌else◌, nat_lt, slice_get}
use Rattle.tla_model.specs.Entities.{Meaning}
use Rattle.std.specs.Option.{option_copied}
use Rattle.tree_names.specs.Parameters.{entry_in}
use Rattle.tree_kinds.specs.Standing.{operator_places}
use Rattle.flattened_trees.specs.Flattened.{right_for}
use Rattle.flattened_trees.specs.NodeForms.{lead_of, name_node}
use Rattle.flattened_trees.specs.Questions.{IsAtMost}
use Rattle.tree_flattener.specs.Found.{lead_in}
use Rattle.tree_flattener.specs.Replacing.{Replaces, right_in, rights_in}
use Rattle.tree_flattener.specs.Steps.{Adds, Asks}
use Rattle.tree_flattener.specs.Worlds.{implied_of, setting_of, with_locals, world_of}
use Rattle.tree_flattener.proofs.Instantiating.{behind-drop, first-left, right-among}
use Rattle.tree_flattener.proofs.Replacements.{by-right, by-symbol}
use Rattle.tree_flattener.proofs.Within.{named-there}
use Rattle.tree_flattener.proofs.instances.replace_one.Goals as goal

pub add_name-requires-clause-lead : goal.add_name-requires-clause-lead
add_name-requires-clause-lead g c =
    let w = world_of (g.N.Names.leads c.args.names.now) (g.N.Names.faces c.args.names.now) c.args.written.now in
    named-there w c.args.state.now c.requires.ready.known c.deref.result.now c.deref.ensures.value (option_copied c.symbol_at-symbol.result) [] _ c.in_ok-lead-in-None.ensures

pub returns-in_ok-replace_by-in-Some : goal.returns-in_ok-replace_by-in-Some
returns-in_ok-replace_by-in-Some g c =
    let w = world_of (g.N.Names.leads c.args.names.now) (g.N.Names.faces c.args.names.now) c.args.written.now in
    let found = c.in-Some.ensures ∙ ap (right_for (rights_in c.args.rights.now)) c.named.ensures in
    let right = right_in c.in-Some.right in
    by-right (setting_of w c.args.state.now c.args.frame []) c.args.constant (rights_in c.args.rights.now) c.args.«module» c.args.state.now c.replace_by.new.state c.args.frame (entry_in c.args.parameter.now)
    (drop c.args.next (implied_of c.args.written.now c.args.«module».span.start)) right c.args.made.now.items c.replace_by.new.made.items c.requires.ready.framed refl found
    (right-among (λ i. i < length c.args.state.now.flat.nodes) c.args.rights.now _ right c.requires.rights found)
    (subst (λ m. Asks c.args.state.now c.replace_by.new.state c.args.frame (IsAtMost right.at right.node m ∷ [])) c.greatest_level-most.ensures c.in_ok-replace_by-in-Some.ensures.asks)
    (c.in_ok-replace_by-in-Some.ensures.made ∙ ap (λ m. c.args.made.now.items ++ record { root = right.node; most = Some m } ∷ []) c.greatest_level-most.ensures)

pub returns-in_ok-replace_by-in-None : goal.returns-in_ok-replace_by-in-None
returns-in_ok-replace_by-in-None g c =
    let w = world_of (g.N.Names.leads c.args.names.now) (g.N.Names.faces c.args.names.now) c.args.written.now in
    let setting = setting_of w c.args.state.now c.args.frame [] in
    let l = c.args.«module» in
    let symbols = implied_of c.args.written.now l.span.start in
    let found = c.in-None.ensures ∙ ap (right_for (rights_in c.args.rights.now)) c.named.ensures in
    let lead = c.in_ok-lead-in-None.ensures ∙ ap (λ z. lead_of (with_locals w w.leads z) (option_copied c.symbol_at-symbol.result) []) c.deref.ensures.value
    ∙ ap (λ z. lead_of setting.leads z []) (c.symbol_at-symbol.ensures ∙ ap (λ z. slice_get z c.args.next) c.implied-symbols.ensures ∙ sym (first-left symbols c.args.next))
    in
    let node = ap (λ z. name_node z (lead_in c.in_ok-lead-in-None.lead) c.new.result.items) c.operator_places-places.ensures
    ∙ ap (λ z. name_node (operator_places (Some c.args.parameter.now.meaning)) z c.new.result.items) lead
    ∙ ap (λ z. name_node (operator_places (Some c.args.parameter.now.meaning)) (lead_of setting.leads (slice_get (drop c.args.next symbols) 0) []) z) c.new.ensures.items
    in
    let left = behind-drop symbols c.args.next c.behind_one.result (c.behind_one.ensures ∙ ap (λ (z : List Meaning). if nat_lt c.args.next (length z) then c.args.next + 1 else c.args.next) c.implied-symbols.ensures) in
    subst (λ z. Replaces setting c.args.constant (rights_in c.args.rights.now) l c.args.state.now c.replace_by-in-None.new.state (entry_in c.args.parameter.now) (drop c.args.next symbols) z c.args.made.now.items c.replace_by-in-None.new.made.items) (sym left)
    (by-symbol setting c.args.constant (rights_in c.args.rights.now) l c.args.state.now c.add_name.new.state c.replace_by-in-None.new.state c.args.frame c.in_ok-root-in-None.root (entry_in c.args.parameter.now)
    (drop c.args.next symbols) c.args.made.now.items c.replace_by-in-None.new.made.items c.requires.ready.framed refl found
    (subst (λ n. Adds c.args.state.now c.add_name.new.state n c.in_ok-root-in-None.root) node c.in_ok-root-in-None.ensures)
    (subst (λ m. Asks c.add_name.new.state c.replace_by-in-None.new.state c.args.frame (IsAtMost l.span c.in_ok-root-in-None.root m ∷ [])) c.greatest_level-most.ensures c.in_ok-replace_by-in-None.ensures.asks)
    (c.in_ok-replace_by-in-None.ensures.made ∙ ap (λ m. c.args.made.now.items ++ record { root = c.in_ok-root-in-None.root; most = Some m } ∷ []) c.greatest_level-most.ensures))
