use Rattle.std.proofs.Common.{Some, length, subst, sym, ◌∙◌}
use Rattle.kind_text.specs.FlatModule as text
use Rattle.kind_text.specs.FlatModule.{IsMadeOfEarlier}
use Rattle.kind_table.specs.Flattened.{flat_of}
use Rattle.flat_builder.proofs.Growing.{made-at}
use Rattle.flat_builder.proofs.builder.FlatBuilder.add_name.Goals as goal

pub push_node-requires-clause-earlier : goal.push_node-requires-clause-earlier
push_node-requires-clause-earlier c =
    let t = c.push_path.new.flat in
    subst (λ path. IsMadeOfEarlier (flat_of t) (length t.nodes.items) (record { form = text.Form.Name path c.args.definition; places = Some c.args.places; parts = c.args.parts.items }))
    (sym c.in_ok-path.ensures.path)
    (made-at t c.args.self.now (record { form = text.Form.Name c.args.path.items c.args.definition; places = Some c.args.places; parts = c.args.parts.items }) (sym c.self.view_is ∙ sym c.push_path.ensures.same) c.requires.earlier)
