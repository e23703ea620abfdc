use Rattle.std.proofs.Common.{None, length, subst, sym, ◌∙◌}
use Rattle.kind_text.specs.FlatModule as text
use Rattle.kind_text.specs.FlatModule.{IsMadeOfEarlier}
use Rattle.kind_table.specs.Flattened.{flat_of}
use Rattle.flat_builder.proofs.Growing.{made-at}
use Rattle.flat_builder.proofs.builder.FlatBuilder.add_use.Goals as goal

pub push_node-requires-clause-earlier : goal.push_node-requires-clause-earlier
push_node-requires-clause-earlier c =
    let t = c.push_path.new.flat in
    subst (λ path. IsMadeOfEarlier (flat_of t) (length t.nodes.items) (record { form = text.Form.Use path c.args.definition; places = None; parts = c.args.parts.items }))
    (sym c.in_ok-path.ensures.path)
    (made-at t c.args.self.now (record { form = text.Form.Use c.args.path.items c.args.definition; places = None; parts = c.args.parts.items }) (sym c.self.view_is ∙ sym c.push_path.ensures.same) c.requires.earlier)
