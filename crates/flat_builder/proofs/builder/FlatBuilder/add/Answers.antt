use Rattle.std.proofs.Common.{[], length, subst, sym}
use Rattle.kind_text.specs.FlatModule.{IsMadeOfEarlier}
use Rattle.kind_table.specs.Flattened.{flat_of, form_of}
use Rattle.flat_builder.proofs.Growing.{made-at, without-path}
use Rattle.flat_builder.proofs.builder.FlatBuilder.add.Goals as goal

pub push_node-requires-clause-earlier : goal.push_node-requires-clause-earlier
push_node-requires-clause-earlier c =
    let t = c.self.inside.flat in
    subst (λ form. IsMadeOfEarlier (flat_of t) (length t.nodes.items) (record { form = form; places = c.args.places; parts = c.args.parts.items }))
    (without-path t.paths.items c.args.form c.requires.path)
    (made-at t c.args.self.now (record { form = form_of [] c.args.form; places = c.args.places; parts = c.args.parts.items }) (sym c.self.view_is) c.requires.earlier)
