use Rattle.server_outlines.proofs.Showing.{names-lie, units-shown}
use Rattle.server_outlines.proofs.outline.symbols_of.Goals as goal

pub symbols_of_units-requires-clause-shown : goal.symbols_of_units-requires-clause-shown
symbols_of_units-requires-clause-shown c =
    let tree = c.args.tree.now in
    units-shown c.args.text.now tree.tree tree.units (c.front_nodes_placed.ensures _ c.args.text.now _ c.requires.front.1)
    (names-lie c.args.text.now tree.name tree.extends _ c.requires.lexemes)
    (c.front_words_lie.ensures _ c.args.text.now _ c.requires.front.1)
