use Rattle.std.proofs.Common.{◌<◌, arith, ap, ◌∙◌, length, map, subst, sym}
use Rattle.std.specs.List.{AllByRecursion}
use Rattle.kind_table.specs.Flattened.{flat_of, node_of}
use Rattle.kind_table.proofs.TableEntries.{node-read, nodes-long}
use Rattle.tree_numbers.specs.Keys.{number_in}
use Rattle.kind_text.specs.FlatModule.{UsesInstance}
use Rattle.tree_numbers.specs.Numbered.{IsSamePath}
use Rattle.tree_numbers.proofs.Making.{body-numbered, key-made, parts-numbered, path-before}
use Rattle.tree_numbers.proofs.numbers.key_of.Goals as goal

pub path-requires-clause-path : goal.path-requires-clause-path
path-requires-clause-path c =
    let t = c.args.flat.now in
    let flat = flat_of t in
    let numbers = c.args.numbers.now in
    let node = c.args.node in
    let here = c.index-here.result.now in
    let at = node-read t node here c.requires.node c.index-here.ensures in
    subst (AllByRecursion (UsesInstance flat (length numbers))) (sym c.path_of.ensures) (path-before flat numbers c.requires.ordered node (node_of t.paths.items here) c.requires.before at)

pub returns-clause-key : goal.returns-clause-key
returns-clause-key c =
    let t = c.args.flat.now in
    let flat = flat_of t in
    let node = c.args.node in
    let here = c.index-here.result.now in
    let numbers = c.args.numbers.now in
    let path = c.in_ok-path.path.items in
    let at = node-read t node here c.requires.node c.index-here.ensures in
    let inside : node < length flat.nodes = omega (arith, nodes-long t, c.requires.node) in
    key-made flat numbers c.requires.numbers c.requires.ordered node (node_of t.paths.items here) inside at c.head_of.result path c.body_of.result c.in_ok-parts.parts.items
    c.head_of.ensures (subst (λ p. IsSamePath flat p path) c.path_of.ensures c.in_ok-path.ensures.same) c.body_of.ensures (c.in_ok-parts.ensures ∙ ap (map (number_in numbers)) c.deref.ensures.value)

pub returns-clause-by_numbers : goal.returns-clause-by_numbers
returns-clause-by_numbers c =
    let t = c.args.flat.now in
    let flat = flat_of t in
    let numbers = c.args.numbers.now in
    let node = c.args.node in
    let here = c.index-here.result.now in
    let at = node-read t node here c.requires.node c.index-here.ensures in
    record {
      path = c.in_ok-path.ensures.firsts;
      root = body-numbered flat numbers c.requires.ordered node (node_of t.paths.items here) c.requires.before at c.body_of.result c.body_of.ensures;
      parts = parts-numbered flat numbers c.requires.ordered node (node_of t.paths.items here) c.requires.before at c.in_ok-parts.parts.items (c.in_ok-parts.ensures ∙ ap (map (number_in numbers)) c.deref.ensures.value);
    }
