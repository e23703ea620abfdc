use Rattle.std.proofs.Common.{◌≡◌, ◌∙◌, ◌+◌, ◌++◌, ◌∷◌, [], ap, subst, sym, take}
use Rattle.family_tables.specs.Keeping.{AreRead}
use Rattle.family_tables.specs.Tables.{names_in}
use Rattle.family_levels.proofs.Trees.{AreNamesOf, named-more, named-still, read-more, tree-fresh}
use Rattle.family_levels.proofs.changing.trees_of.Goals.{in-Tree+in_ok-copied+in_ok-add, in_default}
use Rattle.family_levels.proofs.changing.trees_of.Goals as goal

pub add-requires : goal.add-requires
add-requires c = tree-fresh c.args.modules.now c.loop-index.index c.at.result.0.now c.at.result.1.now c.at.ensures c.loop-index.trees c.loop-index.invariant.named c.requires.once

pub loop-index-preserved : goal.loop-index-preserved
loop-index-preserved c =
    let modules = c.args.modules.now in
    let i = c.loop-index.index in
    let name = c.at.result.0.now in
    let m = c.at.result.1.now in
    let at = c.at.ensures in
    let trees = c.loop-index.trees in
    let inv = c.loop-index.invariant in
    elim c.match-module.branch [
      | in-Tree+in_ok-copied+in_ok-add w ↦
          let new : c.match-module.trees ≡ trees ++ (name, w.in-Tree.tree) ∷ [] = w.trees-is ∙ (w.in_ok-add.ensures ∙ ap (λ tree. trees ++ (name, tree) ∷ []) w.in_ok-copied.ensures) in
          record {
            read = read-more modules i name m at trees inv.named c.requires.once c.requires.read inv.read w.in-Tree.tree w.in-Tree.is c.match-module.trees new;
            named = named-more modules i name m at trees inv.named c.match-module.trees w.in-Tree.tree new;
          }
      | in_default w ↦ record {
        read = subst AreRead (sym w.trees-is) inv.read;
        named = subst (AreNamesOf (take (i + 1) (names_in modules))) (sym w.trees-is) (named-still modules i name m at trees inv.named);
      }
    ]
