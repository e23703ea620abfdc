use Rattle.std.proofs.Common.{◌≡◌, true, sym, subst, get_or}
use Rattle.std.specs.Prelude.{slice_set}
use Rattle.index_graph.specs.SearchState.{AreJoined}
use Rattle.index_graph.proofs.Moves.{joined-at}
use Rattle.index_graph.proofs.components.join.Goals as goal

pub returns : goal.returns
returns c =
    let groups = c.args.groups.now.items in let top = c.loop-top.top in let held = c.index_mut.result.now in
    subst (λ z. AreJoined groups c.args.index (slice_set z top (record held { cyclic = true }))) (sym c.truncate.ensures.items)
    (joined-at groups c.args.index top c.index.result.now held c.loop-top.invariant.within c.index.ensures c.loop-top-test.false (subst (λ z. held ≡ get_or z top held) c.truncate.ensures.items c.index_mut.ensures.value) c.loop-top.invariant.above)
