use Rattle.std.proofs.Common.{ℕ, ◌<◌, List, length, get_or, refl, ap, subst, arith}
use Rattle.std.specs.Prelude.{slice_index}
use Rattle.std.proofs.lemmas.Option.{slice_get_read, slice_get-get_or}
use Rattle.fact_store.specs.Plans.{IsGround}
use Rattle.fact_store.proofs.Rows.{AreGroundsUpto-more}
use Rattle.fact_store.proofs.plan.grounds_of.Goals as goal

pub ground_of-requires : goal.ground_of-requires
ground_of-requires c =
    let edges = c.args.edges.now in let index = c.loop-index.index in let row = c.index-edges-index.result in
    let e = slice_get_read edges _ index row refl c.loop-index-test.true c.index-edges-index.is in
    λ k d h.
    let l : k < length row = omega (arith, h, ap length c.as_slice.ensures) in
    let f : get_or row k d < length edges = c.requires.indices index (get_or row k d) (row, e, (k, slice_get-get_or row k d l)) in
    omega (arith, f, ap (λ (xs : List ℕ). get_or xs k d) c.as_slice.ensures, c.requires.long)

pub loop-index-preserved : goal.loop-index-preserved
loop-index-preserved c =
    let edges = c.args.edges.now in let groups = c.args.groups.now in let index = c.loop-index.index in let row = c.index-edges-index.result in let ground = c.in_ok-ground.ground in
    let e = slice_get_read edges _ index row refl c.loop-index-test.true c.index-edges-index.is in
    AreGroundsUpto-more edges groups c.loop-index.grounds.items c.push.new.self.items index row ground c.loop-index.invariant e
    (subst (λ (xs : List ℕ). IsGround groups (slice_index groups index) xs ground) c.as_slice.ensures c.in_ok-ground.ensures) c.in_ok-push.ensures.items
