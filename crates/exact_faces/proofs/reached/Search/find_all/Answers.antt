use Rattle.std.proofs.Common.{◌≡◌, ◌≤◌, length, refl, subst, sym, Some, arith}
use Rattle.std.specs.Prelude.{slice_get}
use Rattle.std.specs.Borrow.{Bor}
use Rattle.std.proofs.lemmas.Bool.Decides.{nat_tests}
use Rattle.std.proofs.lemmas.List.{length-map}
use Rattle.std.proofs.lemmas.Option.{slice_get_read}
use Rattle.list_laws.proofs.Lists.{at-map}
use Rattle.tla_model.specs.Entities.{Meaning}
use Rattle.exact_faces.specs.Searching.{CanFind, HasFound, shown}
use Rattle.exact_faces.proofs.Searching.{can-more, grown-on, of-all, of-next, of-weaker}
use Rattle.exact_faces.proofs.reached.Search.find_all.Goals as goal

pub find-requires-clause-reached : goal.find-requires-clause-reached
find-requires-clause-reached c =
    let meanings = c.args.meanings.now in
    let index = c.loop-index.index in
    let one = c.index-meanings-index.result in
    let at : slice_get (shown meanings) index ≡ Some one.now =
    at-map (λ (meaning : Bor Meaning). meaning.now) meanings index one (slice_get_read meanings (length meanings) index one refl (grind (arith, nat_tests, c.loop-index-test.true)) c.index-meanings-index.is) in
    of-weaker (CanFind c.args.self.now) (CanFind c.loop-index.self) (can-more c.args.self.now c.loop-index.self c.loop-index.invariant.grown) one.now (c.requires.reached index one.now at)

pub loop-index-preserved : goal.loop-index-preserved
loop-index-preserved c =
    let meanings = c.args.meanings.now in
    let index = c.loop-index.index in
    let one = c.index-meanings-index.result in
    let at : slice_get (shown meanings) index ≡ Some one.now =
    at-map (λ (meaning : Bor Meaning). meaning.now) meanings index one (slice_get_read meanings (length meanings) index one refl (grind (arith, nat_tests, c.loop-index-test.true)) c.index-meanings-index.is) in
    record {
      search = c.in_ok-find.ensures.search;
      grown = grown-on c.args.self.now c.loop-index.self c.find.new.self c.loop-index.invariant.grown c.in_ok-find.ensures.grown;
      there = of-next c.loop-index.self c.find.new.self (shown meanings) index one.now c.in_ok-find.ensures.grown at c.in_ok-find.ensures.there c.loop-index.invariant.there;
    }

pub returns-clause-there : goal.returns-clause-there
returns-clause-there c =
    let meanings = c.args.meanings.now in
    of-all (HasFound c.loop-index.self) (shown meanings) c.loop-index.index
    (subst (λ count. count ≤ c.loop-index.index) (sym (length-map meanings (λ (meaning : Bor Meaning). meaning.now))) c.loop-index-test.false) c.loop-index.invariant.there
