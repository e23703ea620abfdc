use Rattle.std.proofs.Common.{◌≡◌, ◌≤◌, length, refl, subst, sym, Some, arith}
use Rattle.std.specs.Prelude.{slice_get}
use Rattle.std.specs.Borrow.{Bor}
use Rattle.std.proofs.lemmas.Bool.Decides.{nat_tests}
use Rattle.std.proofs.lemmas.List.{length-map}
use Rattle.std.proofs.lemmas.Option.{slice_get_read}
use Rattle.list_laws.proofs.Lists.{at-map}
use Rattle.tla_model.specs.Entities.{Meaning}
use Rattle.exact_faces.specs.Searching.{IsFound, shown}
use Rattle.exact_faces.proofs.Searching.{found-next, of-all}
use Rattle.exact_faces.proofs.reached.are_found.Goals as goal

pub loop-index-preserved : goal.loop-index-preserved
loop-index-preserved c =
    let meanings = c.args.meanings.now in
    let index = c.loop-index.index in
    let one = c.index-meanings-index.result in
    let at : slice_get (shown meanings) index ≡ Some one.now =
    at-map (λ (meaning : Bor Meaning). meaning.now) meanings index one (slice_get_read meanings (length meanings) index one refl (grind (arith, nat_tests, c.loop-index-test.true)) c.index-meanings-index.is) in
    found-next c.args.found.now (shown meanings) index one.now at (c.if-not-is_found.ensures refl) c.loop-index.invariant

pub returns : goal.returns
returns c = λ all.
    let meanings = c.args.meanings.now in
    of-all (IsFound c.args.found.now) (shown meanings) c.loop-index.index
    (subst (λ count. count ≤ c.loop-index.index) (sym (length-map meanings (λ (meaning : Bor Meaning). meaning.now))) c.loop-index-test.false) c.loop-index.invariant
