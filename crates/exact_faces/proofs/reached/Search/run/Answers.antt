use Rattle.std.proofs.Common.{subst, sym, arith}
use Rattle.std.specs.Arc.{arc_value}
use Rattle.std.specs.Borrow.{Bor}
use Rattle.std.proofs.lemmas.Bool.Decides.{nat_tests}
use Rattle.module_model.specs.Exports.{exports_of, face_exports, face_instances}
use Rattle.module_model.specs.Given.{AreReached, IsWhole}
use Rattle.module_model.specs.declared.face.Face.{Face}
use Rattle.exact_faces.specs.Exact.{IsNamed}
use Rattle.exact_faces.specs.Found.{AreAllFound, told}
use Rattle.exact_faces.proofs.Searching.{are-reached-more, can-at, grown-on, inside-at, seen-all, seen-next}
use Rattle.exact_faces.proofs.reached.Search.run.Goals as goal

pub find_named-requires-clause-inside : goal.find_named-requires-clause-inside
find_named-requires-clause-inside c =
    let s = c.loop-next.self in
    subst (λ table. AreReached (face_instances s.face.now) (exports_of table)) (sym c.deref.ensures)
    (inside-at s c.loop-next.next (arc_value c.in-Some.table.now) c.loop-next.invariant.search
    (subst (λ (face : Bor Face). IsWhole face.now) (sym c.loop-next.invariant.grown.face) c.requires.whole) c.in-Some.ensures)

pub find_named-requires-clause-reached : goal.find_named-requires-clause-reached
find_named-requires-clause-reached c = λ decl named.
    let s = c.loop-next.self in
    can-at s c.loop-next.next (arc_value c.in-Some.table.now) c.loop-next.invariant.search
    (subst (λ (face : Bor Face). IsWhole face.now) (sym c.loop-next.invariant.grown.face) c.requires.whole) c.in-Some.ensures decl
    (subst (λ table. IsNamed (exports_of table) decl) c.deref.ensures named)

pub loop-next-preserved : goal.loop-next-preserved
loop-next-preserved c =
    let s = c.loop-next.self in
    let new = c.find_named.new.self in
    let grown = c.in_ok-find_named.ensures.grown in
    record {
      search = c.in_ok-find_named.ensures.search;
      grown = grown-on c.args.self.now s new c.loop-next.invariant.grown grown;
      exports = subst (λ (face : Bor Face). AreReached (told new.found) (face_exports face.now)) (sym grown.face) (are-reached-more new.found s.found (face_exports s.face.now) grown.found c.loop-next.invariant.exports);
      seen = seen-next new.found s.found c.loop-next.next (arc_value c.in-Some.table.now) grown.found (grind (arith, nat_tests, c.loop-next-test.true, c.len.ensures)) c.in-Some.ensures
          (subst (λ table. AreReached (told new.found) (exports_of table)) c.deref.ensures c.in_ok-find_named.ensures.named) c.loop-next.invariant.seen;
    }

pub returns-clause-all : goal.returns-clause-all
returns-clause-all c =
    let s = c.loop-next.self in
    subst (λ (face : Bor Face). AreAllFound face.now (told s.found)) c.loop-next.invariant.grown.face
    (seen-all s.face.now s.found c.loop-next.next (grind (arith, nat_tests, c.loop-next-test.false, c.len.ensures)) c.loop-next.invariant.exports c.loop-next.invariant.seen)
