use Rattle.std.proofs.Common.{subst, sym}
use Rattle.std.specs.Arc.{arc_value}
use Rattle.std.specs.Borrow.{Bor}
use Rattle.std.specs.Prelude.{slice_get}
use Rattle.module_model.specs.Exports.{exports_of, face_instances}
use Rattle.module_model.specs.Given.{AreReached, IsWhole}
use Rattle.module_model.specs.declared.face.Face.{Face}
use Rattle.exact_faces.specs.Exact.{IsNamed}
use Rattle.exact_faces.proofs.Searching.{can-at, inside-at}
use Rattle.exact_faces.proofs.Tables.{text-at}
use Rattle.exact_faces.proofs.reached.Search.run_own.Goals as goal

pub find_named-requires-clause-inside : goal.find_named-requires-clause-inside
find_named-requires-clause-inside c =
    let s = c.loop-next.self in
    let table = arc_value c.in-Some.table.now in
    subst (λ t. AreReached (face_instances s.face.now) (exports_of t)) (sym c.deref.ensures)
    (inside-at s c.loop-next.next table c.loop-next.invariant.search
    (subst (λ (face : Bor Face). IsWhole face.now) (sym c.loop-next.invariant.grown.face) c.requires.whole) (text-at c.as_str.result.now (slice_get s.found c.loop-next.next) table c.in-Some.ensures))

pub find_named-requires-clause-reached : goal.find_named-requires-clause-reached
find_named-requires-clause-reached c = λ decl named.
    let s = c.loop-next.self in
    let table = arc_value c.in-Some.table.now in
    can-at s c.loop-next.next table c.loop-next.invariant.search
    (subst (λ (face : Bor Face). IsWhole face.now) (sym c.loop-next.invariant.grown.face) c.requires.whole) (text-at c.as_str.result.now (slice_get s.found c.loop-next.next) table c.in-Some.ensures) decl
    (subst (λ t. IsNamed (exports_of t) decl) c.deref.ensures named)
