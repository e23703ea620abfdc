use Rattle.std.proofs.Common.{ap, refl, subst, sym, ◌∙◌}
use Rattle.std.specs.Arc.{arc_value}
use Rattle.module_model.specs.declared.face.Face.{Face}
use Rattle.exact_faces.specs.Exact.{IsExactOf}
use Rattle.exact_faces.specs.Found.{AreFound, told}
use Rattle.exact_faces.specs.Kept.{AreOwnPlain, AreReachedAll}
use Rattle.exact_faces.proofs.Exactly.{exact-itself}
use Rattle.exact_faces.proofs.Owning.{plain-exact}
use Rattle.exact_faces.proofs.face.exact.Goals as goal

pub returns-then-are_own_plain : goal.returns-then-are_own_plain
returns-then-are_own_plain c =
    let face = arc_value c.args.face.now in
    let found = c.in_ok-found.found in
    let known = subst (λ (f : Face). AreFound f (told found)) c.deref.ensures c.in_ok-found.ensures.found in
    let all = subst (λ (f : Face). AreReachedAll f found) c.deref-2.ensures (c.in_ok-are_reached_all.ensures c.if-not-branch.false) in
    let own = subst (λ (f : Face). AreOwnPlain found face.«module» f.parts) c.deref-4.ensures
    (subst (λ title. AreOwnPlain found title c.deref-4.result.now.parts) (c.as_str.ensures ∙ ap (λ (f : Face). f.«module») c.deref-3.ensures) (c.if-are_own_plain.ensures refl)) in
    subst (λ made. IsExactOf face made) (sym c.in_ok-shared.ensures.cases)
    (exact-itself c.args.imports.now face c.requires.over (plain-exact face found known all own))
