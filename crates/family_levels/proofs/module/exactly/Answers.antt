use Rattle.std.proofs.Common.{◌≡◌, Some, ap, refl, subst, sym}
use Rattle.std.specs.Arc.{arc_value}
use Rattle.module_model.specs.Given.{AreFaces, IsFaceOver}
use Rattle.exact_faces.specs.Exact.{IsExactOf}
use Rattle.family_tables.specs.Agreement.{accepted_face}
use Rattle.family_tables.specs.declared.outcome.Outcome.TheVariants as outcome
use Rattle.family_levels.specs.Exactness.{IsExactlyAs}
use Rattle.family_levels.proofs.module.exactly.Goals as goal

pub exact-requires : goal.exact-requires
exact-requires c =
    let over = c.requires.over (arc_value c.in-Accepted.face) (ap (λ o. accepted_face (Some o)) c.in-Accepted.is) in
    record {
      over = subst (λ title. IsFaceOver c.args.imports.now title (arc_value c.in-Accepted.face)) (sym over.named) over;
      faces = subst (AreFaces c.args.imports.now) (sym over.named) c.requires.faces;
      exact = c.requires.exact;
      names = c.requires.names;
    }

pub returns : goal.returns
returns c = record {
  outcome = subst (λ o. IsExactlyAs o (outcome.Accepted c.in_ok-face.face)) (sym c.in-Accepted.is) c.in_ok-face.ensures;
  number = refl;
  names = refl;
}
