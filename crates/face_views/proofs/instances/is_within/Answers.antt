use Rattle.std.proofs.Common.{ℕ, None, Option, Some, ap, length, nat_eq, subst, sym, ◌∙◌}
use Rattle.std.specs.Str.{bytes_eq}
use Rattle.module_model.specs.Parts.{InText}
use Rattle.tla_model.specs.Tables.{lookup}
use Rattle.face_views.specs.Exact.{Tells}
use Rattle.face_views.specs.Found.{AreWithin}
use Rattle.face_views.proofs.Exactly.{tells-of}
use Rattle.face_views.proofs.Looking.{empty-within}
use Rattle.face_views.proofs.instances.is_within.Goals as goal

pub returns-in-Some-part_of : goal.returns-in-Some-part_of
returns-in-Some-part_of c =
    let part : Option InText = lookup bytes_eq c.args.parts.now c.args.title.now in
    let other : Option InText = lookup bytes_eq c.args.others.now c.args.title.now in
    let here : InText = c.deref.result.now in
    let there : InText = c.deref-in-Some-part_of.result.now in
    tells-of c.are_within.result AreWithin (Some here) (Some there) part other
    (ap Some c.deref.ensures ∙ c.in-Some.ensures)
    (ap Some c.deref-in-Some-part_of.ensures ∙ c.in-Some-part_of.ensures) c.are_within.ensures

pub returns-in-None : goal.returns-in-None
returns-in-None c =
    let part : Option InText = lookup bytes_eq c.args.parts.now c.args.title.now in
    let other : Option InText = lookup bytes_eq c.args.others.now c.args.title.now in
    let here : InText = c.deref-in-None.result.now in
    subst (λ (count : ℕ). Tells (nat_eq count 0) (AreWithin part other)) (sym c.len.ensures)
    (tells-of (nat_eq (length here) 0) AreWithin (Some here) None part other
    (ap Some c.deref-in-None.ensures ∙ c.in-Some.ensures) c.in-None.ensures (empty-within here))
