use Rattle.std.proofs.Common.{◌≡◌, false, subst, arith}
use Rattle.std.specs.Prelude.{Some}
use Rattle.std.proofs.lemmas.Str.{IsCharBoundary-start}
use Rattle.doc_edit.specs.Edits.{is_backward}
use Rattle.doc_edit.proofs.Offsets.{offset_of-order}
use Rattle.doc_edit.proofs.change.replaced.Goals as goal

pub returns-in-Some-clause-in_order : goal.returns-in-Some-clause-in_order
returns-in-Some-clause-in_order c =
    let forward : is_backward (Some c.in-Some.area) ≡ false = subst (λ area. is_backward area ≡ false) c.in-Some.is c.requires in
    let order = offset_of-order c.args.text.now c.in-Some.area.start c.in-Some.area.end forward in
    omega (arith, order, c.offset_utf16.ensures.value, c.offset_utf16-in-Some.ensures.value)

pub returns-in-None-clause-start_at_char : goal.returns-in-None-clause-start_at_char
returns-in-None-clause-start_at_char c = IsCharBoundary-start c.args.text.now c.bytes-bytes.ensures.utf8
