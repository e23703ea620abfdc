use Rattle.std.proofs.Common.{subst, sym, ap, ◌∙◌}
use Rattle.std.specs.List.{All}
use Rattle.tla_lexeme.specs.Spans.{IsPlaced}
use Rattle.family_levels.specs.Findings.{faults_in}
use Rattle.server_notes.specs.Areas.{notes_on}
use Rattle.workspace.proofs.Finding.{faults-placed, notes-are}
use Rattle.workspace.proofs.notes.notes_of.Goals as goal

pub notes_on-requires : goal.notes_on-requires
notes_on-requires c =
    let at = sym (c.in-Some.ensures c.requires.opened) in
    subst (λ faults. All (λ fault. IsPlaced c.in-Some.text.now fault.span) faults) (sym c.faults.ensures)
    (subst (λ name. All (λ fault. IsPlaced c.in-Some.text.now fault.span) (faults_in c.args.found.now name)) (sym c.as_str.ensures)
    (faults-placed c.args.documents.now c.args.found.now c.args.name.now c.in-Some.text.now c.requires.found at c.bytes-bytes.ensures.utf8))

pub returns : goal.returns
returns c =
    let at = sym (c.in-Some.ensures c.requires.opened) in
    c.in_ok-notes.ensures ∙ ap (notes_on c.in-Some.text.now) (c.faults.ensures ∙ ap (faults_in c.args.found.now) c.as_str.ensures)
    ∙ notes-are c.args.documents.now c.args.found.now c.args.name.now c.in-Some.text.now c.requires.found at c.bytes-bytes.ensures.utf8
