use Rattle.std.proofs.Common.{◌≡◌, ◌∙◌, ap, map, subst, sym, true}
use Rattle.std.specs.List.{All}
use Rattle.std.specs.Prelude.{is_some}
use Rattle.server_documents.specs.Documents.{opened_as}
use Rattle.server_texts.specs.Notes as in_notes
use Rattle.workspace.specs.Found.{AreNamesFound}
use Rattle.workspace.proofs.Finding.{all-open, notes-by-names}
use Rattle.workspace.proofs.workspace.notes_in.Goals as goal

pub all_notes-requires-clause-found : goal.all_notes-requires-clause-found
all_notes-requires-clause-found g c =
    let names = c.as_slice-2.ensures ∙ c.in_ok-names.ensures in
    subst (λ found. AreNamesFound c.args.documents.now.texts found c.as_slice-2.result.now) (sym c.found.ensures)
    (subst (λ ns. AreNamesFound c.args.documents.now.texts c.find_named.new.family ns) (c.in_ok-wanted.ensures ∙ sym names)
    (subst (λ texts. AreNamesFound texts c.find_named.new.family c.in_ok-wanted.wanted) (c.as_slice.ensures ∙ c.in_ok-texts.ensures.texts) c.in_ok-find_named.ensures))

pub all_notes-requires-clause-opened : goal.all_notes-requires-clause-opened
all_notes-requires-clause-opened g c =
    subst (λ names. All (λ name. is_some (opened_as c.args.documents.now name) ≡ true) names) (sym (c.as_slice-2.ensures ∙ c.in_ok-names.ensures)) (all-open c.args.documents.now)

pub returns : goal.returns
returns g c =
    c.in_ok-notes.ensures ∙ (ap (map (in_notes.notes_of c.args.documents.now)) (c.as_slice-2.ensures ∙ c.in_ok-names.ensures) ∙ notes-by-names c.args.documents.now c.args.documents.now.opened)
