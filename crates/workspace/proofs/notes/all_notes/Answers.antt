use Rattle.std.proofs.Common.{◌∙◌, Some, ap, sym}
use Rattle.std.proofs.lemmas.Option.{slice_get-get_or}
use Rattle.family_facts.proofs.Lists.{at-contains}
use Rattle.workspace.proofs.notes.all_notes.Goals as goal

pub notes_of-requires-clause-found : goal.notes_of-requires-clause-found
notes_of-requires-clause-found c =
    let names = c.args.names.now in
    let i = c.loop-name.name-index in
    c.requires.found c.name-item.result (at-contains names i c.name-item.result (slice_get-get_or names i _ c.loop-name-test.true ∙ ap (λ n. Some n) (sym c.name-item.is)))
