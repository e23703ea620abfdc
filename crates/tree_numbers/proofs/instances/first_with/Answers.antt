use Rattle.std.proofs.Common.{◌∙◌, sym, subst}
use Rattle.indexmap.proofs.CallerLemmas.{insert_entry-new}
use Rattle.kind_table.specs.Flattened.{flat_of}
use Rattle.tree_numbers.specs.Numbered.{AreContents, AreKnown, IsFirst, KeepsFirsts}
use Rattle.tree_numbers.proofs.Entries.{entries-lookup, first-there, firsts-kept, found-first}
use Rattle.tree_numbers.proofs.Exactness.{contents_eq, contents-back}
use Rattle.tree_numbers.proofs.Sharing.{instances-alike}
use Rattle.tree_numbers.proofs.Telling.{known-more}
use Rattle.tree_numbers.proofs.instances.first_with.Goals as goal

pub returns-in-Some-clause-same : goal.returns-in-Some-clause-same
returns-in-Some-clause-same c =
    let flat = flat_of c.args.flat.now in
    instances-alike flat c.args.contents c.args.instance c.in-Some.first.now c.requires.contents
    (entries-lookup contents_eq (AreContents flat) (contents-back flat) c.args.known.now.entries c.args.contents c.in-Some.first.now c.requires.known (sym c.in-Some.ensures.value))

pub returns-in-Some-clause-first : goal.returns-in-Some-clause-first
returns-in-Some-clause-first c = found-first (contents_eq c.args.contents) c.args.known.now.entries c.in-Some.first.now (sym c.in-Some.ensures.value)

pub returns-in_err-insert-clause-kept : goal.returns-in_err-insert-clause-kept
returns-in_err-insert-clause-kept c = λ n first. subst (λ es. IsFirst es n) (sym c.in_err-insert.ensures.err) first

pub returns-clause-known : goal.returns-clause-known
returns-clause-known c = λ numbers apart numbered known.
    let flat = flat_of c.args.flat.now in
    let none = sym c.in_default.ensures.value in
    let more = c.in_ok-insert.ensures.entries ∙ insert_entry-new contents_eq c.args.known.now c.args.contents c.args.instance none in
    subst (AreKnown flat numbers) (sym more) (known-more flat numbers apart c.args.known.now.entries c.args.contents c.args.instance known c.requires.contents numbered none)

pub returns-clause-kept : goal.returns-clause-kept
returns-clause-kept c =
    let known = c.args.known.now.entries in
    let more = c.in_ok-insert.ensures.entries ∙ insert_entry-new contents_eq c.args.known.now c.args.contents c.args.instance (sym c.in_default.ensures.value) in
    subst (KeepsFirsts known) (sym more) (firsts-kept known c.args.contents c.args.instance)

pub returns-clause-first : goal.returns-clause-first
returns-clause-first c =
    let more = c.in_ok-insert.ensures.entries ∙ insert_entry-new contents_eq c.args.known.now c.args.contents c.args.instance (sym c.in_default.ensures.value) in
    subst (λ es. IsFirst es c.args.instance) (sym more) (first-there c.args.known.now.entries c.args.contents c.args.instance)
