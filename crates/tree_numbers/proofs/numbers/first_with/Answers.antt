use Rattle.std.proofs.Common.{◌∙◌, sym, subst}
use Rattle.indexmap.proofs.CallerLemmas.{insert_entry-new}
use Rattle.kind_table.specs.Flattened.{flat_of}
use Rattle.tree_numbers.specs.Numbered.{AreKeys, IsFirst, IsKey, KeepsFirsts}
use Rattle.tree_numbers.proofs.Entries.{entries-lookup, first-there, firsts-kept, found-first}
use Rattle.tree_numbers.proofs.Exactness.{key_eq, key-back}
use Rattle.tree_numbers.proofs.Sharing.{nodes-alike}
use Rattle.tree_numbers.proofs.Telling.{keys-more}
use Rattle.tree_numbers.proofs.numbers.first_with.Goals as goal

pub returns-in-Some-clause-same : goal.returns-in-Some-clause-same
returns-in-Some-clause-same c =
    let flat = flat_of c.args.flat.now in
    nodes-alike flat c.args.key c.args.node c.in-Some.first.now c.requires.key
    (entries-lookup key_eq (IsKey flat) (key-back flat) c.args.keys.now.entries c.args.key c.in-Some.first.now c.requires.keys (sym c.in-Some.ensures.value))

pub returns-in-Some-clause-first : goal.returns-in-Some-clause-first
returns-in-Some-clause-first c = found-first (key_eq c.args.key) c.args.keys.now.entries c.in-Some.first.now (sym c.in-Some.ensures.value)

pub returns-in_err-insert-clause-kept : goal.returns-in_err-insert-clause-kept
returns-in_err-insert-clause-kept c = λ n first. subst (λ es. IsFirst es n) (sym c.in_err-insert.ensures.err) first

pub returns-clause-keys : goal.returns-clause-keys
returns-clause-keys c = λ numbers known apart are_known numbered keys.
    let flat = flat_of c.args.flat.now in
    let none = sym c.in_default.ensures.value in
    let more = c.in_ok-insert.ensures.entries ∙ insert_entry-new key_eq c.args.keys.now c.args.key c.args.node none in
    subst (AreKeys flat numbers known) (sym more) (keys-more flat numbers apart known are_known c.args.keys.now.entries c.args.key c.args.node keys c.requires.key numbered none)

pub returns-clause-kept : goal.returns-clause-kept
returns-clause-kept c =
    let keys = c.args.keys.now.entries in
    let more = c.in_ok-insert.ensures.entries ∙ insert_entry-new key_eq c.args.keys.now c.args.key c.args.node (sym c.in_default.ensures.value) in
    subst (KeepsFirsts keys) (sym more) (firsts-kept keys c.args.key c.args.node)

pub returns-clause-first : goal.returns-clause-first
returns-clause-first c =
    let more = c.in_ok-insert.ensures.entries ∙ insert_entry-new key_eq c.args.keys.now c.args.key c.args.node (sym c.in_default.ensures.value) in
    subst (λ es. IsFirst es c.args.node) (sym more) (first-there c.args.keys.now.entries c.args.key c.args.node)
