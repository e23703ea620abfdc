use Rattle.std.proofs.Common.{◌∙◌, sym, subst, nat_eq, ap, ◌++◌, ◌∷◌, []}
use Rattle.indexmap.proofs.CallerLemmas.{insert_entry-new}
use Rattle.list_laws.proofs.Options.{none-there}
use Rattle.tla_model.specs.Starting.{AreNoted}
use Rattle.tla_model.proofs.Placing.{noted-again, noted-more}
use Rattle.tla_model.proofs.starts.note.Goals as goal

pub returns-then-contains_key-clause-noted : goal.returns-then-contains_key-clause-noted
returns-then-contains_key-clause-noted c =
    subst (AreNoted c.args.places.now.entries) (sym c.in_ok-push.ensures.items)
    (noted-again c.args.places.now.entries c.args.starts.now.items c.args.start c.requires.few c.requires.noted (sym c.contains_key.ensures ∙ c.if-contains_key.true))

pub returns-clause-noted : goal.returns-clause-noted
returns-clause-noted c =
    let absent = sym c.contains_key.ensures ∙ c.if-contains_key.false in
    subst (AreNoted c.insert.new.self.entries) (sym c.in_ok-push.ensures.items)
    (noted-more c.args.places.now.entries c.args.starts.now.items c.args.start c.requires.few c.requires.noted c.insert.new.self.entries absent
    (c.in_ok-insert.ensures.entries ∙ insert_entry-new nat_eq c.args.places.now c.args.start c.len-place.result (none-there _ absent) ∙ ap (λ z. c.args.places.now.entries ++ (c.args.start, z) ∷ []) (c.len-place.ensures ∙ c.args.starts.now.ok.0)))
