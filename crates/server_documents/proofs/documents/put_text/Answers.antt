use Rattle.std.proofs.Common.{List, ℕ, Some, ap, cond, map, refl, subst, sym, ◌∙◌}
use Rattle.std.specs.BTreeMap.{insert_entry}
use Rattle.std.specs.Cmp.Lexicographic.{slice_cmp}
use Rattle.std.specs.Ordering.{nat_cmp}
use Rattle.server_documents.specs.Held.{AreShort, held_as, text_as}
use Rattle.server_documents.proofs.Entries.{lookup-put, put-shown, short-put}
use Rattle.server_documents.proofs.documents.put_text.Goals as goal

pub returns-in-Ok-insert-clause-texts : goal.returns-in-Ok-insert-clause-texts
returns-in-Ok-insert-clause-texts c =
    ap (map text_as) (c.in-Ok-insert.ensures.entries ∙ ap (λ (k : List ℕ). insert_entry (slice_cmp nat_cmp) c.args.texts.now.entries k c.args.held) c.in-Ok.ensures)
    ∙ put-shown text_as (λ t. t.name) (λ e. refl) c.args.texts.now.entries c.args.name.now c.args.held

pub returns-in-Ok-insert-clause-held : goal.returns-in-Ok-insert-clause-held
returns-in-Ok-insert-clause-held c = λ other.
    ap (λ es. held_as es other) (c.in-Ok-insert.ensures.entries ∙ ap (λ (k : List ℕ). insert_entry (slice_cmp nat_cmp) c.args.texts.now.entries k c.args.held) c.in-Ok.ensures)
    ∙ lookup-put c.args.texts.now.entries c.args.name.now c.args.held other

pub returns-in-Ok-insert-clause-others : goal.returns-in-Ok-insert-clause-others
returns-in-Ok-insert-clause-others c = λ other apart.
    returns-in-Ok-insert-clause-held c other ∙ ap (λ b. cond b (Some c.args.held) (held_as c.args.texts.now.entries other)) apart

pub returns-in-Ok-insert-clause-short : goal.returns-in-Ok-insert-clause-short
returns-in-Ok-insert-clause-short c = λ all here.
    subst AreShort (sym (c.in-Ok-insert.ensures.entries ∙ ap (λ (k : List ℕ). insert_entry (slice_cmp nat_cmp) c.args.texts.now.entries k c.args.held) c.in-Ok.ensures))
    (short-put c.args.texts.now.entries c.args.name.now c.args.held all here)
