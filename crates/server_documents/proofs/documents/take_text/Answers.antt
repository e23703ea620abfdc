use Rattle.std.proofs.Common.{ap, map, refl, subst, sym, ◌∙◌}
use Rattle.std.specs.Cmp.Lexicographic.{slice_cmp}
use Rattle.std.specs.Ordering.{is_eq, nat_cmp}
use Rattle.server_documents.specs.Held.{AreShort, held_as, text_as}
use Rattle.server_documents.proofs.Entries.{short-taken, taken-others, taken-shown}
use Rattle.server_documents.proofs.documents.take_text.Goals as goal

pub returns-clause-texts : goal.returns-clause-texts
returns-clause-texts c =
    ap (map text_as) c.remove-text.ensures.entries ∙ taken-shown text_as (λ t. t.name) (λ e. refl) c.args.name.now c.args.texts.now.entries c.len-len.ensures.ordered

pub returns-clause-others : goal.returns-clause-others
returns-clause-others c = λ other apart. ap (λ es. held_as es other) c.remove-text.ensures.entries ∙ taken-others c.args.name.now other c.args.texts.now.entries apart

pub returns-clause-short : goal.returns-clause-short
returns-clause-short c = λ all. subst AreShort (sym c.remove-text.ensures.entries) (short-taken (λ key. is_eq (slice_cmp nat_cmp c.args.name.now key)) c.args.texts.now.entries all)
