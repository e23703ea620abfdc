use Rattle.std.proofs.Common.{Result, Ok, Err, IfOk, map, subst, sym}
use Rattle.std.specs.Cmp.Lexicographic.{slice_cmp}
use Rattle.std.specs.List.Sorted.{IsStrictlySortedBy}
use Rattle.std.specs.Ordering.{nat_cmp}
use Rattle.lsp_answers.specs.States.{State}
use Rattle.server_documents.proofs.Entries.{text-names}
use Rattle.server_documents.proofs.documents.Documents.texts.Goals as goal

if-ok : {A E : Type 0} (P : Type 0) (r : Result A E) → P → IfOk r (λ _. P)
if-ok P (Ok a) p = p
if-ok P (Err e) p = tt

pub returns-clause-order : goal.returns-clause-order
returns-clause-order c =
    if-ok (IsStrictlySortedBy (slice_cmp nat_cmp) (map (λ t. t.name) c.args.self.now.texts)) c.texts_of.result
    (subst (λ (s : State). IsStrictlySortedBy (slice_cmp nat_cmp) (map (λ t. t.name) s.texts)) c.self.view_is
    (subst (IsStrictlySortedBy (slice_cmp nat_cmp)) (sym (text-names c.self.inside.texts.entries)) c.len-len.ensures.ordered))
