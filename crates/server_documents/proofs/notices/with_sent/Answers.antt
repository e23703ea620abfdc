use Rattle.std.proofs.Common.{◌≡◌, ◌++◌, ◌∷◌, [], ℕ, List, map, rules, sym, ap, ◌∙◌}
use Rattle.std.specs.Map.{keys_of}
use Rattle.std.proofs.lemmas.List.{append-nil}
use Rattle.std.proofs.lemmas.Map.Iter.{rest_all, rest_more}
use Rattle.server_documents.specs.Held.{opened_entry}
use Rattle.server_documents.specs.Notices.{as_sent}
use Rattle.server_documents.specs.declared.opened.Open.{Open}
use Rattle.server_documents.proofs.Sending.{have-same, keys-more, put-last, sent-more}
use Rattle.server_documents.proofs.notices.with_sent.Goals as goal

pub loop-name-preserved : goal.loop-name-preserved
loop-name-preserved c =
    let inv = c.loop-name.invariant in
    let step : c.loop-name.name-iterator ≡ (c.in-Some.name, c.in-Some.document) ∷ c.next.new.self =
    rest_more (λ (x : List ℕ × Open). x) c.loop-name.name-iterator c.next.new.self c.next.result (c.in-Some.name, c.in-Some.document) c.in-Some.is c.next.ensures.steps in
    let along : keys_of c.loop-name.sent.entries ++ c.in-Some.name ∷ keys_of c.next.new.self ≡ keys_of c.args.opened.entries =
    ap (λ (z : List (List ℕ × Open)). keys_of c.loop-name.sent.entries ++ keys_of z) (sym step) ∙ inv.keys in
    let last : c.put.new.opened.entries ≡ c.loop-name.sent.entries ++ (c.in-Some.name, c.with_notes.result) ∷ [] =
    c.in_ok-put.ensures ∙ put-last c.loop-name.sent.entries c.args.opened.entries (keys_of c.next.new.self) c.in-Some.name c.with_notes.result along c.len-len.ensures.ordered in record {
      keys =
          ap (λ (es : List (List ℕ × Open)). keys_of es ++ keys_of c.next.new.self) last
          ∙ keys-more c.loop-name.sent.entries (keys_of c.next.new.self) c.in-Some.name c.with_notes.result ∙ along;
      sent = λ notes_of is.
          (let named : notes_of c.in-Some.name ≡ c.in_ok-notes.notes = search rules in
          ap (λ (es : List (List ℕ × Open)). map opened_entry es ++ map (as_sent notes_of) (map opened_entry c.next.new.self)) last
          ∙ sent-more notes_of c.loop-name.sent.entries (map (as_sent notes_of) (map opened_entry c.next.new.self)) c.in-Some.name c.in-Some.document c.with_notes.result c.in_ok-notes.notes named c.with_notes.ensures.uri c.with_notes.ensures.sent
          ∙ ap (λ (z : List (List ℕ × Open)). map opened_entry c.loop-name.sent.entries ++ map (as_sent notes_of) (map opened_entry z)) (sym step) ∙ inv.sent notes_of is);
      rest = search rules;
    }

pub returns-clause-documents : goal.returns-clause-documents
returns-clause-documents c = λ texts have.
    have-same texts c.loop-name.sent.entries c.args.opened.entries
    (sym (append-nil (keys_of c.loop-name.sent.entries))
    ∙ ap (λ (z : List (List ℕ × Open)). keys_of c.loop-name.sent.entries ++ keys_of z) (sym (rest_all (λ (x : List ℕ × Open). x) c.loop-name.name-iterator c.next.new.self c.next.result c.in-None.is c.next.ensures.steps))
    ∙ c.loop-name.invariant.keys)
    have
