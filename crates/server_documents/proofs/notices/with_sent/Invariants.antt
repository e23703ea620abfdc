use Rattle.std.proofs.Common.{◌≡◌, ◌++◌, ℕ, List, map}
use Rattle.std.specs.Map.{keys_of}
use Rattle.lsp_wire.specs.declared.types.Note.{Note}
use Rattle.server_documents.specs.Held.{opened_entry}
use Rattle.server_documents.specs.Notices.{as_sent}
use Rattle.server_documents.proofs.notices.with_sent.Given as goal

abbrev pub invariant-loop-name : goal.invariant-loop-name
invariant-loop-name l = record {
  keys : keys_of l.sent.entries ++ keys_of l.name-iterator ≡ keys_of l.fn.opened.entries;
  sent : (notes_of : List ℕ → List Note) → l.fn.notes ≡ map (λ o. notes_of o.name) (map opened_entry l.fn.opened.entries)
      → map opened_entry l.sent.entries ++ map (as_sent notes_of) (map opened_entry l.name-iterator) ≡ map (as_sent notes_of) (map opened_entry l.fn.opened.entries);
  rest : (notes_of : List ℕ → List Note) → l.fn.notes ≡ map (λ o. notes_of o.name) (map opened_entry l.fn.opened.entries)
      → l.rest ≡ map (λ o. notes_of o.name) (map opened_entry l.name-iterator);
}
