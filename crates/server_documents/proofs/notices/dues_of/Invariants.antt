use Rattle.std.proofs.Common.{◌≡◌, ◌++◌, ℕ, List, map}
use Rattle.lsp_wire.specs.declared.types.Note.{Note}
use Rattle.lsp_answers.specs.States.{notices}
use Rattle.server_documents.specs.Held.{opened_entry}
use Rattle.server_documents.proofs.notices.dues_of.Given as goal

abbrev pub invariant-loop-name : goal.invariant-loop-name
invariant-loop-name l = record {
  dues : (notes_of : List ℕ → List Note) → l.fn.notes ≡ map (λ o. notes_of o.name) (map opened_entry l.fn.opened.entries)
      → l.dues ++ notices notes_of l.due (map opened_entry l.name-iterator) ≡ notices notes_of l.fn.due (map opened_entry l.fn.opened.entries);
  rest : (notes_of : List ℕ → List Note) → l.fn.notes ≡ map (λ o. notes_of o.name) (map opened_entry l.fn.opened.entries)
      → l.rest ≡ map (λ o. notes_of o.name) (map opened_entry l.name-iterator);
}
