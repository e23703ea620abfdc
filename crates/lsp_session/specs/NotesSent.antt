-- Which notes were last sent, message by message.
use Rattle.std.specs.Prelude.{◌≡◌, [], Some, None}
use Rattle.std.specs.List.{AllByRecursion}
use Rattle.lsp_answers.specs.States.{State, Meaning}
use Rattle.lsp_session.specs.declared.phase.Phase.{Phase}
use Rattle.lsp_session.specs.declared.phase.Phase.TheVariants.{Uninitialized, Running, Stopped}

-- no notice is still to be sent, and the notes last sent for each open document are its notes
pub record AreSent (m : Meaning) (s : State) : Type 0 where
  pub none_due : s.due ≡ None
  pub sent : AllByRecursion (λ o. o.sent ≡ Some (m.notes_of s o.name)) s.opened

-- before `initialize` no document is open
pub record HasOpenedNone (s : State) : Type 0 where
  pub none_due : s.due ≡ None
  pub none : s.opened ≡ []

-- what is true of a session's state between two messages
abbrev pub HasSent : Meaning → Phase → State → Type 0
HasSent m Uninitialized s = HasOpenedNone s
HasSent m Running s = AreSent m s
HasSent m Stopped s = AreSent m s

-- the texts and the documents are as they were
pub record KeepsDocuments (s t : State) : Type 0 where
  pub texts : t.texts ≡ s.texts
  pub opened : t.opened ≡ s.opened
  pub due : t.due ≡ s.due
