-- What is true of every state that the server's calls leave.
use Rattle.std.specs.Prelude.{◌≡◌, ℕ, List, map, Some, IsSome}
use Rattle.std.specs.List.{AllByRecursion}
use Rattle.std.specs.List.Sorted.{IsStrictlySortedBy}
use Rattle.std.specs.Option.{IfSome}
use Rattle.std.specs.Ordering.{nat_cmp}
use Rattle.std.specs.Cmp.Lexicographic.{slice_cmp}
use Rattle.lsp_wire.specs.declared.types.Change.{Change}
use Rattle.lsp_wire.specs.declared.types.FileEvent.{FileEvent}
use Rattle.lsp_answers.specs.States.{State, Meaning, after_dues, judged_change}
use Rattle.server_documents.specs.Documents.{text_of}
use Rattle.server_uris.specs.Uris.{module_of}

-- names stand in byte order, none of them twice
abbrev pub AreInByteOrder : List (List ℕ) → Type 0
AreInByteOrder names = IsStrictlySortedBy (slice_cmp nat_cmp) names

-- the names of the texts, and those of the open documents, are in byte order, none of them twice
pub record HasNamesInOrder (s : State) : Type 0 where
  pub texts : AreInByteOrder (map (λ t. t.name) s.texts)
  pub opened : AreInByteOrder (map (λ o. o.name) s.opened)

-- the URI of each open document is one of its module, and so is that of the document whose notice is due
pub record HasMembers (s : State) : Type 0 where
  pub opened : AllByRecursion (λ o. module_of s.root o.uri ≡ Some o.name) s.opened
  pub due : IfSome s.due (λ d. module_of s.root d.uri ≡ Some d.name)

-- each open document has a text
abbrev pub HasTexts : State → Type 0
HasTexts s = AllByRecursion (λ o. IsSome (text_of s o.name)) s.opened

-- what is true of a state is true after each notification, also where it meets a limit, and once its notices are sent
pub record IsKept (m : Meaning) (P : State → Type 0) : Type 0 where
  pub opened : (s : State) (uri text : List ℕ) → P s → P (m.after_open s uri text)
  pub changed : (s : State) (uri : List ℕ) (changes : List Change) → P s → P (m.after_change s uri changes)
  pub limited : (s : State) (uri : List ℕ) (changes : List Change) → P s → P (judged_change m s uri changes).state
  pub closed : (s : State) (uri : List ℕ) → P s → P (m.after_close s uri)
  pub files : (s : State) (events : List FileEvent) → P s → P (m.after_files s events)
  pub sent : (s : State) → P s → P (after_dues m.notes_of s)
