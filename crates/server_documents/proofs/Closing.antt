-- What an open document is as a state, found by a URI.
use Rattle.std.proofs.Common.{◌≡◌, ℕ, List, Option, Some, None, refl, sym, ap, ◌∙◌}
use Rattle.std.specs.Prelude.{map, option_and_then, option_map}
use Rattle.std.specs.Map.{lookup}
use Rattle.std.specs.Str.{bytes_eq}
use Rattle.lsp_answers.specs.States.{ModuleText, Named, Opened, Root, State}
use Rattle.server_uris.specs.Uris.{module_of}
use Rattle.server_documents.specs.Documents.{opened_as, opened_at, without}
use Rattle.server_documents.specs.declared.opened.Open.{Open}
use Rattle.server_documents.specs.Held.{opened_entry, unopened_as}
use Rattle.server_documents.proofs.Entries.{open-entry}

-- a document whose module is known is open as it is held
pub held-at : (s : State) (uri name : List ℕ) (root : Option Root) (es : List (List ℕ × Open)) → root ≡ s.root → map opened_entry es ≡ s.opened → module_of root uri ≡ Some name
    → opened_at s uri ≡ option_map (λ (v : Open). opened_entry (name, v)) (lookup (λ key. bytes_eq name key) es)
held-at s uri name root es rooted opened module_is =
    ap (option_and_then (opened_as s)) (ap (λ r. module_of r uri) (sym rooted) ∙ module_is)
    ∙ ap (λ (os_ : List Opened). opened_as (record s { opened = os_ }) name) (sym opened) ∙ open-entry name es

module _ (root : Option Root) (texts : List ModuleText) (es new : List (List ℕ × Open)) (due : Option Named) (uri name : List ℕ) (module_is : module_of root uri ≡ Some name) where
  abbrev pub before : State
  before = record { root = root; texts = texts; opened = map opened_entry es; due = due; folder = None }

  pub found-at : (found : Option Open) → lookup (λ key. bytes_eq name key) es ≡ found → opened_at before uri ≡ option_map (λ (v : Open). opened_entry (name, v)) found
  found-at found is = held-at before uri name root es refl refl module_is ∙ ap (option_map (λ (v : Open). opened_entry (name, v))) is

  pub closes-none : lookup (λ key. bytes_eq name key) es ≡ None → new ≡ es → record { root = root; texts = texts; opened = map opened_entry new; due = due; folder = None } ≡ unopened_as before (opened_at before uri)
  closes-none none same = ap (λ (z : List (List ℕ × Open)). record { root = root; texts = texts; opened = map opened_entry z; due = due; folder = None }) same ∙ ap (unopened_as before) (sym (found-at None none))

  pub closes-some : (document : Open) (n u : List ℕ) → lookup (λ key. bytes_eq name key) es ≡ Some document → map opened_entry new ≡ without (λ o. o.name) name (map opened_entry es) → n ≡ name → u ≡ document.uri
      → record { root = root; texts = texts; opened = map opened_entry new; due = Some (record { name = n; uri = u }); folder = None } ≡ unopened_as before (opened_at before uri)
  closes-some document n u found taken same spelled =
      (λ i. record { root = root; texts = texts; opened = taken i; due = Some (record { name = same i; uri = spelled i }); folder = None }) ∙ ap (unopened_as before) (sym (found-at (Some document) found))

  pub names-none : lookup (λ key. bytes_eq name key) es ≡ None → None ≡ option_map (λ o. o.name) (opened_at before uri)
  names-none none = ap (option_map (λ (o : Opened). o.name)) (sym (found-at None none))

  pub names-some : (document : Open) → lookup (λ key. bytes_eq name key) es ≡ Some document → Some name ≡ option_map (λ o. o.name) (opened_at before uri)
  names-some document found = ap (option_map (λ (o : Opened). o.name)) (sym (found-at (Some document) found))
