-- A document is closed: it is no longer open, and its file counts again.
use Rattle.std.proofs.Common.{◌≡◌, ℕ, Bool, true, false, cond, List, [], ◌∷◌, Option, Some, None, is_some, refl, sym, ap, subst, ◌∙◌}
use Rattle.std.specs.Prelude.{not, option_map}
use Rattle.std.specs.Str.{bytes_eq}
use Rattle.tool_io.specs.Folder.{Told}
use Rattle.lsp_answers.specs.States.{Opened, State}
use Rattle.server_documents.specs.Documents.{closed, closed_as, named, opened_as, with_file, without}
use Rattle.server_documents.specs.Held.{unopened, unopened_as}
use Rattle.server_folder.specs.Folders.{with_told}

-- what is taken away is not there
pub gone : (name : List ℕ) (ys : List Opened) → is_some (named (λ o. o.name) name (without (λ o. o.name) name ys)) ≡ false
gone name [] = refl
gone name (y ∷ ys) = by (bytes_eq name y.name) refl (gone name ys)
  where
    by : (b : Bool) → bytes_eq name y.name ≡ b → is_some (named (λ o. o.name) name (without (λ o. o.name) name ys)) ≡ false
        → is_some (named (λ o. o.name) name (cond (not b) (y ∷ without (λ o. o.name) name ys) (without (λ o. o.name) name ys))) ≡ false
    by true same rest = rest
    by false apart rest = ap (λ b. is_some (cond b (Some y) (named (λ o. o.name) name (without (λ o. o.name) name ys)))) apart ∙ rest

-- a document that was closed is not open
pub not-open : (s : State) (o : Option Opened) (name : List ℕ) → Some name ≡ option_map (λ o. o.name) o → is_some (opened_as (unopened_as s o) name) ≡ false
not-open s None name is = cc
not-open s (Some o) name is = let same : name ≡ o.name = cc in subst (λ n. is_some (named (λ o. o.name) n (without (λ o. o.name) o.name s.opened)) ≡ false) (sym same) (gone o.name s.opened)

-- over what a folder tells
pub closes-over : ((s : State) (o : Opened) → closed s o ≡ with_file (unopened s o) o.name) → (s : State) (told : Option Told) (o : Option Opened) (name : List ℕ) → Some name ≡ option_map (λ o. o.name) o
    → with_file (with_told (unopened_as s o) told) name ≡ closed_as (with_told s told) o
closes-over law s told None name is = cc
closes-over law s told (Some o) name is = let same : name ≡ o.name = cc in ap (with_file (with_told (unopened s o) told)) same ∙ sym (law (with_told s told) o)
