-- Files of modules that are read, one behind the other, with a limit judged before each.
use Rattle.std.proofs.Common.{◌≡◌, ℕ, List, [], ◌∷◌, Option, Some, None, Result, Ok, Err, IsSome, refl, sym, ap, ◌∙◌}
use Rattle.std.specs.Prelude.{⊤, option_and_then}
use Rattle.tool_io.specs.Folder.{Told}
use Rattle.lsp_answers.specs.States.{After, Root, State, IsAfter, judged, judged_reads, limit_of, unless_limit}
use Rattle.lsp_answers.specs.declared.AnswerFault.{AnswerFault}
use Rattle.lsp_answers.specs.declared.AnswerFault.TheVariants.{Folder, Limit, Memory}
use Rattle.server_uris.specs.Uris.{client_root_of}
use Rattle.server_documents.specs.Documents.{after_root, listed, modules_in, root_modules, with_client_root, with_file}
use Rattle.server_documents.specs.Held.{with_root}
use Rattle.server_folder.specs.Folders.{called_at, listed_in, with_told}

-- ---- limits

-- a limit that is judged of documents is judged of them over a folder
pub judged-over : (documents after : State) (told : Option Told) (result : Result ⊤ AnswerFault) → with_told documents told ≡ after → IsAfter (judged documents) result documents → IsAfter (judged after) result (with_told documents told)
judged-over documents after told (Ok done) same h = (ap limit_of (sym same) ∙ h.0, same)
judged-over documents after told (Err Folder) same h = tt
judged-over documents after told (Err (Limit said)) same h = ap limit_of (sym same) ∙ h
judged-over documents after told (Err Memory) same h = tt

-- ---- reads

pub reads-step : (s t : State) (name : List ℕ) (rest : List (List ℕ)) → limit_of s ≡ None → t ≡ with_file s name → judged_reads with_file t rest ≡ judged_reads with_file s (name ∷ rest)
reads-step s t name rest none read =
    ap (λ u. judged_reads with_file u rest) read ∙ ap (λ l. unless_limit l s (judged_reads with_file (with_file s name) rest)) (sym none)

reads-limited : (s : State) (names : List (List ℕ)) (said : ℕ) → limit_of s ≡ Some said → (judged_reads with_file s names).limit ≡ Some said
reads-limited s [] said e = e
reads-limited s (name ∷ names) said e = ap (λ l. (unless_limit l s (judged_reads with_file (with_file s name) names)).limit) e

-- a limit that is met before a read ends the reads
pub reads-ended : (documents s : State) (told : Option Told) (all : After) (names : List (List ℕ)) (fault : AnswerFault) → judged_reads with_file (with_told documents told) names ≡ all → IsAfter (judged documents) (Err fault) documents → IsAfter all (Err fault) s
reads-ended documents s told all names Folder along h = tt
reads-ended documents s told all names (Limit said) along h = ap (λ (a : After). a.limit) (sym along) ∙ reads-limited (with_told documents told) names said h
reads-ended documents s told all names Memory along h = tt

-- ---- the root

listed-over : (s : State) (told : Option Told) (path : Option (List ℕ)) → with_told s (called_at path told) ≡ listed (with_told s told) path
listed-over s told None = refl
listed-over s told (Some path) = refl

modules-over : (s : State) (told : Option Told) (path : Option (List ℕ)) → listed_in path (called_at path told) ≡ modules_in (with_told s told) path
modules-over s told None = refl
modules-over s told (Some path) = refl

-- a root is taken, and its folder listed
pub root-taken : (documents : State) (told : Option Told) (uri : List ℕ) (root : Root) → client_root_of uri ≡ Some root → with_told (with_root documents root) (called_at root.path told) ≡ after_root (with_told documents told) (Some uri)
root-taken documents told uri root is =
    listed-over (with_root documents root) told root.path ∙ ap (with_client_root (with_told documents told)) (sym is)

pub root-listed : (documents : State) (told : Option Told) (uri : List ℕ) (root : Root) → client_root_of uri ≡ Some root → listed_in root.path (called_at root.path told) ≡ root_modules (with_told documents told) (Some uri)
root-listed documents told uri root is =
    modules-over documents told root.path ∙ ap (λ r. modules_in (with_told documents told) (option_and_then (λ (x : Root). x.path) r)) (sym is)

-- a URI that is no root changes nothing
pub root-none : (s : State) (uri : List ℕ) → client_root_of uri ≡ None → judged s ≡ judged_reads with_file (after_root s (Some uri)) (root_modules s (Some uri))
root-none s uri none =
    ap (λ (r : Option Root). judged_reads with_file (with_client_root s r) (modules_in s (option_and_then (λ (x : Root). x.path) r))) (sym none)

pub still-tells : (path : Option (List ℕ)) (told : Option Told) → IsSome told → IsSome (called_at path told)
still-tells None told tells = tells
still-tells (Some path) None tells = cc
still-tells (Some path) (Some t) tells = refl
