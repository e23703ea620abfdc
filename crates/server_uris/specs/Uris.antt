-- URIs: the root of a folder, and the modules that documents are.
use Rattle.std.specs.Prelude.{◌≡◌, ◌≢◌, ℕ, ◌-◌, ◌==◌, nat_eq, true, if◌then◌else◌, List, [], ◌∷◌, ◌++◌, length, take, drop, Option, Some, None, option_map, option_and_then, Ok, Err, codes}
use Rattle.std.specs.List.{AllByRecursion, starts_with, ends_with}
use Rattle.std.specs.Str.{bytes_eq, is_utf8}
use Rattle.percent_encoding.specs.Percent.{percent_decode}
use Rattle.url.specs.Parser.{Parsed, parse_url}
use Rattle.url.specs.Parts.{Parts, kind_of, serialize}
use Rattle.url.specs.Scheme.{is_file}
use Rattle.tla_lexeme.specs.LexemeSets.{is_identifier}
use Rattle.lsp_answers.specs.States.{Root}
use Rattle.file_names.specs.Files.{file_of, module_of_file}

-- ---- URLs

-- the URL that was read, if it is one
abbrev pub parsed : Parsed Parts → Option Parts
parsed (Ok url) = Some url
parsed (Err error) = None

-- the URL that a URI is, if it is one
abbrev pub url_in : List ℕ → Option Parts
url_in uri = parsed (parse_url None uri)

-- ---- roots

-- one `/` at the end is left out
abbrev pub without_slash : List ℕ → List ℕ
without_slash text = if ends_with nat_eq text (codes "/") then take (length text - 1) text else text

-- the same of a path, unless `/` is all of it
abbrev pub cut_path : List ℕ → List ℕ
cut_path path = if bytes_eq path (codes "/") then path else without_slash path

-- bytes that are UTF-8
abbrev pub if_utf8 : List ℕ → Option (List ℕ)
if_utf8 bytes = if is_utf8 bytes then Some bytes else None

-- the folder that a URL names, if it is one of a file: its path cut and then decoded, where that is UTF-8
abbrev pub folder_of : Parts → Option (List ℕ)
folder_of url = if is_file (kind_of url) then if_utf8 (percent_decode (cut_path url.path)) else None

-- the root that a client's URL is
abbrev pub client_root : Parts → Root
client_root url = record { text = without_slash (serialize url); path = folder_of url }

-- the root that a client's URI is, if it is a URL
abbrev pub client_root_of : List ℕ → Option Root
client_root_of uri = option_map client_root (url_in uri)

-- one more byte before a part of a text
abbrev pub before_part : ℕ → Option (List ℕ) → Option (List ℕ)
before_part b (Some front) = Some (b ∷ front)
before_part b None = if b == 47 then Some [] else None

-- what stands before the last `/` of a text, if there is one
abbrev pub before_last_slash : List ℕ → Option (List ℕ)
before_last_slash [] = None
before_last_slash (b ∷ bs) = before_part b (before_last_slash bs)

-- a text is this front, a `/`, and bytes of which none is `/`
pub record IsBeforeLastSlash (text front : List ℕ) : Type 0 where
  pub behind : List ℕ
  pub written : text ≡ front ++ (codes "/" ++ behind)
  pub plain : AllByRecursion (λ b. b ≢ 47) behind

-- the root that the first document makes, where its URL has a `/`; no folder is read
abbrev pub document_root : List ℕ → Option Root
document_root uri =
    option_map (λ text. record { text = text; path = None }) (option_and_then (λ url. before_last_slash (serialize url)) (url_in uri))

-- ---- members

-- what stands behind a front, if a text begins with it
abbrev pub behind_front : List ℕ → List ℕ → Option (List ℕ)
behind_front front text = if starts_with nat_eq text front then Some (drop (length front) text) else None

-- what stands behind a root's text and a `/`, if a text begins so
abbrev pub behind_root : List ℕ → List ℕ → Option (List ℕ)
behind_root root text = behind_front (root ++ codes "/") text

-- the module of a URL's text behind a root's: the root's, `/`, an identifier, which is the module's name, and `.tla`
abbrev pub module_behind : List ℕ → List ℕ → Option (List ℕ)
module_behind root text = option_and_then module_of_file (behind_root root text)

-- the module that a document is, if it is a member of a root
abbrev pub module_of_root : Root → List ℕ → Option (List ℕ)
module_of_root root uri = option_and_then (λ url. module_behind root.text (serialize url)) (url_in uri)

-- without a root no document is one
abbrev pub module_of : Option Root → List ℕ → Option (List ℕ)
module_of root uri = option_and_then (λ r. module_of_root r uri) root

-- the URI of a module behind a root's text
abbrev pub uri_of : List ℕ → List ℕ → List ℕ
uri_of root name = root ++ (codes "/" ++ file_of name)

-- a text is that of this module behind this root
pub record IsModuleText (root text name : List ℕ) : Type 0 where
  pub identifier : is_identifier name ≡ true
  pub written : text ≡ uri_of root name
