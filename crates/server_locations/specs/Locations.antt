-- Where names of a root's modules are declared and used, by what is found of each.
use Rattle.std.specs.Prelude.{ℕ, Bool, true, false, ◌&&◌, nat_le, nat_lt, List, [], ◌∷◌, filter, flat_map, map, Option, Some, None, option_map, option_and_then}
use Rattle.std.specs.List.{find}
use Rattle.std.specs.Option.{option_or}
use Rattle.tla_symbols.specs.declared.lexeme.Span.{Span}
use Rattle.tla_model.specs.declared.entity.Decl.{Decl}
use Rattle.tla_model.specs.declared.entity.Use.{Use}
use Rattle.tla_model.specs.declared.ids.DeclId.{DeclId}
use Rattle.tla_model.specs.Entities.{same_decl}
use Rattle.lsp_wire.specs.declared.types.Location.{Location}
use Rattle.lsp_wire.specs.declared.types.Position.{Position}
use Rattle.lsp_wire.specs.declared.types.Reply.{Reply}
use Rattle.lsp_wire.specs.declared.types.Reply.TheVariants.{Null, Place, Places}
use Rattle.lsp_answers.specs.States.{State, Root, Opened}
use Rattle.doc_edit.specs.Edits.{offset_of}
use Rattle.server_notes.specs.Areas.{area_at}
use Rattle.server_documents.specs.Documents.{named, opened_as}
use Rattle.server_uris.specs.Uris.{module_of, uri_of}

-- ---- what is found

-- a module of the root with its text, its resolved uses and its declaring names, both in the order of the text
pub record Found : Type 0 where
  pub name : List ℕ
  pub bytes : List ℕ
  pub uses : List Use
  pub decls : List Decl

-- the module of a name
abbrev pub module_named : List Found → List ℕ → Option Found
module_named found name = named (λ m. m.name) name found

-- the module that a document is, if it is a member of which something is found
abbrev pub module_at : State → List Found → List ℕ → Option Found
module_at s found uri = option_and_then (module_named found) (module_of s.root uri)

-- ---- at an offset

-- an offset is within a span, which leaves its end out
abbrev pub is_within : Span → ℕ → Bool
is_within span offset = nat_le span.start offset && nat_lt offset span.end

-- the declaration that a use means
abbrev pub meant_by : Use → DeclId
meant_by u = record { «module» = u.«module»; place = u.place }

-- what the use at an offset means, if there is one
abbrev pub used_at : List Use → ℕ → Option DeclId
used_at uses offset = option_map meant_by (find (λ u. is_within u.name offset) uses)

-- the declaring name at an offset, if there is one
abbrev pub declared_at : List Decl → ℕ → Option DeclId
declared_at decls offset = option_map (λ d. d.id) (find (λ d. is_within d.name offset) decls)

-- what is used or declared at an offset
abbrev pub named_at : Found → ℕ → Option DeclId
named_at m offset = option_or (used_at m.uses offset) (declared_at m.decls offset)

-- ---- where names stand

-- where the name of a declaration stands, if it is among these
abbrev pub declared_in : List Decl → DeclId → Option Span
declared_in decls decl = option_map (λ d. d.name) (find (λ d. same_decl d.id decl) decls)

-- where those of these uses stand that mean a declaration, in their order
abbrev pub used_in : List Use → DeclId → List Span
used_in uses decl = map (λ u. u.name) (filter (λ u. same_decl (meant_by u) decl) uses)

-- ---- locations

-- the text of a root; without one no document is a member
abbrev pub root_text : Option Root → List ℕ
root_text None = []
root_text (Some root) = root.text

-- the URI of an open document as it was spelled, or else that of a module's file
abbrev pub spelled_uri : Option Opened → List ℕ → List ℕ → List ℕ
spelled_uri None root name = uri_of root name
spelled_uri (Some o) root name = o.uri

-- the URI under which a module is shown
abbrev pub shown_uri : State → List ℕ → List ℕ
shown_uri s name = spelled_uri (opened_as s name) (root_text s.root) name

-- a span of a text under a URI
abbrev pub location : List ℕ → List ℕ → Span → Location
location uri text span = record { uri = uri; area = area_at text span }

-- a span of a module under the URI of its open document, or else of its file
abbrev pub location_in : State → Found → Span → Location
location_in s m span = location (shown_uri s m.name) m.bytes span

-- where a declaration stands in a module's text
abbrev pub declaration_in : State → Found → DeclId → Option Location
declaration_in s m decl = option_map (location_in s m) (declared_in m.decls decl)

-- where a declaration stands; one of a built-in module, which has no file, stands nowhere
abbrev pub declaration_of : State → List Found → DeclId → Option Location
declaration_of s found decl = option_and_then (λ m. declaration_in s m decl) (module_named found decl.«module»)

-- where a module uses a declaration, in the order of the text
abbrev pub uses_of : State → DeclId → Found → List Location
uses_of s decl m = map (location_in s m) (used_in m.uses decl)

-- the same of all modules, in their order
abbrev pub all_uses_of : State → List Found → DeclId → List Location
all_uses_of s found decl = flat_map (uses_of s decl) found

-- ---- replies

-- the place of a declaration, if it has one
abbrev pub place_reply : Option Location → Reply
place_reply None = Null
place_reply (Some at) = Place at

-- what the use at a place of a module means
abbrev pub meant_in : Position → Found → Option DeclId
meant_in at m = used_at m.uses (offset_of m.bytes at)

-- where that is declared
abbrev pub definition_in : State → List Found → Position → Found → Reply
definition_in s found at m = place_reply (option_and_then (declaration_of s found) (meant_in at m))

-- the declaration's location stands first, where it is asked for and has one
abbrev pub with_declared : Bool → Option Location → List Location → List Location
with_declared true (Some at) uses = at ∷ uses
with_declared true None uses = uses
with_declared false at uses = uses

-- where a declaration stands and is used
abbrev pub places_of : State → List Found → Bool → DeclId → List Location
places_of s found declared decl = with_declared declared (declaration_of s found decl) (all_uses_of s found decl)

-- the uses of a declaration, if there is one
abbrev pub uses_reply : State → List Found → Bool → Option DeclId → Reply
uses_reply s found declared None = Null
uses_reply s found declared (Some decl) = Places (places_of s found declared decl)

-- the uses of what is used or declared at a place
abbrev pub references_in : State → List Found → Position → Bool → Found → Reply
references_in s found at declared m = uses_reply s found declared (named_at m (offset_of m.bytes at))

-- a reply on a module; where there is none, null
abbrev pub reply_on : (Found → Reply) → Option Found → Reply
reply_on reply None = Null
reply_on reply (Some m) = reply m

-- the reply to `definition` at a place of a document, by what is found of the root's modules
abbrev pub definition_by : State → List Found → List ℕ → Position → Reply
definition_by s found uri at = reply_on (definition_in s found at) (module_at s found uri)

-- the reply to `references` at a place of a document, by the same
abbrev pub references_by : State → List Found → List ℕ → Position → Bool → Reply
references_by s found uri at declared = reply_on (references_in s found at declared) (module_at s found uri)
