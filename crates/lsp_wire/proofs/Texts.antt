-- The texts of what is written, from their parts.
use Rattle.std.proofs.Common.{◌≡◌, ℕ, ◌+◌, ◌<◌, ◌≤◌, ℤ, pos, negsuc, Bool, true, false, List, ◌++◌, Some, None, length, map, drop, get_or, refl, sym, ap, ◌∙◌}
use Rattle.std.specs.Prelude.{codes, decimal}
use Rattle.std.specs.Fmt.{signed_decimal, digits}
use Rattle.std.proofs.lemmas.List.{append_assoc, at_drop_more, at_drop_all}
use Rattle.serde_json.proofs.OnLiterals.{serde_json_on_literals}
use Rattle.serde_json.specs.Data.{Data, string, object, array, member}
use Rattle.serde_json.specs.View.{items_of}
use Rattle.serde_json.specs.Written.{compact_text, number_text, items_text, members_text, comma_if}
use Rattle.serde_json.specs.Find.{of_integer}
use Rattle.lsp_wire.specs.declared.types.Id.{Id}
use Rattle.lsp_wire.specs.declared.types.Note.{Note}
use Rattle.lsp_wire.specs.declared.types.Area.{Area}
use Rattle.lsp_wire.specs.declared.types.Position.{Position}
use Rattle.lsp_wire.specs.declared.types.Location.{Location}
use Rattle.lsp_wire.specs.declared.types.Symbol.{Symbol, out-Symbol, map-Symbol, fold_out-Symbol}
use Rattle.lsp_wire.specs.declared.types.Reply.{Reply}
use Rattle.lsp_wire.specs.Errors.{error_text}
use Rattle.lsp_wire.specs.Notes.{note_text}
use Rattle.lsp_wire.specs.Replies.{reply_content, result_text, result_data, initialized_text}
use Rattle.lsp_wire.specs.declared.types.Reply.TheVariants.{Initialized, Null, Place, Places, Symbols}
use Rattle.lsp_wire.specs.Written.{id_data, error_data, error_content, position_data, area_data, note_data, notes_data, notes_content, symbol_members, symbol_step, symbol_data, location_data}

pub integer_text : (n : ℤ) → signed_decimal n ≡ number_text (of_integer n)
integer_text (pos n) = refl
integer_text (negsuc n) = refl

pub error_content_from : (id : Id) (code : ℤ) (text error name : List ℕ) → error ≡ compact_text (error_data code) → name ≡ compact_text (id_data id) → text ≡ codes "{\"error\":" ++ (error ++ (codes ",\"id\":" ++ (name ++ codes ",\"jsonrpc\":\"2.0\"}"))) → text ≡ error_content id code
unfolding error_content serde_json_on_literals
error_content_from id code text error name e n t =
    t ∙ (λ i. codes "{\"error\":" ++ (e i ++ (codes ",\"id\":" ++ (n i ++ codes ",\"jsonrpc\":\"2.0\"}"))))

pub notes_content_from : (uri : List ℕ) (notes : List Note) (text params : List ℕ) → params ≡ compact_text (notes_data uri notes) → text ≡ codes "{\"jsonrpc\":\"2.0\",\"method\":\"textDocument/publishDiagnostics\",\"params\":" ++ (params ++ codes "}") → text ≡ notes_content uri notes
unfolding notes_content serde_json_on_literals
notes_content_from uri notes text params p t =
    t ∙ (λ i. codes "{\"jsonrpc\":\"2.0\",\"method\":\"textDocument/publishDiagnostics\",\"params\":" ++ (p i ++ codes "}"))

result_text_lem : (reply : Reply) → result_text reply ≡ compact_text (result_data reply)
unfolding result_text initialized_text
result_text_lem Initialized = refl
result_text_lem Null = refl
result_text_lem (Place location) = refl
result_text_lem (Places locations) = refl
result_text_lem (Symbols symbols) = refl

pub reply_content_from : (id : Id) (reply : Reply) (text name answer : List ℕ) → name ≡ compact_text (id_data id) → answer ≡ result_text reply → text ≡ codes "{\"id\":" ++ (name ++ (codes ",\"jsonrpc\":\"2.0\",\"result\":" ++ (answer ++ codes "}"))) → text ≡ reply_content id reply
unfolding reply_content serde_json_on_literals
reply_content_from id reply text name answer n a t =
    t ∙ (λ i. codes "{\"id\":" ++ (n i ++ (codes ",\"jsonrpc\":\"2.0\",\"result\":" ++ ((a ∙ result_text_lem reply) i ++ codes "}"))))

-- a position with what stands behind it
position_before : (at : Position) (rest : List ℕ) → compact_text (position_data at) ++ rest ≡ codes "{\"character\":" ++ (decimal at.unit ++ (codes ",\"line\":" ++ (decimal at.line ++ (codes "}" ++ rest))))
unfolding serde_json_on_literals
position_before at rest =
    ap (λ l. codes "{\"character\":" ++ l) (append_assoc (decimal at.unit) (codes ",\"line\":" ++ (decimal at.line ++ codes "}")) rest ∙ ap (λ l. decimal at.unit ++ (codes ",\"line\":" ++ l)) (append_assoc (decimal at.line) (codes "}") rest))

pub area_from : (area : Area) (text : List ℕ) → text ≡ codes "{\"end\":{\"character\":" ++ (decimal area.end.unit ++ (codes ",\"line\":" ++ (decimal area.end.line ++ (codes "},\"start\":{\"character\":" ++ (decimal area.start.unit ++ (codes ",\"line\":" ++ (decimal area.start.line ++ codes "}}"))))))) → text ≡ compact_text (area_data area)
unfolding serde_json_on_literals
area_from area text t =
    t ∙ sym (ap (λ l. codes "{\"end\":" ++ l) (position_before area.end (codes ",\"start\":" ++ (compact_text (position_data area.start) ++ codes "}")) ∙ ap (λ l. codes "{\"character\":" ++ (decimal area.end.unit ++ (codes ",\"line\":" ++ (decimal area.end.line ++ (codes "},\"start\":" ++ l))))) (position_before area.start (codes "}"))))

pub location_from : (location : Location) (text area uri : List ℕ) → area ≡ compact_text (area_data location.area) → uri ≡ compact_text (string location.uri) → text ≡ codes "{\"range\":" ++ (area ++ (codes ",\"uri\":" ++ (uri ++ codes "}"))) → text ≡ compact_text (location_data location)
unfolding serde_json_on_literals
location_from location text area uri a u t =
    t ∙ (λ i. codes "{\"range\":" ++ (a i ++ (codes ",\"uri\":" ++ (u i ++ codes "}"))))

pub note_from : (note : Note) (text code message area : List ℕ) → code ≡ compact_text (string (codes "E" ++ decimal note.code)) → message ≡ compact_text (string (note_text note.code)) → area ≡ compact_text (area_data note.area) → text ≡ codes "{\"code\":" ++ (code ++ (codes ",\"message\":" ++ (message ++ (codes ",\"range\":" ++ (area ++ codes ",\"severity\":1,\"source\":\"sany\"}"))))) → text ≡ compact_text (note_data note)
unfolding serde_json_on_literals digits
note_from note text code message area k m a t =
    t ∙ (λ i. codes "{\"code\":" ++ (k i ++ (codes ",\"message\":" ++ (m i ++ (codes ",\"range\":" ++ (a i ++ codes ",\"severity\":1,\"source\":\"sany\"}"))))))

pub notes_from : (uri : List ℕ) (notes : List Note) (text items name : List ℕ) → items ≡ compact_text (array (items_of (map note_data notes))) → name ≡ compact_text (string uri) → text ≡ codes "{\"diagnostics\":" ++ (items ++ (codes ",\"uri\":" ++ (name ++ codes "}"))) → text ≡ compact_text (notes_data uri notes)
unfolding serde_json_on_literals
notes_from uri notes text items name d n t =
    t ∙ (λ i. codes "{\"diagnostics\":" ++ (d i ++ (codes ",\"uri\":" ++ (n i ++ codes "}"))))

pub error_from : (code : ℤ) (text message : List ℕ) → message ≡ compact_text (string (error_text code)) → text ≡ codes "{\"code\":" ++ (signed_decimal code ++ (codes ",\"message\":" ++ (message ++ codes "}"))) → text ≡ compact_text (error_data code)
unfolding serde_json_on_literals
error_from code text message m t =
    t ∙ (λ i. codes "{\"code\":" ++ (integer_text code i ++ (codes ",\"message\":" ++ (m i ++ codes "}"))))

pub members_from : (name : List ℕ) (kind : ℕ) (area name_area : Area) (text n r s : List ℕ) → n ≡ compact_text (string name) → r ≡ compact_text (area_data area) → s ≡ compact_text (area_data name_area) → text ≡ codes "\"kind\":" ++ (decimal kind ++ (codes ",\"name\":" ++ (n ++ (codes ",\"range\":" ++ (r ++ (codes ",\"selectionRange\":" ++ (s ++ codes "}"))))))) → text ≡ members_text false (symbol_members name kind area name_area)
unfolding serde_json_on_literals
members_from name kind area name_area text n r s en er es t =
    t ∙ (λ i. codes "\"kind\":" ++ (decimal kind ++ (codes ",\"name\":" ++ (en i ++ (codes ",\"range\":" ++ (er i ++ (codes ",\"selectionRange\":" ++ (es i ++ codes "}"))))))))

pub single_from : (name : List ℕ) (kind : ℕ) (area name_area : Area) (text members : List ℕ) → members ≡ members_text false (symbol_members name kind area name_area) → text ≡ codes "{" ++ members → text ≡ compact_text (object (symbol_members name kind area name_area))
single_from name kind area name_area text members m t = t ∙ ap (λ l. codes "{" ++ l) m

pub nested_from : (ds : List Data) (name : List ℕ) (kind : ℕ) (area name_area : Area) (text children members : List ℕ) → children ≡ compact_text (array (items_of ds)) → members ≡ members_text false (symbol_members name kind area name_area) → text ≡ codes "{\"children\":" ++ (children ++ (codes "," ++ members)) → text ≡ compact_text (object (member (codes "children") (array (items_of ds)) (symbol_members name kind area name_area)))
unfolding serde_json_on_literals
nested_from ds name kind area name_area text children members h m t =
    t ∙ (λ i. codes "{\"children\":" ++ (h i ++ (codes "," ++ m i)))

-- what a symbol is, with those inside it and without
pub symbol_nested : (s : Symbol) (inside : List Symbol) → (out-Symbol s).children ≡ Some inside → symbol_data s ≡ object (member (codes "children") (array (items_of (map symbol_data inside))) (symbol_members (out-Symbol s).name (out-Symbol s).kind (out-Symbol s).area (out-Symbol s).name_area))
symbol_nested s inside e =
    fold_out-Symbol Data symbol_step s ∙ ap (λ cs. symbol_step (map-Symbol Symbol Data symbol_data (record (out-Symbol s) { children = cs }))) e

pub symbol_single : (s : Symbol) → (out-Symbol s).children ≡ None → symbol_data s ≡ object (symbol_members (out-Symbol s).name (out-Symbol s).kind (out-Symbol s).area (out-Symbol s).name_area)
symbol_single s e =
    fold_out-Symbol Data symbol_step s ∙ ap (λ cs. symbol_step (map-Symbol Symbol Data symbol_data (record (out-Symbol s) { children = cs }))) e

-- ---- arrays: the text so far, and the items that are to come

module _ {A : Type 0} (f : A → Data) where
  abbrev pub IsSoFar : List A → ℕ → Bool → List ℕ → Type 0
  IsSoFar xs i later text = text ++ items_text later (items_of (map f (drop i xs))) ≡ compact_text (array (items_of (map f xs)))

  pub so_far-start : (xs : List A) (text : List ℕ) → text ≡ codes "[" → IsSoFar xs 0 false text
  so_far-start xs text t = ap (λ l. l ++ items_text false (items_of (map f xs))) t

  pub so_far-more : (xs : List A) (i : ℕ) (d : A) (later : Bool) (old new item : List ℕ) → i < length xs → item ≡ compact_text (f (get_or xs i d)) → new ≡ old ++ (comma_if later ++ item) → IsSoFar xs i later old → IsSoFar xs (i + 1) true new
  so_far-more xs i d later old new item l e n before =
      ap (λ t. t ++ rest) n ∙ append_assoc old (comma_if later ++ item) rest ∙ ap (λ t. old ++ t) (append_assoc (comma_if later) item rest ∙ ap (λ t. comma_if later ++ (t ++ rest)) e)
      ∙ sym (at_drop_more (λ ys. old ++ items_text later (items_of (map f ys))) xs i d l) ∙ before
    where
      rest : List ℕ
      rest = items_text true (items_of (map f (drop (i + 1) xs)))

  pub so_far-end : (xs : List A) (i : ℕ) (later : Bool) (old new : List ℕ) → length xs ≤ i → new ≡ old ++ codes "]" → IsSoFar xs i later old → new ≡ compact_text (array (items_of (map f xs)))
  so_far-end xs i later old new l n before =
      n ∙ sym (at_drop_all (λ ys. old ++ items_text later (items_of (map f ys))) xs i l) ∙ before
