-- What is known round the trees of a text: what its names mean, where they lead, and what of it is there already.
use Rattle.indexmap.specs.IndexMap.{get}
use Rattle.std.specs.Prelude.{ℕ, ◌<◌, Bool, true, false, ◌&&◌, List, [], ◌∷◌, Option, Some, None, if◌then◌else◌, length, map, nat_eq, slice_index_or}
use Rattle.std.specs.Str.{bytes_eq}
use Rattle.std.specs.List.{AllByRecursion}
use Rattle.tla_tree.specs.Arena.{AreThere, Node, tree_at}
use Rattle.tla_tree.specs.Syntax.{trees}
use Rattle.tla_model.specs.declared.entity.Entity.TheVariants as entity
use Rattle.tla_model.specs.Tables.{Named}
use Rattle.tla_model.specs.declared.names.Meaning.TheVariants.{BuiltIn, Declared}
use Rattle.tla_model.specs.Entities.{Meaning, Text}
use Rattle.tla_model.specs.Lexemes.{LiesIn, all_lexemes, lexemes, spelled}
use Rattle.kind_text.specs.FlatModule.{FlatModule, UsesDefinition, UsesInstance}
use Rattle.tree_kinds.specs.Standing.{is_bound}
use Rattle.flattened_trees.specs.declared.End.TheVariants as end
use Rattle.flattened_trees.specs.Leads.{FlatFace, Lead, Leads, Setting, behind_instance, nowhere, only, with_lead}
use Rattle.flattened_trees.specs.Within.{IsLeadWithin}
use Rattle.tree_flattener.specs.declared.locals.Entry.{Entry}
use Rattle.tree_flattener.specs.declared.locals.Local.TheVariants as local
use Rattle.tree_flattener.specs.declared.state.Flattening.{Flattening}
use Rattle.tree_flattener.specs.declared.written.Written.{Written}
use Rattle.tree_flattener.specs.Found.{listed_in, local_in}

-- a text with the nodes of its trees, what its names mean, and what is known of names that come from elsewhere
pub record World : Type 0 where
  pub text : Text
  pub nodes : List Node
  pub means : ℕ → Option Meaning
  pub implied : ℕ → List Meaning
  pub leads : Leads
  pub faces : List ℕ → FlatFace

-- what the names of a text in code mean, by where they begin
abbrev pub means_of : Written → ℕ → Option Meaning
means_of written start = get nat_eq written.means.now start

-- the symbols that stand in for parameters, by where the name of a module begins
abbrev pub implied_of : Written → ℕ → List Meaning
implied_of written start = listed_in (get nat_eq written.implied.now start)

-- the same in code
abbrev pub world_of : Leads → (List ℕ → FlatFace) → Written → World
world_of leads faces written =
    record {
      text = written.text.now;
      nodes = written.tree.now;
      means = means_of written;
      implied = implied_of written;
      leads = leads;
      faces = faces;
    }

-- a node is there, and the names of its tree lie in the text
pub record IsNode (w : World) (node : ℕ) : Type 0 where
  pub there : node < length w.nodes
  pub lie : AllByRecursion (LiesIn w.text.source) (lexemes (tree_at w.nodes node))

-- nodes are there, and the names of their trees lie in the text
pub record AreNodes (source : List ℕ) (nodes : List Node) (numbers : List ℕ) : Type 0 where
  pub there : AreThere nodes numbers
  pub lie : AllByRecursion (LiesIn source) (all_lexemes (trees (map (tree_at nodes) numbers)))

-- ---- names in scope

-- there is none of these
abbrev pub is_none_of : {A : Type 0} → List A → Bool
is_none_of [] = true
is_none_of (x ∷ xs) = false

-- the place of something that the text declares itself
abbrev pub declared_place : Text → Meaning → Option ℕ
declared_place text BuiltIn = None
declared_place text (Declared e callee) = if bytes_eq callee.decl.«module» text.file && is_none_of callee.via then Some callee.decl.place else None

-- the same of what can come into scope as a definition or a parameter: a bound name is none
abbrev pub own_place : Text → Meaning → Option ℕ
own_place text meaning = if is_bound meaning then None else declared_place text meaning

-- something that the text declares, by how many declaring names stand before it
abbrev pub declared_at : Text → ℕ → Meaning
declared_at text place = Declared entity.Variable (record { instance = 0; decl = record { «module» = text.file; place = place }; via = [] })

-- the entry of a place, which may not be there
abbrev pub local_at : List Entry → Option ℕ → Option local.the_data
local_at entries None = None
local_at entries (Some place) = local_in None entries place

-- the name of a scope that this means
abbrev pub local_of : Text → List Entry → Meaning → Option local.the_data
local_of text entries meaning = local_at entries (own_place text meaning)

-- where a name of a scope leads
abbrev pub lead_by : World → local.the_data → List Named → Lead
lead_by w local.Nothing = λ names. nowhere
lead_by w (local.Place place order) = only (end.Place place order)
lead_by w (local.Definition d) = only (end.Definition d)
lead_by w (local.Instance j l) = behind_instance j (w.faces (spelled w.text.source l))

-- the name of the module lies in the text through whose instance a name leads
abbrev pub DoesLie : List ℕ → local.the_data → Type 0
DoesLie source (local.Instance j l) = LiesIn source l
DoesLie source _ = Unit {0}

-- the same of all names in scope
abbrev pub DoLie : List ℕ → List Entry → Type 0
DoLie source entries = AllByRecursion (λ entry. DoesLie source entry.local) entries

-- with the names in scope
abbrev pub with_locals : World → Leads → List Entry → Leads
with_locals w leads [] = leads
with_locals w leads (entry ∷ rest) = with_locals w (with_lead leads (declared_at w.text entry.place) (lead_by w entry.local)) rest

-- the symbols and parameters of the frame with a number
abbrev pub frame_at : List (List Meaning) → ℕ → List Meaning
frame_at frames frame = slice_index_or frames frame []

-- what stands round a tree, over a frame, where `@` repeats these nodes
abbrev pub setting_of : World → Flattening → ℕ → List ℕ → Setting
setting_of w state frame olds =
    record { leads = with_locals w w.leads state.locals.items; frame = frame_at state.frames.items frame; olds = olds }

-- ---- what is there

module _ (flat : FlatModule) where
  -- what a name of a scope leads to is there
  abbrev pub IsLocalWithin : local.the_data → Type 0
  IsLocalWithin (local.Definition d) = UsesDefinition flat (length flat.nodes) d
  IsLocalWithin (local.Instance j l) = UsesInstance flat (length flat.nodes) j
  IsLocalWithin _ = Unit {0}

-- what is known elsewhere is there
pub record AreWithin (w : World) (flat : FlatModule) : Type 0 where
  pub leads : (meaning : Meaning) (names : List Named) → IsLeadWithin flat (w.leads meaning names)
  pub faces : (bytes : List ℕ) (names : List Named) → IsLeadWithin flat ((w.faces bytes).leads names)

-- all that is known is there
pub record IsKnown (w : World) (state : Flattening) : Type 0 where
  pub within : AreWithin w state.flat
  pub locals : AllByRecursion (λ entry. IsLocalWithin state.flat entry.local) state.locals.items
  pub lie : DoLie w.text.source state.locals.items

-- and so is the frame, with what `@` repeats
pub record IsReady (w : World) (state : Flattening) (frame : ℕ) (olds : List ℕ) : Type 0 where
  pub known : IsKnown w state
  pub framed : frame < length state.frames.items
  pub repeated : AllByRecursion (λ i. i < length state.flat.nodes) olds
