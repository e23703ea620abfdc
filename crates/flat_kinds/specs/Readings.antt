-- When a flat module means what a module has of its names, unit by unit. All symbols of the module have their places from its
-- first unit on.
use Rattle.std.specs.Prelude.{◌≡◌, ◌⊎◌, ℕ, ◌+◌, ◌<◌, Bool, false, ◌||◌, List, [], ◌∷◌, Option, Some, None, length, map}
use Rattle.tla_symbols.specs.declared.lexeme.Lexeme.{Lexeme}
use Rattle.tla_tree.specs.Syntax.{Tree}
use Rattle.unit_grammar.specs.Units.{UnitTree, OperatorDefinition, FunctionDefinition, ModuleDefinition, Instance, ModuleBegin, ModuleEnd}
use Rattle.tla_model.specs.declared.names.Meaning.TheVariants.{Declared}
use Rattle.tla_model.specs.Tables.{Named}
use Rattle.tla_model.specs.Entities.{Meaning, Text, meant}
use Rattle.tla_model.specs.Contexts.{Context}
use Rattle.tla_model.specs.Lexemes.{spelled}
use Rattle.tla_model.specs.Scopes.{definition}
use Rattle.module_scope.specs.Environments.{Scope, begun}
use Rattle.module_model.specs.Exports.{Exports, entry_of, exported, instantiable}
use Rattle.module_model.specs.Resolution.{instance_brings}
use Rattle.kind_text.specs.ExpandedKind.{Given}
use Rattle.kind_text.specs.FlatModule.{FlatModule, Instance as FlatInstance}
use Rattle.kind_text.specs.Substitution.{Item, at}
use Rattle.tree_kinds.specs.Standing.{Environment, Outside, itself, name_among, same_standing, themselves}
use Rattle.tree_kinds.specs.Expanding.{Around, bringing, defined_value}
use Rattle.module_kinds.specs.ModuleKinds.{KindState, after, known_at, named, named_in, standing_behind, views}
use Rattle.flat_trees.specs.Stands.{AreStanding, IsStanding, Stand, Unsaid, Leaf, Place}
use Rattle.flat_trees.specs.Layouts.{Agrees, Layout, Stands, StandsBefore, with_brought, with_stands}
use Rattle.flat_trees.specs.Instances.{IsMadeInstance, IsModule, StaysIn}

-- ---- states

-- names stand so in a layout for what stands for them, by what stands for parameters: over each frame where the symbols of the
-- module stand for these
abbrev pub KeepsStanding : FlatModule → (Meaning → Stand) → Layout → (Environment → Environment) → Type 0
KeepsStanding flat symbols layout standing =
    (frame : List Item) (parameters : Environment) → length frame ≡ layout.places → AreStanding flat frame symbols parameters
    → AreStanding flat frame layout.stands (standing parameters)

-- a flat module keeps a state: the layout has its context, and names stand in it for what they do in the state
pub record KeepsState (flat : FlatModule) (symbols : Meaning → Stand) (layout : Layout) (state : KindState) : Type 0 where
  pub context : state.read.place.here.context ≡ layout.context
  pub olds : layout.olds ≡ []
  pub standing : KeepsStanding flat symbols layout state.standing

-- these say less of names, and nothing else
abbrev pub SaysLess : (Meaning → Stand) → (Meaning → Stand) → Type 0
SaysLess less more = (meaning : Meaning) → (less meaning ≡ Unsaid) ⊎ (less meaning ≡ more meaning)

-- over a frame a name stands for itself: a leaf, or a symbol at a place with the item that it is; or nothing is said of it
abbrev pub StandsItself : List Item → Stand → Meaning → Type 0
StandsItself frame Unsaid meaning = Unit {0}
StandsItself frame (Leaf kind) meaning = themselves meaning [] [] ≡ Given (Some kind)
StandsItself frame (Place place order) (Declared e callee) = (place < length frame) × (at frame place ≡ itself e)
StandsItself frame _ meaning = ⊥

-- what a name stands for outside of the module, by what stands for its entries
abbrev pub stand_in : (Meaning → Stand) → Option Meaning → Stand
stand_in stands None = Unsaid
stand_in stands (Some meaning) = stands meaning

-- the same by the name
abbrev pub exported_stand : (Meaning → Stand) → Exports → Named → Stand
exported_stand stands entries name = stand_in stands (entry_of entries name)

-- ---- symbols of nested modules

-- what a name stands for by the first, or else by the second
abbrev pub or_stand : Stand → Stand → Stand
or_stand Unsaid there = there
or_stand stand there = stand

-- with symbols of its own
abbrev pub with_own : (Meaning → Stand) → (Meaning → Stand) → Meaning → Stand
with_own stands own meaning = or_stand (own meaning) (stands meaning)

-- symbols of its own are new at a state, behind those round it: of what they are said of nothing is said there, and nothing stands
-- in for it
pub record AreNew (symbols : Meaning → Stand) (layout : Layout) (state : KindState) (own : Meaning → Stand) : Type 0 where
  pub before : (meaning : Meaning) → StandsBefore layout.places (symbols meaning)
  pub new :
      (meaning : Meaning)
      → (own meaning ≡ Unsaid) ⊎ ((symbols meaning ≡ Unsaid) × ((parameters : Environment) → state.standing parameters meaning ≡ parameters meaning))

-- ---- extended modules

-- how an extended module comes: the instance, what the symbols of the module stand for and how many places it has, and what its
-- names stand for
pub record Extension : Type 0 where
  pub number : ℕ
  pub instance : FlatInstance
  pub symbols : Meaning → Stand
  pub places : ℕ
  pub inner : Named → Stand

-- the instance lets the symbols of the module stand as those here do
pub record IsExtension (flat : FlatModule) (layout : Layout) (here : Meaning → Stand) (outside : Outside) (e : Extension) : Type 0 where
  pub made : IsMadeInstance flat layout e.number e.instance 0 false
  pub many : length e.instance.replacements ≡ e.places
  pub kept : IsModule flat e.symbols e.places e.inner outside
  pub stays : (meaning : Meaning) → StaysIn flat e.instance.replacements (e.symbols meaning) (here meaning)

-- a name stands as one of these does
abbrev pub is_among : List Meaning → Meaning → Bool
is_among [] other = false
is_among (meaning ∷ rest) other = same_standing other meaning || is_among rest other

-- in another context, with other stands
abbrev pub layout_as : Layout → Context → (Meaning → Stand) → Layout
layout_as layout context stands = record { context = context; stands = stands; places = layout.places; olds = layout.olds }

module _ (text : Text) (files : List ℕ → Outside) (words : List ℕ) where
  -- what the module of a name brings to one that extends it
  abbrev pub extended_entries : Scope Outside → Lexeme → Exports
  extended_entries modules l = instantiable (exported (named_in text files words modules (spelled text.source l)).view)

  -- with what the modules of these names bring
  abbrev pub extended_stands : Scope Outside → (Meaning → Stand) → List Lexeme → List Extension → Meaning → Stand
  extended_stands modules stands (l ∷ rest) (e ∷ more) = extended_stands modules (with_brought stands (extended_entries modules l) e.number e.inner) rest more
  extended_stands modules stands _ _ = stands

  -- none of the modules of these names brings a meaning
  abbrev pub BringNone : Scope Outside → List Lexeme → Meaning → Type 0
  BringNone modules [] meaning = Unit {0}
  BringNone modules (l ∷ rest) meaning = (name_among (extended_entries modules l) meaning ≡ None) × BringNone modules rest meaning

  -- a unit leaves a meaning: it defines nothing that means the same, and brings nothing
  abbrev pub Leaves : KindState → UnitTree → Meaning → Type 0
  Leaves state (OperatorDefinition local x) meaning = is_among (map (meant text) (definition x)) meaning ≡ false
  Leaves state (FunctionDefinition local x) meaning = is_among (map (meant text) (definition x)) meaning ≡ false
  Leaves state (ModuleDefinition local x) meaning = is_among (map (meant text) (definition x)) meaning ≡ false
  Leaves state (Instance local x) meaning = name_among (instance_brings text (views text files words) words state.read x) meaning ≡ None
  Leaves state (ModuleBegin dashes name extends) meaning = BringNone (begun state.modules (spelled text.source name)) extends meaning
  Leaves state unit meaning = Unit {0}

  -- the layout behind a unit, by the stands there
  abbrev pub layout_after : KindState → Layout → UnitTree → (Meaning → Stand) → Layout
  layout_after state layout unit next = layout_as layout (after text files words state unit).read.place.here.context next

  -- the layout inside a nested module, behind what it extends: so many symbols of its own stand at the next places
  abbrev pub nested_layout : KindState → Layout → (Meaning → Stand) → ℕ → Lexeme → Lexeme → List Lexeme → List Extension → Layout
  nested_layout state layout own count dashes name extends extensions =
      record {
        context = (after text files words state (ModuleBegin dashes name extends)).read.place.here.context;
        stands = extended_stands (begun state.modules (spelled text.source name)) (with_own layout.stands own) extends extensions;
        places = layout.places + count;
        olds = [];
      }

  module _ (flat : FlatModule) where
    -- the modules of these names come so, each
    abbrev pub AreExtensions : Layout → (Meaning → Stand) → Scope Outside → List Lexeme → List Extension → Type 0
    AreExtensions layout here modules [] [] = Unit {0}
    AreExtensions layout here modules (l ∷ rest) (e ∷ more) =
        IsExtension flat layout here (named_in text files words modules (spelled text.source l)) e × AreExtensions layout here modules rest more
    AreExtensions layout here modules _ _ = ⊥

    -- ---- units

    -- the stands behind a definition of a unit
    abbrev pub IsDefinitionRead : KindState → Layout → UnitTree → Tree → (Meaning → Stand) → Type 0
    IsDefinitionRead state layout unit x next =
        (stand : Stand)
        × Stands flat layout stand (λ around. defined_value text (known_at text files words state unit) (named text files words state) around x)
        × (next ≡ with_stands layout.stands (map (meant text) (definition x)) stand)

    -- the stands behind an INSTANCE without a name
    abbrev pub IsInstanceRead : KindState → Layout → UnitTree → Tree → (Meaning → Stand) → Type 0
    IsInstanceRead state layout unit x next =
        (frame : List Item) (around : Around) → Agrees flat layout frame around
        → AreStanding flat frame next
        (bringing text (known_at text files words state unit) (named text files words state) around (instance_brings text (views text files words) words state.read x) x)

    -- the stands behind a unit that begins and ends no nested module
    abbrev pub IsUnitRead : KindState → Layout → UnitTree → (Meaning → Stand) → Type 0
    IsUnitRead state layout (OperatorDefinition local x) next = IsDefinitionRead state layout (OperatorDefinition local x) x next
    IsUnitRead state layout (FunctionDefinition local x) next = IsDefinitionRead state layout (FunctionDefinition local x) x next
    IsUnitRead state layout (ModuleDefinition local x) next = IsDefinitionRead state layout (ModuleDefinition local x) x next
    IsUnitRead state layout (Instance local x) next = IsInstanceRead state layout (Instance local x) x next
    IsUnitRead state layout (ModuleBegin dashes name extends) next = ⊥
    IsUnitRead state layout (ModuleEnd closing) next = ⊥
    IsUnitRead state layout unit next = next ≡ layout.stands

    -- a name of a module round a unit stands so behind it: the unit leaves it, or gives what stands so too
    abbrev pub StaysBehind : KindState → UnitTree → (Meaning → Stand) → Layout → Type 0
    StaysBehind state unit symbols layout =
        (frame : List Item) (parameters : Environment) → length frame ≡ layout.places → AreStanding flat frame symbols parameters → (meaning : Meaning)
        → Leaves state unit meaning ⊎ IsStanding flat frame [] (layout.stands meaning) (standing_behind text files words state unit parameters meaning)
