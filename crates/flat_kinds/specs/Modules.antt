-- When a flat module is built along a module, with the modules that are nested in it.
use Rattle.std.specs.Prelude.{◌≡◌, ℕ, List, [], ◌∷◌}
use Rattle.unit_grammar.specs.Units.{UnitTree, ModuleBegin, ModuleEnd, ModuleUnits}
use Rattle.tla_model.specs.Tables.{Named}
use Rattle.tla_model.specs.Entities.{Meaning, Text}
use Rattle.tla_model.specs.Lexemes.{spelled}
use Rattle.module_scope.specs.Environments.{begun, first as first_scope}
use Rattle.module_model.specs.Exports.{exports_of}
use Rattle.module_model.specs.Modules.{Reading, text_of}
use Rattle.module_model.specs.Resolution.{words_of}
use Rattle.kind_text.specs.FlatModule.{FlatModule}
use Rattle.tree_kinds.specs.Standing.{Environment, Outside}
use Rattle.module_kinds.specs.ModuleKinds.{KindState, after, first, last}
use Rattle.flat_trees.specs.Stands.{Stand}
use Rattle.flat_trees.specs.Layouts.{Layout}
use Rattle.flat_trees.specs.Growing.{IsWithin}
use Rattle.flat_kinds.specs.Readings.{AreExtensions, AreNew, Extension, IsUnitRead, KeepsStanding, KeepsState, StaysBehind, exported_stand, extended_stands, layout_after, nested_layout, with_own}

-- a module that is being read: what its symbols stand for, and the layout so far
pub record Current : Type 0 where
  pub symbols : Meaning → Stand
  pub layout : Layout

-- what comes of a unit: the stands behind it; or of a nested module that begins, what its own symbols stand for, how many they are,
-- and how the modules come that it extends; or nothing, at its end
pub data Coming : Type 0 where
  Stands : (next : Meaning → Stand) → Coming
  Begins : (own : Meaning → Stand) (count : ℕ) (extensions : List Extension) → Coming
  Ends : Coming

-- what a module stands on is there already
pub record IsCurrentWithin (flat : FlatModule) (current : Current) : Type 0 where
  pub symbols : (meaning : Meaning) → IsWithin flat (current.symbols meaning)
  pub stands : (meaning : Meaning) → IsWithin flat (current.layout.stands meaning)

-- ---- what is kept

module _ (flat : FlatModule) where
  -- names of the modules round a place stand so, in the contexts there
  abbrev pub KeepsRound : List Reading → List Current → (Environment → Environment) → Type 0
  KeepsRound [] [] standing = Unit {0}
  KeepsRound (reading ∷ readings) (outer ∷ round) standing =
      ((reading.context ≡ outer.layout.context) × (outer.layout.olds ≡ []) × KeepsStanding flat outer.symbols outer.layout standing) × KeepsRound readings round standing
  KeepsRound _ _ standing = ⊥

  -- a state is kept in the module that is being read, and names of the modules round it stand so
  pub record KeepsAll (state : KindState) (inmost : Current) (outers : List Current) : Type 0 where
    pub here : KeepsState flat inmost.symbols inmost.layout state
    pub round : KeepsRound state.read.place.round outers state.standing

-- ---- units

module _ (text : Text) (files : List ℕ → Outside) (words : List ℕ) where
  -- inside a nested module that begins
  abbrev pub inside : KindState → Current → UnitTree → (Meaning → Stand) → ℕ → List Extension → Current
  inside state here (ModuleBegin dashes name extends) own count extensions =
      record {
        symbols = with_own here.symbols own;
        layout = nested_layout text files words state here.layout own count dashes name extends extensions;
      }
  inside state here unit own count extensions = here

  -- the next module out, or else this one
  abbrev pub next_out : Current → List Current → Current
  next_out here [] = here
  next_out here (outer ∷ round) = outer

  -- those round it
  abbrev pub round_next : List Current → List Current
  round_next [] = []
  round_next (outer ∷ round) = round

  -- the module that is read behind a unit
  abbrev pub here_behind : KindState → Current → List Current → UnitTree → Coming → Current
  here_behind state here round unit (Stands next) = record { symbols = here.symbols; layout = layout_after text files words state here.layout unit next }
  here_behind state here round unit (Begins own count extensions) = inside state here unit own count extensions
  here_behind state here round unit Ends = next_out here round

  -- the modules round it
  abbrev pub round_behind : Current → List Current → Coming → List Current
  round_behind here round (Stands next) = round
  round_behind here round (Begins own count extensions) = here ∷ round
  round_behind here round Ends = round_next round

  module _ (flat : FlatModule) where
    -- names of these modules stand so behind a unit
    abbrev pub AllStayBehind : KindState → UnitTree → List Current → Type 0
    AllStayBehind state unit [] = Unit {0}
    AllStayBehind state unit (outer ∷ round) = StaysBehind text files words flat state unit outer.symbols outer.layout × AllStayBehind state unit round

    -- a nested module begins
    abbrev pub IsBegun : KindState → Current → List Current → UnitTree → (Meaning → Stand) → ℕ → List Extension → Type 0
    IsBegun state here round (ModuleBegin dashes name extends) own count extensions =
        AreNew here.symbols here.layout state own
        × AreExtensions text files words flat (nested_layout text files words state here.layout own count dashes name extends extensions) (with_own here.symbols own)
        (begun state.modules (spelled text.source name)) extends extensions
        × AllStayBehind state (ModuleBegin dashes name extends) (here ∷ round)
    IsBegun state here round unit own count extensions = ⊥

    -- a nested module ends
    abbrev pub IsEnded : List Current → UnitTree → Type 0
    IsEnded (outer ∷ round) (ModuleEnd closing) = Unit {0}
    IsEnded round unit = ⊥

    -- what comes of a unit is what is written
    abbrev pub IsRead : KindState → Current → List Current → UnitTree → Coming → Type 0
    IsRead state here round unit (Stands next) = IsUnitRead text files words flat state here.layout unit next × AllStayBehind state unit round
    IsRead state here round unit (Begins own count extensions) = IsBegun state here round unit own count extensions
    IsRead state here round unit Ends = IsEnded round unit

    -- the same of these units, up to this module that is read at last, with no other round it
    abbrev pub AreRead : KindState → List UnitTree → List Coming → Current → List Current → Current → Type 0
    AreRead state [] [] here [] behind = behind ≡ here
    AreRead state (unit ∷ units) (one ∷ rest) here round behind =
        IsRead state here round unit one
        × AreRead (after text files words state unit) units rest (here_behind state here round unit one) (round_behind here round one) behind
    AreRead state _ _ here round behind = ⊥

-- ---- modules

module _ (files : List ℕ → Outside) (source : List ℕ) (units : ModuleUnits) where
  -- behind what a module extends, where its symbols stand so and have so many places
  abbrev pub first_layout : (Meaning → Stand) → ℕ → List Extension → Layout
  first_layout symbols places extensions =
      record {
        context = (first files source units).read.place.here.context;
        stands = extended_stands (text_of source units) files (words_of units) (first_scope (text_of source units).file) symbols units.extends extensions;
        places = places;
        olds = [];
      }

  -- the module behind what it extends
  abbrev pub first_current : (Meaning → Stand) → ℕ → List Extension → Current
  first_current symbols places extensions = record { symbols = symbols; layout = first_layout symbols places extensions }

  -- what its names stand for outside, by the layout behind its units
  abbrev pub module_stands : Layout → Named → Stand
  module_stands layout = exported_stand layout.stands (exports_of (last files source units).read.place.here.exports)

  -- what it extends comes so
  abbrev pub IsExtended : FlatModule → (Meaning → Stand) → ℕ → List Extension → Type 0
  IsExtended flat symbols places extensions =
      AreExtensions (text_of source units) files (words_of units) flat (first_layout symbols places extensions) symbols (first_scope (text_of source units).file) units.extends extensions

  -- a flat module is built along the module, up to this one behind all units
  pub record IsBuiltAlong (flat : FlatModule) (symbols : Meaning → Stand) (places : ℕ) (extensions : List Extension) (comings : List Coming) (behind : Current) : Type 0 where
    pub extended : IsExtended flat symbols places extensions
    pub read :
        AreRead (text_of source units) files (words_of units) flat (first files source units) units.units comings
        (first_current symbols places extensions) [] behind
