-- When the names of a module are as deep in a flat module as outside of it, unit by unit, with the modules that are nested in it.
use Rattle.std.specs.Prelude.{◌≡◌, ◌⊎◌, ℕ, List, [], ◌∷◌, map, slice_get}
use Rattle.tla_symbols.specs.declared.lexeme.Lexeme.{Lexeme}
use Rattle.tla_tree.specs.Syntax.{Tree}
use Rattle.unit_grammar.specs.Units.{UnitTree, OperatorDefinition, FunctionDefinition, ModuleDefinition, Instance, ModuleBegin, ModuleEnd, ModuleUnits}
use Rattle.tla_model.specs.Entities.{Meaning, Text, meant}
use Rattle.tla_model.specs.Lexemes.{spelled}
use Rattle.tla_model.specs.Scopes.{definition}
use Rattle.module_scope.specs.Environments.{Scope, begun, first as first_scope}
use Rattle.module_model.specs.Modules.{text_of}
use Rattle.module_model.specs.Resolution.{words_of}
use Rattle.kind_text.specs.FlatModule.{FlatModule}
use Rattle.level_text.specs.Depth.{depth as depth_at, replaced_depth}
use Rattle.tree_kinds.specs.Standing.{Outside}
use Rattle.tree_kinds.specs.TreeDepths.{defined_depth, no_depths}
use Rattle.module_kinds.specs.ModuleKinds.{KindState, after, beneath, depths_behind, first, known_at, named, named_in}
use Rattle.flat_trees.specs.Stands.{Stand}
use Rattle.flat_trees.specs.Layouts.{Layout, with_stands}
use Rattle.flat_kinds.specs.Readings.{Extension, Leaves}
use Rattle.flat_kinds.specs.Modules.{Coming, Current, Stands, Begins, Ends, IsEnded, first_current, here_behind, round_behind}
use Rattle.flat_depths.specs.Depths.{HasDepths, HaveDepths, IsDeepModule}

-- an extended module adds no depth: no replacement of its instance has one, and its names are as deep as outside of it
pub record IsDeepExtension (flat : FlatModule) (outside : Outside) (e : Extension) : Type 0 where
  pub replaced : replaced_depth (depth_at flat) (slice_get flat.instances e.number) ≡ 0
  pub deep : IsDeepModule flat e.inner outside

-- names have the depths of a state, in each of these modules that are being read
abbrev pub KeepDepths : FlatModule → KindState → List Current → Type 0
KeepDepths flat state [] = Unit {0}
KeepDepths flat state (current ∷ round) = HaveDepths flat current.layout.stands state.depths × KeepDepths flat state round

module _ (text : Text) (files : List ℕ → Outside) (words : List ℕ) (flat : FlatModule) where
  -- the modules of these names come so, each
  abbrev pub AreDeepExtensions : Scope Outside → List Lexeme → List Extension → Type 0
  AreDeepExtensions modules [] [] = Unit {0}
  AreDeepExtensions modules (l ∷ rest) (e ∷ more) =
      IsDeepExtension flat (named_in text files words modules (spelled text.source l)) e × AreDeepExtensions modules rest more
  AreDeepExtensions modules _ _ = ⊥

  -- the stands behind a definition of a unit, whose name is as deep as what is written
  abbrev pub IsDefinitionDeep : KindState → Layout → UnitTree → Tree → (Meaning → Stand) → Type 0
  IsDefinitionDeep state layout unit x next =
      (stand : Stand)
      × HasDepths flat 0 stand (defined_depth text (known_at text files words state unit) (named text files words state) (beneath text files words state) x)
      × (next ≡ with_stands layout.stands (map (meant text) (definition x)) stand)

  -- the stands behind a unit that begins and ends no nested module
  abbrev pub IsUnitDeep : KindState → Layout → UnitTree → (Meaning → Stand) → Type 0
  IsUnitDeep state layout (OperatorDefinition local x) next = IsDefinitionDeep state layout (OperatorDefinition local x) x next
  IsUnitDeep state layout (FunctionDefinition local x) next = IsDefinitionDeep state layout (FunctionDefinition local x) x next
  IsUnitDeep state layout (ModuleDefinition local x) next = IsDefinitionDeep state layout (ModuleDefinition local x) x next
  IsUnitDeep state layout (Instance local x) next = HaveDepths flat next (depths_behind text files words state (Instance local x))
  IsUnitDeep state layout (ModuleBegin dashes name extends) next = ⊥
  IsUnitDeep state layout (ModuleEnd closing) next = ⊥
  IsUnitDeep state layout unit next = next ≡ layout.stands

  -- names of modules round a unit are as deep behind it: the unit leaves them, or gives what is so deep too
  abbrev pub AllStayDeep : KindState → UnitTree → List Current → Type 0
  AllStayDeep state unit [] = Unit {0}
  AllStayDeep state unit (outer ∷ round) =
      ((meaning : Meaning) → Leaves text files words state unit meaning ⊎ HasDepths flat 0 (outer.layout.stands meaning) (depths_behind text files words state unit meaning))
      × AllStayDeep state unit round

  -- a nested module begins: its own symbols have no depths, and what it extends adds none
  abbrev pub IsBegunDeep : KindState → Current → List Current → UnitTree → (Meaning → Stand) → List Extension → Type 0
  IsBegunDeep state here round (ModuleBegin dashes name extends) own extensions =
      HaveDepths flat own state.depths × AreDeepExtensions (begun state.modules (spelled text.source name)) extends extensions
      × AllStayDeep state (ModuleBegin dashes name extends) (here ∷ round)
  IsBegunDeep state here round unit own extensions = ⊥

  -- what comes of a unit is as deep as what is written
  abbrev pub IsDeepRead : KindState → Current → List Current → UnitTree → Coming → Type 0
  IsDeepRead state here round unit (Stands next) = IsUnitDeep state here.layout unit next × AllStayDeep state unit round
  IsDeepRead state here round unit (Begins own count extensions) = IsBegunDeep state here round unit own extensions
  IsDeepRead state here round unit Ends = IsEnded text files words flat round unit

  -- the same of these units, up to this module that is read at last, with no other round it
  abbrev pub AreDeepRead : KindState → List UnitTree → List Coming → Current → List Current → Current → Type 0
  AreDeepRead state [] [] here [] behind = behind ≡ here
  AreDeepRead state (unit ∷ units) (one ∷ rest) here round behind =
      IsDeepRead state here round unit one
      × AreDeepRead (after text files words state unit) units rest (here_behind text files words state here round unit one) (round_behind text files words here round one) behind
  AreDeepRead state _ _ here round behind = ⊥

module _ (files : List ℕ → Outside) (source : List ℕ) (units : ModuleUnits) where
  -- what comes of a module is as deep as what is written in it, up to this one behind all units; its symbols have no depths
  pub record IsDeepAlong (flat : FlatModule) (symbols : Meaning → Stand) (places : ℕ) (extensions : List Extension) (comings : List Coming) (behind : Current) : Type 0 where
    pub symbols_plain : HaveDepths flat symbols no_depths
    pub extended : AreDeepExtensions (text_of source units) files (words_of units) flat (first_scope (text_of source units).file) units.extends extensions
    pub read :
        AreDeepRead (text_of source units) files (words_of units) flat (first files source units) units.units comings
        (first_current files source units symbols places extensions) [] behind
