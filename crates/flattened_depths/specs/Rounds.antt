-- What is known round a tree of the depths and the instances that its names stand for, and behind a definition.
use Rattle.std.specs.Prelude.{◌≡◌, ℕ, false, List, [], ◌∷◌, ◌++◌, Option, Some, None, length, map, slice_get}
use Rattle.std.specs.List.{AllByRecursion}
use Rattle.tla_symbols.specs.declared.lexeme.Lexeme.{Lexeme}
use Rattle.tla_model.specs.Lexemes.{spelled}
use Rattle.tla_model.specs.Tables.{Named}
use Rattle.tla_tree.specs.Syntax.{Tree, Trees, Node}
use Rattle.tla_model.specs.Entities.{Meaning, Nothing, Operator, Function, Module, Text, defines, meant, orders}
use Rattle.tla_model.specs.Contexts.{Context, built_in}
use Rattle.tla_model.specs.Scopes.{definition}
use Rattle.module_model.specs.Exports.{Behind, Known, behind_instance, entry_of, onward}
use Rattle.kind_text.specs.FlatModule.{FlatModule, Instance, Replacement}
use Rattle.module_model.specs.Instances.{instance_among}
use Rattle.level_text.specs.Depth.{depth as depth_at, greatest, parameters_of}
use Rattle.tree_kinds.specs.Standing.{Outside}
use Rattle.tree_kinds.specs.Expanding.{module_of}
use Rattle.tree_kinds.specs.TreeDepths.{Beneath, Depths, behind_depth, defined_depth, depth, no_depths}
use Rattle.flat_trees.specs.Layouts.{Layout, layout_behind}
use Rattle.flat_trees.specs.Stands.{Stand, Unsaid, Defined, Through, Brought}
use Rattle.flat_depths.specs.Depths.{AgreesInDepth, HasDepths, IsDeepModule}
use Rattle.flat_depths.specs.Parts.{AreReplacedAsDeep}
use Rattle.flattened_trees.specs.Leads.{FlatFace, Lead, Setting, behind}
use Rattle.flattened_trees.specs.Agreeing.{IsSeen, IsSettingOf, KeepsOrders, TakesBehind, is_seen, lead_by, unsaid_stand}

-- nothing is said of what was not seen
abbrev pub AreUnsaid : List Meaning → Layout → Type 0
AreUnsaid seen layout = (meaning : Meaning) → is_seen seen meaning ≡ false → layout.stands meaning ≡ unsaid_stand meaning

-- what was not seen has no depth
abbrev pub ArePlain : List Meaning → Depths → Type 0
ArePlain seen depths = (meaning : Meaning) → is_seen seen meaning ≡ false → depths meaning [] ≡ record { depth = 0; replaced = 0 }

-- the same in another context
abbrev pub layout_at : Layout → Context → Layout
layout_at layout context = record layout { context = context }

-- before all names but those that are built in
abbrev pub first_layout : Layout
first_layout = record { context = built_in; stands = unsaid_stand; places = 0; olds = [] }

-- where these lead
abbrev pub first_setting : Setting
first_setting = record { leads = λ meaning names. lead_by (unsaid_stand meaning) names; frame = []; olds = [] }

-- and that they have no depth
abbrev pub first_beneath : Beneath
first_beneath = record { context = built_in; depths = no_depths }

-- what stands for the names of the module that an INSTANCE names, by the names of modules
abbrev pub stands_in : Text → (List ℕ → Named → Stand) → Option Lexeme → Named → Stand
stands_in text inside None name = Unsaid
stands_in text inside (Some l) name = inside (spelled text.source l) name

-- what the name of a definition stands for, by the number of what is made of it
abbrev pub definition_stand : Text → (List ℕ → Named → Stand) → Tree → ℕ → Stand
definition_stand text inside (Node form s parts) number = elim (defines form) [
  | Nothing ↦ Unsaid
  | Operator l ↦ Defined number (orders parts)
  | Function l ↦ Defined number []
  | Module l ↦ Through number (orders parts) (stands_in text inside (instance_among parts))
]

module _ (flat : FlatModule) where
  -- the instances that a name leads through take as many arguments as it is said of them, and those without a name take none
  abbrev pub TakesParameters : Stand → Type 0
  TakesParameters (Through j orders inner) = (parameters_of (slice_get flat.instances j) ≡ length orders) × ((name : Named) → TakesParameters (inner name))
  TakesParameters (Brought j inner) = (parameters_of (slice_get flat.instances j) ≡ 0) × TakesParameters inner
  TakesParameters stand = Unit {0}

  -- all that is known round a tree: where names lead and what they stand for, what they take, which were seen, of which nothing is said, and how deep
  -- they are
  pub record IsKnownRound (known : Known) (seen : List Meaning) (layout : Layout) (setting : Setting) (beneath : Beneath) : Type 0 where
    pub leads : IsSettingOf layout setting
    pub orders : KeepsOrders known layout
    pub usable : IsSeen seen layout
    pub unsaid : AreUnsaid seen layout
    pub agrees : AgreesInDepth flat layout beneath
    pub plain : ArePlain seen beneath.depths
    pub parameters : (meaning : Meaning) → TakesParameters (layout.stands meaning)

  -- an instance puts in what is as deep as the replacements of an INSTANCE, behind symbols that stay, which have no depth
  pub record PutsInAsDeep (text : Text) (known : Known) (named : List ℕ → Outside) (beneath : Beneath) (l : Lexeme) (rights : Trees) (j : ℕ) : Type 0 where
    pub instance : Instance
    pub staying : List Replacement
    pub made : List Replacement
    pub there : slice_get flat.instances j ≡ Some instance
    pub replacements : instance.replacements ≡ staying ++ made
    pub plain : AllByRecursion (λ r. depth_at flat r.root ≡ 0) staying
    pub deep : AreReplacedAsDeep flat text known named beneath made l rights

  module _ (text : Text) (known : Known) (named : List ℕ → Outside) (faces : List ℕ → FlatFace) where
    -- the names of a module lead where these stand, as deep as outside of it; they take what is known of them behind an instance
    pub record LeadsAs (l : Lexeme) (inner : Named → Stand) (held : Behind) : Type 0 where
      pub leads : (name : Named) (names : List Named) → (faces (spelled text.source l)).leads (name ∷ names) ≡ lead_by (inner name) names
      pub deep : IsDeepModule flat inner (module_of text known named l)
      pub parameters : (name : Named) → TakesParameters (inner name)
      pub takes : (name : Named) (next : Meaning) → entry_of (held []) name ≡ Some next → TakesBehind (inner name) (onward held name) next

    -- so do those of the module of a module definition, by what stands for the names of modules, and take what the module has behind an instance
    abbrev pub LeadsBehind : (List ℕ → Named → Stand) → Lexeme → Lexeme → Type 0
    LeadsBehind inside own l = LeadsAs l (inside (spelled text.source l)) (behind_instance (module_of text known named l).view)

    -- the name of a definition leads to what is made of it under this number, as deep as it is written, so that behind it all is known;
    -- and these nodes are together as deep as what stands in it
    pub record IsDefinedAs (inside : List ℕ → Named → Stand) (seen : List Meaning) (layout : Layout) (setting : Setting) (beneath : Beneath) (x : Tree) (lead : List Named → Lead) (roots : List ℕ) (number : ℕ) : Type 0 where
      pub leads : (names : List Named) → lead names ≡ lead_by (definition_stand text inside x number) names
      pub reached : HasDepths flat 0 (definition_stand text inside x number) (defined_depth text known named beneath x)
      pub behind : IsKnownRound known (map (meant text) (definition x) ++ seen) (layout_behind text layout x (definition_stand text inside x number)) (behind text setting x lead) (behind_depth text known named beneath x (defined_depth text known named beneath x))
      pub deep : greatest (depth_at flat) roots ≡ depth text known named beneath x
