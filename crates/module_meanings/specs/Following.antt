-- When the setting of a reader is what a layout leads to, at a unit and behind it, and when a flat module is so built along a module.
use Rattle.std.specs.Prelude.{◌≡◌, ℕ, true, false, List, ◌∷◌, Some, length}
use Rattle.tla_symbols.specs.declared.lexeme.Lexeme.{Lexeme}
use Rattle.unit_grammar.specs.Units.{UnitTree, ModuleBegin, ModuleEnd, ModuleUnits}
use Rattle.tla_model.specs.Contexts.{Context, meaning_of}
use Rattle.tla_model.specs.Entities.{Meaning, Text}
use Rattle.tla_model.specs.Tables.{Named}
use Rattle.module_scope.specs.Environments.{Scope}
use Rattle.module_model.specs.Exports.{Known, behind_meaning, exports_of}
use Rattle.kind_text.specs.FlatModule.{FlatModule}
use Rattle.tree_kinds.specs.Standing.{Outside}
use Rattle.module_kinds.specs.ModuleKinds.{KindState, after, last, outside}
use Rattle.flat_trees.specs.Stands.{Stand}
use Rattle.flat_trees.specs.Layouts.{Layout}
use Rattle.flat_trees.specs.Instances.{IsModule}
use Rattle.flat_kinds.specs.Modules.{Coming, Current, IsBuiltAlong, module_stands}
use Rattle.flat_kinds.specs.Readings.{AreExtensions, BringNone, Extension, IsUnitRead, extended_stands, layout_after}
use Rattle.flat_kinds.specs.Symbols.{same_symbol, symbols_at}
use Rattle.flattened_trees.specs.Agreeing.{IsSeen, IsSettingOf, KeepsOrders, TakesAs, is_seen, lead_by, unsaid_stand}
use Rattle.flattened_trees.specs.Leads.{Leads, Setting}
use Rattle.flattened_units.specs.Units.{Reader, exported_leads}
use Rattle.module_meanings.specs.Premises.{AreTold, extended_meanings, seen_behind}

-- where each meaning leads is by what it stands for
abbrev pub LeadsBy : (Meaning → Stand) → Leads → Type 0
LeadsBy stands leads = (meaning : Meaning) (names : List Named) → leads meaning names ≡ lead_by (stands meaning) names

-- the same symbol stands for the same
abbrev pub AreAlike : (Meaning → Stand) → Type 0
AreAlike stands = (a b : Meaning) → same_symbol a b ≡ true → stands a ≡ stands b

-- a setting is what a layout leads to, which has this context; something is known behind all instances that can be used; all names that can be used stand for what takes what they take; and nothing
-- is said of names that were not seen
pub record FollowsAt (known : Known) (here : Context) (setting : Setting) (seen : List Meaning) (layout : Layout) : Type 0 where
  pub context : here ≡ layout.context
  pub settings : IsSettingOf layout setting
  pub told : AreTold known layout.context
  pub orders : KeepsOrders known layout
  pub all_seen : IsSeen seen layout
  pub unsaid : (meaning : Meaning) → is_seen seen meaning ≡ false → layout.stands meaning ≡ unsaid_stand meaning

-- the same at a state
abbrev pub Follows : KindState → Reader → List Meaning → Layout → Type 0
Follows state reader seen layout = FollowsAt state.read.known state.read.place.here.context reader.setting seen layout

-- no nested module begins or ends
abbrev pub IsPlain : UnitTree → Type 0
IsPlain (ModuleBegin dashes name extends) = ⊥
IsPlain (ModuleEnd closing) = ⊥
IsPlain unit = Unit {0}

module _ (flat : FlatModule) (text : Text) (outsides : List ℕ → Outside) (words : List ℕ) where
  -- what comes of such a unit is what is written, and the reader behind it has what a layout leads to
  abbrev pub IsFollowed : KindState → Layout → UnitTree → Reader → List Meaning → Type 0
  IsFollowed state layout unit next seen =
      (stands : Meaning → Stand) × IsUnitRead text outsides words flat state layout unit stands
      × Follows (after text outsides words state unit) next (seen_behind text outsides words state unit next seen) (layout_after text outsides words state layout unit stands)

  -- modules that are extended come so that names stand behind them where these leads lead: each through an instance that lets its symbols
  -- stand, whatever the layout is with so many places
  pub record AreExtendedSo (known : Known) (context : Context) (modules : Scope Outside) (places : ℕ) (here : Meaning → Stand) (ls : List Lexeme) (stands : Meaning → Stand) (next : Leads) : Type 0 where
    pub extensions : List Extension
    pub are : (layout : Layout) → layout.places ≡ places → AreExtensions text outsides words flat layout here modules ls extensions
    pub leads : LeadsBy (extended_stands text outsides words modules stands ls extensions) next
    pub takes :
        (used : Named) (meaning : Meaning) → meaning_of context used ≡ Some meaning
        → (BringNone text outsides words modules ls meaning → TakesAs (stands meaning) (behind_meaning known (Some meaning)) meaning)
        → TakesAs (extended_stands text outsides words modules stands ls extensions meaning) (behind_meaning known (Some meaning)) meaning
    pub unsaid :
        (meaning : Meaning) → is_seen (extended_meanings text outsides words modules ls) meaning ≡ false
        → extended_stands text outsides words modules stands ls extensions meaning ≡ stands meaning

module _ (flat : FlatModule) (outsides : List ℕ → Outside) (source : List ℕ) (units : ModuleUnits) (symbols : List Meaning) (final : Reader) where
  -- these stands are where the names of the module lead outside of it
  abbrev pub LeadOutside : (Named → Stand) → Type 0
  LeadOutside inner =
      (name : Named) (names : List Named)
      → exported_leads final.setting.leads (exports_of (last outsides source units).read.place.here.exports) (name ∷ names) ≡ lead_by (inner name) names

  -- a flat module is built along a module with these symbols, up to this reader, which follows the state there
  pub record IsBuiltSo : Type 0 where
    pub extensions : List Extension
    pub comings : List Coming
    pub behind : Current
    pub built : IsBuiltAlong outsides source units flat (symbols_at unsaid_stand symbols 0) (length symbols) extensions comings behind
    pub seen : List Meaning
    pub follows : Follows (last outsides source units) final seen behind.layout
    pub leads : LeadOutside (module_stands outsides source units behind.layout)

  -- it means the module
  pub record IsMeantSo : Type 0 where
    pub inner : Named → Stand
    pub kept : IsModule flat (symbols_at unsaid_stand symbols 0) (length symbols) inner (outside outsides source units)
    pub leads : LeadOutside inner
