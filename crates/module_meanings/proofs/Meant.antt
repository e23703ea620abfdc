-- A module that is meant can be extended.
use Rattle.std.proofs.Common.{◌≡◌, ℕ, suc, ◌+◌, Bool, List, [], ◌∷◌, Some, refl, sym, ◌∙◌, subst, drop, length, arith}
use Rattle.std.specs.List.{AllByRecursion}
use Rattle.unit_grammar.specs.Units.{ModuleUnits}
use Rattle.tla_model.specs.declared.entity.Entity.TheVariants as entity
use Rattle.tla_model.specs.declared.ids.Callee.{Callee}
use Rattle.tla_model.specs.declared.names.Meaning.TheVariants.{BuiltIn, Declared}
use Rattle.tla_model.specs.Entities.{Meaning}
use Rattle.tla_model.specs.Tables.{Named}
use Rattle.module_model.specs.Exports.{behind_instance, entry_of, exports_of, onward}
use Rattle.kind_text.specs.FlatModule.{FlatModule}
use Rattle.tree_kinds.specs.Standing.{Outside}
use Rattle.module_kinds.specs.ModuleKinds.{last, outside}
use Rattle.flat_trees.specs.Instances.{IsModule, symbols_of}
use Rattle.flat_kinds.specs.Symbols.{symbols_at}
use Rattle.flattened_trees.specs.Agreeing.{TakesBehind, unsaid_stand}
use Rattle.flattened_trees.specs.Leads.{FlatFace, Leads, Setting}
use Rattle.flattened_units.specs.Units.{Reader, exported_leads, no_leads, with_symbols}
use Rattle.module_meanings.specs.Faces.{IsExtendedBy, IsPlaced, LeadsAs}
use Rattle.module_meanings.specs.Following.{IsMeantSo}
use Rattle.module_meanings.specs.Premises.{symbol_leads}

-- what is built in is no symbol, and bound names are none
built-in-leads : (leads : Leads) (symbols : List Meaning) (place : ℕ) → with_symbols leads symbols place BuiltIn [] ≡ leads BuiltIn []
built-in-leads leads [] place = refl
built-in-leads leads (s ∷ rest) place = built-in-leads leads rest (suc place)

bound-leads : (leads : Leads) (symbols : List Meaning) (place : ℕ) (state : Bool) (callee : Callee) → with_symbols leads symbols place (Declared (entity.Bound state) callee) [] ≡ leads (Declared (entity.Bound state) callee) []
bound-leads leads [] place state callee = refl
bound-leads leads (BuiltIn ∷ rest) place state callee = bound-leads leads rest (suc place) state callee
bound-leads leads (Declared e other ∷ rest) place state callee = bound-leads leads rest (suc place) state callee

symbols-built-in : (round : List Setting) (frame : List Meaning) → symbol_leads round frame BuiltIn [] ≡ no_leads BuiltIn []
symbols-built-in [] frame = built-in-leads no_leads frame 0
symbols-built-in (outer ∷ round) frame = built-in-leads (symbol_leads round outer.frame) (drop (length outer.frame) frame) (length outer.frame) ∙ symbols-built-in round outer.frame

symbols-bound : (round : List Setting) (frame : List Meaning) (state : Bool) (callee : Callee) → symbol_leads round frame (Declared (entity.Bound state) callee) [] ≡ no_leads (Declared (entity.Bound state) callee) []
symbols-bound [] frame state callee = bound-leads no_leads frame 0 state callee
symbols-bound (outer ∷ round) frame state callee =
    bound-leads (symbol_leads round outer.frame) (drop (length outer.frame) frame) (length outer.frame) state callee ∙ symbols-bound round outer.frame state callee

leaves-lead : (round : List Setting) (frame : List Meaning) (outer : ℕ) (m : Meaning) → LeadsAs outer (unsaid_stand m) (symbol_leads round frame m [])
leaves-lead round frame outer BuiltIn = symbols-built-in round frame
leaves-lead round frame outer (Declared (entity.Bound state) callee) = symbols-bound round frame state callee
leaves-lead round frame outer (Declared (entity.Constant n) callee) = tt
leaves-lead round frame outer (Declared entity.Variable callee) = tt
leaves-lead round frame outer (Declared (entity.Parameter n) callee) = tt
leaves-lead round frame outer (Declared (entity.Definition orders) callee) = tt
leaves-lead round frame outer (Declared (entity.Instance orders) callee) = tt
leaves-lead round frame outer (Declared entity.Module callee) = tt

module _ (flat : FlatModule) (outsides : List ℕ → Outside) (source : List ℕ) (units : ModuleUnits) (symbols : List Meaning) (final : Reader) where
  pub meant-extended : (face : FlatFace) (leads : Leads) (round : List Setting) (frame : List Meaning) (meant : IsMeantSo flat outsides source units symbols final) → symbols ≡ symbols_of (outside outsides source units) → face.outer ≡ 0 → face.parameters ≡ (outside outsides source units).view.parameters → ((name : Named) (names : List Named) → face.leads (name ∷ names) ≡ exported_leads final.setting.leads (exports_of (last outsides source units).read.place.here.exports) (name ∷ names)) → ((name : Named) (next : Meaning) → entry_of (behind_instance (outside outsides source units).view []) name ≡ Some next → TakesBehind (meant.inner name) (onward (behind_instance (outside outsides source units).view) name) next) → AllByRecursion (λ (m : Meaning). IsPlaced (symbol_leads round frame) m × (leads m [] ≡ symbol_leads round frame m [])) symbols → IsExtendedBy flat leads (symbol_leads round frame) face (outside outsides source units)
  meant-extended face leads round frame meant same outer parameters paths takes placed =
      let whole = outside outsides source units in
      let first : 0 + length symbols ≡ length symbols = omega arith in
      record {
        base = unsaid_stand;
        inner = meant.inner;
        paths = λ name names. paths name names ∙ meant.leads name names;
        kept = subst (λ n. IsModule flat (symbols_at unsaid_stand (symbols_of whole) n) (n + length (symbols_of whole)) meant.inner whole) (sym outer)
            (subst (λ (ms : List Meaning). IsModule flat (symbols_at unsaid_stand ms 0) (0 + length ms) meant.inner whole) same
            (subst (λ n. IsModule flat (symbols_at unsaid_stand symbols 0) n meant.inner whole) (sym first) meant.kept));
        takes = takes;
        parameters = parameters;
        symbols = λ m. leaves-lead round frame face.outer m;
        placed = subst (AllByRecursion (λ (m : Meaning). IsPlaced (symbol_leads round frame) m × (leads m [] ≡ symbol_leads round frame m []))) same placed;
      }
