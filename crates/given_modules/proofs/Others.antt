-- Names that are of other modules than one, and those that are of it.
use Rattle.std.proofs.Common.{◌≡◌, ℕ, Bool, true, false, cond, List, [], ◌∷◌, ◌++◌, Some, refl, sym, subst, map}
use Rattle.std.specs.List.{AllByRecursion}
use Rattle.std.specs.Str.{bytes_eq}
use Rattle.std.proofs.lemmas.Bool.{and_parts, or_from, or_left, or_parts, or_right}
use Rattle.tla_model.specs.declared.ids.Callee.{Callee}
use Rattle.tla_model.specs.declared.ids.UnitId.{UnitId}
use Rattle.tla_model.specs.declared.names.Meaning.TheVariants.{BuiltIn, Declared}
use Rattle.tla_model.specs.Entities.{Entity, Meaning, same_decl, same_meaning, same_units}
use Rattle.tla_model.specs.EntityKinds.{is_meant, stands_behind}
use Rattle.tla_model.specs.Tables.{Named}
use Rattle.tla_model.specs.Same.{callee-equal}
use Rattle.module_model.specs.Exports.{Exports, ModuleView, exported, instantiable}
use Rattle.module_model.specs.Instances.{through}
use Rattle.tree_kinds.specs.Standing.{name_among, same_standing}
use Rattle.tree_kinds.proofs.Standings.{standing-means}
use Rattle.accepted_modules.specs.Named.{AllNamed}
use Rattle.accepted_modules.proofs.Holding.{OfEntry}
use Rattle.accepted_modules.proofs.Tables.{all-passing}
use Rattle.given_depths.specs.Own.{IsOfOthers}
use Rattle.given_modules.specs.Others.{IsNamedOf, came_through, is_of}

module _ (title : List ℕ) where
  -- what means the same is of the same modules
  pub others-alike : (a b : Meaning) → same_meaning a b ≡ true → IsOfOthers title b → IsOfOthers title a
  others-alike BuiltIn b same is = tt
  others-alike (Declared e a) BuiltIn same is = absurd (cc same)
  others-alike (Declared e a) (Declared f b) same is =
      let parts = and_parts (same_decl a.decl b.decl) (same_units a.via b.via) same in
      let left : Callee = record { instance = 0; decl = a.decl; via = a.via } in
      let right : Callee = record { instance = 0; decl = b.decl; via = b.via } in
      let one : left ≡ right = callee-equal left right refl parts.0 parts.1 in
      subst (λ (c : Callee). (bytes_eq c.decl.«module» title ≡ false) × AllByRecursion (λ (unit : UnitId). bytes_eq unit.«module» title ≡ false) c.via) (sym one) is

  -- an entry that has this name stands for it
  pub among-others : (entries : Exports) (m : Meaning) (name : Named) → AllByRecursion (OfEntry (IsNamedOf title)) entries → name_among entries m ≡ Some name → IsOfOthers title m
  among-others [] m name all is = cc is
  among-others (entry ∷ rest) m name all is = by (same_standing m entry.1) refl is (among-others rest m name all.1)
    where
      by : (b : Bool) → same_standing m entry.1 ≡ b → cond b (Some entry.0) (name_among rest m) ≡ Some name → (name_among rest m ≡ Some name → IsOfOthers title m) → IsOfOthers title m
      by true same is later = others-alike m entry.1 (standing-means m entry.1 same) all.0
      by false same is later = later is

  -- so are names that a module brings
  pub brought-others : (view : ModuleView) (m : Meaning) (name : Named) → AllNamed (IsNamedOf title) view → name_among (instantiable (exported view)) m ≡ Some name → IsOfOthers title m
  brought-others view m name is at = among-others (instantiable (exported view)) m name (all-passing (OfEntry (IsNamedOf title)) (λ (entry : Named × Meaning). is_meant stands_behind entry.1) (exported view) is.entries) at

  -- ---- a name is of others, or of the module

  others-through : (via : List UnitId) → AllByRecursion (λ (unit : UnitId). bytes_eq unit.«module» title ≡ false) via → came_through title via ≡ false
  others-through [] all = refl
  others-through (unit ∷ via) all = or_from (bytes_eq unit.«module» title) (came_through title via) all.0 (others-through via all.1)

  through-others : (via : List UnitId) → came_through title via ≡ false → AllByRecursion (λ (unit : UnitId). bytes_eq unit.«module» title ≡ false) via
  through-others [] none = tt
  through-others (unit ∷ via) none =
      let parts = or_parts (bytes_eq unit.«module» title) (came_through title via) none in
      (parts.0, through-others via parts.1)

  pub others-not : (e : Entity) (callee : Callee) → IsOfOthers title (Declared e callee) → is_of title callee.decl callee.via ≡ false
  others-not e callee is = or_from (bytes_eq callee.decl.«module» title) (came_through title callee.via) is.0 (others-through callee.via is.1)

  pub not-others : (e : Entity) (callee : Callee) → is_of title callee.decl callee.via ≡ false → IsOfOthers title (Declared e callee)
  not-others e callee none =
      let parts = or_parts (bytes_eq callee.decl.«module» title) (came_through title callee.via) none in
      (parts.0, through-others callee.via parts.1)

  -- a name of the module, or what is built in
  abbrev pub IsOfThis : Meaning → Type 0
  IsOfThis BuiltIn = Unit {0}
  IsOfThis (Declared e callee) = is_of title callee.decl callee.via ≡ true

  last-through : (via : List UnitId) (unit : UnitId) → bytes_eq unit.«module» title ≡ true → came_through title (via ++ unit ∷ []) ≡ true
  last-through [] unit here = or_left (bytes_eq unit.«module» title) false here
  last-through (other ∷ via) unit here = or_right (bytes_eq other.«module» title) (came_through title (via ++ unit ∷ [])) (last-through via unit here)

  through-one : (unit : UnitId) (m : Meaning) → bytes_eq unit.«module» title ≡ true → IsOfThis (through unit m)
  through-one unit BuiltIn here = tt
  through-one unit (Declared e callee) here = or_right (bytes_eq callee.decl.«module» title) (came_through title (callee.via ++ unit ∷ [])) (last-through callee.via unit here)

  -- so is all that comes through an INSTANCE of it
  pub through-all : (unit : UnitId) (entries : Exports) → bytes_eq unit.«module» title ≡ true → AllByRecursion (λ (entry : Named × Meaning). IsOfThis entry.1) (map (λ (entry : Named × Meaning). (entry.0, through unit entry.1)) entries)
  through-all unit [] here = tt
  through-all unit (entry ∷ rest) here = (through-one unit entry.1 here, through-all unit rest here)
