-- What modules are to the next one, by what was found of those before it.
use Rattle.std.proofs.Common.{◌≡◌, ℕ, Bool, true, false, List, ◌⊎◌, inl, inr, Option, Some, None, refl, sym, ap, subst, ◌∙◌}
use mathlib.Core.Path.{fun_ext}
use Rattle.std.specs.Prelude.{◌↔◌, Contains, IsSome, IsTrue, is_some}
use Rattle.std.specs.Arc.{arc_value}
use Rattle.std.proofs.lemmas.Bool.{both_ways}
use Rattle.tla_tree.specs.declared.unit.ModuleTree.{ModuleTree}
use Rattle.unit_grammar.specs.UnitNodes.{module_of}
use Rattle.front_laws.specs.Fronts.{IsFront, Tree}
use Rattle.module_model.specs.declared.imported.Import.{Import}
use Rattle.module_model.specs.Exports.{ModuleView, face_outside, files_of, import_outside}
use Rattle.module_model.specs.Imports.{Imports, import_of}
use Rattle.module_facts.specs.Checks as names
use Rattle.module_facts.specs.Checks.{ImportStatus, files_given, given_by, given_in}
use Rattle.tree_kinds.specs.Standing.{Outside}
use Rattle.module_kinds.specs.ModuleKinds.{nowhere}
use Rattle.family_facts.specs.Facts.{texts_of}
use Rattle.family_facts.specs.Family as families
use Rattle.family_facts.specs.Family.{IsCyclic, Member, is_there}
use Rattle.family_facts.proofs.Lists.{among-or-not}
use Rattle.family_tables.specs.Outcomes.{ImportsOnly, IsMember, IsNeedTold, status_by}
use Rattle.family_tables.specs.Plans as plans
use Rattle.family_tables.specs.Tables.{entry_of}
use Rattle.family_tables.specs.declared.order.Plan.{Plan}
use Rattle.family_tables.specs.declared.outcome.Outcome.{Outcome}
use Rattle.family_tables.specs.declared.outcome.Outcome.TheVariants as outcome
use Rattle.family_tables.specs.declared.reading.Reading.TheVariants as reading
use Rattle.family_tables.proofs.Bridging.{cyclic-map, cyclic-there}
use Rattle.leveled_facts.specs.Families.{IsStatus, accepted, cyclic, leveled, refused, unknown}
use Rattle.leveled_facts.specs.Modules.{Accepted, Cyclic, Leveled, Refused, Status, Unknown, import_status, leveled_by, outside_by}
use Rattle.family_levels.specs.Leveling.{IsReady, Says}
use Rattle.family_levels.specs.Numbers.{number_by}
use Rattle.family_levels.specs.Versions.{IsLack}
use Rattle.family_levels.specs.Laws.{FamilyLaws}
use Rattle.leveled_modules.specs.Leveled.{LevelTables}

import-given : (import : Option Import) → import_outside import ≡ names.outside_by (given_by import)
import-given None = refl
import-given (Some Import.Unknown) = refl
import-given (Some Import.Cyclic) = refl
import-given (Some Import.Refused) = refl
import-given (Some (Import.Module face)) = refl

-- the modules that are imported are what imports give
pub files-given : (imports : Imports) → files_of imports ≡ files_given (given_in imports)
files-given imports = fun_ext (λ name. import-given (import_of imports name))

-- what a module is to all of the next one, by what it is to its names
abbrev pub status_with : Outside → ImportStatus → Status
status_with outside names.Unknown = Unknown
status_with outside names.Cyclic = Cyclic
status_with outside names.Refused = Refused
status_with outside (names.Accepted view) = Accepted outside

-- an import that is accepted is a module of this view
abbrev pub HasView : ModuleView → ImportStatus → Type 0
HasView view names.Unknown = Unit {0}
HasView view names.Cyclic = Unit {0}
HasView view names.Refused = Unit {0}
HasView view (names.Accepted other) = other ≡ view

names-same : (outside : Outside) (status : ImportStatus) → HasView outside.view status → import_status (status_with outside status) ≡ status
names-same outside names.Unknown has = refl
names-same outside names.Cyclic has = refl
names-same outside names.Refused has = refl
names-same outside (names.Accepted view) has = ap names.Accepted (sym has)

view-same : (status : Status) → names.outside_by (import_status status) ≡ (outside_by status).view
view-same Unknown = refl
view-same Cyclic = refl
view-same Refused = refl
view-same (Accepted outside) = refl

-- a status without a module behind it is told by what it is to names
pub lack-is : (outside : Outside) (lack : Status) → IsLack lack → (status : ImportStatus) → import_status lack ≡ status → lack ≡ status_with outside status
lack-is outside Unknown lacks status is = subst (λ s. Unknown ≡ status_with outside s) is refl
lack-is outside Cyclic lacks status is = subst (λ s. Cyclic ≡ status_with outside s) is refl
lack-is outside Refused lacks status is = subst (λ s. Refused ≡ status_with outside s) is refl
lack-is outside (Accepted other) lacks status is = absurd lacks

-- behind it there is nothing
pub lack-nothing : (lack : Status) → IsLack lack → outside_by lack ≡ nowhere
lack-nothing Unknown lacks = refl
lack-nothing Cyclic lacks = refl
lack-nothing Refused lacks = refl
lack-nothing (Accepted other) lacks = absurd lacks

-- what is so of a need
pub record IsNeedGiven (family : List Member) (name need : List ℕ) (status : ImportStatus) : Type 0 where
  pub is : IsStatus family name need (status_with (leveled (texts_of family) need).outside status)
  pub view : HasView (leveled (texts_of family) need).outside.view status

-- it is so by whether the need leads back, and by its outcome
module _ (family : List Member) (plan : Plan) (outcomes : List (List ℕ × Outcome)) (numbers : List (List ℕ × ℕ)) (known : LevelTables) (name : List ℕ) (ready : IsReady family plan outcomes numbers known name) where
  pub status-given : (need : List ℕ) → families.Needs family name need → (answer : Bool) → IsTrue answer ↔ IsCyclic family name need → (o : Option Outcome) → entry_of outcomes need ≡ o → IsNeedGiven family name need (status_by answer o)
  status-given need needs true exactly o there =
      let cycle : IsCyclic family name need = exactly.0 refl in
      record { is = cyclic (cyclic-there family name need needs cycle) cycle; view = tt }
  status-given need needs false exactly o there = by o there
    where
      no-cycle : IsCyclic family name need → ⊥
      no-cycle cycle = let never : false ≡ true = exactly.1 cycle in cc

      absent : is_there family need ≡ true → entry_of outcomes need ≡ None → ⊥
      absent t none = both_ways (is_some (entry_of outcomes need)) (ap is_some none) (ready.before need needs no-cycle t)

      by : (o : Option Outcome) → entry_of outcomes need ≡ o → IsNeedGiven family name need (status_by false o)
      by None there = record { is = unknown (by_there (is_there family need) refl); view = tt }
        where
          by_there : (b : Bool) → is_there family need ≡ b → b ≡ false
          by_there true t = absurd (absent t there)
          by_there false t = refl
      by (Some (outcome.Refused faults)) there =
          let says : Says (texts_of family) need (outcome.Refused faults) = ready.leveled_so.says need (outcome.Refused faults) there in
          record { is = refused (ready.leveled_so.there need (outcome.Refused faults) there) no-cycle says.1; view = tt }
      by (Some (outcome.Accepted face)) there =
          let says : Says (texts_of family) need (outcome.Accepted face) = ready.leveled_so.says need (outcome.Accepted face) there in
          record { is = accepted (ready.leveled_so.there need (outcome.Accepted face) there) no-cycle says.0; view = says.1 }

module _ (family : List Member) (plan : Plan) (outcomes : List (List ℕ × Outcome)) (numbers : List (List ℕ × ℕ)) (known : LevelTables) (name : List ℕ) (ready : IsReady family plan outcomes numbers known name)
    (tree : ModuleTree) (needs : List (List ℕ)) (member : IsMember family name (reading.Tree tree) needs) (imports : Imports) (told : (need : List ℕ) → Contains needs need → IsNeedTold ready.entries outcomes name need (given_in imports need)) (only : ImportsOnly needs imports) where
  -- what is found of a name
  abbrev pub found_of : List ℕ → Leveled
  found_of other = leveled (texts_of family) other

  -- what modules are to the next one
  abbrev pub given : List ℕ → Status
  given other = status_with (found_of other).outside (given_in imports other)

  needed : (need : List ℕ) → Contains needs need → families.Needs family name need
  needed need c = member.own need c

  -- whether a need leads back is told by the members as it is by the plan
  pub told-exactly : (need : List ℕ) (c : Contains needs need) → IsTrue (told need c).is_cyclic ↔ IsCyclic family name need
  told-exactly need c = (
    λ answer. cyclic-map (plans.Needs ready.entries) (families.Needs family) name need ready.own ((told need c).exactly.0 answer),
    λ cycle. (told need c).exactly.1 (cyclic-map (families.Needs family) (plans.Needs ready.entries) name need ready.all cycle),
  )

  need-given : (need : List ℕ) → Contains needs need → IsNeedGiven family name need (given_in imports need)
  need-given need c =
      subst (IsNeedGiven family name need) (sym (told need c).is)
      (status-given family plan outcomes numbers known name ready need (needed need c) (told need c).is_cyclic (told-exactly need c) (entry_of outcomes need) refl)

  none-given : (need : List ℕ) → (Contains needs need → ⊥) → given_in imports need ≡ names.Unknown
  none-given need never = ap given_by (only need never)

  has-view : (other : List ℕ) → HasView (found_of other).outside.view (given_in imports other)
  has-view other = by (among-or-not needs other)
    where
      by : Contains needs other ⊎ (Contains needs other → ⊥) → HasView (found_of other).outside.view (given_in imports other)
      by (inl c) = (need-given other c).view
      by (inr never) = subst (HasView (found_of other).outside.view) (sym (none-given other never)) tt

  -- they are to its names what its imports are
  pub names-given : (λ other. import_status (given other)) ≡ given_in imports
  names-given = fun_ext (λ other. names-same (found_of other).outside (given_in imports other) (has-view other))

  -- and their views are those of the imports
  pub views-given : (λ other. (outside_by (given other)).view) ≡ files_given (given_in imports)
  views-given = fun_ext (λ other. sym (view-same (given other)) ∙ ap names.outside_by (names-same (found_of other).outside (given_in imports other) (has-view other)))

  -- this is found of the module
  pub found-given : FamilyLaws → leveled (texts_of family) name ≡ leveled_by given tree.source (module_of tree)
  found-given laws =
      let m : Member = member.member in
      let front : IsFront m.name m.bytes (Tree (module_of tree)) = subst (λ n. IsFront n m.bytes (Tree (module_of tree))) (sym member.named) member.is.front in
      let is : leveled (texts_of family) m.name ≡ leveled_by given m.bytes (module_of tree) =
      laws.checked family m (module_of tree) given ready.distinct member.there front
      (λ need n. subst (λ x. IsStatus family x need (given need)) (sym member.named) (need-given need (member.all need (subst (λ x. families.Needs family x need) member.named n))).is)
      (λ need never. ap (status_with (found_of need).outside) (none-given need (λ c. never (subst (λ x. families.Needs family x need) (sym member.named) (member.own need c))))) in
      subst (λ x. leveled (texts_of family) x ≡ leveled_by given m.bytes (module_of tree)) member.named is ∙ ap (λ bytes. leveled_by given bytes (module_of tree)) (sym member.is.source)

  -- ---- files

  -- a file is there, with its number
  pub record IsFileThere (other : List ℕ) (number : Option ℕ) : Type 0 where
    pub at : ℕ
    pub numbered : number ≡ Some at
    pub entry : entry_of numbers other ≡ Some at
    pub outside : outside_by (given other) ≡ (found_of other).outside

  -- or it is not there
  pub record IsFileAbsent (other : List ℕ) (number : Option ℕ) : Type 0 where
    pub numbered : number ≡ None
    pub outside : outside_by (given other) ≡ nowhere

  file-by : (other : List ℕ) (import : Option Import) → import_of imports other ≡ import → IsFileThere other (number_by import (entry_of numbers other)) ⊎ IsFileAbsent other (number_by import (entry_of numbers other))
  file-by other None is = inr (record { numbered = refl; outside = ap (λ i. outside_by (status_with (found_of other).outside (given_by i))) is })
  file-by other (Some Import.Unknown) is = inr (record { numbered = refl; outside = ap (λ i. outside_by (status_with (found_of other).outside (given_by i))) is })
  file-by other (Some Import.Cyclic) is = inr (record { numbered = refl; outside = ap (λ i. outside_by (status_with (found_of other).outside (given_by i))) is })
  file-by other (Some Import.Refused) is = inr (record { numbered = refl; outside = ap (λ i. outside_by (status_with (found_of other).outside (given_by i))) is })
  file-by other (Some (Import.Module face)) is = by_number (entry_of numbers other) refl (accepted-numbered (among-or-not needs other))
    where
      by-told : (answer : Bool) (o : Option Outcome) → entry_of outcomes other ≡ o → names.Accepted (face_outside (arc_value face)) ≡ status_by answer o → IsSome (entry_of numbers other)
      by-told true o there is = absurd (cc is)
      by-told false None there is = absurd (cc is)
      by-told false (Some (outcome.Refused faults)) there is = absurd (cc is)
      by-told false (Some (outcome.Accepted own)) there is = ready.leveled_so.numbered other (outcome.Accepted own) there

      accepted-numbered : Contains needs other ⊎ (Contains needs other → ⊥) → IsSome (entry_of numbers other)
      accepted-numbered (inl c) = by-told (told other c).is_cyclic (entry_of outcomes other) refl (sym (ap given_by is) ∙ (told other c).is)
      accepted-numbered (inr out) = let never : Some (Import.Module face) ≡ None = sym is ∙ only other out in cc

      by_number : (number : Option ℕ) → entry_of numbers other ≡ number → IsSome (entry_of numbers other) → IsFileThere other number ⊎ IsFileAbsent other number
      by_number None e some = absurd (both_ways (is_some (entry_of numbers other)) (ap is_some e) some)
      by_number (Some at) e some = inl (record { at = at; numbered = refl; entry = e; outside = ap (λ i. outside_by (status_with (found_of other).outside (given_by i))) is })

  -- a file by its number
  pub file-is : (other : List ℕ) → IsFileThere other (number_by (import_of imports other) (entry_of numbers other)) ⊎ IsFileAbsent other (number_by (import_of imports other) (entry_of numbers other))
  file-is other = file-by other (import_of imports other) refl
