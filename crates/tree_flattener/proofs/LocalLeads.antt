-- Where names lead that are looked up among the names in scope.
use Rattle.std.proofs.Common.{◌≡◌, ℕ, List, [], ◌∷◌, Bool, true, false, refl, ap, sym, subst, ◌∙◌}
use Rattle.std.specs.Prelude.{◌&&◌, nat_eq, Option, Some, None, if◌then◌else◌}
use Rattle.std.specs.Str.{bytes_eq}
use Rattle.std.specs.List.{AllByRecursion}
use Rattle.tla_model.specs.declared.names.Meaning.TheVariants.{BuiltIn, Declared}
use Rattle.tla_model.specs.Tables.{Named}
use Rattle.tla_model.specs.Entities.{Meaning, Text, same_meaning, same_units}
use Rattle.tla_model.specs.declared.ids.UnitId.{UnitId}
use Rattle.tree_kinds.specs.Standing.{is_bound, same_standing}
use Rattle.flattened_trees.specs.Leads.{Lead, Leads, with_lead}
use Rattle.tree_flattener.specs.declared.locals.Entry.{Entry}
use Rattle.tree_flattener.specs.declared.locals.Local.{Local}
use Rattle.tree_flattener.specs.Found.{local_in}
use Rattle.tree_flattener.specs.Worlds.{World, declared_at, declared_place, is_none_of, lead_by, local_at, local_of, own_place, with_locals}

-- ---- one name

none-same : (via : List UnitId) → same_units via [] ≡ is_none_of via
none-same [] = refl
none-same (u ∷ via) = refl

-- whether two are the same, by three tests
three-tests : (a b c : Bool) → (a && b && c) ≡ (if a && c then b else false)
three-tests true true true = refl
three-tests true true false = refl
three-tests true false true = refl
three-tests true false false = refl
three-tests false true true = refl
three-tests false true false = refl
three-tests false false true = refl
three-tests false false false = refl

-- whether a meaning is the one that is declared at a place, by its own place
at_place : Option ℕ → ℕ → Bool
at_place None place = false
at_place (Some own) place = nat_eq own place

tests-as : (a c : Bool) (own place : ℕ) → (if a && c then nat_eq own place else false) ≡ at_place (if a && c then Some own else None) place
unfolding at_place
tests-as true true own place = refl
tests-as true false own place = refl
tests-as false true own place = refl
tests-as false false own place = refl

same-named : (text : Text) (other : Meaning) (place : ℕ) → same_meaning other (declared_at text place) ≡ at_place (declared_place text other) place
unfolding at_place
same-named text BuiltIn place = refl
same-named text (Declared e callee) place =
    let a = bytes_eq callee.decl.«module» text.file in
    ap (λ z. a && nat_eq callee.decl.place place && z) (none-same callee.via)
    ∙ three-tests a (nat_eq callee.decl.place place) (is_none_of callee.via)
    ∙ tests-as a (is_none_of callee.via) callee.decl.place place

-- a bound name is none that came into scope
unbound : (bound same : Bool) (own : Option ℕ) (place : ℕ) → same ≡ at_place own place → (same && (if bound then false else true)) ≡ at_place (if bound then None else own) place
unfolding at_place
unbound true true own place is = refl
unbound true false own place is = refl
unbound false true own place is = is
unbound false false own place is = is

same-declared : (text : Text) (other : Meaning) (place : ℕ) → same_standing other (declared_at text place) ≡ at_place (own_place text other) place
same-declared text other place = unbound (is_bound other) (same_meaning other (declared_at text place)) (declared_place text other) place (same-named text other place)

-- ---- all names in scope

module _ (w : World) (other : Meaning) (names : List Named) where
  -- where it leads, if it was found
  picked : Option Local → Lead → Lead
  picked None lead = lead
  picked (Some local) lead = lead_by w local names

  -- what is no declaration of the text leads where it did
  leads-elsewhere : own_place w.text other ≡ None → (entries : List Entry) (leads : Leads) → with_locals w leads entries other names ≡ leads other names
  unfolding at_place
  leads-elsewhere none [] leads = refl
  leads-elsewhere none (entry ∷ entries) leads =
      leads-elsewhere none entries (with_lead leads (declared_at w.text entry.place) (lead_by w entry.local))
      ∙ ap (λ z. if z then lead_by w entry.local names else leads other names) (same-declared w.text other entry.place ∙ ap (λ z. at_place z entry.place) none)

  step : (same : Bool) (local : Local) (before : Option Local) (lead base : Lead) → lead ≡ picked before base → (if same then lead_by w local names else lead) ≡ picked (if same then Some local else before) base
  unfolding picked
  step true local before lead base is = refl
  step false local before lead base is = is

  leads-picked : (place : ℕ) → own_place w.text other ≡ Some place → (base : Lead) (entries : List Entry) (leads : Leads) (before : Option Local) → leads other names ≡ picked before base
      → with_locals w leads entries other names ≡ picked (local_in before entries place) base
  unfolding at_place
  leads-picked place own base [] leads before is = is
  leads-picked place own base (entry ∷ entries) leads before is =
      let same = nat_eq place entry.place in
      leads-picked place own base entries (with_lead leads (declared_at w.text entry.place) (lead_by w entry.local)) (if same then Some entry.local else before)
      (ap (λ z. if z then lead_by w entry.local names else leads other names) (same-declared w.text other entry.place ∙ ap (λ z. at_place z entry.place) own)
      ∙ step same entry.local before (leads other names) base is)

  by_place : (own : Option ℕ) → own_place w.text other ≡ own → (entries : List Entry) (leads : Leads) → with_locals w leads entries other names ≡ picked (local_at entries own) (leads other names)
  unfolding picked
  by_place None is entries leads = leads-elsewhere is entries leads
  by_place (Some place) is entries leads = leads-picked place is (leads other names) entries leads None refl

  -- where it leads as a name of a scope
  pub leads-here : (local : Local) (entries : List Entry) (leads : Leads) → Some local ≡ local_of w.text entries other → with_locals w leads entries other names ≡ lead_by w local names
  unfolding picked
  leads-here local entries leads found = by_place (own_place w.text other) refl entries leads ∙ ap (λ z. picked z (leads other names)) (sym found)

  pub leads-away : (entries : List Entry) (leads : Leads) → None ≡ local_of w.text entries other → with_locals w leads entries other names ≡ leads other names
  unfolding picked
  leads-away entries leads missed = by_place (own_place w.text other) refl entries leads ∙ ap (λ z. picked z (leads other names)) (sym missed)

-- what holds of all entries holds of the one that is found
found-in : (P : Local → Type 0) (entries : List Entry) (place : ℕ) (before : Option Local) (local : Local) → AllByRecursion (λ entry. P entry.local) entries → ((l : Local) → before ≡ Some l → P l) → local_in before entries place ≡ Some local → P local
found-in P [] place before local all first found = first local found
found-in P (entry ∷ entries) place before local all first found = found-in P entries place (if nat_eq place entry.place then Some entry.local else before) local all.1 (by_test (nat_eq place entry.place)) found
  where
    by_test : (b : Bool) (l : Local) → (if b then Some entry.local else before) ≡ Some l → P l
    by_test true l e = subst P (let same : entry.local ≡ l = cc in same) all.0
    by_test false l e = first l e

pub found-holds : (P : Local → Type 0) (text : Text) (other : Meaning) (entries : List Entry) (local : Local) → AllByRecursion (λ entry. P entry.local) entries → Some local ≡ local_of text entries other → P local
found-holds P text other entries local all found = by_place (own_place text other) (sym found)
  where
    by_place : (own : Option ℕ) → local_at entries own ≡ Some local → P local
    by_place None e = absurd (let impossible : ⊥ = cc in impossible)
    by_place (Some place) e = found-in P entries place None local all (λ l e. absurd (let impossible : ⊥ = cc in impossible)) e
