-- Instances that are looked up one by one.
use Rattle.std.proofs.Common.{◌≡◌, ℕ, zero, suc, ◌+◌, Bool, true, false, List, [], ◌∷◌}
use Rattle.std.proofs.Common.{Option, Some, None, drop, length, refl, ap, sym, subst, ◌∙◌}
use Rattle.std.proofs.Common.{true≢false, eq-eqb}
use Rattle.std.specs.Prelude.{is_some, nat_eq, slice_get}
use Rattle.std.specs.Borrow.{Bor}
use Rattle.std.specs.Str.{bytes_eq}
use Rattle.std.specs.declared.sync.Arc.{Arc}
use Rattle.std.proofs.lemmas.Bool.{cond-false, cond-true, ne_eqb}
use Rattle.list_laws.proofs.Lists.{drop-at}
use Rattle.tla_model.specs.declared.ids.DeclId.{DeclId}
use Rattle.tla_model.specs.Entities.{Meaning}
use Rattle.tla_model.specs.Tables.{Table, lookup}
use Rattle.module_model.specs.Exports.{standing}
use Rattle.module_model.specs.Parts.{ByText, InText, in_part, reached, table_shown}
use Rattle.face_views.specs.Exact.{Tells}
use Rattle.face_views.specs.Found.{AllAreFound, AllAreWithin, AreFound, AreSame, AreWithin}
use Rattle.face_views.specs.Found.{IsWithin}
use Rattle.face_views.proofs.Exactly.{tells-as, tells-false}
use Rattle.face_views.proofs.Exporting.{standing-told}

-- ---- among entries

-- this holds of the keys that no entry has from a place on
abbrev pub HoldsBefore : {K V : Type 0} → (K → K → Bool) → (K → Type 0) → ℕ → List (K × V) → Type 0
HoldsBefore {K = K} same P i entries = (key : K) → lookup same (drop i entries) key ≡ None → P key

-- what stands under a key stands behind an entry of another one
passed : {K V : Type 0} (same : K → K → Bool) (entries : List (K × V)) (i : ℕ) (asked key : K)
    (value : V) → slice_get entries i ≡ Some (key, value) → same asked key ≡ false →
    lookup same (drop i entries) asked ≡ lookup same (drop (i + 1) entries) asked
passed {K = K} {V = V} same entries i asked key value at apart =
    ap (λ (z : List (K × V)). lookup same z asked) (drop-at entries i (key, value) at)
    ∙ cond-false (same asked key) (Some value) (lookup same (drop (i + 1) entries) asked) apart

pub holds-next : {K V : Type 0} (same : K → K → Bool) (equal : (a b : K) → same a b ≡ true → a ≡ b)
    (P : K → Type 0) (i : ℕ) (entries : List (K × V)) (key : K) (value : V) →
    slice_get entries i ≡ Some (key, value) → P key → HoldsBefore same P i entries →
    HoldsBefore same P (i + 1) entries
holds-next same equal P i entries key value at holds before asked none = by (same asked key) refl
  where
    by : (b : Bool) → same asked key ≡ b → P asked
    by true is = subst P (sym (equal asked key is)) holds
    by false apart = before asked (passed same entries i asked key value at apart ∙ none)

-- something stands under the number of each entry
pub there-at : {V : Type 0} (entries : List (ℕ × V)) (i key : ℕ) (value : V) →
    slice_get entries i ≡ Some (key, value) → ¬ (lookup nat_eq entries key ≡ None)
there-at [] zero key value at none = cc
there-at [] (suc i) key value at none = cc
there-at {V = V} (entry ∷ rest) i key value at none =
    by (nat_eq key entry.0) refl i at (λ j there. there-at rest j key value there)
  where
    by : (b : Bool) → nat_eq key entry.0 ≡ b → (j : ℕ) →
        slice_get (entry ∷ rest) j ≡ Some (key, value) →
        ((k : ℕ) → slice_get rest k ≡ Some (key, value) → ¬ (lookup nat_eq rest key ≡ None)) → ⊥
    by true same j there later =
        let first = cond-true (nat_eq key entry.0) (Some entry.1) (lookup nat_eq rest key) same in
        let missed : Some entry.1 ≡ None = sym first ∙ none in cc
    by false apart zero there later =
        let own : key ≡ entry.0 = cc in true≢false (sym (eq-eqb key entry.0 own) ∙ apart)
    by false apart (suc j) there later =
        let next = cond-false (nat_eq key entry.0) (Some entry.1) (lookup nat_eq rest key) apart in
        later j there (sym next ∙ none)

-- ---- in a part

-- what is shown of a table is there if the table is
shown-there : {Z : Type 0} (found : Option (Bor (Arc (Table Meaning) Z)))
    (is : Option (Table Meaning)) → table_shown found ≡ is → is_some found ≡ true →
    is_some is ≡ true
shown-there None is shows some = absurd (true≢false (sym some))
shown-there (Some table) is shows some = ap is_some (sym shows)

-- and is not there if the table is not
pub shown-none : {Z : Type 0} (found : Option (Bor (Arc (Table Meaning) Z)))
    (is : Option (Table Meaning)) → table_shown found ≡ is → is_some found ≡ false → is ≡ None
shown-none None is shows none = sym shows
shown-none (Some table) is shows none = absurd (true≢false none)

-- at a place where the other has an instance is none too many
pub within-shown : {Z : Type 0} (found : Option (Bor (Arc (Table Meaning) Z)))
    (part other : Option InText) (place : ℕ) → table_shown found ≡ in_part other place →
    is_some found ≡ true → IsWithin part other place
within-shown found part other place shows some none =
    let there : is_some (in_part other place) ≡ true =
    shown-there found (in_part other place) shows some in
    absurd (true≢false (sym there ∙ ap is_some none))

-- an entry whose instance is not in the other is one too many
pub one-too-many : (i : ℕ) (part : InText) (place : ℕ) (table : Table Meaning)
    (other : Option InText) → slice_get part i ≡ Some (place, table) → in_part other place ≡ None →
    ¬ AreWithin (Some part) other
one-too-many i part place table other at none within =
    there-at part i place table at (within place none)

-- a part is found among none exactly where it is empty, and has no instance too many then
pub empty-found : (part : InText) → Tells (nat_eq (length part) 0) (AreFound (Some part) None)
empty-found [] = λ place table is. is
empty-found (entry ∷ rest) =
    tells-false (nat_eq (length (entry ∷ rest)) 0) (AreFound (Some (entry ∷ rest)) None)
    (ne_eqb (length (entry ∷ rest)) 0 (λ e. cc))
    (λ all.
    let itself = eq-eqb entry.0 entry.0 refl in
    let next = lookup nat_eq rest entry.0 in
    let first = cond-true (nat_eq entry.0 entry.0) (Some entry.1) next itself in
    let missed : None ≡ Some entry.1 = all entry.0 entry.1 first in cc)

pub empty-within : (part : InText) → Tells (nat_eq (length part) 0) (AreWithin (Some part) None)
empty-within [] = λ place none. none
empty-within (entry ∷ rest) =
    tells-false (nat_eq (length (entry ∷ rest)) 0) (AreWithin (Some (entry ∷ rest)) None)
    (ne_eqb (length (entry ∷ rest)) 0 (λ e. cc))
    (one-too-many 0 (entry ∷ rest) entry.0 entry.1 None refl refl)

-- ---- in parts

-- where those of one text are not found, not all are
pub not-all-found : (parts others : ByText) (title : List ℕ) →
    ¬ AreFound (lookup bytes_eq parts title) (lookup bytes_eq others title) →
    ¬ AllAreFound parts others
not-all-found parts others title missed all =
    missed (λ place. all (record { «module» = title; place = place }))

-- where one text has an instance too many, the parts have
pub not-all-within : (parts others : ByText) (title : List ℕ) →
    ¬ AreWithin (lookup bytes_eq parts title) (lookup bytes_eq others title) →
    ¬ AllAreWithin parts others
not-all-within parts others title over all =
    over (λ place. all (record { «module» = title; place = place }))

-- ---- both ways

-- what is found, and nothing too many, is the same
same-instances : (one other : ByText) → AllAreFound one other → AllAreWithin other one →
    AreSame one other
same-instances one other found within decl = by (reached one decl) refl
  where
    by : (exports : Option (Table Meaning)) → reached one decl ≡ exports →
        standing (reached one decl) ≡ standing (reached other decl)
    by None is = ap standing (is ∙ sym (within decl is))
    by (Some table) is = ap standing (is ∙ sym (found decl table is))

-- what is the same is reached alike
reached-alike : (one other : ByText) → AreSame one other → (decl : DeclId) →
    reached one decl ≡ reached other decl
reached-alike one other same decl =
    standing-told (reached one decl) (reached other decl) (same decl)

pub same-found : (one other : ByText) → AreSame one other → AllAreFound one other
same-found one other same decl table is = sym (reached-alike one other same decl) ∙ is

same-within : (one other : ByText) → AreSame one other → AllAreWithin other one
same-within one other same decl none = sym (reached-alike one other same decl) ∙ none

-- where all are found, instances are the same exactly where there is none too many
pub told-by-within : (answer : Bool) (one other : ByText) → AllAreFound one other →
    Tells answer (AllAreWithin other one) → Tells answer (AreSame one other)
told-by-within answer one other found =
    tells-as answer (AllAreWithin other one) (AreSame one other)
    (same-instances one other found) (same-within one other)

-- ---- the first part of a text

abbrev pub IsFirstFrom : ℕ → ByText → List ℕ → Type 0
IsFirstFrom i parts title = lookup bytes_eq (drop i parts) title ≡ lookup bytes_eq parts title

pub first-here : (i : ℕ) (parts : ByText) (title name : List ℕ) (part : InText) →
    slice_get parts i ≡ Some (name, part) → bytes_eq title name ≡ true →
    IsFirstFrom i parts title → Some part ≡ lookup bytes_eq parts title
first-here i parts title name part at same first =
    let rest : Option InText = lookup bytes_eq (drop (i + 1) parts) title in
    sym (cond-true (bytes_eq title name) (Some part) rest same)
    ∙ ap (λ (z : ByText). lookup bytes_eq z title) (sym (drop-at parts i (name, part) at)) ∙ first

pub first-later : (i : ℕ) (parts : ByText) (title name : List ℕ) (part : InText) →
    slice_get parts i ≡ Some (name, part) → bytes_eq title name ≡ false →
    IsFirstFrom i parts title → IsFirstFrom (i + 1) parts title
first-later i parts title name part at apart first =
    sym (passed bytes_eq parts i title name part at apart) ∙ first
