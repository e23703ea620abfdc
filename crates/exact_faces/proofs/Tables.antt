-- Tables of instances, as more is found.
use Rattle.std.proofs.Common.{◌≡◌, ℕ, ◌<◌, ◌≤◌, ◌⊎◌, ⊎_elim, zero, suc, Bool, true, false, cond, List, [], ◌∷◌, ◌++◌, Option, Some, None, is_some, length, map, refl, ap, inl, inr, sym, subst, ◌∙◌, arith}
use Rattle.std.specs.Prelude.{nat_eq, option_map, slice_get}
use Rattle.std.specs.Str.{bytes_eq}
use Rattle.std.proofs.lemmas.Bool.{eqb-true}
use Rattle.std.proofs.lemmas.List.{append-nil, append_assoc, length-append}
use Rattle.list_laws.proofs.Lists.{pushed-cases}
use Rattle.list_laws.proofs.Texts.{same-text}
use Rattle.tla_model.specs.declared.ids.DeclId.{DeclId}
use Rattle.tla_model.specs.Entities.{Meaning, same_decl}
use Rattle.tla_model.specs.Same.{decl-equal, decl-itself}
use Rattle.tla_model.specs.Tables.{Table, added, lookup}
use Rattle.tla_model.proofs.Stretching.{found-first, found-next}
use Rattle.module_model.specs.Exports.{Exports, Instances, exports_of, standing}
use Rattle.module_model.specs.Parts.{ByText, InText, in_part, reached}
use Rattle.exact_faces.specs.Found.{HasMore, Tables, decl_of, of_text, told}
use Rattle.exact_faces.specs.Searching.{listed, missing, work}

-- ---- one more

found-added : (found : Tables) (decl : DeclId) (table : Table Meaning) (other : DeclId) (is : Table Meaning) → lookup same_decl (added same_decl found decl table) other ≡ Some is →
    (lookup same_decl found other ≡ Some is) ⊎ ((lookup same_decl found decl ≡ None) × (other ≡ decl) × (table ≡ is))
found-added found decl table other is at = by (lookup same_decl found decl) refl at
  where
    new : lookup same_decl found decl ≡ None → (before : Option (Table Meaning)) → lookup same_decl found other ≡ before → lookup same_decl (found ++ (decl, table) ∷ []) other ≡ Some is →
        (lookup same_decl found other ≡ Some is) ⊎ ((lookup same_decl found decl ≡ None) × (other ≡ decl) × (table ≡ is))
    new none (Some x) was there = inl (was ∙ sym (found-first same_decl found ((decl, table) ∷ []) other x was) ∙ there)
    new none None was there = last (same_decl other decl) refl (sym (found-next same_decl found ((decl, table) ∷ []) other was) ∙ there)
      where
        last : (b : Bool) → same_decl other decl ≡ b → cond b (Some table) None ≡ Some is → (lookup same_decl found other ≡ Some is) ⊎ ((lookup same_decl found decl ≡ None) × (other ≡ decl) × (table ≡ is))
        last true same first = inr (none, decl-equal other decl same, cc)
        last false apart first = cc

    by : (before : Option (Table Meaning)) → lookup same_decl found decl ≡ before → lookup same_decl (cond (is_some before) found (found ++ (decl, table) ∷ [])) other ≡ Some is →
        (lookup same_decl found other ≡ Some is) ⊎ ((lookup same_decl found decl ≡ None) × (other ≡ decl) × (table ≡ is))
    by (Some x) was there = inl there
    by None was there = new was (lookup same_decl found other) refl there

pub more-added : (found : Tables) (decl : DeclId) (table : Table Meaning) → HasMore (added same_decl found decl table) found
more-added found decl table = by (is_some (lookup same_decl found decl))
  where
    by : (b : Bool) → HasMore (cond b found (found ++ (decl, table) ∷ [])) found
    by true = record { more = []; is = sym (append-nil found) }
    by false = record { more = (decl, table) ∷ []; is = refl }

pub there-added : (found : Tables) (decl : DeclId) (table : Table Meaning) → is_some (told (added same_decl found decl table) decl) ≡ true
there-added found decl table = by (lookup same_decl found decl) refl
  where
    stands : (is : Option (Table Meaning)) → (x : Table Meaning) → is ≡ Some x → is_some (standing is) ≡ true
    stands is x e = ap (λ (o : Option (Table Meaning)). is_some (standing o)) e

    by : (before : Option (Table Meaning)) → lookup same_decl found decl ≡ before → is_some (standing (lookup same_decl (cond (is_some before) found (found ++ (decl, table) ∷ [])) decl)) ≡ true
    by (Some x) was = stands (lookup same_decl found decl) x was
    by None was =
        stands (lookup same_decl (found ++ (decl, table) ∷ []) decl) table
        (found-next same_decl found ((decl, table) ∷ []) decl was ∙ ap (λ (b : Bool). cond b (Some table) None) (decl-itself decl))

-- each entry stands under its declaration
abbrev pub AreEach : Tables → Type 0
AreEach found = (index : ℕ) (entry : DeclId × Table Meaning) → slice_get found index ≡ Some entry → lookup same_decl found entry.0 ≡ Some entry.1

pub each-added : (found : Tables) (decl : DeclId) (table : Table Meaning) → AreEach found → AreEach (added same_decl found decl table)
each-added found decl table each = by (lookup same_decl found decl) refl
  where
    by : (before : Option (Table Meaning)) → lookup same_decl found decl ≡ before → AreEach (cond (is_some before) found (found ++ (decl, table) ∷ []))
    by (Some x) was = each
    by None was = λ index entry at. ⊎_elim
        (λ (old : slice_get found index ≡ Some entry). found-first same_decl found ((decl, table) ∷ []) entry.0 entry.1 (each index entry old))
        (λ (new : (index ≡ length found) × ((decl, table) ≡ entry)).
        subst (λ (e : DeclId × Table Meaning). lookup same_decl (found ++ (decl, table) ∷ []) e.0 ≡ Some e.1) new.1
        (found-next same_decl found ((decl, table) ∷ []) decl was ∙ ap (λ (b : Bool). cond b (Some table) None) (decl-itself decl)))
        (pushed-cases found (decl, table) entry index at)

-- ---- what is told

-- a table tells what it exports
pub told-table : (is : Option (Table Meaning)) (entries : Exports) → standing is ≡ Some entries → (table : Table Meaning) × (is ≡ Some table) × (exports_of table ≡ entries)
told-table None entries told = cc
told-table (Some table) entries told = (table, refl, cc)

pub told-added : (found : Tables) (decl : DeclId) (table : Table Meaning) (other : DeclId) (entries : Exports) → told (added same_decl found decl table) other ≡ Some entries →
    (told found other ≡ Some entries) ⊎ ((other ≡ decl) × (exports_of table ≡ entries))
told-added found decl table other entries is =
    let there = told-table (lookup same_decl (added same_decl found decl table) other) entries is in
    ⊎_elim
    (λ (old : lookup same_decl found other ≡ Some there.0). inl (ap standing old ∙ ap Some there.2))
    (λ (new : (lookup same_decl found decl ≡ None) × (other ≡ decl) × (table ≡ there.0)). inr (new.1, ap exports_of new.2 ∙ there.2))
    (found-added found decl table other there.0 there.1)

-- what is told stays told
pub told-more : (new old : Tables) → HasMore new old → (decl : DeclId) (entries : Exports) → told old decl ≡ Some entries → told new decl ≡ Some entries
told-more new old more decl entries is =
    let there = told-table (lookup same_decl old decl) entries is in
    ap (λ (z : Tables). told z decl) more.is ∙ ap standing (found-first same_decl old more.more decl there.0 there.1) ∙ ap Some there.2

pub there-more : (new old : Tables) → HasMore new old → (decl : DeclId) → is_some (told old decl) ≡ true → is_some (told new decl) ≡ true
there-more new old more decl some = by (told old decl) refl some
  where
    by : (is : Option Exports) → told old decl ≡ is → is_some is ≡ true → is_some (told new decl) ≡ true
    by None is none = cc
    by (Some entries) is there = ap is_some (told-more new old more decl entries is)

pub more-more : (new mid old : Tables) → HasMore new mid → HasMore mid old → HasMore new old
more-more new mid old second first = record { more = first.more ++ second.more; is = second.is ∙ ap (λ z. z ++ second.more) first.is ∙ append_assoc old first.more second.more }

-- what stands at a place stays there
at-more : {A : Type 0} (a b : List A) (index : ℕ) (x : A) → index < length a → slice_get (a ++ b) index ≡ Some x → slice_get a index ≡ Some x
at-more [] b index x within at = absurd (omega arith)
at-more (y ∷ a) b zero x within at = at
at-more (y ∷ a) b (suc index) x within at = at-more a b index x (omega arith) at

pub at-grown : (new old : Tables) → HasMore new old → (index : ℕ) (entry : DeclId × Table Meaning) → index < length old → slice_get new index ≡ Some entry → slice_get old index ≡ Some entry
at-grown new old more index entry within at = at-more old more.more index entry within (ap (λ z. slice_get z index) (sym more.is) ∙ at)

-- what is found stands at a place
pub stands-at : (found : Tables) (decl : DeclId) (table : Table Meaning) → lookup same_decl found decl ≡ Some table → (index : ℕ) × (key : DeclId) × (slice_get found index ≡ Some (key, table))
stands-at [] decl table is = cc
stands-at (entry ∷ rest) decl table is = by (same_decl decl entry.0) is (stands-at rest decl table)
  where
    by : (b : Bool) → cond b (Some entry.1) (lookup same_decl rest decl) ≡ Some table → (lookup same_decl rest decl ≡ Some table → (index : ℕ) × (key : DeclId) × (slice_get rest index ≡ Some (key, table))) →
        (index : ℕ) × (key : DeclId) × (slice_get (entry ∷ rest) index ≡ Some (key, table))
    by true first later = let same : entry.1 ≡ table = cc in (zero, entry.0, ap (λ (t : Table Meaning). Some (entry.0, t)) same)
    by false first later = let there = later first in (suc there.0, there.1, there.2)

-- what is shown of the entry at a place
pub entry-at : (found : Option (DeclId × Table Meaning)) (table : Table Meaning) → option_map (λ (entry : DeclId × Table Meaning). entry.1) found ≡ Some table → (decl : DeclId) × (found ≡ Some (decl, table))
entry-at None table is = cc
entry-at (Some entry) table is = let same : entry.1 ≡ table = cc in (entry.0, ap (λ (t : Table Meaning). Some (entry.0, t)) same)

-- the table of an entry of a text is that of the entry
pub text-at : (title : List ℕ) (found : Option (DeclId × Table Meaning)) (table : Table Meaning) → Some table ≡ of_text title found → Some table ≡ option_map (λ (entry : DeclId × Table Meaning). entry.1) found
text-at title None table is = is
text-at title (Some entry) table is = by (bytes_eq entry.0.«module» title) is
  where
    by : (b : Bool) → Some table ≡ cond b (Some entry.1) None → Some table ≡ Some entry.1
    by true same = same
    by false none = cc

-- ---- the work that is left

IsListed : List DeclId → DeclId → Type 0
IsListed [] decl = ⊥
IsListed (first ∷ rest) decl = (first ≡ decl) ⊎ IsListed rest decl

listed-left : (a b : List DeclId) (decl : DeclId) → IsListed a decl → IsListed (a ++ b) decl
unfolding IsListed
listed-left [] b decl is = absurd is
listed-left (first ∷ a) b decl (inl same) = inl same
listed-left (first ∷ a) b decl (inr later) = inr (listed-left a b decl later)

listed-right : (a b : List DeclId) (decl : DeclId) → IsListed b decl → IsListed (a ++ b) decl
unfolding IsListed
listed-right [] b decl is = is
listed-right (first ∷ a) b decl is = inr (listed-right a b decl is)

listed-part : (title : List ℕ) (part : InText) (place : ℕ) (table : Table Meaning) → lookup nat_eq part place ≡ Some table → IsListed (map (λ (entry : ℕ × Table Meaning). decl_of title entry.0) part) (decl_of title place)
unfolding IsListed
listed-part title [] place table is = cc
listed-part title (entry ∷ part) place table is = by (nat_eq place entry.0) refl is (listed-part title part place table)
  where
    by : (b : Bool) → nat_eq place entry.0 ≡ b → cond b (Some entry.1) (lookup nat_eq part place) ≡ Some table → (lookup nat_eq part place ≡ Some table → IsListed (map (λ (e : ℕ × Table Meaning). decl_of title e.0) part) (decl_of title place)) → IsListed (map (λ (e : ℕ × Table Meaning). decl_of title e.0) (entry ∷ part)) (decl_of title place)
    by true same first later = inl (ap (decl_of title) (sym (eqb-true place entry.0 same)))
    by false apart first later = inr (later first)

listed-text : (parts : ByText) (title : List ℕ) (part : InText) (place : ℕ) (table : Table Meaning) → lookup bytes_eq parts title ≡ Some part → lookup nat_eq part place ≡ Some table → IsListed (listed parts) (decl_of title place)
listed-text [] title part place table at is = cc
listed-text (first ∷ parts) title part place table at is = by (bytes_eq title first.0) refl at (λ later. listed-text parts title part place table later is)
  where
    by : (b : Bool) → bytes_eq title first.0 ≡ b → cond b (Some first.1) (lookup bytes_eq parts title) ≡ Some part → (lookup bytes_eq parts title ≡ Some part → IsListed (listed parts) (decl_of title place)) → IsListed (listed (first ∷ parts)) (decl_of title place)
    by true same here later =
        let one : first.1 ≡ part = cc in
        listed-left (map (λ (entry : ℕ × Table Meaning). decl_of first.0 entry.0) first.1) (listed parts) (decl_of title place)
        (subst (λ name. IsListed (map (λ (entry : ℕ × Table Meaning). decl_of name entry.0) first.1) (decl_of title place)) (same-text title first.0 same)
        (listed-part title first.1 place table (ap (λ (p : InText). lookup nat_eq p place) one ∙ is)))
    by false apart here later =
        listed-right (map (λ (entry : ℕ × Table Meaning). decl_of first.0 entry.0) first.1) (listed parts) (decl_of title place) (later here)

listed-reached : (parts : ByText) (decl : DeclId) (table : Table Meaning) → reached parts decl ≡ Some table → IsListed (listed parts) decl
listed-reached parts decl table is = by (lookup bytes_eq parts decl.«module») refl is
  where
    by : (part : Option InText) → lookup bytes_eq parts decl.«module» ≡ part → in_part part decl.place ≡ Some table → IsListed (listed parts) decl
    by None at none = cc
    by (Some part) at here = listed-text parts decl.«module» part decl.place table at here

AreStill : Instances → Instances → Type 0
AreStill old new = (decl : DeclId) → is_some (old decl) ≡ true → is_some (new decl) ≡ true

abbrev one : Bool → ℕ
one b = cond b 0 1

abbrev count : Option Exports → ℕ
count found = one (is_some found)

fewer : (b c : Bool) → (b ≡ true → c ≡ true) → cond c 0 1 ≤ cond b 0 1
fewer true c still = let is = still refl in subst (λ (z : Bool). cond z 0 1 ≤ 0) (sym is) (omega arith)
fewer false true still = omega arith
fewer false false still = omega arith

missing-still : (decls : List DeclId) (old new : Instances) → AreStill old new → missing decls new ≤ missing decls old
unfolding AreStill
missing-still [] old new still = omega arith
missing-still (decl ∷ decls) old new still =
    let here : cond (is_some (new decl)) 0 1 ≤ cond (is_some (old decl)) 0 1 = fewer (is_some (old decl)) (is_some (new decl)) (still decl) in
    let rest = missing-still decls old new still in omega (arith, here, rest)

missing-less : (decls : List DeclId) (old new : Instances) (decl : DeclId) → AreStill old new → IsListed decls decl → is_some (old decl) ≡ false → is_some (new decl) ≡ true → missing decls new < missing decls old
unfolding AreStill IsListed
missing-less [] old new decl still is was now = absurd is
missing-less (first ∷ decls) old new decl still (inl same) was now =
    let gone : cond (is_some (old first)) 0 1 ≡ 1 = ap (λ (d : DeclId). count (old d)) same ∙ ap (λ (b : Bool). one b) was in
    let came : cond (is_some (new first)) 0 1 ≡ 0 = ap (λ (d : DeclId). count (new d)) same ∙ ap (λ (b : Bool). one b) now in
    let rest = missing-still decls old new still in omega (arith, gone, came, rest)
missing-less (first ∷ decls) old new decl still (inr later) was now =
    let here : cond (is_some (new first)) 0 1 ≤ cond (is_some (old first)) 0 1 = fewer (is_some (old first)) (is_some (new first)) (still first) in
    let rest = missing-less decls old new decl still later was now in omega (arith, here, rest)

pub work-added : (parts : ByText) (found : Tables) (decl : DeclId) (table : Table Meaning) → reached parts decl ≡ Some table → work parts (added same_decl found decl table) ≤ work parts found
unfolding AreStill
work-added parts found decl table is = by (lookup same_decl found decl) refl
  where
    more : lookup same_decl found decl ≡ None → missing (listed parts) (told (found ++ (decl, table) ∷ [])) < missing (listed parts) (told found)
    more was =
        missing-less (listed parts) (told found) (told (found ++ (decl, table) ∷ [])) decl
        (there-more (found ++ (decl, table) ∷ []) found (record { more = (decl, table) ∷ []; is = refl }))
        (listed-reached parts decl table is)
        (ap (λ (o : Option (Table Meaning)). is_some (standing o)) was)
        (ap (λ (o : Option (Table Meaning)). is_some (standing o)) (found-next same_decl found ((decl, table) ∷ []) decl was ∙ ap (λ (b : Bool). cond b (Some table) None) (decl-itself decl)))

    by : (before : Option (Table Meaning)) → lookup same_decl found decl ≡ before → work parts (cond (is_some before) found (found ++ (decl, table) ∷ [])) ≤ work parts found
    by (Some x) was = omega arith
    by None was = let less = more was in let long = length-append found ((decl, table) ∷ []) in omega (arith, less, long)
