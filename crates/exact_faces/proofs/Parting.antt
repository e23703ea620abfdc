-- Parts that are made of what is found.
use Rattle.std.proofs.Common.{◌≡◌, ℕ, ◌+◌, ◌≤◌, ◌⊎◌, ⊎_elim, Bool, true, false, cond, List, [], ◌∷◌, ◌++◌, Option, Some, None, is_some, length, take, refl, ap, inl, inr, sym, subst, ◌∙◌}
use Rattle.std.specs.Prelude.{nat_eq, option_map, slice_get}
use Rattle.std.specs.Option.{option_or}
use Rattle.std.specs.Str.{bytes_eq}
use Rattle.std.proofs.lemmas.Bool.{eqb-true}
use Rattle.std.proofs.lemmas.List.{take_all}
use Rattle.list_laws.proofs.Options.{some-there}
use Rattle.list_laws.proofs.Texts.{same-text}
use Rattle.tla_model.specs.declared.ids.DeclId.{DeclId}
use Rattle.tla_model.specs.Entities.{Meaning, same_decl}
use Rattle.tla_model.specs.Tables.{Table, added, lookup}
use Rattle.tla_model.proofs.Stretching.{take-at}
use Rattle.module_model.specs.Parts.{AreJoined, ByText, InText, in_part, reached}
use Rattle.module_model.proofs.PartTables.{added-united}
use Rattle.exact_faces.specs.Found.{Tables, decl_of}
use Rattle.exact_faces.specs.Kept.{AreKept, IsKeptPart, IsPlain, StandIn, kept, kept_of, where_some}

-- ---- one more of a list

some-same : {A : Type 0} (a b : A) → Some a ≡ Some b → a ≡ b
some-same a b e = cc

lookup-last : {K V : Type 0} (same : K → K → Bool) (a : List (K × V)) (k : K) (v : V) (key : K) → lookup same (a ++ (k, v) ∷ []) key ≡ option_or (lookup same a key) (cond (same key k) (Some v) None)
lookup-last same [] k v key = refl
lookup-last {V = V} same (entry ∷ a) k v key = by (same key entry.0) (lookup-last same a k v key)
  where
    by : (b : Bool) → lookup same (a ++ (k, v) ∷ []) key ≡ option_or (lookup same a key) (cond (same key k) (Some v) None) →
        cond b (Some entry.1) (lookup same (a ++ (k, v) ∷ []) key) ≡ option_or (cond b (Some entry.1) (lookup same a key)) (cond (same key k) (Some v) None)
    by true rest = refl
    by false rest = rest

lookup-next : {K V : Type 0} (same : K → K → Bool) (xs : List (K × V)) (i : ℕ) (k : K) (v : V) (key : K) → slice_get xs i ≡ Some (k, v) → lookup same (take (i + 1) xs) key ≡ option_or (lookup same (take i xs) key) (cond (same key k) (Some v) None)
lookup-next same xs i k v key at = ap (λ z. lookup same z key) (take-at xs i (k, v) at) ∙ lookup-last same (take i xs) k v key

-- what is found among one more is found among those before it, or is that one
found-next : {K V : Type 0} (same : K → K → Bool) (xs : List (K × V)) (i : ℕ) (k : K) (v : V) (key : K) (found : V) → slice_get xs i ≡ Some (k, v) → lookup same (take (i + 1) xs) key ≡ Some found →
    (lookup same (take i xs) key ≡ Some found) ⊎ ((same key k ≡ true) × (v ≡ found))
found-next {V = V} same xs i k v key found at is = by (lookup same (take i xs) key) refl (same key k) refl (sym (lookup-next same xs i k v key at) ∙ is)
  where
    by : (before : Option V) → lookup same (take i xs) key ≡ before → (b : Bool) → same key k ≡ b → option_or before (cond b (Some v) None) ≡ Some found →
        (lookup same (take i xs) key ≡ Some found) ⊎ ((same key k ≡ true) × (v ≡ found))
    by (Some x) was b one first = inl (was ∙ first)
    by None was true one first = inr (one, some-same v found first)
    by None was false one first = cc

-- ---- the instances of a text

pub put-some : (found : Tables) (title : List ℕ) (place : ℕ) (part new : InText) (table is : Table Meaning) → Some table ≡ lookup same_decl found (decl_of title place) → is ≡ kept table → new ≡ added nat_eq part place is → (other : ℕ) →
    lookup nat_eq new other ≡ option_or (lookup nat_eq part other) (cond (nat_eq other place) (kept_of found (decl_of title place)) None)
put-some found title place part new table is there of put other =
    ap (λ z. lookup nat_eq z other) put ∙ added-united part place is other
    ∙ ap (λ (z : Option (Table Meaning)). option_or (lookup nat_eq part other) (cond (nat_eq other place) z None)) (ap Some of ∙ ap (option_map kept) there)

where-last : {A B : Type 0} (first : Option A) (b : Bool) (one : A) (here there : Option B) → (b ≡ true → here ≡ there) → option_or (where_some first there) (cond b here None) ≡ where_some (option_or first (cond b (Some one) None)) there
where-last (Some x) true one here None same = same refl
where-last (Some x) true one here (Some y) same = refl
where-last (Some x) false one here None same = refl
where-last (Some x) false one here (Some y) same = refl
where-last None true one here there same = same refl
where-last None false one here there same = refl

pub part-next : (found : Tables) (title : List ℕ) (part now new : InText) (i place : ℕ) (table : Table Meaning) → slice_get part i ≡ Some (place, table) →
    ((other : ℕ) → lookup nat_eq new other ≡ option_or (lookup nat_eq now other) (cond (nat_eq other place) (kept_of found (decl_of title place)) None)) →
    IsKeptPart found title (take i part) now → IsKeptPart found title (take (i + 1) part) new
part-next found title part now new i place table at put before other =
    let there = kept_of found (decl_of title other) in
    let here = kept_of found (decl_of title place) in
    put other
    ∙ ap (λ (z : Option (Table Meaning)). option_or z (cond (nat_eq other place) here None)) (before other)
    ∙ where-last (lookup nat_eq (take i part) other) (nat_eq other place) table here there (λ same. ap (λ (p : ℕ). kept_of found (decl_of title p)) (sym (eqb-true other place same)))
    ∙ ap (λ (z : Option (Table Meaning)). where_some z there) (sym (lookup-next nat_eq part i place table other at))

-- ---- the instances of parts

-- of the first so many parts all instances are there that are found, and none that are not
pub record IsPut (found : Tables) (first now : ByText) : Type 0 where
  pub only : (decl : DeclId) (table : Table Meaning) → reached now decl ≡ Some table → kept_of found decl ≡ Some table
  pub all : (title : List ℕ) (part : InText) → lookup bytes_eq first title ≡ Some part → (place : ℕ) (table : Table Meaning) → is_some (lookup nat_eq part place) ≡ true → kept_of found (decl_of title place) ≡ Some table → reached now (decl_of title place) ≡ Some table

where-found : {A B : Type 0} (first : Option A) (second : Option B) (is : B) → where_some first second ≡ Some is → second ≡ Some is
where-found None second is there = cc
where-found (Some x) second is there = there

where-there : {A B : Type 0} (first : Option A) (second : Option B) → is_some first ≡ true → where_some first second ≡ second
where-there None second some = cc
where-there (Some x) second some = refl

module _ (found : Tables) (parts now new : ByText) (i : ℕ) (title : List ℕ) (part made : InText) (at : slice_get parts i ≡ Some (title, part)) (kept_part : IsKeptPart found title part made) (joined : AreJoined new now ((title, made) ∷ [])) (before : IsPut found (take i parts) now) where
  -- an instance that is added is one that is found
  last-only : (decl : DeclId) (table : Table Meaning) → reached ((title, made) ∷ []) decl ≡ Some table → kept_of found decl ≡ Some table
  last-only decl table is = by (bytes_eq decl.«module» title) refl is
    where
      by : (b : Bool) → bytes_eq decl.«module» title ≡ b → in_part (cond b (Some made) None) decl.place ≡ Some table → kept_of found decl ≡ Some table
      by true same here =
          let one : kept_of found (decl_of title decl.place) ≡ Some table =
          where-found (in_part (Some part) decl.place) (kept_of found (decl_of title decl.place)) table (sym (kept_part decl.place) ∙ here) in
          ap (λ name. kept_of found (decl_of name decl.place)) (same-text decl.«module» title same) ∙ one
      by false apart here = cc

  next-only : (decl : DeclId) (table : Table Meaning) → reached new decl ≡ Some table → kept_of found decl ≡ Some table
  next-only decl table is = by (reached now decl) refl (sym (joined decl) ∙ is)
    where
      by : (old : Option (Table Meaning)) → reached now decl ≡ old → option_or old (reached ((title, made) ∷ []) decl) ≡ Some table → kept_of found decl ≡ Some table
      by (Some x) was first = before.only decl table (was ∙ first)
      by None was last = last-only decl table last

  next-all : (other : List ℕ) (one : InText) → lookup bytes_eq (take (i + 1) parts) other ≡ Some one → (place : ℕ) (table : Table Meaning) → is_some (lookup nat_eq one place) ≡ true → kept_of found (decl_of other place) ≡ Some table → reached new (decl_of other place) ≡ Some table
  next-all other one is place table there keeps = ⊎_elim
      (λ (old : lookup bytes_eq (take i parts) other ≡ Some one).
      joined (decl_of other place) ∙ ap (λ (z : Option (Table Meaning)). option_or z (reached ((title, made) ∷ []) (decl_of other place))) (before.all other one old place table there keeps))
      (λ (last : (bytes_eq other title ≡ true) × (part ≡ one)).
      joined (decl_of other place)
      ∙ either (reached now (decl_of other place)) refl
      (ap (λ (b : Bool). in_part (cond b (Some made) None) place) last.0
      ∙ kept_part place
      ∙ where-there (in_part (Some part) place) (kept_of found (decl_of title place)) (ap (λ (p : InText). is_some (lookup nat_eq p place)) last.1 ∙ there)
      ∙ ap (λ name. kept_of found (decl_of name place)) (sym (same-text other title last.0))
      ∙ keeps))
      (found-next bytes_eq parts i title part other one at is)
    where
      either : (old : Option (Table Meaning)) → reached now (decl_of other place) ≡ old → reached ((title, made) ∷ []) (decl_of other place) ≡ Some table → option_or old (reached ((title, made) ∷ []) (decl_of other place)) ≡ Some table
      either None was last = last
      either (Some x) was last = sym (before.only (decl_of other place) x was) ∙ keeps

  pub put-next : IsPut found (take (i + 1) parts) new
  put-next = record { only = next-only; all = next-all }

-- where an instance of parts stands
record IsIn (parts : ByText) (decl : DeclId) (table : Table Meaning) : Type 0 where
  part : InText
  text : lookup bytes_eq parts decl.«module» ≡ Some part
  stands : lookup nat_eq part decl.place ≡ Some table

in-parts : (parts : ByText) (decl : DeclId) (table : Table Meaning) → reached parts decl ≡ Some table → IsIn parts decl table
in-parts parts decl table is = by (lookup bytes_eq parts decl.«module») refl is
  where
    by : (text : Option InText) → lookup bytes_eq parts decl.«module» ≡ text → in_part text decl.place ≡ Some table → IsIn parts decl table
    by None at here = cc
    by (Some part) at here = record { part = part; text = at; stands = here }

pub put-all : (found : Tables) (parts new : ByText) (i : ℕ) → length parts ≤ i → StandIn found parts → IsPut found (take i parts) new → AreKept found new
put-all found parts new i end stand put decl = by (lookup same_decl found decl) refl
  where
    all : IsPut found parts new
    all = subst (λ z. IsPut found z new) (take_all i parts end) put

    by : (is : Option (Table Meaning)) → lookup same_decl found decl ≡ is → reached new decl ≡ kept_of found decl
    by (Some table) is =
        let stands = in-parts parts decl table (stand decl table is) in
        let keeps : kept_of found decl ≡ Some (kept table) = ap (option_map kept) is in
        all.all decl.«module» stands.part stands.text decl.place (kept table) (ap is_some stands.stands) keeps ∙ sym keeps
    by None is = nothing (reached new decl) refl
      where
        nothing : (there : Option (Table Meaning)) → reached new decl ≡ there → reached new decl ≡ kept_of found decl
        nothing None was = was ∙ sym (ap (option_map kept) is)
        nothing (Some table) was = was ∙ sym (all.only decl table was)

-- ---- parts of which all is kept

abbrev pub ArePlain : Tables → List ℕ → InText → Type 0
ArePlain found title part = (place : ℕ) → is_some (lookup nat_eq part place) ≡ true → IsPlain found (decl_of title place)

-- what holds at each place of the first so many holds at one more, if it holds there
pub places-next : (P : DeclId → Type 0) (title : List ℕ) (part : InText) (i place : ℕ) (table : Table Meaning) → slice_get part i ≡ Some (place, table) → P (decl_of title place) →
    ((other : ℕ) → is_some (lookup nat_eq (take i part) other) ≡ true → P (decl_of title other)) → (other : ℕ) → is_some (lookup nat_eq (take (i + 1) part) other) ≡ true → P (decl_of title other)
places-next P title part i place table at here before other some =
    let there = some-there (lookup nat_eq (take (i + 1) part) other) some in
    ⊎_elim
    (λ (old : lookup nat_eq (take i part) other ≡ Some there.0). before other (ap is_some old))
    (λ (last : (nat_eq other place ≡ true) × (table ≡ there.0)). subst (λ (p : ℕ). P (decl_of title p)) (sym (eqb-true other place last.0)) here)
    (found-next nat_eq part i place table other there.0 at there.1)

pub plain-next : (found : Tables) (title : List ℕ) (part : InText) (i place : ℕ) (table : Table Meaning) → slice_get part i ≡ Some (place, table) → IsPlain found (decl_of title place) → ArePlain found title (take i part) → ArePlain found title (take (i + 1) part)
plain-next found title part i place table at plain before = places-next (IsPlain found) title part i place table at plain before

-- the instances of a text are found
abbrev pub AreThere : Tables → List ℕ → InText → Type 0
AreThere found title part = (place : ℕ) → is_some (lookup nat_eq part place) ≡ true → is_some (lookup same_decl found (decl_of title place)) ≡ true

pub there-next : (found : Tables) (title : List ℕ) (part : InText) (i place : ℕ) (table : Table Meaning) → slice_get part i ≡ Some (place, table) → is_some (lookup same_decl found (decl_of title place)) ≡ true → AreThere found title (take i part) → AreThere found title (take (i + 1) part)
there-next found title part i place table at is before = places-next (λ decl. is_some (lookup same_decl found decl) ≡ true) title part i place table at is before

abbrev pub AreAllPlain : Tables → ByText → Type 0
AreAllPlain found parts = (title : List ℕ) (part : InText) → lookup bytes_eq parts title ≡ Some part → ArePlain found title part

pub texts-next : (found : Tables) (parts : ByText) (i : ℕ) (title : List ℕ) (part : InText) → slice_get parts i ≡ Some (title, part) → ArePlain found title part → AreAllPlain found (take i parts) → AreAllPlain found (take (i + 1) parts)
texts-next found parts i title part at plain before other one is = ⊎_elim
    (λ (old : lookup bytes_eq (take i parts) other ≡ Some one). before other one old)
    (λ (last : (bytes_eq other title ≡ true) × (part ≡ one)). subst (λ p. ArePlain found other p) last.1 (subst (λ name. ArePlain found name part) (sym (same-text other title last.0)) plain))
    (found-next bytes_eq parts i title part other one at is)

pub texts-all : (found : Tables) (parts : ByText) (i : ℕ) → length parts ≤ i → AreAllPlain found (take i parts) → (decl : DeclId) → is_some (reached parts decl) ≡ true → IsPlain found decl
texts-all found parts i end before decl some =
    let there = some-there (reached parts decl) some in
    let stands = in-parts parts decl there.0 there.1 in
    let all : AreAllPlain found parts = subst (λ z. AreAllPlain found z) (take_all i parts end) before in
    all decl.«module» stands.part stands.text decl.place (ap is_some stands.stands)
