-- Rows of indices, from names that are needed.
use Rattle.std.proofs.Common.{◌≡◌, ◌≢◌, ℕ, zero, suc, ◌+◌, ◌<◌, Bool, true, false, List, [], ◌∷◌, ◌++◌, Option, Some, refl, sym, ap, ◌∙◌, subst, inl, inr, take, length, get_or, arith, nat_eq, cond}
use Rattle.std.specs.Prelude.{not, ◌||◌, ◌&&◌, slice_get, slice_index, unwrap_or}
use Rattle.std.specs.List.{list_any}
use Rattle.std.proofs.lemmas.Bool.{and_from, eq-eqb, eqb-true, or_left, or_right}
use Rattle.std.proofs.lemmas.List.{take_more, length-append}
use Rattle.std.proofs.lemmas.List.Folds.{list_any-append}
use Rattle.std.proofs.lemmas.List.Elements.{All-push}
use Rattle.std.proofs.lemmas.Option.{slice_get_within, get_or_from_slice_get}
use Rattle.std.specs.Cmp.{both_ways}
use Rattle.list_laws.proofs.Lists.{pushed-cases}
use Rattle.list_laws.proofs.Tests.{and-left, and-right, or-false}
use Rattle.list_laws.proofs.Lists.{item-at}
use Rattle.fact_store.specs.declared.slot.Slot.{Slot}
use Rattle.fact_values.specs.Names.{name_eq, has}
use Rattle.fact_store.specs.Slots.{AreDistinct, HasNoSlot, IsIndexOf}
use Rattle.index_graph.specs.Indices.{Has, Edges, HasIndices}
use Rattle.fact_store.specs.Plans.{among, row_with, IsRow, AreEdges, IsGround, AreGrounds}
use Rattle.fact_values.proofs.NameLemmas.{true_or_false, same_name, name_eq-same, or_cases}
use Rattle.fact_store.proofs.Marks.{among-push}

has-push : (names : List (List ℕ)) (n x : List ℕ) → has (names ++ n ∷ []) x ≡ (has names x || name_eq x n)
has-push names n x = list_any-append (name_eq x) names (n ∷ []) ∙ ap (λ b. has names x || b) (or-false (name_eq x n))

-- what stands in a row is among it
pub among-at : (row : List ℕ) (i x : ℕ) → slice_get row i ≡ Some x → among row x ≡ true
among-at [] i x e = cc
among-at (y ∷ row) zero x e = let s : y ≡ x = cc in or_left (nat_eq x y) (among row x) (eq-eqb x y (sym s))
among-at (y ∷ row) (suc i) x e = or_right (nat_eq x y) (among row x) (among-at row i x e)

pub among-has : (row : List ℕ) (x : ℕ) → among row x ≡ true → Has row x
among-has [] x m = cc
among-has (y ∷ row) x m = elim (or_cases (nat_eq x y) (among row x) m) as (λ _. Has (y ∷ row) x) [ inl same ↦ (0, ap Some (sym (eqb-true x y same))) | inr later ↦ let h = among-has row x later in (suc h.0, h.1) ]

-- what stands in a row once still does behind one that is not there
once-push : (row : List ℕ) (index : ℕ) → ((i j x : ℕ) → slice_get row i ≡ Some x → slice_get row j ≡ Some x → i ≡ j) → among row index ≡ false → (i j x : ℕ) → slice_get (row ++ index ∷ []) i ≡ Some x → slice_get (row ++ index ∷ []) j ≡ Some x → i ≡ j
once-push row index once new i j x p q = elim (pushed-cases row index x i p) as (λ _. i ≡ j) [
  | inl ip ↦ elim (pushed-cases row index x j q) as (λ _. i ≡ j) [
    | inl jq ↦ once i j x ip jq
    | inr jl ↦ let k : true ≡ false = sym (among-at row i x ip) ∙ ap (among row) (sym jl.1) ∙ new in cc k
  ]
  | inr il ↦ elim (pushed-cases row index x j q) as (λ _. i ≡ j) [
    | inl jq ↦ let k : true ≡ false = sym (among-at row j x jq) ∙ ap (among row) (sym il.1) ∙ new in cc k
    | inr jl ↦ il.0 ∙ sym jl.0
  ]
]

pub row_with-there : (row : List ℕ) (index : ℕ) → among row index ≡ true → row ≡ row_with row index
row_with-there row index e = sym (ap (λ b. cond b row (row ++ index ∷ [])) e)

pub row_with-new : (row : List ℕ) (index : ℕ) → among row index ≡ false → row ++ index ∷ [] ≡ row_with row index
row_with-new row index e = sym (ap (λ b. cond b row (row ++ index ∷ [])) e)

-- the test of each item against an index is that of the index against each
pub among-turned : (row : List ℕ) (index : ℕ) → list_any (λ other. nat_eq other index) row ≡ among row index
among-turned [] index = refl
among-turned (x ∷ row) index = λ j. both_ways (nat_eq x index) (nat_eq index x) (λ m. eq-eqb index x (sym (eqb-true x index m))) (λ m. eq-eqb x index (sym (eqb-true index x m))) j || among-turned row index j

-- a test that follows from another adds nothing to it
or_known : (a b : Bool) → (b ≡ true → a ≡ true) → a ≡ (a || b)
or_known true b f = refl
or_known false true f = f refl
or_known false false f = refl

module _ {Own F : Type 0} where
  pub IsRow-start : (slots : List (Slot Own F)) → IsRow slots [] []
  IsRow-start slots = record { each = λ j slot e. refl; within = λ k d l. absurd (omega arith); once = λ i j x p q. cc p }

  pub IsRow-skip : (slots : List (Slot Own F)) (names : List (List ℕ)) (row : List ℕ) (n : List ℕ) → IsRow slots names row → HasNoSlot slots n → IsRow slots (names ++ n ∷ []) row
  IsRow-skip slots names row n r h = record {
    each = λ j slot e. r.each j slot e ∙ sym (has-push names n slot.name ∙ ap (λ b. has names slot.name || b) (other j slot e) ∙ or-false (has names slot.name));
    within = r.within;
    once = r.once;
  }
    where
      other : (j : ℕ) (slot : Slot Own F) → slice_get slots j ≡ Some slot → name_eq slot.name n ≡ false
      other j slot e = elim (true_or_false (name_eq slot.name n)) as (λ _. name_eq slot.name n ≡ false) [
        | inl same ↦ let k : true ≡ false = sym (name_eq-same n slot.name (sym (same_name slot.name n same))) ∙ h j slot e in cc k
        | inr fails ↦ fails
      ]

  -- an index stands for a name exactly where its slot has it
  here : (slots : List (Slot Own F)) (n : List ℕ) (index : ℕ) → AreDistinct slots → IsIndexOf slots n index → (j : ℕ) (slot : Slot Own F) → slice_get slots j ≡ Some slot → nat_eq j index ≡ name_eq slot.name n
  here slots n index d p j slot e = both_ways (nat_eq j index) (name_eq slot.name n)
      (λ m. let k : ◌≡◌ {A = Option (Slot Own F)} (Some slot) (Some p.0) = sym e ∙ ap (slice_get slots) (eqb-true j index m) ∙ p.1 in let s : slot ≡ p.0 = cc in name_eq-same slot.name n (ap (λ (x : Slot Own F). x.name) s ∙ p.2))
      (λ m. eq-eqb j index (d j index slot p.0 e p.1 (same_name slot.name n m ∙ sym p.2)))

  IsRow-more : (slots : List (Slot Own F)) (names : List (List ℕ)) (row : List ℕ) (n : List ℕ) (index : ℕ) → AreDistinct slots → IsRow slots names row → IsIndexOf slots n index → among row index ≡ false → IsRow slots (names ++ n ∷ []) (row ++ index ∷ [])
  IsRow-more slots names row n index d r p new = record {
    each = λ j slot e. among-push row index j ∙ ap (λ b. b || nat_eq j index) (r.each j slot e) ∙ ap (λ b. has names slot.name || b) (here slots n index d p j slot e) ∙ sym (has-push names n slot.name);
    within = All-push (λ x. x < length slots) row index r.within (slice_get_within slots index p.0 p.1);
    once = once-push row index r.once new;
  }

  -- a name whose index stands there already
  IsRow-again : (slots : List (Slot Own F)) (names : List (List ℕ)) (row : List ℕ) (n : List ℕ) (index : ℕ) → AreDistinct slots → IsRow slots names row → IsIndexOf slots n index → among row index ≡ true → IsRow slots (names ++ n ∷ []) row
  IsRow-again slots names row n index d r p there = record {
    each = λ j slot e. r.each j slot e ∙ or_known (has names slot.name) (name_eq slot.name n) (λ m. sym (r.each j slot e) ∙ ap (among row) (eqb-true j index (here slots n index d p j slot e ∙ m)) ∙ there) ∙ sym (has-push names n slot.name);
    within = r.within;
    once = r.once;
  }

  IsRow-with : (slots : List (Slot Own F)) (names : List (List ℕ)) (row : List ℕ) (n : List ℕ) (index : ℕ) → AreDistinct slots → IsRow slots names row → IsIndexOf slots n index → IsRow slots (names ++ n ∷ []) (row_with row index)
  IsRow-with slots names row n index d r p = elim (true_or_false (among row index)) as (λ _. IsRow slots (names ++ n ∷ []) (row_with row index)) [
    | inl there ↦ subst (λ (xs : List ℕ). IsRow slots (names ++ n ∷ []) xs) (row_with-there row index there) (IsRow-again slots names row n index d r p there)
    | inr new ↦ subst (λ (xs : List ℕ). IsRow slots (names ++ n ∷ []) xs) (row_with-new row index new) (IsRow-more slots names row n index d r p new)
  ]

  -- the next name of a list
  pub IsRow-skip_at : (slots : List (Slot Own F)) (names : List (List ℕ)) (k : ℕ) (row row' : List ℕ) (n : List ℕ) → k < length names → n ≡ get_or names k n → IsRow slots (take k names) row → HasNoSlot slots n → row' ≡ row → IsRow slots (take (k + 1) names) row'
  IsRow-skip_at slots names k row row' n l e r h er =
      subst (λ (xs : List (List ℕ)). IsRow slots xs row') (ap (λ x. take k names ++ x ∷ []) e ∙ sym (take_more names k n l))
      (subst (λ (xs : List ℕ). IsRow slots (take k names ++ n ∷ []) xs) (sym er) (IsRow-skip slots (take k names) row n r h))

  pub IsRow-more_at : (slots : List (Slot Own F)) (names : List (List ℕ)) (k : ℕ) (row row' : List ℕ) (n : List ℕ) (index : ℕ) → AreDistinct slots → k < length names → n ≡ get_or names k n → IsRow slots (take k names) row → IsIndexOf slots n index → row' ≡ row_with row index → IsRow slots (take (k + 1) names) row'
  IsRow-more_at slots names k row row' n index d l e r h er =
      subst (λ (xs : List (List ℕ)). IsRow slots xs row') (ap (λ x. take k names ++ x ∷ []) e ∙ sym (take_more names k n l))
      (subst (λ (xs : List ℕ). IsRow slots (take k names ++ n ∷ []) xs) (sym er) (IsRow-with slots (take k names) row n index d r h))

  -- the rows of the slots before n
  pub record AreEdgesUpto (slots : List (Slot Own F)) (edges : Edges) (n : ℕ) : Type 0 where
    pub long : length edges ≡ n
    pub rows : (i : ℕ) (row : List ℕ) (slot : Slot Own F) → slice_get edges i ≡ Some row → slice_get slots i ≡ Some slot → IsRow slots (unwrap_or slot.needs []) row

  pub AreEdgesUpto-more : (slots : List (Slot Own F)) (edges new : Edges) (n : ℕ) (row : List ℕ) (slot : Slot Own F) → AreEdgesUpto slots edges n → slice_get slots n ≡ Some slot → IsRow slots (unwrap_or slot.needs []) row → new ≡ edges ++ row ∷ [] → AreEdgesUpto slots new (n + 1)
  AreEdgesUpto-more slots edges new n row slot u es r en = record {
    long = omega (arith, ap length en, length-append edges (row ∷ []), u.long);
    rows = λ i row' slot' e f. elim (pushed-cases edges row row' i (ap (λ (xs : Edges). slice_get xs i) (sym en) ∙ e)) as (λ _. IsRow slots (unwrap_or slot'.needs []) row') [
      | inl before ↦ u.rows i row' slot' before f
      | inr last ↦
          let k : ◌≡◌ {A = Option (Slot Own F)} (Some slot) (Some slot') = sym es ∙ ap (slice_get slots) (sym (last.0 ∙ u.long)) ∙ f in let s : slot ≡ slot' = cc in
          subst (λ (x : List ℕ). IsRow slots (unwrap_or slot'.needs []) x) last.1 (subst (λ (x : Slot Own F). IsRow slots (unwrap_or x.needs []) row) s r)
    ];
  }

  pub slot_at : (slots : List (Slot Own F)) (i : ℕ) → i < length slots → (slot : Slot Own F) × (slice_get slots i ≡ Some slot)
  slot_at [] i l = absurd (omega arith)
  slot_at (x ∷ slots) zero l = (x, refl)
  slot_at (x ∷ slots) (suc i) l = slot_at slots i (omega arith)

  -- edges lead to indices
  pub HasIndices-edges : (slots : List (Slot Own F)) (edges : Edges) → AreEdges slots edges → HasIndices edges
  HasIndices-edges slots edges a i j d =
      let s = slot_at slots i (omega (arith, slice_get_within edges i d.0 d.1, a.long)) in
      let k = d.2 in
      omega (arith, (a.rows i d.0 s.0 d.1 s.1).within k.0 0 (slice_get_within d.0 k.0 j k.1), get_or_from_slice_get d.0 k.0 j 0 k.1, a.long)

-- the next index of a row is of the group
IsGround-skip : (groups : List ℕ) (group : ℕ) (row ground : List ℕ) (p : ℕ) → IsGround groups group row ground → slice_index groups p ≡ group → IsGround groups group (row ++ p ∷ []) ground
IsGround-skip groups group row ground p g e = record {
  each = λ j. g.each j ∙ both_ways _ _
      (λ m. and_from _ _ (among-push row p j ∙ or_left (among row j) (nat_eq j p) (and-left (among row j) _ m)) (and-right (among row j) _ m))
      (λ m. let n = and-right (among (row ++ p ∷ []) j) _ m in
      elim (or_cases (among row j) (nat_eq j p) (sym (among-push row p j) ∙ and-left (among (row ++ p ∷ []) j) _ m)) as (λ _. (among row j && not (nat_eq (slice_index groups j) group)) ≡ true) [
        | inl before ↦ and_from _ _ before n
        | inr this ↦ let h : not true ≡ true = sym (ap not (eq-eqb (slice_index groups j) group (ap (slice_index groups) (eqb-true j p this) ∙ e))) ∙ n in cc h
      ]);
  within = g.within;
}

-- the next index of a row is of another group
IsGround-more : (groups : List ℕ) (group : ℕ) (row ground : List ℕ) (p : ℕ) → IsGround groups group row ground → nat_eq (slice_index groups p) group ≡ false → p < length groups → IsGround groups group (row ++ p ∷ []) (ground ++ p ∷ [])
IsGround-more groups group row ground p g ne l = record {
  each = λ j. both_ways _ _
      (λ m. elim (or_cases (among ground j) (nat_eq j p) (sym (among-push ground p j) ∙ m)) as (λ _. (among (row ++ p ∷ []) j && not (nat_eq (slice_index groups j) group)) ≡ true) [
        | inl before ↦ let k = sym (g.each j) ∙ before in and_from _ _ (among-push row p j ∙ or_left (among row j) (nat_eq j p) (and-left (among row j) _ k)) (and-right (among row j) _ k)
        | inr this ↦ and_from _ _ (among-push row p j ∙ or_right (among row j) (nat_eq j p) this) (ap (λ (q : ℕ). not (nat_eq (slice_index groups q) group)) (eqb-true j p this) ∙ ap not ne)
      ])
      (λ m. let n = and-right (among (row ++ p ∷ []) j) _ m in
      elim (or_cases (among row j) (nat_eq j p) (sym (among-push row p j) ∙ and-left (among (row ++ p ∷ []) j) _ m)) as (λ _. among (ground ++ p ∷ []) j ≡ true) [
        | inl before ↦ among-push ground p j ∙ or_left (among ground j) (nat_eq j p) (g.each j ∙ and_from _ _ before n)
        | inr this ↦ among-push ground p j ∙ or_right (among ground j) (nat_eq j p) this
      ]);
  within = All-push (λ x. x < length groups) ground p g.within l;
}

pub IsGround-start : (groups : List ℕ) (group : ℕ) → IsGround groups group [] []
IsGround-start groups group = record { each = λ j. refl; within = λ k d l. absurd (omega arith) }

-- the index at k of a row, with its group that was read
pub IsGround-skip_at : (groups : List ℕ) (group : ℕ) (row ground ground' : List ℕ) (k : ℕ) → k < length row → IsGround groups group (take k row) ground → slice_index groups (get_or row k 0) ≡ group → ground' ≡ ground → IsGround groups group (take (k + 1) row) ground'
IsGround-skip_at groups group row ground ground' k l g e eg =
    subst (λ (xs : List ℕ). IsGround groups group xs ground') (sym (take_more row k 0 l))
    (subst (λ (xs : List ℕ). IsGround groups group (take k row ++ get_or row k 0 ∷ []) xs) (sym eg)
    (IsGround-skip groups group (take k row) ground (get_or row k 0) g e))

pub IsGround-more_at : (groups : List ℕ) (group : ℕ) (row ground ground' : List ℕ) (k : ℕ) → k < length row → IsGround groups group (take k row) ground → get_or row k 0 < length groups → slice_index groups (get_or row k 0) ≢ group → ground' ≡ ground ++ get_or row k 0 ∷ [] → IsGround groups group (take (k + 1) row) ground'
IsGround-more_at groups group row ground ground' k l g lp ne eg =
    subst (λ (xs : List ℕ). IsGround groups group xs ground') (sym (take_more row k 0 l))
    (subst (λ (xs : List ℕ). IsGround groups group (take k row ++ get_or row k 0 ∷ []) xs) (sym eg)
    (IsGround-more groups group (take k row) ground (get_or row k 0) g apart lp))
  where
    apart : nat_eq (slice_index groups (get_or row k 0)) group ≡ false
    apart = elim (true_or_false (nat_eq (slice_index groups (get_or row k 0)) group)) as (λ _. nat_eq (slice_index groups (get_or row k 0)) group ≡ false) [
      | inl same ↦ absurd (ne (eqb-true _ _ same))
      | inr other ↦ other
    ]

-- the grounds of the indices before n
pub record AreGroundsUpto (edges : Edges) (groups : List ℕ) (grounds : Edges) (n : ℕ) : Type 0 where
  pub long : length grounds ≡ n
  pub rows : (i : ℕ) (row ground : List ℕ) → slice_get edges i ≡ Some row → slice_get grounds i ≡ Some ground → IsGround groups (slice_index groups i) row ground

pub AreGroundsUpto-more : (edges : Edges) (groups : List ℕ) (grounds new : Edges) (n : ℕ) (row ground : List ℕ) → AreGroundsUpto edges groups grounds n → slice_get edges n ≡ Some row → IsGround groups (slice_index groups n) row ground → new ≡ grounds ++ ground ∷ [] → AreGroundsUpto edges groups new (n + 1)
AreGroundsUpto-more edges groups grounds new n row ground u er g en = record {
  long = omega (arith, ap length en, length-append grounds (ground ∷ []), u.long);
  rows = λ i row' ground' e f. elim (pushed-cases grounds ground ground' i (ap (λ (xs : Edges). slice_get xs i) (sym en) ∙ f)) as (λ _. IsGround groups (slice_index groups i) row' ground') [
    | inl before ↦ u.rows i row' ground' e before
    | inr last ↦
        let k : ◌≡◌ {A = Option (List ℕ)} (Some row) (Some row') = sym er ∙ ap (slice_get edges) (sym (last.0 ∙ u.long)) ∙ e in let s : row ≡ row' = cc in
        subst (λ (x : List ℕ). IsGround groups (slice_index groups i) row' x) last.1
        (subst (λ (x : List ℕ). IsGround groups (slice_index groups i) x ground) s
        (subst (λ (x : ℕ). IsGround groups (slice_index groups x) row ground) (sym (last.0 ∙ u.long)) g))
  ];
}

pub HasIndices-grounds : (edges : Edges) (groups : List ℕ) (grounds : Edges) → length groups ≡ length edges → AreGrounds edges groups grounds → HasIndices grounds
HasIndices-grounds edges groups grounds long g i j d =
    let row = item-at edges i (omega (arith, slice_get_within grounds i d.0 d.1, g.long)) in
    let k = d.2 in
    omega (arith, (g.rows i row.0 d.0 row.1 d.1).within k.0 0 (slice_get_within d.0 k.0 j k.1), get_or_from_slice_get d.0 k.0 j 0 k.1, long, g.long)
