-- What stands on a shelf, and that it is a shelf still.
use Rattle.std.proofs.Common.{◌≡◌, ◌≢◌, ℕ, ◌+◌, ◌<◌, true, false, List, [], ◌∷◌, ◌++◌, Option, Some, None, refl, sym, ap, ◌∙◌, subst, inl, inr, length, arith}
use Rattle.std.specs.Prelude.{slice_get, slice_set, remove, position, option_map, is_some, MatchOption, string_bytes, String}
use Rattle.std.specs.List.{cons_option}
use Rattle.std.specs.Map.{keys_of, values_of, lookup}
use Rattle.std.specs.Str.{bytes_eq}
use Rattle.std.specs.String.{string_eq}
use Rattle.std.specs.declared.alloc.Global.{Global}
use Rattle.std.proofs.lemmas.List.{length-append}
use Rattle.std.proofs.lemmas.List.Edits.{length-remove}
use Rattle.std.proofs.lemmas.List.Elements.{filter_map-append}
use Rattle.std.proofs.lemmas.Map.Entries.{place_from_lookup}
use Rattle.std.proofs.lemmas.Map.Text.{is_eq-slice_cmp}
use Rattle.std.proofs.lemmas.Option.{slice_get-map, slice_get_within}
use Rattle.indexmap.specs.IndexMap.{IndexMap, insert_entry}
use Rattle.indexmap.specs.IndexMap.{get as find}
use Rattle.indexmap.proofs.CallerLemmas.{insert_entry-new}
use Rattle.slab.specs.Slab.{Slab, get, slab_len, with_value, ContainsKey, Updates}
use Rattle.list_laws.proofs.Lists.{item-at, pushed-cases}
use Rattle.list_laws.proofs.Tests.{same-or-other}
use Rattle.fact_store.specs.declared.slot.Slot.{Slot}
use Rattle.fact_values.specs.Names.{name_eq}
use Rattle.fact_store.specs.Shelf.{Names, shelved, IsShelf}
use Rattle.fact_store.specs.Slots.{HasNoSlot, IsIndexOf}
use Rattle.fact_values.proofs.NameLemmas.{name_eq-same, same_name}
use Rattle.fact_store.proofs.Lookups.{AllFound, found_at, length-found, found-same, found-set, found-remove, passes_at, passes_not, write_same, write_other, write_count}
use Rattle.fact_store.proofs.TextLemmas.{skip, skip-injective, skip-other, slice_get-remove}

abbrev Entry : Type 0
Entry = String Global × ℕ

module _ {Own F : Type 0} (slab : Slab (Slot Own F)) (names : Names) (shelf : IsShelf slab names) where
  all : AllFound (λ (e : Entry). get slab e.1) names
  all i e at = let s = shelf.found i e at in (s.0, s.1)

  pub length-shelved : length (shelved slab names) ≡ length names
  length-shelved = length-found (λ (e : Entry). get slab e.1) names all

  -- the name that has this index
  entry_at : (i : ℕ) → i < length (shelved slab names) → (e : Entry) × (slice_get names i ≡ Some e)
  entry_at i l = item-at names i (omega (arith, l, length-shelved))

  -- its key was read
  key_of : (i key : ℕ) (e : Entry) → slice_get names i ≡ Some e → slice_get (values_of names) i ≡ Some key → e.1 ≡ key
  key_of i key e at k =
      let h : ◌≡◌ {A = Option ℕ} (Some e.1) (Some key) = sym (slice_get-map (λ (z : Entry). z.1) names i ∙ ap (option_map (λ (z : Entry). z.1)) at) ∙ k in cc

  -- what stands under the key stands at the index
  pub stands_at : (i key : ℕ) (x : Slot Own F) → i < length (shelved slab names) → slice_get (values_of names) i ≡ Some key → get slab key ≡ Some x → slice_get (shelved slab names) i ≡ Some x
  stands_at i key x l k g =
      let e = entry_at i l in
      found_at (λ (z : Entry). get slab z.1) names all i e.0 x e.1 (ap (get slab) (key_of i key e.0 e.1 k) ∙ g)

  pub stands : (i : ℕ) (e : Entry) (x : Slot Own F) → slice_get names i ≡ Some e → get slab e.1 ≡ Some x → slice_get (shelved slab names) i ≡ Some x
  stands i e x at g = found_at (λ (z : Entry). get slab z.1) names all i e x at g

  pub has_key : (i key : ℕ) → i < length (shelved slab names) → slice_get (values_of names) i ≡ Some key → ContainsKey slab key
  has_key i key l k =
      let e = entry_at i l in let s = shelf.found i e.0 e.1 in
      subst (λ n. ContainsKey slab n) (key_of i key e.0 e.1 k) (ap is_some s.1)

  pub entry_contained : (i : ℕ) (e : Entry) → slice_get names i ≡ Some e → ContainsKey slab e.1
  entry_contained i e at = ap is_some (shelf.found i e at).1

  -- a name is looked up by its bytes
  pub looked_up : (name : List ℕ) (r : Option ℕ) → r ≡ position (λ (k : String Global). bytes_eq name (string_bytes k)) (keys_of names) → MatchOption r (HasNoSlot (shelved slab names) name) (IsIndexOf (shelved slab names) name)
  looked_up name None q = λ i slot at.
      let e = entry_at i (slice_get_within (shelved slab names) i slot at) in
      let s = shelf.found i e.0 e.1 in
      let here = found_at (λ (z : Entry). get slab z.1) names all i e.0 s.0 e.1 s.1 in
      let h : ◌≡◌ {A = Option (Slot Own F)} (Some slot) (Some s.0) = sym at ∙ here in let same : slot ≡ s.0 = cc in
      ap (name_eq name) (ap (λ (z : Slot Own F). z.name) same ∙ s.2) ∙ is_eq-slice_cmp name (string_bytes e.0.0)
      ∙ passes_not (λ (k : String Global). bytes_eq name (string_bytes k)) (λ (z : Entry). z.0) names (sym q) i e.0 e.1
  looked_up name (Some i) q =
      let p = passes_at (λ (k : String Global). bytes_eq name (string_bytes k)) (λ (z : Entry). z.0) names i (sym q) in
      let s = shelf.found i p.0 p.1 in
      (s.0, found_at (λ (z : Entry). get slab z.1) names all i p.0 s.0 p.1 s.1, s.2 ∙ sym (same_name name (string_bytes p.0.0) (is_eq-slice_cmp name (string_bytes p.0.0) ∙ p.2)))

  -- another slot of the same name under a key that was read
  module _ (i key : ℕ) (x y : Slot Own F) (l : i < length (shelved slab names)) (k : slice_get (values_of names) i ≡ Some key) (g : get slab key ≡ Some x) (n : y.name ≡ x.name) where
    pub shelf-write : IsShelf (with_value slab key y) names
    shelf-write = record {
      found = λ j a at. elim (same-or-other a.1 key) as (λ _. (slot : Slot Own F) × (get (with_value slab key y) a.1 ≡ Some slot) × (slot.name ≡ string_bytes a.0)) [
        | inl same ↦
            let s = shelf.found j a at in
            let h : ◌≡◌ {A = Option (Slot Own F)} (Some s.0) (Some x) = sym s.1 ∙ ap (get slab) same ∙ g in let q : s.0 ≡ x = cc in
            (y, ap (get (with_value slab key y)) same ∙ write_same slab.slots key x y g, n ∙ sym (ap (λ (z : Slot Own F). z.name) q) ∙ s.2)
        | inr other ↦ let s = shelf.found j a at in (s.0, write_other slab.slots key a.1 y other ∙ s.1, s.2)
      ];
      once = shelf.once;
      apart = shelf.apart;
      vacant = write_count slab.slots key x y g ∙ shelf.vacant;
    }

    pub shelved-write : shelved (with_value slab key y) names ≡ slice_set (shelved slab names) i y
    shelved-write =
        let e = entry_at i l in let ek = key_of i key e.0 e.1 k in
        found-set (λ (z : Entry). get slab z.1) (λ (z : Entry). get (with_value slab key y) z.1) names i e.0 y all e.1
        (ap (get (with_value slab key y)) ek ∙ write_same slab.slots key x y g)
        (λ j a at o. write_other slab.slots key a.1 y (λ q. o (shelf.apart j i a e.0 at e.1 (q ∙ sym ek))))

  -- a slot of another name under a key that was vacant
  module _ (new : Slab (Slot Own F)) (key : ℕ) (name : String Global) (slot : Slot Own F) (v : get slab key ≡ None) (u : Updates slab new key (Some slot)) (c : slab_len new ≡ slab_len slab + 1) (n : string_bytes name ≡ slot.name) (h : HasNoSlot (shelved slab names) slot.name) where
    others : (j : ℕ) (a : Entry) → slice_get names j ≡ Some a → a.1 ≢ key
    others j a at q = let s = shelf.found j a at in let z : ◌≡◌ {A = Option (Slot Own F)} (Some s.0) None = sym s.1 ∙ ap (get slab) q ∙ v in cc z

    stays : (j : ℕ) (a : Entry) → slice_get names j ≡ Some a → get new a.1 ≡ get slab a.1
    stays j a at = u.others a.1 (others j a at)

    unlike : (j : ℕ) (a : Entry) → slice_get names j ≡ Some a → string_bytes a.0 ≢ string_bytes name
    unlike j a at q =
        let s = shelf.found j a at in
        let here = found_at (λ (z : Entry). get slab z.1) names all j a s.0 at s.1 in
        let z : true ≡ false = sym (name_eq-same slot.name (s.0).name (sym n ∙ sym q ∙ sym s.2)) ∙ h j s.0 here in cc z

    pub shelf-push : IsShelf new (names ++ (name, key) ∷ [])
    shelf-push = record {
      found = λ j a at. elim (pushed-cases names (name, key) a j at) as (λ _. (x : Slot Own F) × (get new a.1 ≡ Some x) × (x.name ≡ string_bytes a.0)) [
        | inl before ↦ let s = shelf.found j a before in (s.0, stays j a before ∙ s.1, s.2)
        | inr last ↦ (slot, ap (λ (z : Entry). get new z.1) (sym last.1) ∙ u.changed, sym n ∙ ap (λ (z : Entry). string_bytes z.0) last.1)
      ];
      once = λ i j a b p q e. elim (pushed-cases names (name, key) a i p) as (λ _. i ≡ j) [
        | inl ia ↦ elim (pushed-cases names (name, key) b j q) as (λ _. i ≡ j) [
          | inl jb ↦ shelf.once i j a b ia jb e
          | inr jl ↦ absurd (unlike i a ia (e ∙ sym (ap (λ (z : Entry). string_bytes z.0) jl.1)))
        ]
        | inr il ↦ elim (pushed-cases names (name, key) b j q) as (λ _. i ≡ j) [
          | inl jb ↦ absurd (unlike j b jb (sym e ∙ sym (ap (λ (z : Entry). string_bytes z.0) il.1)))
          | inr jl ↦ il.0 ∙ sym jl.0
        ]
      ];
      apart = λ i j a b p q e. elim (pushed-cases names (name, key) a i p) as (λ _. i ≡ j) [
        | inl ia ↦ elim (pushed-cases names (name, key) b j q) as (λ _. i ≡ j) [
          | inl jb ↦ shelf.apart i j a b ia jb e
          | inr jl ↦ absurd (others i a ia (e ∙ sym (ap (λ (z : Entry). z.1) jl.1)))
        ]
        | inr il ↦ elim (pushed-cases names (name, key) b j q) as (λ _. i ≡ j) [
          | inl jb ↦ absurd (others j b jb (sym e ∙ sym (ap (λ (z : Entry). z.1) il.1)))
          | inr jl ↦ il.0 ∙ sym jl.0
        ]
      ];
      vacant = omega (arith, c, shelf.vacant, length-append names ((name, key) ∷ []));
    }

    pub shelved-push : shelved new (names ++ (name, key) ∷ []) ≡ shelved slab names ++ slot ∷ []
    shelved-push =
        filter_map-append (λ (z : Entry). get new z.1) names ((name, key) ∷ [])
        ∙ (λ j. found-same (λ (z : Entry). get slab z.1) (λ (z : Entry). get new z.1) names stays j ++ cons_option (u.changed j) [])

  -- no slot under the key of a name that was removed
  module _ (new : Slab (Slot Own F)) (i : ℕ) (e : Entry) (at : slice_get names i ≡ Some e) (u : Updates slab new e.1 None) (c : slab_len new + 1 ≡ slab_len slab) where
    left : (j : ℕ) (a : Entry) → slice_get (remove names i) j ≡ Some a → slice_get names (skip i j) ≡ Some a
    left j a p = sym (slice_get-remove names i j) ∙ p

    keeps : (j : ℕ) (a : Entry) → slice_get (remove names i) j ≡ Some a → get new a.1 ≡ get slab a.1
    keeps j a p = u.others a.1 (λ q. skip-other i j (shelf.apart (skip i j) i a e (left j a p) at q))

    pub shelf-remove : IsShelf new (remove names i)
    shelf-remove = record {
      found = λ j a p. let s = shelf.found (skip i j) a (left j a p) in (s.0, keeps j a p ∙ s.1, s.2);
      once = λ j k a b p q h. skip-injective i j k (shelf.once (skip i j) (skip i k) a b (left j a p) (left k b q) h);
      apart = λ j k a b p q h. skip-injective i j k (shelf.apart (skip i j) (skip i k) a b (left j a p) (left k b q) h);
      vacant = omega (arith, c, shelf.vacant, length-remove names i (slice_get_within names i e at));
    }

    pub shelved-remove : shelved new (remove names i) ≡ remove (shelved slab names) i
    shelved-remove = found-same (λ (z : Entry). get slab z.1) (λ (z : Entry). get new z.1) (remove names i) keeps ∙ found-remove (λ (z : Entry). get slab z.1) names i all

-- room changes nothing
module _ {Own F : Type 0} (slab : Slab (Slot Own F)) (names : Names) (shelf : IsShelf slab names) (room : Slab (Slot Own F)) (r : room ≡ record slab { capacity = room.capacity }) where
  with_room : (c : ℕ) → IsShelf (record slab { capacity = c }) names
  with_room c = record { found = shelf.found; once = shelf.once; apart = shelf.apart; vacant = shelf.vacant }

  pub shelf-room : IsShelf room names
  shelf-room = subst (λ (s : Slab (Slot Own F)). IsShelf s names) (sym r) (with_room room.capacity)

  pub shelved-room : shelved room names ≡ shelved slab names
  shelved-room = ap (λ (s : Slab (Slot Own F)). shelved s names) r

-- an index without this name
name_absent : {Own F S : Type 0} (slab : Slab (Slot Own F)) (m : IndexMap (String Global) ℕ S) (shelf : IsShelf slab m.entries) (name : String Global) → HasNoSlot (shelved slab m.entries) (string_bytes name) → find string_eq m name ≡ None
name_absent {Own} {F} slab m shelf name h = by (lookup (string_eq name) m.entries) refl
  where
    by : (r : Option ℕ) → lookup (string_eq name) m.entries ≡ r → lookup (string_eq name) m.entries ≡ None
    by None q = q
    by (Some v) q =
        let p = place_from_lookup (string_eq name) m.entries v q in
        let s = shelf.found p.0 (p.1, v) p.2 in
        let here = stands slab m.entries shelf p.0 (p.1, v) s.0 p.2 s.1 in
        let t : true ≡ false = sym (ap (name_eq (string_bytes name)) s.2 ∙ is_eq-slice_cmp (string_bytes name) (string_bytes p.1) ∙ p.3) ∙ h p.0 s.0 here in cc t

-- a slot that was pushed
module _ {Own F S : Type 0} (slab room new : Slab (Slot Own F)) (m : IndexMap (String Global) ℕ S) (names : Names) (all : List (Slot Own F)) (slot : Slot Own F) (key vacant : ℕ) (name : String Global) (shelf : IsShelf slab m.entries) (view : shelved slab m.entries ≡ all) (r : room ≡ record slab { capacity = room.capacity })
    (v : get room key ≡ None) (u : Updates room new key (Some slot)) (c : slab_len new ≡ slab_len room + 1) (k : vacant ≡ key) (n : string_bytes name ≡ slot.name) (h : HasNoSlot all slot.name) (e : names ≡ insert_entry string_eq m.entries name vacant) where
  view_room : shelved room m.entries ≡ all
  view_room = shelved-room slab m.entries shelf room r ∙ view

  absent_here : HasNoSlot (shelved room m.entries) slot.name
  absent_here = subst (λ (ss : List (Slot Own F)). HasNoSlot ss slot.name) (sym view_room) h

  names_now : names ≡ m.entries ++ (name, key) ∷ []
  names_now =
      e ∙ insert_entry-new string_eq m name vacant (name_absent room m (shelf-room slab m.entries shelf room r) name (subst (HasNoSlot (shelved room m.entries)) (sym n) absent_here))
      ∙ ap (λ (j : ℕ). m.entries ++ (name, j) ∷ []) k

  pub pushed-shelf : IsShelf new names
  pushed-shelf = subst (IsShelf new) (sym names_now) (shelf-push room m.entries (shelf-room slab m.entries shelf room r) new key name slot v u c n absent_here)

  pub pushed-view : shelved new names ≡ all ++ slot ∷ []
  pushed-view =
      ap (shelved new) names_now ∙ shelved-push room m.entries (shelf-room slab m.entries shelf room r) new key name slot v u c n absent_here
      ∙ ap (λ (ss : List (Slot Own F)). ss ++ slot ∷ []) view_room
