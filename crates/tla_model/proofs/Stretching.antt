-- Lists in stretches: what is put behind them, and what is found among the first of their entries.
use Rattle.std.proofs.Common.{◌≡◌, ℕ, zero, suc, ◌+◌, ◌-◌, ◌<◌, take, drop, get_or, length, List, [], ◌∷◌, ◌++◌, Option, Some, None, Bool, true, false, refl, sym, ap, subst, cond, arith, ◌∙◌, ⊎_elim, add-one}
use Rattle.std.specs.Prelude.{map, slice_get, flat_map}
use Rattle.std.proofs.lemmas.Bool.{cases_Bool}
use Rattle.std.proofs.lemmas.List.{append-nil, append_assoc, map-append, take-append-drop, take-map, take_more}
use Rattle.std.proofs.lemmas.Grind.{flat_map-append}
use Rattle.std.specs.Map.{keys_of}
use Rattle.std.specs.Map as maps
use Rattle.std.specs.Prelude.{string_bytes, String}
use Rattle.std.specs.Str.{bytes_eq}
use Rattle.std.specs.String.{string_eq}
use Rattle.std.specs.declared.alloc.Global.{Global}
use Rattle.indexmap.specs.IndexMap.{IndexMap, insert_entry}
use Rattle.indexmap.proofs.CallerLemmas.{insert_entry-new}
use Rattle.list_laws.proofs.Lists.{at-map, drop-at, drop-from}
use Rattle.tla_model.specs.Entities.{Meaning}
use Rattle.tla_model.specs.Stretches.{words_of}
use Rattle.tla_model.specs.Tables.{AreNew, lookup}

-- ---- lists

take-next : {A : Type 0} (xs : List A) (i : ℕ) (x : A) → slice_get xs i ≡ Some x → take (suc i) xs ≡ take i xs ++ x ∷ []
take-next [] i x at = cc
take-next (y ∷ xs) zero x at = ap (λ z. z ∷ []) (some-same y x at)
  where
    some-same : {A : Type 0} (a b : A) → Some a ≡ Some b → a ≡ b
    some-same a b e = cc
take-next (y ∷ xs) (suc i) x at = ap (λ z. y ∷ z) (take-next xs i x at)

pub take-at : {A : Type 0} (xs : List A) (i : ℕ) (x : A) → slice_get xs i ≡ Some x → take (i + 1) xs ≡ take i xs ++ x ∷ []
take-at xs i x at = rw add-one (take-next xs i x at)

pub split-at : {A : Type 0} (xs : List A) (i : ℕ) (x : A) → slice_get xs i ≡ Some x → xs ≡ take i xs ++ x ∷ drop (i + 1) xs
split-at xs i x at = sym (take-append-drop i xs) ∙ ap (λ z. take i xs ++ z) (drop-at xs i x at)

-- the first of two lists
pub take-both : {A : Type 0} (n : ℕ) (a b : List A) → take n (a ++ b) ≡ take n a ++ take (n - length a) b
take-both zero a b = let none : zero ≡ zero - length a = omega arith in ap (λ (m : ℕ). take m b) none
take-both (suc n) [] b = let all : suc n ≡ suc n - 0 = omega arith in ap (λ (m : ℕ). take m b) all
take-both (suc n) (x ∷ a) b =
    let left : n - length a ≡ suc n - length (x ∷ a) = omega arith in
    ap (λ z. x ∷ z) (take-both n a b) ∙ ap (λ (m : ℕ). x ∷ (take n a ++ take m b)) left

-- ---- stretches

-- one more stretch
pub flat-more : {X A : Type 0} (f : X → List A) (xs : List X) (x : X) → flat_map f (xs ++ x ∷ []) ≡ flat_map f xs ++ f x
flat-more f xs x = flat_map-append f xs (x ∷ []) ∙ ap (λ z. flat_map f xs ++ z) (append-nil (f x))

-- one more of the first stretches
pub stretch-next : {X A : Type 0} (f : X → List A) (xs : List X) (i : ℕ) (x : X) → i < length xs → x ≡ get_or xs i x → flat_map f (take (i + 1) xs) ≡ flat_map f (take i xs) ++ f x
stretch-next f xs i x lt is = ap (λ z. flat_map f z) (take_more xs i x lt ∙ ap (λ z. take i xs ++ z ∷ []) (sym is)) ∙ flat-more f (take i xs) x

-- what stands at a place of two lists
pub at-first : {A : Type 0} (a b : List A) (n : ℕ) (x : A) → slice_get a n ≡ Some x → slice_get (a ++ b) n ≡ Some x
at-first [] b n x at = cc
at-first (y ∷ a) b zero x at = at
at-first (y ∷ a) b (suc n) x at = at-first a b n x at

pub at-next : {A : Type 0} (a b : List A) (n : ℕ) → slice_get a n ≡ None → slice_get (a ++ b) n ≡ slice_get b (n - length a)
at-next [] b n none = let all : n ≡ n - 0 = omega arith in ap (λ (m : ℕ). slice_get b m) all
at-next (y ∷ a) b zero none = cc
at-next (y ∷ a) b (suc n) none =
    let left : n - length a ≡ suc n - length (y ∷ a) = omega arith in
    at-next a b n none ∙ ap (λ (m : ℕ). slice_get b m) left

-- and of stretches: it stands in the one at a place, or so many places on in those behind it
pub stretch-at : {X A : Type 0} (f : X → List A) (xs : List X) (i left : ℕ) (x : X) (entry : A) → i < length xs → x ≡ get_or xs i x → slice_get (f x) left ≡ Some entry → slice_get (flat_map f (drop i xs)) left ≡ Some entry
stretch-at f xs i left x entry lt is at = ap (λ z. slice_get (flat_map f z) left) (drop-from xs i x lt is) ∙ at-first (f x) (flat_map f (drop (i + 1) xs)) left entry at

pub stretch-past : {X A : Type 0} (f : X → List A) (xs : List X) (i left : ℕ) (x : X) → i < length xs → x ≡ get_or xs i x → slice_get (f x) left ≡ None → slice_get (flat_map f (drop (i + 1) xs)) (left - length (f x)) ≡ slice_get (flat_map f (drop i xs)) left
stretch-past f xs i left x lt is none = sym (ap (λ z. slice_get (flat_map f z) left) (drop-from xs i x lt is) ∙ at-next (f x) (flat_map f (drop (i + 1) xs)) left none)

-- ---- look-ups

module _ {K V : Type 0} (same : K → K → Bool) where
  -- an entry that is found stays what is found, whatever follows
  pub found-first : (a b : List (K × V)) (key : K) (value : V) → lookup same a key ≡ Some value → lookup same (a ++ b) key ≡ Some value
  found-first [] b key value found = cc
  found-first (entry ∷ a) b key value found = ⊎_elim
      (λ (t : same key entry.0 ≡ true).
      ap (λ (z : Bool). cond z (Some entry.1) (lookup same (a ++ b) key)) t ∙ sym (ap (λ (z : Bool). cond z (Some entry.1) (lookup same a key)) t) ∙ found)
      (λ (f : same key entry.0 ≡ false).
      ap (λ (z : Bool). cond z (Some entry.1) (lookup same (a ++ b) key)) f ∙ found-first a b key value (sym (ap (λ (z : Bool). cond z (Some entry.1) (lookup same a key)) f) ∙ found))
      (cases_Bool (same key entry.0))

  -- what is not found in the first is looked up in the second
  pub found-next : (a b : List (K × V)) (key : K) → lookup same a key ≡ None → lookup same (a ++ b) key ≡ lookup same b key
  found-next [] b key none = refl
  found-next (entry ∷ a) b key none = ⊎_elim
      (λ (t : same key entry.0 ≡ true). let e = sym (ap (λ (z : Bool). cond z (Some entry.1) (lookup same a key)) t) ∙ none in cc)
      (λ (f : same key entry.0 ≡ false).
      ap (λ (z : Bool). cond z (Some entry.1) (lookup same (a ++ b) key)) f ∙ found-next a b key (sym (ap (λ (z : Bool). cond z (Some entry.1) (lookup same a key)) f) ∙ none))
      (cases_Bool (same key entry.0))

  -- what is not found in both is found in neither
  none-first : (a b : List (K × V)) (key : K) → lookup same (a ++ b) key ≡ None → lookup same a key ≡ None
  none-first [] b key none = refl
  none-first (entry ∷ a) b key none = ⊎_elim
      (λ (t : same key entry.0 ≡ true). let e = sym (ap (λ (z : Bool). cond z (Some entry.1) (lookup same (a ++ b) key)) t) ∙ none in cc)
      (λ (f : same key entry.0 ≡ false).
      ap (λ (z : Bool). cond z (Some entry.1) (lookup same a key)) f ∙ none-first a b key (sym (ap (λ (z : Bool). cond z (Some entry.1) (lookup same (a ++ b) key)) f) ∙ none))
      (cases_Bool (same key entry.0))

  pub none-next : (a b : List (K × V)) (key : K) → lookup same (a ++ b) key ≡ None → lookup same b key ≡ None
  none-next a b key none = sym (found-next a b key (none-first a b key none)) ∙ none

  -- none among all is none among the first
  pub none-among : (n : ℕ) (a : List (K × V)) (key : K) → lookup same a key ≡ None → lookup same (take n a) key ≡ None
  none-among zero a key none = refl
  none-among (suc n) [] key none = refl
  none-among (suc n) (entry ∷ a) key none = ⊎_elim
      (λ (t : same key entry.0 ≡ true). let e = sym (ap (λ (z : Bool). cond z (Some entry.1) (lookup same a key)) t) ∙ none in cc)
      (λ (f : same key entry.0 ≡ false).
      ap (λ (z : Bool). cond z (Some entry.1) (lookup same (take n a) key)) f ∙ none-among n a key (sym (ap (λ (z : Bool). cond z (Some entry.1) (lookup same a key)) f) ∙ none))
      (cases_Bool (same key entry.0))

  -- what the stretch at a place has among the first so many is found there
  pub stretch-found : {X : Type 0} (f : X → List (K × V)) (xs : List X) (i left : ℕ) (x : X) (key : K) (value : V) → i < length xs → x ≡ get_or xs i x → Some value ≡ lookup same (take left (f x)) key → Some value ≡ lookup same (take left (flat_map f (drop i xs))) key
  stretch-found f xs i left x key value lt is found =
      let rest = flat_map f (drop (i + 1) xs) in
      sym (found-first (take left (f x)) (take (left - length (f x)) rest) key value (sym found))
      ∙ ap (λ z. lookup same z key) (sym (take-both left (f x) rest) ∙ ap (λ z. take left (flat_map f z)) (sym (drop-from xs i x lt is)))

  -- and what it has not is looked up in those behind it, among as many fewer as it has
  pub stretch-missed : {X : Type 0} (f : X → List (K × V)) (xs : List X) (i left : ℕ) (x : X) (key : K) → i < length xs → x ≡ get_or xs i x → lookup same (take left (f x)) key ≡ None → lookup same (take (left - length (f x)) (flat_map f (drop (i + 1) xs))) key ≡ lookup same (take left (flat_map f (drop i xs))) key
  stretch-missed f xs i left x key lt is none =
      let rest = flat_map f (drop (i + 1) xs) in
      sym (found-next (take left (f x)) (take (left - length (f x)) rest) key none)
      ∙ ap (λ z. lookup same z key) (sym (take-both left (f x) rest) ∙ ap (λ z. take left (flat_map f z)) (sym (drop-from xs i x lt is)))

  -- ---- what is new

  -- new behind two lists is new behind the second
  pub new-after : (a b ys : List (K × V)) → AreNew same (a ++ b) ys → AreNew same b ys
  new-after a b [] new = tt
  new-after a b (entry ∷ ys) new = (none-next a b entry.0 new.0, new-after a (b ++ entry ∷ []) ys (subst (λ z. AreNew same z ys) (append_assoc a b (entry ∷ [])) new.1))

  -- the first of two lists is new, and the second behind it
  pub new-first : (before xs ys : List (K × V)) → AreNew same before (xs ++ ys) → AreNew same before xs
  new-first before [] ys new = tt
  new-first before (entry ∷ xs) ys new = (new.0, new-first (before ++ entry ∷ []) xs ys new.1)

  pub new-next : (before xs ys : List (K × V)) → AreNew same before (xs ++ ys) → AreNew same (before ++ xs) ys
  new-next before [] ys new = subst (λ z. AreNew same z ys) (sym (append-nil before)) new
  new-next before (entry ∷ xs) ys new = subst (λ z. AreNew same z ys) (append_assoc before (entry ∷ []) xs) (new-next (before ++ entry ∷ []) xs ys new.1)

  -- the second of two lists is new by itself
  pub new-alone : (before xs ys : List (K × V)) → AreNew same before (xs ++ ys) → AreNew same [] ys
  new-alone before xs ys new = new-after (before ++ xs) [] ys (subst (λ z. AreNew same z ys) (sym (append-nil (before ++ xs))) (new-next before xs ys new))

  -- a key that is not found is new behind a new list
  pub new-more : (before xs : List (K × V)) (key : K) (value : V) → AreNew same before xs → lookup same (before ++ xs) key ≡ None → AreNew same before (xs ++ (key, value) ∷ [])
  new-more before [] key value new none = (none-first before [] key none, tt)
  new-more before (entry ∷ xs) key value new none =
      (new.0, new-more (before ++ entry ∷ []) xs key value new.1 (subst (λ z. lookup same z key ≡ None) (sym (append_assoc before (entry ∷ []) xs)) none))

  -- what stands at a place of a new list is not found behind the places before it
  pub new-at : (before xs : List (K × V)) (i : ℕ) (entry : K × V) → AreNew same before xs → slice_get xs i ≡ Some entry → lookup same (before ++ take i xs) entry.0 ≡ None
  new-at before xs i entry new at = (new-next before (take i xs) (entry ∷ drop (i + 1) xs) (subst (λ z. AreNew same before z) (split-at xs i entry at) new)).0

-- ---- entries under names for their keys

module _ {X K V : Type 0} (name : X → K) (same : K → K → Bool) where
  abbrev pub named : List (X × V) → List (K × V)
  named entries = map (λ entry. (name entry.0, entry.1)) entries

  pub lookup-named : (entries : List (X × V)) (key : K) → maps.lookup (λ (x : X). same key (name x)) entries ≡ lookup same (named entries) key
  lookup-named [] key = refl
  lookup-named (entry ∷ entries) key = ap (λ (rest : Option V). cond (same key (name entry.0)) (Some entry.1) rest) (lookup-named entries key)

  -- a key among the first so many is found there
  pub found-within : (entries : List (X × V)) (n i : ℕ) (d : X) (key : K) → i < length (keys_of entries) → same key (name (get_or (keys_of entries) i d)) ≡ true → i < n → lookup same (take n (named entries)) key ≡ lookup same (named entries) key
  found-within [] n i d key within is lt = absurd (omega arith)
  found-within (entry ∷ entries) zero i d key within is lt = absurd (omega arith)
  found-within (entry ∷ entries) (suc n) zero d key within is lt =
      ap (λ (z : Bool). cond z (Some entry.1) (lookup same (take n (named entries)) key)) is ∙ sym (ap (λ (z : Bool). cond z (Some entry.1) (lookup same (named entries) key)) is)
  found-within (entry ∷ entries) (suc n) (suc i) d key within is lt =
      ap (λ (rest : Option V). cond (same key (name entry.0)) (Some entry.1) rest) (found-within entries n i d key (omega arith) is (omega arith))

  -- none of the first so many has a key that none of them passes
  pub none-within : (entries : List (X × V)) (n : ℕ) (d : X) (key : K) → ((k : ℕ) → k < n → same key (name (get_or (keys_of entries) k d)) ≡ false) → lookup same (take n (named entries)) key ≡ None
  none-within [] zero d key none = refl
  none-within [] (suc n) d key none = refl
  none-within (entry ∷ entries) zero d key none = refl
  none-within (entry ∷ entries) (suc n) d key none =
      ap (λ (z : Bool). cond z (Some entry.1) (lookup same (take n (named entries)) key)) (none 0 (omega arith))
      ∙ none-within entries n d key (λ k lt. none (suc k) (omega arith))

-- ---- words

abbrev pub Row : Type 0
Row = String Global × Meaning

-- what stands at a place of new words goes last
pub words-added : {S : Type 0} (table : IndexMap (String Global) Meaning S) (rows old more : List Row) (i : ℕ) (key word : String Global) (value meaning : Meaning) →
    words_of table.entries ≡ words_of old ++ words_of (take i more) → AreNew bytes_eq (words_of old) (words_of more) → slice_get more i ≡ Some (word, meaning) →
    string_bytes key ≡ string_bytes word → value ≡ meaning → rows ≡ insert_entry string_eq table.entries key value → words_of rows ≡ words_of old ++ words_of (take (i + 1) more)
words-added table rows old more i key word value meaning so new at k v e =
    let first : take i (words_of more) ≡ words_of (take i more) = take-map (λ (entry : Row). (string_bytes entry.0, entry.1)) i more in
    let missed : lookup bytes_eq (words_of old ++ take i (words_of more)) (string_bytes word) ≡ None =
    new-at bytes_eq (words_of old) (words_of more) i (string_bytes word, meaning) new (at-map (λ (entry : Row). (string_bytes entry.0, entry.1)) more i (word, meaning) at) in
    let absent : lookup bytes_eq (words_of table.entries) (string_bytes key) ≡ None =
    (λ j. lookup bytes_eq (so j) (k j)) ∙ ap (λ (z : List (List ℕ × Meaning)). lookup bytes_eq (words_of old ++ z) (string_bytes word)) (sym first) ∙ missed in
    ap words_of (e ∙ insert_entry-new string_eq table key value (lookup-named string_bytes bytes_eq table.entries (string_bytes key) ∙ absent))
    ∙ map-append (λ (entry : Row). (string_bytes entry.0, entry.1)) table.entries ((key, value) ∷ [])
    ∙ (λ j. so j ++ (k j, v j) ∷ [])
    ∙ append_assoc (words_of old) (words_of (take i more)) ((string_bytes word, meaning) ∷ [])
    ∙ ap (λ (z : List (List ℕ × Meaning)). words_of old ++ z) (sym (map-append (λ (entry : Row). (string_bytes entry.0, entry.1)) (take i more) ((word, meaning) ∷ [])))
    ∙ ap (λ (z : List Row). words_of old ++ words_of z) (sym (take-at more i (word, meaning) at))
