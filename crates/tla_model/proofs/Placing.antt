-- Places of what begins somewhere, noted under where each begins.
use Rattle.std.proofs.Common.{◌≡◌, ℕ, zero, suc, ◌+◌, ◌<◌, ◌≤◌, ◌^◌, Bool, true, false, List, [], ◌∷◌, ◌++◌, Option, Some, None, length, nat_eq, nat_lt, refl, ap, sym, ◌∙◌, subst, cond, arith, true≢false}
use Rattle.std.specs.Prelude.{is_some, if◌then◌else◌}
use Rattle.std.specs.Map as map
use Rattle.std.proofs.lemmas.Bool.Decides.{nat_tests}
use Rattle.tla_model.specs.Entities.{place_in}
use Rattle.tla_model.specs.Tables.{lookup}
use Rattle.tla_model.specs.Starting.{noted, AreNoted}

abbrev Entries : Type 0
Entries = List (ℕ × ℕ)

pub lookup-numbers : (entries : Entries) (key : ℕ) → map.lookup (nat_eq key) entries ≡ lookup nat_eq entries key
lookup-numbers [] key = refl
lookup-numbers (entry ∷ entries) key = ap (λ rest. cond (nat_eq key entry.0) (Some entry.1) rest) (lookup-numbers entries key)

pub place-within : (starts : List ℕ) (x : ℕ) → place_in starts x ≤ length starts
place-within [] x = omega arith
place-within (first ∷ starts) x = by (nat_eq first x) (place-within starts x)
  where
    by : (b : Bool) → place_in starts x ≤ length starts → (if b then zero else suc (place_in starts x)) ≤ suc (length starts)
    by true within = omega arith
    by false within = omega (arith, within)

-- a name that begins where an earlier one does
place-there : (starts : List ℕ) (start x : ℕ) → place_in starts x < length starts → place_in (starts ++ start ∷ []) x ≡ place_in starts x
place-there [] start x less = absurd (omega (arith, less))
place-there (first ∷ starts) start x less = by (nat_eq first x) (place-there starts start x) less
  where
    by : (b : Bool) → (place_in starts x < length starts → place_in (starts ++ start ∷ []) x ≡ place_in starts x) → (if b then zero else suc (place_in starts x)) < suc (length starts) → (if b then zero else suc (place_in (starts ++ start ∷ []) x)) ≡ (if b then zero else suc (place_in starts x))
    by true rest less = refl
    by false rest less = ap suc (rest (omega (arith, less)))

-- and one that begins where none does
place-new : (starts : List ℕ) (start x : ℕ) → length starts ≤ place_in starts x → place_in (starts ++ start ∷ []) x ≡ length starts + (if nat_eq start x then 0 else 1)
place-new [] start x none = by (nat_eq start x)
  where
    by : (b : Bool) → (if b then zero else 1) ≡ 0 + (if b then 0 else 1)
    by true = refl
    by false = refl
place-new (first ∷ starts) start x none = by (nat_eq first x) (place-new starts start x) none
  where
    by : (b : Bool) → (length starts ≤ place_in starts x → place_in (starts ++ start ∷ []) x ≡ length starts + (if nat_eq start x then 0 else 1)) → suc (length starts) ≤ (if b then zero else suc (place_in starts x)) → (if b then zero else suc (place_in (starts ++ start ∷ []) x)) ≡ suc (length starts) + (if nat_eq start x then 0 else 1)
    by true rest none = absurd (omega (arith, none))
    by false rest none = let same = rest (omega (arith, none)) in omega (arith, same)

length-more : (starts : List ℕ) (start : ℕ) → length (starts ++ start ∷ []) ≡ length starts + 1
length-more [] start = refl
length-more (first ∷ starts) start = omega (arith, length-more starts start)

lookup-more : (entries : Entries) (key value x : ℕ) → lookup nat_eq (entries ++ (key, value) ∷ []) x ≡ (if is_some (lookup nat_eq entries x) then lookup nat_eq entries x else if nat_eq x key then Some value else None)
lookup-more [] key value x = refl
lookup-more (entry ∷ entries) key value x = by (nat_eq x entry.0) (lookup-more entries key value x)
  where
    by : (b : Bool) → lookup nat_eq (entries ++ (key, value) ∷ []) x ≡ (if is_some (lookup nat_eq entries x) then lookup nat_eq entries x else if nat_eq x key then Some value else None) → (if b then Some entry.1 else lookup nat_eq (entries ++ (key, value) ∷ []) x)
        ≡ (if is_some (if b then Some entry.1 else lookup nat_eq entries x) then (if b then Some entry.1 else lookup nat_eq entries x) else if nat_eq x key then Some value else None)
    by true rest = refl
    by false rest = rest

module _ (starts : List ℕ) (start x : ℕ) where
  noted-there : place_in starts x < length starts → noted (starts ++ start ∷ []) x ≡ noted starts x
  noted-there less = rw (place-there starts start x less, length-more starts start) (by (nat_lt (place_in starts x) (length starts + 1)) (nat_lt (place_in starts x) (length starts)) (grind (arith, nat_tests, less)) (grind (arith, nat_tests, less)))
    where
      by : (b c : Bool) → b ≡ true → c ≡ true → (if b then Some (place_in starts x) else None) ≡ (if c then Some (place_in starts x) else None)
      by b c e f = rw (e, f) refl

  noted-new : length starts ≤ place_in starts x → noted (starts ++ start ∷ []) x ≡ (if nat_eq x start then Some (length starts) else None)
  noted-new none = rw (place-new starts start x none, length-more starts start) (by (nat_eq start x) (nat_eq x start) (grind (arith, nat_tests)))
    where
      by : (b c : Bool) → b ≡ c → (if nat_lt (length starts + (if b then 0 else 1)) (length starts + 1) then Some (length starts + (if b then 0 else 1)) else None) ≡ (if c then Some (length starts) else None)
      by true true e = at (nat_lt (length starts + 0) (length starts + 1)) (grind (arith, nat_tests))
        where
          at : (d : Bool) → d ≡ true → (if d then Some (length starts + 0) else None) ≡ Some (length starts)
          at d f = rw f (ap Some (omega arith))
      by false false e = at (nat_lt (length starts + 1) (length starts + 1)) (grind (arith, nat_tests))
        where
          at : (d : Bool) → d ≡ false → (if d then Some (length starts + 1) else None) ≡ None
          at d f = rw f refl
      by true false e = absurd (true≢false e)
      by false true e = absurd (true≢false (sym e))

module _ (starts : List ℕ) (x : ℕ) where
  noted-some : place_in starts x < length starts → noted starts x ≡ Some (place_in starts x)
  noted-some less = by (nat_lt (place_in starts x) (length starts)) (grind (arith, nat_tests, less))
    where
      by : (b : Bool) → b ≡ true → (if b then Some (place_in starts x) else None) ≡ Some (place_in starts x)
      by b e = rw e refl

  noted-none : length starts ≤ place_in starts x → noted starts x ≡ None
  noted-none none = by (nat_lt (place_in starts x) (length starts)) (grind (arith, nat_tests, none))
    where
      by : (b : Bool) → b ≡ false → (if b then Some (place_in starts x) else None) ≡ None
      by b e = rw e refl

below-or : (a b : ℕ) (P : Type 0) → (a < b → P) → (b ≤ a → P) → P
below-or a b P less more = by (nat_lt a b) refl
  where
    by : (c : Bool) → nat_lt a b ≡ c → P
    by true e = less (grind (arith, nat_tests, e))
    by false e = more (grind (arith, nat_tests, e))

fewer : (starts : List ℕ) (start : ℕ) → length starts + 2 < 2 ^ 32 → length (starts ++ start ∷ []) + 1 < 2 ^ 32
fewer starts start few = rw (length-more starts start) (omega (arith, few))

some-there : (starts : List ℕ) (x : ℕ) → is_some (noted starts x) ≡ true → place_in starts x < length starts
some-there starts x there = by (nat_lt (place_in starts x) (length starts)) refl there
  where
    by : (b : Bool) → nat_lt (place_in starts x) (length starts) ≡ b → is_some (if b then Some (place_in starts x) else None) ≡ true → place_in starts x < length starts
    by true e there = grind (arith, nat_tests, e)
    by false e there = absurd (true≢false (sym there))

module _ (entries : Entries) (starts : List ℕ) (start : ℕ) (few : length starts + 2 < 2 ^ 32) (are : AreNoted entries starts) where
  -- a place is kept
  pub noted-again : is_some (map.lookup (nat_eq start) entries) ≡ true → AreNoted entries (starts ++ start ∷ [])
  noted-again there = record {
    few = fewer starts start few;
    places = λ x. below-or (place_in starts x) (length starts) _ (λ less. are.places x ∙ sym (noted-there starts start x less)) (λ none. are.places x ∙ noted-none starts x none ∙ sym (noted-new starts start x none ∙ other x none));
  }
    where
      before : place_in starts start < length starts
      before = some-there starts start (ap is_some (sym (are.places start) ∙ sym (lookup-numbers entries start)) ∙ there)

      other : (x : ℕ) → length starts ≤ place_in starts x → (if nat_eq x start then Some (length starts) else None) ≡ None
      other x none = by (nat_eq x start) refl
        where
          by : (b : Bool) → nat_eq x start ≡ b → (if b then Some (length starts) else None) ≡ None
          by false e = refl
          by true e = let same : x ≡ start = grind (arith, nat_tests, e) in absurd (omega (arith, before, subst (λ z. length starts ≤ place_in starts z) same none))

  -- and a new one is noted
  pub noted-more : (new : Entries) → is_some (map.lookup (nat_eq start) entries) ≡ false → new ≡ entries ++ (start, length starts) ∷ [] → AreNoted new (starts ++ start ∷ [])
  noted-more new absent is = record {
    few = fewer starts start few;
    places = λ x. ap (λ z. lookup nat_eq z x) is ∙ lookup-more entries start (length starts) x
        ∙ below-or (place_in starts x) (length starts) _
        (λ less. found x (are.places x ∙ noted-some starts x less) ∙ sym (noted-there starts start x less ∙ noted-some starts x less))
        (λ none. missed x (are.places x ∙ noted-none starts x none) ∙ sym (noted-new starts start x none));
  }
    where
      Asked : (x : ℕ) → Option ℕ → Option ℕ
      Asked x o = if is_some o then o else if nat_eq x start then Some (length starts) else None

      found : (x : ℕ) → lookup nat_eq entries x ≡ Some (place_in starts x) → Asked x (lookup nat_eq entries x) ≡ Some (place_in starts x)
      found x e = ap (Asked x) e

      missed : (x : ℕ) → lookup nat_eq entries x ≡ None → Asked x (lookup nat_eq entries x) ≡ (if nat_eq x start then Some (length starts) else None)
      missed x e = ap (Asked x) e

some-injective : (a b : ℕ) → Some a ≡ Some b → a ≡ b
some-injective a b e = cc

-- what the table answers is a place
pub place-found : (entries : Entries) (starts : List ℕ) (start place : ℕ) → AreNoted entries starts → Some place ≡ map.lookup (nat_eq start) entries → place ≡ place_in starts start
place-found entries starts start place are found = below-or (place_in starts start) (length starts) _
    (λ less. some-injective _ _ (found ∙ lookup-numbers entries start ∙ are.places start ∙ noted-some starts start less))
    (λ none. absurd (differ place (found ∙ lookup-numbers entries start ∙ are.places start ∙ noted-none starts start none)))
  where
    differ : (p : ℕ) → Some p ≡ None → ⊥
    differ p e = cc

pub place-missed : (entries : Entries) (starts : List ℕ) (start : ℕ) → AreNoted entries starts → None ≡ map.lookup (nat_eq start) entries → length starts ≡ place_in starts start
place-missed entries starts start are missed = below-or (place_in starts start) (length starts) _
    (λ less. absurd (differ (place_in starts start) (sym (noted-some starts start less) ∙ sym (are.places start) ∙ sym (lookup-numbers entries start) ∙ sym missed)))
    (λ none. let within : place_in starts start ≤ length starts = place-within starts start in omega (arith, none, within))
  where
    differ : (p : ℕ) → Some p ≡ None → ⊥
    differ p e = cc

pub none-noted : AreNoted [] []
none-noted = record { few = omega arith; places = λ start. refl }
