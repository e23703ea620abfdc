-- What was given twice, held against one another.
use Rattle.std.proofs.Common.{◌≡◌, ◌≢◌, ℕ, zero, suc, ◌+◌, ◌<◌, ◌≤◌, Bool, true, false, List, [], ◌∷◌, Option, Some, None, refl, sym, ap, ◌∙◌, ◌++◌, length, get_or, drop, take, arith}
use Rattle.std.specs.Prelude.{◌&&◌, is_none}
use Rattle.list_laws.proofs.Tests.{and-left, and-right}
use Rattle.fact_store.specs.declared.given.Input.{Input}
use Rattle.std.proofs.lemmas.List.{take_more, map-append}
use Rattle.std.proofs.lemmas.Bool.{and_from, or_left, or_right}
use Rattle.fact_values.specs.Names.{name_eq, has, Texts}
use Rattle.fact_values.specs.Values.{gives, all_given}
use Rattle.fact_values.specs.States.{State, no_text, cyclic, broken, fact, same_state, same_given}
use Rattle.fact_store.specs.Given.{input_state, states}
use Rattle.fact_store.specs.declared.slot.Kept.{Kept}
use Rattle.fact_store.specs.Right.{is_fresh, with_given}
use Rattle.fact_values.proofs.NameLemmas.{name_eq-refl, name_eq-same, same_name}

module _ {F : Type 0} (same : F → F → Bool) where
  -- lists of different lengths differ
  pub same_given-long : (xs ys : List (List ℕ × Input F)) → length xs ≢ length ys → same_given same (states xs) (states ys) ≡ false
  same_given-long [] [] n = absurd (n refl)
  same_given-long [] (y ∷ ys) n = refl
  same_given-long (x ∷ xs) [] n = refl
  same_given-long (x ∷ xs) (y ∷ ys) n = and_false _ _ (same_given-long xs ys (λ e. n (ap suc e)))
    where
      and_false : (a b : Bool) → b ≡ false → (a && b) ≡ false
      and_false true b e = e
      and_false false b e = refl

  -- one pair, and the rest
  pub same_given-drop : (xs ys : List (List ℕ × Input F)) (i : ℕ) (x y : List ℕ × Input F) → i < length xs → i < length ys → x ≡ get_or xs i x → y ≡ get_or ys i y → same_given same (states (drop i xs)) (states (drop i ys)) ≡ ((name_eq x.0 y.0 && same_state same (input_state x.1) (input_state y.1)) && same_given same (states (drop (suc i) xs)) (states (drop (suc i) ys)))
  same_given-drop [] ys i x y lx ly ex ey = absurd (omega arith)
  same_given-drop (u ∷ xs) [] i x y lx ly ex ey = absurd (omega arith)
  same_given-drop (u ∷ xs) (v ∷ ys) zero x y lx ly ex ey =
      ap (λ (z : List ℕ × Input F). (name_eq z.0 v.0 && same_state same (input_state z.1) (input_state v.1)) && same_given same (states xs) (states ys)) (sym ex)
      ∙ ap (λ (z : List ℕ × Input F). (name_eq x.0 z.0 && same_state same (input_state x.1) (input_state z.1)) && same_given same (states xs) (states ys)) (sym ey)
  same_given-drop (u ∷ xs) (v ∷ ys) (suc i) x y lx ly ex ey = same_given-drop xs ys i x y (omega arith) (omega arith) ex ey

  pub same_given-end : (xs ys : List (List ℕ × Input F)) (i : ℕ) → length xs ≤ i → length ys ≤ i → same_given same (states (drop i xs)) (states (drop i ys)) ≡ true
  same_given-end [] [] zero lx ly = refl
  same_given-end [] [] (suc i) lx ly = refl
  same_given-end [] (y ∷ ys) zero lx ly = absurd (omega arith)
  same_given-end [] (y ∷ ys) (suc i) lx ly = nothing ys i (omega arith)
    where
      nothing : (ys : List (List ℕ × Input F)) (i : ℕ) → length ys ≤ i → same_given same [] (states (drop i ys)) ≡ true
      nothing [] zero l = refl
      nothing [] (suc i) l = refl
      nothing (y ∷ ys) zero l = absurd (omega arith)
      nothing (y ∷ ys) (suc i) l = nothing ys i (omega arith)
  same_given-end (x ∷ xs) ys zero lx ly = absurd (omega arith)
  same_given-end (x ∷ xs) [] (suc i) lx ly = nothing xs i (omega arith)
    where
      nothing : (xs : List (List ℕ × Input F)) (i : ℕ) → length xs ≤ i → same_given same (states (drop i xs)) [] ≡ true
      nothing [] zero l = refl
      nothing [] (suc i) l = refl
      nothing (x ∷ xs) zero l = absurd (omega arith)
      nothing (x ∷ xs) (suc i) l = nothing xs i (omega arith)
  same_given-end (x ∷ xs) (y ∷ ys) (suc i) lx ly = same_given-end xs ys i (omega arith) (omega arith)

  module _ (same_refl : (a : F) → same a a ≡ true) where
    pub same_state-refl : (s : State F) → same_state same s s ≡ true
    same_state-refl no_text = refl
    same_state-refl cyclic = refl
    same_state-refl broken = refl
    same_state-refl (fact a) = same_refl a

    pub same_given-refl : (xs : List (List ℕ × State F)) → same_given same xs xs ≡ true
    same_given-refl [] = refl
    same_given-refl (x ∷ xs) = and_from _ _ (and_from _ _ (name_eq-refl x.0) (same_state-refl x.1)) (same_given-refl xs)

  module _ (same_trans : (a b c : F) → same a b ≡ true → same b c ≡ true → same a c ≡ true) where
    pub same_state-trans : (a b c : State F) → same_state same a b ≡ true → same_state same b c ≡ true → same_state same a c ≡ true
    same_state-trans no_text no_text c p q = q
    same_state-trans cyclic cyclic c p q = q
    same_state-trans broken broken c p q = q
    same_state-trans (fact a) (fact b) (fact c) p q = same_trans a b c p q
    same_state-trans no_text cyclic c p q = cc
    same_state-trans no_text broken c p q = cc
    same_state-trans no_text (fact b) c p q = cc
    same_state-trans cyclic no_text c p q = cc
    same_state-trans cyclic broken c p q = cc
    same_state-trans cyclic (fact b) c p q = cc
    same_state-trans broken no_text c p q = cc
    same_state-trans broken cyclic c p q = cc
    same_state-trans broken (fact b) c p q = cc
    same_state-trans (fact a) no_text c p q = cc
    same_state-trans (fact a) cyclic c p q = cc
    same_state-trans (fact a) broken c p q = cc
    same_state-trans (fact a) (fact b) no_text p q = cc
    same_state-trans (fact a) (fact b) cyclic p q = cc
    same_state-trans (fact a) (fact b) broken p q = cc

    pub same_given-trans : (xs ys zs : List (List ℕ × State F)) → same_given same xs ys ≡ true → same_given same ys zs ≡ true → same_given same xs zs ≡ true
    same_given-trans [] [] zs p q = q
    same_given-trans [] (y ∷ ys) zs p q = cc
    same_given-trans (x ∷ xs) [] zs p q = cc
    same_given-trans (x ∷ xs) (y ∷ ys) [] p q = cc
    same_given-trans (x ∷ xs) (y ∷ ys) (z ∷ zs) p q =
        let hp = and-left (name_eq x.0 y.0 && same_state same x.1 y.1) _ p in let hq = and-left (name_eq y.0 z.0 && same_state same y.1 z.1) _ q in
        let n : x.0 ≡ z.0 = same_name x.0 y.0 (and-left _ (same_state same x.1 y.1) hp) ∙ same_name y.0 z.0 (and-left _ (same_state same y.1 z.1) hq) in
        and_from _ _ (and_from _ _ (name_eq-same x.0 z.0 n) (same_state-trans x.1 y.1 z.1 (and-right (name_eq x.0 y.0) _ hp) (and-right (name_eq y.0 z.0) _ hq)))
        (same_given-trans xs ys zs (and-right (name_eq x.0 y.0 && same_state same x.1 y.1) _ p) (and-right (name_eq y.0 z.0 && same_state same y.1 z.1) _ q))

-- a name that was read is among the names
pub has-read : (names : List (List ℕ)) (k : ℕ) (n : List ℕ) → k < length names → n ≡ get_or names k n → has names n ≡ true
has-read [] k n l e = absurd (omega arith)
has-read (m ∷ names) zero n l e = or_left (name_eq n m) (has names n) (name_eq-same n m e)
has-read (m ∷ names) (suc k) n l e = or_right (name_eq n m) (has names n) (has-read names k n (omega arith) e)

-- one more name gives one more pair
pub all_given-more : {Own F : Type 0} (own_of : List ℕ → List ℕ → Own) (needs_of : Own → Option (List (List ℕ))) (fact_of : List ℕ → Own → List (List ℕ × State F) → F) (texts : Texts) (values : List ℕ → State F) (name : List ℕ) (names : List (List ℕ)) (k : ℕ) (n m : List ℕ) (given new : List (List ℕ × Input F)) (input : Input F) → k < length names → n ≡ get_or names k n → states given ≡ all_given own_of needs_of fact_of texts values name (take k names) → m ≡ n → input_state input ≡ gives own_of needs_of fact_of texts values name m → new ≡ given ++ (m, input) ∷ [] → states new ≡ all_given own_of needs_of fact_of texts values name (take (k + 1) names)
all_given-more {F = F} own_of needs_of fact_of texts values name names k n m given new input l e g same s en =
    ap states en ∙ map-append (λ (p : List ℕ × Input F). (p.0, input_state p.1)) given ((m, input) ∷ [])
    ∙ ap (λ (x : State F). states given ++ (m, x) ∷ []) s
    ∙ ap (λ (x : List ℕ). states given ++ (x, gives own_of needs_of fact_of texts values name x) ∷ []) same
    ∙ ap (λ (xs : List (List ℕ × State F)). xs ++ (n, gives own_of needs_of fact_of texts values name n) ∷ []) g
    ∙ sym (map-append (λ (x : List ℕ). (x, gives own_of needs_of fact_of texts values name x)) (take k names) (n ∷ []))
    ∙ ap (all_given own_of needs_of fact_of texts values name) (ap (λ (x : List ℕ). take k names ++ x ∷ []) e ∙ sym (take_more names k n l))

-- a fact that is fresh stays so with what is given now
pub is_fresh-with_given : {F : Type 0} (same : F → F → Bool) → ((a : F) → same a a ≡ true) → (kept : Option (Kept F)) (given : List (List ℕ × Input F)) → is_fresh same kept (states given) ≡ true → is_fresh same (with_given kept given) (states given) ≡ true
is_fresh-with_given same same_refl None given h = cc
is_fresh-with_given same same_refl (Some kept) given h = and_from _ _ (and-left (is_none kept.from) _ h) (same_given-refl same same_refl (states given))
