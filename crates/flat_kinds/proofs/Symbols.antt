-- What symbols stand for: more or less of them, and each for itself.
use Rattle.std.proofs.Common.{◌≡◌, ℕ, zero, suc, ◌+◌, ◌<◌, ◌≤◌, Bool, true, false, cond, ◌⊎◌, inl, inr, List, [], ◌∷◌, ◌++◌, map, length, refl, sym, ap, ◌∙◌, subst, arith}
use Rattle.std.specs.Prelude.{◌||◌}
use Rattle.std.proofs.lemmas.Bool.{and_parts}
use Rattle.std.proofs.lemmas.List.{length-append}
use Rattle.tla_model.specs.declared.entity.Entity.TheVariants as entity
use Rattle.tla_model.specs.declared.ids.Callee.{Callee}
use Rattle.tla_model.specs.declared.names.Meaning.TheVariants.{BuiltIn, Declared}
use Rattle.tla_model.specs.Tables.{Named}
use Rattle.tla_model.specs.Entities.{Entity, Meaning, same_meaning}
use Rattle.kind_text.specs.FlatModule.{FlatModule}
use Rattle.kind_text.specs.Substitution.{Item, at}
use Rattle.tree_kinds.specs.Standing.{Outside, is_bound, itself, same_standing, themselves, value_of}
use Rattle.tree_kinds.proofs.Standings.{standing-alike, standing-from}
use Rattle.flat_trees.specs.Stands.{AreStanding, IsItem, IsStanding, Matches, Stand, Unsaid, Leaf, Place, Defined, Through, Brought}
use Rattle.flat_trees.specs.Layouts.{StandsBefore, order_of}
use Rattle.flat_trees.specs.Instances.{IsModule, with_symbols}
use Rattle.flat_trees.proofs.Agreeing.{append-append, at-behind, item-value}
use Rattle.flat_trees.proofs.Reaching.{at-append}
use Rattle.flat_kinds.specs.Readings.{SaysLess, StandsItself, is_among, or_stand, with_own}
use Rattle.flat_kinds.specs.Symbols.{AreDistinct, SaysNothing, item_itself, same_declared, same_symbol, symbols_at}

module _ (flat : FlatModule) where
  -- a module by symbols of which less is said
  pub module-by_less : (less more : Meaning → Stand) (places : ℕ) (inner : Named → Stand) (outside : Outside) → SaysLess less more → IsModule flat less places inner outside → IsModule flat more places inner outside
  module-by_less less more places inner outside says kept frame standing room stands = kept frame standing room (λ meaning. by_case meaning (says meaning))
    where
      by_case : (meaning : Meaning) → (less meaning ≡ Unsaid) ⊎ (less meaning ≡ more meaning) → IsStanding flat frame [] (less meaning) (standing meaning)
      by_case meaning (inl none) = subst (λ stand. IsStanding flat frame [] stand (standing meaning)) (sym none) tt
      by_case meaning (inr same) = subst (λ stand. IsStanding flat frame [] stand (standing meaning)) (sym same) (stands meaning)

  matches-itself : (order : ℕ) (x : Item) → Matches order x x
  matches-itself zero x = refl
  matches-itself (suc n) x = λ ts many. refl

  stands-itself : (frame : List Item) (stand : Stand) (meaning : Meaning) → StandsItself frame stand meaning → IsStanding flat frame [] stand (themselves meaning)
  stands-itself frame Unsaid meaning holds = tt
  stands-itself frame (Leaf kind) meaning holds = holds
  stands-itself frame (Place place order) BuiltIn holds = absurd holds
  stands-itself frame (Place place order) (Declared e callee) holds =
      (holds.0, subst (λ x. IsItem order x [] (value_of (itself e))) (sym holds.1) (item-value order (itself e) (itself e) (matches-itself order (itself e))))
  stands-itself frame (Defined d orders) meaning holds = absurd holds
  stands-itself frame (Through j orders inner) meaning holds = absurd holds
  stands-itself frame (Brought j inner) meaning holds = absurd holds

  -- symbols by themselves
  pub symbols-themselves : (frame : List Item) (symbols : Meaning → Stand) → ((meaning : Meaning) → StandsItself frame (symbols meaning) meaning) → AreStanding flat frame symbols themselves
  symbols-themselves frame symbols each meaning = stands-itself frame (symbols meaning) meaning (each meaning)

-- ---- symbols at places

declared-alike : (e f : Entity) → same_declared e f ≡ true → itself e ≡ itself f
declared-alike (entity.Constant m) (entity.Constant n) same = refl
declared-alike entity.Variable entity.Variable same = refl
declared-alike e f same = cc

symbol-itself : (a b : Meaning) → same_symbol a b ≡ true → item_itself b ≡ item_itself a
symbol-itself BuiltIn b same = cc
symbol-itself (Declared e x) BuiltIn same = cc
symbol-itself (Declared e x) (Declared f y) same = sym (declared-alike e f (and_parts (same_declared e f) (same_meaning (Declared e x) (Declared f y)) same).0)

declared-free : (e f : Entity) (x y : Callee) → same_declared e f ≡ true → is_bound (Declared e x) ≡ is_bound (Declared f y)
declared-free (entity.Constant m) (entity.Constant n) x y same = refl
declared-free entity.Variable entity.Variable x y same = refl
declared-free e f x y same = cc

-- what is the same symbol stands as it does
pub symbol-stands : (a b : Meaning) → same_symbol a b ≡ true → same_standing a b ≡ true
symbol-stands BuiltIn b same = cc
symbol-stands (Declared e x) BuiltIn same = cc
symbol-stands (Declared e x) (Declared f y) same =
    let parts = and_parts (same_declared e f) (same_meaning (Declared e x) (Declared f y)) same in
    standing-from (Declared e x) (Declared f y) parts.1 (declared-free e f x y parts.0)

-- a symbol is declared
symbol-place : (frame : List Item) (place order : ℕ) (a b : Meaning) → same_symbol a b ≡ true → place < length frame → at frame place ≡ item_itself a → StandsItself frame (Place place order) a
symbol-place frame place order BuiltIn b same room is = cc
symbol-place frame place order (Declared e x) b same room is = (room, is)

longer-itself : (s more : List Item) (stand : Stand) (meaning : Meaning) → StandsItself s stand meaning → StandsItself (s ++ more) stand meaning
longer-itself s more Unsaid meaning holds = tt
longer-itself s more (Leaf kind) meaning holds = holds
longer-itself s more (Place place order) BuiltIn holds = absurd holds
longer-itself s more (Place place order) (Declared e callee) (room, is) = let e = length-append s more in (omega (arith, e, room), at-append s more place room ∙ is)
longer-itself s more (Defined d orders) meaning holds = absurd holds
longer-itself s more (Through j orders inner) meaning holds = absurd holds
longer-itself s more (Brought j inner) meaning holds = absurd holds

-- over the items that symbols are, each stands for itself
pub places-itself : (base : Meaning → Stand) (before : List Item) (symbols : List Meaning) (other : Meaning) → StandsItself before (base other) other → StandsItself (before ++ map item_itself symbols) (symbols_at base symbols (length before) other) other
places-itself base before [] other holds = longer-itself before [] (base other) other holds
places-itself base before (meaning ∷ rest) other holds =
    let x = item_itself meaning in
    let xs = map item_itself rest in
    let next : length (before ++ (x ∷ [])) ≡ suc (length before) = let e = length-append before (x ∷ []) in omega (arith, e) in
    let moved : (before ++ (x ∷ [])) ++ xs ≡ before ++ (x ∷ xs) = append-append before (x ∷ []) xs in
    let room : length before < length (before ++ (x ∷ xs)) = let e = length-append before (x ∷ xs) in omega (arith, e) in
    let others = subst (λ n. StandsItself (before ++ (x ∷ xs)) (symbols_at base rest n other) other) next
    (subst (λ t. StandsItself t (symbols_at base rest (length (before ++ (x ∷ []))) other) other) moved
    (places-itself base (before ++ (x ∷ [])) rest other (longer-itself before (x ∷ []) (base other) other holds))) in
    by_sameness room others (same_symbol other meaning) refl
  where
    by_sameness : length before < length (before ++ (item_itself meaning ∷ map item_itself rest)) → StandsItself (before ++ (item_itself meaning ∷ map item_itself rest)) (symbols_at base rest (suc (length before)) other) other → (b : Bool) → same_symbol other meaning ≡ b → StandsItself (before ++ (item_itself meaning ∷ map item_itself rest)) (cond b (Place (length before) (order_of meaning)) (symbols_at base rest (suc (length before)) other)) other
    by_sameness room others true e =
        symbol-place (before ++ (item_itself meaning ∷ map item_itself rest)) (length before) (order_of meaning) other meaning e room
        (at-behind before (item_itself meaning) (map item_itself rest) ∙ symbol-itself other meaning e)
    by_sameness room others false e = others

-- what means none of these symbols stands as before
pub symbols-none : (base : Meaning → Stand) (symbols : List Meaning) (place : ℕ) (other : Meaning) → is_among symbols other ≡ false → symbols_at base symbols place other ≡ base other
symbols-none base [] place other none = refl
symbols-none base (meaning ∷ rest) place other none = by_sameness (symbols-none base rest (suc place) other) (same_symbol other meaning) refl (same_standing other meaning) refl none
  where
    by_sameness : (is_among rest other ≡ false → symbols_at base rest (suc place) other ≡ base other) → (b : Bool) → same_symbol other meaning ≡ b → (t : Bool) → same_standing other meaning ≡ t → (t || is_among rest other) ≡ false → cond b (Place place (order_of meaning)) (symbols_at base rest (suc place) other) ≡ base other
    by_sameness others b same true means none = cc
    by_sameness others true same false means none = let e = symbol-stands other meaning same in cc
    by_sameness others false same false means none = others none

pub among-alike : (symbols : List Meaning) (a b : Meaning) → same_standing a b ≡ true → is_among symbols a ≡ is_among symbols b
among-alike [] a b same = refl
among-alike (meaning ∷ rest) a b same =
    ap (λ (t : Bool). t || is_among rest a) (standing-alike a b meaning same) ∙ ap (λ (t : Bool). same_standing b meaning || t) (among-alike rest a b same)

-- less is said of symbols than of all that mean the same
pub symbols-at-less : (base : Meaning → Stand) (symbols : List Meaning) (place : ℕ) → AreDistinct symbols → SaysNothing base symbols → SaysLess (symbols_at base symbols place) (with_symbols base symbols place)
symbols-at-less base [] place distinct nothing other = inr refl
symbols-at-less base (meaning ∷ rest) place distinct nothing other =
    by_sameness (symbols-at-less base rest (suc place) distinct.1 rest_nothing other) (same_symbol other meaning) refl (same_standing other meaning) refl
  where
    or-true : (b : Bool) → (b || true) ≡ true
    or-true true = refl
    or-true false = refl

    rest_nothing : SaysNothing base rest
    rest_nothing one among = nothing one (ap (λ (t : Bool). same_standing one meaning || t) among ∙ or-true (same_standing one meaning))

    by_sameness : (symbols_at base rest (suc place) other ≡ Unsaid) ⊎ (symbols_at base rest (suc place) other ≡ with_symbols base rest (suc place) other) → (b : Bool) → same_symbol other meaning ≡ b → (t : Bool) → same_standing other meaning ≡ t → (cond b (Place place (order_of meaning)) (symbols_at base rest (suc place) other) ≡ Unsaid) ⊎ (cond b (Place place (order_of meaning)) (symbols_at base rest (suc place) other) ≡ cond t (Place place (order_of meaning)) (with_symbols base rest (suc place) other))
    by_sameness others true same true means = inr refl
    by_sameness others true same false means = let e = symbol-stands other meaning same in absurd (cc)
    by_sameness others false same true means =
        inl
        (symbols-none base rest (suc place) other (among-alike rest other meaning means ∙ distinct.0)
        ∙ nothing other (ap (λ (t : Bool). t || is_among rest other) means))
    by_sameness others false same false means = others

-- symbols of its own at places, before those round it
pub own-symbols : (base : Meaning → Stand) (symbols : List Meaning) (place : ℕ) (other : Meaning) → with_own base (symbols_at (λ (meaning : Meaning). Unsaid) symbols place) other ≡ symbols_at base symbols place other
own-symbols base [] place other = refl
own-symbols base (meaning ∷ rest) place other = by_sameness (same_symbol other meaning) (own-symbols base rest (suc place) other)
  where
    by_sameness : (b : Bool) → or_stand (symbols_at (λ (m : Meaning). Unsaid) rest (suc place) other) (base other) ≡ symbols_at base rest (suc place) other → or_stand (cond b (Place place (order_of meaning)) (symbols_at (λ (m : Meaning). Unsaid) rest (suc place) other)) (base other) ≡ cond b (Place place (order_of meaning)) (symbols_at base rest (suc place) other)
    by_sameness true others = refl
    by_sameness false others = others

pub own-less : (base : Meaning → Stand) (symbols : List Meaning) (place : ℕ) → AreDistinct symbols → SaysNothing base symbols → SaysLess (with_own base (symbols_at (λ (meaning : Meaning). Unsaid) symbols place)) (with_symbols base symbols place)
own-less base symbols place distinct nothing other = by_case (symbols-at-less base symbols place distinct nothing other)
  where
    by_case : (symbols_at base symbols place other ≡ Unsaid) ⊎ (symbols_at base symbols place other ≡ with_symbols base symbols place other) → (with_own base (symbols_at (λ (meaning : Meaning). Unsaid) symbols place) other ≡ Unsaid) ⊎ (with_own base (symbols_at (λ (meaning : Meaning). Unsaid) symbols place) other ≡ with_symbols base symbols place other)
    by_case (inl none) = inl (own-symbols base symbols place other ∙ none)
    by_case (inr same) = inr (own-symbols base symbols place other ∙ same)

-- ---- before a place

before-more : (less more : ℕ) (stand : Stand) → less ≤ more → StandsBefore less stand → StandsBefore more stand
before-more less more Unsaid fewer holds = tt
before-more less more (Leaf kind) fewer holds = tt
before-more less more (Place place order) fewer holds = omega (arith, fewer, holds)
before-more less more (Defined d orders) fewer holds = absurd holds
before-more less more (Through j orders inner) fewer holds = absurd holds
before-more less more (Brought j inner) fewer holds = absurd holds

-- symbols at places stand before the place behind them
pub places-before : (base : Meaning → Stand) (symbols : List Meaning) (place : ℕ) (other : Meaning) → StandsBefore place (base other) → StandsBefore (place + length symbols) (symbols_at base symbols place other)
places-before base [] place other holds = before-more place (place + 0) (base other) (omega arith) holds
places-before base (meaning ∷ rest) place other holds =
    by_sameness (same_symbol other meaning)
    (before-more (suc place + length rest) (place + length (meaning ∷ rest)) (symbols_at base rest (suc place) other) (omega arith)
    (places-before base rest (suc place) other (before-more place (suc place) (base other) (omega arith) holds)))
  where
    by_sameness : (b : Bool) → StandsBefore (place + length (meaning ∷ rest)) (symbols_at base rest (suc place) other) → StandsBefore (place + length (meaning ∷ rest)) (cond b (Place place (order_of meaning)) (symbols_at base rest (suc place) other))
    by_sameness true others = omega arith
    by_sameness false others = others
