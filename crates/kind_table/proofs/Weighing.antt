-- What work is of nodes and frames.
use Rattle.std.proofs.Common.{◌≡◌, ℕ, zero, suc, ◌+◌, ◌*◌, ◌<◌, ◌≤◌, max, List, [], ◌∷◌, ◌++◌, Some, refl, sym, ap, subst, take, drop, map, length, get_or, arith}
use Rattle.std.specs.Prelude.{slice_get}
use Rattle.std.specs.List.{AllByRecursion}
use Rattle.tla_symbols.specs.declared.level.Kind.TheVariants.{Const}
use Rattle.kind_text.specs.ExpandedKind.{Given}
use Rattle.kind_text.specs.Substitution.{Item, at, expression}
use Rattle.kind_text.specs.FlatModule.{Node}
use Rattle.kind_table.specs.declared.argument.Arg.{Arg}
use Rattle.kind_table.specs.Table.{AllWithin}
use Rattle.kind_table.specs.Weights.{cost, heaviest, longest, lower_cost, path_length, times}

pub times-most : (c j k : ℕ) → j ≤ k → times j c ≤ times k c
unfolding times
times-most c zero k l = omega arith
times-most c (suc j) zero l = absurd (omega arith)
times-most c (suc j) (suc k) l = let h = times-most c j k (omega arith) in omega arith

pub times-more : (j c : ℕ) → times (suc j) c ≡ c + times j c
unfolding times
times-more j c = refl

times-both : (k a b : ℕ) → a ≤ b → times k a ≤ times k b
unfolding times
times-both zero a b l = omega arith
times-both (suc k) a b l = let h = times-both k a b l in omega arith

module _ (most : ℕ) where
  pub cost-least : (n : ℕ) → 16 ≤ cost most n
  unfolding cost
  cost-least zero = omega arith
  cost-least (suc n) = let h = cost-least n in omega arith

  pub cost-le : (m n : ℕ) → m ≤ n → cost most m ≤ cost most n
  unfolding cost
  cost-le m zero h = let e : m ≡ 0 = omega arith in subst (λ x. cost most x ≤ cost most zero) (sym e) (omega arith)
  cost-le zero (suc n) h = let a = cost-le zero n (omega arith) in omega arith
  cost-le (suc m) (suc n) h = let a = cost-le m n (omega arith) in let b = times-both most (cost most m) (cost most n) a in omega arith

  -- a node by the one before it
  pub cost-split : (m n : ℕ) → m < n → (cost most n ≡ 4 * lower_cost most n + times most (lower_cost most n)) × (cost most m ≤ lower_cost most n) × (16 ≤ lower_cost most n)
  unfolding cost
  cost-split m zero h = absurd (omega arith)
  cost-split m (suc n) h = (refl, cost-le m n (omega arith), cost-least n)

-- the cost of earlier nodes
pub heaviest-lower : (most n : ℕ) (is : List ℕ) → AllByRecursion (λ i. i < n) is → heaviest (cost most) is ≤ lower_cost most n
heaviest-lower most n [] h = omega arith
heaviest-lower most n (i ∷ is) h = let a = (cost-split most i n h.0).1 in let b = heaviest-lower most n is h.1 in omega arith

pub longest-at : (nodes : List Node) (i : ℕ) (node : Node) → slice_get nodes i ≡ Some node → path_length node.form ≤ longest nodes
longest-at [] zero node e = cc
longest-at [] (suc i) node e = cc
longest-at (x ∷ nodes) zero node e = let same : x ≡ node = cc in subst (λ (y : Node). path_length y.form ≤ max (path_length x.form) (longest nodes)) same (omega arith)
longest-at (x ∷ nodes) (suc i) node e = let h = longest-at nodes i node e in omega arith

-- ---- frames

pub load-append : (f : ℕ → ℕ) (ns ms : List ℕ) → heaviest f (ns ++ ms) ≡ max (heaviest f ns) (heaviest f ms)
load-append f [] ms = omega arith
load-append f (n ∷ ns) ms = let h = load-append f ns ms in omega arith

pub load-take : (f : ℕ → ℕ) (k : ℕ) (ns : List ℕ) → heaviest f (take k ns) ≤ heaviest f ns
load-take f zero ns = omega arith
load-take f (suc k) [] = omega arith
load-take f (suc k) (n ∷ ns) = let h = load-take f k ns in omega arith

pub load-drop : (f : ℕ → ℕ) (k : ℕ) (ns : List ℕ) → heaviest f (drop k ns) ≤ heaviest f ns
load-drop f zero ns = omega arith
load-drop f (suc k) [] = omega arith
load-drop f (suc k) (n ∷ ns) = let h = load-drop f k ns in omega arith

pub load-at : (f : ℕ → ℕ) (ns : List ℕ) (i d : ℕ) → i < length ns → f (get_or ns i d) ≤ heaviest f ns
load-at f [] i d l = absurd (omega arith)
load-at f (m ∷ ns) zero d l = omega arith
load-at f (m ∷ ns) (suc i) d l = let h = load-at f ns i d (omega arith) in omega arith

pub lower-at : (n : ℕ) (ns : List ℕ) (i d : ℕ) → AllByRecursion (λ c. c < n) ns → i < length ns → get_or ns i d < n
lower-at n [] i d h l = absurd (omega arith)
lower-at n (c ∷ ns) zero d h l = h.0
lower-at n (c ∷ ns) (suc i) d h l = lower-at n ns i d h.1 (omega arith)

pub all-lower : (n m : ℕ) (ns : List ℕ) → AllByRecursion (λ c. c < n) ns → n ≤ m → AllByRecursion (λ c. c < m) ns
all-lower n m [] h l = tt
all-lower n m (c ∷ ns) h l = (omega (arith, h.0), all-lower n m ns h.1 l)

pub within-take : (table : List Arg) (k : ℕ) (ns : List ℕ) → AllWithin table ns → AllWithin table (take k ns)
within-take table zero ns h = tt
within-take table (suc k) [] h = tt
within-take table (suc k) (n ∷ ns) h = (h.0, within-take table k ns h.1)

pub within-drop : (table : List Arg) (k : ℕ) (ns : List ℕ) → AllWithin table ns → AllWithin table (drop k ns)
within-drop table zero ns h = h
within-drop table (suc k) [] h = tt
within-drop table (suc k) (n ∷ ns) h = within-drop table k ns h.1

pub within-append : (table : List Arg) (ns ms : List ℕ) → AllWithin table ns → AllWithin table ms → AllWithin table (ns ++ ms)
within-append table [] ms h k = k
within-append table (n ∷ ns) ms h k = (h.0, within-append table ns ms h.1 k)

pub map-take : (f : ℕ → Item) (k : ℕ) (ns : List ℕ) → map f (take k ns) ≡ take k (map f ns)
map-take f zero ns = refl
map-take f (suc k) [] = refl
map-take f (suc k) (n ∷ ns) = ap (λ xs. f n ∷ xs) (map-take f k ns)

pub map-drop : (f : ℕ → Item) (k : ℕ) (ns : List ℕ) → map f (drop k ns) ≡ drop k (map f ns)
map-drop f zero ns = refl
map-drop f (suc k) [] = refl
map-drop f (suc k) (n ∷ ns) = map-drop f k ns

pub map-append : (f : ℕ → Item) (ns ms : List ℕ) → map f (ns ++ ms) ≡ map f ns ++ map f ms
map-append f [] ms = refl
map-append f (n ∷ ns) ms = ap (λ xs. f n ∷ xs) (map-append f ns ms)

-- the item at a place of a frame
pub at-map : (f : ℕ → Item) (ns : List ℕ) (i d : ℕ) → i < length ns → at (map f ns) i ≡ f (get_or ns i d)
at-map f [] i d l = absurd (omega arith)
at-map f (m ∷ ns) zero d l = refl
at-map f (m ∷ ns) (suc i) d l = at-map f ns i d (omega arith)

pub at-past : (f : ℕ → Item) (ns : List ℕ) (i : ℕ) → length ns ≤ i → at (map f ns) i ≡ expression (Given (Some Const))
at-past f [] i l = refl
at-past f (m ∷ ns) zero l = absurd (omega arith)
at-past f (m ∷ ns) (suc i) l = at-past f ns i (omega arith)
