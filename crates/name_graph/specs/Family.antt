-- Which names need which, and what follows of it.
use Rattle.std.specs.Prelude.{◌≡◌, ◌<◌, ◌↔◌, ℕ, List, [], Some, Contains, IsSome, slice_get, unwrap_or}
use Rattle.std.specs.Ordering.{nat_cmp}
use Rattle.std.specs.Cmp.Lexicographic.{slice_cmp}
use Rattle.std.specs.Coded.{Coded, coded_list, coded_ℕ}
use Rattle.std.specs.FinMap.{FinMap, get}
use Rattle.std.specs.FinMap as map
use Rattle.std.specs.declared.cmp.Ordering.{Ordering}
use Rattle.std.specs.declared.cmp.Ordering.TheVariants.{Less}
use Rattle.index_graph.specs.Leading.{Leads}
use Rattle.name_graph.specs.declared.GraphError.{GraphError}
use Rattle.name_graph.specs.declared.GraphError.TheVariants.{Memory, Cyclic}

-- names are ordered byte by byte
abbrev pub name_cmp : List ℕ → List ℕ → Ordering
name_cmp = slice_cmp nat_cmp

-- each name that was put, with the names that it needs
abbrev pub Family : Type 0
Family = FinMap name_cmp (List (List ℕ))

-- how two families are told apart
abbrev pub family_code : Coded Family
family_code = map.code (coded_list coded_ℕ) (coded_list (coded_list coded_ℕ))

-- one name needs another; a name that was not put needs none
abbrev pub Needs : Family → List ℕ → List ℕ → Type 0
Needs family name need = Contains (unwrap_or (get family name) []) need

-- one or more needs lead from one name to another
abbrev pub Reaches : Family → List ℕ → List ℕ → Type 0
Reaches family = Leads (Needs family)

-- no name stands twice
abbrev pub AreOnce : List (List ℕ) → Type 0
AreOnce names = (i j : ℕ) (name : List ℕ) → slice_get names i ≡ Some name → slice_get names j ≡ Some name → i ≡ j

-- each name that was put, once, and no other; each behind every put name that it needs
pub record IsOrder (family : Family) (names : List (List ℕ)) : Type 0 where
  pub all : (name : List ℕ) → IsSome (get family name) ↔ Contains names name
  pub once : AreOnce names
  pub behind : (i j : ℕ) (name need : List ℕ) → slice_get names i ≡ Some name → slice_get names j ≡ Some need → Needs family name need → j < i

-- the first name in byte order that reaches itself
pub record IsFirstCyclic (family : Family) (name : List ℕ) : Type 0 where
  pub cyclic : Reaches family name name
  pub first : (other : List ℕ) → Reaches family other other → name_cmp other name ≡ Less → ⊥

-- what a fault says of a family
abbrev pub HasFault : Family → GraphError → Type 0
HasFault family Memory = Unit {0}
HasFault family (Cyclic name) = IsFirstCyclic family name
