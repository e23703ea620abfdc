-- Names and texts.
use Rattle.std.specs.Prelude.{ℕ, Bool, List}
use Rattle.std.specs.declared.cmp.Ordering.{Ordering}
use Rattle.std.specs.Ordering.{nat_cmp, eq_by_cmp}
use Rattle.std.specs.Cmp.Lexicographic.{slice_cmp}
use Rattle.std.specs.List.{list_any}
use Rattle.std.specs.FinMap.{FinMap}

-- names, and the bytes of texts, are ordered byte by byte
abbrev pub name_cmp : List ℕ → List ℕ → Ordering
name_cmp = slice_cmp nat_cmp

-- whether two names, or two texts, are the same
abbrev pub name_eq : List ℕ → List ℕ → Bool
name_eq = eq_by_cmp name_cmp

-- whether a name is among these
abbrev pub has : List (List ℕ) → List ℕ → Bool
has names name = list_any (name_eq name) names

-- the texts, by their names
abbrev pub Texts : Type 0
Texts = FinMap name_cmp (List ℕ)
