-- What is read of kinds that were found of the nodes from one on.
use Rattle.std.specs.Prelude.{ℕ, ◌-◌, Bool, false, ◌&&◌, List, Option, Some, None, is_some, not, slice_get, slice_index_or}
use Rattle.std.specs.List.{list_all}
use Rattle.tla_symbols.specs.declared.level.Kind.{Kind}
use Rattle.kind_text.specs.FlatModule.{FlatModule, Node}

-- the kind of a node, where the first of these is of the node start
abbrev pub found_kind : ℕ → List (Option Kind) → ℕ → Option Kind
found_kind start kinds i = slice_index_or kinds (i - start) None

-- all that a node is made of has a kind
abbrev pub parts_have_kinds : ℕ → List (Option Kind) → Option Node → Bool
parts_have_kinds start kinds None = false
parts_have_kinds start kinds (Some node) = list_all (λ i. is_some (found_kind start kinds i)) node.parts

-- a node has no kind, though all that it is made of has one
abbrev pub is_refused : FlatModule → ℕ → List (Option Kind) → ℕ → Bool
is_refused flat start kinds i = not (is_some (found_kind start kinds i)) && parts_have_kinds start kinds (slice_get flat.nodes i)
