-- What stands beside an operand, with its precedence range.
use Rattle.tla_symbols.specs.declared.place.Range.{Range}
use Rattle.tla_tree.specs.Edges as Edges
use Rattle.tla_tree.specs.Edges.{lo, hi, associates}
use Rattle.precedence.specs.declared.neighbour.Operator.{Operator}
use Rattle.precedence.specs.declared.neighbour.Neighbour.{Neighbour}

-- a symbol at its place, as an edge
abbrev pub edge : Operator → Edges.Edge
edge operator = Edges.Operator operator.op operator.fix

-- what stands beside an operand, as an edge
abbrev pub edge_of : Neighbour → Edges.Edge
edge_of (Neighbour.Operator operator) = edge operator
edge_of Neighbour.Open = Edges.Open
edge_of Neighbour.Applied = Edges.Applied
edge_of Neighbour.Selected = Edges.Selected

-- the precedence range of what stands beside an operand
abbrev pub range_on : Neighbour → Range
range_on neighbour =
    record { lo = lo (edge_of neighbour); hi = hi (edge_of neighbour); left = associates (edge_of neighbour) }
