-- What a part that was read stands for: a tree, and the lexemes that it spells.
use Rattle.std.specs.Prelude.{◌≡◌, ◌+◌, ◌<◌, List, [], ◌∷◌, ◌++◌, length, Option, Some, None}
use Rattle.tla_symbols.specs.declared.lexeme.Span.{Span}
use Rattle.tla_symbols.specs.declared.lexeme.Lexeme.{Lexeme}
use Rattle.tla_tree.specs.Arena as Arena
use Rattle.tla_tree.specs.Arena.{tree_at}
use Rattle.tla_tree.specs.Lexemes.{place}
use Rattle.tla_tree.specs.Syntax.{Tree, Trees, Node}
use Rattle.tree_parts.specs.declared.part.Part.{Part}

-- the span of lexemes that were read in a row, if there are any
abbrev pub span_of : List Lexeme → Option Span
span_of [] = None
span_of (t ∷ rest) = Some (place (t ∷ rest))

-- of two stretches, the one behind the other
abbrev pub joined : Option Span → Option Span → Option Span
joined None last = last
joined (Some first) None = Some first
joined (Some first) (Some last) = Some (record { start = first.start; end = last.end })

-- no lexeme covers the part of no byte at the text's start
abbrev pub covered : Option Span → Span
covered None = record { start = 0; end = 0 }
covered (Some span) = span

-- a part of the arena is a tree, and its span that of the lexemes that it spells
pub record IsPart (nodes : List Arena.Node) (part : Part) (tree : Tree) (spelled : List Lexeme) : Type 0 where
  pub there : part.node < length nodes
  pub is : tree_at nodes part.node ≡ tree
  pub span : part.span ≡ span_of spelled

-- it is some tree
abbrev pub IsThere : List Arena.Node → Part → Type 0
IsThere nodes part = (tree : Tree) × (spelled : List Lexeme) × IsPart nodes part tree spelled

-- the nodes that were there stay
abbrev pub Grows : List Arena.Node → List Arena.Node → Type 0
Grows nodes more = (rest : List Arena.Node) × (more ≡ nodes ++ rest)

-- a leaf was made
pub record Adds (nodes more : List Arena.Node) (part : Part) (tree : Tree) (spelled : List Lexeme) : Type 0 where
  pub grows : Grows nodes more
  pub one : length more ≡ length nodes + 1
  pub is : IsPart more part tree spelled

-- the parts of a node
abbrev pub parts_of : Tree → Trees
parts_of (Node f s parts) = parts
