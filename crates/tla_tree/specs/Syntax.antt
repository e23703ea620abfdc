-- Syntax trees, in the shape of the arena that holds them.
use Rattle.std.specs.Prelude.{ℕ, suc, cond, max, List, [], ◌∷◌}
use Rattle.tla_symbols.specs.declared.lexeme.Span.{Span}
use Rattle.tla_tree.specs.declared.form.Form.{Form}
use Rattle.tla_tree.specs.Forms.{helps}

mutual
  -- a form at each node, with the place of its lexemes and its parts
  pub data Tree : Type 0 where
    Node : (form : Form) (span : Span) (parts : Trees) → Tree

  -- the parts of a form, in their order
  pub data Trees : Type 0 where
    Nil : Trees
    Cons : (tree : Tree) (trees : Trees) → Trees

-- the trees of a list as parts
abbrev pub trees : List Tree → Trees
trees [] = Nil
trees (tree ∷ rest) = Cons tree (trees rest)

-- the form of the node at the top
abbrev pub form : Tree → Form
form (Node f s parts) = f

-- the place of the tree's lexemes in the text
abbrev pub span : Tree → Span
span (Node f s parts) = s

-- a helper form is as high as its highest part, another form one more
abbrev pub above : Form → ℕ → ℕ
above f most = cond (helps f) most (suc most)

-- the height of a tree: an atom has 1
abbrev mutual
  pub height : Tree → ℕ
  height (Node f s parts) = above f (highest parts)

  -- the greatest height of parts; without parts it is 0
  pub highest : Trees → ℕ
  highest Nil = 0
  highest (Cons tree rest) = max (height tree) (highest rest)
