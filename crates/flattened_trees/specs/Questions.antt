-- What is asked of the nodes of a tree: the levels of uses, what is refused, and what is too deep.
use Rattle.std.specs.Prelude.{ℕ, List, [], ◌∷◌, ◌++◌, if◌then◌else◌, map}
use Rattle.tla_symbols.specs.declared.lexeme.LexKind.TheVariants as LexKind
use Rattle.tla_symbols.specs.declared.lexeme.Lexeme.{Lexeme}
use Rattle.tla_symbols.specs.declared.lexeme.Span.{Span}
use Rattle.tla_symbols.specs.declared.op.Op.TheVariants as Op
use Rattle.tla_tree.specs.declared.form.Form.TheVariants as Form
use Rattle.tla_tree.specs.Syntax.{Trees, Node, Nil, Cons}
use Rattle.tla_model.specs.declared.entity.Level.{Level}
use Rattle.tla_model.specs.Entities.{Meaning}
use Rattle.tla_model.specs.Scopes.{is_free, prefixed, itself as as_spelled}
use Rattle.tree_kinds.specs.TreeLevels.{is_judged}

-- one question
pub data Asked : Type 0 where
  -- the level of a use is that of a node
  UseOf : (name : Lexeme) (node : ℕ) → Asked
  -- the level of a use is known
  UseAs : (name : Lexeme) (level : Level) → Asked
  -- a node has a kind, or something that it is made of has none
  HasKind : (at : Span) (node : ℕ) → Asked
  -- a replacement has at most this level
  IsAtMost : (at : Span) (node most : ℕ) → Asked
  -- a definition, by number, is not too deep
  IsShallow : (name : Lexeme) (definition : ℕ) → Asked
  -- the same of a module definition, by the number of its instance
  IsShallowInstance : (name : Lexeme) (instance : ℕ) → Asked
  -- the same of an assumption or a theorem, by its first word
  IsShallowNode : (word : Lexeme) (node : ℕ) → Asked
  -- an assumption is constant, or has no kind
  IsConstant : (at : Span) (node : ℕ) → Asked

-- a question about nodes over the symbols and parameters of a frame, each by itself
pub record Question : Type 0 where
  pub frame : List Meaning
  pub asked : Asked

-- these over a frame
abbrev pub over : List Meaning → List Asked → List Question
over frame asked = map (λ a. record { frame = frame; asked = a }) asked

-- ---- at a node

-- the names of a path, the last with the level of the node
abbrev pub path_asks : ℕ → Trees → List Asked
path_asks i Nil = []
path_asks i (Cons (Node (Form.Segment l) s arguments) Nil) = UseOf l i ∷ []
path_asks i (Cons (Node (Form.Segment l) s arguments) (Cons x rest)) = UseAs l Level.Instance ∷ path_asks i (Cons x rest)
path_asks i (Cons x rest) = path_asks i rest

-- a symbol that modules define
abbrev pub symbol_asks : ℕ → Lexeme → (Op.the_data → Op.the_data) → LexKind.the_data → List Asked
symbol_asks i l which (LexKind.Sym op) = if is_free (which op) then UseOf l i ∷ [] else []
symbol_asks i l which _ = []

-- the uses that a form is itself
abbrev pub form_asks : ℕ → Form.the_data → Trees → List Asked
form_asks i Form.Identifier parts = path_asks i parts
form_asks i (Form.Symbol l) parts = symbol_asks i l as_spelled l.kind
form_asks i (Form.Prefix l) parts = symbol_asks i l prefixed l.kind
form_asks i (Form.Infix l) parts = symbol_asks i l as_spelled l.kind
form_asks i (Form.Postfix l) parts = symbol_asks i l as_spelled l.kind
form_asks i form parts = []

-- whether a form that is judged has a kind
abbrev pub kind_asks : ℕ → Form.the_data → Span → List Asked
kind_asks i form s = if is_judged form then HasKind s i ∷ [] else []

-- all that is asked of the node of a form itself
abbrev pub asks_at : ℕ → Form.the_data → Span → Trees → List Asked
asks_at i form s parts = form_asks i form parts ++ kind_asks i form s
