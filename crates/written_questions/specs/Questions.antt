-- What is asked of resolved trees: as `Questions` of `flattened_trees`, with trees in place of the numbers of a flat module.
use Rattle.std.specs.Prelude.{ℕ, List, [], ◌∷◌, ◌++◌, if◌then◌else◌, map, slice_get}
use Rattle.tla_symbols.specs.declared.lexeme.LexKind.TheVariants as LexKind
use Rattle.tla_symbols.specs.declared.lexeme.Lexeme.{Lexeme}
use Rattle.tla_symbols.specs.declared.lexeme.Span.{Span}
use Rattle.tla_symbols.specs.declared.op.Op.TheVariants as Op
use Rattle.tla_tree.specs.declared.form.Form.TheVariants as Form
use Rattle.tla_tree.specs.Syntax.{Trees, Node as TreeNode, Nil as NoTrees, Cons as ConsTree}
use Rattle.tla_model.specs.declared.entity.Level.{Level}
use Rattle.tla_model.specs.Entities.{Meaning}
use Rattle.tla_model.specs.Scopes.{is_free, prefixed, itself as as_spelled}
use Rattle.kind_text.specs.FlatModule.{FlatModule}
use Rattle.tree_kinds.specs.TreeLevels.{is_judged}
use Rattle.flattened_trees.specs.Questions as flat_questions
use Rattle.resolved_trees.specs.Resolved.{Definition, Instance, Resolved, definition_at, instance_at, resolved}

-- one question
pub data Asked : Type 0 where
  -- the level of a use is that of a tree
  UseOf : (name : Lexeme) (tree : Resolved) → Asked
  -- the level of a use is known
  UseAs : (name : Lexeme) (level : Level) → Asked
  -- a tree has a kind, or something that it is made of has none
  HasKind : (at : Span) (tree : Resolved) → Asked
  -- a replacement has at most this level
  IsAtMost : (at : Span) (tree : Resolved) (most : ℕ) → Asked
  -- a definition is not too deep
  IsShallow : (name : Lexeme) (definition : Definition) → Asked
  -- the same of a module definition, by its instance
  IsShallowInstance : (name : Lexeme) (instance : Instance) → Asked
  -- the same of an assumption or a theorem, by its first word
  IsShallowTree : (word : Lexeme) (tree : Resolved) → Asked
  -- an assumption is constant, or has no kind
  IsConstant : (at : Span) (tree : Resolved) → Asked

-- a question about trees over the symbols and parameters of a frame, each by itself
pub record Question : Type 0 where
  pub frame : List Meaning
  pub asked : Asked

-- these over a frame
abbrev pub over : List Meaning → List Asked → List Question
over frame asked = map (λ a. record { frame = frame; asked = a }) asked

-- ---- at a tree

-- the names of a path, the last with the level of the tree
abbrev pub path_asks : Resolved → Trees → List Asked
path_asks x NoTrees = []
path_asks x (ConsTree (TreeNode (Form.Segment l) s arguments) NoTrees) = UseOf l x ∷ []
path_asks x (ConsTree (TreeNode (Form.Segment l) s arguments) (ConsTree next rest)) = UseAs l Level.Instance ∷ path_asks x (ConsTree next rest)
path_asks x (ConsTree part rest) = path_asks x rest

-- a symbol that modules define
abbrev pub symbol_asks : Resolved → Lexeme → (Op.the_data → Op.the_data) → LexKind.the_data → List Asked
symbol_asks x l which (LexKind.Sym op) = if is_free (which op) then UseOf l x ∷ [] else []
symbol_asks x l which _ = []

-- the uses that a form is itself
abbrev pub form_asks : Resolved → Form.the_data → Trees → List Asked
form_asks x Form.Identifier parts = path_asks x parts
form_asks x (Form.Symbol l) parts = symbol_asks x l as_spelled l.kind
form_asks x (Form.Prefix l) parts = symbol_asks x l prefixed l.kind
form_asks x (Form.Infix l) parts = symbol_asks x l as_spelled l.kind
form_asks x (Form.Postfix l) parts = symbol_asks x l as_spelled l.kind
form_asks x form parts = []

-- whether a form that is judged has a kind
abbrev pub kind_asks : Resolved → Form.the_data → Span → List Asked
kind_asks x form s = if is_judged form then HasKind s x ∷ [] else []

-- all that is asked of the tree of a form itself
abbrev pub asks_at : Resolved → Form.the_data → Span → Trees → List Asked
asks_at x form s parts = form_asks x form parts ++ kind_asks x form s

-- ---- of a flat module

module _ (flat : FlatModule) where
  -- what is asked of nodes is asked of their trees
  abbrev pub asked_in : flat_questions.Asked → Asked
  asked_in (flat_questions.UseOf l i) = UseOf l (resolved flat i)
  asked_in (flat_questions.UseAs l level) = UseAs l level
  asked_in (flat_questions.HasKind s i) = HasKind s (resolved flat i)
  asked_in (flat_questions.IsAtMost s i most) = IsAtMost s (resolved flat i) most
  asked_in (flat_questions.IsShallow l d) = IsShallow l (definition_at flat (resolved flat) (slice_get flat.definitions d))
  asked_in (flat_questions.IsShallowInstance l j) = IsShallowInstance l (instance_at flat (resolved flat) (slice_get flat.instances j))
  asked_in (flat_questions.IsShallowNode l i) = IsShallowTree l (resolved flat i)
  asked_in (flat_questions.IsConstant s i) = IsConstant s (resolved flat i)

  -- the same over a frame
  abbrev pub question_in : flat_questions.Question → Question
  question_in q = record { frame = q.frame; asked = asked_in q.asked }

  -- the same of all
  abbrev pub questions_in : List flat_questions.Question → List Question
  questions_in qs = map question_in qs
