-- Where the nodes of trees stand.
use Rattle.std.specs.Prelude.{◌≡◌, ℕ, ◌≤◌, List, ◌∷◌, ◌++◌}
use Rattle.std.specs.List.{AllByRecursion}
use Rattle.tla_symbols.specs.declared.lexeme.Lexeme.{Lexeme}
use Rattle.tla_symbols.specs.declared.lexeme.Span.{Span}
use Rattle.tla_lexeme.specs.Spans.{IsPlaced}
use Rattle.tla_tree.specs.Lexemes.{place}
use Rattle.tla_tree.specs.Syntax.{Tree, Trees, Node, Nil, Cons}
use Rattle.unit_grammar.specs.Units.{UnitTree, Constants, OperatorDefinition, FunctionDefinition, ModuleDefinition, Instance, Assumption, Theorem, ModuleUnits}

-- a span from the first to the last of one or more lexemes that stand side by side in a list
pub record SpansLexemes (lexemes : List Lexeme) (span : Span) : Type 0 where
  pub before : List Lexeme
  pub first : Lexeme
  pub more : List Lexeme
  pub behind : List Lexeme
  pub among : lexemes ≡ before ++ ((first ∷ more) ++ behind)
  pub is : span ≡ place (first ∷ more)

-- a span whose ends stand in order, both at characters of a text
pub record SpansText (text : List ℕ) (span : Span) : Type 0 where
  pub order : span.start ≤ span.end
  pub placed : IsPlaced text span

-- the spans of all nodes of a tree have a property
abbrev mutual
  pub TreeSpans : (Span → Type 0) → Tree → Type 0
  TreeSpans P (Node form span parts) = P span × PartSpans P parts

  -- those of all nodes of parts
  pub PartSpans : (Span → Type 0) → Trees → Type 0
  PartSpans P Nil = Unit {0}
  PartSpans P (Cons tree rest) = TreeSpans P tree × PartSpans P rest

-- those of all nodes of a unit: units of names alone have no node
abbrev pub UnitSpans : (Span → Type 0) → UnitTree → Type 0
UnitSpans P (Constants declarations) = PartSpans P declarations
UnitSpans P (OperatorDefinition local definition) = TreeSpans P definition
UnitSpans P (FunctionDefinition local definition) = TreeSpans P definition
UnitSpans P (ModuleDefinition local definition) = TreeSpans P definition
UnitSpans P (Instance local instance) = TreeSpans P instance
UnitSpans P (Assumption word name claim) = TreeSpans P claim
UnitSpans P (Theorem word name claim) = TreeSpans P claim
UnitSpans P _ = Unit {0}

-- those of all nodes of a module
abbrev pub NodeSpans : (Span → Type 0) → ModuleUnits → Type 0
NodeSpans P found = AllByRecursion (UnitSpans P) found.units
