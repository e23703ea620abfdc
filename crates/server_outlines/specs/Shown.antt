-- What is shown of a unit stands in the text: for private clauses.
use Rattle.std.specs.Prelude.{ℕ, List, Option}
use Rattle.std.specs.List.{AllByRecursion}
use Rattle.std.specs.Option.{IfSome}
use Rattle.tla_symbols.specs.declared.lexeme.Lexeme.{Lexeme}
use Rattle.tla_lexeme.specs.Spans.{IsPlaced}
use Rattle.tla_tree.specs.Syntax.{Tree, Trees, Nil, Cons, form, span}
use Rattle.tla_model.specs.Lexemes.{LiesIn, form_lexemes}
use Rattle.unit_grammar.specs.Units.{UnitTree, Variables, Constants, OperatorDefinition, FunctionDefinition, ModuleDefinition, Assumption, Theorem, ModuleBegin, ModuleEnd}

-- a tree whose ends stand in the text, and its name too
pub record IsShown (text : List ℕ) (x : Tree) : Type 0 where
  pub span : IsPlaced text (span x)
  pub name : AllByRecursion (LiesIn text) (form_lexemes (form x))

-- so are all of these
abbrev pub AreShown : List ℕ → Trees → Type 0
AreShown text Nil = Unit {0}
AreShown text (Cons x rest) = IsShown text x × AreShown text rest

-- a definition with its LOCAL
pub record IsDefinitionShown (text : List ℕ) (local : Option Lexeme) (x : Tree) : Type 0 where
  pub local_lies : IfSome local (LiesIn text)
  pub shown : IsShown text x

-- a claim with its word and its name
pub record IsClaimShown (text : List ℕ) (word : Lexeme) (name : Option Lexeme) (x : Tree) : Type 0 where
  pub word_lies : LiesIn text word
  pub name_lies : IfSome name (LiesIn text)
  pub shown : IsShown text x

-- the begin of a nested module
pub record IsBeginShown (text : List ℕ) (dashes name : Lexeme) : Type 0 where
  pub dashes_lie : LiesIn text dashes
  pub name_lies : LiesIn text name

-- what is shown of a unit stands in the text
abbrev pub IsUnitShown : List ℕ → UnitTree → Type 0
IsUnitShown text (Variables names) = AllByRecursion (LiesIn text) names
IsUnitShown text (Constants declarations) = AreShown text declarations
IsUnitShown text (OperatorDefinition local x) = IsDefinitionShown text local x
IsUnitShown text (FunctionDefinition local x) = IsDefinitionShown text local x
IsUnitShown text (ModuleDefinition local x) = IsDefinitionShown text local x
IsUnitShown text (Assumption word name x) = IsClaimShown text word name x
IsUnitShown text (Theorem word name x) = IsClaimShown text word name x
IsUnitShown text (ModuleBegin dashes name extends) = IsBeginShown text dashes name
IsUnitShown text (ModuleEnd closing) = LiesIn text closing
IsUnitShown text _ = Unit {0}
