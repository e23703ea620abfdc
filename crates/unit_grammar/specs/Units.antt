-- Units of modules as values: those of the code's list, with trees in place of the numbers of nodes.
use Rattle.std.specs.Prelude.{List, Option}
use Rattle.tla_symbols.specs.declared.lexeme.Lexeme.{Lexeme}
use Rattle.tla_tree.specs.declared.form.Form.TheVariants as Form
use Rattle.tla_tree.specs.Syntax.{Tree, Trees, Node}

-- a unit, with the LOCAL before it where one may stand there; a nested module is a begin, units and an end,
-- and its begin keeps the dashes that stand before the word MODULE
pub data UnitTree : Type 0 where
  Variables : (names : List Lexeme) → UnitTree
  Constants : (declarations : Trees) → UnitTree
  OperatorDefinition : (local : Option Lexeme) (definition : Tree) → UnitTree
  FunctionDefinition : (local : Option Lexeme) (definition : Tree) → UnitTree
  ModuleDefinition : (local : Option Lexeme) (definition : Tree) → UnitTree
  Instance : (local : Option Lexeme) (instance : Tree) → UnitTree
  Assumption : (word : Lexeme) (name : Option Lexeme) (claim : Tree) → UnitTree
  Theorem : (word : Lexeme) (name : Option Lexeme) (claim : Tree) → UnitTree
  Line : (dashes : Lexeme) → UnitTree
  ModuleBegin : (dashes name : Lexeme) (extends : List Lexeme) → UnitTree
  ModuleEnd : (closing : Lexeme) → UnitTree

-- a module: its name, the names that it extends, and its units with those of nested modules among them
pub record ModuleUnits : Type 0 where
  pub name : Lexeme
  pub extends : List Lexeme
  pub units : List UnitTree

-- the unit of a definition, by the form of its tree
abbrev pub defined : Option Lexeme → Tree → UnitTree
defined local (Node (Form.FunctionDefinition n) s parts) = FunctionDefinition local (Node (Form.FunctionDefinition n) s parts)
defined local (Node (Form.ModuleDefinition n) s parts) = ModuleDefinition local (Node (Form.ModuleDefinition n) s parts)
defined local x = OperatorDefinition local x
