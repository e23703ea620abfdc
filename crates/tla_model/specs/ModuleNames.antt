-- The names of modules in a text: behind EXTENDS and INSTANCE.
use Rattle.std.specs.Prelude.{List, [], ◌∷◌, ◌++◌}
use Rattle.tla_symbols.specs.declared.lexeme.Lexeme.{Lexeme}
use Rattle.tla_tree.specs.declared.form.Form.{Form}
use Rattle.tla_tree.specs.Syntax.{Tree, Trees, Node, Nil, Cons}
use Rattle.unit_grammar.specs.Units.{UnitTree, OperatorDefinition, FunctionDefinition, ModuleDefinition, Instance, Assumption, Theorem, ModuleBegin}

-- the name after INSTANCE, where a form has one
abbrev pub instantiated : Form → List Lexeme
instantiated (Form.Instance name) = name ∷ []
instantiated _ = []

-- the names after INSTANCE in a tree, in the order of the text
abbrev mutual
  pub instances : Tree → List Lexeme
  instances (Node form span parts) = instantiated form ++ instances_in parts

  pub instances_in : Trees → List Lexeme
  instances_in Nil = []
  instances_in (Cons tree rest) = instances tree ++ instances_in rest

-- the module names of a unit: those that a nested module extends, or those of instances
abbrev pub module_names : UnitTree → List Lexeme
module_names (ModuleBegin dashes name extends) = extends
module_names (OperatorDefinition local x) = instances x
module_names (FunctionDefinition local x) = instances x
module_names (ModuleDefinition local x) = instances x
module_names (Instance local x) = instances x
module_names (Assumption word name x) = instances x
module_names (Theorem word name x) = instances x
module_names _ = []

-- the names after INSTANCE of a unit
abbrev pub instance_names : UnitTree → List Lexeme
instance_names (ModuleBegin dashes name extends) = []
instance_names unit = module_names unit

-- the names behind INSTANCE in a text, in its order
abbrev pub instances_from : List UnitTree → List Lexeme
instances_from [] = []
instances_from (unit ∷ units) = instance_names unit ++ instances_from units
