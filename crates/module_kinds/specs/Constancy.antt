-- Which modules are constant: they declare no variable, and nothing that they write, extend or instantiate goes beyond constants.
use Rattle.std.specs.Prelude.{ℕ, Bool, true, false, ◌&&◌, List, [], ◌∷◌, Option, Some, None}
use Rattle.tla_symbols.specs.declared.lexeme.Lexeme.{Lexeme}
use Rattle.tla_symbols.specs.declared.level.Rule.{Rule}
use Rattle.tla_symbols.specs.declared.level.Rule.TheVariants.{Plain, Boolean}
use Rattle.tla_tree.specs.declared.form.Form.TheVariants as Form
use Rattle.tla_tree.specs.Syntax.{Tree, Trees, Node, Nil, Cons}
use Rattle.tla_model.specs.Lexemes.{spelled}
use Rattle.unit_grammar.specs.Units.{UnitTree, Variables}
use Rattle.module_model.specs.Instances.{unit_trees}
use Rattle.level_text.specs.FormRules.{form_rule}
use Rattle.tree_kinds.specs.Standing.{Outside}
use Rattle.tree_kinds.specs.Expanding.{bare_rule}

-- a rule of constant forms
abbrev pub is_constant_rule : Option Rule → Bool
is_constant_rule None = true
is_constant_rule (Some Plain) = true
is_constant_rule (Some Boolean) = true
is_constant_rule (Some rule) = false

-- by the names of modules and what these are
module _ (source : List ℕ) (named : List ℕ → Outside) where
  -- the module of a name is constant
  abbrev pub names_constant : Lexeme → Bool
  names_constant l = (named (spelled source l)).is_constant

  -- a form that goes not beyond constants by itself; a symbol that is passed is used
  abbrev pub is_constant_form : Form.the_data → Bool
  is_constant_form (Form.Symbol l) = is_constant_rule (bare_rule l.kind)
  is_constant_form (Form.Instance l) = names_constant l
  is_constant_form form = is_constant_rule (form_rule form)

  abbrev mutual
    -- nothing in a tree goes beyond constants
    pub is_constant_tree : Tree → Bool
    is_constant_tree (Node form s parts) = is_constant_form form && are_constant_trees parts

    -- the same of several trees
    pub are_constant_trees : Trees → Bool
    are_constant_trees Nil = true
    are_constant_trees (Cons x rest) = is_constant_tree x && are_constant_trees rest

  -- the same of a unit
  abbrev pub is_constant_unit : UnitTree → Bool
  is_constant_unit (Variables names) = false
  is_constant_unit unit = are_constant_trees (unit_trees unit)

  -- all modules that are extended are constant
  abbrev pub extends_constant : List Lexeme → Bool
  extends_constant [] = true
  extends_constant (l ∷ rest) = names_constant l && extends_constant rest
