-- How many symbols stand in at the INSTANCEs of a tree.
use Rattle.std.specs.Prelude.{ℕ, ◌+◌, ◌≤◌, List, if◌then◌else◌, length, nat_eq}
use Rattle.tla_symbols.specs.declared.lexeme.Lexeme.{Lexeme}
use Rattle.tla_tree.specs.declared.form.Form.TheVariants as Form
use Rattle.tla_tree.specs.Syntax.{Tree, Trees, Node, Nil, Cons}
use Rattle.tla_model.specs.Entities.{Text}
use Rattle.tla_model.specs.Lexemes.{spelled}
use Rattle.tla_model.specs.Scopes.{Finding}
use Rattle.module_model.specs.Exports.{ModuleView}
use Rattle.module_model.specs.Instances.{left_sides}
use Rattle.readable_laws.specs.Accepted.{unwritten}
use Rattle.readable_laws.specs.Uses.{implied_by}

module _ (text : Text) (named : List ℕ → ModuleView) where
  -- how many parameters of the module of a name are not written
  abbrev pub left_out : Lexeme → Trees → ℕ
  left_out l rights = unwritten (left_sides text.source rights) (named (spelled text.source l)).parameters

  module _ (start : ℕ) where
    -- how many symbols stand in at a form, if the name of its module begins here
    abbrev pub own_stand_ins : Form.the_data → Trees → ℕ
    own_stand_ins (Form.Instance l) rights = if nat_eq start l.span.start then left_out l rights else 0
    own_stand_ins form parts = 0

    abbrev mutual
      -- the same of a tree
      pub stand_ins : Tree → ℕ
      stand_ins (Node form s parts) = own_stand_ins form parts + all_stand_ins parts

      -- the same of several trees
      pub all_stand_ins : Trees → ℕ
      all_stand_ins Nil = 0
      all_stand_ins (Cons x rest) = stand_ins x + all_stand_ins rest

  -- by what was found
  module _ (found : List Finding) where
    -- no more symbols were found to stand in at a form than it has parameters that are not written
    abbrev pub IsFilledForm : Form.the_data → Trees → Type 0
    IsFilledForm (Form.Instance l) rights = length (implied_by found l.span.start) ≤ left_out l rights
    IsFilledForm form parts = Unit {0}

    abbrev mutual
      -- the same of all INSTANCEs in a tree
      pub AreFilled : Tree → Type 0
      AreFilled (Node form s parts) = IsFilledForm form parts × AreAllFilled parts

      -- the same of several trees
      pub AreAllFilled : Trees → Type 0
      AreAllFilled Nil = Unit {0}
      AreAllFilled (Cons x rest) = AreFilled x × AreAllFilled rest
