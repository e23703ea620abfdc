-- What expressions are as parts.
use Rattle.std.proofs.Common.{◌≡◌, ℕ, List, [], false, Option, refl}
use Rattle.tla_symbols.specs.declared.lexeme.Lexeme.{Lexeme}
use Rattle.tla_tree.specs.declared.form.Form.{Form}
use Rattle.tla_tree.specs.declared.form.Form.TheVariants as form
use Rattle.tla_tree.specs.Forms.{helps}
use Rattle.tla_tree.specs.Syntax.{Trees}
use Rattle.tla_tree.specs.Derivation as d
use Rattle.tla_model.specs.Entities.{Nothing, defines, is_group, placed}
use Rattle.tla_model.specs.Scopes.{has_set}
use Rattle.tree_kinds.specs.Expanding.{Whole, part_of, stands_outside}

-- a form of an expression places, groups and defines nothing
pub record IsWholeForm (f : Form) : Type 0 where
  pub part : part_of f ≡ Whole
  pub set : has_set f ≡ false
  pub outside : stands_outside f ≡ false
  pub helper : helps f ≡ false
  pub names : placed f ≡ []
  pub group : is_group f ≡ false
  pub definition : defines f ≡ Nothing

-- the forms of expressions
pub spelled-whole : {f : Form} {xs : Trees} {a : List Lexeme} {i : ℕ} {o : Option Lexeme} → d.Spells f xs a i o → IsWholeForm f
spelled-whole (d.identifier xs) = record { part = refl; set = refl; outside = refl; helper = refl; names = refl; group = refl; definition = refl }
spelled-whole _ = record { part = refl; set = refl; outside = refl; helper = refl; names = refl; group = refl; definition = refl }

-- a bare symbol
pub symbol-whole : (l : Lexeme) → IsWholeForm (form.Symbol l)
symbol-whole l = record { part = refl; set = refl; outside = refl; helper = refl; names = refl; group = refl; definition = refl }
