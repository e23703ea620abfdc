-- When what stands at paths from a module depends on some names alone, and when forms bind such names.
use Rattle.std.specs.Prelude.{◌≡◌, ◌⊎◌, true, false, Some}
use Rattle.std.specs.List.{AllByRecursion}
use Rattle.tla_tree.specs.declared.form.Form.TheVariants as Form
use Rattle.tla_tree.specs.Syntax.{Tree, Trees, Node, Nil, Cons}
use Rattle.tla_model.specs.declared.names.Binding.TheVariants as as_binding
use Rattle.tla_model.specs.Contexts.{Context, meaning_of}
use Rattle.tla_model.specs.Entities.{Meaning, Text, entity_of, meant}
use Rattle.tla_model.specs.Scopes.{binders}
use Rattle.tla_model.specs.Tables.{Named}
use Rattle.tree_kinds.specs.Standing.{Environment, Outside, Steps, is_bound}
use Rattle.flat_kinds.specs.Declarations.{Declarations, IsNoDefinition}

-- a name is by its declaration no definition and no instance, or it is bound
abbrev pub IsOpen : Declarations → Meaning → Type 0
IsOpen declares meaning = IsNoDefinition declares meaning ⊎ (is_bound meaning ≡ true)

module _ (P : Meaning → Type 0) where
  -- such names stand for the same in both
  abbrev pub AgreeOn : Environment → Environment → Type 0
  AgreeOn a b = (meaning : Meaning) → P meaning → a meaning ≡ b meaning

  -- what stands at paths from a module depends on such names alone
  abbrev pub IsSteady : Outside → Type 0
  IsSteady outside = (a b : Environment) → AgreeOn a b → (path : Steps) → outside.standing a path ≡ outside.standing b path

  -- so does what stands for all names that can be used
  pub record AreAlike (context : Context) (a b : Environment) : Type 0 where
    pub agree : AgreeOn a b
    pub used : (name : Named) (meaning : Meaning) → meaning_of context name ≡ Some meaning → a meaning ≡ b meaning

  module _ (text : Text) where
    -- in its body a function's name is bound
    abbrev pub BindsOwn : Form.the_data → Type 0
    BindsOwn (Form.FunctionDefinition l) = P (meant text (record { name = l; entity = entity_of (as_binding.Bound false) 0 }))
    BindsOwn form = Unit {0}

    -- what a form binds are such names
    abbrev pub BindsSo : Form.the_data → Trees → Type 0
    BindsSo form parts = AllByRecursion (λ binder. P (meant text binder)) (binders form parts) × BindsOwn form

    abbrev mutual
      -- the same of all forms of a tree
      pub BindsAll : Tree → Type 0
      BindsAll (Node form s parts) = BindsSo form parts × BindAll parts

      pub BindAll : Trees → Type 0
      BindAll Nil = Unit {0}
      BindAll (Cons x rest) = BindsAll x × BindAll rest
