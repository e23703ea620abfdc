-- Which trees are constant is told by which modules are.
use Rattle.std.proofs.Common.{◌≡◌, ℕ, Bool, true, false, List, [], ◌∷◌, ◌++◌, Some, None, refl, ap, ◌∙◌}
use Rattle.std.specs.Prelude.{◌&&◌, if◌then◌else◌, is_some, Option}
use Rattle.std.specs.Option.{option_map}
use Rattle.std.specs.Str.{bytes_eq}
use Rattle.std.proofs.lemmas.List.{map-append}
use Rattle.tla_symbols.specs.declared.lexeme.Lexeme.{Lexeme}
use Rattle.tla_tree.specs.declared.form.Form.TheVariants as Form
use Rattle.tla_tree.specs.Syntax.{Tree, Trees, Node, Nil, Cons}
use Rattle.tla_model.specs.Lexemes.{spelled}
use Rattle.unit_grammar.specs.Units.{UnitTree, OperatorDefinition, FunctionDefinition, ModuleDefinition, Instance, Assumption, Theorem}
use Rattle.module_scope.specs.Environments.{Environment, behind, is_taken, meaning}
use Rattle.tree_kinds.specs.Standing.{Outside}
use Rattle.module_kinds.specs.Constancy.{are_constant_trees, extends_constant, is_constant_form, is_constant_tree, is_constant_unit}
use Rattle.module_kinds.specs.ModuleKinds.{module_under}
use Rattle.module_constancy.specs.Places.{AreConstancies, constancies, constant_by}

-- ---- trees

module _ (source : List ℕ) (one other : List ℕ → Outside) (same : (name : List ℕ) → (one name).is_constant ≡ (other name).is_constant) where
  same-form : (form : Form.the_data) → is_constant_form source one form ≡ is_constant_form source other form
  same-form (Form.Instance l) = same (spelled source l)
  same-form _ = refl

  mutual
    same-tree : (x : Tree) → is_constant_tree source one x ≡ is_constant_tree source other x
    same-tree (Node form s parts) = λ i. same-form form i && same-trees parts i

    pub same-trees : (xs : Trees) → are_constant_trees source one xs ≡ are_constant_trees source other xs
    same-trees Nil = refl
    same-trees (Cons x rest) = λ i. same-tree x i && same-trees rest i

  pub same-unit : (unit : UnitTree) → is_constant_unit source one unit ≡ is_constant_unit source other unit
  same-unit (OperatorDefinition local x) = same-trees (Cons x Nil)
  same-unit (FunctionDefinition local x) = same-trees (Cons x Nil)
  same-unit (ModuleDefinition local x) = same-trees (Cons x Nil)
  same-unit (Instance local x) = same-trees (Cons x Nil)
  same-unit (Assumption word name x) = same-trees (Cons x Nil)
  same-unit (Theorem word name x) = same-trees (Cons x Nil)
  same-unit _ = refl

  pub same-extends : (names : List Lexeme) → extends_constant source one names ≡ extends_constant source other names
  same-extends [] = refl
  same-extends (l ∷ names) = λ i. same (spelled source l) i && same-extends names i

-- ---- modules that can be named

-- what is known of a nested module
abbrev pub constancy : Option Outside → Option Bool
constancy known = option_map (λ (outside : Outside). outside.is_constant) known

pub constancies-meaning : (modules : Environment Outside) (name : List ℕ) → meaning (constancies modules) name ≡ option_map constancy (meaning modules name)
constancies-meaning [] name = refl
constancies-meaning (entry ∷ modules) name = by (bytes_eq name entry.0) (constancies-meaning modules name)
  where
    by : (b : Bool) → meaning (constancies modules) name ≡ option_map constancy (meaning modules name)
        → (if b then Some (constancy entry.1) else meaning (constancies modules) name) ≡ option_map constancy (if b then Some entry.1 else meaning modules name)
    by true rest = refl
    by false rest = rest

-- whether the module of a name is constant
pub under-constant : (constant : List ℕ → Bool) (files : List ℕ → Outside) → AreConstancies constant files → (known : Option (Option Outside)) (name : List ℕ) → (module_under files known name).is_constant ≡ constant_by constant (option_map constancy known) name
under-constant constant files are None name = are name
under-constant constant files are (Some None) name = refl
under-constant constant files are (Some (Some outside)) name = refl

some-mapped : (found : Option (Option Outside)) → is_some (option_map constancy found) ≡ is_some found
some-mapped None = refl
some-mapped (Some known) = refl

pub constancies-behind : (modules : Environment Outside) (name : List ℕ) (outside : Outside) → constancies (behind modules name outside) ≡ behind (constancies modules) name outside.is_constant
constancies-behind modules name outside = by (is_taken modules name) (ap is_some (constancies-meaning modules name) ∙ some-mapped (meaning modules name))
  where
    by : (b : Bool) → is_taken (constancies modules) name ≡ b → constancies (if b then modules else (modules ++ (name, Some outside) ∷ [])) ≡ behind (constancies modules) name outside.is_constant
    by true same = rw same refl
    by false same = rw same (map-append (λ (entry : List ℕ × Option Outside). (entry.0, constancy entry.1)) modules ((name, Some outside) ∷ []))
