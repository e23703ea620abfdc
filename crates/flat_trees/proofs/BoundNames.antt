-- What stands for bound names is left where definitions and parameters come to stand for something.
use Rattle.std.proofs.Common.{◌≡◌, ℕ, suc, Bool, true, false, cond, List, [], ◌∷◌, ◌++◌, map, refl, sym, ap, ◌∙◌, subst}
use Rattle.std.specs.List.{AllByRecursion}
use Rattle.tla_symbols.specs.declared.lexeme.Lexeme.{Lexeme}
use Rattle.tla_tree.specs.declared.form.Form.TheVariants as Form
use Rattle.tla_tree.specs.Syntax.{Trees}
use Rattle.tla_model.specs.declared.names.Binding.TheVariants as as_binding
use Rattle.tla_model.specs.Entities.{Defines, Nothing, Operator, Function, Module, Meaning, Text, all_placed, binding_of, bound_as, defined, defined_as, defines, is_group, meant}
use Rattle.tla_model.specs.Scopes.{all_grouped}
use Rattle.tree_kinds.specs.Standing.{is_bound}
use Rattle.tree_kinds.proofs.Standings.{bound-apart}
use Rattle.flat_trees.specs.Stands.{Stand, Place}
use Rattle.flat_trees.specs.Layouts.{order_of, parameters_of, with_places, with_stand, with_stands}

-- none of these is bound
abbrev pub AreFree : List Meaning → Type 0
AreFree meanings = AllByRecursion (λ (m : Meaning). is_bound m ≡ false) meanings

-- a bound name stands as before where others come to stand for something
module _ (other : Meaning) (bound : is_bound other ≡ true) where
  stand-left : (stands : Meaning → Stand) (meaning : Meaning) (stand : Stand) → is_bound meaning ≡ false → with_stand stands meaning stand other ≡ stands other
  stand-left stands meaning stand free = ap (λ b. cond b stand (stands other)) (bound-apart other meaning bound free)

  pub stands-left : (meanings : List Meaning) (stands : Meaning → Stand) (stand : Stand) → AreFree meanings → with_stands stands meanings stand other ≡ stands other
  stands-left [] stands stand free = refl
  stands-left (m ∷ rest) stands stand free = stands-left rest (with_stand stands m stand) stand free.1 ∙ stand-left stands m stand free.0

  pub places-left : (meanings : List Meaning) (stands : Meaning → Stand) (place : ℕ) → AreFree meanings → with_places stands meanings place other ≡ stands other
  places-left [] stands place free = refl
  places-left (m ∷ rest) stands place free = places-left rest (with_stand stands m (Place place (order_of m))) (suc place) free.1 ∙ stand-left stands m (Place place (order_of m)) free.0

-- an operator or a module definition binds parameters
pub operator-binds : (form : Form.the_data) (l : Lexeme) → defines form ≡ Operator l → binding_of form ≡ as_binding.Parameter
operator-binds (Form.OperatorDefinition k) l e = refl
operator-binds (Form.PrefixDefinition k) l e = refl
operator-binds (Form.InfixDefinition k) l e = refl
operator-binds (Form.PostfixDefinition k) l e = refl
operator-binds form l e = cc

pub module-binds : (form : Form.the_data) (l : Lexeme) → defines form ≡ Module l → binding_of form ≡ as_binding.Parameter
module-binds (Form.ModuleDefinition k) l e = refl
module-binds form l e = cc

-- what a form defines is not bound
module _ (text : Text) where
  defined-free : (what : Defines) (parts : Trees) → AreFree (map (meant text) (defined_as what parts))
  defined-free Nothing parts = tt
  defined-free (Operator l) parts = (refl, tt)
  defined-free (Function l) parts = (refl, tt)
  defined-free (Module l) parts = (refl, tt)

  pub definition-free : (form : Form.the_data) (parts : Trees) → AreFree (map (meant text) (defined form parts))
  definition-free form parts = defined-free (defines form) parts

  as-parameters : (names : List (Lexeme × ℕ)) → AreFree (map (meant text) (bound_as as_binding.Parameter names))
  as-parameters [] = tt
  as-parameters (name ∷ names) = (refl, as-parameters names)

  -- nor are parameters
  pub parameters-free : (form : Form.the_data) (parts : Trees) → binding_of form ≡ as_binding.Parameter → AreFree (parameters_of text form parts)
  parameters-free form parts is = by_group (is_group form)
    where
      by_group : (group : Bool) → AreFree (map (meant text) (cond group [] (bound_as (binding_of form) (all_placed parts ++ all_grouped parts))))
      by_group true = tt
      by_group false = subst (λ b. AreFree (map (meant text) (bound_as b (all_placed parts ++ all_grouped parts)))) (sym is) (as-parameters (all_placed parts ++ all_grouped parts))
