-- A module declares no more names than it holds lexemes.
use Rattle.std.proofs.Common.{◌≡◌, ℕ, ◌+◌, ◌≤◌, List, [], ◌∷◌, ◌++◌, Bool, true, false, length, arith, refl, if◌then◌else◌}
use Rattle.std.proofs.lemmas.List.{length-append}
use Rattle.tla_symbols.specs.declared.lexeme.Lexeme.{Lexeme}
use Rattle.tla_tree.specs.declared.form.Form.{Form}
use Rattle.tla_tree.specs.Syntax.{Tree, Trees, Node, Nil, Cons}
use Rattle.unit_grammar.specs.Units.{UnitTree, Variables, Constants, OperatorDefinition, FunctionDefinition, ModuleDefinition, Instance, Assumption, Theorem, Line, ModuleBegin, ModuleEnd, ModuleUnits}
use Rattle.tla_model.specs.declared.names.Binder.{Binder}
use Rattle.tla_model.specs.declared.names.Binding.TheVariants as as_binding
use Rattle.tla_model.specs.Entities.{Binding, bound_as, binding_in, binding_of, placed, defined, follows_first, declared_in, declared_round, declared_among, declared_by, declaring, variables}
use Rattle.tla_model.specs.Lexemes.{form_lexemes, lexemes, all_lexemes, unit_lexemes, units_lexemes, module_lexemes}

-- what a form declares or defines is what it holds
own-few : (form : Form) (parts : Trees) → length (placed form) + length (defined form parts) ≤ length (form_lexemes form)
own-few (Form.Name l) parts = omega arith
own-few (Form.OperatorParameter l places) parts = omega arith
own-few (Form.PrefixParameter l) parts = omega arith
own-few (Form.InfixParameter l) parts = omega arith
own-few (Form.PostfixParameter l) parts = omega arith
own-few (Form.OperatorDefinition l) parts = omega arith
own-few (Form.PrefixDefinition l) parts = omega arith
own-few (Form.InfixDefinition l) parts = omega arith
own-few (Form.PostfixDefinition l) parts = omega arith
own-few (Form.FunctionDefinition l) parts = omega arith
own-few (Form.ModuleDefinition l) parts = omega arith
own-few _ parts = omega arith

-- whatever the parts are
defined-same : (form : Form) (parts more : Trees) → length (defined form parts) ≡ length (defined form more)
defined-same (Form.OperatorDefinition l) parts more = refl
defined-same (Form.PrefixDefinition l) parts more = refl
defined-same (Form.InfixDefinition l) parts more = refl
defined-same (Form.PostfixDefinition l) parts more = refl
defined-same (Form.FunctionDefinition l) parts more = refl
defined-same (Form.ModuleDefinition l) parts more = refl
defined-same _ parts more = refl

bound-length : (binding : Binding) (names : List (Lexeme × ℕ)) → length (bound_as binding names) ≡ length names
bound-length binding [] = refl
bound-length binding (name ∷ names) = omega (arith, bound-length binding names)

either : (b : Bool) (xs ys : List Binder) (most : ℕ) → length xs ≤ most → length ys ≤ most → length (if b then xs else ys) ≤ most
either true xs ys most le more = le
either false xs ys most le more = more

mutual
  in-few : (binding : Binding) (x : Tree) → length (declared_in binding x) ≤ length (lexemes x)
  in-few binding (Node form s parts) =
      let round : length (declared_round form parts) ≤ length (defined form Nil) + length (all_lexemes parts) = round-few form parts in
      let among : length (declared_among (binding_in binding form) parts) ≤ length (all_lexemes parts) = among-few (binding_in binding form) parts in
      let whole : length (if follows_first form then declared_round form parts else defined form parts ++ declared_among (binding_in binding form) parts) ≤ length (defined form Nil) + length (all_lexemes parts) =
      either (follows_first form) (declared_round form parts) (defined form parts ++ declared_among (binding_in binding form) parts) (length (defined form Nil) + length (all_lexemes parts)) round
      (omega (arith, among, length-append (defined form parts) (declared_among (binding_in binding form) parts), defined-same form parts Nil)) in
      omega (
        arith,
        whole,
        own-few form Nil,
        bound-length binding (placed form),
        length-append (form_lexemes form) (all_lexemes parts),
        length-append (bound_as binding (placed form)) (if follows_first form then declared_round form parts else defined form parts ++ declared_among (binding_in binding form) parts),
      )

  round-few : (form : Form) (parts : Trees) → length (declared_round form parts) ≤ length (defined form Nil) + length (all_lexemes parts)
  round-few form Nil = omega arith
  round-few form (Cons x rest) =
      omega (
        arith,
        in-few (binding_of form) x,
        among-few (binding_of form) rest,
        defined-same form (Cons x rest) Nil,
        length-append (lexemes x) (all_lexemes rest),
        length-append (declared_in (binding_of form) x ++ defined form (Cons x rest)) (declared_among (binding_of form) rest),
        length-append (declared_in (binding_of form) x) (defined form (Cons x rest)),
      )

  among-few : (binding : Binding) (parts : Trees) → length (declared_among binding parts) ≤ length (all_lexemes parts)
  among-few binding Nil = omega arith
  among-few binding (Cons x rest) =
      omega (arith, in-few binding x, among-few binding rest, length-append (declared_in binding x) (declared_among binding rest), length-append (lexemes x) (all_lexemes rest))

variables-length : (names : List Lexeme) → length (variables names) ≡ length names
variables-length [] = refl
variables-length (name ∷ names) = omega (arith, variables-length names)

unit-few : (unit : UnitTree) → length (declared_by unit) ≤ length (unit_lexemes unit)
unit-few (Variables names) = omega (arith, variables-length names)
unit-few (Constants declarations) = among-few as_binding.Constant declarations
unit-few (OperatorDefinition local x) = in-few (as_binding.Bound false) x
unit-few (FunctionDefinition local x) = in-few (as_binding.Bound false) x
unit-few (ModuleDefinition local x) = in-few (as_binding.Bound false) x
unit-few (Instance local x) = in-few (as_binding.Bound false) x
unit-few (Assumption word name x) = in-few (as_binding.Bound false) x
unit-few (Theorem word name x) = in-few (as_binding.Bound false) x
unit-few (Line dashes) = omega arith
unit-few (ModuleBegin dashes name extends) = omega arith
unit-few (ModuleEnd closing) = omega arith

units-few : (units : List UnitTree) → length (declaring units) ≤ length (units_lexemes units)
units-few [] = omega arith
units-few (unit ∷ units) = omega (arith, unit-few unit, units-few units, length-append (declared_by unit) (declaring units), length-append (unit_lexemes unit) (units_lexemes units))

pub declaring-few : (found : ModuleUnits) → length (declaring found.units) ≤ length (module_lexemes found)
declaring-few found = omega (arith, units-few found.units, length-append found.extends (units_lexemes found.units))
