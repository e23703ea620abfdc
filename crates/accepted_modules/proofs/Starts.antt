-- Names that begin at places of their own have declarations of their own.
use Rattle.std.proofs.Common.{◌≡◌, ◌≤◌, ◌+◌, ℕ, zero, suc, List, [], ◌∷◌, ◌++◌, Bool, true, false, cond, Option, Some, refl, sym, ap, ◌∙◌, map, if◌then◌else◌, nat_eq, arith}
use Rattle.std.specs.Prelude.{slice_get}
use Rattle.std.specs.List.{AllByRecursion}
use Rattle.std.proofs.lemmas.Bool.{eq-eqb, eqb-true}
use Rattle.tla_symbols.specs.declared.lexeme.Lexeme.{Lexeme}
use Rattle.tla_symbols.specs.declared.lexeme.Span.{Span}
use Rattle.tla_tree.specs.declared.form.Form.TheVariants as Form
use Rattle.tla_tree.specs.Syntax.{Tree, Trees, Node, Nil, Cons}
use Rattle.unit_grammar.specs.Units.{UnitTree, Variables, Constants, OperatorDefinition, FunctionDefinition, ModuleDefinition, Instance, Assumption, Theorem, Line, ModuleBegin, ModuleEnd}
use Rattle.tla_model.specs.declared.names.Binder.{Binder}
use Rattle.tla_model.specs.declared.names.Binding.TheVariants as as_binding
use Rattle.tla_model.specs.Entities.{Binding, all_placed, binding_in, binding_of, bound_as, declared_among, declared_by, declared_in, declared_round, declaring, defined, follows_first, place_in, placed, within}
use Rattle.tla_model.specs.Scopes.{definition}
use Rattle.module_model.specs.Instances.{all_named_instances, named_instance, named_instances, unit_trees}
use Rattle.flat_kinds.specs.Declarations.{declared_names}
use Rattle.lexeme_laws.specs.Apart.{begins_at, counted, weight}

-- ---- counts

-- the names of binders, and of instances
abbrev pub names_of : List Binder → List Lexeme
names_of binders = map (λ binder. binder.name) binders

abbrev pub names_in : List (Lexeme × Option Lexeme) → List Lexeme
names_in instances = map (λ instance. instance.0) instances

pub here-counts : (l : Lexeme) → weight (begins_at l.span.start) l ≡ 1
here-counts l = ap (λ b. cond b 1 0) (eq-eqb l.span.start l.span.start refl)

-- what is counted among others is among them
pub each-counts : (ls all : List Lexeme) → ((start : ℕ) → counted (begins_at start) ls ≤ counted (begins_at start) all) → AllByRecursion (λ l. 1 ≤ counted (begins_at l.span.start) all) ls
each-counts [] all few = tt
each-counts (l ∷ ls) all few = (omega (arith, few l.span.start, here-counts l), each-counts ls all (λ start. omega (arith, few start)))

none-begin : (start : ℕ) (ls : List Lexeme) → counted (begins_at start) ls ≤ 0 → AllByRecursion (λ l. begins_at start l ≡ false) ls
none-begin start [] few = tt
none-begin start (l ∷ ls) few = (by (begins_at start l) refl (omega (arith, few)), none-begin start ls (omega (arith, few)))
  where
    by : (b : Bool) → begins_at start l ≡ b → cond b 1 0 ≤ 0 → begins_at start l ≡ false
    by true is le = absurd (omega (arith, le))
    by false is le = is

-- those behind a name begin elsewhere
pub others-begin : (l : Lexeme) (ls : List Lexeme) → counted (begins_at l.span.start) (l ∷ ls) ≤ 1 → AllByRecursion (λ other. begins_at l.span.start other ≡ false) ls
others-begin l ls few = none-begin l.span.start ls (omega (arith, few, here-counts l))

module _ (p : Lexeme → Bool) where
  abbrev pub named : List Binder → ℕ
  named binders = counted p (names_of binders)

  abbrev pub instanced : List (Lexeme × Option Lexeme) → ℕ
  instanced instances = counted p (names_in instances)

  pub named-append : (a b : List Binder) → named (a ++ b) ≡ named a + named b
  named-append [] b = omega arith
  named-append (x ∷ a) b = omega (arith, named-append a b)

  instanced-append : (a b : List (Lexeme × Option Lexeme)) → instanced (a ++ b) ≡ instanced a + instanced b
  instanced-append [] b = omega arith
  instanced-append (x ∷ a) b = omega (arith, instanced-append a b)

  bound-append : (binding : Binding) (a b : List (Lexeme × ℕ)) → named (bound_as binding (a ++ b)) ≡ named (bound_as binding a) + named (bound_as binding b)
  bound-append binding [] b = omega arith
  bound-append binding (x ∷ a) b = omega (arith, bound-append binding a b)

  pub declaring-append : (a b : List UnitTree) → named (declaring (a ++ b)) ≡ named (declaring a) + named (declaring b)
  declaring-append [] b = omega arith
  declaring-append (unit ∷ a) b = omega (arith, named-append (declared_by unit) (declaring (a ++ b)), named-append (declared_by unit) (declaring a), declaring-append a b)

  -- ---- instances are declared

  own-few : (form : Form.the_data) (parts : Trees) → instanced (named_instance form parts) ≤ named (defined form parts)
  own-few (Form.ModuleDefinition l) parts = omega arith
  own-few Form.Let parts = omega arith
  own-few _ parts = omega arith

  node-few : (binding : Binding) (form : Form.the_data) (parts : Trees) → ((b : Binding) → instanced (all_named_instances parts) ≤ named (declared_among b parts))
      → instanced (named_instance form parts) + instanced (all_named_instances parts) ≤ named (declared_round form parts) → (first : Bool)
      → instanced (named_instance form parts ++ all_named_instances parts) ≤ named (bound_as binding (placed form) ++ (if first then declared_round form parts else defined form parts ++ declared_among (binding_in binding form) parts))
  node-few binding form parts among round true =
      omega (arith, instanced-append (named_instance form parts) (all_named_instances parts), named-append (bound_as binding (placed form)) (declared_round form parts), round)
  node-few binding form parts among round false =
      omega (
        arith,
        instanced-append (named_instance form parts) (all_named_instances parts),
        named-append (bound_as binding (placed form)) (defined form parts ++ declared_among (binding_in binding form) parts),
        named-append (defined form parts) (declared_among (binding_in binding form) parts),
        own-few form parts,
        among (binding_in binding form),
      )

  mutual
    in-few : (binding : Binding) (x : Tree) → instanced (named_instances x) ≤ named (declared_in binding x)
    in-few binding (Node form s parts) = node-few binding form parts (λ b. among-few b parts) (round-few form parts) (follows_first form)

    among-few : (binding : Binding) (parts : Trees) → instanced (all_named_instances parts) ≤ named (declared_among binding parts)
    among-few binding Nil = omega arith
    among-few binding (Cons x rest) =
        omega (arith, instanced-append (named_instances x) (all_named_instances rest), named-append (declared_in binding x) (declared_among binding rest), in-few binding x, among-few binding rest)

    round-few : (form : Form.the_data) (parts : Trees) → instanced (named_instance form parts) + instanced (all_named_instances parts) ≤ named (declared_round form parts)
    round-few form Nil = omega (arith, own-few form Nil)
    round-few form (Cons x rest) =
        omega (
          arith,
          own-few form (Cons x rest),
          instanced-append (named_instances x) (all_named_instances rest),
          named-append (declared_in (binding_of form) x ++ defined form (Cons x rest)) (declared_among (binding_of form) rest),
          named-append (declared_in (binding_of form) x) (defined form (Cons x rest)),
          in-few (binding_of form) x,
          among-few (binding_of form) rest,
        )

  tree-few : (x : Tree) → instanced (all_named_instances (Cons x Nil)) ≤ named (within x)
  tree-few x = omega (arith, instanced-append (named_instances x) [], in-few (as_binding.Bound false) x)

  pub instances-few : (unit : UnitTree) → instanced (all_named_instances (unit_trees unit)) ≤ named (declared_by unit)
  instances-few (Variables names) = omega arith
  instances-few (Constants declarations) = omega arith
  instances-few (OperatorDefinition local x) = tree-few x
  instances-few (FunctionDefinition local x) = tree-few x
  instances-few (ModuleDefinition local x) = tree-few x
  instances-few (Instance local x) = tree-few x
  instances-few (Assumption word name x) = tree-few x
  instances-few (Theorem word name x) = tree-few x
  instances-few (Line dashes) = omega arith
  instances-few (ModuleBegin dashes name extends) = omega arith
  instances-few (ModuleEnd closing) = omega arith

  -- ---- names of units

  placed-few : (binding : Binding) (parts : Trees) → named (bound_as binding (all_placed parts)) ≤ named (declared_among binding parts)
  placed-few binding Nil = omega arith
  placed-few binding (Cons (Node form s parts) rest) =
      omega (arith, bound-append binding (placed form) (all_placed rest), named-append (declared_in binding (Node form s parts)) (declared_among binding rest), node-placed binding form s parts, placed-few binding rest)
    where
      node-placed : (binding : Binding) (form : Form.the_data) (s : Span) (parts : Trees) → named (bound_as binding (placed form)) ≤ named (declared_in binding (Node form s parts))
      node-placed binding form s parts = omega (arith, named-append (bound_as binding (placed form)) (if follows_first form then declared_round form parts else defined form parts ++ declared_among (binding_in binding form) parts))

  defined-few : (form : Form.the_data) (parts : Trees) → named (defined form parts) ≤ named (declared_round form parts)
  defined-few form Nil = omega arith
  defined-few form (Cons x rest) =
      omega (
        arith,
        named-append (declared_in (binding_of form) x ++ defined form (Cons x rest)) (declared_among (binding_of form) rest),
        named-append (declared_in (binding_of form) x) (defined form (Cons x rest)),
      )

  definition-few : (x : Tree) → named (definition x) ≤ named (within x)
  definition-few (Node form s parts) = by (follows_first form)
    where
      by : (b : Bool) → named (defined form parts) ≤ named (bound_as (as_binding.Bound false) (placed form) ++ (if b then declared_round form parts else defined form parts ++ declared_among (binding_in (as_binding.Bound false) form) parts))
      by true = omega (arith, named-append (bound_as (as_binding.Bound false) (placed form)) (declared_round form parts), defined-few form parts)
      by false =
          omega (
            arith,
            named-append (bound_as (as_binding.Bound false) (placed form)) (defined form parts ++ declared_among (binding_in (as_binding.Bound false) form) parts),
            named-append (defined form parts) (declared_among (binding_in (as_binding.Bound false) form) parts),
          )

  pub names-few : (unit : UnitTree) → named (declared_names unit) ≤ named (declared_by unit)
  names-few (Variables names) = omega arith
  names-few (Constants declarations) = placed-few as_binding.Constant declarations
  names-few (OperatorDefinition local x) = definition-few x
  names-few (FunctionDefinition local x) = definition-few x
  names-few (ModuleDefinition local x) = definition-few x
  names-few (Instance local x) = omega arith
  names-few (Assumption word name x) = omega arith
  names-few (Theorem word name x) = omega arith
  names-few (Line dashes) = omega arith
  names-few (ModuleBegin dashes name extends) = omega arith
  names-few (ModuleEnd closing) = omega arith

-- ---- places

abbrev pub starts_of : List Binder → List ℕ
starts_of binders = map (λ binder. binder.name.span.start) binders

place-found : (binders : List Binder) (start : ℕ) → 1 ≤ counted (begins_at start) (names_of binders) → slice_get (starts_of binders) (place_in (starts_of binders) start) ≡ Some start
place-found [] start one = absurd (omega (arith, one))
place-found (binder ∷ rest) start one = by (nat_eq binder.name.span.start start) refl (place-found rest start) one
  where
    by : (b : Bool) → nat_eq binder.name.span.start start ≡ b → (1 ≤ counted (begins_at start) (names_of rest) → slice_get (starts_of rest) (place_in (starts_of rest) start) ≡ Some start)
        → 1 ≤ cond b 1 0 + counted (begins_at start) (names_of rest) → slice_get (starts_of (binder ∷ rest)) (cond b zero (suc (place_in (starts_of rest) start))) ≡ Some start
    by true is later one = ap Some (eqb-true binder.name.span.start start is)
    by false is later one = later (omega (arith, one))

-- names at one place begin at one place
pub same-start : (binders : List Binder) (a b : ℕ) → 1 ≤ counted (begins_at a) (names_of binders) → 1 ≤ counted (begins_at b) (names_of binders) → place_in (starts_of binders) a ≡ place_in (starts_of binders) b → a ≡ b
same-start binders a b one two same =
    let found : Some a ≡ Some b = sym (place-found binders a one) ∙ (ap (slice_get (starts_of binders)) same ∙ place-found binders b two) in
    cc found
