-- The names that a module declares are among the lexemes that it holds.
use Rattle.std.proofs.Common.{◌≡◌, ◌≤◌, ◌+◌, ℕ, zero, suc, List, [], ◌∷◌, ◌++◌, Bool, true, false, Some, refl, ap, map, if◌then◌else◌, arith}
use Rattle.std.specs.Prelude.{slice_get, Option}
use Rattle.std.proofs.lemmas.Bool.{eqb-false}
use Rattle.tla_symbols.specs.declared.lexeme.Lexeme.{Lexeme}
use Rattle.tla_tree.specs.declared.form.Form.TheVariants as Form
use Rattle.tla_tree.specs.Syntax.{Tree, Trees, Node, Nil, Cons}
use Rattle.unit_grammar.specs.Units.{UnitTree, Variables, Constants, OperatorDefinition, FunctionDefinition, ModuleDefinition, Instance, Assumption, Theorem, Line, ModuleBegin, ModuleEnd}
use Rattle.tla_model.specs.declared.names.Binder.{Binder}
use Rattle.tla_model.specs.Entities.{Binding, binding_in, binding_of, bound_as, declared_among, declared_by, declared_in, declared_round, declaring, defined, follows_first, placed, variables}
use Rattle.tla_model.specs.Lexemes.{all_lexemes, form_lexemes, lexemes, unit_lexemes, units_lexemes}
use Rattle.lexeme_laws.specs.Apart.{begins_at, counted, weight}
use Rattle.lexeme_laws.proofs.Counting.{count-append}

-- the names of binders
abbrev pub names_of : List Binder → List Lexeme
names_of binders = map (λ binder. binder.name) binders

module _ (p : Lexeme → Bool) where
  -- how many names of binders pass a test
  abbrev named : List Binder → ℕ
  named binders = counted p (names_of binders)

  named-append : (a b : List Binder) → named (a ++ b) ≡ named a + named b
  named-append [] b = omega arith
  named-append (x ∷ a) b = omega (arith, named-append a b)

  -- a form holds the name that it places or defines
  own-few : (binding : Binding) (form : Form.the_data) (parts : Trees) → named (bound_as binding (placed form)) + named (defined form parts) ≤ counted p (form_lexemes form)
  own-few binding (Form.Name l) parts = omega arith
  own-few binding (Form.OperatorParameter l places) parts = omega arith
  own-few binding (Form.PrefixParameter l) parts = omega arith
  own-few binding (Form.InfixParameter l) parts = omega arith
  own-few binding (Form.PostfixParameter l) parts = omega arith
  own-few binding (Form.OperatorDefinition l) parts = omega arith
  own-few binding (Form.PrefixDefinition l) parts = omega arith
  own-few binding (Form.InfixDefinition l) parts = omega arith
  own-few binding (Form.PostfixDefinition l) parts = omega arith
  own-few binding (Form.FunctionDefinition l) parts = omega arith
  own-few binding (Form.ModuleDefinition l) parts = omega arith
  own-few binding _ parts = omega arith

  node-few : (binding : Binding) (form : Form.the_data) (parts : Trees) → ((b : Binding) → named (declared_among b parts) ≤ counted p (all_lexemes parts))
      → named (declared_round form parts) ≤ named (defined form parts) + counted p (all_lexemes parts) → (first : Bool)
      → named (bound_as binding (placed form) ++ (if first then declared_round form parts else defined form parts ++ declared_among (binding_in binding form) parts)) ≤ counted p (form_lexemes form ++ all_lexemes parts)
  node-few binding form parts among round true =
      omega (arith, named-append (bound_as binding (placed form)) (declared_round form parts), count-append p (form_lexemes form) (all_lexemes parts), own-few binding form parts, round)
  node-few binding form parts among round false =
      omega (
        arith,
        named-append (bound_as binding (placed form)) (defined form parts ++ declared_among (binding_in binding form) parts),
        named-append (defined form parts) (declared_among (binding_in binding form) parts),
        count-append p (form_lexemes form) (all_lexemes parts),
        own-few binding form parts,
        among (binding_in binding form),
      )

  mutual
    in-few : (binding : Binding) (x : Tree) → named (declared_in binding x) ≤ counted p (lexemes x)
    in-few binding (Node form s parts) = node-few binding form parts (λ b. among-few b parts) (round-few form parts) (follows_first form)

    among-few : (binding : Binding) (parts : Trees) → named (declared_among binding parts) ≤ counted p (all_lexemes parts)
    among-few binding Nil = omega arith
    among-few binding (Cons x rest) =
        omega (arith, named-append (declared_in binding x) (declared_among binding rest), count-append p (lexemes x) (all_lexemes rest), in-few binding x, among-few binding rest)

    round-few : (form : Form.the_data) (parts : Trees) → named (declared_round form parts) ≤ named (defined form parts) + counted p (all_lexemes parts)
    round-few form Nil = omega arith
    round-few form (Cons x rest) =
        omega (
          arith,
          named-append (declared_in (binding_of form) x ++ defined form (Cons x rest)) (declared_among (binding_of form) rest),
          named-append (declared_in (binding_of form) x) (defined form (Cons x rest)),
          count-append p (lexemes x) (all_lexemes rest),
          in-few (binding_of form) x,
          among-few (binding_of form) rest,
        )

  variables-few : (names : List Lexeme) → named (variables names) ≤ counted p names
  variables-few [] = omega arith
  variables-few (name ∷ names) = omega (arith, variables-few names)

  unit-few : (unit : UnitTree) → named (declared_by unit) ≤ counted p (unit_lexemes unit)
  unit-few (Variables names) = variables-few names
  unit-few (Constants declarations) = among-few _ declarations
  unit-few (OperatorDefinition local x) = in-few _ x
  unit-few (FunctionDefinition local x) = in-few _ x
  unit-few (ModuleDefinition local x) = in-few _ x
  unit-few (Instance local x) = in-few _ x
  unit-few (Assumption word name x) = in-few _ x
  unit-few (Theorem word name x) = in-few _ x
  unit-few (Line dashes) = omega arith
  unit-few (ModuleBegin dashes name extends) = omega arith
  unit-few (ModuleEnd closing) = omega arith

  pub units-few : (units : List UnitTree) → named (declaring units) ≤ counted p (units_lexemes units)
  units-few [] = omega arith
  units-few (unit ∷ units) =
      omega (arith, named-append (declared_by unit) (declaring units), count-append p (unit_lexemes unit) (units_lexemes units), unit-few unit, units-few units)

-- ---- places of their own

-- a lexeme that begins here counts
first-counts : (start : ℕ) (l : Lexeme) → ◌≡◌ {A = Option ℕ} (Some l.span.start) (Some start) → weight (begins_at start) l ≡ 1
first-counts start l e = by (begins_at start l) refl
  where
    by : (b : Bool) → begins_at start l ≡ b → weight (begins_at start) l ≡ 1
    by true k = rw k refl
    by false k = absurd (eqb-false l.span.start start k cc)

here-counts : (start : ℕ) (ls : List Lexeme) (i : ℕ) → slice_get (map (λ l. l.span.start) ls) i ≡ Some start → 1 ≤ counted (begins_at start) ls
here-counts start [] i e = absurd (cc)
here-counts start (l ∷ ls) zero e = omega (arith, first-counts start l e)
here-counts start (l ∷ ls) (suc i) e = omega (arith, here-counts start ls i e)

pub starts-apart : (ls : List Lexeme) → ((start : ℕ) → counted (begins_at start) ls ≤ 1) → (i j start : ℕ) → slice_get (map (λ l. l.span.start) ls) i ≡ Some start → slice_get (map (λ l. l.span.start) ls) j ≡ Some start → i ≡ j
starts-apart [] few i j start e f = absurd (cc)
starts-apart (l ∷ ls) few zero zero start e f = refl
starts-apart (l ∷ ls) few zero (suc j) start e f = absurd (omega (arith, few start, first-counts start l e, here-counts start ls j f))
starts-apart (l ∷ ls) few (suc i) zero start e f = absurd (omega (arith, few start, first-counts start l f, here-counts start ls i e))
starts-apart (l ∷ ls) few (suc i) (suc j) start e f = ap suc (starts-apart ls (λ s. omega (arith, few s)) i j start e f)
