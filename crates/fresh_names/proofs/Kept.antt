-- What was seen stays elsewhere along units.
use Rattle.std.proofs.Common.{◌≡◌, ◌⊎◌, ℕ, Bool, true, false, List, [], ◌∷◌, ◌++◌, inl, inr, refl, ap, subst, if◌then◌else◌, map}
use Rattle.std.specs.List.{AllByRecursion}
use Rattle.list_laws.proofs.Lists.{all-both, all-weaker}
use Rattle.tla_symbols.specs.declared.lexeme.Lexeme.{Lexeme}
use Rattle.tla_tree.specs.declared.form.Form.TheVariants as Form
use Rattle.tla_tree.specs.Syntax.{Tree, Trees, Node, Nil, Cons}
use Rattle.unit_grammar.specs.Units.{UnitTree, Variables, Constants, OperatorDefinition, FunctionDefinition, ModuleDefinition, Instance, Assumption, Theorem, ModuleBegin}
use Rattle.tla_model.specs.declared.ids.DeclId.{DeclId}
use Rattle.tla_model.specs.declared.names.Binder.{Binder}
use Rattle.tla_model.specs.declared.names.Binding.TheVariants as as_binding
use Rattle.tla_model.specs.declared.names.Meaning.TheVariants.{BuiltIn, Declared}
use Rattle.tla_model.specs.Entities.{Binding, Meaning, Text, all_placed, binding_in, binding_of, bound_as, declared_among, declared_by, declared_in, declared_round, declaration, declaring, defined, entity_of, follows_first, meant, placed, variables, within}
use Rattle.tla_model.specs.Scopes.{definition}
use Rattle.module_model.specs.Instances.{unit_trees}
use Rattle.module_model.specs.Modules.{constants}
use Rattle.tree_kinds.specs.Standing.{Outside}
use Rattle.module_kinds.specs.ModuleKinds.{KindState}
use Rattle.flattened_units.specs.Units.{Reader}
use Rattle.module_meanings.specs.Premises.{seen_behind}
use Rattle.fresh_names.specs.Seen.{IsDeclaredBy, IsElsewhere, brought_by, symbols_in}

module _ (text : Text) where
  pub left : (a b : List Binder) (decl : DeclId) → IsDeclaredBy text a decl → IsDeclaredBy text (a ++ b) decl
  left [] b decl declared = absurd declared
  left (binder ∷ a) b decl (inl same) = inl same
  left (binder ∷ a) b decl (inr later) = inr (left a b decl later)

  pub right : (a b : List Binder) (decl : DeclId) → IsDeclaredBy text b decl → IsDeclaredBy text (a ++ b) decl
  right [] b decl declared = declared
  right (binder ∷ a) b decl declared = inr (right a b decl declared)

  either : (a b : List Binder) (decl : DeclId) → IsDeclaredBy text (a ++ b) decl → IsDeclaredBy text a decl ⊎ IsDeclaredBy text b decl
  either [] b decl declared = inr declared
  either (binder ∷ a) b decl (inl same) = inl (inl same)
  either (binder ∷ a) b decl (inr later) = again (either a b decl later)
    where
      again : IsDeclaredBy text a decl ⊎ IsDeclaredBy text b decl → IsDeclaredBy text (binder ∷ a) decl ⊎ IsDeclaredBy text b decl
      again (inl declared) = inl (inr declared)
      again (inr declared) = inr declared

  -- all that the first declare the others do
  abbrev pub Within : List Binder → List Binder → Type 0
  Within a b = (decl : DeclId) → IsDeclaredBy text a decl → IsDeclaredBy text b decl

  pub joined : (a b c : List Binder) → Within a c → Within b c → Within (a ++ b) c
  joined a b c first second decl declared = by (either a b decl declared)
    where
      by : IsDeclaredBy text a decl ⊎ IsDeclaredBy text b decl → IsDeclaredBy text c decl
      by (inl one) = first decl one
      by (inr other) = second decl other

  pub wider : (a b : List Binder) → Within a b → (meaning : Meaning) → IsElsewhere text a meaning → IsElsewhere text b meaning
  wider a b among BuiltIn elsewhere = tt
  wider a b among (Declared entity callee) (inl through) = inl through
  wider a b among (Declared entity callee) (inr (inl foreign)) = inr (inl foreign)
  wider a b among (Declared entity callee) (inr (inr declared)) = inr (inr (among callee.decl declared))

  pub all-wider : (a b : List Binder) → Within a b → (seen : List Meaning) → AllByRecursion (IsElsewhere text a) seen → AllByRecursion (IsElsewhere text b) seen
  all-wider a b among seen elsewhere = all-weaker (IsElsewhere text a) (IsElsewhere text b) (wider a b among) seen elsewhere

  meanings-of : (binders all : List Binder) → Within binders all → AllByRecursion (IsElsewhere text all) (map (meant text) binders)
  meanings-of [] all among = tt
  meanings-of (binder ∷ binders) all among =
      (inr (inr (among (declaration text binder.name) (inl refl))), meanings-of binders all (λ decl declared. among decl (inr declared)))

  -- ---- names of units

  bound-append : (binding : Binding) (a b : List (Lexeme × ℕ)) → bound_as binding (a ++ b) ≡ bound_as binding a ++ bound_as binding b
  bound-append binding [] b = refl
  bound-append binding (x ∷ a) b = ap (λ (xs : List Binder). record { name = x.0; entity = entity_of binding x.1 } ∷ xs) (bound-append binding a b)

  pub placed-within : (binding : Binding) (parts : Trees) → Within (bound_as binding (all_placed parts)) (declared_among binding parts)
  placed-within binding Nil decl declared = declared
  placed-within binding (Cons (Node form s parts) rest) decl declared =
      joined (bound_as binding (placed form)) (bound_as binding (all_placed rest)) (declared_among binding (Cons (Node form s parts) rest))
      (λ d one.
      left (declared_in binding (Node form s parts)) (declared_among binding rest) d
      (left (bound_as binding (placed form)) (if follows_first form then declared_round form parts else defined form parts ++ declared_among (binding_in binding form) parts) d one))
      (λ d other. right (declared_in binding (Node form s parts)) (declared_among binding rest) d (placed-within binding rest d other)) decl
      (subst (λ (xs : List Binder). IsDeclaredBy text xs decl) (bound-append binding (placed form) (all_placed rest)) declared)

  round-within : (form : Form.the_data) (parts : Trees) → Within (defined form parts) (declared_round form parts)
  round-within form Nil decl declared = declared
  round-within form (Cons x rest) decl declared =
      left (declared_in (binding_of form) x ++ defined form (Cons x rest)) (declared_among (binding_of form) rest) decl
      (right (declared_in (binding_of form) x) (defined form (Cons x rest)) decl declared)

  pub definition-within : (x : Tree) → Within (definition x) (within x)
  definition-within (Node form s parts) decl declared =
      right (bound_as (as_binding.Bound false) (placed form)) (if follows_first form then declared_round form parts else defined form parts ++ declared_among (binding_in (as_binding.Bound false) form) parts) decl
      (by (follows_first form))
    where
      by : (b : Bool) → IsDeclaredBy text (if b then declared_round form parts else defined form parts ++ declared_among (binding_in (as_binding.Bound false) form) parts) decl
      by true = round-within form parts decl declared
      by false = left (defined form parts) (declared_among (binding_in (as_binding.Bound false) form) parts) decl declared

  -- ---- units

  pub symbols-within : (units : List UnitTree) → Within (symbols_in units) (declaring units)
  symbols-within [] decl declared = declared
  symbols-within (Variables names ∷ units) decl declared =
      joined (variables names) (symbols_in units) (declaring (Variables names ∷ units)) (left (variables names) (declaring units))
      (λ d other. right (variables names) (declaring units) d (symbols-within units d other)) decl declared
  symbols-within (Constants declarations ∷ units) decl declared =
      joined (constants declarations) (symbols_in units) (declaring (Constants declarations ∷ units))
      (λ d one. left (declared_among as_binding.Constant declarations) (declaring units) d (placed-within as_binding.Constant declarations d one))
      (λ d other. right (declared_among as_binding.Constant declarations) (declaring units) d (symbols-within units d other)) decl declared
  symbols-within (unit ∷ units) decl declared = right (declared_by unit) (declaring units) decl (symbols-within units decl declared)

  tree-symbols : (unit : UnitTree) (x : Tree) (behind : List UnitTree) → unit_trees unit ≡ Cons x Nil → Within (symbols_in (unit ∷ behind)) (declaring behind)
  tree-symbols (Variables names) x behind e decl declared = absurd (cc e)
  tree-symbols (Constants declarations) x behind e decl declared = absurd (cc e)
  tree-symbols unit x behind e decl declared = symbols-within behind decl declared

  -- of a unit with a tree
  pub tree-others : (before behind : List UnitTree) (unit : UnitTree) (x : Tree) → unit_trees unit ≡ Cons x Nil → Within (declaring before ++ symbols_in (unit ∷ behind)) (declaring before ++ declaring behind)
  tree-others before behind unit x e =
      joined (declaring before) (symbols_in (unit ∷ behind)) (declaring before ++ declaring behind) (left (declaring before) (declaring behind))
      (λ decl declared. right (declaring before) (declaring behind) decl (tree-symbols unit x behind e decl declared))

  pub before-within : (before more : List UnitTree) → Within (declaring before) (declaring (before ++ more))
  before-within [] more decl declared = absurd declared
  before-within (unit ∷ before) more decl declared =
      joined (declared_by unit) (declaring before) (declaring ((unit ∷ before) ++ more)) (left (declared_by unit) (declaring (before ++ more)))
      (λ d other. right (declared_by unit) (declaring (before ++ more)) d (before-within before more d other)) decl declared

  unit-within : (before : List UnitTree) (unit : UnitTree) → Within (declared_by unit) (declaring (before ++ unit ∷ []))
  unit-within [] unit decl declared = left (declared_by unit) [] decl declared
  unit-within (other ∷ before) unit decl declared = right (declared_by other) (declaring (before ++ unit ∷ [])) decl (unit-within before unit decl declared)

  unit-symbols : (unit : UnitTree) (behind : List UnitTree) → Within (symbols_in (unit ∷ behind)) (declared_by unit ++ symbols_in behind)
  unit-symbols (Variables names) behind decl declared = declared
  unit-symbols (Constants declarations) behind decl declared =
      joined (constants declarations) (symbols_in behind) (declared_among as_binding.Constant declarations ++ symbols_in behind)
      (λ d one. left (declared_among as_binding.Constant declarations) (symbols_in behind) d (placed-within as_binding.Constant declarations d one))
      (right (declared_among as_binding.Constant declarations) (symbols_in behind)) decl declared
  unit-symbols unit behind decl declared = right (declared_by unit) (symbols_in behind) decl declared

  -- what was seen before a unit was seen behind it
  module _ (before behind : List UnitTree) (unit : UnitTree) where
    abbrev pub seen_here : List Binder
    seen_here = declaring before ++ symbols_in (unit ∷ behind)

    abbrev pub seen_later : List Binder
    seen_later = declaring (before ++ unit ∷ []) ++ symbols_in behind

    own-within : Within (declared_by unit) seen_later
    own-within decl declared = left (declaring (before ++ unit ∷ [])) (symbols_in behind) decl (unit-within before unit decl declared)

    onward : Within seen_here seen_later
    onward =
        joined (declaring before) (symbols_in (unit ∷ behind)) seen_later
        (λ decl declared. left (declaring (before ++ unit ∷ [])) (symbols_in behind) decl (before-within before (unit ∷ []) decl declared))
        (λ decl declared.
        joined (declared_by unit) (symbols_in behind) seen_later own-within (right (declaring (before ++ unit ∷ [])) (symbols_in behind)) decl (unit-symbols unit behind decl declared))

    with-names : (own : List Binder) (seen : List Meaning) → Within own (declared_by unit) → AllByRecursion (IsElsewhere text seen_here) seen → AllByRecursion (IsElsewhere text seen_later) (map (meant text) own ++ seen)
    with-names own seen among elsewhere =
        all-both (IsElsewhere text seen_later) (map (meant text) own) seen (meanings-of own seen_later (λ decl declared. own-within decl (among decl declared))) (all-wider seen_here seen_later onward seen elsewhere)

    with-brought : (brought seen : List Meaning) → AllByRecursion (IsElsewhere text seen_here) brought → AllByRecursion (IsElsewhere text seen_here) seen → AllByRecursion (IsElsewhere text seen_later) (brought ++ seen)
    with-brought brought seen come elsewhere =
        all-both (IsElsewhere text seen_later) brought seen (all-wider seen_here seen_later onward brought come) (all-wider seen_here seen_later onward seen elsewhere)

  pub kept : (outsides : List ℕ → Outside) (words : List ℕ) (state : KindState) (before behind : List UnitTree) (unit : UnitTree) (next : Reader) (seen : List Meaning)
      → AllByRecursion (IsElsewhere text (declaring before ++ symbols_in (unit ∷ behind))) seen
      → AllByRecursion (IsElsewhere text (declaring before ++ symbols_in (unit ∷ behind))) (brought_by text outsides words state unit next)
      → AllByRecursion (IsElsewhere text (declaring (before ++ unit ∷ []) ++ symbols_in behind)) (seen_behind text outsides words state unit next seen)
  kept outsides words state before behind (Variables names) next seen elsewhere come = with-names before behind (Variables names) (variables names) seen (λ decl declared. declared) elsewhere
  kept outsides words state before behind (Constants declarations) next seen elsewhere come =
      with-names before behind (Constants declarations) (constants declarations) seen (placed-within as_binding.Constant declarations) elsewhere
  kept outsides words state before behind (OperatorDefinition local x) next seen elsewhere come = with-names before behind (OperatorDefinition local x) (definition x) seen (definition-within x) elsewhere
  kept outsides words state before behind (FunctionDefinition local x) next seen elsewhere come = with-names before behind (FunctionDefinition local x) (definition x) seen (definition-within x) elsewhere
  kept outsides words state before behind (ModuleDefinition local x) next seen elsewhere come = with-names before behind (ModuleDefinition local x) (definition x) seen (definition-within x) elsewhere
  kept outsides words state before behind (Instance local x) next seen elsewhere come =
      with-brought before behind (Instance local x) (brought_by text outsides words state (Instance local x) next) seen come elsewhere
  kept outsides words state before behind (ModuleBegin dashes name extends) next seen elsewhere come =
      with-brought before behind (ModuleBegin dashes name extends) (brought_by text outsides words state (ModuleBegin dashes name extends) next) seen come elsewhere
  kept outsides words state before behind unit next seen elsewhere come = all-wider (seen_here before behind unit) (seen_later before behind unit) (onward before behind unit) seen elsewhere

-- the names of a unit with a tree are those in it
pub tree-names : (unit : UnitTree) (x : Tree) → unit_trees unit ≡ Cons x Nil → declared_by unit ≡ within x
tree-names (OperatorDefinition local y) x e = let same : y ≡ x = cc e in ap within same
tree-names (FunctionDefinition local y) x e = let same : y ≡ x = cc e in ap within same
tree-names (ModuleDefinition local y) x e = let same : y ≡ x = cc e in ap within same
tree-names (Instance local y) x e = let same : y ≡ x = cc e in ap within same
tree-names (Assumption word name y) x e = let same : y ≡ x = cc e in ap within same
tree-names (Theorem word name y) x e = let same : y ≡ x = cc e in ap within same
tree-names unit x e = absurd (cc e)
