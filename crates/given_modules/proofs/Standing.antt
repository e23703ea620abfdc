-- What stands for names that mean the same is the same, where a module has defined or brought one of them.
use Rattle.std.proofs.Common.{◌≡◌, ℕ, Bool, true, false, cond, List, [], ◌∷◌, ◌⊎◌, inl, inr, Option, Some, None, refl, sym, ap, ◌∙◌, map}
use Rattle.std.specs.Prelude.{◌||◌}
use Rattle.tla_symbols.specs.declared.lexeme.Lexeme.{Lexeme}
use Rattle.tla_tree.specs.Syntax.{Tree}
use Rattle.unit_grammar.specs.Units.{UnitTree, Variables, Constants, OperatorDefinition, FunctionDefinition, ModuleDefinition, Instance, Assumption, Theorem, Line, ModuleBegin, ModuleEnd}
use Rattle.tla_model.specs.Entities.{Meaning, Text, meant}
use Rattle.tla_model.specs.Lexemes.{spelled}
use Rattle.tla_model.specs.Scopes.{definition}
use Rattle.tla_model.specs.Tables.{Named}
use Rattle.module_scope.specs.Environments.{Scope, begun}
use Rattle.module_model.specs.Exports.{Exports, exported, instantiable}
use Rattle.module_model.specs.Resolution.{instance_brings}
use Rattle.kind_text.specs.ExpandedKind.{Expanded}
use Rattle.tree_kinds.specs.Expanding.{defined_value, unguarded}
use Rattle.tree_kinds.specs.Standing.{Environment, Outside, Steps, Value, coming, name_among, same_standing, with_entries, with_value, with_values}
use Rattle.tree_kinds.proofs.Standings.{standing-alike}
use Rattle.module_kinds.specs.ModuleKinds.{KindState, after, around, extended, known_at, named, named_in, views}
use Rattle.flat_kinds.specs.Readings.{extended_entries, is_among}
use Rattle.accepted_modules.proofs.Naming.{named-there}
use Rattle.accepted_modules.proofs.Tables.{IsThere}

-- ---- entries

-- an entry stands among these under some name
pub among-there : (entries : Exports) (name : Named) (m : Meaning) → IsThere entries name m → (found : Option Named) → name_among entries m ≡ found → (n : Named) × (name_among entries m ≡ Some n)
among-there entries name m there (Some n) at = (n, at)
among-there entries name m there None at = absurd (named-there entries name m there at)

-- ---- environments

values-alike : (standing : Environment) (ms : List Meaning) (value : Value) (m s : Meaning) → same_standing m s ≡ true → standing m ≡ standing s → with_values standing ms value m ≡ with_values standing ms value s
values-alike standing [] value m s same before = before
values-alike standing (d ∷ rest) value m s same before =
    values-alike (with_value standing d value) rest value m s same (ap (λ b. cond b value (standing m)) (standing-alike m s d same) ∙ ap (λ (v : Value). cond (same_standing s d) value v) before)

values-new : (standing : Environment) (ms : List Meaning) (value : Value) (m s : Meaning) → same_standing m s ≡ true → is_among ms s ≡ true → with_values standing ms value m ≡ with_values standing ms value s
values-new standing [] value m s same is = absurd (cc is)
values-new standing (d ∷ rest) value m s same is = by (same_standing s d) refl is (values-new (with_value standing d value) rest value m s same)
  where
    by : (b : Bool) → same_standing s d ≡ b → (b || is_among rest s) ≡ true → (is_among rest s ≡ true → with_values (with_value standing d value) rest value m ≡ with_values (with_value standing d value) rest value s)
        → with_values (with_value standing d value) rest value m ≡ with_values (with_value standing d value) rest value s
    by true e is later = values-alike (with_value standing d value) rest value m s same (ap (λ b. cond b value (standing m)) (standing-alike m s d same ∙ e) ∙ sym (ap (λ b. cond b value (standing s)) e))
    by false e is later = later is

named-alike : (entries : Exports) (m s : Meaning) → same_standing m s ≡ true → name_among entries m ≡ name_among entries s
named-alike [] m s same = refl
named-alike (entry ∷ rest) m s same =
    ap (λ b. cond b (Some entry.0) (name_among rest m)) (standing-alike m s entry.1 same) ∙ ap (λ (o : Option Named). cond (same_standing s entry.1) (Some entry.0) o) (named-alike rest m s same)

entries-alike : (standing : Environment) (entries : Exports) (from : Steps → Expanded) (m s : Meaning) → same_standing m s ≡ true → standing m ≡ standing s → with_entries standing entries from m ≡ with_entries standing entries from s
entries-alike standing entries from m s same before =
    ap (λ found. coming from (standing m) found) (named-alike entries m s same) ∙ ap (λ (v : Value). coming from v (name_among entries s)) before

entries-new : (standing : Environment) (entries : Exports) (from : Steps → Expanded) (m s : Meaning) (name : Named) → same_standing m s ≡ true → name_among entries s ≡ Some name → with_entries standing entries from m ≡ with_entries standing entries from s
entries-new standing entries from m s name same is =
    ap (λ found. coming from (standing m) found) (named-alike entries m s same ∙ is) ∙ sym (ap (λ found. coming from (standing s) found) is)

-- ---- states

-- what stands as it does stands for the same
abbrev pub StandsAlike : KindState → Meaning → Type 0
StandsAlike state s = (m : Meaning) → same_standing m s ≡ true → (parameters : Environment) → state.standing parameters m ≡ state.standing parameters s

module _ (text : Text) (outsides : List ℕ → Outside) (words : List ℕ) where
  -- one of these modules brings it
  abbrev pub BringOne : Scope Outside → List Lexeme → Meaning → Type 0
  BringOne modules [] s = ⊥
  BringOne modules (l ∷ rest) s = ((name : Named) × (name_among (extended_entries text outsides words modules l) s ≡ Some name)) ⊎ BringOne modules rest s

  extended-alike : (modules : Scope Outside) (parameters standing : Environment) (ls : List Lexeme) (m s : Meaning) → same_standing m s ≡ true → standing m ≡ standing s → extended text outsides words modules parameters standing ls m ≡ extended text outsides words modules parameters standing ls s
  extended-alike modules parameters standing [] m s same before = before
  extended-alike modules parameters standing (l ∷ rest) m s same before =
      let other : Outside = named_in text outsides words modules (spelled text.source l) in
      extended-alike modules parameters (with_entries standing (instantiable (exported other.view)) (other.standing parameters)) rest m s same
      (entries-alike standing (instantiable (exported other.view)) (other.standing parameters) m s same before)

  pub extended-new : (modules : Scope Outside) (parameters standing : Environment) (ls : List Lexeme) (m s : Meaning) → same_standing m s ≡ true → BringOne modules ls s → extended text outsides words modules parameters standing ls m ≡ extended text outsides words modules parameters standing ls s
  extended-new modules parameters standing [] m s same one = absurd one
  extended-new modules parameters standing (l ∷ rest) m s same (inl one) =
      let other : Outside = named_in text outsides words modules (spelled text.source l) in
      extended-alike modules parameters (with_entries standing (instantiable (exported other.view)) (other.standing parameters)) rest m s same
      (entries-new standing (instantiable (exported other.view)) (other.standing parameters) m s one.0 same one.1)
  extended-new modules parameters standing (l ∷ rest) m s same (inr later) =
      let other : Outside = named_in text outsides words modules (spelled text.source l) in
      extended-new modules parameters (with_entries standing (instantiable (exported other.view)) (other.standing parameters)) rest m s same later

  -- it is so behind each unit
  pub alike-after : (state : KindState) (unit : UnitTree) (s : Meaning) → StandsAlike state s → StandsAlike (after text outsides words state unit) s
  alike-after state (OperatorDefinition local x) s is = λ m same parameters.
      values-alike (state.standing parameters) (map (meant text) (definition x)) (defined_value text (known_at text outsides words state (OperatorDefinition local x)) (named text outsides words state) (around text outsides words state parameters) x) m s same (is m same parameters)
  alike-after state (FunctionDefinition local x) s is = λ m same parameters.
      values-alike (state.standing parameters) (map (meant text) (definition x)) (defined_value text (known_at text outsides words state (FunctionDefinition local x)) (named text outsides words state) (around text outsides words state parameters) x) m s same (is m same parameters)
  alike-after state (ModuleDefinition local x) s is = λ m same parameters.
      values-alike (state.standing parameters) (map (meant text) (definition x)) (defined_value text (known_at text outsides words state (ModuleDefinition local x)) (named text outsides words state) (around text outsides words state parameters) x) m s same (is m same parameters)
  alike-after state (Instance local x) s is = λ m same parameters.
      entries-alike (state.standing parameters) (instance_brings text (views text outsides words) words state.read x)
      (unguarded text (known_at text outsides words state (Instance local x)) (named text outsides words state) (around text outsides words state parameters) x) m s same (is m same parameters)
  alike-after state (ModuleBegin dashes name extends) s is = λ m same parameters. extended-alike (begun state.modules (spelled text.source name)) parameters (state.standing parameters) extends m s same (is m same parameters)
  alike-after state (Variables names) s is = is
  alike-after state (Constants declarations) s is = is
  alike-after state (Assumption word name x) s is = is
  alike-after state (Theorem word name x) s is = is
  alike-after state (Line dashes) s is = is
  alike-after state (ModuleEnd closing) s is = is

  -- of a name that is defined
  pub operator-alike : (state : KindState) (local : Option Lexeme) (x : Tree) (s : Meaning) → is_among (map (meant text) (definition x)) s ≡ true → StandsAlike (after text outsides words state (OperatorDefinition local x)) s
  operator-alike state local x s is = λ m same parameters.
      values-new (state.standing parameters) (map (meant text) (definition x)) (defined_value text (known_at text outsides words state (OperatorDefinition local x)) (named text outsides words state) (around text outsides words state parameters) x) m s same is

  pub function-alike : (state : KindState) (local : Option Lexeme) (x : Tree) (s : Meaning) → is_among (map (meant text) (definition x)) s ≡ true → StandsAlike (after text outsides words state (FunctionDefinition local x)) s
  function-alike state local x s is = λ m same parameters.
      values-new (state.standing parameters) (map (meant text) (definition x)) (defined_value text (known_at text outsides words state (FunctionDefinition local x)) (named text outsides words state) (around text outsides words state parameters) x) m s same is

  pub module-alike : (state : KindState) (local : Option Lexeme) (x : Tree) (s : Meaning) → is_among (map (meant text) (definition x)) s ≡ true → StandsAlike (after text outsides words state (ModuleDefinition local x)) s
  module-alike state local x s is = λ m same parameters.
      values-new (state.standing parameters) (map (meant text) (definition x)) (defined_value text (known_at text outsides words state (ModuleDefinition local x)) (named text outsides words state) (around text outsides words state parameters) x) m s same is

  -- of a name that an INSTANCE without a name brings
  pub instance-alike : (state : KindState) (local : Option Lexeme) (x : Tree) (s : Meaning) (name : Named) → name_among (instance_brings text (views text outsides words) words state.read x) s ≡ Some name → StandsAlike (after text outsides words state (Instance local x)) s
  instance-alike state local x s name is = λ m same parameters.
      entries-new (state.standing parameters) (instance_brings text (views text outsides words) words state.read x)
      (unguarded text (known_at text outsides words state (Instance local x)) (named text outsides words state) (around text outsides words state parameters) x) m s name same is
