-- Each definition of an instance in a tree that derives its lexemes has an INSTANCE.
use Rattle.std.proofs.Common.{◌≡◌, ℕ, List, [], ◌∷◌, Option, Some, refl}
use Rattle.std.specs.List.{AllByRecursion}
use Rattle.list_laws.proofs.Lists.{all-both}
use Rattle.tla_symbols.specs.declared.lexeme.Lexeme.{Lexeme}
use Rattle.tla_symbols.specs.declared.lexeme.Mark.{Mark}
use Rattle.tla_tree.specs.declared.form.Form.TheVariants as Form
use Rattle.tla_tree.specs.Syntax.{Tree, Trees, Node, Nil, Cons}
use Rattle.tla_tree.specs.Headings as h
use Rattle.tla_tree.specs.Derivation as d
use Rattle.tla_tree.specs.Lexemes.{one, then}
use Rattle.unit_grammar.specs.Derivation as u
use Rattle.unit_grammar.specs.Units.{UnitTree, ModuleEnd, ModuleUnits, defined as defined_unit}
use Rattle.module_model.specs.Instances.{instance_among, unit_trees}

-- a definition of an instance has an INSTANCE
abbrev pub HasInstance : Form.the_data → Trees → Type 0
HasInstance (Form.ModuleDefinition own) parts = (l : Lexeme) × (instance_among parts ≡ Some l)
HasInstance form parts = Unit {0}

abbrev mutual
  -- the same of all in a tree
  pub HasInstances : Tree → Type 0
  HasInstances (Node form s parts) = HasInstance form parts × HaveInstances parts

  -- and in several
  pub HaveInstances : Trees → Type 0
  HaveInstances Nil = Unit {0}
  HaveInstances (Cons x rest) = HasInstances x × HaveInstances rest

thens : (xs : Trees) (x : Tree) → HaveInstances xs → HasInstances x → HaveInstances (then xs x)
thens Nil x all one = (one, tt)
thens (Cons y xs) x all one = (all.0, thens xs x all.1 one)

among-then : (xs : Trees) (x : Tree) → ((l : Lexeme) × (instance_among (one x) ≡ Some l)) → (l : Lexeme) × (instance_among (then xs x) ≡ Some l)
among-then Nil x is = is
among-then (Cons (Node (Form.Instance l) s parts) xs) x is = (l, refl)
among-then (Cons (Node Form.Let s parts) xs) x is = among-then xs x is
among-then (Cons (Node _ s parts) xs) x is = among-then xs x is

name-list : {xs : Trees} {a : List Lexeme} → h.DerivesNameList xs a → HaveInstances xs
name-list (h.last_name k) = ((tt, tt), tt)
name-list (h.more_names k l ds) = ((tt, tt), name-list ds)

names : {x : Tree} {a : List Lexeme} → h.DerivesNames x a → HasInstances x
names (h.names ds) = (tt, name-list ds)

tuple-names : {xs : Trees} {a : List Lexeme} → h.DerivesTupleNames xs a → HaveInstances xs
tuple-names (h.tuple_names t u k l ds) = name-list ds

binder : {x : Tree} {a : List Lexeme} → h.DerivesBinder x a → HasInstances x
binder (h.binder_name k) = (tt, ((tt, tt), tt))
binder (h.binder_tuple ds) = (tt, tuple-names ds)

parameter : {x : Tree} {a : List Lexeme} → h.DerivesParameter x a → HasInstances x
parameter (h.plain k) = (tt, tt)
parameter (h.of_places u k l m ds) = (tt, tt)
parameter (h.prefix_symbol k l) = (tt, tt)
parameter (h.infix_symbol k l m o) = (tt, tt)
parameter (h.postfix_symbol k l m) = (tt, tt)

parameters : {xs : Trees} {a : List Lexeme} → h.DerivesParameters xs a → HaveInstances xs
parameters (h.last_parameter x) = (parameter x, tt)
parameters (h.more_parameters t k x xs) = (parameter x, parameters xs)

head : {n : Lexeme} {xs : Trees} {a : List Lexeme} → h.DerivesHead n xs a → HaveInstances xs
head (h.constant k) = tt
head (h.with_parameters u k l v xs) = parameters xs

mutual
  pub expression : {x : Tree} {a : List Lexeme} {i : ℕ} {o : Option Lexeme} → d.Derives x a i o → HasInstances x
  expression (d.node s) = form s

  form : {form : Form.the_data} {xs : Trees} {a : List Lexeme} {i : ℕ} {o : Option Lexeme} → d.Spells form xs a i o → HasInstance form xs × HaveInstances xs
  form (d.identifier xs) = (tt, segments xs)
  form (d.number k) = (tt, tt)
  form (d.text k) = (tt, tt)
  form (d.at k) = (tt, tt)
  form (d.prefixed k l m x) = (tt, (expression x, tt))
  form (d.infixed t k l m n q x y) = (tt, (expression x, (expression y, tt)))
  form (d.postfixed t k l m x) = (tt, (expression x, tt))
  form (d.products t k l x xs) = (tt, (expression x, factors xs))
  form (d.parentheses t u k l x) = (tt, (expression x, tt))
  form (d.quantifier t k l ns x) = (tt, (names ns, (expression x, tt)))
  form (d.bounded_quantifier {bounds = xs} {x = x} t k l bs y) = (tt, thens xs x (bounds bs) (expression y))
  form (d.temporal_quantifier t k l ns x) = (tt, (names ns, (expression x, tt)))
  form (d.choose t k l b x) = (tt, (binder b, (expression x, tt)))
  form (d.bounded_choose t k l bs m x) = (tt, (bound bs, (expression x, tt)))
  form (d.empty_set k l) = (tt, tt)
  form (d.set t u k l xs) = (tt, list xs)
  form (d.set_filter t c u k l m bs n y) = (tt, (bound bs, (expression y, tt)))
  form (d.set_image t c u k l m x n bs) = (tt, (expression x, bounds bs))
  form (d.application t u k l m x xs) = (tt, (expression x, list xs))
  form (d.function {bounds = xs} {y = y} t m u k l n bs z) = (tt, thens xs y (bounds bs) (expression z))
  form (d.function_set t m u k l n x y) = (tt, (expression x, (expression y, tt)))
  form (d.record_of t u k l xs) = (tt, fields xs)
  form (d.record_set t u k l xs) = (tt, fields xs)
  form (d.field t k l m x) = (tt, (expression x, tt))
  form (d.except t w u k l m x xs) = (tt, (expression x, updates xs))
  form (d.empty_tuple k l) = (tt, tt)
  form (d.tuple t u k l xs) = (tt, list xs)
  form (d.square t u k l x s m) = (tt, (expression x, (expression s, tt)))
  form (d.angle t u k l x s m) = (tt, (expression x, (expression s, tt)))
  form (d.fairness t u k l m s n x) = (tt, (expression s, (expression x, tt)))
  form (d.if_then_else t u v k l m x y z) = (tt, (expression x, (expression y, (expression z, tt))))
  form (d.case k xs) = (tt, arms xs)
  form (d.let_in {xs = xs} {x = x} t k l ds y) = (tt, thens xs x (definitions ds) (expression y))
  form (d.junctions k l xs m) = (tt, items xs)

  list : {xs : Trees} {a : List Lexeme} {i : ℕ} {o : Option Lexeme} → d.DerivesList xs a i o → HaveInstances xs
  list (d.last x) = (expression x, tt)
  list (d.more t k x xs) = (expression x, list xs)

  factors : {xs : Trees} {a : List Lexeme} {i : ℕ} {o : Option Lexeme} → d.DerivesFactors xs a i o → HaveInstances xs
  factors (d.last_factor k x) = (expression x, tt)
  factors (d.more_factors t k l m x xs) = (expression x, factors xs)

  segments : {xs : Trees} {a : List Lexeme} {i : ℕ} → d.DerivesSegments xs a i → HaveInstances xs
  segments (d.last_segment x) = (segment x, tt)
  segments (d.more_segments t k x xs) = (segment x, segments xs)

  segment : {x : Tree} {a : List Lexeme} {i : ℕ} → d.DerivesSegment x a i → HasInstances x
  segment (d.bare k) = (tt, tt)
  segment (d.applied t u m k l xs) = (tt, arguments xs)

  arguments : {xs : Trees} {a : List Lexeme} {i : ℕ} {o : Option Lexeme} → d.DerivesArguments xs a i o → HaveInstances xs
  arguments (d.last_argument x) = (argument x, tt)
  arguments (d.more_arguments t k x xs) = (argument x, arguments xs)

  argument : {x : Tree} {a : List Lexeme} {i : ℕ} {o : Option Lexeme} → d.DerivesArgument x a i o → HasInstances x
  argument (d.expression x) = expression x
  argument (d.passed k l) = (tt, tt)

  bound : {x : Tree} {a : List Lexeme} {i : ℕ} {o : Option Lexeme} → d.DerivesBound x a i o → HasInstances x
  bound (d.bound {xs = xs} {x = x} m k l ns y) = (tt, thens xs x (name-list ns) (expression y))
  bound (d.tuple_bound {xs = xs} {x = x} m k l ns y) = (tt, thens xs x (tuple-names ns) (expression y))

  bounds : {xs : Trees} {a : List Lexeme} {i : ℕ} {o : Option Lexeme} → d.DerivesBounds xs a i o → HaveInstances xs
  bounds (d.last_bound x) = (bound x, tt)
  bounds (d.more_bounds t k x xs) = (bound x, bounds xs)

  field : {mark : Mark} {x : Tree} {a : List Lexeme} {i : ℕ} {o : Option Lexeme} → d.DerivesField mark x a i o → HasInstances x
  field (d.named k l x) = (tt, (expression x, tt))

  fields : {mark : Mark} {xs : Trees} {a : List Lexeme} {i : ℕ} {o : Option Lexeme} → d.DerivesFields mark xs a i o → HaveInstances xs
  fields (d.last_field x) = (field x, tt)
  fields (d.more_fields t k x xs) = (field x, fields xs)

  update : {x : Tree} {a : List Lexeme} {i : ℕ} {o : Option Lexeme} → d.DerivesUpdate x a i o → HasInstances x
  update (d.update {xs = xs} {x = x} t e k l ss y) = (tt, thens xs x (steps ss) (expression y))

  updates : {xs : Trees} {a : List Lexeme} {i : ℕ} {o : Option Lexeme} → d.DerivesUpdates xs a i o → HaveInstances xs
  updates (d.last_update x) = (update x, tt)
  updates (d.more_updates t k x xs) = (update x, updates xs)

  step : {x : Tree} {a : List Lexeme} {i : ℕ} → d.DerivesStep x a i → HasInstances x
  step (d.field_step k l) = (tt, tt)
  step (d.index_step t u k l xs) = (tt, list xs)

  steps : {xs : Trees} {a : List Lexeme} {i : ℕ} → d.DerivesSteps xs a i → HaveInstances xs
  steps (d.last_step x) = (step x, tt)
  steps (d.more_steps x xs) = (step x, steps xs)

  arms : {xs : Trees} {a : List Lexeme} {i : ℕ} {o : Option Lexeme} → d.DerivesArms xs a i o → HaveInstances xs
  arms (d.last_arm x k) = (arm x, tt)
  arms (d.other_arm k l x) = ((tt, (expression x, tt)), tt)
  arms (d.more_arms t k x xs) = (arm x, arms xs)

  arm : {x : Tree} {a : List Lexeme} {i : ℕ} {o : Option Lexeme} → d.DerivesArm x a i o → HasInstances x
  arm (d.arm t k x y) = (tt, (expression x, (expression y, tt)))

  items : {first : Lexeme} {xs : Trees} {a : List Lexeme} {o : Option Lexeme} → d.DerivesItems first xs a o → HaveInstances xs
  items (d.last_item k l x) = (expression x, tt)
  items (d.more_items u k l x xs) = (expression x, items xs)

  definitions : {xs : Trees} {a : List Lexeme} {i : ℕ} {o : Option Lexeme} → d.DerivesDefinitions xs a i o → HaveInstances xs
  definitions (d.last_definition x) = (definition x, tt)
  definitions (d.more_definitions t x xs) = (definition x, definitions xs)

  pub definition : {x : Tree} {a : List Lexeme} {i : ℕ} {o : Option Lexeme} → d.DerivesDefinition x a i o → HasInstances x
  definition (d.operator {xs = xs} {x = x} m hd k y) = (tt, thens xs x (head hd) (expression y))
  definition (d.prefix_operator k l o x) = (tt, ((tt, tt), (expression x, tt)))
  definition (d.infix_operator k l o q r y) = (tt, ((tt, tt), ((tt, tt), (expression y, tt))))
  definition (d.postfix_operator k l o q y) = (tt, ((tt, tt), (expression y, tt)))
  definition (d.function_of {bounds = xs} {x = x} u e k l m o bs y) = (tt, thens xs x (bounds bs) (expression y))
  definition (d.module_of {xs = xs} {x = x} m hd k y) = (among-then xs x (instance-there y), thens xs x (head hd) (instance y))

  pub instance : {x : Tree} {a : List Lexeme} {i : ℕ} {o : Option Lexeme} → d.DerivesInstance x a i o → HasInstances x
  instance (d.without k l) = (tt, tt)
  instance (d.with_replacements k l n xs) = (tt, replacements xs)

  instance-there : {x : Tree} {a : List Lexeme} {i : ℕ} {o : Option Lexeme} → d.DerivesInstance x a i o → (l : Lexeme) × (instance_among (one x) ≡ Some l)
  instance-there (d.without {m = m} k l) = (m, refl)
  instance-there (d.with_replacements {m = m} k l n xs) = (m, refl)

  replacements : {xs : Trees} {a : List Lexeme} {i : ℕ} {o : Option Lexeme} → d.DerivesReplacements xs a i o → HaveInstances xs
  replacements (d.last_replacement x) = (replacement x, tt)
  replacements (d.more_replacements t k x xs) = (replacement x, replacements xs)

  replacement : {x : Tree} {a : List Lexeme} {i : ℕ} {o : Option Lexeme} → d.DerivesReplacement x a i o → HasInstances x
  replacement (d.replaced k l x) = (tt, (expression x, tt))
  replacement (d.replaced_by_symbol k l m n) = (tt, ((tt, tt), tt))

-- ---- units

abbrev pub UnitHas : UnitTree → Type 0
UnitHas unit = HaveInstances (unit_trees unit)

defined-has : (local : Option Lexeme) (x : Tree) → HasInstances x → UnitHas (defined_unit local x)
defined-has local (Node (Form.FunctionDefinition n) s parts) has = (has, tt)
defined-has local (Node (Form.ModuleDefinition n) s parts) has = (has, tt)
defined-has local (Node _ s parts) has = (has, tt)

mutual
  unit-has : {units : List UnitTree} {a : List Lexeme} {t : Lexeme} → u.DerivesUnit units a t → AllByRecursion UnitHas units
  unit-has (u.variables k ns) = (tt, tt)
  unit-has (u.constants k ds) = (tt, tt)
  unit-has (u.definition {before = local} {x = x} l y) = (defined-has local x (definition y), tt)
  unit-has (u.instance l x) = ((instance x, tt), tt)
  unit-has (u.assumption k x) = ((expression x, tt), tt)
  unit-has (u.theorem k x) = ((expression x, tt), tt)
  unit-has (u.line k m) = (tt, tt)
  unit-has (u.nested {units = units} e k us m) = (tt, all-both UnitHas units (ModuleEnd e ∷ []) (units-have us) (tt, tt))

  units-have : {units : List UnitTree} {a : List Lexeme} {t : Lexeme} → u.DerivesUnits units a t → AllByRecursion UnitHas units
  units-have u.no_units = tt
  units-have (u.more_units {unit = unit} {units = units} y ys) = all-both UnitHas unit units (unit-has y) (units-have ys)

pub module-has : {found : ModuleUnits} {a : List Lexeme} → u.DerivesModule found a → AllByRecursion UnitHas found.units
module-has (u.outermost c k us m) = units-have us
