-- When a module is accepted, and when a unit of it can be read.
use Rattle.std.specs.Prelude.{◌≡◌, ℕ, List, [], Option, None}
use Rattle.std.specs.List.{AllByRecursion}
use Rattle.tla_tree.specs.declared.form.Form.TheVariants as Form
use Rattle.tla_tree.specs.Lexemes.{one}
use Rattle.tla_tree.specs.Syntax.{Tree, Trees, Node, Nil, Cons}
use Rattle.unit_grammar.specs.Units.{ModuleUnits, UnitTree, OperatorDefinition, FunctionDefinition, ModuleDefinition, Instance, Assumption, Theorem}
use Rattle.tla_model.specs.Contexts.{Context}
use Rattle.tla_model.specs.Entities.{Meaning, Text}
use Rattle.module_model.specs.Bindings.{faults}
use Rattle.module_model.specs.Exports.{Known, ModuleView}
use Rattle.module_model.specs.Instances.{instance_among}
use Rattle.module_model.specs.Resolution.{findings}
use Rattle.tree_kinds.specs.Standing.{Outside}
use Rattle.tree_kinds.specs.Expanding.{places_at}
use Rattle.arity_rules.specs.Arities.{arity_faults}
use Rattle.flattened_trees.specs.Leads.{FlatFace}
use Rattle.flattened_trees.specs.Readable.{IsFaceFor, IsKnownBehind, IsReadable, IsReadableDefinition, IsReadableThrough}
use Rattle.readable_laws.specs.Accepted.{IsDeclared}
use Rattle.readable_laws.specs.Steady.{IsSteadyView}

-- a module has no faults of names and of arities, over files that are steady; what stands in there is declared
pub record IsAcceptedModule (files : List ℕ → ModuleView) (source : List ℕ) (units : ModuleUnits) : Type 0 where
  pub steady : (name : List ℕ) → IsSteadyView (files name)
  pub names : faults (findings files source units) ≡ []
  pub arities : arity_faults (findings files source units) units.units ≡ []
  pub declared : AllByRecursion IsDeclared (findings files source units)

module _ (text : Text) (known : Known) (named : List ℕ → Outside) (means : ℕ → Option Meaning) (implied : ℕ → List Meaning) (faces : List ℕ → FlatFace) where
  -- a unit can be read
  abbrev pub IsReadableUnit : Context → UnitTree → Type 0
  IsReadableUnit context (OperatorDefinition local x) = IsReadableDefinition text known named means implied faces context x
  IsReadableUnit context (FunctionDefinition local x) = IsReadableDefinition text known named means implied faces context x
  IsReadableUnit context (ModuleDefinition local x) = IsReadableDefinition text known named means implied faces context x
  IsReadableUnit context (Instance local x) = IsReadableThrough text known named means implied faces context (one x)
  IsReadableUnit context (Assumption word name x) = IsReadable text known named means implied faces context x × (places_at text known named context x ≡ None)
  IsReadableUnit context (Theorem word name x) = IsReadable text known named means implied faces context x × (places_at text known named context x ≡ None)
  IsReadableUnit context unit = Unit {0}

  -- the module of an INSTANCE is to it what it is to those that name it, and what stands behind the name of an instance is known
  abbrev pub IsKnownForm : Form.the_data → Trees → Type 0
  IsKnownForm (Form.Instance l) rights = IsFaceFor text known named means implied faces l
  IsKnownForm (Form.ModuleDefinition own) parts = IsKnownBehind text known named means implied faces own (instance_among parts)
  IsKnownForm form parts = Unit {0}

  abbrev mutual
    -- the same of all INSTANCEs in a tree
    pub AreKnownIn : Tree → Type 0
    AreKnownIn (Node form s parts) = IsKnownForm form parts × AreKnownAmong parts

    -- the same of several trees
    pub AreKnownAmong : Trees → Type 0
    AreKnownAmong Nil = Unit {0}
    AreKnownAmong (Cons x rest) = AreKnownIn x × AreKnownAmong rest
