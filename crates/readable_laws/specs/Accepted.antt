-- What is asked of what stands round a tree of an accepted text, and of the INSTANCEs in it.
use Rattle.std.specs.Prelude.{◌≡◌, ◌≤◌, ◌⊎◌, ℕ, suc, Bool, List, [], ◌∷◌, ◌++◌, Some, if◌then◌else◌, length, replicate}
use Rattle.std.specs.List.{AllByRecursion}
use Rattle.tla_symbols.specs.declared.lexeme.Lexeme.{Lexeme}
use Rattle.tla_symbols.specs.declared.op.Op.{Op}
use Rattle.tla_tree.specs.declared.form.Form.TheVariants as Form
use Rattle.tla_tree.specs.Syntax.{Tree, Trees, Node, Nil, Cons}
use Rattle.tla_model.specs.declared.ids.DeclId.{DeclId}
use Rattle.tla_model.specs.Tables.{Named, Symbol, is_among}
use Rattle.tla_model.specs.Entities.{Meaning, Text}
use Rattle.tla_model.specs.Contexts.{Context, meaning_of}
use Rattle.tla_model.specs.Scopes.{Finding}
use Rattle.tla_model.specs.declared.names.Finding.TheVariants.{Implied}
use Rattle.tla_model.specs.declared.names.Meaning.TheVariants.{Declared}
use Rattle.module_model.specs.Bindings.{implied as all_implied}
use Rattle.module_model.specs.Exports.{Behind, Exports, Known, Path, entry_of}
use Rattle.module_model.specs.Instances.{left_sides}
use Rattle.module_model.specs.TreeFindings.{Surroundings, walk}
use Rattle.arity_rules.specs.Arities.{Due, implied_faults, meaning, tree_faults}
use Rattle.lexeme_laws.specs.Apart.{BeginApart}
use Rattle.tree_kinds.specs.Standing.{Outside}
use Rattle.tree_kinds.specs.Expanding.{built_in_places, module_of}
use Rattle.flattened_trees.specs.Leads.{FlatFace}
use Rattle.flattened_trees.specs.Readable.{IsFaceFor, IsInstanceOf, IsKnownBehind, IsNoInstance, orders_of}
use Rattle.readable_laws.specs.Uses.{IsSound, implied_by, means_by, used_lexemes}

-- each symbol that can be used takes as many expressions as it has places
abbrev pub TakePlaces : Context → Type 0
TakePlaces context = (op : Op) (meaning : Meaning) → meaning_of context (Symbol op) ≡ Some meaning → IsNoInstance meaning × (orders_of meaning ≡ replicate (built_in_places op) 0)

-- names stand behind instances alone
abbrev pub IsBehindInstances : Behind → Type 0
IsBehindInstances held = (path : Path) (name : Named) (meaning : Meaning) → entry_of (held path) name ≡ Some meaning → IsInstanceOf meaning (orders_of meaning) ⊎ (held (path ++ name ∷ []) ≡ [])

-- the same of all that is known to stand behind instances
abbrev pub AreBehindInstances : Known → Type 0
AreBehindInstances known = (decl : DeclId) (held : Behind) → known decl ≡ Some held → IsBehindInstances held

-- these findings stand in a row among others
pub record IsPart (part all : List Finding) : Type 0 where
  pub before : List Finding
  pub behind : List Finding
  pub whole : all ≡ before ++ part ++ behind

-- what stands in is declared, as is the parameter that it stands in for
abbrev pub IsDeclared : Finding → Type 0
IsDeclared (Implied l (Declared e replaced) (Declared symbol callee)) = Unit {0}
IsDeclared (Implied l parameter meaning) = ⊥
IsDeclared finding = Unit {0}

-- how many of these parameters are not written
abbrev pub unwritten : List Named → Exports → ℕ
unwritten written [] = 0
unwritten written (parameter ∷ parameters) = if is_among written parameter.0 then unwritten written parameters else suc (unwritten written parameters)

-- what was found of names is no fault, each at a place of its own; what stands in is declared and no fault of arity; and names stand
-- behind instances alone
pub record AreSound (known : Known) (found : List Finding) : Type 0 where
  pub sound : AllByRecursion IsSound found
  pub apart : BeginApart (used_lexemes found)
  pub declared : AllByRecursion IsDeclared found
  pub orderly : implied_faults (all_implied found) ≡ []
  pub behind : AreBehindInstances known

module _ (text : Text) (known : Known) (named : List ℕ → Outside) (found : List Finding) (faces : List ℕ → FlatFace) where
  -- of the INSTANCE of a module: what its module is to it is known, and no more symbols were found to stand in there than it has
  -- parameters that are not written
  pub record IsAcceptedInstance (l : Lexeme) (rights : Trees) : Type 0 where
    pub face : IsFaceFor text known named (means_by found) (implied_by found) faces l
    pub stand_in : length (implied_by found l.span.start) ≤ unwritten (left_sides text.source rights) (module_of text known named l).view.parameters

  -- the first INSTANCE among these is such a one, and what stands behind the name that is given to it is known
  abbrev pub IsAcceptedAmong : Lexeme → Trees → Type 0
  IsAcceptedAmong own Nil = Unit {0}
  IsAcceptedAmong own (Cons (Node (Form.Instance l) s rights) rest) = IsKnownBehind text known named (means_by found) (implied_by found) faces own (Some l) × IsAcceptedInstance l rights
  IsAcceptedAmong own (Cons x rest) = IsAcceptedAmong own rest

  -- a form names such an INSTANCE, if it names one
  abbrev pub IsAcceptedForm : Form.the_data → Trees → Type 0
  IsAcceptedForm (Form.ModuleDefinition own) parts = IsAcceptedAmong own parts
  IsAcceptedForm form parts = Unit {0}

  -- an INSTANCE is accepted, if this is one
  abbrev pub IsAcceptedUnit : Tree → Type 0
  IsAcceptedUnit (Node (Form.Instance l) s rights) = IsAcceptedInstance l rights
  IsAcceptedUnit x = Unit {0}

  abbrev mutual
    -- all INSTANCEs that have names in a tree are such
    pub AreAcceptedIn : Tree → Type 0
    AreAcceptedIn (Node form s parts) = IsAcceptedForm form parts × AreAcceptedAmong parts

    -- the same of several trees
    pub AreAcceptedAmong : Trees → Type 0
    AreAcceptedAmong Nil = Unit {0}
    AreAcceptedAmong (Cons x rest) = AreAcceptedIn x × AreAcceptedAmong rest

  -- where paths begin
  module _ (paths : List ℕ) where
    -- what is known round a tree
    abbrev pub around : Surroundings
    around = record { named = λ n. (named n).view; known = known; paths = paths }

    -- a tree is accepted where this is due, in a right side of EXCEPT or not: what is found in it was found, in a row, and nothing in it
    -- is used as what it is not
    pub record IsAccepted (context : Context) (d : Due) (inside : Bool) (x : Tree) : Type 0 where
      pub places : TakePlaces context
      pub found_in : IsPart (walk text around context x) found
      pub orderly : tree_faults (meaning found) d inside x ≡ []
      pub instances : AreAcceptedIn x
