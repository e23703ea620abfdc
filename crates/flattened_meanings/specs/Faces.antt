-- When modules are to their instances what a flat module has for them, round a tree that names them.
use Rattle.std.specs.Prelude.{◌≡◌, ℕ, ◌<◌, Bool, true, false, List, [], ◌∷◌, Some}
use Rattle.std.specs.List.{AllByRecursion}
use Rattle.tla_tree.specs.declared.form.Form.TheVariants as Form
use Rattle.tla_tree.specs.Syntax.{Tree, Trees, Node, Nil, Cons}
use Rattle.tla_model.specs.Lexemes.{spelled}
use Rattle.tla_model.specs.Tables.{Named}
use Rattle.tla_model.specs.Entities.{Meaning}
use Rattle.module_model.specs.Exports.{behind_instance, entry_of, onward}
use Rattle.kind_text.specs.FlatModule.{FlatModule}
use Rattle.tree_kinds.specs.Standing.{Outside, is_bound}
use Rattle.flat_trees.specs.Stands.{Stand, Unsaid, Leaf, Place}
use Rattle.flat_trees.specs.Instances.{IsModuleBehind}
use Rattle.flattened_trees.specs.Leads.{FlatFace}
use Rattle.flattened_trees.specs.Agreeing.{TakesBehind, lead_by}

-- where the first so many places stay, a name stands for what it stands for here; or nothing is said of it
abbrev pub StandsAs : ℕ → Stand → Stand → Type 0
StandsAs outer Unsaid here = Unit {0}
StandsAs outer (Leaf kind) here = here ≡ Leaf kind
StandsAs outer (Place place order) here = (place < outer) × (here ≡ Place place order)
StandsAs outer _ here = ⊥

module _ (flat : FlatModule) where
  -- a module is that to its instances, by what names stand for here and by which are new: its names stand so behind the symbols of the
  -- modules round it, which stand for what they do here; its own symbols are found by their names; and nothing is said there of new names,
  -- but of bound ones
  pub record IsFaceOf (new : Meaning → Bool) (here : Meaning → Stand) (face : FlatFace) (outside : Outside) : Type 0 where
    pub base : Meaning → Stand
    pub inner : Named → Stand
    pub leads : (name : Named) (names : List Named) → face.leads (name ∷ names) ≡ lead_by (inner name) names
    pub kept : IsModuleBehind flat base face.outer inner outside
    pub takes : (name : Named) (next : Meaning) → entry_of (behind_instance outside.view []) name ≡ Some next → TakesBehind (inner name) (onward (behind_instance outside.view) name) next
    pub apart : AllByRecursion (λ parameter. entry_of outside.view.parameters parameter.0 ≡ Some parameter.1) outside.view.parameters
    pub symbols : (meaning : Meaning) → StandsAs face.outer (base meaning) (here meaning)
    pub unsaid : (meaning : Meaning) → new meaning ≡ true → is_bound meaning ≡ false → base meaning ≡ Unsaid

  -- each module that can be named is to its instances what is known of it
  abbrev pub AreFacesOf : (List ℕ → Bool) → (Meaning → Bool) → (Meaning → Stand) → (List ℕ → FlatFace) → (List ℕ → Outside) → Type 0
  AreFacesOf nameable new here faces named = (name : List ℕ) → nameable name ≡ true → IsFaceOf new here (faces name) (named name)

module _ (source : List ℕ) (nameable : List ℕ → Bool) where
  -- a form is no INSTANCE, or one of a module that can be named
  abbrev pub IsOfNameable : Form.the_data → Type 0
  IsOfNameable (Form.Instance l) = nameable (spelled source l) ≡ true
  IsOfNameable form = Unit {0}

  abbrev mutual
    -- each INSTANCE in a tree is of a module that can be named
    pub NamesModules : Tree → Type 0
    NamesModules (Node form s parts) = IsOfNameable form × NameModules parts

    -- the same of several trees
    pub NameModules : Trees → Type 0
    NameModules Nil = Unit {0}
    NameModules (Cons x rest) = NamesModules x × NameModules rest
