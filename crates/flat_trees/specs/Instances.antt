-- When an instance of a flat module is one of a written module, its replacements put in.
use Rattle.std.specs.Prelude.{◌≡◌, ℕ, suc, ◌+◌, Bool, true, List, [], ◌∷◌, ◌++◌, Option, Some, None, length, map, slice_get}
use Rattle.std.specs.List.{AllByRecursion}
use Rattle.tla_symbols.specs.declared.lexeme.Lexeme.{Lexeme}
use Rattle.tla_tree.specs.declared.form.Form.TheVariants as Form
use Rattle.tla_tree.specs.Syntax.{Trees, Node, Nil, Cons}
use Rattle.tla_model.specs.Tables.{Named}
use Rattle.tla_model.specs.Entities.{Meaning, Text}
use Rattle.module_model.specs.Exports.{Known}
use Rattle.kind_text.specs.FlatModule.{FlatModule, Instance, Replacement, places_of}
use Rattle.kind_text.specs.Expansion.{text as text_at}
use Rattle.kind_text.specs.Substitution.{Item, at}
use Rattle.tree_kinds.specs.Standing.{Environment, Outside, Value, operator_places, same_standing}
use Rattle.tree_kinds.specs.Expanding.{Around, Replaced, greatest_level, module_of, replacements, right_sides}
use Rattle.flat_trees.specs.Stands.{AreStanding, IsStanding, Matches, Stand, Unsaid, Leaf, Place}
use Rattle.flat_trees.specs.Layouts.{Agrees, Layout, order_of, with_stand}

-- the symbols of a module, at places from this one on; the first of equal ones counts
abbrev pub with_symbols : (Meaning → Stand) → List Meaning → ℕ → Meaning → Stand
with_symbols stands [] place = stands
with_symbols stands (meaning ∷ rest) place = with_stand (with_symbols stands rest (suc place)) meaning (Place place (order_of meaning))

-- the symbols that INSTANCE replaces
abbrev pub symbols_of : Outside → List Meaning
symbols_of outside = map (λ parameter. parameter.1) outside.view.parameters

-- the name of the module after the first INSTANCE among these, with its replacements
abbrev pub instance_in : Trees → Option (Lexeme × Trees)
instance_in Nil = None
instance_in (Cons (Node (Form.Instance l) s parts) rest) = Some (l, parts)
instance_in (Cons x rest) = instance_in rest

-- what stands at names behind an environment, as a value of the first of them
abbrev pub exported_value : Outside → Environment → Named → Value
exported_value outside standing name arguments path = outside.standing standing (record { name = name; arguments = arguments } ∷ path)

-- an instance puts in these behind others, of symbols that stay, which have no bounds
pub record PutsInBehind (x : Instance) (staying made : List Replacement) : Type 0 where
  pub replacements : x.replacements ≡ staying ++ made
  pub unbounded : AllByRecursion (λ r. r.most ≡ None) staying

module _ (flat : FlatModule) where
  -- the names of a module stand so, over each frame that has its symbols and wherever these stand for what an environment has
  abbrev pub IsModule : (Meaning → Stand) → ℕ → (Named → Stand) → Outside → Type 0
  IsModule stands places inner outside =
      (frame : List Item) (standing : Environment) → length frame ≡ places → AreStanding flat frame stands standing
      → (name : Named) → IsStanding flat frame [] (inner name) (exported_value outside standing name)

  -- the same behind the symbols of the modules round it, so many of them: its own symbols stand at the places behind these
  abbrev pub IsModuleBehind : (Meaning → Stand) → ℕ → (Named → Stand) → Outside → Type 0
  IsModuleBehind base outer inner outside = IsModule (with_symbols base (symbols_of outside) outer) (outer + length (symbols_of outside)) inner outside

  -- a replacement is the item at a place, over each frame: a symbol that stays
  abbrev pub IsStaying : Replacement → ℕ → Type 0
  IsStaying made place = (frame : List Item) → text_at flat made.root frame ≡ at frame place

  -- where these are put in, a name stands for what it stands for here: a leaf, or a symbol that stays; or nothing is said of it
  abbrev pub StaysIn : List Replacement → Stand → Stand → Type 0
  StaysIn made Unsaid here = Unit {0}
  StaysIn made (Leaf kind) here = here ≡ Leaf kind
  StaysIn made (Place place order) here = (r : Replacement) × (now : ℕ) × (slice_get made place ≡ Some r) × IsStaying r now × (here ≡ Place now order)
  StaysIn made _ here = ⊥

  -- these symbols stay, from the replacement with this number on: each name that stands as the symbol does is at one place here
  abbrev pub AllStay : List Replacement → (Meaning → Stand) → List Meaning → ℕ → Type 0
  AllStay made here [] number = Unit {0}
  AllStay made here (meaning ∷ rest) number =
      ((other : Meaning) → same_standing other meaning ≡ true → StaysIn made (Place number (order_of meaning)) (here other)) × AllStay made here rest (suc number)

  -- a replacement is what replaces a symbol, by whether the module is constant
  pub record IsReplaced (constant : Bool) (frame : List Item) (made : Replacement) (replaced : Replaced) : Type 0 where
    pub most : made.most ≡ Some (greatest_level constant replaced.parameter)
    pub places : places_of (slice_get flat.nodes made.root) ≡ operator_places (Some replaced.parameter)
    pub item : Matches (order_of replaced.parameter) (text_at flat made.root frame) replaced.item

  -- the same of each, in order
  abbrev pub AreReplaced : Bool → List Item → List Replacement → List Replaced → Type 0
  AreReplaced constant frame [] [] = Unit {0}
  AreReplaced constant frame (made ∷ others) (replaced ∷ rest) = IsReplaced constant frame made replaced × AreReplaced constant frame others rest
  AreReplaced constant frame _ _ = ⊥

  -- these are put in for the symbols of the module of a name, over each frame that agrees
  abbrev pub ArePutIn : Text → Known → (List ℕ → Outside) → Layout → List Replacement → Lexeme → Trees → Type 0
  ArePutIn text known named layout made l rights =
      (frame : List Item) (around : Around) → Agrees flat layout frame around
      → AreReplaced (module_of text known named l).is_constant frame made (replacements text known named around l (right_sides text known named around rights))

  -- an instance with so many parameters and all places round it, and whether it guards
  pub record IsMadeInstance (layout : Layout) (j : ℕ) (x : Instance) (count : ℕ) (guarding : Bool) : Type 0 where
    pub there : slice_get flat.instances j ≡ Some x
    pub outer : x.outer ≡ layout.places
    pub parameters : x.parameters ≡ count
    pub guards : x.guards ≡ guarding
