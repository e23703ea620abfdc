-- What is known round a node of a flat module, when a frame agrees with what stands round a tree, and what a node means by that.
use Rattle.tla_symbols.specs.declared.level.Rule.TheVariants.{Plain}
use Rattle.std.specs.Prelude.{◌≡◌, ◌⊎◌, ℕ, suc, ◌+◌, ◌<◌, List, [], ◌∷◌, ◌++◌, Option, Some, None, if◌then◌else◌, length, map}
use Rattle.tla_tree.specs.declared.form.Form.TheVariants as Form
use Rattle.tla_tree.specs.Syntax.{Tree, Trees}
use Rattle.tla_model.specs.declared.names.Meaning.TheVariants.{BuiltIn, Declared}
use Rattle.tla_model.specs.Tables.{Named}
use Rattle.tla_model.specs.Entities.{Meaning, Text, meant}
use Rattle.tla_model.specs.Contexts.{Context}
use Rattle.tla_model.specs.Scopes.{behind, binders, definition, reserved, scope}
use Rattle.module_model.specs.Exports.{Exports, Known}
use Rattle.kind_text.specs.ExpandedKind.{Expanded, Operands, Ruled}
use Rattle.kind_text.specs.FlatModule.{FlatModule, Node as FlatNode}
use Rattle.kind_text.specs.Expansion.{items as items_at, text as text_at}
use Rattle.kind_text.specs.Substitution.{Item, texts}
use Rattle.tree_kinds.specs.Standing.{Outside, Value, name_among, places as places_of, same_standing}
use Rattle.tree_kinds.specs.Expanding.{Around, expand, inner, places_at, before_scope, in_scope, operands}
use Rattle.flat_trees.specs.Stands.{AreStanding, IsItem, IsStanding, Matches, Stand, Unsaid, Leaf, Place, Brought}
use Rattle.flat_trees.specs.Names.{order_by, IsBuilt}

-- ---- what stands for meanings

-- one thing more
abbrev pub with_stand : (Meaning → Stand) → Meaning → Stand → Meaning → Stand
with_stand stands meaning stand other = if same_standing other meaning then stand else stands other

-- the same for each of these
abbrev pub with_stands : (Meaning → Stand) → List Meaning → Stand → Meaning → Stand
with_stands stands [] stand = stands
with_stands stands (meaning ∷ rest) stand = with_stands (with_stand stands meaning stand) rest stand

-- the order of what a name means
abbrev pub order_of : Meaning → ℕ
order_of BuiltIn = 0
order_of (Declared e callee) = places_of e

-- parameters, at places from this one on
abbrev pub with_places : (Meaning → Stand) → List Meaning → ℕ → Meaning → Stand
with_places stands [] place = stands
with_places stands (meaning ∷ rest) place = with_places (with_stand stands meaning (Place place (order_of meaning))) rest (suc place)

-- what comes from a module under this name there, or else this
abbrev pub coming_stand : ℕ → (Named → Stand) → Stand → Option Named → Stand
coming_stand j inner stand None = stand
coming_stand j inner stand (Some name) = Brought j (inner name)

-- with the entries of a module, which come through an instance without a name
abbrev pub with_brought : (Meaning → Stand) → Exports → ℕ → (Named → Stand) → Meaning → Stand
with_brought stands entries j inner meaning = coming_stand j inner (stands meaning) (name_among entries meaning)

-- ---- layouts

-- what is known round a node: the context of its tree, what stands for meanings, how many places there are, and the nodes of
-- what `@` repeats
pub record Layout : Type 0 where
  pub context : Context
  pub stands : Meaning → Stand
  pub places : ℕ
  pub olds : List ℕ

module _ (text : Text) where
  -- the parameters of a form
  abbrev pub parameters_of : Form.the_data → Trees → List Meaning
  parameters_of form parts = map (meant text) (binders form parts)

  -- round the parts of a form that stand outside of the scope of its names
  abbrev pub layout_before : Layout → Form.the_data → Trees → Layout
  layout_before layout form parts = record layout { context = reserved text layout.context form parts }

  -- in the scope of a form's names
  abbrev pub layout_in : Layout → Form.the_data → Trees → Layout
  layout_in layout form parts = record layout { context = scope text layout.context form parts }

  -- the same, with its parameters at the next places
  abbrev pub layout_with : Layout → Form.the_data → Trees → Layout
  layout_with layout form parts =
      record {
        context = scope text layout.context form parts;
        stands = with_places layout.stands (parameters_of form parts) layout.places;
        places = layout.places + length (parameters_of form parts);
        olds = layout.olds;
      }

  -- behind a definition whose name stands for this
  abbrev pub layout_behind : Layout → Tree → Stand → Layout
  layout_behind layout x stand =
      record {
        context = behind text layout.context x;
        stands = with_stands layout.stands (map (meant text) (definition x)) stand;
        places = layout.places;
        olds = layout.olds;
      }

-- where `@` repeats what these nodes are
abbrev pub layout_repeating : Layout → List ℕ → Layout
layout_repeating layout olds = record layout { olds = olds }

-- with one place more, for a symbol that is declared, in a context
abbrev pub layout_declaring : Layout → Context → (Meaning → Stand) → Layout
layout_declaring layout context stands = record { context = context; stands = stands; places = suc layout.places; olds = layout.olds }

-- what stands round a tree, in another context
abbrev pub around_in : Around → Context → Around
around_in around context = record around { context = context }

-- a name stands as before, or for the item at the next place, where a value is that
abbrev pub IsDeclaredAs : Layout → Item → Value → Stand → Stand → Type 0
IsDeclaredAs layout x value before next = (next ≡ before) ⊎ ((order : ℕ) × (next ≡ Place layout.places order) × IsItem order x [] value)

-- a leaf, or a symbol at a place before this one; or nothing is said of it
abbrev pub StandsBefore : ℕ → Stand → Type 0
StandsBefore places Unsaid = Unit {0}
StandsBefore places (Leaf kind) = Unit {0}
StandsBefore places (Place place order) = place < places
StandsBefore places _ = ⊥

-- where `@` repeats this
abbrev pub around_repeating : Around → Operands → Around
around_repeating around old = record around { old = old }

-- what the definition of a function gives
abbrev pub function_text : Text → Known → (List ℕ → Outside) → Around → Form.the_data → Trees → Expanded
function_text text known named around form parts =
    Ruled Plain (operands text known named (before_scope text known named around form parts) (in_scope text known named around form parts) parts)

-- ---- agreement

module _ (flat : FlatModule) where
  -- a frame agrees with what stands round a tree, whatever more stands behind it
  pub record Agrees (layout : Layout) (frame : List Item) (around : Around) : Type 0 where
    pub context : around.context ≡ layout.context
    pub places : length frame ≡ layout.places
    pub standing : AreStanding flat frame layout.stands around.standing
    pub old : (more : List Item) → texts (items_at (text_at flat) layout.olds (frame ++ more)) ≡ around.old

  -- a node gives this expression, over each frame that agrees and whatever more stands behind it
  abbrev pub Gives : Layout → ℕ → (Around → Expanded) → Type 0
  Gives layout i gives =
      (frame more : List Item) (around : Around) → Agrees layout frame around → (text_at flat i (frame ++ more)).text ≡ gives around

  -- a name stands for what these environments have for it
  abbrev pub Stands : Layout → Stand → (Around → Value) → Type 0
  Stands layout stand value = (frame : List Item) (around : Around) → Agrees layout frame around → IsStanding flat frame [] stand (value around)

  module _ (text : Text) (known : Known) (named : List ℕ → Outside) where
    -- a node means what a tree means, over each frame that agrees
    abbrev pub IsMeant : Layout → ℕ → Tree → Type 0
    IsMeant layout i x =
        (frame more : List Item) (around : Around) → Agrees layout frame around
        → Matches (order_by (places_at text known named layout.context x)) (text_at flat i (frame ++ more)) (expand text known named around x)

    -- a node means the body among these parts, behind the definitions before it
    abbrev pub IsBody : Layout → ℕ → Trees → Type 0
    IsBody layout i parts = Gives layout i (λ around. (inner text known named around parts).text)

    -- a node has the form of a tree, over parts that are what the tree is made of, for each frame that agrees
    abbrev pub IsBuiltAt : Layout → FlatNode → Tree → Type 0
    IsBuiltAt layout node x =
        (frame more : List Item) (around : Around) → Agrees layout frame around
        → IsBuilt text known named layout.stands around x node.form (items_at (text_at flat) node.parts (frame ++ more))
