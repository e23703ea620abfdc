-- When a node of a flat module is made of a written name, or of a symbol that is defined.
use Rattle.std.specs.Prelude.{◌≡◌, ℕ, zero, suc, ◌<◌, List, [], ◌∷◌, Option, Some, None, drop, length, replicate, take}
use Rattle.tla_symbols.specs.declared.level.Rule.{Rule}
use Rattle.tla_symbols.specs.declared.place.Fix.TheVariants.{Prefix, Infix, Postfix}
use Rattle.tla_tree.specs.declared.form.Form.TheVariants as Form
use Rattle.tla_tree.specs.Syntax.{Tree, Node}
use Rattle.tla_model.specs.Tables.{Named}
use Rattle.tla_model.specs.Entities.{Meaning, Text}
use Rattle.tla_model.specs.Contexts.{Context, meaning_of}
use Rattle.tla_model.specs.Scopes.{prefixed, itself as as_spelled}
use Rattle.module_model.specs.Exports.{Known}
use Rattle.kind_text.specs.FlatModule.{Form as NodeForm}
use Rattle.kind_text.specs.Substitution.{Item, texts}
use Rattle.level_text.specs.FormRules.{symbol_rule}
use Rattle.tree_kinds.specs.Standing.{Outside, Steps, single}
use Rattle.tree_kinds.specs.Expanding.{Around, bare_rule, inner, items, places_at, steps, symbol_name, symbol_places}
use Rattle.tree_kinds.specs.Making.{IsMade, IsOperation, IsSymbol, Made}
use Rattle.flat_trees.specs.Stands.{Fits, Stand, Leaf, Place, Defined, Through, Brought}

-- what is said of a definition that is reached and of the orders of its parameters, by the items that are made for it and by the
-- written arguments
abbrev pub Ending : Type 1
Ending = ℕ → List ℕ → List Item → List Item → Type 0

-- it is this one, on all its arguments
abbrev pub IsUse : ℕ → Ending
IsUse d found orders made arguments = (found ≡ d) × Fits orders made arguments

-- it is this one by itself, an operator with so many places for expressions
abbrev pub IsBare : ℕ → ℕ → Ending
IsBare d places found orders made arguments = (found ≡ d) × (orders ≡ replicate places 0) × (arguments ≡ [])

-- what a name stands for, on arguments and at the names that follow, is reached through these instances; the items that are
-- made fit the arguments, in their order
abbrev pub Leads : Ending → Stand → List Item → Steps → List ℕ → List Item → Type 0
Leads ends (Defined d orders) arguments [] [] made = ends d orders made arguments
Leads ends (Through j orders inner) arguments (step ∷ steps) (i ∷ path) made =
    (i ≡ j) × Fits orders (take (length orders) made) arguments × Leads ends (inner step.name) step.arguments steps path (drop (length orders) made)
Leads ends (Brought j inner) arguments steps (i ∷ path) made = (i ≡ j) × Leads ends inner arguments steps path made
Leads ends _ arguments steps path made = ⊥

-- the places of an operator of this order
abbrev pub places_by : ℕ → Option ℕ
places_by zero = None
places_by (suc places) = Some (suc places)

-- the order of what has so many places
abbrev pub order_by : Option ℕ → ℕ
order_by None = 0
order_by (Some places) = places

-- the node is made of a name that stands for this, on arguments and at the names that follow: an expression, or an operator with
-- so many places
abbrev pub IsNamed : Option ℕ → Stand → List Item → Steps → NodeForm → List Item → Type 0
IsNamed places stand arguments steps (NodeForm.Leaf kind) made = (places ≡ None) × (stand ≡ Leaf kind) × (arguments ≡ []) × (steps ≡ [])
IsNamed places stand arguments steps (NodeForm.Parameter place) made =
    (order : ℕ) × (places ≡ places_by order) × (stand ≡ Place place order) × (arguments ≡ []) × (steps ≡ [])
IsNamed places stand arguments steps (NodeForm.Call place) made =
    (places ≡ None) × (stand ≡ Place place (length arguments)) × (0 < length arguments) × (texts made ≡ texts arguments) × (steps ≡ [])
IsNamed places stand arguments steps (NodeForm.Use path d) made = (places ≡ None) × Leads (IsUse d) stand arguments steps path made
IsNamed places stand arguments steps (NodeForm.Name path d) made = (count : ℕ) × (places ≡ Some count) × Leads (IsBare d count) stand arguments steps path made
IsNamed places stand arguments steps form made = ⊥

-- ---- trees

-- parentheses or a LET round this expression; further parts do not count
abbrev pub IsInside : Item → Made
IsInside x form made = (first : Item) × (rest : List Item) × (form ≡ NodeForm.Let) × (made ≡ first ∷ rest) × (first.text ≡ x.text)

-- by what stands for the meanings of names in a context
module _ (stands : Meaning → Stand) (context : Context) where
  -- the node is made of a name that means this
  abbrev pub IsMeaning : Option ℕ → Option Meaning → List Item → Steps → Made
  IsMeaning places None arguments path form made = ⊥
  IsMeaning places (Some meaning) arguments path form made = IsNamed places (stands meaning) arguments path form made

  -- the node is made of what stands at a path of names
  abbrev pub IsPath : Option ℕ → Steps → Made
  IsPath places [] form made = ⊥
  IsPath places (step ∷ path) form made = IsMeaning places (meaning_of context step.name) step.arguments path form made

  -- the node is made of a symbol on operands: an operation, where it is built in
  abbrev pub IsSymbolOn : Option Rule → Option Named → List Item → Made
  IsSymbolOn (Some rule) name operands form made = IsOperation (Some rule) (texts operands) form made
  IsSymbolOn None None operands form made = ⊥
  IsSymbolOn None (Some name) operands form made = IsPath None (single name operands) form made

  -- the node is made of a bare symbol with so many places
  abbrev pub IsBareSymbol : Option Rule → Option Named → Option ℕ → Made
  IsBareSymbol (Some rule) name places form made = IsSymbol (Some rule) form made
  IsBareSymbol None (Some name) (Some places) form made = IsPath (Some places) (single name []) form made
  IsBareSymbol None name places form made = ⊥

module _ (text : Text) (known : Known) (named : List ℕ → Outside) (stands : Meaning → Stand) where
  -- the node has the form of a written tree, over parts that are what the tree is made of; names and symbols that are defined are
  -- made by what they stand for
  abbrev pub IsBuilt : Around → Tree → Made
  IsBuilt around (Node Form.Identifier s parts) form made =
      IsPath stands around.context (places_at text known named around.context (Node Form.Identifier s parts)) (steps text known named around parts) form made
  IsBuilt around (Node (Form.Symbol l) s parts) form made =
      IsBareSymbol stands around.context (bare_rule l.kind) (symbol_name as_spelled l.kind) (symbol_places around.context l.kind) form made
  IsBuilt around (Node (Form.Prefix l) s parts) form made =
      IsSymbolOn stands around.context (symbol_rule Prefix l.kind) (symbol_name prefixed l.kind) (items text known named around parts) form made
  IsBuilt around (Node (Form.Infix l) s parts) form made =
      IsSymbolOn stands around.context (symbol_rule Infix l.kind) (symbol_name as_spelled l.kind) (items text known named around parts) form made
  IsBuilt around (Node (Form.Postfix l) s parts) form made =
      IsSymbolOn stands around.context (symbol_rule Postfix l.kind) (symbol_name as_spelled l.kind) (items text known named around parts) form made
  IsBuilt around (Node Form.Parentheses s parts) form made = IsInside (inner text known named around parts) form made
  IsBuilt around (Node Form.Let s parts) form made = IsInside (inner text known named around parts) form made
  IsBuilt around (Node written s parts) form made = IsMade text known named around (Node written s parts) form made
