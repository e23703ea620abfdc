-- When a node of a flat module has the parts that count for the depth of a tree.
use Rattle.std.specs.Prelude.{◌≡◌, ℕ, ◌≤◌, true, false, List, [], ◌∷◌, ◌++◌, Option, None, drop, if◌then◌else◌, map, max, slice_get, take}
use Rattle.tla_symbols.specs.declared.level.Rule.{Rule}
use Rattle.tla_symbols.specs.declared.lexeme.LexKind.TheVariants as LexKind
use Rattle.tla_symbols.specs.declared.lexeme.Lexeme.{Lexeme}
use Rattle.tla_symbols.specs.declared.op.Op.TheVariants as Op
use Rattle.tla_symbols.specs.declared.place.Fix.TheVariants.{Prefix, Infix, Postfix}
use Rattle.tla_tree.specs.declared.form.Form.TheVariants as Form
use Rattle.tla_tree.specs.Forms.{helps}
use Rattle.tla_tree.specs.Syntax.{Tree, Trees, Node, Nil, Cons}
use Rattle.tla_model.specs.Tables.{Named, is_among, same_named}
use Rattle.tla_model.specs.Entities.{Text, name_of}
use Rattle.tla_model.specs.Scopes.{is_free, prefixed, itself as as_spelled}
use Rattle.module_model.specs.Exports.{Exports, Known}
use Rattle.module_model.specs.Instances.{left_sides}
use Rattle.kind_text.specs.FlatModule.{FlatModule, Form as NodeForm, Replacement, places_of}
use Rattle.level_text.specs.Depth.{depth as depth_at, greatest, operator_depth, parameters_on}
use Rattle.level_text.specs.FormRules.{symbol_rule}
use Rattle.tree_kinds.specs.Standing.{Outside}
use Rattle.tree_kinds.specs.Expanding.{bare_rule, module_of, places_at}
use Rattle.tree_kinds.specs.TreeDepths.{Beneath, before_scope, chain_depth, counted, implied_depth, in_scope, name_depth, parts_depth}
use Rattle.flat_depths.specs.Depths.{IsAsDeep}

-- a symbol is built in at its place, or else it is one that modules define
abbrev pub IsDefinable : Option Rule → (Op.the_data → Op.the_data) → LexKind.the_data → Type 0
IsDefinable None which (LexKind.Sym op) = is_free (which op) ≡ true
IsDefinable rule which kind = Unit {0}

-- the instances on the path of a node
abbrev pub path_of : NodeForm → List ℕ
path_of (NodeForm.Use path d) = path
path_of (NodeForm.Name path d) = path
path_of form = []

-- right sides are expressions, each for one of these symbols, and none for one of those before or for the same one again
abbrev pub AreRightSides : Text → List Named → List Named → Trees → Type 0
AreRightSides text symbols before Nil = Unit {0}
AreRightSides text symbols before (Cons (Node (Form.Replacement l) s (Cons (Node form at parts) Nil)) rest) =
    (is_among symbols (name_of text.source l) ≡ true) × (is_among before (name_of text.source l) ≡ false) × (helps form ≡ false)
    × AreRightSides text symbols (name_of text.source l ∷ before) rest
AreRightSides text symbols before _ = ⊥

module _ (text : Text) (known : Known) (named : List ℕ → Outside) where
  -- the depth of what replaces the symbol of a name: of the first right side that is written for it, or else of the name
  abbrev pub right_depth : Beneath → Trees → Named → ℕ
  right_depth around Nil name = name_depth around name
  right_depth around (Cons (Node (Form.Replacement l) s right) rest) name =
      if same_named name (name_of text.source l) then parts_depth text known named around around right else right_depth around rest name
  right_depth around (Cons x rest) name = right_depth around rest name

module _ (flat : FlatModule) where
  -- what counts of these arguments behind a path: the greatest depth of those of its instances, and of the bare operators among those
  -- of its definition
  abbrev pub counted_on : List ℕ → List ℕ → ℕ
  counted_on path is =
      max (greatest (depth_at flat) (take (parameters_on flat (depth_at flat) path) is))
      (greatest (operator_depth flat (depth_at flat)) (drop (parameters_on flat (depth_at flat) path) is))

  -- so much counts of the parts of a node where it uses a definition; where it uses none, that is no more than their depth
  abbrev pub Counts : NodeForm → List ℕ → ℕ → Type 0
  Counts (NodeForm.Use path d) is n = counted_on path is ≡ n
  Counts (NodeForm.Name path d) is n = counted_on path is ≡ n
  Counts form is n = n ≤ greatest (depth_at flat) is

  module _ (text : Text) (known : Known) (named : List ℕ → Outside) where
    -- these nodes are together as deep as the parts of a form
    abbrev pub AreAsDeep : Beneath → Tree → List ℕ → Type 0
    AreAsDeep around (Node form s parts) is =
        greatest (depth_at flat) is ≡ parts_depth text known named (before_scope text known named around form parts) (in_scope text known named around form parts) parts

    -- the parts of a node are as deep as those of a tree, and so much counts of them as counts of its arguments: of a symbol nothing
    -- does, and what `@` repeats is no part of it
    abbrev pub HasParts : Beneath → Tree → NodeForm → List ℕ → Type 0
    HasParts around (Node Form.Identifier s parts) form is =
        (greatest (depth_at flat) is ≡ parts_depth text known named around around parts) × Counts form is (counted text known named around parts)
    HasParts around (Node (Form.Symbol l) s parts) form is =
        AreAsDeep around (Node (Form.Symbol l) s parts) is × Counts form is 0 × IsDefinable (bare_rule l.kind) as_spelled l.kind
    HasParts around (Node (Form.Prefix l) s parts) form is =
        AreAsDeep around (Node (Form.Prefix l) s parts) is × Counts form is 0 × IsDefinable (symbol_rule Prefix l.kind) prefixed l.kind
    HasParts around (Node (Form.Infix l) s parts) form is =
        AreAsDeep around (Node (Form.Infix l) s parts) is × Counts form is 0 × IsDefinable (symbol_rule Infix l.kind) as_spelled l.kind
    HasParts around (Node (Form.Postfix l) s parts) form is =
        AreAsDeep around (Node (Form.Postfix l) s parts) is × Counts form is 0 × IsDefinable (symbol_rule Postfix l.kind) as_spelled l.kind
    HasParts around (Node (Form.At l) s parts) form is = AreAsDeep around (Node (Form.At l) s parts) []
    HasParts around (Node Form.Let s parts) form is = greatest (depth_at flat) is ≡ chain_depth text known named around parts
    HasParts around (Node written s parts) form is = AreAsDeep around (Node written s parts) is

    -- the nodes of arguments: each is as deep as its argument, and a bare operator where that is one
    abbrev pub AreArguments : Beneath → Trees → List ℕ → Type 0
    AreArguments around Nil [] = Unit {0}
    AreArguments around (Cons (Node form s parts) rest) (i ∷ is) =
        (helps form ≡ false) × IsAsDeep flat text known named around i (Node form s parts)
        × (places_of (slice_get flat.nodes i) ≡ places_at text known named around.context (Node form s parts)) × AreArguments around rest is
    AreArguments around _ _ = ⊥

    -- the same on a path of names: the nodes of the arguments of its instances, and those of its definition
    abbrev pub AreOnPath : Beneath → Trees → List ℕ → List ℕ → Type 0
    AreOnPath around (Cons (Node (Form.Segment l) s arguments) Nil) before own = (before ≡ []) × AreArguments around arguments own
    AreOnPath around (Cons (Node (Form.Segment l) s arguments) (Cons x rest)) before own =
        (first : List ℕ) × (others : List ℕ) × (before ≡ first ++ others) × AreArguments around arguments first × AreOnPath around (Cons x rest) others own
    AreOnPath around _ before own = ⊥

    -- replacements are as deep, each, as what replaces these symbols
    abbrev pub AreEachAsDeep : Beneath → Trees → Exports → List Replacement → Type 0
    AreEachAsDeep around rights [] [] = Unit {0}
    AreEachAsDeep around rights (parameter ∷ rest) (r ∷ made) = (depth_at flat r.root ≡ right_depth text known named around rights parameter.0) × AreEachAsDeep around rights rest made
    AreEachAsDeep around rights _ _ = ⊥

    -- replacements are together as deep as those of an INSTANCE, the implied ones among them
    abbrev pub AreReplacedAsDeep : Beneath → List Replacement → Lexeme → Trees → Type 0
    AreReplacedAsDeep around made l rights =
        greatest (depth_at flat) (map (λ r. r.root) made)
        ≡ max (parts_depth text known named around around rights) (implied_depth around (left_sides text.source rights) (module_of text known named l).view.parameters)
