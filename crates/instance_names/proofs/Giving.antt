-- What a node gives, by its form and those of its parts.
use Rattle.std.proofs.Common.{◌≡◌, ℕ, zero, suc, ◌+◌, ◌≤◌, ◌<◌, true, false, List, [], ◌∷◌, Option, add-one, drop, drop-cons, get_or, length, refl, ap, sym, ◌∙◌, arith}
use Rattle.std.specs.Prelude.{is_some, map}
use Rattle.std.specs.Option.{option_or}
use Rattle.list_laws.proofs.Options.{none-there}
use Rattle.tla_symbols.specs.declared.lexeme.Lexeme.{Lexeme}
use Rattle.tla_tree.specs.Arena.{Node as ArenaNode, AreThere, node_at, tree_at}
use Rattle.tla_tree.specs.Syntax as Syntax
use Rattle.tla_tree.specs.Syntax.{Tree, Trees, Node, Nil, Cons, trees}
use Rattle.tla_tree.specs.declared.form.Form.TheVariants as Form
use Rattle.tla_tree.proofs.Nodes.{tree_at-form}
use Rattle.tla_model.specs.Stretches.{one_of}
use Rattle.module_model.specs.Instances.{instance_among, named_instance, path_start}
use Rattle.instance_names.specs.Forms.{defined_in, is_identifier, module_in, segment_start}

-- ---- paths

pub no-identifier : (form : Form.the_data) (parts : Trees) → is_identifier form ≡ false → path_start form parts ≡ []
no-identifier Form.Identifier parts none = cc
no-identifier _ parts none = refl

identifier-is : (form : Form.the_data) → is_identifier form ≡ true → form ≡ Form.Identifier
identifier-is Form.Identifier is = refl
identifier-is _ is = cc

one-segment : (x : Tree) → path_start Form.Identifier (Cons x Nil) ≡ []
one-segment (Node (Form.Segment l) s parts) = refl
one-segment (Node _ s parts) = refl

more-segments : (x y : Tree) (rest : Trees) → path_start Form.Identifier (Cons x (Cons y rest)) ≡ segment_start (Syntax.form x)
more-segments (Node (Form.Segment l) s parts) y rest = refl
more-segments (Node _ s parts) y rest = refl

-- a name without a path
pub short-path : (form : Form.the_data) (nodes : List ArenaNode) (children : List ℕ) → is_identifier form ≡ true → length children < 2 → path_start form (trees (map (tree_at nodes) children)) ≡ []
short-path form nodes children is short = ap (λ f. path_start f (trees (map (tree_at nodes) children))) (identifier-is form is) ∙ by children short
  where
    by : (children : List ℕ) → length children < 2 → path_start Form.Identifier (trees (map (tree_at nodes) children)) ≡ []
    by [] short = refl
    by (x ∷ []) short = one-segment (tree_at nodes x)
    by (x ∷ y ∷ rest) short = absurd (omega (arith, short))

form-at : (nodes : List ArenaNode) (node : ℕ) → node < length nodes → Syntax.form (tree_at nodes node) ≡ (node_at nodes node).form
form-at nodes node there = ap Syntax.form (tree_at-form nodes node there).1

-- a name with a path begins with its first segment
pub long-path : (form : Form.the_data) (nodes : List ArenaNode) (children : List ℕ) (d : ℕ) → AreThere nodes children → is_identifier form ≡ true → 2 ≤ length children →
    segment_start (node_at nodes (get_or children 0 d)).form ≡ path_start form (trees (map (tree_at nodes) children))
long-path form nodes children d there is long = by children there long ∙ sym (ap (λ f. path_start f (trees (map (tree_at nodes) children))) (identifier-is form is))
  where
    by : (children : List ℕ) → AreThere nodes children → 2 ≤ length children → segment_start (node_at nodes (get_or children 0 d)).form ≡ path_start Form.Identifier (trees (map (tree_at nodes) children))
    by [] there long = absurd (omega (arith, long))
    by (x ∷ []) there long = absurd (omega (arith, long))
    by (x ∷ y ∷ rest) there long = ap segment_start (sym (form-at nodes x there.0)) ∙ sym (more-segments (tree_at nodes x) (tree_at nodes y) (trees (map (tree_at nodes) rest)))

-- ---- instances

among-tree : (x : Tree) (rest : Trees) → instance_among (Cons x rest) ≡ option_or (module_in (Syntax.form x)) (instance_among rest)
among-tree (Node (Form.Instance l) s parts) rest = refl
among-tree (Node _ s parts) rest = refl

there-at : (nodes : List ArenaNode) (children : List ℕ) (i d : ℕ) → i < length children → AreThere nodes children → get_or children i d < length nodes
there-at nodes [] i d lt there = absurd (omega (arith, lt))
there-at nodes (child ∷ children) zero d lt there = there.0
there-at nodes (child ∷ children) (suc i) d lt there = there-at nodes children i d (omega (arith, lt)) there.1

-- a node is an INSTANCE, or it stands among those behind it
pub among-at : (nodes : List ArenaNode) (children : List ℕ) (i d : ℕ) → i < length children → AreThere nodes children →
    instance_among (trees (map (tree_at nodes) (drop i children))) ≡ option_or (module_in (node_at nodes (get_or children i d)).form) (instance_among (trees (map (tree_at nodes) (drop (i + 1) children))))
among-at nodes children i d lt there =
    let rest = trees (map (tree_at nodes) (drop (i + 1) children)) in
    let child = get_or children i d in
    let parted : drop i children ≡ child ∷ drop (i + 1) children = rw (add-one, drop-cons children i d) refl in
    ap (λ z. instance_among (trees (map (tree_at nodes) z))) parted ∙ among-tree (tree_at nodes child) rest
    ∙ ap (λ f. option_or (module_in f) (instance_among rest)) (form-at nodes child (there-at nodes children i d lt there))

-- a definition of an instance names it
pub named-one : (form : Form.the_data) (parts : Trees) → named_instance form parts ≡ map (λ name. (name, instance_among parts)) (one_of (defined_in form))
named-one (Form.ModuleDefinition name) parts = refl
named-one _ parts = refl

pub none-named : (form : Form.the_data) (parts : Trees) (found : Option Lexeme) → found ≡ defined_in form → is_some found ≡ false → named_instance form parts ≡ []
none-named form parts found is none =
    named-one form parts ∙ ap (λ o. map (λ name. (name, instance_among parts)) (one_of o)) (sym is ∙ none-there found none)
