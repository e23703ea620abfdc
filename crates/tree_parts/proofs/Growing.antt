-- What stands in the arena stays as nodes are added.
use Rattle.std.proofs.Common.{◌≡◌, ℕ, ◌<◌, ◌≤◌, List, [], ◌∷◌, ◌++◌, length, refl, ap, sym, ◌∙◌, append_assoc, append-nil, length-append, arith}
use Rattle.std.specs.Prelude.{map}
use Rattle.tla_symbols.specs.declared.lexeme.Lexeme.{Lexeme}
use Rattle.tla_tree.specs.Arena.{Node, AreThere, node_at, tree_at, tree_of, grown}
use Rattle.tla_tree.specs.Lexemes.{built}
use Rattle.tla_tree.specs.Syntax.{Tree, Nil, trees}
use Rattle.tla_tree.specs.declared.form.Form.{Form}
use Rattle.tla_tree.proofs.Nodes.{tree_at-old, tree_at-new, node_at-old}
use Rattle.tree_parts.specs.declared.part.Part.{Part}
use Rattle.tree_parts.specs.Parts.{IsPart, Grows, Adds}

pub grows-same : (nodes : List Node) → Grows nodes nodes
grows-same nodes = ([], sym (append-nil nodes))

pub grows-one : (nodes more : List Node) (node : Node) → more ≡ nodes ++ node ∷ [] → Grows nodes more
grows-one nodes more node e = (node ∷ [], e)

pub grows-on : (nodes more most : List Node) → Grows nodes more → Grows more most → Grows nodes most
grows-on nodes more most g h = (g.0 ++ h.0, h.1 ∙ (ap (λ z. z ++ h.0) g.1 ∙ append_assoc nodes g.0 h.0))

pub grows-length : (nodes more : List Node) → Grows nodes more → length nodes ≤ length more
grows-length nodes more g = rw g.1 (omega (arith, length-append nodes g.0))

tree_at-rest : (nodes rest : List Node) (number : ℕ) → number < length nodes → tree_at (nodes ++ rest) number ≡ tree_at nodes number
tree_at-rest nodes [] number there = ap (λ z. tree_at z number) (append-nil nodes)
tree_at-rest nodes (node ∷ rest) number there =
    let longer : number < length (nodes ++ node ∷ []) = omega (arith, there, length-append nodes (node ∷ [])) in
    ap (λ z. tree_at z number) (sym (append_assoc nodes (node ∷ []) rest))
    ∙ (tree_at-rest (nodes ++ node ∷ []) rest number longer ∙ tree_at-old nodes node number there)

pub tree_at-grows : (nodes more : List Node) (number : ℕ) → Grows nodes more → number < length nodes → tree_at more number ≡ tree_at nodes number
tree_at-grows nodes more number g there = ap (λ z. tree_at z number) g.1 ∙ tree_at-rest nodes g.0 number there

node_at-rest : (nodes rest : List Node) (number : ℕ) → number < length nodes → node_at (nodes ++ rest) number ≡ node_at nodes number
node_at-rest nodes [] number there = ap (λ z. node_at z number) (append-nil nodes)
node_at-rest nodes (node ∷ rest) number there =
    let longer : number < length (nodes ++ node ∷ []) = omega (arith, there, length-append nodes (node ∷ [])) in
    ap (λ z. node_at z number) (sym (append_assoc nodes (node ∷ []) rest))
    ∙ (node_at-rest (nodes ++ node ∷ []) rest number longer ∙ node_at-old nodes node number there)

pub node_at-grows : (nodes more : List Node) (number : ℕ) → Grows nodes more → number < length nodes → node_at more number ≡ node_at nodes number
node_at-grows nodes more number g there = ap (λ z. node_at z number) g.1 ∙ node_at-rest nodes g.0 number there

pub there-longer : (m n : ℕ) (numbers : List ℕ) (nodes more : List Node) → length nodes ≤ length more → AreThere nodes numbers → AreThere more numbers
there-longer m n [] nodes more l all = tt
there-longer m n (number ∷ numbers) nodes more l all = (omega (arith, all.0, l), there-longer m n numbers nodes more l all.1)

pub map-grows : (nodes more : List Node) (numbers : List ℕ) → Grows nodes more → AreThere nodes numbers → map (tree_at more) numbers ≡ map (tree_at nodes) numbers
map-grows nodes more [] g all = refl
map-grows nodes more (number ∷ numbers) g all = rw (tree_at-grows nodes more number g all.0, map-grows nodes more numbers g all.1) refl

pub part-grows : (nodes more : List Node) (part : Part) (e : Tree) (b : List Lexeme) → Grows nodes more → IsPart nodes part e b → IsPart more part e b
part-grows nodes more part e b g p = record {
  there = omega (arith, p.there, grows-length nodes more g);
  is = tree_at-grows nodes more part.node g p.there ∙ p.is;
  span = p.span;
}

-- a new node, above nodes that are there
pub new-node : (nodes more : List Node) (number : ℕ) (form : Form) (span : _) (children : List ℕ) (ps : List Tree) → more ≡ nodes ++ record { form = form; span = span; children = children } ∷ [] → number ≡ length nodes → map (tree_at nodes) children ≡ ps → (number < length more) × (tree_at more number ≡ Rattle.tla_tree.specs.Syntax.Node form span (trees ps))
unfolding tree_at
new-node nodes more number form span children ps e n m = (
  rw (e, n) (omega (arith, length-append nodes (record { form = form; span = span; children = children } ∷ []))),
  ap (λ z. tree_of (grown [] z) number) e ∙ (tree_at-new nodes (record { form = form; span = span; children = children }) number n ∙ ap (λ z. Rattle.tla_tree.specs.Syntax.Node form span (trees z)) m),
)

pub map-append : (nodes : List Node) (ks ls : List ℕ) → map (tree_at nodes) (ks ++ ls) ≡ map (tree_at nodes) ks ++ map (tree_at nodes) ls
map-append nodes [] ls = refl
map-append nodes (k ∷ ks) ls = rw (map-append nodes ks ls) refl

pub there-append : (nodes : List Node) (ks ls : List ℕ) → AreThere nodes ks → AreThere nodes ls → AreThere nodes (ks ++ ls)
there-append nodes [] ls a b = b
there-append nodes (k ∷ ks) ls a b = (a.0, there-append nodes ks ls a.1 b)

pub leaf-is : (nodes more : List Node) (form : Form) (number : ℕ) (lexeme : Lexeme) → more ≡ nodes ++ record { form = form; span = lexeme.span; children = [] } ∷ [] → number ≡ length nodes → Adds nodes more (record { node = number; span = Rattle.std.proofs.Common.Some lexeme.span }) (built form Nil (lexeme ∷ [])) (lexeme ∷ [])
leaf-is nodes more form number lexeme e n =
    let added : Node = record { form = form; span = lexeme.span; children = [] } in
    let t = new-node nodes more number form lexeme.span [] [] e n refl in
    record {
      grows = grows-one nodes more added e;
      one = rw e (length-append nodes (added ∷ []));
      is = record { there = t.0; is = t.1; span = refl };
    }
