-- Frames as they read lexemes and take parts.
use Rattle.std.proofs.Common.{◌≡◌, ℕ, ◌<◌, List, [], ◌∷◌, ◌++◌, length, refl, ap, sym, subst, ◌∙◌, Some}
use Rattle.std.specs.Prelude.{map}
use Rattle.std.specs.List.{AllByRecursion}
use Rattle.tla_symbols.specs.declared.lexeme.Lexeme.{Lexeme}
use Rattle.tla_symbols.specs.declared.lexeme.Span.{Span}
use Rattle.tla_tree.specs.declared.form.Form.{Form}
use Rattle.tla_tree.specs.Arena as Arena
use Rattle.tla_tree.specs.Arena.{node_at, tree_at}
use Rattle.tla_tree.specs.Lexemes.{built, then, place}
use Rattle.tla_tree.specs.Syntax as Syntax
use Rattle.tla_tree.specs.Syntax.{Tree, Trees, Nil, trees}
use Rattle.tla_tree.proofs.Nodes.{before-there, tree_at-node}
use Rattle.expr_laws.proofs.Viewing.{trees-then}
use Rattle.tree_parts.specs.declared.part.Part.{Part}
use Rattle.tree_parts.specs.Parts.{parts_of, IsPart, Adds, span_of, joined, covered}
use Rattle.tree_parts.proofs.Growing.{grows-one, new-node, map-append, there-append}
use Rattle.tree_parts.proofs.Spans.{span-append, covered-span}
use Rattle.unit_machine.specs.declared.wait.Wait.{Wait}
use Rattle.unit_machine.specs.Machine as Machine
use Rattle.unit_frames.specs.declared.frame.Frame.{Frame}
use Rattle.unit_frames.specs.FrameMeaning.{AreParts, IsFrame, Makes, Takes}
use Rattle.unit_frames.proofs.Growing.{frame-grows}

pub parts-more : (nodes : List Arena.Node) (numbers more : List ℕ) (node : ℕ) (ps : Trees) (e : Tree) (b : List Lexeme) (part : Part) → more ≡ numbers ++ node ∷ [] → AreParts nodes numbers ps → part.node ≡ node → IsPart nodes part e b → AreParts nodes more (then ps e)
parts-more nodes numbers more node ps e b part m a n i =
    let there : node < length nodes = subst (λ z. z < length nodes) n i.there in
    let is : tree_at nodes node ≡ e = subst (λ z. tree_at nodes z ≡ e) n i.is in
    rw m (record {
      there = there-append nodes numbers (node ∷ []) a.there (there, tt);
      are = ap trees (map-append nodes numbers (node ∷ [])) ∙ (trees-then (map (tree_at nodes) numbers) (tree_at nodes node) ∙ (ap (λ z. then z (tree_at nodes node)) a.are ∙ ap (then ps) is));
    })

pub frame-reads : (nodes : List Arena.Node) (held : Frame) (w : Wait) (t : Lexeme) (f : Machine.Frame) → IsFrame nodes held f → IsFrame nodes (record { wait = w; parts = held.parts; span = joined held.span (Some t.span) }) (Machine.frame w f.parts (f.read ++ t ∷ []))
frame-reads nodes held w t f i = record {
  wait = refl;
  parts = i.parts;
  span = ap (λ z. joined z (Some t.span)) i.span ∙ sym (span-append f.read (t ∷ []));
}

span-takes : (held : Frame) (part : Part) (a b : List Lexeme) → held.span ≡ span_of a → part.span ≡ span_of b → joined held.span part.span ≡ span_of (a ++ b)
span-takes held part a b h p = ap (λ z. joined z part.span) h ∙ (ap (λ z. joined (span_of a) z) p ∙ sym (span-append a b))

pub frame-takes : (nodes : List Arena.Node) (held : Frame) (w : Wait) (part : Part) (numbers : List ℕ) (f : Machine.Frame) (e : Tree) (b : List Lexeme) → AreParts nodes numbers (then f.parts e) → IsFrame nodes held f → IsPart nodes part e b → IsFrame nodes (record { wait = w; parts = numbers; span = joined held.span part.span }) (Machine.frame w (then f.parts e) (f.read ++ b))
frame-takes nodes held w part numbers f e b a i p = record {
  wait = refl;
  parts = a;
  span = span-takes held part f.read b i.span p.span;
}

-- the parts of a node are those of its tree
pub children-are : (nodes : List Arena.Node) (number : ℕ) (numbers : List ℕ) → number < length nodes → AllByRecursion (λ child. child < number) numbers → numbers ≡ (node_at nodes number).children → AreParts nodes numbers (parts_of (tree_at nodes number))
children-are nodes number numbers l all q =
    let before : AllByRecursion (λ child. child < number) (node_at nodes number).children = subst (λ z. AllByRecursion (λ child. child < number) z) q all in
    rw q (record {
      there = before-there nodes number (node_at nodes number).children l before;
      are = sym (ap parts_of (tree_at-node nodes number l before));
    })

pub frame-bounds : (nodes : List Arena.Node) (held : Frame) (w : Wait) (part : Part) (numbers children : List ℕ) (f : Machine.Frame) (e : Tree) (b : List Lexeme) → numbers ≡ children → part.node < length nodes → AllByRecursion (λ child. child < part.node) children → children ≡ (node_at nodes part.node).children → IsFrame nodes held f → IsPart nodes part e b → IsFrame nodes (record { wait = w; parts = numbers; span = joined held.span part.span }) (Machine.frame w (parts_of e) (f.read ++ b))
frame-bounds nodes held w part numbers children f e b n l all q i p = record {
  wait = refl;
  parts = rw n (subst (λ z. AreParts nodes children (parts_of z)) p.is (children-are nodes part.node children l all q));
  span = span-takes held part f.read b i.span p.span;
}

-- the leaf that is made of one lexeme stands for another that is read
pub leaf-taken : (nodes more : List Arena.Node) (part : Part) (e : Tree) (b : List Lexeme) (t : Lexeme) → Adds nodes more part e b → IsPart more (record { node = part.node; span = Some t.span }) e (t ∷ [])
leaf-taken nodes more part e b t a = record { there = a.is.there; is = a.is.is; span = refl }

pub frame-leaf : (nodes more : List Arena.Node) (held taken : Frame) (part : Part) (form : Form) (name t : Lexeme) (w : Wait) (f : Machine.Frame) → Adds nodes more part (built form Nil (name ∷ [])) (name ∷ []) → (IsFrame more held f → IsPart more (record { node = part.node; span = Some t.span }) (built form Nil (name ∷ [])) (t ∷ []) → IsFrame more taken (Machine.frame w (then f.parts (built form Nil (name ∷ []))) (f.read ++ t ∷ []))) → IsFrame nodes held f → Takes nodes more taken (Machine.frame w (then f.parts (built form Nil (name ∷ []))) (f.read ++ t ∷ []))
frame-leaf nodes more held taken part form name t w f a k i = record {
  grows = a.grows;
  is = k (frame-grows nodes more held f a.grows i) (leaf-taken nodes more part _ _ t a);
}

pub node-made : (nodes more : List Arena.Node) (held : Frame) (form : Form) (span : Span) (children : List ℕ) (number : ℕ) (f : Machine.Frame) → children ≡ held.parts → span ≡ covered held.span → more ≡ nodes ++ record { form = form; span = span; children = children } ∷ [] → number ≡ length nodes → IsFrame nodes held f → Makes nodes more (record { node = number; span = held.span }) (Machine.node form f) f.read
node-made nodes more held form span children number f c v e n i =
    let added : Arena.Node = record { form = form; span = span; children = children } in
    let t = new-node nodes more number form span children (map (tree_at nodes) held.parts) e n (ap (map (tree_at nodes)) c) in
    let s : span ≡ place f.read = v ∙ (ap covered i.span ∙ covered-span f.read) in
    record {
      grows = grows-one nodes more added e;
      is = record {
        there = t.0;
        is = t.1 ∙ (ap (λ z. Syntax.Node form z (trees (map (tree_at nodes) held.parts))) s ∙ ap (Syntax.Node form (place f.read)) i.parts.are);
        span = i.span;
      };
    }
