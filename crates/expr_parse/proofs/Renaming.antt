-- Parts that turn out to bind.
use Rattle.std.proofs.Common.{◌≡◌, ℕ, zero, suc, ◌+◌, ◌<◌, ◌≤◌, Bool, true, false, List, [], ◌∷◌, ◌++◌, Option, Some, None, length, take, refl, ap, sym, subst, ◌∙◌, length-append, arith}
use Rattle.std.specs.Prelude.{map, slice_index_or}
use Rattle.tla_symbols.specs.declared.lexeme.Lexeme.{Lexeme}
use Rattle.tla_symbols.specs.declared.lexeme.Span.{Span}
use Rattle.tla_tree.specs.declared.form.Form.{Form}
use Rattle.tla_tree.specs.Arena.{AreThere, tree_at, node_at}
use Rattle.tla_tree.specs.Arena as Arena
use Rattle.tla_tree.specs.Lexemes.{built, one, then}
use Rattle.tla_tree.specs.Syntax.{Tree, Trees, Node, Nil, Cons, trees, form}
use Rattle.std.specs.List.{AllByRecursion}
use Rattle.std.proofs.Math.Seq.{take-length}
use Rattle.tla_tree.proofs.Nodes.{tree_at-node}
use Rattle.expr_grammar.specs.declared.wait.Shape.TheVariants as Shape
use Rattle.expr_grammar.specs.declared.wait.Conversion.TheVariants as Conversion
use Rattle.expr_grammar.specs.Tables.{converted, shape, infix_shape, member_shape, name_leaf, name_of, names_of, as_bound, bound_of}
use Rattle.expr_grammar.specs.Counting.{made_name, made_names, made_bound, made_converted}
use Rattle.expr_laws.proofs.Viewing.{trees-then}
use Rattle.expr_parse.specs.declared.convert.Operands.{Operands}
use Rattle.tree_parts.specs.declared.part.Part.{Part}
use Rattle.tree_parts.specs.Parts.{parts_of, span_of, joined, covered, IsPart}
use Rattle.expr_parse.specs.TurnMeaning.{Becomes, Renamed, AreNames, AreOperands, AreTwo, Converts}
use Rattle.tree_parts.proofs.Spans.{span-append, covered-span}
use Rattle.tree_parts.proofs.Growing.{grows-same, grows-one, grows-on, grows-length, map-grows, there-longer, tree_at-grows, node_at-grows, new-node, map-append, there-append}

member-plain : (b : Bool) (n : Lexeme) → member_shape b ≡ Shape.Plain n → ⊥
member-plain true n h = cc
member-plain false n h = cc

infix-plain : (t n : Lexeme) (ps : Trees) → infix_shape t ps ≡ Shape.Plain n → ⊥
infix-plain t n (Cons x (Cons y Nil)) h = member-plain _ n h
infix-plain t n _ h = cc

pub plain-renames : (e : Tree) (n : Lexeme) → shape e ≡ Shape.Plain n → (name_of e ≡ name_leaf n) × (made_name e ≡ 1)
plain-renames (Node Form.Identifier s (Cons (Node (Form.Segment m) s' Nil) Nil)) n h = let q : m ≡ n = cc in (ap name_leaf q, refl)
plain-renames (Node (Form.Infix t) s ps) n h = absurd (infix-plain t n ps h)
plain-renames _ n h = cc

pub renamed-leaf : (nodes more : List Arena.Node) (number node : ℕ) (n : Lexeme) → more ≡ nodes ++ record { form = Form.Name n; span = n.span; children = [] } ∷ [] → number ≡ length nodes → shape (tree_at nodes node) ≡ Shape.Plain n → Renamed nodes more number (name_of (tree_at nodes node)) (made_name (tree_at nodes node))
renamed-leaf nodes more number node n e k h =
    let p = plain-renames (tree_at nodes node) n h in
    let t = new-node nodes more number (Form.Name n) n.span [] [] e k refl in
    record {
      grows = grows-one nodes more _ e;
      few = rw (p.1, e) (omega (arith, length-append nodes (record { form = Form.Name n; span = n.span; children = [] } ∷ [])));
      there = t.0;
      is = t.1 ∙ sym p.0;
    }

pub infix-operands : (nodes : List Arena.Node) (r : Option Operands) (t : Lexeme) (s : Span) (ks : List ℕ) → AreTwo r ks → AreThere nodes ks → AreOperands nodes r (Node (Form.Infix t) s (trees (map (tree_at nodes) ks)))
infix-operands nodes None t s [] a all = (λ b. refl, refl)
infix-operands nodes None t s (k ∷ []) a all = (λ b. refl, refl)
infix-operands nodes None t s (k ∷ l ∷ []) a all = absurd a
infix-operands nodes None t s (k ∷ l ∷ m ∷ ks) a all = (λ b. refl, refl)
infix-operands nodes (Some o) t s ks a all =
    let there : AreThere nodes (o.left ∷ o.right ∷ []) = subst (AreThere nodes) a all in
    rw a (there.0, there.1.0, λ b. refl, refl)

pub other-operands : (nodes : List Arena.Node) (e : Tree) → ((t : Lexeme) → form e ≡ Form.Infix t → ⊥) → AreOperands nodes None e
other-operands nodes (Node (Form.Infix t) s ps) h = absurd (h t refl)
other-operands nodes (Node _ s ps) h = (λ b. refl, refl)

pub names-list : (ts : List Tree) → names_of (trees ts) ≡ trees (map name_of ts)
names-list [] = refl
names-list (t ∷ ts) = ap (λ z. Cons (name_of t) z) (names-list ts)

names-snoc : (ts : List Tree) (y : Tree) → names_of (trees (ts ++ y ∷ [])) ≡ then (names_of (trees ts)) (name_of y)
names-snoc [] y = refl
names-snoc (t ∷ ts) y = ap (λ z. Cons (name_of t) z) (names-snoc ts y)

made-snoc : (ts : List Tree) (y : Tree) → made_names (trees (ts ++ y ∷ [])) ≡ made_names (trees ts) + made_name y
made-snoc [] y = omega arith
made-snoc (t ∷ ts) y = let e : made_names (trees (ts ++ y ∷ [])) ≡ made_names (trees ts) + made_name y = made-snoc ts y in omega arith

-- one name more
pub names-more : (nodes more most : List Arena.Node) (numbers numbers' : List ℕ) (ts : List Tree) (number : ℕ) (y : Tree) → AreNames nodes more numbers (trees ts) → Renamed more most number (name_of y) (made_name y) → numbers' ≡ numbers ++ number ∷ [] → AreNames nodes most numbers' (trees (ts ++ y ∷ []))
names-more nodes more most numbers numbers' ts number y a r e = rw e (record {
  grows = grows-on nodes more most a.grows r.grows;
  few = rw (made-snoc ts y) (omega (arith, a.few, r.few));
  there = there-append most numbers (number ∷ []) (there-longer 0 0 numbers more most (grows-length more most r.grows) a.there) (r.there, tt);
  are =
      ap trees (map-append most numbers (number ∷ []))
      ∙ (trees-then (map (tree_at most) numbers) (tree_at most number)
      ∙ (ap (λ z. then z (tree_at most number)) (ap trees (map-grows more most numbers r.grows a.there) ∙ a.are)
      ∙ (ap (λ z. then (names_of (trees ts)) z) r.is ∙ sym (names-snoc ts y))));
})

pub names-none : (nodes : List Arena.Node) → AreNames nodes nodes [] Nil
names-none nodes = record { grows = grows-same nodes; few = omega arith; there = tt; are = refl }

pub take-next : {A : Type 0} (xs : List A) (i : ℕ) (d : A) → i < length xs → take (i + 1) xs ≡ take i xs ++ slice_index_or xs i d ∷ []
take-next {A = A} xs i d l = let e : i + 1 ≡ suc i = omega arith in ap (λ z. take z xs) e ∙ go xs i l
  where
    go : (ys : List A) (j : ℕ) → j < length ys → take (suc j) ys ≡ take j ys ++ slice_index_or ys j d ∷ []
    go [] j l = absurd (omega arith)
    go (y ∷ ys) zero l = refl
    go (y ∷ ys) (suc j) l = ap (λ z. y ∷ z) (go ys j (omega arith))

pub map-at : (nodes : List Arena.Node) (ks : List ℕ) (i : ℕ) (d : Tree) → i < length ks → slice_index_or (map (tree_at nodes) ks) i d ≡ tree_at nodes (slice_index_or ks i 0)
map-at nodes [] i d l = absurd (omega arith)
map-at nodes (k ∷ ks) zero d l = refl
map-at nodes (k ∷ ks) (suc i) d l = map-at nodes ks i d (omega arith)

pub length-trees : (nodes : List Arena.Node) (ks : List ℕ) → length (map (tree_at nodes) ks) ≡ length ks
length-trees nodes [] = refl
length-trees nodes (k ∷ ks) = let e : length (map (tree_at nodes) ks) ≡ length ks = length-trees nodes ks in omega arith

-- one entry of a tuple
pub names-step : (nodes now most : List Arena.Node) (tuple index entry number : ℕ) (numbers numbers' : List ℕ) → tuple < length nodes → index < length (node_at nodes tuple).children → AreNames nodes now numbers (trees (take index (map (tree_at nodes) (node_at nodes tuple).children))) → entry ≡ slice_index_or (node_at now tuple).children index 0 → entry < tuple → Renamed now most number (name_of (tree_at now entry)) (made_name (tree_at now entry)) → numbers' ≡ numbers ++ number ∷ [] → AreNames nodes most numbers' (trees (take (index + 1) (map (tree_at nodes) (node_at nodes tuple).children)))
names-step nodes now most tuple index entry number numbers numbers' there inside a e before r p =
    let ks : List ℕ = (node_at nodes tuple).children in
    let ts : List Tree = map (tree_at nodes) ks in
    let d : Tree = tree_at nodes 0 in
    let k : entry ≡ slice_index_or ks index 0 = e ∙ ap (λ z. slice_index_or z.children index 0) (node_at-grows nodes now tuple a.grows there) in
    let y : tree_at now entry ≡ slice_index_or ts index d =
    tree_at-grows nodes now entry a.grows (omega (arith, before, there)) ∙ (ap (tree_at nodes) k ∙ sym (map-at nodes ks index d inside))
    in
    let q : take (index + 1) ts ≡ take index ts ++ slice_index_or ts index d ∷ [] = take-next ts index d (omega (arith, inside, length-trees nodes ks)) in
    subst (λ z. AreNames nodes most numbers' (trees z)) (sym q)
    (names-more nodes now most numbers numbers' (take index ts) number (slice_index_or ts index d) a
    (subst (λ z. Renamed now most number (name_of z) (made_name z)) y r) p)

pub names-whole : (nodes now : List Arena.Node) (tuple index : ℕ) (numbers : List ℕ) → tuple < length nodes → AllByRecursion (λ child. child < tuple) (node_at nodes tuple).children → index ≡ length (node_at nodes tuple).children → AreNames nodes now numbers (trees (take index (map (tree_at nodes) (node_at nodes tuple).children))) → AreNames nodes now numbers (parts_of (tree_at nodes tuple))
names-whole nodes now tuple index numbers there before last a =
    let ks : List ℕ = (node_at nodes tuple).children in
    let ts : List Tree = map (tree_at nodes) ks in
    let q : take index ts ≡ ts = ap (λ z. take z ts) (last ∙ sym (length-trees nodes ks)) ∙ take-length ts in
    subst (AreNames nodes now numbers) (ap trees q ∙ sym (ap parts_of (tree_at-node nodes tuple there before))) a

bound-plain : (x y : Tree) (b : List Lexeme) → (form x ≡ Form.Tuple → ⊥) → (bound_of x y b ≡ built Form.Bound (then (one (name_of x)) y) b) × (made_bound x ≡ suc (made_name x))
bound-plain (Node Form.Tuple s ps) y b h = absurd (h refl)
bound-plain (Node _ s ps) y b h = (refl, refl)

bound-parts : (x y : Tree) (b : List Lexeme) → form x ≡ Form.Tuple → (bound_of x y b ≡ built Form.TupleBound (then (names_of (parts_of x)) y) b) × (made_bound x ≡ suc (made_names (parts_of x)))
bound-parts (Node Form.Tuple s ps) y b h = (refl, refl)
bound-parts (Node _ s ps) y b h = cc

new-built : (nodes more : List Arena.Node) (number : ℕ) (form : Form) (span : Option Span) (covers : Span) (ks : List ℕ) (ps : List Tree) (a : List Lexeme) → more ≡ nodes ++ record { form = form; span = covers; children = ks } ∷ [] → covers ≡ covered span → span ≡ span_of a → number ≡ length nodes → map (tree_at nodes) ks ≡ ps → (number < length more) × (tree_at more number ≡ built form (trees ps) a)
new-built nodes more number form span covers ks ps a e v p n m =
    let t = new-node nodes more number form covers ks ps e n m in
    (t.0, t.1 ∙ ap (λ z. Node form z (trees ps)) (v ∙ (ap covered p ∙ covered-span a)))

-- a bound of a name
pub bound-named : (nodes more most : List Arena.Node) (left right name bound : ℕ) (span : Option Span) (covers : Span) (a : List Lexeme) → (form (tree_at nodes left) ≡ Form.Tuple → ⊥) → right < length nodes → Renamed nodes more name (name_of (tree_at nodes left)) (made_name (tree_at nodes left)) → most ≡ more ++ record { form = Form.Bound; span = covers; children = name ∷ right ∷ [] } ∷ [] → covers ≡ covered span → bound ≡ length more → span ≡ span_of a → Renamed nodes most bound (bound_of (tree_at nodes left) (tree_at nodes right) a) (made_bound (tree_at nodes left))
bound-named nodes more most left right name bound span covers a other there r e v n p =
    let y : tree_at more right ≡ tree_at nodes right = tree_at-grows nodes more right r.grows there in
    let t = new-built more most bound Form.Bound span covers (name ∷ right ∷ []) (name_of (tree_at nodes left) ∷ tree_at nodes right ∷ []) a e v p n (rw (r.is, y) refl) in
    let q = bound-plain (tree_at nodes left) (tree_at nodes right) a other in
    record {
      grows = grows-on nodes more most r.grows (grows-one more most _ e);
      few = rw (q.1, e) (omega (arith, r.few, length-append more (record { form = Form.Bound; span = covers; children = name ∷ right ∷ [] } ∷ [])));
      there = t.0;
      is = t.1 ∙ sym q.0;
    }

-- and of a tuple
pub bound-tuple : (nodes more most : List Arena.Node) (left right bound : ℕ) (numbers numbers' : List ℕ) (span : Option Span) (covers : Span) (a : List Lexeme) → form (tree_at nodes left) ≡ Form.Tuple → right < length nodes → AreNames nodes more numbers (parts_of (tree_at nodes left)) → numbers' ≡ numbers ++ right ∷ [] → most ≡ more ++ record { form = Form.TupleBound; span = covers; children = numbers' } ∷ [] → covers ≡ covered span → bound ≡ length more → span ≡ span_of a → Renamed nodes most bound (bound_of (tree_at nodes left) (tree_at nodes right) a) (made_bound (tree_at nodes left))
bound-tuple nodes more most left right bound numbers numbers' span covers a is there r w e v n p =
    let y : tree_at more right ≡ tree_at nodes right = tree_at-grows nodes more right r.grows there in
    let m : map (tree_at more) numbers' ≡ map (tree_at more) numbers ++ tree_at nodes right ∷ [] = rw w (map-append more numbers (right ∷ []) ∙ ap (λ z. map (tree_at more) numbers ++ z ∷ []) y) in
    let t = new-built more most bound Form.TupleBound span covers numbers' (map (tree_at more) numbers ++ tree_at nodes right ∷ []) a e v p n m in
    let g : trees (map (tree_at more) numbers ++ tree_at nodes right ∷ []) ≡ then (names_of (parts_of (tree_at nodes left))) (tree_at nodes right) =
    trees-then (map (tree_at more) numbers) (tree_at nodes right) ∙ ap (λ z. then z (tree_at nodes right)) r.are
    in
    let q = bound-parts (tree_at nodes left) (tree_at nodes right) a is in
    record {
      grows = grows-on nodes more most r.grows (grows-one more most _ e);
      few = rw (q.1, e) (omega (arith, r.few, length-append more (record { form = Form.TupleBound; span = covers; children = numbers' } ∷ [])));
      there = t.0;
      is = t.1 ∙ (ap (λ z. built Form.TupleBound z a) g ∙ sym q.0);
    }

pub as-bound-is : (nodes more : List Arena.Node) (part bound : Part) (o : Operands) (e : Tree) (b : List Lexeme) → IsPart nodes part e b → AreOperands nodes (Some o) (tree_at nodes part.node) → bound.span ≡ part.span → Renamed nodes more bound.node (bound_of (tree_at nodes o.left) (tree_at nodes o.right) b) (made_bound (tree_at nodes o.left)) → Becomes nodes more bound (as_bound e b) b (made_converted Conversion.AsBound e)
as-bound-is nodes more part bound o e b p a w r = record {
  grows = r.grows;
  few = subst (λ z. length more ≤ length nodes + z) (sym a.3 ∙ ap (λ z. made_converted Conversion.AsBound z) p.is) r.few;
  is = record {
    there = r.there;
    is = r.is ∙ (sym (a.2 b) ∙ ap (λ z. as_bound z b) p.is);
    span = w ∙ p.span;
  };
}

pub as-bound-stays : (nodes : List Arena.Node) (part : Part) (e : Tree) (b : List Lexeme) → IsPart nodes part e b → AreOperands nodes None (tree_at nodes part.node) → Becomes nodes nodes part (as_bound e b) b (made_converted Conversion.AsBound e)
as-bound-stays nodes part e b p a = record {
  grows = grows-same nodes;
  few = omega arith;
  is = record {
    there = p.there;
    is = sym (a.0 b) ∙ ap (λ z. as_bound z b) p.is;
    span = p.span;
  };
}

-- a field's value
pub as-field-is : (nodes more : List Arena.Node) (part : Part) (number : ℕ) (name mark : Lexeme) (span : Option Span) (covers : Span) (e : Tree) (b : List Lexeme) → more ≡ nodes ++ record { form = Form.Field name; span = covers; children = part.node ∷ [] } ∷ [] → covers ≡ covered span → span ≡ joined (Some name.span) (joined (Some mark.span) part.span) → number ≡ length nodes → IsPart nodes part e b → Becomes nodes more (record { node = number; span = part.span }) (built (Form.Field name) (one e) (name ∷ mark ∷ b)) b 1
as-field-is nodes more part number name mark span covers e b w v u n p =
    let q : span ≡ span_of (name ∷ mark ∷ b) =
    u ∙ (ap (λ z. joined (Some name.span) (joined (Some mark.span) z)) p.span ∙ (ap (λ z. joined (Some name.span) z) (sym (span-append (mark ∷ []) b)) ∙ sym (span-append (name ∷ []) (mark ∷ b))))
    in
    let t = new-built nodes more number (Form.Field name) span covers (part.node ∷ []) (e ∷ []) (name ∷ mark ∷ b) w v q n (ap (λ z. z ∷ []) p.is) in
    record {
      grows = grows-one nodes more _ w;
      few = rw w (omega (arith, length-append nodes (record { form = Form.Field name; span = covers; children = part.node ∷ [] } ∷ [])));
      is = record { there = t.0; is = t.1; span = p.span };
    }

pub name-is : (nodes more : List Arena.Node) (part : Part) (node : ℕ) (e : Tree) (b : List Lexeme) → IsPart nodes part e b → Renamed nodes more node (name_of (tree_at nodes part.node)) (made_name (tree_at nodes part.node)) → Becomes nodes more (record { node = node; span = part.span }) (name_of e) b (made_name e)
name-is nodes more part node e b p r = record {
  grows = r.grows;
  few = subst (λ z. length more ≤ length nodes + made_name z) p.is r.few;
  is = record { there = r.there; is = r.is ∙ ap name_of p.is; span = p.span };
}

pub converts-by : (nodes more : List Arena.Node) (stack : _) (opening : _) (v w : Conversion.the_data) (ps : List Tree) (a b : List Lexeme) (below : _) (e : Tree) → v ≡ w → Converts nodes more stack opening (ps ++ converted w e b) (a ++ b) below (made_converted w e) → Converts nodes more stack opening (ps ++ converted v e b) (a ++ b) below (made_converted v e)
converts-by nodes more stack opening v w ps a b below e q k = subst (λ z. Converts nodes more stack opening (ps ++ converted z e b) (a ++ b) below (made_converted z e)) (sym q) k
