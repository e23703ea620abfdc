-- The shapes of trees by the nodes that hold them.
use Rattle.std.proofs.Common.{◌≡◌, ℕ, zero, suc, ◌<◌, ◌≤◌, ◌⊎◌, inl, inr, Bool, true, false, List, [], ◌∷◌, length, take, refl, ap, sym, subst, ◌∙◌, arith}
use Rattle.std.specs.Prelude.{cond, map, nat_eq, not, slice_index_or}
use Rattle.std.specs.List.{AllByRecursion}
use Rattle.std.proofs.lemmas.Bool.Decides.{nat_tests}
use Rattle.tla_symbols.specs.declared.lexeme.Lexeme.{Lexeme}
use Rattle.tla_symbols.specs.declared.lexeme.Span.{Span}
use Rattle.tla_tree.specs.declared.form.Form.{Form}
use Rattle.tla_tree.specs.Arena.{Node, node_at, tree_at}
use Rattle.tla_tree.specs.Forms.{helps}
use Rattle.tla_tree.specs.Syntax as Syntax
use Rattle.tla_tree.specs.Syntax.{Tree, Trees, Nil, Cons, trees}
use Rattle.tla_tree.proofs.Nodes.{tree_at-node, tree_at-form}
use Rattle.expr_grammar.specs.declared.wait.Shape.{Shape}
use Rattle.expr_grammar.specs.Kinds.{is_member}
use Rattle.expr_grammar.specs.Tables.{plain_shape, is_plain, is_plain_name, are_plain_names, is_binder, infix_shape, shape_by, shape}

-- the tree at a node of a known form
at-form : (nodes : List Node) (number : ℕ) (children : List ℕ) (form : Form) → number < length nodes → children ≡ (node_at nodes number).children → AllByRecursion (λ child. child < number) children → (node_at nodes number).form ≡ form → tree_at nodes number ≡ Syntax.Node form (node_at nodes number).span (trees (map (tree_at nodes) children))
at-form nodes number children form there same before is =
    tree_at-node nodes number there (subst (λ xs. AllByRecursion (λ child. child < number) xs) same before) ∙ (ap (λ f. Syntax.Node f (node_at nodes number).span (trees (map (tree_at nodes) (node_at nodes number).children))) is ∙ ap (λ xs. Syntax.Node form (node_at nodes number).span (trees (map (tree_at nodes) xs))) (sym same))

of-form : (nodes : List Node) (number : ℕ) (form : Form) → number < length nodes → (node_at nodes number).form ≡ form → (parts : Trees) × (tree_at nodes number ≡ Syntax.Node form (node_at nodes number).span parts)
of-form nodes number form there is =
    let some : (parts : Trees) × (tree_at nodes number ≡ Syntax.Node (node_at nodes number).form (node_at nodes number).span parts) = tree_at-form nodes number there in
    (some.0, some.1 ∙ ap (λ f. Syntax.Node f (node_at nodes number).span some.0) is)

-- a segment without arguments, and one with some
segment-plain : (f : ℕ → Tree) (name : Lexeme) (span : Span) (children : List ℕ) → nat_eq (length children) 0 ≡ true → plain_shape (Cons (Syntax.Node (Form.Segment name) span (trees (map f children))) Nil) ≡ Shape.Plain name
segment-plain f name span [] e = refl
segment-plain f name span (child ∷ children) e = absurd (grind (arith, nat_tests))

segment-applied : (f : ℕ → Tree) (name : Lexeme) (span : Span) (children : List ℕ) → nat_eq (length children) 0 ≡ false → plain_shape (Cons (Syntax.Node (Form.Segment name) span (trees (map f children))) Nil) ≡ Shape.Expression
segment-applied f name span [] e = absurd (grind (arith, nat_tests))
segment-applied f name span (child ∷ children) e = refl

form-other : (form : Form) (span : Span) (parts : Trees) → ((name : Lexeme) → form ≡ Form.Segment name → ⊥) → plain_shape (Cons (Syntax.Node form span parts) Nil) ≡ Shape.Expression
form-other (Form.Segment name) span parts other = absurd (other name refl)
form-other _ span parts other = refl

pub lone-plain : (nodes : List Node) (number : ℕ) (children : List ℕ) (name : Lexeme) → number < length nodes → children ≡ (node_at nodes number).children → AllByRecursion (λ child. child < number) children → (node_at nodes number).form ≡ Form.Segment name → nat_eq (length children) 0 ≡ true → Shape.Plain name ≡ plain_shape (Cons (tree_at nodes number) Nil)
lone-plain nodes number children name there same before is none =
    rw (at-form nodes number children (Form.Segment name) there same before is) (sym (segment-plain (tree_at nodes) name (node_at nodes number).span children none))

pub lone-applied : (nodes : List Node) (number : ℕ) (children : List ℕ) (name : Lexeme) → number < length nodes → children ≡ (node_at nodes number).children → AllByRecursion (λ child. child < number) children → (node_at nodes number).form ≡ Form.Segment name → nat_eq (length children) 0 ≡ false → Shape.Expression ≡ plain_shape (Cons (tree_at nodes number) Nil)
lone-applied nodes number children name there same before is some =
    rw (at-form nodes number children (Form.Segment name) there same before is) (sym (segment-applied (tree_at nodes) name (node_at nodes number).span children some))

pub lone-other : (nodes : List Node) (number : ℕ) (form : Form) → number < length nodes → (node_at nodes number).form ≡ form → ((name : Lexeme) → form ≡ Form.Segment name → ⊥) → Shape.Expression ≡ plain_shape (Cons (tree_at nodes number) Nil)
lone-other nodes number form there is other =
    let some : (parts : Trees) × (tree_at nodes number ≡ Syntax.Node form (node_at nodes number).span parts) = of-form nodes number form there is in
    rw some.1 (sym (form-other form (node_at nodes number).span some.0 other))

-- two segments or more
pub plain-many : (f : ℕ → Tree) (numbers : List ℕ) → 2 ≤ length numbers → Shape.Expression ≡ plain_shape (trees (map f numbers))
plain-many f [] l = absurd (omega (arith, l))
plain-many f (n ∷ []) l = absurd (omega (arith, l))
plain-many f (n ∷ m ∷ numbers) l = many (f n) (f m) (trees (map f numbers))
  where
    many : (x y : Tree) (xs : Trees) → Shape.Expression ≡ plain_shape (Cons x (Cons y xs))
    many (Syntax.Node (Form.Segment name) span Nil) y xs = refl
    many (Syntax.Node (Form.Segment name) span (Cons part parts)) y xs = refl
    many (Syntax.Node _ span parts) y xs = refl

-- names and binders
name-other : (form : Form) (span : Span) (parts : Trees) → (form ≡ Form.Identifier → ⊥) → is_plain_name (Syntax.Node form span parts) ≡ false
name-other Form.Identifier span parts other = absurd (other refl)
name-other _ span parts other = refl

binder-other : (form : Form) (span : Span) (parts : Trees) → (form ≡ Form.Identifier → ⊥) → (form ≡ Form.Tuple → ⊥) → is_binder (Syntax.Node form span parts) ≡ false
binder-other Form.Identifier span parts other none = absurd (other refl)
binder-other Form.Tuple span parts other none = absurd (none refl)
binder-other _ span parts other none = refl

pub name-identifier : (nodes : List Node) (number : ℕ) (children : List ℕ) (b : Bool) → number < length nodes → children ≡ (node_at nodes number).children → AllByRecursion (λ child. child < number) children → (node_at nodes number).form ≡ Form.Identifier → b ≡ is_plain (plain_shape (trees (map (tree_at nodes) children))) → b ≡ is_plain_name (tree_at nodes number)
name-identifier nodes number children b there same before is e = e ∙ ap is_plain_name (sym (at-form nodes number children Form.Identifier there same before is))

pub name-not : (nodes : List Node) (number : ℕ) (form : Form) → number < length nodes → (node_at nodes number).form ≡ form → (form ≡ Form.Identifier → ⊥) → false ≡ is_plain_name (tree_at nodes number)
name-not nodes number form there is other =
    let some : (parts : Trees) × (tree_at nodes number ≡ Syntax.Node form (node_at nodes number).span parts) = of-form nodes number form there is in
    rw some.1 (sym (name-other form (node_at nodes number).span some.0 other))

pub binder-identifier : (nodes : List Node) (number : ℕ) (children : List ℕ) (b : Bool) → number < length nodes → children ≡ (node_at nodes number).children → AllByRecursion (λ child. child < number) children → (node_at nodes number).form ≡ Form.Identifier → b ≡ is_plain (plain_shape (trees (map (tree_at nodes) children))) → b ≡ is_binder (tree_at nodes number)
binder-identifier nodes number children b there same before is e = e ∙ ap is_binder (sym (at-form nodes number children Form.Identifier there same before is))

pub binder-tuple : (nodes : List Node) (number : ℕ) (children : List ℕ) (b : Bool) → number < length nodes → children ≡ (node_at nodes number).children → AllByRecursion (λ child. child < number) children → (node_at nodes number).form ≡ Form.Tuple → b ≡ are_plain_names (trees (map (tree_at nodes) children)) → b ≡ is_binder (tree_at nodes number)
binder-tuple nodes number children b there same before is e = e ∙ ap is_binder (sym (at-form nodes number children Form.Tuple there same before is))

pub binder-not : (nodes : List Node) (number : ℕ) (form : Form) → number < length nodes → (node_at nodes number).form ≡ form → (form ≡ Form.Identifier → ⊥) → (form ≡ Form.Tuple → ⊥) → false ≡ is_binder (tree_at nodes number)
binder-not nodes number form there is other none =
    let some : (parts : Trees) × (tree_at nodes number ≡ Syntax.Node form (node_at nodes number).span parts) = of-form nodes number form there is in
    rw some.1 (sym (binder-other form (node_at nodes number).span some.0 other none))

-- a part that is no name
pub names-not : (f : ℕ → Tree) (numbers : List ℕ) (i : ℕ) → i < length numbers → is_plain_name (f (slice_index_or numbers i 0)) ≡ false → are_plain_names (trees (map f numbers)) ≡ false
names-not f [] i l e = absurd (omega (arith, l))
names-not f (n ∷ []) zero l e = e
names-not f (n ∷ []) (suc i) l e = absurd (omega (arith, l))
names-not f (n ∷ m ∷ numbers) zero l e = rw e refl
names-not f (n ∷ m ∷ numbers) (suc i) l e = rw (names-not f (m ∷ numbers) i (omega (arith, l)) e) (either (is_plain_name (f n)))
  where
    either : (b : Bool) → cond b false false ≡ false
    either true = refl
    either false = refl

-- parts that are all names
names-all : (f : ℕ → Tree) (numbers : List ℕ) → nat_eq (length numbers) 0 ≡ false → AllByRecursion (λ n. is_plain_name (f n) ≡ true) numbers → are_plain_names (trees (map f numbers)) ≡ true
names-all f [] some all = absurd (grind (arith, nat_tests))
names-all f (n ∷ []) some all = all.0
names-all f (n ∷ m ∷ numbers) some all = rw all.0 (names-all f (m ∷ numbers) (grind (arith, nat_tests)) all.1)

take-whole : (numbers : List ℕ) (i : ℕ) → length numbers ≤ i → take i numbers ≡ numbers
take-whole [] zero l = refl
take-whole [] (suc i) l = refl
take-whole (n ∷ numbers) zero l = absurd (omega (arith, l))
take-whole (n ∷ numbers) (suc i) l = ap (λ xs. n ∷ xs) (take-whole numbers i (omega (arith, l)))

pub names-end : (f : ℕ → Tree) (numbers : List ℕ) (i : ℕ) (none : Bool) → none ≡ nat_eq (length numbers) 0 → length numbers ≤ i → AllByRecursion (λ n. is_plain_name (f n) ≡ true) (take i numbers) → not none ≡ are_plain_names (trees (map f numbers))
names-end f [] i none e l all = ap not e
names-end f (n ∷ numbers) i none e l all =
    let some : nat_eq (length (n ∷ numbers)) 0 ≡ false = grind (arith, nat_tests) in
    ap not (e ∙ some) ∙ sym (names-all f (n ∷ numbers) some (subst (λ xs. AllByRecursion (λ m. is_plain_name (f m) ≡ true) xs) (take-whole (n ∷ numbers) i l) all))

-- the bare form `x \in e`
pub infix-few : (f : ℕ → Tree) (symbol : Lexeme) (numbers : List ℕ) → length numbers < 2 → Shape.Expression ≡ infix_shape symbol (trees (map f numbers))
infix-few f symbol [] l = refl
infix-few f symbol (n ∷ []) l = refl
infix-few f symbol (n ∷ m ∷ numbers) l = absurd (omega (arith, l))

pub infix-many : (f : ℕ → Tree) (symbol : Lexeme) (numbers : List ℕ) → 3 ≤ length numbers → Shape.Expression ≡ infix_shape symbol (trees (map f numbers))
infix-many f symbol [] l = absurd (omega (arith, l))
infix-many f symbol (n ∷ []) l = absurd (omega (arith, l))
infix-many f symbol (n ∷ m ∷ []) l = absurd (omega (arith, l))
infix-many f symbol (n ∷ m ∷ k ∷ numbers) l = refl

pub infix-member : (f : ℕ → Tree) (symbol : Lexeme) (numbers : List ℕ) → 2 ≤ length numbers → length numbers < 3 → is_member symbol.kind ≡ true → is_binder (f (slice_index_or numbers 0 0)) ≡ true → Shape.Member ≡ infix_shape symbol (trees (map f numbers))
infix-member f symbol [] l k e b = absurd (omega (arith, l))
infix-member f symbol (n ∷ []) l k e b = absurd (omega (arith, l))
infix-member f symbol (n ∷ m ∷ []) l k e b = rw (e, b) refl
infix-member f symbol (n ∷ m ∷ more ∷ numbers) l k e b = absurd (omega (arith, k))

-- the shape at a node, by its form
pub shape-form : (nodes : List Node) (number : ℕ) (result : Shape) (form : Form) → number < length nodes → (node_at nodes number).form ≡ form → ((span : Span) (parts : Trees) → result ≡ shape (Syntax.Node form span parts)) → result ≡ shape (tree_at nodes number)
shape-form nodes number result form there is of =
    let some : (parts : Trees) × (tree_at nodes number ≡ Syntax.Node form (node_at nodes number).span parts) = of-form nodes number form there is in
    rw some.1 (of (node_at nodes number).span some.0)

pub shape-either : (nodes : List Node) (number : ℕ) (result : Shape) (form one two : Form) → number < length nodes → (node_at nodes number).form ≡ form → (form ≡ one) ⊎ (form ≡ two) → ((span : Span) (parts : Trees) → result ≡ shape (Syntax.Node one span parts)) → ((span : Span) (parts : Trees) → result ≡ shape (Syntax.Node two span parts)) → result ≡ shape (tree_at nodes number)
shape-either nodes number result form one two there is (inl e) of or = shape-form nodes number result one there (is ∙ e) of
shape-either nodes number result form one two there is (inr e) of or = shape-form nodes number result two there (is ∙ e) or

pub shape-identifier : (nodes : List Node) (number : ℕ) (children : List ℕ) (result : Shape) → number < length nodes → children ≡ (node_at nodes number).children → AllByRecursion (λ child. child < number) children → (node_at nodes number).form ≡ Form.Identifier → result ≡ plain_shape (trees (map (tree_at nodes) children)) → result ≡ shape (tree_at nodes number)
shape-identifier nodes number children result there same before is e = e ∙ ap shape (sym (at-form nodes number children Form.Identifier there same before is))

pub shape-infix : (nodes : List Node) (number : ℕ) (children : List ℕ) (symbol : Lexeme) (result : Shape) → number < length nodes → children ≡ (node_at nodes number).children → AllByRecursion (λ child. child < number) children → (node_at nodes number).form ≡ Form.Infix symbol → result ≡ infix_shape symbol (trees (map (tree_at nodes) children)) → result ≡ shape (tree_at nodes number)
shape-infix nodes number children symbol result there same before is e = e ∙ ap shape (sym (at-form nodes number children (Form.Infix symbol) there same before is))

-- of a form that nothing else tells apart
pub shape-other : (form : Form) → (form ≡ Form.Identifier → ⊥) → ((t : Lexeme) → form ≡ Form.Infix t → ⊥) → (form ≡ Form.Names → ⊥) → (form ≡ Form.TupleNames → ⊥) → (form ≡ Form.Bound → ⊥) → (form ≡ Form.TupleBound → ⊥) → (form ≡ Form.Arm → ⊥) → (form ≡ Form.OtherArm → ⊥) → ((t : Lexeme) → form ≡ Form.Instance t → ⊥) → ((t : Lexeme) → form ≡ Form.Symbol t → ⊥) → (span : Span) (parts : Trees) → shape_by (helps form) ≡ shape (Syntax.Node form span parts)
shape-other Form.Identifier a b c d e f g h i j span parts = absurd (a refl)
shape-other (Form.Infix t) a b c d e f g h i j span parts = absurd (b t refl)
shape-other Form.Names a b c d e f g h i j span parts = absurd (c refl)
shape-other Form.TupleNames a b c d e f g h i j span parts = absurd (d refl)
shape-other Form.Bound a b c d e f g h i j span parts = absurd (e refl)
shape-other Form.TupleBound a b c d e f g h i j span parts = absurd (f refl)
shape-other Form.Arm a b c d e f g h i j span parts = absurd (g refl)
shape-other Form.OtherArm a b c d e f g h i j span parts = absurd (h refl)
shape-other (Form.Instance t) a b c d e f g h i j span parts = absurd (i t refl)
shape-other (Form.Symbol t) a b c d e f g h i j span parts = absurd (j t refl)
shape-other _ a b c d e f g h i j span parts = refl
