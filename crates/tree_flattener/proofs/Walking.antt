-- Parts of trees one after another, as code goes through them.
use Rattle.std.proofs.Common.{◌≡◌, ℕ, zero, suc, ◌+◌, ◌<◌, List, [], ◌∷◌, ◌++◌, Bool, true, false, drop, length, get_or, refl, ap, sym, subst, ◌∙◌, add-one, append_assoc, arith}
use Rattle.std.specs.Prelude.{map, nat_eq, Option, None}
use Rattle.std.specs.Option.{option_or}
use Rattle.std.specs.List.{AllByRecursion}
use Rattle.std.proofs.lemmas.List.{map-append}
use Rattle.std.proofs.Math.Dec.{eqb-suc-suc, eqb-suc-zero, eqb-zero-suc}
use Rattle.list_laws.proofs.Lists.{rest-at}
use Rattle.tla_symbols.specs.declared.lexeme.Lexeme.{Lexeme}
use Rattle.tla_symbols.specs.declared.lexeme.Span.{Span}
use Rattle.tla_tree.specs.declared.form.Form.TheVariants as Form
use Rattle.tla_tree.specs.Arena.{Node as ArenaNode, AreThere, node_at, tree_at}
use Rattle.tla_tree.specs.Syntax.{Tree, Trees, Node, Nil, Cons, trees}
use Rattle.tla_tree.proofs.Nodes.{tree_at-form, tree_at-node}
use Rattle.tla_model.specs.Tables.{Named}
use Rattle.tree_kinds.specs.Expanding.{is_bare}
use Rattle.tree_kinds.specs.TreeDepths.{path_names}
use Rattle.flattened_trees.specs.NodeForms.{last_segment}
use Rattle.flattened_trees.specs.Questions.{Asked, path_asks}
use Rattle.tree_flattener.specs.declared.state.Question.{Question}
use Rattle.tree_flattener.specs.Asking.{segment_asks}
use Rattle.tree_flattener.specs.Making.{names_of, segment_of}
use Rattle.tree_flattener.specs.Steps.{asked_of, noted}

-- what holds of all items holds of the one at a place
pub all-at : {A : Type 0} (P : A → Type 0) (xs : List A) (i : ℕ) (d : A) → AllByRecursion P xs → i < length xs → P (get_or xs i d)
all-at P [] i d all there = absurd (omega arith)
all-at P (x ∷ xs) zero d all there = all.0
all-at P (x ∷ xs) (suc i) d all there = all-at P xs i d all.1 (omega (arith, there))

-- the trees of nodes
abbrev pub at_nodes : List ArenaNode → List ℕ → Trees
at_nodes nodes numbers = trees (map (tree_at nodes) numbers)

pub rest-trees : (nodes : List ArenaNode) (numbers : List ℕ) (i d : ℕ) → i < length numbers → at_nodes nodes (drop i numbers) ≡ Cons (tree_at nodes (get_or numbers i d)) (at_nodes nodes (drop (i + 1) numbers))
rest-trees nodes numbers i d there = ap (λ z. at_nodes nodes z) (rest-at numbers i d there)

-- the first of those that are left, by its form
pub opened : (nodes : List ArenaNode) (numbers : List ℕ) (i d : ℕ) → i < length numbers → AreThere nodes numbers
    → (parts : Trees) × (at_nodes nodes (drop i numbers) ≡ Cons (Node (node_at nodes (get_or numbers i d)).form (node_at nodes (get_or numbers i d)).span parts) (at_nodes nodes (drop (i + 1) numbers)))
opened nodes numbers i d there known =
    let found = tree_at-form nodes (get_or numbers i d) (all-at (λ n. n < length nodes) numbers i d known there) in
    (found.0, rest-trees nodes numbers i d there ∙ ap (λ z. Cons z (at_nodes nodes (drop (i + 1) numbers))) found.1)

-- ---- names of paths

names-step : (source : List ℕ) (form : Form.the_data) (s : Span) (parts rest : Trees) → path_names source (Cons (Node form s parts) rest) ≡ names_of source (segment_of form) ++ path_names source rest
names-step source (Form.Segment l) s parts rest = refl
names-step source _ s parts rest = refl

pub names-onward : (source : List ℕ) (nodes : List ArenaNode) (numbers : List ℕ) (i d : ℕ) → i < length numbers → AreThere nodes numbers
    → (form : Form.the_data) (segment : Option Lexeme) (old new : List Named) → form ≡ (node_at nodes (get_or numbers i d)).form → segment ≡ segment_of form
    → new ≡ old ++ names_of source segment
    → old ++ path_names source (at_nodes nodes (drop i numbers)) ≡ path_names source (at_nodes nodes numbers)
    → new ++ path_names source (at_nodes nodes (drop (i + 1) numbers)) ≡ path_names source (at_nodes nodes numbers)
names-onward source nodes numbers i d there known form segment old new form_is segment_is pushed holds =
    let found = opened nodes numbers i d there known in
    let rest = at_nodes nodes (drop (i + 1) numbers) in
    let n = get_or numbers i d in
    let e = ap (path_names source) found.1 ∙ names-step source (node_at nodes n).form (node_at nodes n).span found.0 rest in
    ap (λ z. z ++ path_names source rest) (pushed ∙ ap (λ z. old ++ names_of source z) (segment_is ∙ ap segment_of form_is))
    ∙ append_assoc old (names_of source (segment_of (node_at nodes n).form)) (path_names source rest)
    ∙ ap (λ z. old ++ z) (sym e) ∙ holds

-- ---- the last segment

is_none : {A : Type 0} → List A → Bool
is_none [] = true
is_none (x ∷ xs) = false

bare-step : (f : ℕ → Tree) (before bare : Bool) (form : Form.the_data) (s : Span) (children : List ℕ) (rest : Trees) → bare ≡ nat_eq (length children) 0 → is_bare before (Cons (Node form s (trees (map f children))) rest) ≡ is_bare bare rest
bare-step f before bare form s [] rest is = ap (λ z. is_bare z rest) (sym is)
bare-step f before bare form s (c ∷ cs) rest is = ap (λ z. is_bare z rest) (sym (is ∙ eqb-suc-zero (length cs)))

pub bare-onward : (nodes : List ArenaNode) (numbers : List ℕ) (i d : ℕ) → i < length numbers → AreThere nodes numbers
    → (before bare : Bool) (children : List ℕ) → children ≡ (node_at nodes (get_or numbers i d)).children → AllByRecursion (λ child. child < get_or numbers i d) children
    → bare ≡ nat_eq (length children) 0
    → is_bare before (at_nodes nodes (drop i numbers)) ≡ is_bare false (at_nodes nodes numbers)
    → is_bare bare (at_nodes nodes (drop (i + 1) numbers)) ≡ is_bare false (at_nodes nodes numbers)
bare-onward nodes numbers i d there known before bare children are earlier is holds =
    let n = get_or numbers i d in
    let here : n < length nodes = all-at (λ n. n < length nodes) numbers i d known there in
    let whole = tree_at-node nodes n here (subst (AllByRecursion (λ child. child < n)) are earlier) in
    let rest = at_nodes nodes (drop (i + 1) numbers) in
    sym (bare-step (tree_at nodes) before bare (node_at nodes n).form (node_at nodes n).span (node_at nodes n).children rest (is ∙ ap (λ z. nat_eq (length z) 0) are))
    ∙ sym (ap (is_bare before) (rest-trees nodes numbers i d there ∙ ap (λ z. Cons z rest) whole)) ∙ holds

last-step : (before : Option Lexeme) (form : Form.the_data) (s : Span) (parts rest : Trees) → last_segment before (Cons (Node form s parts) rest) ≡ last_segment (option_or (segment_of form) before) rest
last-step before (Form.Segment l) s parts rest = refl
last-step before _ s parts rest = refl

pub last-onward : (nodes : List ArenaNode) (numbers : List ℕ) (i d : ℕ) → i < length numbers → AreThere nodes numbers
    → (form : Form.the_data) (segment before after : Option Lexeme) → form ≡ (node_at nodes (get_or numbers i d)).form → segment ≡ segment_of form → after ≡ option_or segment before
    → last_segment before (at_nodes nodes (drop i numbers)) ≡ last_segment None (at_nodes nodes numbers)
    → last_segment after (at_nodes nodes (drop (i + 1) numbers)) ≡ last_segment None (at_nodes nodes numbers)
last-onward nodes numbers i d there known form segment before after form_is segment_is after_is holds =
    let found = opened nodes numbers i d there known in
    let rest = at_nodes nodes (drop (i + 1) numbers) in
    let n = get_or numbers i d in
    ap (λ z. last_segment z rest) (after_is ∙ ap (λ z. option_or z before) (segment_is ∙ ap segment_of form_is))
    ∙ sym (ap (last_segment before) found.1 ∙ last-step before (node_at nodes n).form (node_at nodes n).span found.0 rest) ∙ holds

-- ---- what is asked of a path

is_end : Trees → Bool
is_end Nil = true
is_end (Cons x rest) = false

path-step : (i : ℕ) (form : Form.the_data) (s : Span) (parts rest : Trees) → path_asks i (Cons (Node form s parts) rest) ≡ segment_asks i (segment_of form) (is_end rest) ++ path_asks i rest
unfolding is_end
path-step i (Form.Segment l) s parts Nil = refl
path-step i (Form.Segment l) s parts (Cons x rest) = refl
path-step i _ s parts Nil = refl
path-step i _ s parts (Cons x rest) = refl

last-is : (nodes : List ArenaNode) (numbers : List ℕ) (i : ℕ) → i < length numbers → nat_eq (suc i) (length numbers) ≡ is_end (at_nodes nodes (drop (suc i) numbers))
unfolding is_end
last-is nodes [] i there = absurd (omega (arith, there))
last-is nodes (y ∷ []) zero there = refl
last-is nodes (y ∷ []) (suc i) there = absurd (omega (arith, there))
last-is nodes (y ∷ (z ∷ numbers)) zero there = eqb-suc-suc 0 (suc (length numbers)) ∙ eqb-zero-suc (length numbers)
last-is nodes (y ∷ (z ∷ numbers)) (suc i) there = eqb-suc-suc (suc i) (length (z ∷ numbers)) ∙ last-is nodes (z ∷ numbers) i (omega (arith, there))

pub noted-both : (frame : ℕ) (xs ys : List Asked) → noted frame (xs ++ ys) ≡ noted frame xs ++ noted frame ys
noted-both frame xs ys = map-append (λ a. record { frame = frame; asked = asked_of a }) xs ys

pub path-onward : (frame : ℕ) (nodes : List ArenaNode) (numbers : List ℕ) (i d : ℕ) → i < length numbers → AreThere nodes numbers
    → (form : Form.the_data) (segment : Option Lexeme) (is_last : Bool) (old new start : List Question) → form ≡ (node_at nodes (get_or numbers i d)).form → segment ≡ segment_of form
    → is_last ≡ nat_eq (i + 1) (length numbers) → new ≡ old ++ noted frame (segment_asks 0 segment is_last)
    → old ++ noted frame (path_asks 0 (at_nodes nodes (drop i numbers))) ≡ start ++ noted frame (path_asks 0 (at_nodes nodes numbers))
    → new ++ noted frame (path_asks 0 (at_nodes nodes (drop (i + 1) numbers))) ≡ start ++ noted frame (path_asks 0 (at_nodes nodes numbers))
path-onward frame nodes numbers i d there known form segment is_last old new start form_is segment_is last pushed holds =
    let found = opened nodes numbers i d there known in
    let rest = at_nodes nodes (drop (i + 1) numbers) in
    let n = get_or numbers i d in
    let f = (node_at nodes n).form in
    let at_end : is_last ≡ is_end rest = last ∙ rw add-one (last-is nodes numbers i there) in
    let e = ap (λ z. noted frame (path_asks 0 z)) found.1 ∙ ap (noted frame) (path-step 0 f (node_at nodes n).span found.0 rest) ∙ noted-both frame (segment_asks 0 (segment_of f) (is_end rest)) (path_asks 0 rest) in
    ap (λ z. z ++ noted frame (path_asks 0 rest)) (pushed ∙ ap (λ z. old ++ noted frame (segment_asks 0 z is_last)) (segment_is ∙ ap segment_of form_is) ∙ ap (λ z. old ++ noted frame (segment_asks 0 (segment_of f) z)) at_end)
    ∙ append_assoc old (noted frame (segment_asks 0 (segment_of f) (is_end rest))) (noted frame (path_asks 0 rest))
    ∙ ap (λ z. old ++ z) (sym e) ∙ holds
