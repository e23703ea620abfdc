-- Where the parts of nodes begin, one node after another.
use Rattle.std.proofs.Common.{Vec, Global, ◌≡◌, ℕ, zero, suc, ◌<◌, ◌≤◌, min, Bool, true, false, cond, List, [], ◌∷◌, ◌++◌, Option, Some, None, inl, inr, refl, sym, ap, ◌∙◌, subst, length, get_or, length-append, arith}
use Rattle.std.specs.Prelude.{◌⊎◌, nat_lt, option_map, slice_get}
use Rattle.std.specs.List.{AllByRecursion}
use Rattle.std.proofs.lemmas.Bool.{cases_lt, ltb-true, ltb-false}
use Rattle.std.proofs.lemmas.Option.{slice_get_read, slice_get_within}
use Rattle.list_laws.proofs.Lists.{item-at}
use mathlib.Core.Path.{fun_ext}
use Rattle.order_rec.specs.Earlier.{before}
use Rattle.order_rec.proofs.Order.{along-same, along-step, before-lt}
use Rattle.kind_text.specs.FlatModule.{Extends, FlatModule, Form, IsOrdered, Node}
use Rattle.kind_table.specs.declared.flat.Form as table
use Rattle.kind_table.specs.declared.flat.Form.TheVariants as variant
use Rattle.kind_table.specs.declared.flat.Node as node
use Rattle.kind_table.specs.declared.flat.FlatModule as tables
use Rattle.kind_table.specs.Flattened.{AreFirsts, IsFirsts, first_node, first_of, flat_of, form_of, least_among, least_at, least_of, node_of, number_in}
use Rattle.kind_table.proofs.TableEntries.{node-at, nodes-long}

-- the parts that a node's kind is made of
abbrev pub needed : Form → List ℕ → List ℕ
needed Form.Let [] = []
needed Form.Let (part ∷ rest) = part ∷ []
needed form parts = parts

among-below : (f : ℕ → ℕ) (i : ℕ) (parts : List ℕ) → least_among f i parts ≤ i
among-below f i [] = omega arith
among-below f i (part ∷ parts) = let h = among-below f (min i (f part)) parts in omega arith

among-parts : (f : ℕ → ℕ) (i : ℕ) (parts : List ℕ) → AllByRecursion (λ part. least_among f i parts ≤ f part) parts
among-parts f i [] = tt
among-parts f i (part ∷ parts) = let h = among-below f (min i (f part)) parts in (omega arith, among-parts f (min i (f part)) parts)

among-before : (f : ℕ → ℕ) (n i : ℕ) (parts : List ℕ) → AllByRecursion (λ part. part < n) parts → least_among (before 0 f n) i parts ≡ least_among f i parts
among-before f n i [] h = refl
among-before f n i (part ∷ parts) h =
    ap (λ x. least_among (before 0 f n) (min i x) parts) (before-lt 0 f n part h.0) ∙ among-before f n (min i (f part)) parts h.1

of-before : (f : ℕ → ℕ) (n : ℕ) (form : Form) (parts : List ℕ) → AllByRecursion (λ part. part < n) parts → least_of (before 0 f n) n form parts ≡ least_of f n form parts
of-before f n Form.Let [] h = refl
of-before f n Form.Let (part ∷ parts) h = ap (min n) (before-lt 0 f n part h.0)
of-before f n (Form.Leaf k) parts h = among-before f n n parts h
of-before f n (Form.Parameter k) parts h = among-before f n n parts h
of-before f n (Form.Call k) parts h = among-before f n n parts h
of-before f n (Form.Operation k) parts h = among-before f n n parts h
of-before f n Form.Bounded parts h = among-before f n n parts h
of-before f n Form.Old parts h = among-before f n n parts h
of-before f n (Form.Use p d) parts h = among-before f n n parts h
of-before f n (Form.Name p d) parts h = among-before f n n parts h
of-before f n (Form.Symbol k) parts h = among-before f n n parts h
of-before f n (Form.Lambda d) parts h = among-before f n n parts h

of-below : (f : ℕ → ℕ) (n : ℕ) (form : Form) (parts : List ℕ) → (least_of f n form parts ≤ n) × AllByRecursion (λ part. least_of f n form parts ≤ f part) (needed form parts)
of-below f n Form.Let [] = (omega arith, tt)
of-below f n Form.Let (part ∷ parts) = (omega arith, (omega arith, tt))
of-below f n (Form.Leaf k) parts = (among-below f n parts, among-parts f n parts)
of-below f n (Form.Parameter k) parts = (among-below f n parts, among-parts f n parts)
of-below f n (Form.Call k) parts = (among-below f n parts, among-parts f n parts)
of-below f n (Form.Operation k) parts = (among-below f n parts, among-parts f n parts)
of-below f n Form.Bounded parts = (among-below f n parts, among-parts f n parts)
of-below f n Form.Old parts = (among-below f n parts, among-parts f n parts)
of-below f n (Form.Use p d) parts = (among-below f n parts, among-parts f n parts)
of-below f n (Form.Name p d) parts = (among-below f n parts, among-parts f n parts)
of-below f n (Form.Symbol k) parts = (among-below f n parts, among-parts f n parts)
of-below f n (Form.Lambda d) parts = (among-below f n parts, among-parts f n parts)

-- a node's part of the nodes begins at the node or before it, and at none of its parts before that
pub first-parts : (flat : FlatModule) (i : ℕ) (node : Node) → IsOrdered flat → slice_get flat.nodes i ≡ Some node → (first_node flat i ≤ i) × AllByRecursion (λ part. first_node flat i ≤ first_node flat part) (needed node.form node.parts)
first-parts flat i node ordered e =
    let same = along-step 0 (λ j f. least_at f j (slice_get flat.nodes j)) i ∙ ap (least_at (before 0 (first_node flat) i) i) e ∙ of-before (first_node flat) i node.form node.parts (ordered i node e).parts in
    subst (λ x. (x ≤ i) × AllByRecursion (λ part. x ≤ first_node flat part) (needed node.form node.parts)) (sym same) (of-below (first_node flat) i node.form node.parts)

-- ---- the list of first nodes, one node after another

pub get_or-left : (xs : List ℕ) (x k d : ℕ) → k < length xs → get_or (xs ++ x ∷ []) k d ≡ get_or xs k d
get_or-left [] x k d l = absurd (omega arith)
get_or-left (y ∷ xs) x zero d l = refl
get_or-left (y ∷ xs) x (suc k) d l = get_or-left xs x k d (omega arith)

pub get_or-end : (xs : List ℕ) (x d : ℕ) → get_or (xs ++ x ∷ []) (length xs) d ≡ x
get_or-end [] x d = refl
get_or-end (y ∷ xs) x d = get_or-end xs x d

pub get_or-past : (xs : List ℕ) (k d : ℕ) → length xs ≤ k → get_or xs k d ≡ d
get_or-past [] k d l = refl
get_or-past (y ∷ xs) zero d l = absurd (omega arith)
get_or-past (y ∷ xs) (suc k) d l = get_or-past xs k d (omega arith)

known-before : (flat : FlatModule) (firsts : List ℕ) → AreFirsts flat firsts → number_in firsts ≡ before 0 (first_node flat) (length firsts)
known-before flat firsts h = fun_ext (λ k. by_place k (nat_lt k (length firsts)) refl)
  where
    by_place : (k : ℕ) (b : Bool) → nat_lt k (length firsts) ≡ b → number_in firsts k ≡ cond b (first_node flat k) 0
    by_place k true e = h k (ltb-true k (length firsts) e)
    by_place k false e = get_or-past firsts k 0 (ltb-false k (length firsts) e)

first-form : (paths : List (Vec ℕ Global)) (firsts : List ℕ) (i : ℕ) (form : table.Form) (parts : List ℕ) → first_of firsts i form parts ≡ least_of (number_in firsts) i (form_of paths form) parts
first-form paths firsts i (variant.Leaf k) parts = refl
first-form paths firsts i (variant.Parameter k) parts = refl
first-form paths firsts i (variant.Call k) parts = refl
first-form paths firsts i (variant.Operation k) parts = refl
first-form paths firsts i variant.Bounded parts = refl
first-form paths firsts i variant.Old parts = refl
first-form paths firsts i variant.Let parts = refl
first-form paths firsts i (variant.Use p d) parts = refl
first-form paths firsts i (variant.Name p d) parts = refl
first-form paths firsts i (variant.Symbol r) parts = refl
first-form paths firsts i (variant.Lambda d) parts = refl

-- one node more
pub firsts-more : (t : tables.FlatModule) (firsts : List ℕ) (n : node.Node) (first : ℕ) → slice_get t.nodes.items (length firsts) ≡ Some n → AreFirsts (flat_of t) firsts → first ≡ first_of firsts (length firsts) n.form n.parts.items → AreFirsts (flat_of t) (firsts ++ first ∷ [])
firsts-more t firsts n first e h is = λ k l. by_place k l (cases_lt k (length firsts))
  where
    here : first ≡ first_node (flat_of t) (length firsts)
    here =
        is ∙ first-form t.paths.items firsts (length firsts) n.form n.parts.items
        ∙ ap (λ f. least_of f (length firsts) (form_of t.paths.items n.form) n.parts.items) (known-before (flat_of t) firsts h)
        ∙ sym (ap (least_at (before 0 (first_node (flat_of t)) (length firsts)) (length firsts)) (node-at t (length firsts) ∙ ap (option_map (node_of t.paths.items)) e))
        ∙ sym (along-step 0 (λ j f. least_at f j (slice_get (flat_of t).nodes j)) (length firsts))

    by_place : (k : ℕ) → k < length (firsts ++ first ∷ []) → (k < length firsts) ⊎ (length firsts ≤ k) → number_in (firsts ++ first ∷ []) k ≡ first_node (flat_of t) k
    by_place k l c = elim c [
      | inl m ↦ get_or-left firsts first k 0 m ∙ h k m
      | inr m ↦
          let same : k ≡ length firsts = omega (arith, l, m, length-append firsts (first ∷ [])) in
          ap (number_in (firsts ++ first ∷ [])) same ∙ get_or-end firsts first 0 ∙ here ∙ ap (first_node (flat_of t)) (sym same)
    ]

-- one node more, as it is read
pub firsts_step : (t : tables.FlatModule) (firsts list new : List ℕ) (index long : ℕ) (n : node.Node) (first : ℕ) → AreFirsts (flat_of t) firsts → length firsts ≡ index → index < length t.nodes.items → n ≡ get_or t.nodes.items index n → list ≡ firsts → long ≡ length firsts → first ≡ first_of list long n.form n.parts.items → new ≡ firsts ++ first ∷ [] → AreFirsts (flat_of t) new
firsts_step t firsts list new index long n first h at l e list_is long_is is new_is =
    let here : slice_get t.nodes.items (length firsts) ≡ Some n = ap (slice_get t.nodes.items) at ∙ slice_get_read t.nodes.items _ index n refl l e in
    let first_is : first ≡ first_of firsts (length firsts) n.form n.parts.items = is ∙ ap (λ x. first_of x long n.form n.parts.items) list_is ∙ ap (λ x. first_of firsts x n.form n.parts.items) long_is in
    subst (AreFirsts (flat_of t)) (sym new_is) (firsts-more t firsts n first here h first_is)

pub firsts-all : (t : tables.FlatModule) (firsts : List ℕ) → length firsts ≡ length t.nodes.items → AreFirsts (flat_of t) firsts → IsFirsts (flat_of t) firsts
firsts-all t firsts l h = record { long = l ∙ sym (nodes-long t); each = h }

at-below : (f : ℕ → ℕ) (i : ℕ) (o : Option Node) → least_at f i o ≤ i
at-below f i None = omega arith
at-below f i (Some n) = (of-below f i n.form n.parts).0

pub first-below : (flat : FlatModule) (i : ℕ) → first_node flat i ≤ i
first-below flat i =
    subst (λ x. x ≤ i) (sym (along-step 0 (λ j f. least_at f j (slice_get flat.nodes j)) i)) (at-below (before 0 (first_node flat) i) i (slice_get flat.nodes i))

-- ---- more nodes

pub keeps-longer : (flat more : FlatModule) → Extends flat more → length flat.nodes ≤ length more.nodes
keeps-longer flat more extends = by_place (cases_lt (length more.nodes) (length flat.nodes))
  where
    by_place : (length more.nodes < length flat.nodes) ⊎ (length flat.nodes ≤ length more.nodes) → length flat.nodes ≤ length more.nodes
    by_place (inl l) =
        let read = item-at flat.nodes (length more.nodes) l in
        let w = slice_get_within more.nodes (length more.nodes) read.0 (extends.nodes (length more.nodes) read.0 read.1) in
        absurd (omega (arith, w))
    by_place (inr l) = l

-- further nodes change no first node
pub first-kept : (flat more : FlatModule) → Extends flat more → (i : ℕ) → i < length flat.nodes → first_node flat i ≡ first_node more i
first-kept flat more extends i here =
    along-same 0 (λ j f. least_at f j (slice_get flat.nodes j)) (λ j f. least_at f j (slice_get more.nodes j)) (length flat.nodes)
    (λ j l f. let read = item-at flat.nodes j l in ap (least_at f j) (read.1 ∙ sym (extends.nodes j read.0 read.1))) i here

-- the first nodes of some nodes, where there are more of these
pub firsts-kept : (flat more : FlatModule) (firsts : List ℕ) → Extends flat more → IsFirsts flat firsts → (length firsts ≤ length more.nodes) × AreFirsts more firsts
firsts-kept flat more firsts extends h =
    (omega (arith, h.long, keeps-longer flat more extends), λ i l. h.each i l ∙ first-kept flat more extends i (omega (arith, l, h.long)))
