-- A node that is made by where a name leads is made of the name, by what that stands for.
use Rattle.std.proofs.Common.{◌≡◌, ℕ, zero, suc, Bool, true, false, cond, List, [], ◌∷◌, ◌++◌, Option, Some, None, refl, sym, ap, ◌∙◌, subst, take, drop, length, nat_eq, arith}
use Rattle.std.specs.Prelude.{replicate}
use Rattle.std.proofs.lemmas.Bool.Decides.{nat_tests}
use Rattle.std.proofs.lemmas.List.{length-replicate}
use Rattle.tla_symbols.specs.declared.lexeme.Lexeme.{Lexeme}
use Rattle.tla_symbols.specs.declared.lexeme.Span.{Span}
use Rattle.tla_symbols.specs.declared.level.Kind.{Kind}
use Rattle.tla_tree.specs.declared.form.Form.TheVariants as Form
use Rattle.tla_tree.specs.Syntax.{Tree, Trees, Node, Nil, Cons}
use Rattle.tla_model.specs.declared.entity.Entity.TheVariants as entity
use Rattle.tla_model.specs.declared.names.Meaning.TheVariants.{BuiltIn, Declared}
use Rattle.tla_model.specs.Tables.{Named}
use Rattle.tla_model.specs.Entities.{Meaning, Text, name_of}
use Rattle.module_model.specs.Exports.{Behind, Known, entry_of, onward}
use Rattle.kind_text.specs.ExpandedKind.{Operands}
use Rattle.kind_text.specs.Expansion.{Earlier, items as items_at}
use Rattle.kind_text.specs.Substitution.{Item, texts}
use Rattle.tree_kinds.specs.Standing.{Outside, Steps, operator_places, places as places_of}
use Rattle.tree_kinds.specs.Expanding.{Around, called_behind, is_bare, items, steps}
use Rattle.tree_kinds.specs.TreeDepths.{path_names}
use Rattle.flat_trees.specs.Stands.{Fits, Stand, Unsaid, Leaf, Place, Defined, Through, Brought}
use Rattle.flat_trees.specs.Names.{Ending, IsBare, IsNamed, IsUse, Leads, places_by}
use Rattle.flat_trees.specs.Layouts.{order_of}
use Rattle.flattened_trees.specs.declared.End.TheVariants as end
use Rattle.flattened_trees.specs.Leads.{Lead}
use Rattle.flattened_trees.specs.NodeForms.{name_node}
use Rattle.flattened_trees.specs.Readable.{CanStandBare, IsInstanceOf, IsNoInstance, first_name, orders_of}
use Rattle.flattened_trees.specs.Agreeing.{TakesAs, TakesBehind, lead_by}

-- ---- what names take

order-places : (n : ℕ) → cond (nat_eq n 0) None (Some n) ≡ places_by n
order-places zero = refl
order-places (suc n) = let some : nat_eq (suc n) 0 ≡ false = grind (arith, nat_tests) in ap (λ b. cond b None (Some (suc n))) some

pub places-order : (m : Meaning) → operator_places (Some m) ≡ places_by (order_of m)
places-order BuiltIn = refl
places-order (Declared e callee) = order-places (places_of e)

pub orders-length : (m : Meaning) → length (orders_of m) ≡ order_of m
orders-length BuiltIn = refl
orders-length (Declared (entity.Constant n) callee) = length-replicate n 0
orders-length (Declared (entity.Parameter n) callee) = length-replicate n 0
orders-length (Declared (entity.Definition orders) callee) = refl
orders-length (Declared (entity.Instance orders) callee) = refl
orders-length (Declared entity.Variable callee) = refl
orders-length (Declared (entity.Bound state) callee) = refl
orders-length (Declared entity.Module callee) = refl

-- what takes nothing is no operator
no-places : (m : Meaning) → orders_of m ≡ [] → operator_places (Some m) ≡ None
no-places m none = places-order m ∙ ap places_by (sym (orders-length m) ∙ ap length none)

pub no-instance : {C : Type 0} (m : Meaning) (orders : List ℕ) → IsNoInstance m → IsInstanceOf m orders → C
no-instance BuiltIn orders plain is = absurd is
no-instance (Declared (entity.Instance os) callee) orders plain is = absurd plain
no-instance (Declared (entity.Constant n) callee) orders plain is = absurd is
no-instance (Declared (entity.Parameter n) callee) orders plain is = absurd is
no-instance (Declared (entity.Definition os) callee) orders plain is = absurd is
no-instance (Declared entity.Variable callee) orders plain is = absurd is
no-instance (Declared (entity.Bound state) callee) orders plain is = absurd is
no-instance (Declared entity.Module callee) orders plain is = absurd is

instance-orders : (m : Meaning) (orders : List ℕ) → IsInstanceOf m orders → orders ≡ orders_of m
instance-orders BuiltIn orders is = absurd is
instance-orders (Declared (entity.Instance os) callee) orders is = sym is
instance-orders (Declared (entity.Constant n) callee) orders is = absurd is
instance-orders (Declared (entity.Parameter n) callee) orders is = absurd is
instance-orders (Declared (entity.Definition os) callee) orders is = absurd is
instance-orders (Declared entity.Variable callee) orders is = absurd is
instance-orders (Declared (entity.Bound state) callee) orders is = absurd is
instance-orders (Declared entity.Module callee) orders is = absurd is

-- ---- items that fit

pub fits-given : (orders : List ℕ) (xs ys : List Item) → Fits orders xs ys → length ys ≡ length orders
fits-given [] [] [] fits = refl
fits-given [] [] (y ∷ ys) fits = absurd fits
fits-given [] (x ∷ xs) ys fits = absurd fits
fits-given (n ∷ orders) [] ys fits = absurd fits
fits-given (n ∷ orders) (x ∷ xs) [] fits = absurd fits
fits-given (n ∷ orders) (x ∷ xs) (y ∷ ys) fits = ap suc (fits-given orders xs ys fits.1)

fits-made : (orders : List ℕ) (xs ys : List Item) → Fits orders xs ys → length xs ≡ length orders
fits-made [] [] [] fits = refl
fits-made [] [] (y ∷ ys) fits = absurd fits
fits-made [] (x ∷ xs) ys fits = absurd fits
fits-made (n ∷ orders) [] ys fits = absurd fits
fits-made (n ∷ orders) (x ∷ xs) [] fits = absurd fits
fits-made (n ∷ orders) (x ∷ xs) (y ∷ ys) fits = ap suc (fits-made orders xs ys fits.1)

-- expressions that fit are the same
pub fits-texts : (n : ℕ) (xs ys : List Item) → Fits (replicate n 0) xs ys → texts xs ≡ texts ys
fits-texts zero [] [] fits = refl
fits-texts zero [] (y ∷ ys) fits = absurd fits
fits-texts zero (x ∷ xs) ys fits = absurd fits
fits-texts (suc n) [] ys fits = absurd fits
fits-texts (suc n) (x ∷ xs) [] fits = absurd fits
fits-texts (suc n) (x ∷ xs) (y ∷ ys) fits = ap (λ t. Operands.Cons t (texts xs)) fits.0 ∙ ap (Operands.Cons y.text) (fits-texts n xs ys fits.1)

fits-nothing : {C : Type 0} (xs : List Item) (y : Item) (ys : List Item) → Fits [] xs (y ∷ ys) → C
fits-nothing [] y ys fits = absurd fits
fits-nothing (x ∷ xs) y ys fits = absurd fits

take-front : (xs ys : List Item) → take (length xs) (xs ++ ys) ≡ xs
take-front [] ys = refl
take-front (x ∷ xs) ys = ap (λ zs. x ∷ zs) (take-front xs ys)

drop-front : (xs ys : List Item) → drop (length xs) (xs ++ ys) ≡ ys
drop-front [] ys = refl
drop-front (x ∷ xs) ys = drop-front xs ys

-- ---- nodes of names

-- what is reached on all arguments, or as a bare operator
abbrev IsReached : Option ℕ → ℕ → Ending
IsReached None d = IsUse d
IsReached (Some count) d = IsBare d count

module _ (f : Earlier) (s : List Item) (is : List ℕ) where
  -- the node of a name that leads there is made of it
  abbrev IsNodeOf : Option ℕ → Stand → List Item → Steps → Lead → Type 0
  IsNodeOf o stand arguments path lead = IsNamed o stand arguments path (name_node o lead is).form (items_at f (name_node o lead is).parts s)

  use-node : (o : Option ℕ) (stand : Stand) (arguments : List Item) (path : Steps) (way : List ℕ) (d : ℕ) → Leads (IsReached o d) stand arguments path way (items_at f is s) → IsNodeOf o stand arguments path (record { path = way; end = end.Definition d })
  use-node None stand arguments path way d leads = (refl, leads)
  use-node (Some count) stand arguments path way d leads = (count, refl, leads)

  reached-node : (o : Option ℕ) (stand : Stand) (arguments : List Item) (path : Steps) (lead : Lead) (d : ℕ) → lead.end ≡ end.Definition d → Leads (IsReached o d) stand arguments path lead.path (items_at f is s) → IsNodeOf o stand arguments path lead
  reached-node o stand arguments path lead d ends leads =
      subst (λ e. IsNodeOf o stand arguments path (record { path = lead.path; end = e })) (sym ends) (use-node o stand arguments path lead.path d leads)

-- ---- paths

-- whichever stood before, the last of these is bare or not
bare-last : (b : Bool) (x : Tree) (rest : Trees) → is_bare b (Cons x rest) ≡ is_bare false (Cons x rest)
bare-last b (Node form at Nil) rest = refl
bare-last b (Node form at (Cons x parts)) rest = refl

bare-behind : (form : Form.the_data) (at : Span) (arguments : Trees) (x : Tree) (rest : Trees) → is_bare false (Cons (Node form at arguments) (Cons x rest)) ≡ is_bare false (Cons x rest)
bare-behind form at Nil x rest = bare-last true x rest
bare-behind form at (Cons y arguments) x rest = refl

module _ (text : Text) (known : Known) (named : List ℕ → Outside) (around : Around) where
  -- what is made for the arguments on a path fits them: in their order, for the names one after another
  abbrev pub PathFits : Option Meaning → Behind → Trees → List Item → Type 0
  PathFits (Some meaning) held (Cons (Node (Form.Segment l) at Nil) Nil) made = (made ≡ []) × CanStandBare meaning
  PathFits (Some meaning) held (Cons (Node (Form.Segment l) at (Cons x arguments)) Nil) made =
      IsNoInstance meaning × Fits (orders_of meaning) made (items text known named around (Cons x arguments))
  PathFits (Some meaning) held (Cons (Node (Form.Segment l) at arguments) (Cons x rest)) made =
      IsInstanceOf meaning (orders_of meaning)
      × ((first others : List Item) × (made ≡ first ++ others) × Fits (orders_of meaning) first (items text known named around arguments)
      × PathFits (entry_of (held []) (first_name text.source (Cons x rest))) (onward held (first_name text.source (Cons x rest))) (Cons x rest) others)
  PathFits meaning held parts made = ⊥

  -- the places of what a path leads to, whose first name means this
  abbrev pub places-behind : Behind → Option Meaning → Trees → Option ℕ
  places-behind held meaning Nil = None
  places-behind held meaning (Cons x rest) = cond (is_bare false (Cons x rest)) (operator_places (called_behind text known named held meaning rest)) None

  -- where a path leads behind a name, and what is made fits
  abbrev IsReachedAt : Stand → Option ℕ → Trees → Trees → List Item → Type 0
  IsReachedAt stand o arguments rest made =
      (d : ℕ) × ((lead_by stand (path_names text.source rest)).end ≡ end.Definition d)
      × Leads (IsReached o d) stand (items text known named around arguments) (steps text known named around rest) (lead_by stand (path_names text.source rest)).path made

  bare-use : (o : Option ℕ) (d : ℕ) (orders : List ℕ) (meaning : Meaning) (made : List Item) → o ≡ operator_places (Some meaning) → orders ≡ orders_of meaning → CanStandBare meaning → made ≡ [] → IsReached o d d orders made []
  bare-use None d orders meaning made places same bare nothing =
      let none : orders ≡ [] = by_order (order_of meaning) (places ∙ places-order meaning) (ap length same ∙ orders-length meaning) orders refl in
      (refl, subst (λ os. Fits os made []) (sym none) (subst (λ xs. Fits [] xs []) (sym nothing) tt))
    where
      by_order : (n : ℕ) → None ≡ places_by n → length orders ≡ n → (os : List ℕ) → orders ≡ os → os ≡ []
      by_order n e many [] is = refl
      by_order zero e many (k ∷ os) is = let l : length (k ∷ os) ≡ zero = sym (ap length is) ∙ many in absurd (omega (arith, l))
      by_order (suc n) e many (k ∷ os) is = cc
  bare-use (Some count) d orders meaning made places same bare nothing =
      (refl, same ∙ bare.1 ∙ ap (λ n. replicate n 0) (by_order (order_of meaning) (places ∙ places-order meaning) (orders-length meaning)), refl)
    where
      by_order : (n : ℕ) → Some count ≡ places_by n → length (orders_of meaning) ≡ n → length (orders_of meaning) ≡ count
      by_order zero e many = cc
      by_order (suc n) e many = cc

  segment-only : {C : Type 0} (next : Meaning) (held : Behind) (form : Form.the_data) (at : Span) (arguments rest : Trees) (made : List Item) → PathFits (Some next) held (Cons (Node form at arguments) rest) made → ((l : Lexeme) → form ≡ Form.Segment l → C) → C
  segment-only next held (Form.Segment l) at arguments rest made fits on = on l refl
  segment-only next held form at arguments rest made fits on = absurd fits

  -- what fits behind an instance
  abbrev FitsFurther : Meaning → Behind → Trees → Tree → Trees → List Item → Type 0
  FitsFurther meaning held arguments x rest made =
      IsInstanceOf meaning (orders_of meaning)
      × ((first others : List Item) × (made ≡ first ++ others) × Fits (orders_of meaning) first (items text known named around arguments)
      × PathFits (entry_of (held []) (first_name text.source (Cons x rest))) (onward held (first_name text.source (Cons x rest))) (Cons x rest) others)

  fits-further : (meaning : Meaning) (held : Behind) (l : Lexeme) (at : Span) (arguments : Trees) (x : Tree) (rest : Trees) (made : List Item) → PathFits (Some meaning) held (Cons (Node (Form.Segment l) at arguments) (Cons x rest)) made → FitsFurther meaning held arguments x rest made
  fits-further meaning held l at Nil x rest made fits = fits
  fits-further meaning held l at (Cons y arguments) x rest made fits = fits

  -- the rest of a path, behind an instance
  abbrev IsLedOn : Option ℕ → Behind → (Named → Stand) → Span → Trees → Trees → Type 0
  IsLedOn o held inner at arguments rest =
      (k : Lexeme) (next : Meaning) (others : List Item) → TakesBehind (inner (name_of text.source k)) (onward held (name_of text.source k)) next
      → PathFits (Some next) (onward held (name_of text.source k)) (Cons (Node (Form.Segment k) at arguments) rest) others
      → o ≡ places-behind (onward held (name_of text.source k)) (Some next) (Cons (Node (Form.Segment k) at arguments) rest)
      → IsReachedAt (inner (name_of text.source k)) o arguments rest others

  through-segment : (j : ℕ) (orders : List ℕ) (inner : Named → Stand) (o : Option ℕ) (held : Behind) (meaning : Meaning) (l : Lexeme) (at : Span) (arguments : Trees) (k : Lexeme) (below : Span) (more rest : Trees) (made first others : List Item) (next : Meaning) → IsLedOn o held inner below more rest → TakesBehind (Through j orders inner) held meaning → entry_of (held []) (name_of text.source k) ≡ Some next → made ≡ first ++ others → Fits (orders_of meaning) first (items text known named around arguments) → PathFits (Some next) (onward held (name_of text.source k)) (Cons (Node (Form.Segment k) below more) rest) others → o ≡ places-behind held (Some meaning) (Cons (Node (Form.Segment l) at arguments) (Cons (Node (Form.Segment k) below more) rest)) → IsReachedAt (Through j orders inner) o arguments (Cons (Node (Form.Segment k) below more) rest) made
  through-segment j orders inner o held meaning l at arguments k below more rest made first others next again takes entry parted fits on places =
      let name = name_of text.source k in
      let same : orders ≡ orders_of meaning = instance-orders meaning orders takes.0 in
      let fits-here : Fits orders first (items text known named around arguments) = subst (λ os. Fits os first (items text known named around arguments)) (sym same) fits in
      let many : length first ≡ length orders = fits-made orders first (items text known named around arguments) fits-here in
      let front : take (length orders) made ≡ first = ap (λ n. take n made) (sym many) ∙ ap (λ xs. take (length first) xs) parted ∙ take-front first others in
      let back : drop (length orders) made ≡ others = ap (λ n. drop n made) (sym many) ∙ ap (λ xs. drop (length first) xs) parted ∙ drop-front first others in
      let bare = bare-behind (Form.Segment l) at arguments (Node (Form.Segment k) below more) rest in
      let places-on : o ≡ places-behind (onward held name) (Some next) (Cons (Node (Form.Segment k) below more) rest) =
      places
      ∙ ap (λ b. cond b (operator_places (called_behind text known named (onward held name) (entry_of (held []) name) rest)) None) bare
      ∙ ap (λ e. cond (is_bare false (Cons (Node (Form.Segment k) below more) rest)) (operator_places (called_behind text known named (onward held name) e rest)) None) entry in
      let found = again k next others (takes.1 name next entry) on places-on in
      let lead = lead_by (inner name) (path_names text.source rest) in (
        found.0,
        found.1,
        (refl, subst (λ xs. Fits orders xs (items text known named around arguments)) (sym front) fits-here, subst (λ xs. Leads (IsReached o found.0) (inner name) (items text known named around more) (steps text known named around rest) lead.path xs) (sym back) found.2),
      )

  through-leads : (j : ℕ) (orders : List ℕ) (inner : Named → Stand) (o : Option ℕ) (held : Behind) (meaning : Meaning) (l : Lexeme) (at : Span) (arguments : Trees) (form : Form.the_data) (below : Span) (more rest : Trees) (made : List Item) → IsLedOn o held inner below more rest → TakesBehind (Through j orders inner) held meaning → PathFits (Some meaning) held (Cons (Node (Form.Segment l) at arguments) (Cons (Node form below more) rest)) made → o ≡ places-behind held (Some meaning) (Cons (Node (Form.Segment l) at arguments) (Cons (Node form below more) rest)) → IsReachedAt (Through j orders inner) o arguments (Cons (Node form below more) rest) made
  through-leads j orders inner o held meaning l at arguments form below more rest made again takes fits places =
      let x : Tree = Node form below more in
      let further = fits-further meaning held l at arguments x rest made fits in
      by_entry further.1.0 further.1.1 (entry_of (held []) (first_name text.source (Cons x rest))) refl further.1.2 further.1.3 further.1.4
    where
      by_entry : (first others : List Item) (found : Option Meaning) → entry_of (held []) (first_name text.source (Cons (Node form below more) rest)) ≡ found → made ≡ first ++ others → Fits (orders_of meaning) first (items text known named around arguments) → PathFits found (onward held (first_name text.source (Cons (Node form below more) rest))) (Cons (Node form below more) rest) others → IsReachedAt (Through j orders inner) o arguments (Cons (Node form below more) rest) made
      by_entry first others None e parted fits on = absurd on
      by_entry first others (Some next) e parted fits on =
          segment-only next (onward held (first_name text.source (Cons (Node form below more) rest))) form below more rest others on (λ k same.
          subst (λ g. entry_of (held []) (first_name text.source (Cons (Node g below more) rest)) ≡ Some next → PathFits (Some next) (onward held (first_name text.source (Cons (Node g below more) rest))) (Cons (Node g below more) rest) others → o ≡ places-behind held (Some meaning) (Cons (Node (Form.Segment l) at arguments) (Cons (Node g below more) rest)) → IsReachedAt (Through j orders inner) o arguments (Cons (Node g below more) rest) made) (sym same)
          (λ entry on places. through-segment j orders inner o held meaning l at arguments k below more rest made first others next again takes entry parted fits on places) e on places)

  behind-leads : (stand : Stand) (o : Option ℕ) (held : Behind) (meaning : Meaning) (l : Lexeme) (at : Span) (arguments rest : Trees) (made : List Item) → TakesBehind stand held meaning → PathFits (Some meaning) held (Cons (Node (Form.Segment l) at arguments) rest) made → o ≡ places-behind held (Some meaning) (Cons (Node (Form.Segment l) at arguments) rest) → IsReachedAt stand o arguments rest made
  behind-leads Unsaid o held meaning l at arguments rest made takes fits places = absurd takes
  behind-leads (Leaf kind) o held meaning l at arguments rest made takes fits places = absurd takes
  behind-leads (Place place order) o held meaning l at arguments rest made takes fits places = absurd takes
  behind-leads (Defined d orders) o held meaning l at Nil Nil made takes fits places = (d, refl, bare-use o d orders meaning made places takes.1 fits.1 fits.0)
  behind-leads (Defined d orders) o held meaning l at (Cons x arguments) Nil made takes fits places = (
    d,
    refl,
    subst (λ p. IsReached p d d orders made (items text known named around (Cons x arguments))) (sym places)
        (refl, subst (λ os. Fits os made (items text known named around (Cons x arguments))) (sym takes.1) fits.1),
  )
  behind-leads (Defined d orders) o held meaning l at arguments (Cons x rest) made takes fits places =
      no-instance meaning (orders_of meaning) takes.0 (fits-further meaning held l at arguments x rest made fits).0
  behind-leads (Through j orders inner) o held meaning l at Nil Nil made takes fits places = no-instance meaning orders fits.1.0 takes.0
  behind-leads (Through j orders inner) o held meaning l at (Cons x arguments) Nil made takes fits places = no-instance meaning orders fits.0 takes.0
  behind-leads (Through j orders inner) o held meaning l at arguments (Cons (Node form below more) rest) made takes fits places =
      through-leads j orders inner o held meaning l at arguments form below more rest made
      (λ k next others takes-on fits-on places-on. behind-leads (inner (name_of text.source k)) o (onward held (name_of text.source k)) next k below more rest others takes-on fits-on places-on) takes fits places
  behind-leads (Brought j inner) o held meaning l at arguments rest made takes fits places =
      let found = behind-leads inner o held meaning l at arguments rest made takes fits places in (found.0, found.1, (refl, found.2))

  -- ---- all names

  module _ (f : Earlier) (s : List Item) (is : List ℕ) where
    no-nodes : (js : List ℕ) → items_at f js s ≡ [] → js ≡ []
    no-nodes [] e = refl
    no-nodes (j ∷ js) e = cc

    -- the node of a name on arguments, or by itself
    leaf-node : (kind : Kind) (o : Option ℕ) (held : Behind) (meaning : Meaning) (l : Lexeme) (at : Span) (arguments rest : Trees) → IsNoInstance meaning → orders_of meaning ≡ [] → PathFits (Some meaning) held (Cons (Node (Form.Segment l) at arguments) rest) (items_at f is s) → o ≡ places-behind held (Some meaning) (Cons (Node (Form.Segment l) at arguments) rest) → IsNodeOf f s is o (Leaf kind) (items text known named around arguments) (steps text known named around rest) (lead_by (Leaf kind) (path_names text.source rest))
    leaf-node kind o held meaning l at Nil Nil plain none fits places = (places ∙ no-places meaning none, refl, refl, refl)
    leaf-node kind o held meaning l at (Cons x arguments) Nil plain none fits places =
        fits-nothing (items_at f is s) _ _ (subst (λ os. Fits os (items_at f is s) (items text known named around (Cons x arguments))) none fits.1)
    leaf-node kind o held meaning l at arguments (Cons x rest) plain none fits places =
        no-instance meaning (orders_of meaning) plain (fits-further meaning held l at arguments x rest (items_at f is s) fits).0

    place-node : (place order : ℕ) (o : Option ℕ) (held : Behind) (meaning : Meaning) (l : Lexeme) (at : Span) (arguments rest : Trees) → IsNoInstance meaning → order ≡ order_of meaning → orders_of meaning ≡ replicate order 0 → PathFits (Some meaning) held (Cons (Node (Form.Segment l) at arguments) rest) (items_at f is s) → o ≡ places-behind held (Some meaning) (Cons (Node (Form.Segment l) at arguments) rest) → IsNodeOf f s is o (Place place order) (items text known named around arguments) (steps text known named around rest) (lead_by (Place place order) (path_names text.source rest))
    place-node place order o held meaning l at Nil Nil plain same takes fits places =
        subst (λ js. IsNodeOf f s js o (Place place order) [] [] (lead_by (Place place order) [])) (sym (no-nodes is fits.0))
        (order, places ∙ places-order meaning ∙ ap places_by (sym same), refl, refl, refl)
    place-node place order o held meaning l at (Cons x arguments) Nil plain same takes fits places =
        on_nodes is (subst (λ os. Fits os (items_at f is s) (items text known named around (Cons x arguments))) takes fits.1)
      where
        on_nodes : (js : List ℕ) → Fits (replicate order 0) (items_at f js s) (items text known named around (Cons x arguments)) → IsNodeOf f s js o (Place place order) (items text known named around (Cons x arguments)) [] (lead_by (Place place order) [])
        on_nodes [] here =
            let l : 0 ≡ length (replicate order 0) = fits-made (replicate order 0) [] _ here in
            let m : length (items text known named around (Cons x arguments)) ≡ length (replicate order 0) = fits-given (replicate order 0) [] (items text known named around (Cons x arguments)) here in
            absurd (omega (arith, l, m))
        on_nodes (j ∷ js) here =
            let many : length (items text known named around (Cons x arguments)) ≡ order = fits-given (replicate order 0) (items_at f (j ∷ js) s) (items text known named around (Cons x arguments)) here ∙ length-replicate order 0 in (
              places,
              ap (λ n. Place place n) (sym many),
              omega arith,
              fits-texts order (items_at f (j ∷ js) s) (items text known named around (Cons x arguments)) here,
              refl,
            )
    place-node place order o held meaning l at arguments (Cons x rest) plain same takes fits places =
        no-instance meaning (orders_of meaning) plain (fits-further meaning held l at arguments x rest (items_at f is s) fits).0

    pub path-node : (stand : Stand) (o : Option ℕ) (held : Behind) (meaning : Meaning) (l : Lexeme) (at : Span) (arguments rest : Trees) → TakesAs stand held meaning → PathFits (Some meaning) held (Cons (Node (Form.Segment l) at arguments) rest) (items_at f is s) → o ≡ places-behind held (Some meaning) (Cons (Node (Form.Segment l) at arguments) rest) → IsNodeOf f s is o stand (items text known named around arguments) (steps text known named around rest) (lead_by stand (path_names text.source rest))
    path-node (Leaf kind) o held meaning l at arguments rest takes fits places = leaf-node kind o held meaning l at arguments rest takes.0 takes.1 fits places
    path-node (Place place order) o held meaning l at arguments rest takes fits places = place-node place order o held meaning l at arguments rest takes.0 takes.1 takes.2 fits places
    path-node stand o held meaning l at arguments rest takes fits places =
        let found = behind-leads stand o held meaning l at arguments rest (items_at f is s) takes fits places in
        reached-node f s is o stand (items text known named around arguments) (steps text known named around rest) (lead_by stand (path_names text.source rest)) found.0 found.1 found.2

    -- ---- the places of nodes of names

    use-places : (o : Option ℕ) (lead : Lead) (d : ℕ) → lead.end ≡ end.Definition d → (name_node o lead is).places ≡ o
    use-places o lead d ends = subst (λ e. (name_node o (record { path = lead.path; end = e }) is).places ≡ o) (sym ends) (by_places o)
      where
        by_places : (p : Option ℕ) → (name_node p (record { path = lead.path; end = end.Definition d }) is).places ≡ p
        by_places None = refl
        by_places (Some count) = refl

    leaf-places : (kind : Kind) (o : Option ℕ) (held : Behind) (meaning : Meaning) (l : Lexeme) (at : Span) (arguments rest : Trees) → IsNoInstance meaning → orders_of meaning ≡ [] → PathFits (Some meaning) held (Cons (Node (Form.Segment l) at arguments) rest) (items_at f is s) → o ≡ places-behind held (Some meaning) (Cons (Node (Form.Segment l) at arguments) rest) → (name_node o (lead_by (Leaf kind) (path_names text.source rest)) is).places ≡ o
    leaf-places kind o held meaning l at Nil Nil plain none fits places = sym (places ∙ no-places meaning none)
    leaf-places kind o held meaning l at (Cons x arguments) Nil plain none fits places = sym places
    leaf-places kind o held meaning l at arguments (Cons x rest) plain none fits places =
        no-instance meaning (orders_of meaning) plain (fits-further meaning held l at arguments x rest (items_at f is s) fits).0

    place-places : (place order : ℕ) (o : Option ℕ) (held : Behind) (meaning : Meaning) (l : Lexeme) (at : Span) (arguments rest : Trees) → IsNoInstance meaning → order ≡ order_of meaning → orders_of meaning ≡ replicate order 0 → PathFits (Some meaning) held (Cons (Node (Form.Segment l) at arguments) rest) (items_at f is s) → o ≡ places-behind held (Some meaning) (Cons (Node (Form.Segment l) at arguments) rest) → (name_node o (lead_by (Place place order) (path_names text.source rest)) is).places ≡ o
    place-places place order o held meaning l at Nil Nil plain same takes fits places =
        subst (λ js. (name_node o (lead_by (Place place order) []) js).places ≡ o) (sym (no-nodes is fits.0)) (sym (places ∙ places-order meaning ∙ ap places_by (sym same)))
    place-places place order o held meaning l at (Cons x arguments) Nil plain same takes fits places =
        on_nodes is (subst (λ os. Fits os (items_at f is s) (items text known named around (Cons x arguments))) takes fits.1)
      where
        on_nodes : (js : List ℕ) → Fits (replicate order 0) (items_at f js s) (items text known named around (Cons x arguments)) → (name_node o (lead_by (Place place order) []) js).places ≡ o
        on_nodes [] here =
            let l : 0 ≡ length (replicate order 0) = fits-made (replicate order 0) [] _ here in
            let m : length (items text known named around (Cons x arguments)) ≡ length (replicate order 0) = fits-given (replicate order 0) [] (items text known named around (Cons x arguments)) here in
            absurd (omega (arith, l, m))
        on_nodes (j ∷ js) here = sym places
    place-places place order o held meaning l at arguments (Cons x rest) plain same takes fits places =
        no-instance meaning (orders_of meaning) plain (fits-further meaning held l at arguments x rest (items_at f is s) fits).0

    pub path-has-places : (stand : Stand) (o : Option ℕ) (held : Behind) (meaning : Meaning) (l : Lexeme) (at : Span) (arguments rest : Trees) → TakesAs stand held meaning → PathFits (Some meaning) held (Cons (Node (Form.Segment l) at arguments) rest) (items_at f is s) → o ≡ places-behind held (Some meaning) (Cons (Node (Form.Segment l) at arguments) rest) → (name_node o (lead_by stand (path_names text.source rest)) is).places ≡ o
    path-has-places (Leaf kind) o held meaning l at arguments rest takes fits places = leaf-places kind o held meaning l at arguments rest takes.0 takes.1 fits places
    path-has-places (Place place order) o held meaning l at arguments rest takes fits places = place-places place order o held meaning l at arguments rest takes.0 takes.1 takes.2 fits places
    path-has-places stand o held meaning l at arguments rest takes fits places =
        let found = behind-leads stand o held meaning l at arguments rest (items_at f is s) takes fits places in
        use-places o (lead_by stand (path_names text.source rest)) found.0 found.1
