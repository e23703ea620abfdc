-- The expansion of a node, from those of the nodes that it is made of.
use Rattle.std.proofs.Common.{◌≡◌, ℕ, zero, suc, ◌<◌, Bool, true, false, cond, List, [], ◌∷◌, ◌++◌, Some, None, refl, sym, ap, ◌∙◌, map, take, drop, length, arith}
use Rattle.std.specs.Prelude.{◌&&◌, slice_get}
use Rattle.std.specs.List.{AllByRecursion}
use mathlib.Core.Path.{fun_ext}
use Rattle.tla_symbols.specs.declared.level.Rule.TheVariants.{Boolean}
use Rattle.list_laws.proofs.Lists.{item-at}
use Rattle.order_rec.specs.Earlier.{before}
use Rattle.order_rec.proofs.Order.{along-step, before-lt}
use Rattle.kind_text.specs.ExpandedKind.{Expanded, Ruled, guarded, is_at_most, kind}
use Rattle.kind_text.specs.Substitution.{Item, at, expression, expressions, judged, operator, texts}
use Rattle.kind_text.specs.FlatModule.{Definition, Extends, FlatModule, Form, Instance, IsOrdered, Node, Replacement, UsesDefinition, UsesEarlier, UsesInstance, places_of}
use Rattle.kind_text.specs.Expansion.{Earlier, Guard, Reached, nothing, items, first_item, body, bounded, guard, guarded_by, start, judged_at, guards_of, behind, through, along_path, used, applied_to_rest, form_item, node_item, text, use_of, are_met}
use Rattle.kind_text.proofs.Putting.{put-text}

pub extends-itself : (flat : FlatModule) → Extends flat flat
extends-itself flat = record { nodes = λ i x e. e; definitions = λ i x e. e; instances = λ i x e. e }

-- two readings of nodes that agree below a number
module _ (flat more : FlatModule) (extends : Extends flat more) (f g : Earlier) (i : ℕ) (agree : (j : ℕ) → j < i → f j ≡ g j) (places : (j : ℕ) → j < i → places_of (slice_get flat.nodes j) ≡ places_of (slice_get more.nodes j)) where
  items-agree : (is : List ℕ) (s : List Item) → AllByRecursion (λ j. j < i) is → items f is s ≡ items g is s
  items-agree [] s all = refl
  items-agree (j ∷ is) s all = ap (λ x. x s ∷ items f is s) (agree j all.0) ∙ ap (λ xs. g j s ∷ xs) (items-agree is s all.1)

  first-agree : (is : List ℕ) (s : List Item) → AllByRecursion (λ j. j < i) is → first_item f is s ≡ first_item g is s
  first-agree [] s all = refl
  first-agree (j ∷ is) s all = ap (λ x. x s) (agree j all.0)

  roots-agree : (rs : List Replacement) (s : List Item) → AllByRecursion (λ r. r.root < i) rs → items f (map (λ r. r.root) rs) s ≡ items g (map (λ r. r.root) rs) s
  roots-agree [] s all = refl
  roots-agree (r ∷ rs) s all = ap (λ x. x s ∷ items f (map (λ r. r.root) rs) s) (agree r.root all.0) ∙ ap (λ xs. g r.root s ∷ xs) (roots-agree rs s all.1)

  guards-agree : (rs : List Replacement) (s : List Item) → AllByRecursion (λ r. r.root < i) rs → guards_of flat f rs s ≡ guards_of more g rs s
  guards-agree [] s all = refl
  guards-agree (r ∷ rs) s all =
      ap (λ o. guarded_by r.most (judged o (f r.root s)) ++ guards_of flat f rs s) (places r.root all.0)
      ∙ ap (λ x. guarded_by r.most (judged (places_of (slice_get more.nodes r.root)) (x s)) ++ guards_of flat f rs s) (agree r.root all.0)
      ∙ ap (λ gs. guarded_by r.most (judged_at more g r.root s) ++ gs) (guards-agree rs s all.1)

  pub behind-agree : (x : Instance) (s : List Item) (reached : Reached) → AllByRecursion (λ r. r.root < i) x.replacements → behind flat f x s reached ≡ behind more g x s reached
  behind-agree x s reached all =
      ap (λ frame. record { frame = frame; guards = reached.guards ++ cond x.guards (guards_of flat f x.replacements s) []; rest = drop x.parameters reached.rest }) (roots-agree x.replacements s all)
      ∙ ap (λ gs. record { frame = items g (map (λ r. r.root) x.replacements) s; guards = reached.guards ++ cond x.guards gs []; rest = drop x.parameters reached.rest }) (guards-agree x.replacements s all)

  through-agree : (j : ℕ) (reached : Reached) → UsesInstance flat i j → through flat f (slice_get flat.instances j) reached ≡ through more g (slice_get more.instances j) reached
  through-agree j reached u =
      ap (λ o. through flat f o reached) u.1
      ∙ behind-agree u.0 (take u.0.outer reached.frame ++ take u.0.parameters reached.rest) reached u.2
      ∙ sym (ap (λ o. through more g o reached) (extends.instances j u.0 u.1))

  path-agree : (path : List ℕ) (reached : Reached) → AllByRecursion (UsesInstance flat i) path → along_path flat f path reached ≡ along_path more g path reached
  path-agree [] reached all = refl
  path-agree (j ∷ path) reached all = ap (along_path flat f path) (through-agree j reached all.0) ∙ path-agree path _ all.1

  body-agree : (d : ℕ) → UsesDefinition flat i d → body f (slice_get flat.definitions d) ≡ body g (slice_get more.definitions d)
  body-agree d u =
      ap (body f) u.1 ∙ ap (λ x. λ (frame : ℕ → List Item). (x (frame u.0.outer)).text) (agree u.0.root u.2) ∙ sym (ap (body g) (extends.definitions d u.0 u.1))

  used-agree : (reached : Reached) (d : ℕ) (xs : List Item) → UsesDefinition flat i d → used flat f reached d xs ≡ used more g reached d xs
  used-agree reached d xs u = ap (λ b. guard reached.guards (b (λ outer. take outer reached.frame ++ xs))) (body-agree d u)

  form-agree : (form : Form) (is : List ℕ) (s : List Item) → AllByRecursion (λ j. j < i) is → UsesEarlier flat i form → form_item flat f form is s ≡ form_item more g form is s
  form-agree (Form.Leaf kind) is s all u = refl
  form-agree (Form.Parameter place) is s all u = refl
  form-agree (Form.Call place) is s all u = ap (λ xs. expression ((at s place).call (texts xs))) (items-agree is s all)
  form-agree (Form.Operation rule) is s all u = ap (λ xs. expression (Ruled rule (texts xs))) (items-agree is s all)
  form-agree Form.Bounded is s all u = ap (λ xs. expression (bounded (texts xs))) (items-agree is s all)
  form-agree Form.Old is s all u = ap (λ xs. expression (Ruled Boolean (texts xs))) (items-agree is s all)
  form-agree Form.Let is s all u = first-agree is s all
  form-agree (Form.Use path d) is s all u =
      ap (λ xs. expression (applied_to_rest flat f (along_path flat f path (start s xs)) d)) (items-agree is s all)
      ∙ ap (λ r. expression (applied_to_rest flat f r d)) (path-agree path (start s (items g is s)) u.0)
      ∙ ap expression (used-agree (along_path more g path (start s (items g is s))) d _ u.1)
  form-agree (Form.Name path d) is s all u =
      ap (λ xs. operator (λ ts. used flat f (along_path flat f path (start s xs)) d (expressions ts))) (items-agree is s all)
      ∙ ap (λ r. operator (λ ts. used flat f r d (expressions ts))) (path-agree path (start s (items g is s)) u.0)
      ∙ ap operator (fun_ext (λ ts. used-agree (along_path more g path (start s (items g is s))) d (expressions ts) u.1))
  form-agree (Form.Symbol rule) is s all u = refl
  form-agree (Form.Lambda d) is s all u = ap operator (fun_ext (λ ts. used-agree (start s []) d (expressions ts) u))

-- a node's expansion, from its form and the expansions of what it is made of
pub text-step : (flat : FlatModule) (i : ℕ) (node : Node) (s : List Item) → IsOrdered flat → slice_get flat.nodes i ≡ Some node → text flat i s ≡ form_item flat (text flat) node.form node.parts s
text-step flat i node s ordered e =
    let earlier = ordered i node e in
    ap (λ x. x s) (along-step nothing (λ j f. node_item flat f (slice_get flat.nodes j)) i)
    ∙ ap (λ o. node_item flat (before nothing (text flat) i) o s) e
    ∙ form-agree flat flat (extends-itself flat) (before nothing (text flat) i) (text flat) i (λ j l. before-lt nothing (text flat) i j l) (λ j l. refl)
    node.form node.parts s earlier.parts earlier.uses

module _ (flat more : FlatModule) (extends : Extends flat more) (ordered : IsOrdered flat) where
  -- with more definitions a node's expansion is the same; n is above it
  same-below : (n i : ℕ) → i < n → i < length flat.nodes → text flat i ≡ text more i
  same-below zero i under here = absurd (omega arith)
  same-below (suc n) i under here = by_node (λ j l. same-below n j (omega (arith, l, under)) (omega (arith, l, here))) (item-at flat.nodes i here)
    where
      by_node : ((j : ℕ) → j < i → text flat j ≡ text more j) → (node : Node) × (slice_get flat.nodes i ≡ Some node) → text flat i ≡ text more i
      by_node below read =
          let earlier = ordered i read.0 read.1 in
          along-step nothing (λ j f. node_item flat f (slice_get flat.nodes j)) i
          ∙ ap (node_item flat (before nothing (text flat) i)) read.1
          ∙ fun_ext (λ s.
          form-agree flat more extends (before nothing (text flat) i) (before nothing (text more) i) i
          (λ j l. before-lt nothing (text flat) i j l ∙ below j l ∙ sym (before-lt nothing (text more) i j l))
          (λ j l. places-same j (item-at flat.nodes j (omega (arith, l, here))))
          read.0.form read.0.parts s earlier.parts earlier.uses)
          ∙ sym (ap (node_item more (before nothing (text more) i)) (extends.nodes i read.0 read.1))
          ∙ sym (along-step nothing (λ j f. node_item more f (slice_get more.nodes j)) i)
        where
          places-same : (j : ℕ) → (node : Node) × (slice_get flat.nodes j ≡ Some node) → places_of (slice_get flat.nodes j) ≡ places_of (slice_get more.nodes j)
          places-same j read = ap places_of read.1 ∙ sym (ap places_of (extends.nodes j read.0 read.1))

  pub text-kept : (i : ℕ) → i < length flat.nodes → text flat i ≡ text more i
  text-kept i here = same-below (suc i) i (omega arith) here

-- a use of a definition, by the definition's own expansion
pub text-use : (flat : FlatModule) (i : ℕ) (node : Node) (path : List ℕ) (d : ℕ) (definition : Definition) (s : List Item) → IsOrdered flat → slice_get flat.nodes i ≡ Some node → node.form ≡ Form.Use path d → slice_get flat.definitions d ≡ Some definition → (text flat i s).text ≡ use_of flat definition (along_path flat (text flat) path (start s (items (text flat) node.parts s)))
text-use flat i node path d definition s ordered e is there =
    let reached = along_path flat (text flat) path (start s (items (text flat) node.parts s)) in
    ap (λ (x : Item). x.text) (text-step flat i node s ordered e ∙ ap (λ form. form_item flat (text flat) form node.parts s) is)
    ∙ ap (λ o. guard reached.guards (body (text flat) o (λ outer. take outer reached.frame ++ reached.rest))) there
    ∙ ap (guard reached.guards) (sym (put-text flat definition.root (take definition.outer reached.frame ++ reached.rest)))

-- an expression under guards has its kind where all are met
pub kind-guard : (gs : List Guard) (t : Expanded) → kind (guard gs t) ≡ cond (are_met gs) (kind t) None
kind-guard [] t = refl
kind-guard (g ∷ gs) t = ap (guarded g.most (kind g.replacement)) (kind-guard gs t) ∙ both (is_at_most g.most (kind g.replacement)) (are_met gs)
  where
    both : (a b : Bool) → cond a (cond b (kind t) None) None ≡ cond (a && b) (kind t) None
    both true b = refl
    both false b = refl
