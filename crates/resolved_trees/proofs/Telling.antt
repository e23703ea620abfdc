-- What nodes expand to is told by their trees.
use Rattle.std.proofs.Common.{◌≡◌, ℕ, zero, suc, Bool, true, false, cond, List, [], ◌∷◌, ◌++◌, Option, Some, None, refl, sym, ap, ◌∙◌, inl, inr, map, take, drop}
use Rattle.std.specs.Prelude.{nat_lt, slice_get}
use mathlib.Core.Path.{fun_ext}
use Rattle.tla_symbols.specs.declared.level.Rule.TheVariants.{Boolean}
use Rattle.order_rec.specs.Earlier.{before, within}
use Rattle.kind_text.specs.ExpandedKind.{Ruled}
use Rattle.kind_text.specs.Expansion.{Earlier, Reached, along_path, body, bounded, first_item, form_item, guarded_by, guards_of, items, node_item, nothing, start, text, through, used, applied_to_rest}
use Rattle.kind_text.specs.FlatModule.{Definition, FlatModule, Form, Instance, Node, Replacement, places_of}
use Rattle.kind_text.specs.Substitution.{Item, at, expression, expressions, judged, operator, texts}
use Rattle.resolved_trees.specs.Resolved.{Missing, Resolved, body_of, definition_at, first_of, form_at, guards_in, instance_at, item_of, items_of, node_at, parts_at, path_at, places_in, reached_along, reached_through, replaced_items, replacements_at, resolved, used_on}
use Rattle.resolved_trees.proofs.Known.{IsKnown, before-known, tree_step}

-- nothing is judged alike, whatever its places are
nothing-judged : (places : Option ℕ) (s : List Item) → judged places (nothing s) ≡ judged None (nothing s)
nothing-judged None s = refl
nothing-judged (Some n) s = refl

-- where earlier trees tell what earlier nodes expand to
module _ (flat : FlatModule) (f : Earlier) (g : ℕ → Resolved) (tell : (j : ℕ) → f j ≡ item_of (g j)) (known : (j : ℕ) → IsKnown flat j (g j)) where
  items-told : (is : List ℕ) (s : List Item) → items f is s ≡ items_of (parts_at flat g is) s
  items-told [] s = refl
  items-told (i ∷ is) s = ap (λ x. x s ∷ items f is s) (tell i) ∙ ap (λ xs. item_of (g i) s ∷ xs) (items-told is s)

  first-told : (is : List ℕ) (s : List Item) → first_item f is s ≡ first_of (items_of (parts_at flat g is) s) s
  first-told [] s = refl
  first-told (i ∷ is) s = ap (λ x. x s) (tell i)

  judged-told : (i : ℕ) (s : List Item) → judged (places_of (slice_get flat.nodes i)) (f i s) ≡ judged (places_in (g i)) (item_of (g i) s)
  judged-told i s = ap (λ x. judged (places_of (slice_get flat.nodes i)) (x s)) (tell i) ∙ by (known i)
    where
      by : IsKnown flat i (g i) → judged (places_of (slice_get flat.nodes i)) (item_of (g i) s) ≡ judged (places_in (g i)) (item_of (g i) s)
      by (inl missing) =
          ap (λ x. judged (places_of (slice_get flat.nodes i)) (item_of x s)) missing
          ∙ nothing-judged (places_of (slice_get flat.nodes i)) s
          ∙ sym (ap (λ x. judged (places_in x) (item_of x s)) missing)
      by (inr places) = ap (λ p. judged p (item_of (g i) s)) (sym places)

  pub roots-told : (rs : List Replacement) (s : List Item) → items f (map (λ r. r.root) rs) s ≡ replaced_items (replacements_at flat g rs) s
  roots-told [] s = refl
  roots-told (r ∷ rs) s = ap (λ x. x s ∷ items f (map (λ r. r.root) rs) s) (tell r.root) ∙ ap (λ xs. item_of (g r.root) s ∷ xs) (roots-told rs s)

  pub guards-told : (rs : List Replacement) (s : List Item) → guards_of flat f rs s ≡ guards_in (replacements_at flat g rs) s
  guards-told [] s = refl
  guards-told (r ∷ rs) s =
      ap (λ t. guarded_by r.most t ++ guards_of flat f rs s) (judged-told r.root s)
      ∙ ap (λ gs. guarded_by r.most (judged (places_in (g r.root)) (item_of (g r.root) s)) ++ gs) (guards-told rs s)

  through-told : (o : Option Instance) (reached : Reached) → through flat f o reached ≡ reached_through (instance_at flat g o) reached
  through-told None reached = refl
  through-told (Some x) reached =
      let s = take x.outer reached.frame ++ take x.parameters reached.rest in
      let frame = roots-told x.replacements s in
      let guards = guards-told x.replacements s in
      λ i. record { frame = frame i; guards = reached.guards ++ cond x.guards (guards i) []; rest = drop x.parameters reached.rest }

  path-told : (path : List ℕ) (reached : Reached) → along_path flat f path reached ≡ reached_along (path_at flat g path) reached
  path-told [] reached = refl
  path-told (j ∷ path) reached = ap (along_path flat f path) (through-told (slice_get flat.instances j) reached) ∙ path-told path (reached_through (instance_at flat g (slice_get flat.instances j)) reached)

  body-told : (o : Option Definition) → body f o ≡ body_of (definition_at flat g o)
  body-told None = fun_ext (λ frame. refl)
  body-told (Some x) = fun_ext (λ frame. ap (λ y. (y (frame x.outer)).text) (tell x.root))

  used-told : (reached : Reached) (d : ℕ) (arguments : List Item) → used flat f reached d arguments ≡ used_on reached (body_of (definition_at flat g (slice_get flat.definitions d))) arguments
  used-told reached d arguments = ap (λ b. used_on reached b arguments) (body-told (slice_get flat.definitions d))

  behind-told : (path is : List ℕ) (s : List Item) → along_path flat f path (start s (items f is s)) ≡ reached_along (path_at flat g path) (start s (items_of (parts_at flat g is) s))
  behind-told path is s = ap (λ xs. along_path flat f path (start s xs)) (items-told is s) ∙ path-told path (start s (items_of (parts_at flat g is) s))

  form-told : (form : Form) (places : Option ℕ) (is : List ℕ) (s : List Item) → form_item flat f form is s ≡ item_of (form_at flat g form places is) s
  form-told (Form.Leaf kind) places is s = refl
  form-told (Form.Parameter place) places is s = refl
  form-told (Form.Call place) places is s = ap (λ xs. expression ((at s place).call (texts xs))) (items-told is s)
  form-told (Form.Operation rule) places is s = ap (λ xs. expression (Ruled rule (texts xs))) (items-told is s)
  form-told Form.Bounded places is s = ap (λ xs. expression (bounded (texts xs))) (items-told is s)
  form-told Form.Old places is s = ap (λ xs. expression (Ruled Boolean (texts xs))) (items-told is s)
  form-told Form.Let places is s = first-told is s
  form-told (Form.Use path d) places is s =
      ap (λ r. expression (applied_to_rest flat f r d)) (behind-told path is s)
      ∙ ap expression (used-told (reached_along (path_at flat g path) (start s (items_of (parts_at flat g is) s))) d (reached_along (path_at flat g path) (start s (items_of (parts_at flat g is) s))).rest)
  form-told (Form.Name path d) places is s =
      ap (λ r. operator (λ ts. used flat f r d (expressions ts))) (behind-told path is s)
      ∙ ap operator (fun_ext (λ ts. used-told (reached_along (path_at flat g path) (start s (items_of (parts_at flat g is) s))) d (expressions ts)))
  form-told (Form.Symbol rule) places is s = refl
  form-told (Form.Lambda d) places is s = ap operator (fun_ext (λ ts. used-told (start s []) d (expressions ts)))

  node-told : (o : Option Node) → node_item flat f o ≡ item_of (node_at flat g o)
  node-told None = fun_ext (λ s. refl)
  node-told (Some node) = fun_ext (λ s. form-told node.form node.places node.parts s)

-- one step of expansions
abbrev text_step : FlatModule → ℕ → Earlier → List Item → Item
text_step flat i f = node_item flat f (slice_get flat.nodes i)

within-told : (flat : FlatModule) (n i : ℕ) → within nothing (text_step flat) n i ≡ item_of (within Missing (tree_step flat) n i)
unfolding within
within-told flat zero i = fun_ext (λ s. refl)
within-told flat (suc n) i =
    node-told flat (before nothing (within nothing (text_step flat) n) i) (before Missing (within Missing (tree_step flat) n) i)
    (λ j. by j (nat_lt j i) (within-told flat n j)) (before-known flat n i) (slice_get flat.nodes i)
  where
    by : (j : ℕ) (b : Bool) → within nothing (text_step flat) n j ≡ item_of (within Missing (tree_step flat) n j)
        → cond b (within nothing (text_step flat) n j) nothing ≡ item_of (cond b (within Missing (tree_step flat) n j) Missing)
    by j true told = told
    by j false told = fun_ext (λ s. refl)

pub expansions-told : (flat : FlatModule) (i : ℕ) → text flat i ≡ item_of (resolved flat i)
expansions-told flat i = within-told flat (suc i) i
