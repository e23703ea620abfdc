-- Nodes by their numbers have the same trees, and so has what is made of them.
use Rattle.std.proofs.Common.{◌≡◌, ◌⊎◌, ℕ, zero, suc, ◌<◌, List, [], ◌∷◌, ◌++◌, Option, Some, None, inl, inr, refl, sym, ap, ◌∙◌, subst, map, length}
use Rattle.std.specs.Prelude.{IfSome, option_map, slice_get, slice_index_or}
use Rattle.std.specs.List.{AllByRecursion}
use Rattle.kind_text.specs.FlatModule.{FlatModule, Form, Instance, Replacement, UsesDefinition, UsesInstance}
use Rattle.kind_table.specs.declared.flat.Instance as table_instance
use Rattle.kind_table.specs.declared.flat.Replacement as table_replacement
use Rattle.kind_table.specs.Flattened.{instance_of, replacement_of}
use Rattle.resolved_trees.specs.Resolved as trees
use Rattle.resolved_trees.specs.Resolved.{Cons, Replace, Replaced, Through, definition_at, form_at, instance_at, parts_at, path_at, replacements_at, resolved}
use Rattle.std.proofs.lemmas.Option.{slice_get-get_or}
use Rattle.list_laws.proofs.Lists.{all-both, all-left, all-right, all-weaker, item-at}
use Rattle.tree_numbers.specs.declared.keys.Contents.{Contents}
use Rattle.tree_numbers.specs.declared.keys.Root.{Root}
use Rattle.tree_numbers.specs.Keys.{HasContents, body_in, definition_by, definition_in, head_of, number_in, numbered_body, path_in, pieces_of, replacements_by, root_in}
use Rattle.tree_numbers.specs.Numbered.{AreContents, HasNumbers, IsInstance, IsNumber, IsSameInstance, IsSameNode, IsSamePath, NumberNodes}

-- the definition that a form may name
abbrev named_at : FlatModule → (ℕ → trees.Resolved) → Option ℕ → trees.Definition
named_at flat f None = trees.Undefined
named_at flat f (Some d) = definition_at flat f (slice_get flat.definitions d)

-- the pieces of a form's tree are its head, its path, its definition, its places and its parts
pub form-pieces : (flat : FlatModule) (f : ℕ → trees.Resolved) (form : Form) (places : Option ℕ) (parts : List ℕ)
    → pieces_of (form_at flat f form places parts) ≡ Some (head_of form, path_at flat f (path_in form), named_at flat f (definition_in form), places, parts_at flat f parts)
form-pieces flat f (Form.Leaf kind) places parts = refl
form-pieces flat f (Form.Parameter place) places parts = refl
form-pieces flat f (Form.Call place) places parts = refl
form-pieces flat f (Form.Operation rule) places parts = refl
form-pieces flat f Form.Bounded places parts = refl
form-pieces flat f Form.Old places parts = refl
form-pieces flat f Form.Let places parts = refl
form-pieces flat f (Form.Use path d) places parts = refl
form-pieces flat f (Form.Name path d) places parts = refl
form-pieces flat f (Form.Symbol rule) places parts = refl
form-pieces flat f (Form.Lambda d) places parts = refl

-- what is found at a place, or what stands for it
found-or : (xs : List ℕ) (i d : ℕ) → ((n : ℕ) × (slice_get xs i ≡ Some n) × (slice_index_or xs i d ≡ n)) ⊎ (slice_index_or xs i d ≡ d)
found-or [] zero d = inr refl
found-or [] (suc i) d = inr refl
found-or (x ∷ xs) zero d = inl (x, refl, refl)
found-or (x ∷ xs) (suc i) d = found-or xs i d

module _ (flat : FlatModule) (numbers : List ℕ) (right : NumberNodes flat numbers) where
  -- the number of a node is a node with its tree
  pub number-same : (i : ℕ) → i < length flat.nodes → IsSameNode flat i (number_in numbers i)
  number-same i here = by (found-or numbers i i)
    where
      by : ((n : ℕ) × (slice_get numbers i ≡ Some n) × (slice_index_or numbers i i ≡ n)) ⊎ (slice_index_or numbers i i ≡ i) → IsSameNode flat i (number_in numbers i)
      by (inl found) = subst (IsSameNode flat i) (sym found.2) (right i found.0 found.1)
      by (inr none) = subst (IsSameNode flat i) (sym none) (record { here = here; there = here; same = refl })

  pub parts-same : (is : List ℕ) → AllByRecursion (λ i. i < length flat.nodes) is → parts_at flat (resolved flat) is ≡ parts_at flat (resolved flat) (map (number_in numbers) is)
  parts-same [] all = refl
  parts-same (i ∷ is) all = let first = (number-same i all.0).same in let rest = parts-same is all.1 in λ k. Cons (first k) (rest k)

  pub parts-there : (is : List ℕ) → AllByRecursion (λ i. i < length flat.nodes) is → AllByRecursion (λ i. i < length flat.nodes) (map (number_in numbers) is)
  parts-there [] all = tt
  parts-there (i ∷ is) all = ((number-same i all.0).there, parts-there is all.1)

  pub roots-same : (rs : List table_replacement.Replacement) → AllByRecursion (λ r. r.root < length flat.nodes) (map replacement_of rs)
      → replacements_at flat (resolved flat) (map replacement_of rs) ≡ replacements_by (resolved flat) (map (root_in numbers) rs)
  roots-same [] all = refl
  roots-same (r ∷ rs) all = let first = (number-same r.root all.0).same in let rest = roots-same rs all.1 in λ k. Replace (first k) r.most (rest k)

  pub roots-there : (rs : List table_replacement.Replacement) → AllByRecursion (λ r. r.root < length flat.nodes) (map replacement_of rs)
      → AllByRecursion (λ r. r.root < length flat.nodes) (map (root_in numbers) rs)
  roots-there [] all = tt
  roots-there (r ∷ rs) all = ((number-same r.root all.0).there, roots-there rs all.1)

  -- an instance holds what was read of it
  pub contents-held : (j : ℕ) (here : table_instance.Instance) (contents : Contents) → IsInstance flat j → slice_get flat.instances j ≡ Some (instance_of here)
      → HasContents numbers here contents → AreContents flat contents j
  contents-held j here contents used at has =
      let read : Some used.0 ≡ Some (instance_of here) = sym used.1 ∙ at in
      let is : used.0 ≡ instance_of here = cc in
      let all = subst (λ (x : Instance). AllByRecursion (λ (r : Replacement). r.root < length flat.nodes) x.replacements) is used.2 in
      let outer = sym has.outer in
      let parameters = sym has.parameters in
      let guards = sym has.guards in
      let roots = roots-same here.replacements.items all ∙ sym (ap (replacements_by (resolved flat)) has.roots) in
      record {
        here = used;
        made = subst (AllByRecursion (λ (r : Root). r.root < length flat.nodes)) (sym has.roots) (roots-there here.replacements.items all);
        is = ap (instance_at flat (resolved flat)) at ∙ (λ k. Replaced (outer k) (parameters k) (guards k) (roots k));
      }

  -- the definition that a form names, if it names one
  abbrev IsNamed : Option ℕ → Type 0
  IsNamed o = IfSome o (UsesDefinition flat (length flat.nodes))

  pub body-same : (o : Option ℕ) → IsNamed o → named_at flat (resolved flat) o ≡ definition_by (resolved flat) (body_in flat numbers o)
  body-same None named = refl
  body-same (Some d) named =
      ap (definition_at flat (resolved flat)) named.1
      ∙ ap (trees.Body named.0.outer) (number-same named.0.root named.2).same
      ∙ sym (ap (λ x. definition_by (resolved flat) (option_map (numbered_body numbers) x)) named.1)

  pub body-there : (o : Option ℕ) → IsNamed o → IfSome (body_in flat numbers o) (λ x. x.root < length flat.nodes)
  body-there None named = tt
  body-there (Some d) named =
      subst (λ x. IfSome (option_map (numbered_body numbers) x) (λ y. y.root < length flat.nodes)) (sym named.1) (number-same named.0.root named.2).there

  -- what has a number is there
  counted-there : (i : ℕ) → i < length numbers → i < length flat.nodes
  counted-there i l = let number = item-at numbers i l in (right i number.0 number.1).here

  pub instance-there : (j : ℕ) → UsesInstance flat (length numbers) j → IsInstance flat j
  instance-there j u = (u.0, u.1, all-weaker (λ (r : Replacement). r.root < length numbers) (λ r. r.root < length flat.nodes) (λ r. counted-there r.root) u.0.replacements u.2)

-- an instance that is used is there
pub not-gone : (flat : FlatModule) (numbers : List ℕ) (j : ℕ) → UsesInstance flat (length numbers) j → slice_get flat.instances j ≡ None → ⊥
not-gone flat numbers j u gone = let both : Some u.0 ≡ None = sym u.1 ∙ gone in cc

-- ---- what has numbers is by numbers

module _ (numbers : List ℕ) where
  number-known : (i : ℕ) → i < length numbers → IsNumber numbers (number_in numbers i)
  number-known i l = (i, slice_get-get_or numbers i i l)

  pub parts-known : (is : List ℕ) → AllByRecursion (λ i. i < length numbers) is → AllByRecursion (IsNumber numbers) (map (number_in numbers) is)
  parts-known [] all = tt
  parts-known (i ∷ is) all = (number-known i all.0, parts-known is all.1)

  roots-known : (rs : List table_replacement.Replacement) → AllByRecursion (λ r. r.root < length numbers) (map replacement_of rs) → AllByRecursion (λ r. IsNumber numbers r.root) (map (root_in numbers) rs)
  roots-known [] all = tt
  roots-known (r ∷ rs) all = (number-known r.root all.0, roots-known rs all.1)

  pub body-known : (flat : FlatModule) (o : Option ℕ) → IfSome o (UsesDefinition flat (length numbers)) → IfSome (body_in flat numbers o) (λ x. IsNumber numbers x.root)
  body-known flat None named = tt
  body-known flat (Some d) named = subst (λ x. IfSome (option_map (numbered_body numbers) x) (λ y. IsNumber numbers y.root)) (sym named.1) (number-known named.0.root named.2)

  -- what was read of an instance is by numbers
  pub contents-known : (flat : FlatModule) (j : ℕ) (here : table_instance.Instance) (contents : Contents) → UsesInstance flat (length numbers) j → slice_get flat.instances j ≡ Some (instance_of here)
      → HasContents numbers here contents → HasNumbers numbers contents
  contents-known flat j here contents used at has =
      let read : Some used.0 ≡ Some (instance_of here) = sym used.1 ∙ at in
      let is : used.0 ≡ instance_of here = cc in
      let all = subst (λ (x : Instance). AllByRecursion (λ (r : Replacement). r.root < length numbers) x.replacements) is used.2 in
      subst (AllByRecursion (λ (r : Root). IsNumber numbers r.root)) (sym has.roots) (roots-known here.replacements.items all)

-- ---- paths

module _ (flat : FlatModule) where
  -- an instance in the middle of a path in place of another one
  middle-same : (before : List ℕ) (j other : ℕ) (behind : List ℕ) → instance_at flat (resolved flat) (slice_get flat.instances j) ≡ instance_at flat (resolved flat) (slice_get flat.instances other)
      → path_at flat (resolved flat) (before ++ j ∷ behind) ≡ path_at flat (resolved flat) ((before ++ other ∷ []) ++ behind)
  middle-same [] j other behind same = λ k. Through (same k) (path_at flat (resolved flat) behind)
  middle-same (i ∷ before) j other behind same = ap (Through (instance_at flat (resolved flat) (slice_get flat.instances i))) (middle-same before j other behind same)

  -- the same of one more instance
  pub path-further : (path before : List ℕ) (j other : ℕ) (behind : List ℕ) → IsSamePath flat path (before ++ j ∷ behind) → IsSameInstance flat j other → IsSamePath flat path ((before ++ other ∷ []) ++ behind)
  path-further path before j other behind so far =
      record {
        there = all-both (IsInstance flat) (before ++ other ∷ []) behind
            (all-both (IsInstance flat) before (other ∷ []) (all-left (IsInstance flat) before (j ∷ behind) so.there) (far.there, tt))
            (all-right (IsInstance flat) before (j ∷ behind) so.there).1;
        same = so.same ∙ middle-same before j other behind far.same;
      }
