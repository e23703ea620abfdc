-- What was numbered stays so where a flat module has more.
use Rattle.std.proofs.Common.{◌≡◌, ℕ, ◌<◌, Bool, List, [], ◌∷◌, Option, Some, None, refl, sym, ap, ◌∙◌, length}
use Rattle.std.specs.Prelude.{IfSome, slice_get}
use Rattle.std.specs.List.{AllByRecursion}
use Rattle.std.proofs.lemmas.Option.{slice_get_within}
use Rattle.kind_text.specs.FlatModule.{Extends, FlatModule, IsOrdered, Replacement}
use Rattle.resolved_trees.specs.Resolved as trees
use Rattle.resolved_trees.specs.Resolved.{Cons, Replace, Replaced, Through, instance_at, parts_at, path_at, replacements_at, resolved}
use Rattle.resolved_trees.proofs.Kept.{tree-kept}
use Rattle.list_laws.proofs.Lists.{all-weaker, item-at}
use Rattle.tree_numbers.specs.declared.instances.Instances.{Instances}
use Rattle.tree_numbers.specs.declared.keys.Body.{Body}
use Rattle.tree_numbers.specs.declared.keys.Head.{Head}
use Rattle.tree_numbers.specs.declared.keys.Root.{Root}
use Rattle.tree_numbers.specs.declared.numbers.TreeNumbers.{TreeNumbers}
use Rattle.tree_numbers.specs.Keys.{definition_by, pieces_of, replacements_by}
use Rattle.tree_numbers.specs.declared.keys.Contents.{Contents}
use Rattle.tree_numbers.specs.declared.keys.Key.{Key}
use Rattle.tree_numbers.specs.Numbered.{AreApart, AreContents, AreInstances, AreKeys, AreKnown, Holds, IsFirst, IsInstance, IsKey, IsMadeOf, IsNumbered, IsSameInstance, IsSameNode, instance_tree}
use Rattle.tree_numbers.proofs.Entries.{all-at}

-- what is told apart stays so where it is seen as before
apart-stays : {A : Type 0} (seen later : ℕ → A) (P : ℕ → Type 0) → ((n : ℕ) → P n → seen n ≡ later n) → AreApart seen P → AreApart later P
apart-stays seen later P stays apart n m one other same = apart n m one other (stays n one ∙ same ∙ sym (stays m other))

module _ (flat more : FlatModule) (extends : Extends flat more) (ordered : IsOrdered flat) where
  tree-stays : (i : ℕ) → i < length flat.nodes → resolved flat i ≡ resolved more i
  tree-stays i here = tree-kept flat more extends ordered i here

  node-there : (i : ℕ) → i < length flat.nodes → i < length more.nodes
  node-there i here = let read = item-at flat.nodes i here in slice_get_within more.nodes i read.0 (extends.nodes i read.0 read.1)

  parts-stay : (is : List ℕ) → AllByRecursion (λ i. i < length flat.nodes) is → parts_at flat (resolved flat) is ≡ parts_at more (resolved more) is
  parts-stay [] all = refl
  parts-stay (i ∷ is) all = let first = tree-stays i all.0 in let rest = parts-stay is all.1 in λ k. Cons (first k) (rest k)

  replacements-stay : (rs : List Replacement) → AllByRecursion (λ r. r.root < length flat.nodes) rs → replacements_at flat (resolved flat) rs ≡ replacements_at more (resolved more) rs
  replacements-stay [] all = refl
  replacements-stay (r ∷ rs) all = let first = tree-stays r.root all.0 in let rest = replacements-stay rs all.1 in λ k. Replace (first k) r.most (rest k)

  roots-stay : (rs : List Root) → AllByRecursion (λ r. r.root < length flat.nodes) rs → replacements_by (resolved flat) rs ≡ replacements_by (resolved more) rs
  roots-stay [] all = refl
  roots-stay (r ∷ rs) all = let first = tree-stays r.root all.0 in let rest = roots-stay rs all.1 in λ k. Replace (first k) r.most (rest k)

  instance-there : (j : ℕ) → IsInstance flat j → IsInstance more j
  instance-there j u = (u.0, extends.instances j u.0 u.1, all-weaker (λ (r : Replacement). r.root < length flat.nodes) (λ r. r.root < length more.nodes) (λ r. node-there r.root) u.0.replacements u.2)

  instance-stays : (j : ℕ) → IsInstance flat j → instance_at flat (resolved flat) (slice_get flat.instances j) ≡ instance_at more (resolved more) (slice_get more.instances j)
  instance-stays j u =
      ap (instance_at flat (resolved flat)) u.1
      ∙ ap (Replaced u.0.outer u.0.parameters u.0.guards) (replacements-stay u.0.replacements u.2)
      ∙ sym (ap (instance_at more (resolved more)) (extends.instances j u.0 u.1))

  path-stays : (path : List ℕ) → AllByRecursion (IsInstance flat) path → path_at flat (resolved flat) path ≡ path_at more (resolved more) path
  path-stays [] all = refl
  path-stays (j ∷ path) all = let first = instance-stays j all.0 in let rest = path-stays path all.1 in λ k. Through (first k) (rest k)

  body-stays : (o : Option Body) → IfSome o (λ x. x.root < length flat.nodes) → definition_by (resolved flat) o ≡ definition_by (resolved more) o
  body-stays None here = refl
  body-stays (Some x) here = ap (trees.Body x.outer) (tree-stays x.root here)

  body-there : (o : Option Body) → IfSome o (λ x. x.root < length flat.nodes) → IfSome o (λ x. x.root < length more.nodes)
  body-there None here = tt
  body-there (Some x) here = node-there x.root here

  node-stays : (i n : ℕ) → IsSameNode flat i n → IsSameNode more i n
  node-stays i n h = record { here = node-there i h.here; there = node-there n h.there; same = sym (tree-stays i h.here) ∙ h.same ∙ tree-stays n h.there }

  same-stays : (j n : ℕ) → IsSameInstance flat j n → IsSameInstance more j n
  same-stays j n h = record { here = instance-there j h.here; there = instance-there n h.there; same = sym (instance-stays j h.here) ∙ h.same ∙ instance-stays n h.there }

  made-stays : (head : Head) (path : List ℕ) (body : Option Body) (places : Option ℕ) (parts : List ℕ) (i : ℕ) → IsMadeOf flat head path body places parts i → IsMadeOf more head path body places parts i
  made-stays head path body places parts i h =
      let along = path-stays path h.along in
      let definition = body-stays body h.root in
      let of_parts = parts-stay parts h.made in
      record {
        here = node-there i h.here;
        along = all-weaker (IsInstance flat) (IsInstance more) instance-there path h.along;
        root = body-there body h.root;
        made = all-weaker (λ part. part < length flat.nodes) (λ part. part < length more.nodes) node-there parts h.made;
        pieces = ap pieces_of (sym (tree-stays i h.here)) ∙ h.pieces ∙ (λ k. Some (head, along k, definition k, places, of_parts k));
      }

  holds-stays : (outer parameters : ℕ) (guards : Bool) (roots : List Root) (j : ℕ) → Holds flat outer parameters guards roots j → Holds more outer parameters guards roots j
  holds-stays outer parameters guards roots j h =
      record {
        here = instance-there j h.here;
        made = all-weaker (λ (r : Root). r.root < length flat.nodes) (λ r. r.root < length more.nodes) (λ r. node-there r.root) roots h.made;
        is = sym (instance-stays j h.here) ∙ h.is ∙ ap (Replaced outer parameters guards) (roots-stay roots h.made);
      }

  known-stays : (numbers : List ℕ) (known : List (Contents × ℕ)) → AreKnown flat numbers known → AreKnown more numbers known
  known-stays numbers known h =
      record {
        each = all-weaker (λ e. AreContents flat e.0 e.1) (λ e. AreContents more e.0 e.1) (λ e. holds-stays e.0.outer e.0.parameters e.0.guards e.0.roots.items e.1) known h.each;
        numbered = h.numbered;
        apart = apart-stays (instance_tree flat) (instance_tree more) (IsFirst known)
            (λ n first. instance-stays n (all-at (λ e. AreContents flat e.0 e.1) known first.0 (first.1, n) h.each first.2).here) h.apart;
      }

  keys-stay : (numbers : List ℕ) (known : List (Contents × ℕ)) (keys : List (Key × ℕ)) → AreKeys flat numbers known keys → AreKeys more numbers known keys
  keys-stay numbers known keys h =
      record {
        each = all-weaker (λ e. IsKey flat e.0 e.1) (λ e. IsKey more e.0 e.1) (λ e. made-stays e.0.head e.0.path.items e.0.body e.0.places e.0.parts.items e.1) keys h.each;
        numbered = h.numbered;
        apart = apart-stays (resolved flat) (resolved more) (IsFirst keys)
            (λ n first. tree-stays n (all-at (λ e. IsKey flat e.0 e.1) keys first.0 (first.1, n) h.each first.2).here) h.apart;
      }

  instances-stay : (numbers : List ℕ) (instances : Instances) → AreInstances flat numbers instances → AreInstances more numbers instances
  instances-stay numbers instances h =
      record {
        firsts = all-weaker (λ e. IsSameInstance flat e.0 e.1) (λ e. IsSameInstance more e.0 e.1) (λ e. same-stays e.0 e.1) instances.firsts.entries h.firsts;
        met = h.met;
        known = known-stays numbers instances.known.entries h.known;
      }

  pub numbers-stay : (numbers : TreeNumbers) → IsNumbered flat numbers → IsNumbered more numbers
  numbers-stay numbers h =
      record {
        nodes = λ i n at. node-stays i n (h.nodes i n at);
        firsts = h.firsts;
        keys = keys-stay numbers.nodes.items numbers.instances.known.entries numbers.keys.entries h.keys;
        instances = instances-stay numbers.nodes.items numbers.instances h.instances;
      }
