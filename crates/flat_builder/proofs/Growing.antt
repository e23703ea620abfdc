-- What is added to a flat module changes nothing of what is there.
use Rattle.std.proofs.Common.{◌≡◌, ℕ, zero, suc, ◌<◌, ◌≤◌, List, [], ◌∷◌, ◌++◌, Some, refl, sym, ap, ◌∙◌, subst, map, length, arith, ◌⊎◌, inl, inr}
use Rattle.std.specs.Prelude.{Vec, slice_get}
use Rattle.std.specs.Global.{Global}
use Rattle.std.specs.List.{AllByRecursion}
use Rattle.std.proofs.lemmas.List.{length-map, length_push, map-append}
use Rattle.list_laws.proofs.Lists.{all-both, pushed-cases}
use Rattle.kind_table.proofs.Unfolding.{slice_get-more}
use Rattle.kind_text.specs.FlatModule as text
use Rattle.kind_text.specs.FlatModule.{Definition, Extends, FlatModule, Instance, IsMadeOfEarlier, IsOrdered, Keeps, Node, UsesDefinition, UsesEarlier, UsesInstance}
use Rattle.kind_table.specs.declared.flat.Form.{Form}
use Rattle.kind_table.specs.declared.flat.Form.TheVariants as variant
use Rattle.kind_table.specs.declared.flat.Node as node
use Rattle.kind_table.specs.declared.flat.Definition as definition
use Rattle.kind_table.specs.declared.flat.Instance as instance
use Rattle.kind_table.specs.declared.flat.FlatModule as table
use Rattle.kind_table.specs.Flattened.{definition_of, flat_of, form_of, instance_of, node_of, path_at, path_of}
use Rattle.flat_builder.specs.Building.{empty, HasNoPath, IsBuilt, NamesPath, with_definition, with_instance, with_node}

-- ---- lists

keeps-itself : {A : Type 0} (xs : List A) → Keeps xs xs
keeps-itself xs i x e = e

keeps-append : {A : Type 0} (xs ys : List A) → Keeps xs (xs ++ ys)
keeps-append [] ys i x e = cc
keeps-append (y ∷ xs) ys zero x e = e
keeps-append (y ∷ xs) ys (suc i) x e = keeps-append xs ys i x e

-- ---- more

pub extends-node : (flat : FlatModule) (node : Node) → Extends flat (with_node flat node)
extends-node flat node = record { nodes = keeps-append flat.nodes (node ∷ []); definitions = keeps-itself flat.definitions; instances = keeps-itself flat.instances }

pub extends-definition : (flat : FlatModule) (x : Definition) → Extends flat (with_definition flat x)
extends-definition flat x = record { nodes = keeps-itself flat.nodes; definitions = keeps-append flat.definitions (x ∷ []); instances = keeps-itself flat.instances }

pub extends-instance : (flat : FlatModule) (x : Instance) → Extends flat (with_instance flat x)
extends-instance flat x = record { nodes = keeps-itself flat.nodes; definitions = keeps-itself flat.definitions; instances = keeps-append flat.instances (x ∷ []) }

module _ (flat more : FlatModule) (extends : Extends flat more) (i : ℕ) where
  definition-more : (d : ℕ) → UsesDefinition flat i d → UsesDefinition more i d
  definition-more d u = (u.0, extends.definitions d u.0 u.1, u.2)

  path-more : (path : List ℕ) → AllByRecursion (UsesInstance flat i) path → AllByRecursion (UsesInstance more i) path
  path-more [] all = tt
  path-more (j ∷ path) all = ((all.0.0, extends.instances j all.0.0 all.0.1, all.0.2), path-more path all.1)

  uses-more : (form : text.Form) → UsesEarlier flat i form → UsesEarlier more i form
  uses-more (text.Form.Leaf kind) u = tt
  uses-more (text.Form.Parameter place) u = tt
  uses-more (text.Form.Call place) u = tt
  uses-more (text.Form.Operation rule) u = tt
  uses-more text.Form.Bounded u = tt
  uses-more text.Form.Old u = tt
  uses-more text.Form.Let u = tt
  uses-more (text.Form.Use path d) u = (path-more path u.0, definition-more d u.1)
  uses-more (text.Form.Name path d) u = (path-more path u.0, definition-more d u.1)
  uses-more (text.Form.Symbol rule) u = tt
  uses-more (text.Form.Lambda d) u = definition-more d u

  pub made-more : (node : Node) → IsMadeOfEarlier flat i node → IsMadeOfEarlier more i node
  made-more node made = record { parts = made.parts; uses = uses-more node.form made.uses }

pub ordered-node : (flat : FlatModule) (node : Node) → IsOrdered flat → IsMadeOfEarlier flat (length flat.nodes) node → IsOrdered (with_node flat node)
ordered-node flat node ordered made i n e = by_place (pushed-cases flat.nodes node n i e)
  where
    more : (j : ℕ) (other : Node) → IsMadeOfEarlier flat j other → IsMadeOfEarlier (with_node flat node) j other
    more j other = made-more flat (with_node flat node) (extends-node flat node) j other

    by_place : (slice_get flat.nodes i ≡ Some n) ⊎ ((i ≡ length flat.nodes) × (node ≡ n)) → IsMadeOfEarlier (with_node flat node) i n
    by_place (inl there) = more i n (ordered i n there)
    by_place (inr (at, same)) = subst (λ j. IsMadeOfEarlier (with_node flat node) j n) (sym at) (more (length flat.nodes) n (subst (IsMadeOfEarlier flat (length flat.nodes)) same made))

pub ordered-more : (flat more : FlatModule) → Extends flat more → more.nodes ≡ flat.nodes → IsOrdered flat → IsOrdered more
ordered-more flat more extends same ordered i n e = made-more flat more extends i n (ordered i n (subst (λ nodes. slice_get nodes i ≡ Some n) same e))

-- ---- tables

module _ (t : table.FlatModule) where
  pub nodes-length : length (flat_of t).nodes ≡ length t.nodes.items
  unfolding flat_of
  nodes-length = length-map t.nodes.items (node_of t.paths.items)

  pub definitions-length : length (flat_of t).definitions ≡ length t.definitions.items
  unfolding flat_of
  definitions-length = length-map t.definitions.items definition_of

  pub instances-length : length (flat_of t).instances ≡ length t.instances.items
  unfolding flat_of
  instances-length = length-map t.instances.items instance_of

  -- ---- what is defined, after more

  pub flat-nodes : (v : Vec node.Node Global) (x : node.Node) → v.items ≡ t.nodes.items ++ x ∷ [] → flat_of (record t { nodes = v }) ≡ with_node (flat_of t) (node_of t.paths.items x)
  unfolding flat_of
  flat-nodes v x e =
      ap (λ nodes. record { nodes = nodes; definitions = map definition_of t.definitions.items; instances = map instance_of t.instances.items })
      (ap (map (node_of t.paths.items)) e ∙ map-append (node_of t.paths.items) t.nodes.items (x ∷ []))

  pub flat-definitions : (v : Vec definition.Definition Global) (x : definition.Definition) → v.items ≡ t.definitions.items ++ x ∷ [] → flat_of (record t { definitions = v }) ≡ with_definition (flat_of t) (definition_of x)
  unfolding flat_of
  flat-definitions v x e =
      ap (λ definitions. record { nodes = map (node_of t.paths.items) t.nodes.items; definitions = definitions; instances = map instance_of t.instances.items })
      (ap (map definition_of) e ∙ map-append definition_of t.definitions.items (x ∷ []))

  pub flat-instances : (v : Vec instance.Instance Global) (x : instance.Instance) → v.items ≡ t.instances.items ++ x ∷ [] → flat_of (record t { instances = v }) ≡ with_instance (flat_of t) (instance_of x)
  unfolding flat_of
  flat-instances v x e =
      ap (λ instances. record { nodes = map (node_of t.paths.items) t.nodes.items; definitions = map definition_of t.definitions.items; instances = instances })
      (ap (map instance_of) e ∙ map-append instance_of t.instances.items (x ∷ []))

  -- ---- paths

  -- a form whose path is there names the same one among more
  form-same : (paths : List (Vec ℕ Global)) (form : Form) → NamesPath (length t.paths.items) form → ((i : ℕ) → i < length t.paths.items → path_at paths i ≡ path_at t.paths.items i) → form_of paths form ≡ form_of t.paths.items form
  form-same paths (variant.Leaf kind) there same = refl
  form-same paths (variant.Parameter place) there same = refl
  form-same paths (variant.Call place) there same = refl
  form-same paths (variant.Operation rule) there same = refl
  form-same paths variant.Bounded there same = refl
  form-same paths variant.Old there same = refl
  form-same paths variant.Let there same = refl
  form-same paths (variant.Use path d) there same = ap (λ p. text.Form.Use p d) (same path there)
  form-same paths (variant.Name path d) there same = ap (λ p. text.Form.Name p d) (same path there)
  form-same paths (variant.Symbol rule) there same = refl
  form-same paths (variant.Lambda d) there same = refl

  nodes-same : (paths : List (Vec ℕ Global)) → ((i : ℕ) → i < length t.paths.items → path_at paths i ≡ path_at t.paths.items i) → (nodes : List node.Node) → AllByRecursion (λ x. NamesPath (length t.paths.items) x.form) nodes → map (node_of paths) nodes ≡ map (node_of t.paths.items) nodes
  nodes-same paths same [] all = refl
  nodes-same paths same (x ∷ nodes) all =
      ap (λ form. record { form = form; places = x.places; parts = x.parts.items } ∷ map (node_of paths) nodes) (form-same paths x.form all.0 same)
      ∙ ap (λ rest. node_of t.paths.items x ∷ rest) (nodes-same paths same nodes all.1)

  -- a further path changes nothing of what is defined
  pub flat-paths : (v : Vec (Vec ℕ Global) Global) (path : Vec ℕ Global) → v.items ≡ t.paths.items ++ path ∷ [] → AllByRecursion (λ x. NamesPath (length t.paths.items) x.form) t.nodes.items → flat_of (record t { paths = v }) ≡ flat_of t
  unfolding flat_of
  flat-paths v path e all =
      ap (λ nodes. record { nodes = nodes; definitions = map definition_of t.definitions.items; instances = map instance_of t.instances.items })
      (nodes-same v.items (λ i there. ap (λ paths. path_at paths i) e ∙ ap path_of (slice_get-more t.paths.items (path ∷ []) i there)) t.nodes.items all)

  -- ---- in order

  pub built-nodes : (v : Vec node.Node Global) (x : node.Node) → v.items ≡ t.nodes.items ++ x ∷ [] → IsBuilt t → NamesPath (length t.paths.items) x.form → IsMadeOfEarlier (flat_of t) (length t.nodes.items) (node_of t.paths.items x) → IsBuilt (record t { nodes = v })
  built-nodes v x e built path made =
      record {
        ordered =
            subst IsOrdered (sym (flat-nodes v x e))
            (ordered-node (flat_of t) (node_of t.paths.items x) built.ordered (subst (λ i. IsMadeOfEarlier (flat_of t) i (node_of t.paths.items x)) (sym nodes-length) made));
        paths = subst (AllByRecursion (λ z. NamesPath (length t.paths.items) z.form)) (sym e) (all-both (λ z. NamesPath (length t.paths.items) z.form) t.nodes.items (x ∷ []) built.paths (path, tt));
      }

  pub built-definitions : (v : Vec definition.Definition Global) (x : definition.Definition) → v.items ≡ t.definitions.items ++ x ∷ [] → IsBuilt t → IsBuilt (record t { definitions = v })
  built-definitions v x e built =
      record {
        ordered = subst IsOrdered (sym (flat-definitions v x e)) (ordered-more (flat_of t) (with_definition (flat_of t) (definition_of x)) (extends-definition (flat_of t) (definition_of x)) refl built.ordered);
        paths = built.paths;
      }

  pub built-instances : (v : Vec instance.Instance Global) (x : instance.Instance) → v.items ≡ t.instances.items ++ x ∷ [] → IsBuilt t → IsBuilt (record t { instances = v })
  built-instances v x e built =
      record {
        ordered = subst IsOrdered (sym (flat-instances v x e)) (ordered-more (flat_of t) (with_instance (flat_of t) (instance_of x)) (extends-instance (flat_of t) (instance_of x)) refl built.ordered);
        paths = built.paths;
      }

  path-there : (n m : ℕ) → n ≤ m → (form : Form) → NamesPath n form → NamesPath m form
  path-there n m more (variant.Leaf kind) there = tt
  path-there n m more (variant.Parameter place) there = tt
  path-there n m more (variant.Call place) there = tt
  path-there n m more (variant.Operation rule) there = tt
  path-there n m more variant.Bounded there = tt
  path-there n m more variant.Old there = tt
  path-there n m more variant.Let there = tt
  path-there n m more (variant.Use path d) there = omega (arith, more, there)
  path-there n m more (variant.Name path d) there = omega (arith, more, there)
  path-there n m more (variant.Symbol rule) there = tt
  path-there n m more (variant.Lambda d) there = tt

  paths-there : (n m : ℕ) → n ≤ m → (nodes : List node.Node) → AllByRecursion (λ z. NamesPath n z.form) nodes → AllByRecursion (λ z. NamesPath m z.form) nodes
  paths-there n m more [] all = tt
  paths-there n m more (x ∷ nodes) all = (path-there n m more x.form all.0, paths-there n m more nodes all.1)

  pub built-paths : (v : Vec (Vec ℕ Global) Global) (path : Vec ℕ Global) → v.items ≡ t.paths.items ++ path ∷ [] → IsBuilt t → IsBuilt (record t { paths = v })
  built-paths v path e built =
      let longer : length t.paths.items ≤ length v.items = let l = ap length e ∙ length_push t.paths.items path in omega (arith, l) in
      record {
        ordered = subst IsOrdered (sym (flat-paths v path e built.paths)) built.ordered;
        paths = paths-there (length t.paths.items) (length v.items) longer t.nodes.items built.paths;
      }

  -- what was not added leaves all as it was
  pub same-nodes : (v : Vec node.Node Global) → v.items ≡ t.nodes.items → (IsBuilt t → IsBuilt (record t { nodes = v })) × (flat_of (record t { nodes = v }) ≡ flat_of t)
  unfolding flat_of
  same-nodes v e = (
    λ built.
        record {
          ordered = subst IsOrdered (sym (ap (λ xs. record { nodes = map (node_of t.paths.items) xs; definitions = map definition_of t.definitions.items; instances = map instance_of t.instances.items }) e)) built.ordered;
          paths = subst (AllByRecursion (λ z. NamesPath (length t.paths.items) z.form)) (sym e) built.paths;
        },
    ap (λ xs. record { nodes = map (node_of t.paths.items) xs; definitions = map definition_of t.definitions.items; instances = map instance_of t.instances.items }) e,
  )

  pub same-definitions : (v : Vec definition.Definition Global) → v.items ≡ t.definitions.items → (IsBuilt t → IsBuilt (record t { definitions = v })) × (flat_of (record t { definitions = v }) ≡ flat_of t)
  unfolding flat_of
  same-definitions v e =
      let same : flat_of (record t { definitions = v }) ≡ flat_of t = ap (λ xs. record { nodes = map (node_of t.paths.items) t.nodes.items; definitions = map definition_of xs; instances = map instance_of t.instances.items }) e in
      (λ built. record { ordered = subst IsOrdered (sym same) built.ordered; paths = built.paths }, same)

  pub same-instances : (v : Vec instance.Instance Global) → v.items ≡ t.instances.items → (IsBuilt t → IsBuilt (record t { instances = v })) × (flat_of (record t { instances = v }) ≡ flat_of t)
  unfolding flat_of
  same-instances v e =
      let same : flat_of (record t { instances = v }) ≡ flat_of t = ap (λ xs. record { nodes = map (node_of t.paths.items) t.nodes.items; definitions = map definition_of t.definitions.items; instances = map instance_of xs }) e in
      (λ built. record { ordered = subst IsOrdered (sym same) built.ordered; paths = built.paths }, same)

  pub same-paths : (v : Vec (Vec ℕ Global) Global) → v.items ≡ t.paths.items → (IsBuilt t → IsBuilt (record t { paths = v })) × (flat_of (record t { paths = v }) ≡ flat_of t)
  unfolding flat_of
  same-paths v e =
      let same : flat_of (record t { paths = v }) ≡ flat_of t = ap (λ paths. record { nodes = map (node_of paths) t.nodes.items; definitions = map definition_of t.definitions.items; instances = map instance_of t.instances.items }) e in (
        λ built.
            record {
              ordered = subst IsOrdered (sym same) built.ordered;
              paths = subst (λ paths. AllByRecursion (λ z. NamesPath (length paths) z.form) t.nodes.items) (sym e) built.paths;
            },
        same,
      )

  -- the last path is the one that was added
  pub last-path : (v : Vec (Vec ℕ Global) Global) (path : Vec ℕ Global) → v.items ≡ t.paths.items ++ path ∷ [] → path_at v.items (length t.paths.items) ≡ path.items
  last-path v path e = ap (λ paths. path_at paths (length t.paths.items)) e ∙ ap path_of (last-of t.paths.items)
    where
      last-of : (xs : List (Vec ℕ Global)) → slice_get (xs ++ path ∷ []) (length xs) ≡ Some path
      last-of [] = refl
      last-of (x ∷ xs) = last-of xs

-- a form without a path is the same over each list of paths
pub without-path : (paths : List (Vec ℕ Global)) (form : Form) → HasNoPath form → form_of [] form ≡ form_of paths form
without-path paths (variant.Leaf kind) none = refl
without-path paths (variant.Parameter place) none = refl
without-path paths (variant.Call place) none = refl
without-path paths (variant.Operation rule) none = refl
without-path paths variant.Bounded none = refl
without-path paths variant.Old none = refl
without-path paths variant.Let none = refl
without-path paths (variant.Use path d) none = absurd none
without-path paths (variant.Name path d) none = absurd none
without-path paths (variant.Symbol rule) none = refl
without-path paths (variant.Lambda d) none = refl

-- and it names none
pub no-path : (count : ℕ) (form : Form) → HasNoPath form → NamesPath count form
no-path count (variant.Leaf kind) none = tt
no-path count (variant.Parameter place) none = tt
no-path count (variant.Call place) none = tt
no-path count (variant.Operation rule) none = tt
no-path count variant.Bounded none = tt
no-path count variant.Old none = tt
no-path count variant.Let none = tt
no-path count (variant.Use path d) none = absurd none
no-path count (variant.Name path d) none = absurd none
no-path count (variant.Symbol rule) none = tt
no-path count (variant.Lambda d) none = tt

module _ (t : table.FlatModule) where
  -- what is made of earlier nodes of the view is so of the tables
  pub made-at : (flat : FlatModule) (x : Node) → flat ≡ flat_of t → IsMadeOfEarlier flat (length flat.nodes) x → IsMadeOfEarlier (flat_of t) (length t.nodes.items) x
  made-at flat x is made =
      subst (λ i. IsMadeOfEarlier (flat_of t) i x) (nodes-length t) (subst (λ (seen : FlatModule). IsMadeOfEarlier seen (length seen.nodes) x) is made)

  pub flat-empty : t.nodes.items ≡ [] → t.definitions.items ≡ [] → t.instances.items ≡ [] → flat_of t ≡ empty
  unfolding flat_of
  flat-empty nodes definitions instances =
      ap (λ xs. record { nodes = map (node_of t.paths.items) xs; definitions = map definition_of t.definitions.items; instances = map instance_of t.instances.items }) nodes
      ∙ ap (λ xs. record { nodes = []; definitions = map definition_of xs; instances = map instance_of t.instances.items }) definitions
      ∙ ap (λ xs. record { nodes = []; definitions = []; instances = map instance_of xs }) instances

  pub built-empty : t.nodes.items ≡ [] → t.definitions.items ≡ [] → t.instances.items ≡ [] → IsBuilt t
  built-empty nodes definitions instances =
      record {
        ordered = subst IsOrdered (sym (flat-empty nodes definitions instances)) (λ i n e. absurd-read i n e);
        paths = subst (AllByRecursion (λ z. NamesPath (length t.paths.items) z.form)) (sym nodes) tt;
      }
    where
      absurd-read : (i : ℕ) (n : Node) → slice_get empty.nodes i ≡ Some n → IsMadeOfEarlier empty i n
      absurd-read i n e = cc
