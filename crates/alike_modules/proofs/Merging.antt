-- Names that lead to the same resolved trees stand for the same.
use mathlib.Core.Path.{fun_ext}
use Rattle.std.proofs.Common.{◌≡◌, ◌≤◌, ℕ, suc, List, [], ◌∷◌, ◌++◌, Option, Some, None, refl, sym, ap, subst, ◌∙◌, arith, length, map, take, drop, cond}
use Rattle.std.specs.Prelude.{max, slice_get}
use Rattle.tla_model.specs.Tables.{Named, Word}
use Rattle.tla_model.specs.Entities.{Meaning}
use Rattle.module_model.specs.Exports.{Behind, onward}
use Rattle.kind_text.specs.Expansion.{Guard, Reached, guard, guards_of, items, text}
use Rattle.kind_text.specs.FlatModule.{Definition as FlatDefinition, FlatModule, Instance as FlatInstance}
use Rattle.kind_text.specs.Substitution.{Item}
use Rattle.level_text.specs.Depth as flat_depth
use Rattle.level_text.specs.Depth.{depth}
use Rattle.tree_kinds.specs.Standing as standing
use Rattle.tree_kinds.specs.Standing.{Value}
use Rattle.flat_trees.specs.Stands.{Brought, Defined, IsStanding, Leaf, Place, Stand, Through, Unsaid, passed}
use Rattle.flat_depths.specs.Depths.{HasDepths}
use Rattle.flattened_trees.specs.Agreeing.{TakesBehind, lead_by}
use Rattle.flattened_trees.specs.Leads as flat_leads
use Rattle.flattened_depths.specs.Rounds.{TakesParameters}
use Rattle.resolved_trees.specs.Resolved as resolved
use Rattle.resolved_trees.specs.Resolved.{Resolved, Body, Undefined, Absent, Replaced, Replacements, definition_at, depth_in, instance_at, item_of, path_at, replaced_items, guards_in, replacements_at}
use Rattle.resolved_trees.proofs.Deep as deep
use Rattle.resolved_trees.proofs.Known.{resolved-known}
use Rattle.resolved_trees.proofs.Telling as telling
use Rattle.written_trees.specs.Leading as leading
use Rattle.written_trees.specs.Leading.{lead_in}

-- trees tell what nodes expand to
abbrev pub Tells : FlatModule → Type 0
Tells flat = (i : ℕ) (s : List Item) → text flat i s ≡ item_of (resolved.resolved flat i) s

-- and how deep they are
abbrev pub TellsDepths : FlatModule → Type 0
TellsDepths flat = (i : ℕ) → depth flat i ≡ depth_in (resolved.resolved flat i)

-- what is made of two stands with the same leads: the numbers of the first, and the orders of the second
pub merge : Stand → Stand → Stand
merge (Defined d orders) (Defined e others) = Defined d others
merge (Through j orders inner) (Through k others rest) = Through j others (λ name. merge (inner name) (rest name))
merge (Brought j inner) (Brought k rest) = Brought j (merge inner rest)
merge stand other = other

-- of which kind a stand is
abbrev shape : Stand → ℕ
shape Unsaid = 0
shape (Leaf kind) = 1
shape (Place place order) = 2
shape (Defined d orders) = 3
shape (Through j orders inner) = 4
shape (Brought j inner) = 5

-- the same by where names lead
abbrev shape_behind : resolved.Path → ℕ
shape_behind resolved.End = 0
shape_behind (resolved.Through instance rest) = 4

abbrev shape_at : leading.End → resolved.Path → ℕ
shape_at leading.Nowhere path = shape_behind path
shape_at (leading.Leaf kind) path = 1
shape_at (leading.Place place order) path = 2
shape_at (leading.Defined definition) path = 3

abbrev shape_by : resolved.Path → leading.End → resolved.Path → ℕ
shape_by resolved.End end path = shape_at end path
shape_by (resolved.Through instance rest) end path = 5

module _ (flat : FlatModule) where
  -- they lead to the same
  abbrev pub LeadAlike : Stand → Stand → Type 0
  LeadAlike stand other = (names : List Named) → lead_in flat (lead_by stand names) ≡ lead_in flat (lead_by other names)

  abbrev lead_shape : Stand → ℕ
  lead_shape stand = shape_by (lead_in flat (lead_by stand [])).path (lead_in flat (lead_by stand [])).end (lead_in flat (lead_by stand (Word [] ∷ []))).path

  shape-told : (stand : Stand) → shape stand ≡ lead_shape stand
  shape-told Unsaid = refl
  shape-told (Leaf kind) = refl
  shape-told (Place place order) = refl
  shape-told (Defined d orders) = refl
  shape-told (Through j orders inner) = refl
  shape-told (Brought j inner) = refl

  shape-same : (stand other : Stand) → LeadAlike stand other → shape stand ≡ shape other
  shape-same stand other alike =
      shape-told stand
      ∙ ((λ i. shape_by (alike [] i).path (alike [] i).end (alike (Word [] ∷ []) i).path)
      ∙ sym (shape-told other))

  -- ---- one step

  abbrev definition_tree : ℕ → resolved.Definition
  definition_tree d = definition_at flat (resolved.resolved flat) (slice_get flat.definitions d)

  abbrev instance_tree : ℕ → resolved.Instance
  instance_tree j = instance_at flat (resolved.resolved flat) (slice_get flat.instances j)

  end-same : (a b : resolved.Definition) → ◌≡◌ {A = leading.End} (leading.Defined a) (leading.Defined b) → a ≡ b
  end-same a b e = cc

  instance-same : (a b : resolved.Instance) (p q : resolved.Path) → ◌≡◌ {A = resolved.Path} (resolved.Through a p) (resolved.Through b q) → a ≡ b
  instance-same a b p q e = cc

  path-same : (a b : resolved.Instance) (p q : resolved.Path) → ◌≡◌ {A = resolved.Path} (resolved.Through a p) (resolved.Through b q) → p ≡ q
  path-same a b p q e = cc

  defined-alike : (d e : ℕ) (orders others : List ℕ) → LeadAlike (Defined d orders) (Defined e others) → definition_tree d ≡ definition_tree e
  defined-alike d e orders others alike = end-same (definition_tree d) (definition_tree e) (ap (λ (l : leading.Lead). l.end) (alike []))

  -- an instance in front of leads is the same, and so are these
  through-instance : (j k : ℕ) (lead other : flat_leads.Lead) → lead_in flat (flat_leads.through j lead) ≡ lead_in flat (flat_leads.through k other) → instance_tree j ≡ instance_tree k
  through-instance j k lead other same =
      instance-same (instance_tree j) (instance_tree k) (path_at flat (resolved.resolved flat) lead.path) (path_at flat (resolved.resolved flat) other.path) (ap (λ (l : leading.Lead). l.path) same)

  through-lead : (j k : ℕ) (lead other : flat_leads.Lead) → lead_in flat (flat_leads.through j lead) ≡ lead_in flat (flat_leads.through k other) → lead_in flat lead ≡ lead_in flat other
  through-lead j k lead other same =
      let path = path-same (instance_tree j) (instance_tree k) (path_at flat (resolved.resolved flat) lead.path) (path_at flat (resolved.resolved flat) other.path) (ap (λ (l : leading.Lead). l.path) same) in
      let end = ap (λ (l : leading.Lead). l.end) same in
      λ i. record { path = path i; end = end i }

  inner-alike : (j k : ℕ) (orders others : List ℕ) (inner rest : Named → Stand) → LeadAlike (Through j orders inner) (Through k others rest) → (name : Named) → LeadAlike (inner name) (rest name)
  inner-alike j k orders others inner rest alike name names = through-lead j k (lead_by (inner name) names) (lead_by (rest name) names) (alike (name ∷ names))

  inner-instance : (j k : ℕ) (orders others : List ℕ) (inner rest : Named → Stand) → LeadAlike (Through j orders inner) (Through k others rest) → instance_tree j ≡ instance_tree k
  inner-instance j k orders others inner rest alike = through-instance j k (lead_by (inner (Word [])) []) (lead_by (rest (Word [])) []) (alike (Word [] ∷ []))

  brought-alike : (j k : ℕ) (inner rest : Stand) → LeadAlike (Brought j inner) (Brought k rest) → LeadAlike inner rest
  brought-alike j k inner rest alike names = through-lead j k (lead_by inner names) (lead_by rest names) (alike names)

  brought-instance : (j k : ℕ) (inner rest : Stand) → LeadAlike (Brought j inner) (Brought k rest) → instance_tree j ≡ instance_tree k
  brought-instance j k inner rest alike = through-instance j k (lead_by inner []) (lead_by rest []) (alike [])

  -- ---- where they lead

  kind-same : (a b : _) → ◌≡◌ {A = leading.End} (leading.Leaf a) (leading.Leaf b) → a ≡ b
  kind-same a b e = cc

  -- what is made of both leads where the first does
  pub merged-leads : (stand other : Stand) → LeadAlike stand other → (names : List Named) → lead_by stand names ≡ lead_by (merge stand other) names
  unfolding merge
  merged-leads Unsaid Unsaid alike names = refl
  merged-leads (Leaf kind) (Leaf kind') alike names = ap (λ k. lead_by (Leaf k) names) (kind-same kind kind' (ap (λ (l : leading.Lead). l.end) (alike [])))
  merged-leads (Place place order) (Place place' order') alike names =
      let same : ◌≡◌ {A = leading.End} (leading.Place place order) (leading.Place place' order') = ap (λ (l : leading.Lead). l.end) (alike []) in
      let place_same : place ≡ place' = cc in
      let order_same : order ≡ order' = cc in
      λ i. lead_by (Place (place_same i) (order_same i)) names
  merged-leads (Defined d orders) (Defined e others) alike [] = refl
  merged-leads (Defined d orders) (Defined e others) alike (name ∷ names) = refl
  merged-leads (Through j orders inner) (Through k others rest) alike [] = refl
  merged-leads (Through j orders inner) (Through k others rest) alike (name ∷ names) =
      ap (flat_leads.through j) (merged-leads (inner name) (rest name) (inner-alike j k orders others inner rest alike name) names)
  merged-leads (Brought j inner) (Brought k rest) alike names = ap (flat_leads.through j) (merged-leads inner rest (brought-alike j k inner rest alike) names)
  merged-leads stand other alike names = let never : shape stand ≡ shape other = shape-same stand other alike in absurd (omega (arith, never))

  -- ---- what they stand for

  abbrev tree_of : ℕ → Resolved
  tree_of = resolved.resolved flat

  texts-alike : (Tells flat) → (i k : ℕ) → tree_of i ≡ tree_of k → (s : List Item) → text flat i s ≡ text flat k s
  texts-alike tells i k same s = tells i s ∙ (ap (λ x. item_of x s) same ∙ sym (tells k s))

  -- a definition with the tree of one that is there
  record IsDefinitionAlike (d : ℕ) (x : FlatDefinition) : Type 0 where
    definition : FlatDefinition
    there : slice_get flat.definitions d ≡ Some definition
    outer : definition.outer ≡ x.outer
    root : tree_of definition.root ≡ tree_of x.root

  definition-there : (d e : ℕ) (x : FlatDefinition) → definition_tree d ≡ definition_tree e → slice_get flat.definitions e ≡ Some x → IsDefinitionAlike d x
  definition-there d e x same there = by (slice_get flat.definitions d) refl (same ∙ ap (definition_at flat tree_of) there)
    where
      outer-same : (a b : ℕ) (t u : Resolved) → ◌≡◌ {A = resolved.Definition} (Body a t) (Body b u) → a ≡ b
      outer-same a b t u e = cc

      root-same : (a b : ℕ) (t u : Resolved) → ◌≡◌ {A = resolved.Definition} (Body a t) (Body b u) → t ≡ u
      root-same a b t u e = cc

      by : (o : Option FlatDefinition) → slice_get flat.definitions d ≡ o → definition_at flat tree_of o ≡ Body x.outer (tree_of x.root) → IsDefinitionAlike d x
      by None at is = absurd (cc is)
      by (Some y) at is = record {
        definition = y;
        there = at;
        outer = outer-same y.outer x.outer (tree_of y.root) (tree_of x.root) is;
        root = root-same y.outer x.outer (tree_of y.root) (tree_of x.root) is;
      }

  -- so is an instance
  record IsInstanceAlike (j : ℕ) (x : FlatInstance) : Type 0 where
    instance : FlatInstance
    there : slice_get flat.instances j ≡ Some instance
    outer : instance.outer ≡ x.outer
    parameters : instance.parameters ≡ x.parameters
    guards : instance.guards ≡ x.guards
    replacements : replacements_at flat tree_of instance.replacements ≡ replacements_at flat tree_of x.replacements

  instance-there : (j k : ℕ) (x : FlatInstance) → instance_tree j ≡ instance_tree k → slice_get flat.instances k ≡ Some x → IsInstanceAlike j x
  instance-there j k x same there = by (slice_get flat.instances j) refl (same ∙ ap (instance_at flat tree_of) there)
    where
      by : (o : Option FlatInstance) → slice_get flat.instances j ≡ o → instance_at flat tree_of o ≡ Replaced x.outer x.parameters x.guards (replacements_at flat tree_of x.replacements) → IsInstanceAlike j x
      by None at is = absurd (cc is)
      by (Some y) at is =
          let made : ◌≡◌ {A = resolved.Instance} (Replaced y.outer y.parameters y.guards (replacements_at flat tree_of y.replacements)) (Replaced x.outer x.parameters x.guards (replacements_at flat tree_of x.replacements)) = is in
          let outer : y.outer ≡ x.outer = cc in
          let parameters : y.parameters ≡ x.parameters = cc in
          let guards : y.guards ≡ x.guards = cc in
          let replacements : replacements_at flat tree_of y.replacements ≡ replacements_at flat tree_of x.replacements = cc in
          record { instance = y; there = at; outer = outer; parameters = parameters; guards = guards; replacements = replacements }

  module _ (tells : Tells flat) where
    tell : (i : ℕ) → text flat i ≡ item_of (tree_of i)
    tell i = fun_ext (λ s. tells i s)

    -- behind such an instance stands the same
    behind-alike : (x y : FlatInstance) → y.outer ≡ x.outer → y.parameters ≡ x.parameters → y.guards ≡ x.guards → replacements_at flat tree_of y.replacements ≡ replacements_at flat tree_of x.replacements
        → (frame : List Item) (guards : List Guard) (arguments : List Item) → passed flat y frame guards arguments ≡ passed flat x frame guards arguments
    behind-alike x y outer parameters guarding replacements frame guards arguments =
        let here = take y.outer frame ++ arguments in
        let there = take x.outer frame ++ arguments in
        let places : here ≡ there = ap (λ n. take n frame ++ arguments) outer in
        let items-are : items (text flat) (map (λ r. r.root) y.replacements) here ≡ items (text flat) (map (λ r. r.root) x.replacements) there =
        telling.roots-told flat (text flat) tree_of tell (resolved-known flat) y.replacements here ∙ ((λ i. replaced_items (replacements i) (places i)) ∙ sym (telling.roots-told flat (text flat) tree_of tell (resolved-known flat) x.replacements there)) in
        let guards-are : guards_of flat (text flat) y.replacements here ≡ guards_of flat (text flat) x.replacements there =
        telling.guards-told flat (text flat) tree_of tell (resolved-known flat) y.replacements here ∙ ((λ i. guards_in (replacements i) (places i)) ∙ sym (telling.guards-told flat (text flat) tree_of tell (resolved-known flat) x.replacements there)) in
        λ i. record { frame = items-are i; guards = guards ++ cond (guarding i) (guards-are i) []; rest = drop (parameters i) [] }

    -- what is made of both stands for what the second does
    pub merged-stands : (stand other : Stand) → LeadAlike stand other → (frame : List Item) (guards : List Guard) (value : Value) → IsStanding flat frame guards other value → IsStanding flat frame guards (merge stand other) value
    unfolding merge
    merged-stands (Defined d orders) (Defined e others) alike frame guards value h =
        let y = definition-there d e h.0 (defined-alike d e orders others alike) h.1 in (
          y.definition,
          y.there,
          subst (λ n. n ≤ length frame) (sym y.outer) h.2,
          λ made arguments fits.
              h.3 made arguments fits
              ∙ (ap (λ n. guard guards (text flat h.0.root (take n frame ++ made)).text) (sym y.outer)
              ∙ ap (λ (x : Item). guard guards x.text) (sym (texts-alike tells y.definition.root h.0.root y.root (take y.definition.outer frame ++ made)))),
        )
    merged-stands (Through j orders inner) (Through k others rest) alike frame guards value h =
        let y = instance-there j k h.0 (inner-instance j k orders others inner rest alike) h.1.0 in (
          y.instance,
          (y.there, y.parameters ∙ h.1.1, subst (λ n. n ≤ length frame) (sym y.outer) h.1.2),
          λ made arguments fits name.
              subst (λ (r : Reached). IsStanding flat r.frame r.guards (merge (inner name) (rest name)) (λ more path. value arguments (record { name = name; arguments = more } ∷ path)))
              (sym (behind-alike h.0 y.instance y.outer y.parameters y.guards y.replacements frame guards made))
              (merged-stands (inner name) (rest name) (inner-alike j k orders others inner rest alike name) (passed flat h.0 frame guards made).frame (passed flat h.0 frame guards made).guards (λ more path. value arguments (record { name = name; arguments = more } ∷ path)) (h.2 made arguments fits name)),
        )
    merged-stands (Brought j inner) (Brought k rest) alike frame guards value h =
        let y = instance-there j k h.0 (brought-instance j k inner rest alike) h.1.0 in (
          y.instance,
          (y.there, y.parameters ∙ h.1.1, subst (λ n. n ≤ length frame) (sym y.outer) h.1.2),
          subst (λ (r : Reached). IsStanding flat r.frame r.guards (merge inner rest) value) (sym (behind-alike h.0 y.instance y.outer y.parameters y.guards y.replacements frame guards []))
              (merged-stands inner rest (brought-alike j k inner rest alike) (passed flat h.0 frame guards []).frame (passed flat h.0 frame guards []).guards value h.2),
        )
    merged-stands Unsaid Unsaid alike frame guards value h = h
    merged-stands (Leaf kind) (Leaf kind') alike frame guards value h = h
    merged-stands (Place place order) (Place place' order') alike frame guards value h = h
    merged-stands stand other alike frame guards value h = let never : shape stand ≡ shape other = shape-same stand other alike in absurd (omega (arith, never))

  -- ---- what they take

  pub merged-takes : (stand other : Stand) → LeadAlike stand other → (held : Behind) (meaning : Meaning) → TakesBehind other held meaning → TakesBehind (merge stand other) held meaning
  unfolding merge
  merged-takes (Defined d orders) (Defined e others) alike held meaning h = h
  merged-takes (Through j orders inner) (Through k others rest) alike held meaning h =
      (h.0, λ name next at. merged-takes (inner name) (rest name) (inner-alike j k orders others inner rest alike name) (onward held name) next (h.1 name next at))
  merged-takes (Brought j inner) (Brought k rest) alike held meaning h = merged-takes inner rest (brought-alike j k inner rest alike) held meaning h
  merged-takes Unsaid Unsaid alike held meaning h = h
  merged-takes (Leaf kind) (Leaf kind') alike held meaning h = h
  merged-takes (Place place order) (Place place' order') alike held meaning h = h
  merged-takes stand other alike held meaning h = let never : shape stand ≡ shape other = shape-same stand other alike in absurd (omega (arith, never))

  module _ (deeps : TellsDepths flat) where
    tell-depth : (i : ℕ) → depth flat i ≡ depth_in (tree_of i)
    tell-depth i = deeps i

    definition-deep : (d e : ℕ) → definition_tree d ≡ definition_tree e → flat_depth.depth_of (depth flat) (slice_get flat.definitions d) ≡ flat_depth.depth_of (depth flat) (slice_get flat.definitions e)
    definition-deep d e same =
        deep.definition-told flat (depth flat) tree_of tell-depth (resolved-known flat) (slice_get flat.definitions d)
        ∙ (ap resolved.depth_of same ∙ sym (deep.definition-told flat (depth flat) tree_of tell-depth (resolved-known flat) (slice_get flat.definitions e)))

    replaced-deep : (j k : ℕ) → instance_tree j ≡ instance_tree k → flat_depth.replaced_depth (depth flat) (slice_get flat.instances j) ≡ flat_depth.replaced_depth (depth flat) (slice_get flat.instances k)
    replaced-deep j k same =
        deep.replaced-told flat (depth flat) tree_of tell-depth (resolved-known flat) (slice_get flat.instances j)
        ∙ (ap resolved.replaced_in same ∙ sym (deep.replaced-told flat (depth flat) tree_of tell-depth (resolved-known flat) (slice_get flat.instances k)))

    parameters-deep : (j k : ℕ) → instance_tree j ≡ instance_tree k → flat_depth.parameters_of (slice_get flat.instances j) ≡ flat_depth.parameters_of (slice_get flat.instances k)
    parameters-deep j k same =
        deep.parameters-told flat (depth flat) tree_of tell-depth (resolved-known flat) (slice_get flat.instances j)
        ∙ (ap resolved.parameters_of same ∙ sym (deep.parameters-told flat (depth flat) tree_of tell-depth (resolved-known flat) (slice_get flat.instances k)))

    -- a module definition is 1 deeper than its replacements, if it is there
    abbrev deep_by : resolved.Instance → ℕ → ℕ
    deep_by Absent n = 0
    deep_by (Replaced outer parameters guards replacements) n = suc n

    instance-by : (o : Option FlatInstance) → flat_depth.instance_depth (depth flat) o ≡ deep_by (instance_at flat tree_of o) (flat_depth.replaced_depth (depth flat) o)
    instance-by None = refl
    instance-by (Some x) = refl

    instance-deep : (j k : ℕ) → instance_tree j ≡ instance_tree k → flat_depth.instance_depth (depth flat) (slice_get flat.instances j) ≡ flat_depth.instance_depth (depth flat) (slice_get flat.instances k)
    instance-deep j k same =
        instance-by (slice_get flat.instances j)
        ∙ ((λ i. deep_by (same i) (replaced-deep j k same i)) ∙ sym (instance-by (slice_get flat.instances k)))

    pub merged-depths : (stand other : Stand) → LeadAlike stand other → (n : ℕ) (depths : List Named → standing.Reached) → HasDepths flat n other depths → HasDepths flat n (merge stand other) depths
    unfolding merge
    merged-depths (Defined d orders) (Defined e others) alike n depths h =
        h ∙ ap (λ m. record { depth = m; replaced = n }) (sym (definition-deep d e (defined-alike d e orders others alike)))
    merged-depths (Through j orders inner) (Through k others rest) alike n depths h =
        let same = inner-instance j k orders others inner rest alike in (
          h.0 ∙ ap (λ m. record { depth = m; replaced = n }) (sym (instance-deep j k same)),
          λ name.
              subst (λ m. HasDepths flat (max n m) (merge (inner name) (rest name)) (λ path. depths (name ∷ path))) (sym (replaced-deep j k same))
              (merged-depths (inner name) (rest name) (inner-alike j k orders others inner rest alike name) (max n (flat_depth.replaced_depth (depth flat) (slice_get flat.instances k))) (λ path. depths (name ∷ path)) (h.1 name)),
        )
    merged-depths (Brought j inner) (Brought k rest) alike n depths h =
        subst (λ m. HasDepths flat (max n m) (merge inner rest) depths) (sym (replaced-deep j k (brought-instance j k inner rest alike)))
        (merged-depths inner rest (brought-alike j k inner rest alike) (max n (flat_depth.replaced_depth (depth flat) (slice_get flat.instances k))) depths h)
    merged-depths Unsaid Unsaid alike n depths h = h
    merged-depths (Leaf kind) (Leaf kind') alike n depths h = h
    merged-depths (Place place order) (Place place' order') alike n depths h = h
    merged-depths stand other alike n depths h = let never : shape stand ≡ shape other = shape-same stand other alike in absurd (omega (arith, never))

    pub merged-parameters : (stand other : Stand) → LeadAlike stand other → TakesParameters flat other → TakesParameters flat (merge stand other)
    unfolding merge
    merged-parameters (Through j orders inner) (Through k others rest) alike h =
        (parameters-deep j k (inner-instance j k orders others inner rest alike) ∙ h.0, λ name. merged-parameters (inner name) (rest name) (inner-alike j k orders others inner rest alike name) (h.1 name))
    merged-parameters (Brought j inner) (Brought k rest) alike h =
        (parameters-deep j k (brought-instance j k inner rest alike) ∙ h.0, merged-parameters inner rest (brought-alike j k inner rest alike) h.1)
    merged-parameters Unsaid Unsaid alike h = tt
    merged-parameters (Leaf kind) (Leaf kind') alike h = tt
    merged-parameters (Place place order) (Place place' order') alike h = tt
    merged-parameters (Defined d orders) (Defined e others) alike h = tt
    merged-parameters stand other alike h = let never : shape stand ≡ shape other = shape-same stand other alike in absurd (omega (arith, never))
