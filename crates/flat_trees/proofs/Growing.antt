-- What nodes and names mean in a flat module they mean in one that has more.
use Rattle.std.proofs.Common.{◌≡◌, ℕ, zero, suc, ◌<◌, ◌≤◌, List, [], ◌∷◌, ◌++◌, Some, refl, sym, ap, ◌∙◌, subst, take, length, arith}
use Rattle.std.specs.Prelude.{slice_get}
use Rattle.std.specs.List.{AllByRecursion}
use Rattle.std.proofs.lemmas.Option.{slice_get_within}
use Rattle.list_laws.proofs.Lists.{item-at}
use Rattle.tla_tree.specs.Syntax.{Tree}
use Rattle.tla_model.specs.Tables.{Named}
use Rattle.tla_model.specs.Entities.{Meaning, Text}
use Rattle.module_model.specs.Exports.{Known}
use Rattle.kind_text.specs.ExpandedKind.{Expanded}
use Rattle.kind_text.specs.FlatModule.{Definition, Extends, FlatModule, Instance, IsOrdered, Node, Replacement, UsesDefinition, UsesInstance, places_of}
use Rattle.kind_text.specs.Expansion.{Guard, Reached, behind, guard, items as items_at, text as text_at}
use Rattle.kind_text.specs.Substitution.{Item, texts}
use Rattle.kind_text.proofs.Unfolding.{behind-agree, text-kept}
use Rattle.tree_kinds.specs.Standing.{Outside, Value}
use Rattle.tree_kinds.specs.Expanding.{Around, expand, places_at}
use Rattle.flat_trees.specs.Stands.{IsStanding, Matches, Stand, Unsaid, Leaf, Place, Defined, Through, Brought, passed}
use Rattle.flat_trees.specs.Names.{order_by}
use Rattle.flat_trees.specs.Layouts.{Agrees, Gives, IsMeant, Layout, Stands}
use Rattle.flat_trees.specs.Instances.{IsModule}
use Rattle.flat_trees.specs.Growing.{IsLayoutWithin, IsWithin}

-- what is there
module _ (flat more : FlatModule) (extends : Extends flat more) where
  longer : length flat.nodes ≤ length more.nodes
  longer = by_all (length flat.nodes) (item-at flat.nodes)
    where
      by_all : (n : ℕ) → ((i : ℕ) → i < n → (x : Node) × (slice_get flat.nodes i ≡ Some x)) → n ≤ length more.nodes
      by_all zero read = omega arith
      by_all (suc n) read =
          let last = read n (omega arith) in
          let within = slice_get_within more.nodes n last.0 (extends.nodes n last.0 last.1) in
          omega (arith, within)

  below-kept : (i : ℕ) → i < length flat.nodes → i < length more.nodes
  below-kept i here = let l = longer in omega (arith, l, here)

  roots-kept : (rs : List Replacement) → AllByRecursion (λ r. r.root < length flat.nodes) rs → AllByRecursion (λ r. r.root < length more.nodes) rs
  roots-kept [] all = tt
  roots-kept (r ∷ rs) all = (below-kept r.root all.0, roots-kept rs all.1)

  nodes-kept : (is : List ℕ) → AllByRecursion (λ i. i < length flat.nodes) is → AllByRecursion (λ i. i < length more.nodes) is
  nodes-kept [] all = tt
  nodes-kept (i ∷ is) all = (below-kept i all.0, nodes-kept is all.1)

  instance-kept : (j : ℕ) → UsesInstance flat (length flat.nodes) j → UsesInstance more (length more.nodes) j
  instance-kept j u = (u.0, extends.instances j u.0 u.1, roots-kept u.0.replacements u.2)

  pub within-kept : (stand : Stand) → IsWithin flat stand → IsWithin more stand
  within-kept Unsaid within = tt
  within-kept (Leaf kind) within = tt
  within-kept (Place place order) within = tt
  within-kept (Defined d orders) within = (within.0, extends.definitions d within.0 within.1, below-kept within.0.root within.2)
  within-kept (Through j orders inner) within = (instance-kept j within.0, λ name. within-kept (inner name) (within.1 name))
  within-kept (Brought j inner) within = (instance-kept j within.0, within-kept inner within.1)

  pub layout-kept : (layout : Layout) → IsLayoutWithin flat layout → IsLayoutWithin more layout
  layout-kept layout within =
      record { stands = λ meaning. within-kept (layout.stands meaning) (within.stands meaning); olds = nodes-kept layout.olds within.olds }

module _ (flat more : FlatModule) (extends : Extends flat more) (ordered : IsOrdered flat) where
  kept : (i : ℕ) → i < length flat.nodes → text_at flat i ≡ text_at more i
  kept = text-kept flat more extends ordered

  places-kept : (i : ℕ) → i < length flat.nodes → places_of (slice_get flat.nodes i) ≡ places_of (slice_get more.nodes i)
  places-kept i here = by_node (item-at flat.nodes i here)
    where
      by_node : (node : Node) × (slice_get flat.nodes i ≡ Some node) → places_of (slice_get flat.nodes i) ≡ places_of (slice_get more.nodes i)
      by_node read = ap places_of read.1 ∙ sym (ap places_of (extends.nodes i read.0 read.1))

  -- ---- definitions and instances that are there

  -- the one that is there is the one that is found
  definition-is : (d : ℕ) (u : UsesDefinition flat (length flat.nodes) d) (x : Definition) → slice_get more.definitions d ≡ Some x → x ≡ u.0
  definition-is d u x there = let e = extends.definitions d u.0 u.1 in cc

  instance-is : (j : ℕ) (u : UsesInstance flat (length flat.nodes) j) (x : Instance) → slice_get more.instances j ≡ Some x → x ≡ u.0
  instance-is j u x there = let e = extends.instances j u.0 u.1 in cc

  -- behind an instance that is there the same is reached
  behind-same : (x : Instance) (s : List Item) (reached : Reached) → AllByRecursion (λ r. r.root < length flat.nodes) x.replacements → behind flat (text_at flat) x s reached ≡ behind more (text_at more) x s reached
  behind-same = behind-agree flat more extends (text_at flat) (text_at more) (length flat.nodes) kept places-kept

  passed-same : (x : Instance) (s : List Item) (guards : List Guard) (made : List Item) → AllByRecursion (λ r. r.root < length flat.nodes) x.replacements → passed flat x s guards made ≡ passed more x s guards made
  passed-same x s guards made all = behind-same x (take x.outer s ++ made) (record { frame = s; guards = guards; rest = [] }) all

  -- ---- what names stand for

  -- over more, a name that stands for what is there stands for it already
  pub standing-back : (s : List Item) (guards : List Guard) (stand : Stand) (value : Value) → IsWithin flat stand → IsStanding more s guards stand value → IsStanding flat s guards stand value
  standing-back s guards Unsaid value within holds = tt
  standing-back s guards (Leaf kind) value within holds = holds
  standing-back s guards (Place place order) value within holds = holds
  standing-back s guards (Defined d orders) value within (x, there, room, holds) =
      let same = definition-is d within x there in (
        within.0,
        within.1,
        subst (λ (z : Definition). z.outer ≤ length s) same room,
        λ made arguments fits.
            holds made arguments fits
            ∙ ap (λ (z : Definition). guard guards (text_at more z.root (take z.outer s ++ made)).text) same
            ∙ ap (λ f. guard guards (f (take within.0.outer s ++ made)).text) (sym (kept within.0.root within.2)),
      )
  standing-back s guards (Through j orders inner) value within (x, (there, many, room), holds) =
      let same = instance-is j within.0 x there in (
        within.0.0,
        (within.0.1, subst (λ (z : Instance). z.parameters ≡ length orders) same many, subst (λ (z : Instance). z.outer ≤ length s) same room),
        λ made arguments fits name.
            standing-back (passed flat within.0.0 s guards made).frame (passed flat within.0.0 s guards made).guards (inner name) (λ rest path. value arguments (record { name = name; arguments = rest } ∷ path)) (within.1 name)
            (subst (λ (r : Reached). IsStanding more r.frame r.guards (inner name) (λ rest path. value arguments (record { name = name; arguments = rest } ∷ path)))
            (ap (λ (z : Instance). passed more z s guards made) same ∙ sym (passed-same within.0.0 s guards made within.0.2)) (holds made arguments fits name)),
      )
  standing-back s guards (Brought j inner) value within (x, (there, many, room), holds) =
      let same = instance-is j within.0 x there in (
        within.0.0,
        (within.0.1, subst (λ (z : Instance). z.parameters ≡ 0) same many, subst (λ (z : Instance). z.outer ≤ length s) same room),
        standing-back (passed flat within.0.0 s guards []).frame (passed flat within.0.0 s guards []).guards inner value within.1
            (subst (λ (r : Reached). IsStanding more r.frame r.guards inner value)
            (ap (λ (z : Instance). passed more z s guards []) same ∙ sym (passed-same within.0.0 s guards [] within.0.2)) holds),
      )

  -- and the other way round
  pub standing-on : (s : List Item) (guards : List Guard) (stand : Stand) (value : Value) → IsWithin flat stand → IsStanding flat s guards stand value → IsStanding more s guards stand value
  standing-on s guards Unsaid value within holds = tt
  standing-on s guards (Leaf kind) value within holds = holds
  standing-on s guards (Place place order) value within holds = holds
  standing-on s guards (Defined d orders) value within (x, there, room, holds) =
      let on = extends.definitions d x there in
      let same = definition-is d within x on in
      let root : x.root < length flat.nodes = subst (λ (z : Definition). z.root < length flat.nodes) (sym same) within.2 in
      (x, on, room, λ made arguments fits. holds made arguments fits ∙ ap (λ f. guard guards (f (take x.outer s ++ made)).text) (kept x.root root))
  standing-on s guards (Through j orders inner) value within (x, (there, many, room), holds) =
      let on = extends.instances j x there in
      let same = instance-is j within.0 x on in
      let roots = subst (λ (z : Instance). AllByRecursion (λ r. r.root < length flat.nodes) z.replacements) (sym same) within.0.2 in (
        x,
        (on, many, room),
        λ made arguments fits name.
            subst (λ (r : Reached). IsStanding more r.frame r.guards (inner name) (λ rest path. value arguments (record { name = name; arguments = rest } ∷ path))) (passed-same x s guards made roots)
            (standing-on (passed flat x s guards made).frame (passed flat x s guards made).guards (inner name) (λ rest path. value arguments (record { name = name; arguments = rest } ∷ path)) (within.1 name) (holds made arguments fits name)),
      )
  standing-on s guards (Brought j inner) value within (x, (there, many, room), holds) =
      let on = extends.instances j x there in
      let same = instance-is j within.0 x on in
      let roots = subst (λ (z : Instance). AllByRecursion (λ r. r.root < length flat.nodes) z.replacements) (sym same) within.0.2 in (
        x,
        (on, many, room),
        subst (λ (r : Reached). IsStanding more r.frame r.guards inner value) (passed-same x s guards [] roots)
            (standing-on (passed flat x s guards []).frame (passed flat x s guards []).guards inner value within.1 holds),
      )

  -- ---- what nodes mean

  items-same : (is : List ℕ) (s : List Item) → AllByRecursion (λ i. i < length flat.nodes) is → items_at (text_at flat) is s ≡ items_at (text_at more) is s
  items-same [] s all = refl
  items-same (i ∷ is) s all = ap (λ f. f s ∷ items_at (text_at flat) is s) (kept i all.0) ∙ ap (λ xs. text_at more i s ∷ xs) (items-same is s all.1)

  pub agrees-back : (layout : Layout) (frame : List Item) (around : Around) → IsLayoutWithin flat layout → Agrees more layout frame around → Agrees flat layout frame around
  agrees-back layout frame around within agrees =
      record {
        context = agrees.context;
        places = agrees.places;
        standing = λ meaning. standing-back frame [] (layout.stands meaning) (around.standing meaning) (within.stands meaning) (agrees.standing meaning);
        old = λ rest. ap texts (items-same layout.olds (frame ++ rest) within.olds) ∙ agrees.old rest;
      }

  pub gives-kept : (layout : Layout) (i : ℕ) (gives : Around → Expanded) → IsLayoutWithin flat layout → i < length flat.nodes → Gives flat layout i gives → Gives more layout i gives
  gives-kept layout i gives within here holds frame rest around agrees =
      ap (λ f. (f (frame ++ rest)).text) (sym (kept i here)) ∙ holds frame rest around (agrees-back layout frame around within agrees)

  pub meant-kept : (text : Text) (known : Known) (named : List ℕ → Outside) (layout : Layout) (i : ℕ) (x : Tree) → IsLayoutWithin flat layout → i < length flat.nodes → IsMeant flat text known named layout i x → IsMeant more text known named layout i x
  meant-kept text known named layout i x within here meant frame rest around agrees =
      subst (λ (f : List Item → Item). Matches (order_by (places_at text known named layout.context x)) (f (frame ++ rest)) (expand text known named around x)) (kept i here)
      (meant frame rest around (agrees-back layout frame around within agrees))

  pub stands-kept : (layout : Layout) (stand : Stand) (value : Around → Value) → IsLayoutWithin flat layout → IsWithin flat stand → Stands flat layout stand value → Stands more layout stand value
  stands-kept layout stand value within there holds frame around agrees =
      standing-on frame [] stand (value around) there (holds frame around (agrees-back layout frame around within agrees))

  pub module-kept : (stands : Meaning → Stand) (places : ℕ) (inner : Named → Stand) (outside : Outside) → ((meaning : Meaning) → IsWithin flat (stands meaning)) → ((name : Named) → IsWithin flat (inner name)) → IsModule flat stands places inner outside → IsModule more stands places inner outside
  module-kept stands places inner outside within there holds frame standing long all name =
      standing-on frame [] (inner name) _ (there name)
      (holds frame standing long (λ meaning. standing-back frame [] (stands meaning) (standing meaning) (within meaning) (all meaning)) name)
