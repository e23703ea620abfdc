-- Units that define, and what stands round these.
use Rattle.std.proofs.Common.{◌≡◌, inl, inr, ℕ, Bool, true, false, List, [], ◌∷◌, ◌++◌, Option, Some, map, refl, sym, ◌∙◌, subst, arith}
use Rattle.std.specs.Prelude.{◌⊎◌, not, replicate}
use Rattle.std.specs.List.{AllByRecursion}
use Rattle.tla_symbols.specs.declared.lexeme.Lexeme.{Lexeme}
use Rattle.tla_symbols.specs.declared.lexeme.Span.{Span}
use Rattle.tla_tree.specs.declared.form.Form.TheVariants as Form
use Rattle.tla_tree.specs.Syntax.{Tree, Trees, Node}
use Rattle.unit_grammar.specs.Units.{UnitTree}
use Rattle.tla_model.specs.declared.entity.Entity.TheVariants as entity
use Rattle.tla_model.specs.declared.ids.Callee.{Callee}
use Rattle.tla_model.specs.declared.names.Binder.{Binder}
use Rattle.tla_model.specs.declared.names.Binding.TheVariants as as_binding
use Rattle.tla_model.specs.declared.names.Meaning.TheVariants.{Declared}
use Rattle.tla_model.specs.Contexts.{Context, meaning_of}
use Rattle.tla_model.specs.Entities.{Entity, Meaning, Text, bound_as, declared_in, defined, meant, variables, within}
use Rattle.tla_model.specs.Tables.{Named}
use Rattle.module_model.specs.Exports.{Behind, Exports, Known, and_known, behind_meaning, entry_of, onward}
use Rattle.module_model.specs.Exports as exports
use Rattle.module_model.specs.Modules.{declare_all}
use Rattle.kind_text.specs.FlatModule.{FlatModule, IsOrdered}
use Rattle.tree_kinds.specs.Standing.{Outside}
use Rattle.module_kinds.specs.ModuleKinds.{KindState, after, known_at, named}
use Rattle.flat_trees.specs.Stands.{Stand, Unsaid, Leaf, Place, Defined, Through, Brought}
use Rattle.flat_trees.specs.Layouts.{Layout, order_of, with_stands}
use Rattle.flat_kinds.specs.Readings.{IsDefinitionRead, layout_after}
use Rattle.flattened_trees.specs.Agreeing.{KeepsOrders, TakesAs, TakesBehind, is_seen}
use Rattle.flattened_trees.specs.Leads.{FlatFace, Leads}
use Rattle.flattened_trees.specs.Questions.{Question}
use Rattle.flattened_trees.specs.Readable.{IsInstanceOf, IsNoInstance, IsReadableDefinition, orders_of}
use Rattle.flattened_meanings.specs.Faces.{IsFaceOf}
use Rattle.flattened_meanings.proofs.Fresh.{Fresh, IsOneOf, new-fresh, node-names, others-none, seen-none, seen-other, times, tree-any}
use Rattle.flattened_meanings.proofs.Behind.{all-one}
use Rattle.flattened_meanings.proofs.Meant.{definition-for, each-kept}
use Rattle.flattened_meanings.proofs.Rounds.{Knows, leads-with, stands-in, stands-other}
use Rattle.flattened_units.specs.Units.{IsDefinitionMade, Reader, face_in}
use Rattle.module_meanings.specs.Following.{Follows, LeadsBy}
use Rattle.module_meanings.specs.Faces.{IsFaceBy, IsPlaced, LeadsAs}
use Rattle.module_meanings.specs.Premises.{IsTold, AreTold, ComesAs, IsTreeGiven}
use Rattle.module_meanings.proofs.Contexts.{told-more, declared-means, one-is-seen, orders-more, seen-left, seen-right, unseen-parts}
use Rattle.module_meanings.proofs.Knowing.{binder-told}
use Rattle.module_meanings.proofs.Leads.{lead-place, leads-as}

not-not : (b : Bool) → not (not b) ≡ true → b ≡ true
not-not true e = refl
not-not false e = cc e

not-false : (b : Bool) → not b ≡ false → b ≡ true
not-false true e = refl
not-false false e = cc e

not-either : (b : Bool) → not b ≡ true → b ≡ true → ⊥
not-either true e f = cc e
not-either false e f = cc f

-- the same entity takes the same, whichever way it comes
no-instance-same : (e : Entity) (a b : Callee) → IsNoInstance (Declared e a) → IsNoInstance (Declared e b)
no-instance-same (entity.Instance orders) a b is = absurd is
no-instance-same (entity.Constant n) a b is = tt
no-instance-same (entity.Parameter n) a b is = tt
no-instance-same (entity.Definition orders) a b is = tt
no-instance-same entity.Variable a b is = tt
no-instance-same (entity.Bound state) a b is = tt
no-instance-same entity.Module a b is = tt

instance-same : (e : Entity) (orders : List ℕ) (a b : Callee) → IsInstanceOf (Declared e a) orders → IsInstanceOf (Declared e b) orders
instance-same (entity.Instance os) orders a b is = is
instance-same (entity.Constant n) orders a b is = absurd is
instance-same (entity.Parameter n) orders a b is = absurd is
instance-same (entity.Definition os) orders a b is = absurd is
instance-same entity.Variable orders a b is = absurd is
instance-same (entity.Bound state) orders a b is = absurd is
instance-same entity.Module orders a b is = absurd is

pub takes-same : (stand : Stand) (held : Behind) (e : Entity) (a b : Callee) → TakesBehind stand held (Declared e a) → TakesBehind stand held (Declared e b)
takes-same Unsaid held e a b takes = absurd takes
takes-same (Leaf kind) held e a b takes = absurd takes
takes-same (Place place order) held e a b takes = absurd takes
takes-same (Defined d orders) held e a b takes = (no-instance-same e a b takes.0, takes.1)
takes-same (Through j orders inner) held e a b takes = (instance-same e orders a b takes.0, takes.1)
takes-same (Brought j inner) held e a b takes = takes-same inner held e a b takes

-- what comes from a module takes what it takes there
pub comes-takes : (known : Known) (view : exports.ModuleView) (name : Named) (m : Meaning) (inner : Named → Stand) → ComesAs known view name m → ((n : Named) (next : Meaning) → entry_of (exports.behind_instance view []) n ≡ Some next → TakesBehind (inner n) (onward (exports.behind_instance view) n) next) → TakesBehind (inner name) (behind_meaning known (Some m)) m
comes-takes known view name m inner comes takes =
    subst (λ (held : Behind). TakesBehind (inner name) held m) (sym comes.behind)
    (subst (λ n. TakesBehind (inner name) (onward (exports.behind_instance view) name) n) (sym comes.means)
    (takes-same (inner name) (onward (exports.behind_instance view) name) comes.entity comes.origin comes.callee (takes name (Declared comes.entity comes.origin) comes.there)))

-- a module that is so by where names lead is so by what they stand for
pub face-of : (flat : FlatModule) (new : Meaning → Bool) (stands : Meaning → Stand) (leads : Leads) (face : FlatFace) (outside : Outside) → LeadsBy stands leads → IsFaceBy flat new leads face outside → IsFaceOf flat (λ m. not (not (new m))) stands face outside
face-of flat new stands leads face outside all is =
    record {
      base = is.base;
      inner = is.inner;
      leads = is.paths;
      kept = is.kept;
      takes = is.takes;
      apart = is.apart;
      symbols = λ m. leads-as face.outer (is.base m) (stands m) (subst (λ lead. LeadsAs face.outer (is.base m) lead) (all m []) (is.symbols m));
      unsaid = λ m new. is.unsaid m (not-not _ new);
    }

-- ---- symbols that are declared

-- it takes expressions, as many as its order
abbrev pub IsSymbolic : Meaning → Type 0
IsSymbolic m = IsNoInstance m × (orders_of m ≡ replicate (order_of m) 0)

module _ (text : Text) where
  pub variables-symbolic : (names : List Lexeme) (m : Meaning) → IsOneOf text (variables names) m → IsSymbolic m
  variables-symbolic [] m one = absurd one
  variables-symbolic (l ∷ rest) m (inl same) = subst IsSymbolic (sym same) (tt, refl)
  variables-symbolic (l ∷ rest) m (inr one) = variables-symbolic rest m one

  pub constants-symbolic : (names : List (Lexeme × ℕ)) (m : Meaning) → IsOneOf text (bound_as as_binding.Constant names) m → IsSymbolic m
  constants-symbolic [] m one = absurd one
  constants-symbolic (l ∷ rest) m (inl same) = subst IsSymbolic (sym same) (tt, refl)
  constants-symbolic (l ∷ rest) m (inr one) = constants-symbolic rest m one

  pub placed-one : (leads : Leads) (binders : List Binder) (m : Meaning) → AllByRecursion (IsPlaced leads) (map (meant text) binders) → IsOneOf text binders m → IsPlaced leads m
  placed-one leads [] m all one = absurd one
  placed-one leads (b ∷ rest) m all (inl same) = subst (IsPlaced leads) (sym same) all.0
  placed-one leads (b ∷ rest) m all (inr one) = placed-one leads rest m all.1 one

pub placed-takes : (stands : Meaning → Stand) (leads : Leads) (held : Behind) (m : Meaning) → LeadsBy stands leads → IsPlaced leads m → IsSymbolic m → TakesAs (stands m) held m
placed-takes stands leads held m all placed is =
    subst (λ stand. TakesAs stand held m) (sym (lead-place (stands m) placed.0 (order_of m) (sym (all m []) ∙ placed.1))) (is.0, refl, is.1)

module _ (flat : FlatModule) (text : Text) (means : ℕ → Option Meaning) (implied : ℕ → List Meaning) (files : List ℕ → FlatFace) (outsides : List ℕ → Outside) (words : List ℕ) where
  -- names are new where those of a tree are
  module _ (seen : List Meaning) (form : Form.the_data) (s : Span) (parts : Trees) where
    abbrev pub x : Tree
    x = Node form s parts

    abbrev pub seen-but : Meaning → Bool
    seen-but m = not (is_seen (map (meant text) (within x)) m)

    module _ (state : KindState) (reader : Reader) (unit : UnitTree) (layout : Layout) (follows : Follows state reader seen layout) (told : AreTold state.read.known state.read.place.here.context) (given : IsTreeGiven flat text means implied files outsides words state reader seen x) where
      abbrev pub faces : List ℕ → FlatFace
      faces = face_in flat text means implied files outsides words reader.faces

      pub known-orders : KeepsOrders (known_at text outsides words state unit) layout
      known-orders = orders-more state.read.known _ layout (subst (AreTold state.read.known) follows.context told) follows.orders

      pub tree-knows : Knows flat text (known_at text outsides words state unit) (named text outsides words state) faces given.nameable layout reader.setting seen-but
      tree-knows =
          record {
            settings = follows.settings;
            orders = known-orders;
            all_seen = record {
              context = λ name m e. seen-other text seen (within x) m given.fresh (follows.all_seen name m e);
              stands = λ m new. follows.unsaid m (by_seen m (not-false _ new) (is_seen seen m) refl);
            };
            modules = λ name can. face-of flat (λ m. is_seen (map (meant text) (within x)) m) layout.stands reader.setting.leads (faces name) (named text outsides words state name) follows.settings.leads (given.faces name can);
          }
        where
          by_seen : (m : Meaning) → is_seen (map (meant text) (within x)) m ≡ true → (b : Bool) → is_seen seen m ≡ b → b ≡ false
          by_seen m new true e = absurd (not-either _ (seen-other text seen (within x) m given.fresh e) new)
          by_seen m new false e = refl

      pub tree-fresh : Fresh text seen-but (declared_in as_binding.Constant x)
      tree-fresh m = let a = new-fresh text seen (within x) given.fresh m in let b = tree-any text m (as_binding.Bound false) x in omega (arith, a, b)

      own-fresh : Fresh text seen-but (defined form parts)
      own-fresh m = let a = tree-fresh m in let b = node-names text m form s parts in omega (arith, a, b)

      -- what was seen is not defined here
      seen-apart : (m : Meaning) → is_seen seen m ≡ true → times text m (defined form parts) ≡ 0
      seen-apart m is = seen-none text seen-but (defined form parts) m own-fresh (seen-other text seen (within x) m given.fresh is)

      here-means : (name : Named) (m : Meaning) → meaning_of state.read.place.here.context name ≡ Some m → meaning_of layout.context name ≡ Some m
      here-means name m e = subst (λ (context : Context). meaning_of context name ≡ Some m) follows.context e

      -- what comes of a definition, and what is known behind it
      pub definition-follows : (ordered : IsOrdered flat) (local : Bool) (next : Reader) (asked : List Question) → AllByRecursion (λ (b : Binder). IsTold (known_at text outsides words state unit) (meant text b)) (defined form parts) → (after text outsides words state unit).read.known ≡ known_at text outsides words state unit → (after text outsides words state unit).read.place.here.context ≡ (declare_all text local state.read.place.here (defined form parts)).context → IsDefinitionMade flat text means implied files outsides words reader x next asked → IsReadableDefinition text (known_at text outsides words state unit) (named text outsides words state) means implied faces state.read.place.here.context x → (stands : Meaning → Stand) × IsDefinitionRead text outsides words flat state layout unit x stands × Follows (after text outsides words state unit) next (map (meant text) (defined form parts) ++ seen) (layout_after text outsides words state layout unit stands)
      definition-follows ordered local next asked all_told same_known same_context (lead, roots, made, is) can =
          let known = known_at text outsides words state unit in
          let modules = named text outsides words state in
          let names = defined form parts in
          let readable = subst (λ (context : Context). IsReadableDefinition text known modules means implied faces context x) follows.context can in
          let found =
          definition-for flat text known modules means implied faces given.nameable ordered layout reader.setting seen-but tree-knows form s parts lead roots asked
          (each-kept flat text known modules means implied faces given.nameable ordered parts given.names.1) made readable tree-fresh in
          let stands = with_stands layout.stands (map (meant text) names) found.stand in
          let there = layout_after text outsides words state layout unit stands in
          let orders : KeepsOrders known there =
          λ name m e. by_orders found.stand (λ n one. all-one text (λ o. TakesAs found.stand (behind_meaning known (Some o)) o) names n found.takes one) name m
          (declared-means text names local state.read.place.here name m (subst (λ (context : Context). meaning_of context name ≡ Some m) same_context e)) in (
            stands,
            (found.stand, found.stands, refl),
            subst (λ (r : Reader). Follows (after text outsides words state unit) r (map (meant text) names ++ seen) there) (sym is)
                (record {
                  context = refl;
                  settings = record {
                    leads = leads-with (map (meant text) names) layout.stands reader.setting.leads found.stand lead follows.settings.leads found.leads;
                    places = follows.settings.places;
                    olds = follows.settings.olds;
                  };
                  told = subst (λ k. AreTold k there.context) (sym same_known) (λ name m e. by_told name m (declared-means text names local state.read.place.here name m (subst (λ (context : Context). meaning_of context name ≡ Some m) same_context e)));
                  orders = subst (λ k. KeepsOrders k there) (sym same_known) orders;
                  all_seen = λ name m e. by_seen name m (declared-means text names local state.read.place.here name m (subst (λ (context : Context). meaning_of context name ≡ Some m) same_context e));
                  unsaid = λ m none. let parts = unseen-parts (map (meant text) names) seen m none in stands-other text names layout.stands found.stand m (others-none text names m parts.0) ∙ follows.unsaid m parts.1;
                }),
          )
        where
          by_orders : (stand : Stand) → ((m : Meaning) → IsOneOf text (defined form parts) m → TakesAs stand (behind_meaning (known_at text outsides words state unit) (Some m)) m) → (name : Named) (m : Meaning) → (meaning_of state.read.place.here.context name ≡ Some m) ⊎ IsOneOf text (defined form parts) m → TakesAs (with_stands layout.stands (map (meant text) (defined form parts)) stand m) (behind_meaning (known_at text outsides words state unit) (Some m)) m
          by_orders stand takes name m (inl before) =
              let there = here-means name m before in
              subst (λ z. TakesAs z (behind_meaning (known_at text outsides words state unit) (Some m)) m) (sym (stands-other text (defined form parts) layout.stands stand m (seen-apart m (follows.all_seen name m there)))) (known-orders name m there)
          by_orders stand takes name m (inr one) =
              subst (λ z. TakesAs z (behind_meaning (known_at text outsides words state unit) (Some m)) m) (sym (stands-in text (defined form parts) layout.stands stand m one)) (takes m one)

          by_told : (name : Named) (m : Meaning) → (meaning_of state.read.place.here.context name ≡ Some m) ⊎ IsOneOf text (defined form parts) m → IsTold (known_at text outsides words state unit) m
          by_told name m (inl before) = told-more state.read.known _ m (told name m before)
          by_told name m (inr one) = binder-told text (known_at text outsides words state unit) (defined form parts) m all_told one

          by_seen : (name : Named) (m : Meaning) → (meaning_of state.read.place.here.context name ≡ Some m) ⊎ IsOneOf text (defined form parts) m → is_seen (map (meant text) (defined form parts) ++ seen) m ≡ true
          by_seen name m (inl before) = seen-right (map (meant text) (defined form parts)) seen m (follows.all_seen name m (here-means name m before))
          by_seen name m (inr one) = seen-left (map (meant text) (defined form parts)) seen m (one-is-seen text (defined form parts) m one)
