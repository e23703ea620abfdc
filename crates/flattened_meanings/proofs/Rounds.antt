-- What is known round a tree, and how it is kept in scopes and behind definitions.
use Rattle.std.proofs.Common.{◌≡◌, inl, inr, ℕ, zero, suc, ◌+◌, ◌≤◌, Bool, true, false, cond, List, [], ◌∷◌, ◌++◌, Option, Some, None, map, refl, sym, ap, ◌∙◌, subst, length, arith}
use Rattle.std.specs.Prelude.{◌⊎◌, not}
use Rattle.std.proofs.lemmas.List.{length-append}
use Rattle.tla_symbols.specs.declared.lexeme.Lexeme.{Lexeme}
use Rattle.tla_symbols.specs.declared.lexeme.Span.{Span}
use Rattle.tla_tree.specs.declared.form.Form.TheVariants as Form
use Rattle.tla_tree.specs.Syntax.{Trees, Node}
use Rattle.tla_model.specs.declared.entity.Entity.TheVariants as entity
use Rattle.tla_model.specs.declared.ids.Callee.{Callee}
use Rattle.tla_model.specs.declared.names.Binder.{Binder}
use Rattle.tla_model.specs.declared.names.Binding.TheVariants as as_binding
use Rattle.tla_model.specs.declared.names.Meaning.TheVariants.{Declared}
use Rattle.tla_model.specs.Tables.{Named, find, put}
use Rattle.tla_model.specs.Entities.{Binding, Meaning, Text, binding_of, bound_as, defined, entity_of, is_group, meant, name_of, own, same_meaning, all_placed}
use Rattle.tla_model.specs.Contexts.{Context, bind, bind_all, meaning_of, reserve_all, usable}
use Rattle.tla_model.specs.Scopes.{all_grouped, binders, inside}
use Rattle.tla_model.specs.Same.{meaning-itself}
use Rattle.model_laws.proofs.Settling.{put-gives}
use Rattle.module_model.specs.Exports.{Known, behind_meaning}
use Rattle.kind_text.specs.FlatModule.{FlatModule}
use Rattle.tree_kinds.specs.Standing.{Outside, is_bound, same_standing}
use Rattle.tree_kinds.proofs.Standings.{standing-equal}
use Rattle.flat_trees.specs.Stands.{Stand, Place}
use Rattle.flat_trees.specs.Layouts.{Layout, layout_before, layout_behind, layout_in, layout_repeating, layout_with, order_of, parameters_of, with_places, with_stand, with_stands}
use Rattle.flat_trees.proofs.BoundNames.{definition-free, parameters-free, places-left, stands-left}
use Rattle.flattened_trees.specs.declared.End.TheVariants as end
use Rattle.flattened_trees.specs.Leads.{FlatFace, Lead, Leads, Setting, behind, only, repeating, with_lead, with_leads, with_parameters, with_places as with_lead_places}
use Rattle.flattened_trees.specs.Agreeing.{IsSettingOf, KeepsOrders, TakesAs, lead_by, unsaid_stand}
use Rattle.flattened_meanings.specs.Faces.{AreFacesOf, IsFaceOf, StandsAs}
use Rattle.flattened_meanings.proofs.Fresh.{Fresh, IsOneOf, first-unlike, mark, one-counts, rest-none, seen-none, seen-with, seen-still, times, times-append, unseen-before}

-- ---- contexts

usable-is : (o : Option (Option Meaning)) (m : Meaning) → usable o ≡ Some m → o ≡ Some (Some m)
usable-is None m e = cc
usable-is (Some found) m e = ap Some e

usable-of : (o : Option (Option Meaning)) (m : Meaning) → o ≡ Some (Some m) → usable o ≡ Some m
usable-of o m e = ap usable e

module _ (text : Text) where
  bind-gives : (context : Context) (b : Binder) (name : Named) (m : Meaning) → meaning_of (bind text context b) name ≡ Some m → (meaning_of context name ≡ Some m) ⊎ (m ≡ meant text b)
  bind-gives context b name m e =
      by_put (put-gives context (name_of text.source b.name) (Some (meant text b)) name (Some m) (usable-is (find (bind text context b) name) m e))
    where
      by_put : ((find context name ≡ Some (Some m)) ⊎ (Some (meant text b) ≡ Some m)) → (meaning_of context name ≡ Some m) ⊎ (m ≡ meant text b)
      by_put (inl before) = inl (usable-of (find context name) m before)
      by_put (inr same) = inr (cc same)

  pub bind-all-gives : (names : List Binder) (context : Context) (name : Named) (m : Meaning) → meaning_of (bind_all text context names) name ≡ Some m → (meaning_of context name ≡ Some m) ⊎ IsOneOf text names m
  bind-all-gives [] context name m e = inl e
  bind-all-gives (b ∷ rest) context name m e =
      by_rest (bind-all-gives rest (bind text context b) name m e)
    where
      by_first : ((meaning_of context name ≡ Some m) ⊎ (m ≡ meant text b)) → (meaning_of context name ≡ Some m) ⊎ IsOneOf text (b ∷ rest) m
      by_first (inl before) = inl before
      by_first (inr same) = inr (inl same)

      by_rest : ((meaning_of (bind text context b) name ≡ Some m) ⊎ IsOneOf text rest m) → (meaning_of context name ≡ Some m) ⊎ IsOneOf text (b ∷ rest) m
      by_rest (inl here) = by_first (bind-gives context b name m here)
      by_rest (inr one) = inr (inr one)

  pub reserve-all-gives : (names : List Binder) (context : Context) (name : Named) (m : Meaning) → meaning_of (reserve_all text context names) name ≡ Some m → meaning_of context name ≡ Some m
  reserve-all-gives [] context name m e = e
  reserve-all-gives (b ∷ rest) context name m e =
      by_put (put-gives context (name_of text.source b.name) None name (Some m) (usable-is (find (put context (name_of text.source b.name) None) name) m (reserve-all-gives rest (put context (name_of text.source b.name) None) name m e)))
    where
      by_put : ((find context name ≡ Some (Some m)) ⊎ (None ≡ Some m)) → meaning_of context name ≡ Some m
      by_put (inl before) = usable-of (find context name) m before
      by_put (inr never) = cc never

  -- a name of the scope of a form: its own, if it is that of a function, or one that it binds
  inside-gives : (context : Context) (form : Form.the_data) (parts : Trees) (name : Named) (m : Meaning) → meaning_of (inside text context form parts) name ≡ Some m → (meaning_of context name ≡ Some m) ⊎ ((l : Lexeme) × (form ≡ Form.FunctionDefinition l) × (m ≡ Declared (entity.Bound false) (own text l)))
  inside-gives context (Form.FunctionDefinition l) parts name m e =
      by_bind (bind-gives context (record { name = l; entity = entity_of (as_binding.Bound false) 0 }) name m e)
    where
      by_bind : ((meaning_of context name ≡ Some m) ⊎ (m ≡ Declared (entity.Bound false) (own text l))) → (meaning_of context name ≡ Some m) ⊎ ((k : Lexeme) × (Form.FunctionDefinition l ≡ Form.FunctionDefinition k) × (m ≡ Declared (entity.Bound false) (own text k)))
      by_bind (inl before) = inl before
      by_bind (inr same) = inr (l, refl, same)
  inside-gives context form parts name m e = inl (reserve-all-gives (defined form parts) context name m e)

  -- ---- what names are bound as

  bound-one : (state : Bool) (xs : List (Lexeme × ℕ)) (m : Meaning) → IsOneOf text (bound_as (as_binding.Bound state) xs) m → (callee : Callee) × (m ≡ Declared (entity.Bound state) callee)
  bound-one state [] m one = absurd one
  bound-one state (x ∷ xs) m (inl same) = (own text x.0, same)
  bound-one state (x ∷ xs) m (inr one) = bound-one state xs m one

  parameter-one : (xs : List (Lexeme × ℕ)) (m : Meaning) → IsOneOf text (bound_as as_binding.Parameter xs) m → (n : ℕ) × (callee : Callee) × (m ≡ Declared (entity.Parameter n) callee)
  parameter-one [] m one = absurd one
  parameter-one (x ∷ xs) m (inl same) = (x.1, own text x.0, same)
  parameter-one (x ∷ xs) m (inr one) = parameter-one xs m one

  -- the names that a form binds, as what it does
  binders-one : (form : Form.the_data) (parts : Trees) (binding : Binding) (m : Meaning) → binding_of form ≡ binding → IsOneOf text (binders form parts) m → IsOneOf text (bound_as binding (all_placed parts ++ all_grouped parts)) m
  binders-one form parts binding m e one = by_group (is_group form) one
    where
      by_group : (group : Bool) → IsOneOf text (cond group [] (bound_as (binding_of form) (all_placed parts ++ all_grouped parts))) m → IsOneOf text (bound_as binding (all_placed parts ++ all_grouped parts)) m
      by_group true none = absurd none
      by_group false here = subst (λ b. IsOneOf text (bound_as b (all_placed parts ++ all_grouped parts)) m) e here

  -- ---- what was seen

  pub counted-seen : (names : List Binder) (seen : Meaning → Bool) (m : Meaning) → 1 ≤ times text m names → seen-with text names seen m ≡ true
  counted-seen [] seen m some = absurd (omega (arith, some))
  counted-seen (x ∷ rest) seen m some = by_sameness (same_meaning m (meant text x)) some (counted-seen rest seen m)
    where
      by_sameness : (b : Bool) → 1 ≤ mark b + times text m rest → (1 ≤ times text m rest → seen-with text rest seen m ≡ true) → cond b true (seen-with text rest seen m) ≡ true
      by_sameness true l again = refl
      by_sameness false l again = again (omega (arith, l))

  counted-unseen : (seen : Meaning → Bool) (names : List Binder) (m : Meaning) → Fresh text seen names → 1 ≤ times text m names → seen m ≡ false
  counted-unseen seen names m fresh some = by_mark (seen m) (fresh m)
    where
      by_mark : (b : Bool) → times text m names + mark b ≤ 1 → b ≡ false
      by_mark true l = absurd (omega (arith, l, some))
      by_mark false l = refl

  -- ---- what names stand for and where they lead

  places-other : (names : List Binder) (stands : Meaning → Stand) (place : ℕ) (m : Meaning) → times text m names ≡ 0 → with_places stands (map (meant text) names) place m ≡ stands m
  places-other [] stands place m none = refl
  places-other (x ∷ rest) stands place m none =
      places-other rest (with_stand stands (meant text x) (Place place (order_of (meant text x)))) (suc place) m (rest-none text x rest m none)
      ∙ ap (λ b. cond b (Place place (order_of (meant text x))) (stands m)) (first-unlike text x rest m none)

  places-in : (names : List Binder) (stands : Meaning → Stand) (place : ℕ) (m : Meaning) → IsOneOf text names m → times text m names ≤ 1 → (p : ℕ) × (with_places stands (map (meant text) names) place m ≡ Place p (order_of m))
  places-in [] stands place m one l = absurd one
  places-in (x ∷ rest) stands place m (inl same) l =
      let once : mark (same_meaning m (meant text x)) ≡ 1 = ap mark (ap (λ n. same_meaning m n) (sym same) ∙ meaning-itself m) in (
        place,
        places-other rest (with_stand stands (meant text x) (Place place (order_of (meant text x)))) (suc place) m (omega (arith, l, once))
            ∙ ap (λ b. cond b (Place place (order_of (meant text x))) (stands m)) (standing-equal m (meant text x) same)
            ∙ ap (λ n. Place place (order_of n)) (sym same),
      )
  places-in (x ∷ rest) stands place m (inr one) l =
      places-in rest (with_stand stands (meant text x) (Place place (order_of (meant text x)))) (suc place) m one (omega (arith, l))

  pub stands-other : (names : List Binder) (stands : Meaning → Stand) (stand : Stand) (m : Meaning) → times text m names ≡ 0 → with_stands stands (map (meant text) names) stand m ≡ stands m
  stands-other [] stands stand m none = refl
  stands-other (x ∷ rest) stands stand m none =
      stands-other rest (with_stand stands (meant text x) stand) stand m (rest-none text x rest m none)
      ∙ ap (λ b. cond b stand (stands m)) (first-unlike text x rest m none)

  stands-kept : (names : List Binder) (stands : Meaning → Stand) (stand : Stand) (m : Meaning) → stands m ≡ stand → with_stands stands (map (meant text) names) stand m ≡ stand
  stands-kept [] stands stand m is = is
  stands-kept (x ∷ rest) stands stand m is = stands-kept rest (with_stand stands (meant text x) stand) stand m (by_sameness (same_standing m (meant text x)))
    where
      by_sameness : (b : Bool) → cond b stand (stands m) ≡ stand
      by_sameness true = refl
      by_sameness false = is

  pub stands-in : (names : List Binder) (stands : Meaning → Stand) (stand : Stand) (m : Meaning) → IsOneOf text names m → with_stands stands (map (meant text) names) stand m ≡ stand
  stands-in [] stands stand m one = absurd one
  stands-in (x ∷ rest) stands stand m (inl same) =
      stands-kept rest (with_stand stands (meant text x) stand) stand m
      (ap (λ b. cond b stand (stands m)) (standing-equal m (meant text x) same))
  stands-in (x ∷ rest) stands stand m (inr one) = stands-in rest (with_stand stands (meant text x) stand) stand m one

-- where each meaning leads is by what it stands for
abbrev pub LeadsBy : (Meaning → Stand) → Leads → Type 0
LeadsBy stands leads = (m : Meaning) (names : List Named) → leads m names ≡ lead_by (stands m) names

lead-with : (stands : Meaning → Stand) (leads : Leads) (meaning : Meaning) (stand : Stand) (lead : List Named → Lead) → LeadsBy stands leads → ((names : List Named) → lead names ≡ lead_by stand names) → LeadsBy (with_stand stands meaning stand) (with_lead leads meaning lead)
lead-with stands leads meaning stand lead all one m names = by_sameness (same_standing m meaning)
  where
    by_sameness : (b : Bool) → cond b (lead names) (leads m names) ≡ lead_by (cond b stand (stands m)) names
    by_sameness true = one names
    by_sameness false = all m names

pub leads-with : (meanings : List Meaning) (stands : Meaning → Stand) (leads : Leads) (stand : Stand) (lead : List Named → Lead) → LeadsBy stands leads → ((names : List Named) → lead names ≡ lead_by stand names) → LeadsBy (with_stands stands meanings stand) (with_leads leads meanings lead)
leads-with [] stands leads stand lead all one = all
leads-with (m ∷ rest) stands leads stand lead all one =
    leads-with rest (with_stand stands m stand) (with_lead leads m lead) stand lead (lead-with stands leads m stand lead all one) one

places-with : (meanings : List Meaning) (stands : Meaning → Stand) (leads : Leads) (place : ℕ) → LeadsBy stands leads → LeadsBy (with_places stands meanings place) (with_lead_places leads meanings place)
places-with [] stands leads place all = all
places-with (m ∷ rest) stands leads place all =
    places-with rest (with_stand stands m (Place place (order_of m))) (with_lead leads m (only (end.Place place (order_of m)))) (suc place)
    (lead-with stands leads m (Place place (order_of m)) (only (end.Place place (order_of m))) all (λ names. refl))

-- ---- all that is known

not-true : (b : Bool) → not b ≡ true → b ≡ false
not-true true e = cc
not-true false e = refl

module _ (flat : FlatModule) (text : Text) (known : Known) (named : List ℕ → Outside) (faces : List ℕ → FlatFace) (nameable : List ℕ → Bool) where
  -- names that can be used were seen, and nothing is said of others
  pub record HasSeen (seen : Meaning → Bool) (layout : Layout) : Type 0 where
    pub context : (name : Named) (m : Meaning) → meaning_of layout.context name ≡ Some m → seen m ≡ true
    pub stands : (m : Meaning) → seen m ≡ false → layout.stands m ≡ unsaid_stand m

  -- what is known round a tree
  pub record Knows (layout : Layout) (setting : Setting) (seen : Meaning → Bool) : Type 0 where
    pub settings : IsSettingOf layout setting
    pub orders : KeepsOrders known layout
    pub all_seen : HasSeen seen layout
    pub modules : AreFacesOf flat nameable (λ m. not (seen m)) layout.stands faces named

  -- where more names were seen, which came to stand for something, and others stand for the same, and so do bound ones
  face-moved : (seen : Meaning → Bool) (names : List Binder) (here next : Meaning → Stand) (face : FlatFace) (outside : Outside) → Fresh text seen names → ((m : Meaning) → times text m names ≡ 0 → next m ≡ here m) → ((m : Meaning) → is_bound m ≡ true → next m ≡ here m) → IsFaceOf flat (λ m. not (seen m)) here face outside → IsFaceOf flat (λ m. not (seen-with text names seen m)) next face outside
  face-moved seen names here next face outside fresh same bound is =
      record {
        base = is.base;
        inner = is.inner;
        leads = is.leads;
        kept = is.kept;
        takes = is.takes;
        apart = is.apart;
        symbols = λ m. by_times m (times text m names) refl;
        unsaid = λ m none free. is.unsaid m (ap not (unseen-before text names seen m (not-true (seen-with text names seen m) none)).0) free;
      }
    where
      by_times : (m : Meaning) (n : ℕ) → times text m names ≡ n → StandsAs face.outer (is.base m) (next m)
      by_times m zero e = subst (λ stand. StandsAs face.outer (is.base m) stand) (sym (same m e)) (is.symbols m)
      by_times m (suc n) e = by_bound (is_bound m) refl
        where
          by_bound : (b : Bool) → is_bound m ≡ b → StandsAs face.outer (is.base m) (next m)
          by_bound true e_bound = subst (λ stand. StandsAs face.outer (is.base m) stand) (sym (bound m e_bound)) (is.symbols m)
          by_bound false free =
              let some : 1 ≤ times text m names = omega (arith, e) in
              subst (λ stand. StandsAs face.outer stand (next m)) (sym (is.unsaid m (ap not (counted-unseen text seen names m fresh some)) free)) tt

  -- the same of all that is known, where a context brings names that were there before, or that are these and take what they stand for
  moved : (layout next : Layout) (setting then : Setting) (seen : Meaning → Bool) (names : List Binder) → Knows layout setting seen → Fresh text seen names → IsSettingOf next then → ((m : Meaning) → times text m names ≡ 0 → next.stands m ≡ layout.stands m) → ((m : Meaning) → is_bound m ≡ true → next.stands m ≡ layout.stands m) → ((name : Named) (m : Meaning) → meaning_of next.context name ≡ Some m → (meaning_of layout.context name ≡ Some m) ⊎ ((1 ≤ times text m names) × TakesAs (next.stands m) (behind_meaning known (Some m)) m)) → Knows next then (seen-with text names seen)
  moved layout next setting then seen names knows fresh settings same bound brings =
      record {
        settings = settings;
        orders = λ name m e. by_orders name m (brings name m e);
        all_seen = record {
          context = λ name m e. by_seen name m (brings name m e);
          stands = λ m none. let before = unseen-before text names seen m none in same m before.1 ∙ knows.all_seen.stands m before.0;
        };
        modules = λ name can. face-moved seen names layout.stands next.stands (faces name) (named name) fresh same bound (knows.modules name can);
      }
    where
      by_orders : (name : Named) (m : Meaning) → ((meaning_of layout.context name ≡ Some m) ⊎ ((1 ≤ times text m names) × TakesAs (next.stands m) (behind_meaning known (Some m)) m)) → TakesAs (next.stands m) (behind_meaning known (Some m)) m
      by_orders name m (inl before) =
          let is = knows.all_seen.context name m before in
          let none : times text m names ≡ 0 = seen-none text seen names m fresh is in
          subst (λ stand. TakesAs stand (behind_meaning known (Some m)) m) (sym (same m none)) (knows.orders name m before)
      by_orders name m (inr new) = new.1

      by_seen : (name : Named) (m : Meaning) → ((meaning_of layout.context name ≡ Some m) ⊎ ((1 ≤ times text m names) × TakesAs (next.stands m) (behind_meaning known (Some m)) m)) → seen-with text names seen m ≡ true
      by_seen name m (inl before) = seen-still text names seen m (knows.all_seen.context name m before)
      by_seen name m (inr new) = counted-seen text names seen m new.0

  -- with other nodes that `@` repeats
  pub repeating-known : (layout : Layout) (setting : Setting) (seen : Meaning → Bool) (olds : List ℕ) → Knows layout setting seen → Knows (layout_repeating layout olds) (repeating setting olds) seen
  repeating-known layout setting seen olds knows =
      record {
        settings = record { leads = knows.settings.leads; places = knows.settings.places; olds = refl };
        orders = knows.orders;
        all_seen = record { context = knows.all_seen.context; stands = knows.all_seen.stands };
        modules = knows.modules;
      }

  module _ (layout : Layout) (setting : Setting) (seen : Meaning → Bool) (knows : Knows layout setting seen) (form : Form.the_data) (s : Span) (parts : Trees) where
    -- the names of the form
    abbrev pub scoped : List Binder
    scoped = defined form parts ++ binders form parts

    -- a name was there before, or is one of these and takes what it stands for
    abbrev Brings : (Meaning → Stand) → Named → Meaning → Type 0
    Brings stands name m = (meaning_of layout.context name ≡ Some m) ⊎ ((1 ≤ times text m scoped) × TakesAs (stands m) (behind_meaning known (Some m)) m)

    right-counts : (m : Meaning) → IsOneOf text (binders form parts) m → 1 ≤ times text m scoped
    right-counts m one = let a = one-counts text (binders form parts) m one in let b = times-append text m (defined form parts) (binders form parts) in omega (arith, a, b)

    own-counts : (l : Lexeme) (m : Meaning) → form ≡ Form.FunctionDefinition l → m ≡ Declared (entity.Bound false) (own text l) → 1 ≤ times text m scoped
    own-counts l m e same =
        let b = times-append text m (defined form parts) (binders form parts) in
        let a : times text m (defined form parts) ≡ times text m (defined (Form.FunctionDefinition l) parts) = ap (λ g. times text m (defined g parts)) e in
        let c : same_meaning m (meant text (record { name = l; entity = entity.Definition [] })) ≡ true =
        ap (λ n. same_meaning n (meant text (record { name = l; entity = entity.Definition [] }))) same ∙ meaning-itself (meant text (record { name = l; entity = entity.Definition [] })) in
        let d : mark (same_meaning m (meant text (record { name = l; entity = entity.Definition [] }))) ≡ 1 = ap mark c in
        omega (arith, a, b, d)

    module _ (fresh : Fresh text seen scoped) where
      -- round the parts of a form that stand outside of its scope
      pub before-known : Knows (layout_before text layout form parts) setting (seen-with text scoped seen)
      before-known =
          moved layout (layout_before text layout form parts) setting setting seen scoped knows fresh
          (record { leads = knows.settings.leads; places = knows.settings.places; olds = knows.settings.olds }) (λ m none. refl) (λ m is. refl)
          (λ name m e. inl (reserve-all-gives text (defined form parts) layout.context name m e))

      -- a bound name is a leaf
      bound-takes : (state : Bool) (callee : Callee) (m : Meaning) → m ≡ Declared (entity.Bound state) callee → 1 ≤ times text m scoped → TakesAs (layout.stands m) (behind_meaning known (Some m)) m
      bound-takes state callee m same some =
          let stand : layout.stands m ≡ unsaid_stand (Declared (entity.Bound state) callee) =
          knows.all_seen.stands m (counted-unseen text seen scoped m fresh some) ∙ ap unsaid_stand same in
          subst (λ z. TakesAs z (behind_meaning known (Some m)) m) (sym stand)
          (subst (λ n. TakesAs (unsaid_stand (Declared (entity.Bound state) callee)) (behind_meaning known (Some n)) n) (sym same) (tt, refl))

      -- in the scope of bound names
      pub scope-known : (state : Bool) → binding_of form ≡ as_binding.Bound state → Knows (layout_in text layout form parts) setting (seen-with text scoped seen)
      scope-known state binding =
          moved layout (layout_in text layout form parts) setting setting seen scoped knows fresh
          (record { leads = knows.settings.leads; places = knows.settings.places; olds = knows.settings.olds }) (λ m none. refl) (λ m is. refl)
          (λ name m e. by_scope name m (bind-all-gives text (binders form parts) (inside text layout.context form parts) name m e))
        where
          by_inside : (name : Named) (m : Meaning) → ((meaning_of layout.context name ≡ Some m) ⊎ ((l : Lexeme) × (form ≡ Form.FunctionDefinition l) × (m ≡ Declared (entity.Bound false) (own text l)))) → Brings layout.stands name m
          by_inside name m (inl before) = inl before
          by_inside name m (inr (l, is, same)) = let some = own-counts l m is same in inr (some, bound-takes false (own text l) m same some)

          by_scope : (name : Named) (m : Meaning) → ((meaning_of (inside text layout.context form parts) name ≡ Some m) ⊎ IsOneOf text (binders form parts) m) → Brings layout.stands name m
          by_scope name m (inl here) = by_inside name m (inside-gives text layout.context form parts name m here)
          by_scope name m (inr one) =
              let some = right-counts m one in
              let bound = bound-one text state (all_placed parts ++ all_grouped parts) m (binders-one text form parts (as_binding.Bound state) m binding one) in
              inr (some, bound-takes state bound.0 m bound.1 some)

      -- in the scope of parameters, at the next places
      pub parameters-known : binding_of form ≡ as_binding.Parameter → Knows (layout_with text layout form parts) (with_parameters text setting form parts) (seen-with text scoped seen)
      parameters-known binding =
          moved layout (layout_with text layout form parts) setting (with_parameters text setting form parts) seen scoped knows fresh
          (record {
            leads = subst (λ place. LeadsBy (with_places layout.stands (parameters_of text form parts) place) (with_parameters text setting form parts).leads) (sym knows.settings.places)
                (places-with (parameters_of text form parts) layout.stands setting.leads (length setting.frame) knows.settings.leads);
            places = ap (λ n. n + length (parameters_of text form parts)) knows.settings.places ∙ sym (length-append setting.frame (parameters_of text form parts));
            olds = knows.settings.olds;
          })
          (λ m none. places-other text (binders form parts) layout.stands layout.places m (let b = times-append text m (defined form parts) (binders form parts) in omega (arith, b, none)))
          (λ m is. places-left m is (parameters_of text form parts) layout.stands layout.places (parameters-free text form parts binding))
          (λ name m e. by_scope name m (bind-all-gives text (binders form parts) (inside text layout.context form parts) name m e))
        where
          by_inside : (name : Named) (m : Meaning) → ((meaning_of layout.context name ≡ Some m) ⊎ ((l : Lexeme) × (form ≡ Form.FunctionDefinition l) × (m ≡ Declared (entity.Bound false) (own text l)))) → Brings (layout_with text layout form parts).stands name m
          by_inside name m (inl before) = inl before
          by_inside name m (inr (l, is, same)) = let other : as_binding.Bound false ≡ as_binding.Parameter = sym (ap binding_of is) ∙ binding in cc

          by_scope : (name : Named) (m : Meaning) → ((meaning_of (inside text layout.context form parts) name ≡ Some m) ⊎ IsOneOf text (binders form parts) m) → Brings (layout_with text layout form parts).stands name m
          by_scope name m (inl here) = by_inside name m (inside-gives text layout.context form parts name m here)
          by_scope name m (inr one) =
              let some = right-counts m one in
              let once : times text m (binders form parts) ≤ 1 = let a = fresh m in let b = times-append text m (defined form parts) (binders form parts) in omega (arith, a, b) in
              let stand = places-in text (binders form parts) layout.stands layout.places m one once in
              let bound = parameter-one text (all_placed parts ++ all_grouped parts) m (binders-one text form parts as_binding.Parameter m binding one) in
              inr (
                some,
                subst (λ z. TakesAs z (behind_meaning known (Some m)) m) (sym stand.1)
                    (subst (λ n. TakesAs (Place stand.0 (order_of n)) (behind_meaning known (Some n)) n) (sym bound.2) (tt, refl, refl)),
              )

    -- behind a definition, whose name stands for what takes what it takes
    pub behind-known : (stand : Stand) (lead : List Named → Lead) → Fresh text seen (defined form parts) → ((names : List Named) → lead names ≡ lead_by stand names) → ((m : Meaning) → IsOneOf text (defined form parts) m → TakesAs stand (behind_meaning known (Some m)) m) → Knows (layout_behind text layout (Node form s parts) stand) (behind text setting (Node form s parts) lead) (seen-with text (defined form parts) seen)
    behind-known stand lead fresh leads takes =
        moved layout (layout_behind text layout (Node form s parts) stand) setting (behind text setting (Node form s parts) lead) seen (defined form parts) knows fresh
        (record {
          leads = leads-with (map (meant text) (defined form parts)) layout.stands setting.leads stand lead knows.settings.leads leads;
          places = knows.settings.places;
          olds = knows.settings.olds;
        })
        (λ m none. stands-other text (defined form parts) layout.stands stand m none)
        (λ m is. stands-left m is (map (meant text) (defined form parts)) layout.stands stand (definition-free text form parts))
        (λ name m e. by_bind name m (bind-all-gives text (defined form parts) layout.context name m e))
      where
        by_bind : (name : Named) (m : Meaning) → ((meaning_of layout.context name ≡ Some m) ⊎ IsOneOf text (defined form parts) m) → (meaning_of layout.context name ≡ Some m) ⊎ ((1 ≤ times text m (defined form parts)) × TakesAs ((layout_behind text layout (Node form s parts) stand).stands m) (behind_meaning known (Some m)) m)
        by_bind name m (inl before) = inl before
        by_bind name m (inr one) =
            inr (one-counts text (defined form parts) m one, subst (λ z. TakesAs z (behind_meaning known (Some m)) m) (sym (stands-in text (defined form parts) layout.stands stand m one)) (takes m one))
