-- What is known round a tree stays known in scopes, with parameters and behind definitions.
use Rattle.std.proofs.Common.{◌≡◌, ℕ, suc, ◌+◌, ◌≤◌, Bool, true, false, cond, List, [], ◌∷◌, ◌++◌, Option, Some, None, length, map, refl, sym, ap, ◌∙◌, subst, ◌⊎◌, inl, inr, arith}
use Rattle.std.specs.List.{AllByRecursion}
use Rattle.tla_symbols.specs.declared.lexeme.Lexeme.{Lexeme}
use Rattle.tla_symbols.specs.declared.lexeme.Span.{Span}
use Rattle.tla_tree.specs.declared.form.Form.TheVariants as Form
use Rattle.tla_tree.specs.Syntax.{Trees, Node}
use Rattle.tla_model.specs.declared.entity.Entity.TheVariants as entity
use Rattle.tla_model.specs.declared.names.Binder.{Binder}
use Rattle.tla_model.specs.declared.names.Binding.TheVariants as as_binding
use Rattle.tla_model.specs.declared.names.Meaning.TheVariants.{Declared}
use Rattle.tla_model.specs.Tables.{Named, find, put}
use Rattle.tla_model.specs.Entities.{Meaning, Text, all_placed, binding_of, bound_as, defined, is_group, meant, name_of, own, same_meaning}
use Rattle.tla_model.specs.Contexts.{Context, bind, bind_all, meaning_of, reserve_all}
use Rattle.tla_model.specs.Contexts as contexts
use Rattle.tla_model.specs.Scopes.{all_grouped, behind, binders, inside, reserved, scope}
use Rattle.tla_model.specs.Same.{meaning-itself}
use Rattle.module_model.specs.Exports.{Behind, Known, behind_meaning}
use Rattle.model_laws.proofs.Settling.{put-gives}
use Rattle.kind_text.specs.FlatModule.{FlatModule}
use Rattle.tree_kinds.specs.Standing.{Reached, same_standing}
use Rattle.tree_kinds.proofs.Standings.{standing-equal, standing-means}
use Rattle.tree_kinds.specs.TreeDepths.{Depths, with_depth}
use Rattle.flat_trees.specs.Stands.{Stand, Place}
use Rattle.flat_trees.specs.Layouts.{order_of, parameters_of, with_places, with_stand, with_stands}
use Rattle.flat_depths.specs.Depths.{HasDepths, HaveDepths, IsPlain}
use Rattle.flat_depths.proofs.Agreeing.{places-deep, with-stands-deep}
use Rattle.flattened_trees.specs.declared.End.TheVariants as end
use Rattle.flattened_trees.specs.Leads.{Lead, Leads, Setting, only, repeating, with_lead, with_leads, with_parameters}
use Rattle.flattened_trees.specs.Leads as leads_of
use Rattle.flattened_trees.specs.Agreeing.{TakesAs, is_seen, lead_by, unsaid_stand}
use Rattle.flattened_depths.specs.Rounds.{ArePlain, TakesParameters}
use Rattle.flattened_depths.proofs.Counting.{New, and_seen, first-unlike, new-fewer, not-seen, rest-none, seen-alike, seen-none, still-seen, times, times-joins}

-- ---- what contexts have

-- what a name means that was bound, or before
put-means : (context : Context) (name : Named) (value : Option Meaning) (other : Named) (meaning : Meaning) → meaning_of (put context name value) other ≡ Some meaning → (meaning_of context other ≡ Some meaning) ⊎ (value ≡ Some meaning)
put-means context name value other meaning e = by_found (find (put context name value) other) refl e
  where
    found : (o : Option (Option Meaning)) (m : Option Meaning) → o ≡ Some m → m ≡ Some meaning → contexts.usable o ≡ Some meaning
    found o m e f = ap contexts.usable e ∙ f

    by_found : (o : Option (Option Meaning)) → find (put context name value) other ≡ o → contexts.usable o ≡ Some meaning → (meaning_of context other ≡ Some meaning) ⊎ (value ≡ Some meaning)
    by_found None e f = cc
    by_found (Some m) e f = elim (put-gives context name value other m e) [ inl there ↦ inl (found (find context other) m there f) | inr same ↦ inr (same ∙ f) ]

module _ (text : Text) where
  -- this means what one of these names does
  abbrev pub Among : Meaning → List Binder → Type 0
  Among meaning [] = ⊥
  Among meaning (b ∷ rest) = (meant text b ≡ meaning) ⊎ Among meaning rest

  pub bound-means : (binders : List Binder) (context : Context) (name : Named) (meaning : Meaning) → meaning_of (bind_all text context binders) name ≡ Some meaning → (meaning_of context name ≡ Some meaning) ⊎ Among meaning binders
  bound-means [] context name meaning e = inl e
  bound-means (b ∷ rest) context name meaning e = elim (bound-means rest (bind text context b) name meaning e) [
    | inl before ↦ elim (put-means context (name_of text.source b.name) (Some (meant text b)) name meaning before) [ inl there ↦ inl there | inr same ↦ inr (inl cc) ]
    | inr among ↦ inr (inr among)
  ]

  reserved-means : (names : List Binder) (context : Context) (name : Named) (meaning : Meaning) → meaning_of (reserve_all text context names) name ≡ Some meaning → meaning_of context name ≡ Some meaning
  reserved-means [] context name meaning e = e
  reserved-means (b ∷ rest) context name meaning e = elim (put-means context (name_of text.source b.name) None name meaning (reserved-means rest (put context (name_of text.source b.name) None) name meaning e)) [ inl there ↦ there | inr none ↦ absurd (cc none) ]

  among-times : (meaning : Meaning) (names : List Binder) → Among meaning names → 1 ≤ times text meaning names
  among-times meaning [] among = absurd among
  among-times meaning (b ∷ rest) (inl same) = let e = ap {B = ℕ} (λ t. cond t 1 0) (ap (same_meaning meaning) same ∙ meaning-itself meaning) in omega (arith, e)
  among-times meaning (b ∷ rest) (inr among) = let e = among-times meaning rest among in omega (arith, e)

  times-seen : (meaning : Meaning) (names : List Binder) (seen : List Meaning) → 1 ≤ times text meaning names → is_seen (and_seen text names seen) meaning ≡ true
  times-seen meaning [] seen l = absurd (omega arith)
  times-seen meaning (b ∷ rest) seen l = by_same (same_meaning meaning (meant text b)) l (times-seen meaning rest seen)
    where
      by_same : (t : Bool) → 1 ≤ cond t 1 0 + times text meaning rest → (1 ≤ times text meaning rest → is_seen (and_seen text rest seen) meaning ≡ true) → cond t true (is_seen (and_seen text rest seen) meaning) ≡ true
      by_same true l next = refl
      by_same false l next = next (omega (arith, l))

  times-new : (meaning : Meaning) (names : List Binder) (seen : List Meaning) → New text seen names → 1 ≤ times text meaning names → is_seen seen meaning ≡ false
  times-new meaning names seen new l = by_seen (is_seen seen meaning) (new meaning)
    where
      by_seen : (t : Bool) → times text meaning names + cond t 1 0 ≤ 1 → t ≡ false
      by_seen true k = absurd (omega (arith, l, k))
      by_seen false k = refl

  right-times : (meaning : Meaning) (a b : List Binder) → 1 ≤ times text meaning b → 1 ≤ times text meaning (a ++ b)
  right-times meaning a b l = let e = times-joins text meaning a b in omega (arith, l, e)

  left-times : (meaning : Meaning) (a b : List Binder) → 1 ≤ times text meaning a → 1 ≤ times text meaning (a ++ b)
  left-times meaning a b l = let e = times-joins text meaning a b in omega (arith, l, e)

  -- ---- bound names

  takes-bound : (state : Bool) (names : List (Lexeme × ℕ)) (held : Behind) (meaning : Meaning) → Among meaning (bound_as (as_binding.Bound state) names) → TakesAs (unsaid_stand meaning) held meaning
  takes-bound state [] held meaning among = absurd among
  takes-bound state (n ∷ rest) held meaning (inl same) = subst (λ (m : Meaning). TakesAs (unsaid_stand m) held m) same (tt, refl)
  takes-bound state (n ∷ rest) held meaning (inr among) = takes-bound state rest held meaning among

  binders-bound : (state : Bool) (form : Form.the_data) (parts : Trees) (held : Behind) (meaning : Meaning) → binding_of form ≡ as_binding.Bound state → Among meaning (binders form parts) → TakesAs (unsaid_stand meaning) held meaning
  binders-bound state form parts held meaning e among = by_group (is_group form) among
    where
      by_group : (b : Bool) → Among meaning (cond b [] (bound_as (binding_of form) (all_placed parts ++ all_grouped parts))) → TakesAs (unsaid_stand meaning) held meaning
      by_group true among = absurd among
      by_group false among = takes-bound state (all_placed parts ++ all_grouped parts) held meaning (subst (λ binding. Among meaning (bound_as binding (all_placed parts ++ all_grouped parts))) e among)

  -- ---- parameters

  places-other : (names : List Binder) (stands : Meaning → Stand) (place : ℕ) (m : Meaning) → times text m names ≡ 0 → with_places stands (map (meant text) names) place m ≡ stands m
  places-other [] stands place m e = refl
  places-other (b ∷ rest) stands place m e =
      places-other rest (with_stand stands (meant text b) (Place place (order_of (meant text b)))) (suc place) m (rest-none text b rest m e)
      ∙ ap (λ t. cond t (Place place (order_of (meant text b))) (stands m)) (first-unlike text b rest m e)

  places-own : (names : List Binder) (stands : Meaning → Stand) (place : ℕ) (m : Meaning) → times text m names ≤ 1 → Among m names → (at : ℕ) × (with_places stands (map (meant text) names) place m ≡ Place at (order_of m))
  places-own [] stands place m few among = absurd among
  places-own (b ∷ rest) stands place m few (inl same) =
      let one = ap {B = ℕ} (λ t. cond t 1 0) (ap (same_meaning m) same ∙ meaning-itself m) in (
        place,
        places-other rest (with_stand stands (meant text b) (Place place (order_of (meant text b)))) (suc place) m (omega (arith, few, one))
            ∙ ap (λ t. cond t (Place place (order_of (meant text b))) (stands m)) (standing-equal m (meant text b) (sym same))
            ∙ ap (λ x. Place place (order_of x)) same,
      )
  places-own (b ∷ rest) stands place m few (inr among) = places-own rest (with_stand stands (meant text b) (Place place (order_of (meant text b)))) (suc place) m (omega (arith, few)) among

  -- a parameter takes as many arguments as its order says
  takes-parameter : (names : List (Lexeme × ℕ)) (held : Behind) (at : ℕ) (meaning : Meaning) → Among meaning (bound_as as_binding.Parameter names) → TakesAs (Place at (order_of meaning)) held meaning
  takes-parameter [] held at meaning among = absurd among
  takes-parameter (n ∷ rest) held at meaning (inl same) = subst (λ (m : Meaning). TakesAs (Place at (order_of m)) held m) same (tt, refl, refl)
  takes-parameter (n ∷ rest) held at meaning (inr among) = takes-parameter rest held at meaning among

  binders-placed : (form : Form.the_data) (parts : Trees) (held : Behind) (at : ℕ) (meaning : Meaning) → binding_of form ≡ as_binding.Parameter → Among meaning (binders form parts) → TakesAs (Place at (order_of meaning)) held meaning
  binders-placed form parts held at meaning e among = by_group (is_group form) among
    where
      by_group : (b : Bool) → Among meaning (cond b [] (bound_as (binding_of form) (all_placed parts ++ all_grouped parts))) → TakesAs (Place at (order_of meaning)) held meaning
      by_group true among = absurd among
      by_group false among = takes-parameter (all_placed parts ++ all_grouped parts) held at meaning (subst (λ binding. Among meaning (bound_as binding (all_placed parts ++ all_grouped parts))) e among)

  places-lead : (meanings : List Meaning) (leads : Leads) (stands : Meaning → Stand) (place : ℕ) → ((m : Meaning) (names : List Named) → leads m names ≡ lead_by (stands m) names) → (m : Meaning) (names : List Named) → leads_of.with_places leads meanings place m names ≡ lead_by (with_places stands meanings place m) names
  places-lead [] leads stands place same m names = same m names
  places-lead (meaning ∷ rest) leads stands place same m names =
      places-lead rest (with_lead leads meaning (only (end.Place place (order_of meaning)))) (with_stand stands meaning (Place place (order_of meaning))) (suc place) (λ other more. by_same other more (same_standing other meaning)) m names
    where
      by_same : (m : Meaning) (names : List Named) (t : Bool) → cond t (only (end.Place place (order_of meaning)) names) (leads m names) ≡ lead_by (cond t (Place place (order_of meaning)) (stands m)) names
      by_same m names true = refl
      by_same m names false = same m names

  -- ---- definitions

  stands-other : (names : List Binder) (stands : Meaning → Stand) (stand : Stand) (m : Meaning) → times text m names ≡ 0 → with_stands stands (map (meant text) names) stand m ≡ stands m
  stands-other [] stands stand m e = refl
  stands-other (b ∷ rest) stands stand m e =
      stands-other rest (with_stand stands (meant text b) stand) stand m (rest-none text b rest m e) ∙ ap (λ t. cond t stand (stands m)) (first-unlike text b rest m e)

  stands-kept : (meanings : List Meaning) (stands : Meaning → Stand) (stand : Stand) (m : Meaning) → stands m ≡ stand → with_stands stands meanings stand m ≡ stand
  stands-kept [] stands stand m e = e
  stands-kept (meaning ∷ rest) stands stand m e = stands-kept rest (with_stand stands meaning stand) stand m (by_same (same_standing m meaning))
    where
      by_same : (t : Bool) → cond t stand (stands m) ≡ stand
      by_same true = refl
      by_same false = e

  stands-own : (names : List Binder) (stands : Meaning → Stand) (stand : Stand) (m : Meaning) → Among m names → with_stands stands (map (meant text) names) stand m ≡ stand
  stands-own [] stands stand m among = absurd among
  stands-own (b ∷ rest) stands stand m (inl same) =
      stands-kept (map (meant text) rest) (with_stand stands (meant text b) stand) stand m (ap (λ (t : Bool). cond t stand (stands m)) (standing-equal m (meant text b) (sym same)))
  stands-own (b ∷ rest) stands stand m (inr among) = stands-own rest (with_stand stands (meant text b) stand) stand m among

  depths-other : (names : List Binder) (depths : Depths) (reached : List Named → Reached) (m : Meaning) (path : List Named) → times text m names ≡ 0 → with_depth depths (map (meant text) names) reached m path ≡ depths m path
  depths-other [] depths reached m path e = refl
  depths-other (b ∷ rest) depths reached m path e =
      ap (λ t. cond t (reached path) (with_depth depths (map (meant text) rest) reached m path)) (first-unlike text b rest m e) ∙ depths-other rest depths reached m path (rest-none text b rest m e)

  definitions-lead : (meanings : List Meaning) (leads : Leads) (stands : Meaning → Stand) (lead : List Named → Lead) (stand : Stand) → ((names : List Named) → lead names ≡ lead_by stand names) → ((m : Meaning) (names : List Named) → leads m names ≡ lead_by (stands m) names) → (m : Meaning) (names : List Named) → with_leads leads meanings lead m names ≡ lead_by (with_stands stands meanings stand m) names
  definitions-lead [] leads stands lead stand one same m names = same m names
  definitions-lead (meaning ∷ rest) leads stands lead stand one same m names =
      definitions-lead rest (with_lead leads meaning lead) (with_stand stands meaning stand) lead stand one (λ other more. by_same other more (same_standing other meaning)) m names
    where
      by_same : (m : Meaning) (names : List Named) (t : Bool) → cond t (lead names) (leads m names) ≡ lead_by (cond t stand (stands m)) names
      by_same m names true = one names
      by_same m names false = same m names

  module _ (flat : FlatModule) (known : Known) where
    -- what is known round a tree, whatever its context
    pub record Round (seen : List Meaning) (stands : Meaning → Stand) (setting : Setting) (depths : Depths) : Type 0 where
      pub leads : (meaning : Meaning) (names : List Named) → setting.leads meaning names ≡ lead_by (stands meaning) names
      pub unsaid : (meaning : Meaning) → is_seen seen meaning ≡ false → stands meaning ≡ unsaid_stand meaning
      pub plain : ArePlain seen depths
      pub deep : HaveDepths flat stands depths
      pub parameters : (meaning : Meaning) → TakesParameters flat (stands meaning)

    -- names of a context can be used
    pub record Usable (seen : List Meaning) (stands : Meaning → Stand) (context : Context) : Type 0 where
      pub orders : (name : Named) (meaning : Meaning) → meaning_of context name ≡ Some meaning → TakesAs (stands meaning) (behind_meaning known (Some meaning)) meaning
      pub usable : (name : Named) (meaning : Meaning) → meaning_of context name ≡ Some meaning → is_seen seen meaning ≡ true

    -- ---- scopes

    pub repeating-round : (seen : List Meaning) (stands : Meaning → Stand) (setting : Setting) (depths : Depths) (olds : List ℕ) → Round seen stands setting depths → Round seen stands (repeating setting olds) depths
    repeating-round seen stands setting depths olds round = record { leads = round.leads; unsaid = round.unsaid; plain = round.plain; deep = round.deep; parameters = round.parameters }

    pub more-round : (names : List Binder) (seen : List Meaning) (stands : Meaning → Stand) (setting : Setting) (depths : Depths) → Round seen stands setting depths → Round (and_seen text names seen) stands setting depths
    more-round names seen stands setting depths round =
        record {
          leads = round.leads;
          unsaid = λ m e. round.unsaid m (not-seen text names seen m e).0;
          plain = λ m e. round.plain m (not-seen text names seen m e).0;
          deep = round.deep;
          parameters = round.parameters;
        }

    pub more-usable : (names : List Binder) (seen : List Meaning) (stands : Meaning → Stand) (context : Context) → Usable seen stands context → Usable (and_seen text names seen) stands context
    more-usable names seen stands context here = record { orders = here.orders; usable = λ name m e. still-seen text names seen m (here.usable name m e) }

    pub reserved-usable : (seen : List Meaning) (stands : Meaning → Stand) (context : Context) (form : Form.the_data) (parts : Trees) → Usable seen stands context → Usable seen stands (reserved text context form parts)
    reserved-usable seen stands context form parts here =
        record {
          orders = λ name m e. here.orders name m (reserved-means (defined form parts) context name m e);
          usable = λ name m e. here.usable name m (reserved-means (defined form parts) context name m e);
        }

    -- what a name means inside of a form is the function that is defined, or it meant that before
    abbrev pub OwnName : Form.the_data → Meaning → Type 0
    OwnName (Form.FunctionDefinition l) meaning = Declared (entity.Bound false) (own text l) ≡ meaning
    OwnName form meaning = ⊥

    inside-means : (context : Context) (form : Form.the_data) (parts : Trees) (name : Named) (meaning : Meaning) → meaning_of (inside text context form parts) name ≡ Some meaning → (meaning_of context name ≡ Some meaning) ⊎ OwnName form meaning
    inside-means context (Form.FunctionDefinition l) parts name meaning e = elim (put-means context (name_of text.source l) (Some (Declared (entity.Bound false) (own text l))) name meaning e) [ inl there ↦ inl there | inr same ↦ inr cc ]
    inside-means context form parts name meaning e = inl (reserved-means (defined form parts) context name meaning e)

    own-times : (form : Form.the_data) (parts : Trees) (meaning : Meaning) → OwnName form meaning → 1 ≤ times text meaning (defined form parts)
    own-times (Form.FunctionDefinition l) parts meaning same =
        subst (λ m. 1 ≤ times text m (defined (Form.FunctionDefinition l) parts)) same
        (let e = ap {B = ℕ} (λ t. cond t 1 0) (meaning-itself (Declared (entity.Bound false) (own text l))) in one _ e)
      where
        one : (n : ℕ) → n ≡ 1 → 1 ≤ n + 0
        one n e = omega (arith, e)
    own-times form parts meaning same = absurd same

    own-takes : (form : Form.the_data) (held : Behind) (meaning : Meaning) → OwnName form meaning → TakesAs (unsaid_stand meaning) held meaning
    own-takes (Form.FunctionDefinition l) held meaning same = subst (λ (m : Meaning). TakesAs (unsaid_stand m) held m) same (tt, refl)
    own-takes form held meaning same = absurd same

    -- in the scope of a form that binds names
    pub scope-usable : (seen : List Meaning) (stands : Meaning → Stand) (setting : Setting) (depths : Depths) (context : Context) (state : Bool) (form : Form.the_data) (parts : Trees) → binding_of form ≡ as_binding.Bound state → Round seen stands setting depths → Usable seen stands context → New text seen (defined form parts ++ binders form parts) → Usable (and_seen text (defined form parts ++ binders form parts) seen) stands (scope text context form parts)
    scope-usable seen stands setting depths context state form parts bound round here new =
        record { orders = λ name m e. (case name m e).0; usable = λ name m e. (case name m e).1 }
      where
        names : List Binder
        names = defined form parts ++ binders form parts

        fresh : (m : Meaning) → 1 ≤ times text m (defined form parts ++ binders form parts) → TakesAs (unsaid_stand m) (behind_meaning known (Some m)) m → TakesAs (stands m) (behind_meaning known (Some m)) m × (is_seen (and_seen text (defined form parts ++ binders form parts) seen) m ≡ true)
        fresh m l takes = (
          subst (λ stand. TakesAs stand (behind_meaning known (Some m)) m) (sym (round.unsaid m (times-new m (defined form parts ++ binders form parts) seen new l))) takes,
          times-seen m (defined form parts ++ binders form parts) seen l,
        )

        case : (name : Named) (m : Meaning) → meaning_of (scope text context form parts) name ≡ Some m → TakesAs (stands m) (behind_meaning known (Some m)) m × (is_seen (and_seen text (defined form parts ++ binders form parts) seen) m ≡ true)
        case name m e = elim (bound-means (binders form parts) (inside text context form parts) name m e) [
          | inl within ↦ elim (inside-means context form parts name m within) [
            | inl before ↦ (here.orders name m before, still-seen text (defined form parts ++ binders form parts) seen m (here.usable name m before))
            | inr same ↦ fresh m (left-times m (defined form parts) (binders form parts) (own-times form parts m same)) (own-takes form (behind_meaning known (Some m)) m same)
          ]
          | inr among ↦ fresh m (right-times m (defined form parts) (binders form parts) (among-times m (binders form parts) among)) (binders-bound state form parts (behind_meaning known (Some m)) m bound among)
        ]

    -- ---- parameters

    module _ (seen : List Meaning) (stands : Meaning → Stand) (setting : Setting) (depths : Depths) (form : Form.the_data) (parts : Trees) (round : Round seen stands setting depths) (new : New text seen (defined form parts ++ binders form parts)) where
      -- with the parameters of a form
      abbrev pub placed_stands : Meaning → Stand
      placed_stands = with_places stands (parameters_of text form parts) (length setting.frame)

      some-places : (names : List Binder) → New text seen names → AllByRecursion (IsPlain depths) (map (meant text) names)
      some-places [] new = tt
      some-places (b ∷ rest) new = (
        λ other e. round.plain other (seen-alike text seen other (meant text b) (standing-means other (meant text b) e) ∙ times-new (meant text b) (b ∷ rest) seen new (among-times (meant text b) (b ∷ rest) (inl refl))),
        some-places rest (new-fewer text (b ∷ rest) rest seen (λ m. omega arith) new),
      )

      parameters-take : (meanings : List Meaning) (before : Meaning → Stand) (place : ℕ) → ((m : Meaning) → TakesParameters flat (before m)) → (m : Meaning) → TakesParameters flat (with_places before meanings place m)
      parameters-take [] before place all m = all m
      parameters-take (meaning ∷ rest) before place all m = parameters-take rest (with_stand before meaning (Place place (order_of meaning))) (suc place) (λ other. by_same other (same_standing other meaning)) m
        where
          by_same : (m : Meaning) (t : Bool) → TakesParameters flat (cond t (Place place (order_of meaning)) (before m))
          by_same m true = tt
          by_same m false = all m

      no-parameter : (m : Meaning) → times text m (defined form parts ++ binders form parts) ≡ 0 → times text m (binders form parts) ≡ 0
      no-parameter m e = let j = times-joins text m (defined form parts) (binders form parts) in omega (arith, e, j)

      pub placed-round : Round (and_seen text (defined form parts ++ binders form parts) seen) placed_stands (with_parameters text setting form parts) depths
      placed-round =
          record {
            leads = places-lead (parameters_of text form parts) setting.leads stands (length setting.frame) round.leads;
            unsaid = λ m e.
                let one = not-seen text (defined form parts ++ binders form parts) seen m e in
                places-other (binders form parts) stands (length setting.frame) m (no-parameter m one.1) ∙ round.unsaid m one.0;
            plain = λ m e. round.plain m (not-seen text (defined form parts ++ binders form parts) seen m e).0;
            deep = places-deep flat (parameters_of text form parts) stands depths (length setting.frame) round.deep
                (some-places (binders form parts) (new-fewer text (defined form parts ++ binders form parts) (binders form parts) seen (λ m. let j = times-joins text m (defined form parts) (binders form parts) in omega (arith, j)) new));
            parameters = parameters-take (parameters_of text form parts) stands (length setting.frame) round.parameters;
          }

      -- names of a context still stand for what they did
      old-takes : (context : Context) → Usable seen stands context → (name : Named) (m : Meaning) → meaning_of context name ≡ Some m → TakesAs (placed_stands m) (behind_meaning known (Some m)) m
      old-takes context here name m e =
          subst (λ stand. TakesAs stand (behind_meaning known (Some m)) m) (sym (places-other (binders form parts) stands (length setting.frame) m (no-parameter m (seen-none text (defined form parts ++ binders form parts) seen m new (here.usable name m e)))))
          (here.orders name m e)

      pub outside-usable : (context : Context) → Usable seen stands context → Usable (and_seen text (defined form parts ++ binders form parts) seen) placed_stands (reserved text context form parts)
      outside-usable context here =
          record {
            orders = λ name m e. old-takes context here name m (reserved-means (defined form parts) context name m e);
            usable = λ name m e. still-seen text (defined form parts ++ binders form parts) seen m (here.usable name m (reserved-means (defined form parts) context name m e));
          }

      -- in the scope of an operator or a module definition
      pub placed-usable : (context : Context) → binding_of form ≡ as_binding.Parameter → ((m : Meaning) → OwnName form m → ⊥) → Usable seen stands context → Usable (and_seen text (defined form parts ++ binders form parts) seen) placed_stands (scope text context form parts)
      placed-usable context placed none here = record { orders = λ name m e. (case name m e).0; usable = λ name m e. (case name m e).1 }
        where
          case : (name : Named) (m : Meaning) → meaning_of (scope text context form parts) name ≡ Some m → TakesAs (placed_stands m) (behind_meaning known (Some m)) m × (is_seen (and_seen text (defined form parts ++ binders form parts) seen) m ≡ true)
          case name m e = elim (bound-means (binders form parts) (inside text context form parts) name m e) [
            | inl within ↦ elim (inside-means context form parts name m within) [
              | inl before ↦ (old-takes context here name m before, still-seen text (defined form parts ++ binders form parts) seen m (here.usable name m before))
              | inr same ↦ absurd (none m same)
            ]
            | inr among ↦
                let few = new m in
                let j = times-joins text m (defined form parts) (binders form parts) in
                let at = places-own (binders form parts) stands (length setting.frame) m (omega (arith, few, j)) among in (
                  subst (λ stand. TakesAs stand (behind_meaning known (Some m)) m) (sym at.1) (binders-placed form parts (behind_meaning known (Some m)) at.0 m placed among),
                  times-seen m (defined form parts ++ binders form parts) seen (right-times m (defined form parts) (binders form parts) (among-times m (binders form parts) among)),
                )
          ]

    -- ---- behind definitions

    module _ (seen : List Meaning) (stands : Meaning → Stand) (setting : Setting) (depths : Depths) (form : Form.the_data) (s : Span) (parts : Trees) (stand : Stand) (lead : List Named → Lead) (reached : List Named → Reached) (round : Round seen stands setting depths) (new : New text seen (defined form parts)) where
      pub behind-round : ((names : List Named) → lead names ≡ lead_by stand names) → HasDepths flat 0 stand reached → TakesParameters flat stand → Round (and_seen text (defined form parts) seen) (with_stands stands (map (meant text) (defined form parts)) stand) (leads_of.behind text setting (Node form s parts) lead) (with_depth depths (map (meant text) (defined form parts)) reached)
      behind-round leading deep takes =
          record {
            leads = definitions-lead (map (meant text) (defined form parts)) setting.leads stands lead stand leading round.leads;
            unsaid = λ m e. let one = not-seen text (defined form parts) seen m e in stands-other (defined form parts) stands stand m one.1 ∙ round.unsaid m one.0;
            plain = λ m e. let one = not-seen text (defined form parts) seen m e in depths-other (defined form parts) depths reached m [] one.1 ∙ round.plain m one.0;
            deep = λ m. with-stands-deep flat stand reached deep m (map (meant text) (defined form parts)) stands depths (round.deep m);
            parameters = λ m. all (map (meant text) (defined form parts)) stands round.parameters m;
          }
        where
          all : (meanings : List Meaning) (before : Meaning → Stand) → ((m : Meaning) → TakesParameters flat (before m)) → (m : Meaning) → TakesParameters flat (with_stands before meanings stand m)
          all [] before each m = each m
          all (meaning ∷ rest) before each m = all rest (with_stand before meaning stand) (λ other. by_same other (same_standing other meaning)) m
            where
              by_same : (m : Meaning) (t : Bool) → TakesParameters flat (cond t stand (before m))
              by_same m true = takes
              by_same m false = each m

      pub behind-usable : (context : Context) → ((m : Meaning) → Among m (defined form parts) → TakesAs stand (behind_meaning known (Some m)) m) → Usable seen stands context → Usable (and_seen text (defined form parts) seen) (with_stands stands (map (meant text) (defined form parts)) stand) (behind text context (Node form s parts))
      behind-usable context takes here = record { orders = λ name m e. (case name m e).0; usable = λ name m e. (case name m e).1 }
        where
          case : (name : Named) (m : Meaning) → meaning_of (behind text context (Node form s parts)) name ≡ Some m → TakesAs (with_stands stands (map (meant text) (defined form parts)) stand m) (behind_meaning known (Some m)) m × (is_seen (and_seen text (defined form parts) seen) m ≡ true)
          case name m e = elim (bound-means (defined form parts) context name m e) [
            | inl before ↦ (
              subst (λ one. TakesAs one (behind_meaning known (Some m)) m) (sym (stands-other (defined form parts) stands stand m (seen-none text (defined form parts) seen m new (here.usable name m before)))) (here.orders name m before),
              still-seen text (defined form parts) seen m (here.usable name m before),
            )
            | inr among ↦ (
              subst (λ one. TakesAs one (behind_meaning known (Some m)) m) (sym (stands-own (defined form parts) stands stand m among)) (takes m among),
              times-seen m (defined form parts) seen (among-times m (defined form parts) among),
            )
          ]
