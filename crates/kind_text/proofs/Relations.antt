-- What relates the items that are put in relates the expansions, for any relation on expanded expressions that their forms keep.
use Rattle.std.proofs.Common.{◌≡◌, ℕ, zero, suc, Bool, true, false, cond, List, [], ◌∷◌, Option, Some, None, map, refl, subst}
use Rattle.std.specs.Prelude.{slice_get, replicate}
use Rattle.std.specs.List.{AllZip}
use Rattle.tla_symbols.specs.declared.level.Kind.{Kind}
use Rattle.tla_symbols.specs.declared.level.Kind.TheVariants.{Const}
use Rattle.tla_symbols.specs.declared.level.Rule.{Rule}
use Rattle.tla_symbols.specs.declared.level.Rule.TheVariants.{Plain, Boolean}
use Rattle.order_rec.proofs.Order.{along-holds}
use Rattle.kind_text.specs.ExpandedKind.{Expanded, Operands, Given, Ruled, Guarded, Nil, Cons}
use Rattle.kind_text.specs.Substitution.{Item, at, expression, expressions, judged, leaves, operator, texts}
use Rattle.kind_text.specs.FlatModule.{Definition, FlatModule, Form, Instance, Node, Replacement, places_of}
use Rattle.kind_text.proofs.Zips.{zip-append, zip-drop, zip-take}
use Rattle.kind_text.specs.Expansion.{Earlier, Guard, Reached, nothing, items, first_item, body, bounded, guard, guarded_by, start, guards_of, behind, through, along_path, used, form_item, node_item, text}

module _ (E : Expanded → Expanded → Type 0) where
  -- the operands at each place
  abbrev pub Each : Operands → Operands → Type 0
  Each Nil Nil = Unit {0}
  Each Nil (Cons u us) = ⊥
  Each (Cons t ts) Nil = ⊥
  Each (Cons t ts) (Cons u us) = E t u × Each ts us

  pub record Related (a b : Item) : Type 0 where
    pub text : E a.text b.text
    pub call : (ts us : Operands) → Each ts us → E (a.call ts) (b.call us)

  abbrev pub AllRelated : List Item → List Item → Type 0
  AllRelated = AllZip Related

  -- the relation is kept by the forms
  pub record IsKept : Type 0 where
    pub leaf : (k : Option Kind) → E (Given k) (Given k)
    pub rule : (r : Rule) (ts us : Operands) → Each ts us → E (Ruled r ts) (Ruled r us)
    pub guard : (most : ℕ) (a b t u : Expanded) → E a b → E t u → E (Guarded most a t) (Guarded most b u)

  module _ (kept : IsKept) where
    pub expression-related : (t u : Expanded) → E t u → Related (expression t) (expression u)
    expression-related t u r = record { text = r; call = λ ts us each. kept.leaf None }

    pub operator-related : (g h : Operands → Expanded) → ((ts us : Operands) → Each ts us → E (g ts) (h us)) → Related (operator g) (operator h)
    operator-related g h r = record { text = kept.leaf None; call = r }

    pub at-related : (s u : List Item) → AllRelated s u → (i : ℕ) → Related (at s i) (at u i)
    at-related [] [] all i = expression-related _ _ (kept.leaf _)
    at-related [] (y ∷ ys) all i = absurd all
    at-related (x ∷ xs) [] all i = absurd all
    at-related (x ∷ xs) (y ∷ ys) all zero = all.0
    at-related (x ∷ xs) (y ∷ ys) all (suc i) = at-related xs ys all.1 i

    pub expressions-related : (ts us : Operands) → Each ts us → AllRelated (expressions ts) (expressions us)
    expressions-related Nil Nil each = tt
    expressions-related Nil (Cons u us) each = absurd each
    expressions-related (Cons t ts) Nil each = absurd each
    expressions-related (Cons t ts) (Cons u us) each = (expression-related t u each.0, expressions-related ts us each.1)

    pub texts-related : (xs ys : List Item) → AllRelated xs ys → Each (texts xs) (texts ys)
    texts-related [] [] all = tt
    texts-related [] (y ∷ ys) all = absurd all
    texts-related (x ∷ xs) [] all = absurd all
    texts-related (x ∷ xs) (y ∷ ys) all = (all.0.text, texts-related xs ys all.1)

    leaves-related : (ks : List (Option Kind)) → Each (leaves ks) (leaves ks)
    leaves-related [] = tt
    leaves-related (k ∷ ks) = (kept.leaf k, leaves-related ks)

    pub judged-related : (places : Option ℕ) (x y : Item) → Related x y → E (judged places x) (judged places y)
    judged-related None x y r = r.text
    judged-related (Some n) x y r = r.call _ _ (leaves-related (replicate n (Some Const)))

    pub bounded-related : (ts us : Operands) → Each ts us → E (bounded ts) (bounded us)
    bounded-related Nil Nil each = kept.leaf None
    bounded-related Nil (Cons u us) each = absurd each
    bounded-related (Cons t ts) Nil each = absurd each
    bounded-related (Cons t ts) (Cons u us) each = kept.rule Boolean _ _ (each.0, (kept.rule Plain ts us each.1, tt))

    -- guards of the same bounds
    pub record SameBound (g h : Guard) : Type 0 where
      pub most : g.most ≡ h.most
      pub replacement : E g.replacement h.replacement

    abbrev pub Guards : List Guard → List Guard → Type 0
    Guards = AllZip SameBound

    pub guard-related : (gs hs : List Guard) (t u : Expanded) → Guards gs hs → E t u → E (guard gs t) (guard hs u)
    guard-related [] [] t u all r = r
    guard-related [] (h ∷ hs) t u all r = absurd all
    guard-related (g ∷ gs) [] t u all r = absurd all
    guard-related (g ∷ gs) (h ∷ hs) t u all r =
        by_most g.most h.most all.0.most (kept.guard g.most g.replacement h.replacement (guard gs t) (guard hs u) all.0.replacement (guard-related gs hs t u all.1 r))
      where
        by_most : (m n : ℕ) → m ≡ n → E (Guarded m g.replacement (guard gs t)) (Guarded m h.replacement (guard hs u)) → E (Guarded m g.replacement (guard gs t)) (Guarded n h.replacement (guard hs u))
        by_most m n same r = subst (λ n. E (Guarded m g.replacement (guard gs t)) (Guarded n h.replacement (guard hs u))) same r

    guarded_by-related : (most : Option ℕ) (t u : Expanded) → E t u → Guards (guarded_by most t) (guarded_by most u)
    guarded_by-related None t u r = tt
    guarded_by-related (Some most) t u r = (record { most = refl; replacement = r }, tt)

    pub record SameReached (a b : Reached) : Type 0 where
      pub frame : AllRelated a.frame b.frame
      pub guards : Guards a.guards b.guards
      pub rest : AllRelated a.rest b.rest

    -- an expansion that keeps the relation
    abbrev pub Keeps : (List Item → Item) → Type 0
    Keeps x = (s u : List Item) → AllRelated s u → Related (x s) (x u)

    module _ (flat : FlatModule) (f : Earlier) (keeps : (j : ℕ) → Keeps (f j)) where
      pub items-related : (is : List ℕ) (s u : List Item) → AllRelated s u → AllRelated (items f is s) (items f is u)
      items-related [] s u all = tt
      items-related (i ∷ is) s u all = (keeps i s u all, items-related is s u all)

      pub first-related : (is : List ℕ) → Keeps (first_item f is)
      first-related [] s u all = expression-related _ _ (kept.leaf None)
      first-related (i ∷ is) s u all = keeps i s u all

      pub body-related : (d : Option Definition) (p q : ℕ → List Item) → ((n : ℕ) → AllRelated (p n) (q n)) → E (body f d p) (body f d q)
      body-related None p q all = kept.leaf None
      body-related (Some d) p q all = (keeps d.root (p d.outer) (q d.outer) (all d.outer)).text

      pub guards_of-related : (rs : List Replacement) (s u : List Item) → AllRelated s u → Guards (guards_of flat f rs s) (guards_of flat f rs u)
      guards_of-related [] s u all = tt
      guards_of-related (r ∷ rs) s u all =
          zip-append SameBound _ _ _ _
          (guarded_by-related r.most _ _ (judged-related (places_of (slice_get flat.nodes r.root)) _ _ (keeps r.root s u all)))
          (guards_of-related rs s u all)

      if-related : (b : Bool) (gs hs : List Guard) → Guards gs hs → Guards (cond b gs []) (cond b hs [])
      if-related true gs hs all = all
      if-related false gs hs all = tt

      pub behind-related : (j : Instance) (s u : List Item) (a b : Reached) → AllRelated s u → SameReached a b → SameReached (behind flat f j s a) (behind flat f j u b)
      behind-related j s u a b all same =
          record {
            frame = items-related (map (λ r. r.root) j.replacements) s u all;
            guards = zip-append SameBound _ _ _ _ same.guards (if-related j.guards _ _ (guards_of-related j.replacements s u all));
            rest = zip-drop Related j.parameters _ _ same.rest;
          }

      pub through-related : (j : Option Instance) (a b : Reached) → SameReached a b → SameReached (through flat f j a) (through flat f j b)
      through-related None a b same = same
      through-related (Some j) a b same =
          behind-related j _ _ a b (zip-append Related _ _ _ _ (zip-take Related j.outer _ _ same.frame) (zip-take Related j.parameters _ _ same.rest)) same

      pub path-related : (path : List ℕ) (a b : Reached) → SameReached a b → SameReached (along_path flat f path a) (along_path flat f path b)
      path-related [] a b same = same
      path-related (j ∷ path) a b same = path-related path _ _ (through-related (slice_get flat.instances j) a b same)

      pub start-related : (s u xs ys : List Item) → AllRelated s u → AllRelated xs ys → SameReached (start s xs) (start u ys)
      start-related s u xs ys all more = record { frame = all; guards = tt; rest = more }

      pub used-related : (a b : Reached) (d : ℕ) (xs ys : List Item) → SameReached a b → AllRelated xs ys → E (used flat f a d xs) (used flat f b d ys)
      used-related a b d xs ys same all =
          guard-related a.guards b.guards _ _ same.guards
          (body-related (slice_get flat.definitions d) _ _ (λ n. zip-append Related _ _ xs ys (zip-take Related n _ _ same.frame) all))

      pub form-related : (form : Form) (is : List ℕ) → Keeps (form_item flat f form is)
      form-related (Form.Leaf k) is s u all = expression-related _ _ (kept.leaf (Some k))
      form-related (Form.Parameter i) is s u all = at-related s u all i
      form-related (Form.Call i) is s u all = expression-related _ _ ((at-related s u all i).call _ _ (texts-related _ _ (items-related is s u all)))
      form-related (Form.Operation r) is s u all = expression-related _ _ (kept.rule r _ _ (texts-related _ _ (items-related is s u all)))
      form-related Form.Bounded is s u all = expression-related _ _ (bounded-related _ _ (texts-related _ _ (items-related is s u all)))
      form-related Form.Old is s u all = expression-related _ _ (kept.rule Boolean _ _ (texts-related _ _ (items-related is s u all)))
      form-related Form.Let is s u all = first-related is s u all
      form-related (Form.Use path d) is s u all =
          let same = path-related path _ _ (start-related s u _ _ all (items-related is s u all)) in
          expression-related _ _ (used-related _ _ d _ _ same same.rest)
      form-related (Form.Name path d) is s u all =
          operator-related _ _
          (λ ts us each. used-related _ _ d _ _ (path-related path _ _ (start-related s u _ _ all (items-related is s u all))) (expressions-related ts us each))
      form-related (Form.Symbol r) is s u all = operator-related _ _ (λ ts us each. kept.rule r ts us each)
      form-related (Form.Lambda d) is s u all =
          operator-related _ _ (λ ts us each. used-related _ _ d _ _ (start-related s u [] [] all tt) (expressions-related ts us each))

      node-related : (node : Option Node) → Keeps (node_item flat f node)
      node-related None s u all = expression-related _ _ (kept.leaf None)
      node-related (Some node) s u all = form-related node.form node.parts s u all

    -- the expansions of all nodes keep it
    pub text-related : (flat : FlatModule) (i : ℕ) → Keeps (text flat i)
    text-related flat i =
        along-holds Keeps nothing (λ i f. node_item flat f (slice_get flat.nodes i)) (λ s u all. expression-related _ _ (kept.leaf None))
        (λ i f keeps. node-related flat f keeps (slice_get flat.nodes i)) i
