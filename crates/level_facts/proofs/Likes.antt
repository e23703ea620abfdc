-- Items of the same kinds, through the forms.
use Rattle.std.proofs.Common.{◌≡◌, ℕ, Bool, true, false, List, [], ◌∷◌, ◌++◌, Option, Some, None, refl, ap, ◌∙◌}
use Rattle.std.specs.Prelude.{◌&&◌}
use Rattle.kind_text.specs.ExpandedKind.{Operands, is_at_most, kind, kinds}
use Rattle.kind_text.specs.Substitution.{Alike, Item, Same, judged, texts}
use Rattle.kind_text.specs.FlatModule.{FlatModule}
use Rattle.kind_text.specs.Expansion.{Guard, Reached, along_path, are_met, bounded, items, start, text, used}
use Rattle.kind_text.proofs.Relations.{AllRelated, Guards, SameReached, used-related, path-related, start-related, items-related, text-related}
use Rattle.kind_text.proofs.Likeness.{SameKind, all-related, kept, same}
use Rattle.kind_table.specs.Table.{bounded_kind}

pub same-trans : (a b c : Item) → Same a b → Same b c → Same a c
same-trans a b c p q = record { text = p.text ∙ q.text; call = λ ts us e. p.call ts ts refl ∙ q.call ts us e }

pub alike-trans : (xs ys zs : List Item) → Alike xs ys → Alike ys zs → Alike xs zs
alike-trans [] [] zs p q = q
alike-trans [] (y ∷ ys) zs p q = absurd p
alike-trans (x ∷ xs) [] zs p q = absurd p
alike-trans (x ∷ xs) (y ∷ ys) [] p q = absurd q
alike-trans (x ∷ xs) (y ∷ ys) (z ∷ zs) p q = (same-trans x y z p.0 q.0, alike-trans xs ys zs p.1 q.1)

pub items-push : (f : ℕ → List Item → Item) (is : List ℕ) (i : ℕ) (s : List Item) → items f (is ++ i ∷ []) s ≡ items f is s ++ f i s ∷ []
items-push f [] i s = refl
items-push f (j ∷ is) i s = ap (λ xs. f j s ∷ xs) (items-push f is i s)

pub kinds-texts : (xs ys : List Item) → Alike xs ys → kinds (texts xs) ≡ kinds (texts ys)
kinds-texts [] [] h = refl
kinds-texts [] (y ∷ ys) h = absurd h
kinds-texts (x ∷ xs) [] h = absurd h
kinds-texts (x ∷ xs) (y ∷ ys) h = let first = h.0.text in let rest = kinds-texts xs ys h.1 in cc

pub kind-judged : (places : Option ℕ) (x y : Item) → Same x y → kind (judged places x) ≡ kind (judged places y)
kind-judged None x y h = h.text
kind-judged (Some n) x y h = h.call _ _ refl

pub kind-bounded : (ts : Operands) → kind (bounded ts) ≡ bounded_kind (kinds ts)
kind-bounded Operands.Nil = refl
kind-bounded (Operands.Cons t ts) = refl

alike-of : (xs ys : List Item) → AllRelated SameKind xs ys → Alike xs ys
alike-of [] [] h = tt
alike-of [] (y ∷ ys) h = absurd h
alike-of (x ∷ xs) [] h = absurd h
alike-of (x ∷ xs) (y ∷ ys) h = (same x y h.0, alike-of xs ys h.1)

module _ (flat : FlatModule) where
  pub alike-items : (is : List ℕ) (s u : List Item) → Alike s u → Alike (items (text flat) is s) (items (text flat) is u)
  alike-items is s u h =
      alike-of _ _ (items-related SameKind kept flat (text flat) (text-related SameKind kept flat) is s u (all-related s u h))

  -- what a path leads to, from arguments of the same kinds
  pub reached-same : (path : List ℕ) (s u xs ys : List Item) → Alike s u → Alike xs ys → SameReached SameKind kept (along_path flat (text flat) path (start s xs)) (along_path flat (text flat) path (start u ys))
  reached-same path s u xs ys h k =
      path-related SameKind kept flat (text flat) (text-related SameKind kept flat) path _ _
      (start-related SameKind kept flat (text flat) (text-related SameKind kept flat) s u xs ys (all-related s u h) (all-related xs ys k))

  -- and a definition there
  pub used-same : (a b : Reached) (d : ℕ) (xs ys : List Item) → SameReached SameKind kept a b → Alike xs ys → kind (used flat (text flat) a d xs) ≡ kind (used flat (text flat) b d ys)
  used-same a b d xs ys h k = used-related SameKind kept flat (text flat) (text-related SameKind kept flat) a b d xs ys h (all-related xs ys k)

  pub rest-same : (a b : Reached) → SameReached SameKind kept a b → Alike a.rest b.rest
  rest-same a b h = alike-of _ _ h.rest

  pub frame-same : (a b : Reached) → SameReached SameKind kept a b → Alike a.frame b.frame
  frame-same a b h = alike-of _ _ h.frame

-- ---- guards

pub met-same : (gs hs : List Guard) → Guards SameKind kept gs hs → are_met gs ≡ are_met hs
met-same [] [] all = refl
met-same [] (h ∷ hs) all = absurd all
met-same (g ∷ gs) [] all = absurd all
met-same (g ∷ gs) (h ∷ hs) all =
    ap (λ m. is_at_most m (kind g.replacement) && are_met gs) all.0.most
    ∙ ap (λ k. is_at_most h.most k && are_met gs) all.0.replacement
    ∙ ap (λ b. is_at_most h.most (kind h.replacement) && b) (met-same gs hs all.1)

and-more : (a b c : Bool) → (a && (b && c)) ≡ ((a && b) && c)
and-more true b c = refl
and-more false b c = refl

pub met-append : (gs hs : List Guard) → are_met (gs ++ hs) ≡ (are_met gs && are_met hs)
met-append [] hs = refl
met-append (g ∷ gs) hs = ap (λ b. is_at_most g.most (kind g.replacement) && b) (met-append gs hs) ∙ and-more (is_at_most g.most (kind g.replacement)) (are_met gs) (are_met hs)
