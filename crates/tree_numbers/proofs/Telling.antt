-- What is by numbers is the same where its trees are: nodes and instances of other keys have other trees.
use Rattle.std.proofs.Common.{◌≡◌, ℕ, true, List, [], ◌∷◌, ◌++◌, Option, None, Some, refl, sym, ap, ◌∙◌, true≢false}
use Rattle.std.specs.Prelude.{IfSome}
use Rattle.std.specs.List.{AllByRecursion}
use Rattle.std.specs.Map.{lookup}
use Rattle.kind_text.specs.FlatModule.{FlatModule}
use Rattle.resolved_trees.specs.Resolved.{parts_at, path_at, resolved}
use Rattle.list_laws.proofs.Lists.{all-both}
use Rattle.tree_numbers.specs.declared.keys.Body.{Body}
use Rattle.tree_numbers.specs.declared.keys.Contents.{Contents}
use Rattle.tree_numbers.specs.declared.keys.Key.{Key}
use Rattle.tree_numbers.specs.declared.keys.Root.{Root}
use Rattle.tree_numbers.specs.Keys.{Pieces, definition_by, pieces_of, replacements_by}
use Rattle.tree_numbers.specs.Numbered.{AreApart, AreContents, AreKeys, AreKnown, HasNumbers, IsByNumbers, IsFirst, IsKey, IsNumber, instance_tree}
use Rattle.tree_numbers.proofs.Entries.{all-at, apart-more, none-passes}
use Rattle.tree_numbers.proofs.Exactness.{contents-same, contents_eq, key-same, key_eq}

some-same : {A : Type 0} (x y : A) → Some x ≡ Some y → x ≡ y
some-same x y e = cc

module _ (flat : FlatModule) (numbers : List ℕ) (apart : AreApart (resolved flat) (IsNumber numbers)) where
  -- ---- instances

  roots-told : (rs ss : List Root) → AllByRecursion (λ r. IsNumber numbers r.root) rs → AllByRecursion (λ r. IsNumber numbers r.root) ss
      → replacements_by (resolved flat) rs ≡ replacements_by (resolved flat) ss → rs ≡ ss
  roots-told [] [] all others same = refl
  roots-told [] (s ∷ ss) all others same = cc
  roots-told (r ∷ rs) [] all others same = cc
  roots-told (r ∷ rs) (s ∷ ss) all others same =
      let first : resolved flat r.root ≡ resolved flat s.root = cc in
      let most : r.most ≡ s.most = cc in
      let rest : replacements_by (resolved flat) rs ≡ replacements_by (resolved flat) ss = cc in
      let root = apart r.root s.root all.0 others.0 first in
      let behind = roots-told rs ss all.1 others.1 rest in
      λ k. record { root = root k; most = most k } ∷ behind k

  contents-told : (a b : Contents) (i j : ℕ) → AreContents flat a i → AreContents flat b j → HasNumbers numbers a → HasNumbers numbers b → instance_tree flat i ≡ instance_tree flat j → contents_eq a b ≡ true
  contents-told a b i j is are all others same =
      let trees = sym is.is ∙ same ∙ are.is in
      let outer : a.outer ≡ b.outer = cc trees in
      let parameters : a.parameters ≡ b.parameters = cc trees in
      let guards : a.guards ≡ b.guards = cc trees in
      let replaced : replacements_by (resolved flat) a.roots.items ≡ replacements_by (resolved flat) b.roots.items = cc trees in
      let roots = roots-told a.roots.items b.roots.items all others replaced in
      contents-same a b (λ k. (outer k, parameters k, guards k, roots k))

  -- further contents that were not found
  pub known-more : (known : List (Contents × ℕ)) (a : Contents) (i : ℕ) → AreKnown flat numbers known → AreContents flat a i → HasNumbers numbers a → lookup (contents_eq a) known ≡ None
      → AreKnown flat numbers (known ++ (a, i) ∷ [])
  known-more known a i are is all none = record {
    each = all-both (λ e. AreContents flat e.0 e.1) known ((a, i) ∷ []) are.each (is, tt);
    numbered = all-both (λ e. HasNumbers numbers e.0) known ((a, i) ∷ []) are.numbered (all, tt);
    apart = apart-more known a i (instance_tree flat) are.apart (λ m first same.
        let b = first.1 in
        let held = all-at (λ e. AreContents flat e.0 e.1) known first.0 (b, m) are.each first.2 in
        let others = all-at (λ e. HasNumbers numbers e.0) known first.0 (b, m) are.numbered first.2 in
        true≢false (sym (contents-told a b i m is held all others same) ∙ none-passes (contents_eq a) known first.0 (b, m) none first.2));
  }

  -- ---- nodes

  parts-told : (is js : List ℕ) → AllByRecursion (IsNumber numbers) is → AllByRecursion (IsNumber numbers) js → parts_at flat (resolved flat) is ≡ parts_at flat (resolved flat) js → is ≡ js
  parts-told [] [] all others same = refl
  parts-told [] (j ∷ js) all others same = cc
  parts-told (i ∷ is) [] all others same = cc
  parts-told (i ∷ is) (j ∷ js) all others same =
      let first : resolved flat i ≡ resolved flat j = cc in
      let rest : parts_at flat (resolved flat) is ≡ parts_at flat (resolved flat) js = cc in
      let number = apart i j all.0 others.0 first in
      let behind = parts-told is js all.1 others.1 rest in
      λ k. number k ∷ behind k

  body-told : (a b : Option Body) → IfSome a (λ x. IsNumber numbers x.root) → IfSome b (λ x. IsNumber numbers x.root) → definition_by (resolved flat) a ≡ definition_by (resolved flat) b → a ≡ b
  body-told None None one other same = refl
  body-told None (Some y) one other same = cc
  body-told (Some x) None one other same = cc
  body-told (Some x) (Some y) one other same =
      let outer : x.outer ≡ y.outer = cc in
      let tree : resolved flat x.root ≡ resolved flat y.root = cc in
      let root = apart x.root y.root one other tree in
      λ k. Some (record { outer = outer k; root = root k })

  module _ (known : List (Contents × ℕ)) (are_known : AreKnown flat numbers known) where
    path-told : (path other : List ℕ) → AllByRecursion (IsFirst known) path → AllByRecursion (IsFirst known) other → path_at flat (resolved flat) path ≡ path_at flat (resolved flat) other → path ≡ other
    path-told [] [] all others same = refl
    path-told [] (j ∷ other) all others same = cc
    path-told (i ∷ path) [] all others same = cc
    path-told (i ∷ path) (j ∷ other) all others same =
        let first : instance_tree flat i ≡ instance_tree flat j = cc in
        let rest : path_at flat (resolved flat) path ≡ path_at flat (resolved flat) other = cc in
        let instance = are_known.apart i j all.0 others.0 first in
        let behind = path-told path other all.1 others.1 rest in
        λ k. instance k ∷ behind k

    key-told : (a b : Key) (i j : ℕ) → IsKey flat a i → IsKey flat b j → IsByNumbers numbers known a → IsByNumbers numbers known b → resolved flat i ≡ resolved flat j → key_eq a b ≡ true
    key-told a b i j is other numbered others same =
        let trees = some-same _ _ (sym is.pieces ∙ ap pieces_of same ∙ other.pieces) in
        let head = ap (λ (p : Pieces). p.0) trees in
        let path = path-told a.path.items b.path.items numbered.path others.path (ap (λ (p : Pieces). p.1) trees) in
        let body = body-told a.body b.body numbered.root others.root (ap (λ (p : Pieces). p.2) trees) in
        let places = ap (λ (p : Pieces). p.3) trees in
        let parts = parts-told a.parts.items b.parts.items numbered.parts others.parts (ap (λ (p : Pieces). p.4) trees) in
        key-same a b (λ k. (head k, path k, body k, places k, parts k))

    -- a further key that was not found
    pub keys-more : (keys : List (Key × ℕ)) (a : Key) (i : ℕ) → AreKeys flat numbers known keys → IsKey flat a i → IsByNumbers numbers known a → lookup (key_eq a) keys ≡ None
        → AreKeys flat numbers known (keys ++ (a, i) ∷ [])
    keys-more keys a i are is numbered none = record {
      each = all-both (λ e. IsKey flat e.0 e.1) keys ((a, i) ∷ []) are.each (is, tt);
      numbered = all-both (λ e. IsByNumbers numbers known e.0) keys ((a, i) ∷ []) are.numbered (numbered, tt);
      apart = apart-more keys a i (resolved flat) are.apart (λ m first same.
          let b = first.1 in
          let key = all-at (λ e. IsKey flat e.0 e.1) keys first.0 (b, m) are.each first.2 in
          let others = all-at (λ e. IsByNumbers numbers known e.0) keys first.0 (b, m) are.numbered first.2 in
          true≢false (sym (key-told a b i m is key numbered others same) ∙ none-passes (key_eq a) keys first.0 (b, m) none first.2));
    }
