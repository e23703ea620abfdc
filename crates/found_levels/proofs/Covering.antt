-- Kinds that were found of a stretch are those of its nodes.
use Rattle.std.proofs.Common.{◌≡◌, ℕ, zero, suc, ◌+◌, ◌<◌, ◌≤◌, true, false, List, [], ◌∷◌, ◌++◌, Some, None, inl, inr, refl, sym, ap, ◌∙◌, subst, length, get_or, length-append, min, take, arith}
use Rattle.std.specs.Prelude.{◌&&◌, ◌⊎◌, is_some, not, slice_get, slice_set}
use Rattle.std.specs.List.{AllByRecursion}
use Rattle.std.proofs.lemmas.Bool.{cases_eq}
use Rattle.std.proofs.lemmas.List.{take_more}
use Rattle.std.proofs.lemmas.Option.{slice_get_past, slice_get_read}
use Rattle.order_rec.specs.Earlier.{before}
use Rattle.order_rec.proofs.Order.{along-step}
use Rattle.tla_model.specs.Entities.{Meaning}
use Rattle.kind_text.specs.ExpandedKind.{kind}
use Rattle.kind_text.specs.Expansion.{node_item, nothing, text}
use Rattle.kind_text.specs.FlatModule.{FlatModule, IsOrdered, Node, places_of}
use Rattle.kind_text.specs.Substitution.{judged}
use Rattle.kind_table.specs.declared.flat.FlatModule as tables
use Rattle.kind_table.specs.Flattened.{first_node, flat_of}
use Rattle.kind_table.proofs.TableEntries.{nodes-long}
use Rattle.level_facts.specs.Facts.{AreKinds}
use Rattle.level_text.specs.LevelFaults.{parts_of}
use Rattle.flattened_trees.specs.Answers.{items_of, kind_in, parts_have_kinds}
use Rattle.level_answers.specs.Found.{found_kind, is_refused}
use Rattle.level_answers.proofs.Answering.{kind_found, refusal_found}
use Rattle.found_levels.specs.declared.stretches.Stretch.{Stretch}
use Rattle.found_levels.specs.Stretches.{AreKept, Begins, Covers, IsStretch}

module _ (flat : FlatModule) (frame : List Meaning) (node : ℕ) where
  pub kind-covered : (s : Stretch) → IsStretch flat frame s → Covers flat s node → found_kind s.start s.kinds.items node ≡ kind_in flat frame node
  kind-covered s h c = kind_found flat frame s.start (s.start + length s.kinds.items) s.kinds.items h.kinds node c.begins.whole c.before

  pub refused-covered : IsOrdered flat → (s : Stretch) → IsStretch flat frame s → Covers flat s node → is_refused flat s.start s.kinds.items node ≡ (not (is_some (kind_in flat frame node)) && parts_have_kinds flat frame (slice_get flat.nodes node))
  refused-covered ordered s h c = refusal_found flat frame s.start (s.start + length s.kinds.items) s.kinds.items h.kinds ordered node c.begins.whole c.before c.begins.parts

  -- past the nodes there is none
  pub kind-past : length flat.nodes ≤ node → None ≡ kind_in flat frame node
  kind-past l =
      sym (ap (λ x. kind (judged (places_of (slice_get flat.nodes node)) (x (items_of frame)))) (along-step nothing (λ j f. node_item flat f (slice_get flat.nodes j)) node)
      ∙ ap (λ o. kind (judged (places_of o) (node_item flat (before nothing (text flat) node) o (items_of frame)))) (slice_get_past flat.nodes node l))

  pub refused-past : length flat.nodes ≤ node → false ≡ (not (is_some (kind_in flat frame node)) && parts_have_kinds flat frame (slice_get flat.nodes node))
  refused-past l =
      ap (λ o. true && parts_have_kinds flat frame o) (sym (slice_get_past flat.nodes node l))
      ∙ ap (λ k. not (is_some k) && parts_have_kinds flat frame (slice_get flat.nodes node)) (kind-past l)

-- ---- stretches

-- no node stands in it
pub empty-stretch : (flat : FlatModule) (frame : List Meaning) (s : Stretch) → s.start ≡ 0 → s.kinds.items ≡ [] → IsStretch flat frame s
empty-stretch flat frame s e none =
    let long : length s.kinds.items ≡ 0 = ap length none in record {
      kinds = record { long = omega (arith, long, e); each = λ k l. absurd (omega (arith, long, l)) };
      within = omega (arith, long, e);
    }

lower : (flat : FlatModule) (a b : ℕ) (is : List ℕ) → b ≤ a → AllByRecursion (λ i. a ≤ first_node flat i) is → AllByRecursion (λ i. b ≤ first_node flat i) is
lower flat a b [] l h = tt
lower flat a b (i ∷ is) l h = (omega (arith, l, h.0), lower flat a b is l h.1)

pub begins-lower : (flat : FlatModule) (a b node : ℕ) → b ≤ a → Begins flat a node → Begins flat b node
begins-lower flat a b node l h = record { whole = omega (arith, l, h.whole); parts = lower flat a b (parts_of (slice_get flat.nodes node)) l h.parts }

pub min-under : (a b m : ℕ) → m ≡ min a b → (m ≤ a) × (m ≤ b)
min-under a b m e = (omega (arith, e), omega (arith, e))

pub one-of : (n : ℕ) (is : List ℕ) (k : ℕ) → k < length is → AllByRecursion (λ i. i < n) is → get_or is k 0 < n
one-of n [] k l h = absurd (omega (arith, l))
one-of n (i ∷ is) zero l h = h.0
one-of n (i ∷ is) (suc k) l h = one-of n is k (omega (arith, l)) h.1

one-more : (flat : FlatModule) (n : ℕ) (is : List ℕ) (j : ℕ) → n ≤ first_node flat j → AllByRecursion (λ i. n ≤ first_node flat i) is → AllByRecursion (λ i. n ≤ first_node flat i) (is ++ j ∷ [])
one-more flat n [] j here h = (here, tt)
one-more flat n (i ∷ is) j here h = (h.0, one-more flat n is j here h.1)

-- with one node more
pub least_more : (flat : FlatModule) (least got next k : ℕ) (nodes : List ℕ) → k < length nodes → got ≡ first_node flat (get_or nodes k 0) → next ≤ least → next ≤ got
    → AllByRecursion (λ i. least ≤ first_node flat i) (take k nodes) → AllByRecursion (λ i. next ≤ first_node flat i) (take (k + 1) nodes)
least_more flat least got next k nodes l e under here h =
    subst (AllByRecursion (λ i. next ≤ first_node flat i)) (sym (take_more nodes k 0 l))
    (one-more flat next (take k nodes) (get_or nodes k 0) (omega (arith, e, here)) (lower flat least next (take k nodes) under h))

-- the parts of a node lie among the nodes
parts-below : (n m : ℕ) (is : List ℕ) → n < m → AllByRecursion (λ i. i < n) is → AllByRecursion (λ i. i < m) is
parts-below n m [] l h = tt
parts-below n m (i ∷ is) l h = (omega (arith, l, h.0), parts-below n m is l h.1)

pub parts-there : (flat : FlatModule) (n : ℕ) (node : Node) → IsOrdered flat → n < length flat.nodes → slice_get flat.nodes n ≡ Some node → AllByRecursion (λ i. i < length flat.nodes) node.parts
parts-there flat n node ordered l e = parts-below n (length flat.nodes) node.parts l (ordered n node e).parts

-- the kinds from a beginning on to a node
pub stretch-to : (flat : FlatModule) (frame : List Meaning) (s : Stretch) (node : ℕ) → s.start ≤ node → node < length flat.nodes → AreKinds flat (items_of frame) s.start (node + 1) s.kinds.items → IsStretch flat frame s
stretch-to flat frame s node l there h =
    let end : node + 1 ≡ s.start + length s.kinds.items = omega (arith, h.long, l) in record {
      kinds = subst (λ n. AreKinds flat (items_of frame) s.start n s.kinds.items) end h;
      within = omega (arith, end, there);
    }

-- ---- several

set-long : (kept : List Stretch) (i : ℕ) (t : Stretch) → length (slice_set kept i t) ≡ length kept
set-long [] i t = refl
set-long (x ∷ kept) zero t = refl
set-long (x ∷ kept) (suc i) t = ap suc (set-long kept i t)

pub set-here : (kept : List Stretch) (i : ℕ) (s t : Stretch) → slice_get (slice_set kept i t) i ≡ Some s → s ≡ t
set-here [] i s t e = cc
set-here (x ∷ kept) zero s t e = cc
set-here (x ∷ kept) (suc i) s t e = set-here kept i s t e

set-there : (kept : List Stretch) (i j : ℕ) (t : Stretch) → (i ≡ j → ⊥) → slice_get (slice_set kept i t) j ≡ slice_get kept j
set-there [] i j t n = refl
set-there (x ∷ kept) zero zero t n = absurd (n refl)
set-there (x ∷ kept) zero (suc j) t n = refl
set-there (x ∷ kept) (suc i) zero t n = refl
set-there (x ∷ kept) (suc i) (suc j) t n = set-there kept i j t (λ e. n (ap suc e))

-- one of them is another stretch over the frame of its number
pub kept-set : (flat : FlatModule) (frames : List (List Meaning)) (kept : List Stretch) (i : ℕ) (t : Stretch) → ((frame : List Meaning) → slice_get frames i ≡ Some frame → IsStretch flat frame t) → AreKept flat frames kept → AreKept flat frames (slice_set kept i t)
kept-set flat frames kept i t new h = record {
  long = set-long kept i t ∙ h.long;
  each = λ j frame s at_frame at_kept. by-number j frame s at_frame at_kept (cases_eq i j);
}
  where
    by-number : (j : ℕ) (frame : List Meaning) (s : Stretch) → slice_get frames j ≡ Some frame → slice_get (slice_set kept i t) j ≡ Some s → (i ≡ j) ⊎ (i ≡ j → ⊥) → IsStretch flat frame s
    by-number j frame s at_frame at_kept (inl e) =
        subst (IsStretch flat frame) (sym (set-here kept i s t (ap (slice_get (slice_set kept i t)) e ∙ at_kept))) (new frame (ap (slice_get frames) e ∙ at_frame))
    by-number j frame s at_frame at_kept (inr n) = h.each j frame s at_frame (sym (set-there kept i j t n) ∙ at_kept)

pub there-in : (t : tables.FlatModule) (n : ℕ) → n < length t.nodes.items → n < length (flat_of t).nodes
there-in t n l = let long = nodes-long t in omega (arith, long, l)

pub covers-to : (flat : FlatModule) (frame : List Meaning) (s : Stretch) (node : ℕ) → s.start ≤ node → AreKinds flat (items_of frame) s.start (node + 1) s.kinds.items → Begins flat s.start node → Covers flat s node
covers-to flat frame s node l h begins = record { begins = begins; before = omega (arith, h.long, l) }

pub past-in : (t : tables.FlatModule) (n : ℕ) → length t.nodes.items ≤ n → length (flat_of t).nodes ≤ n
past-in t n l = let long = nodes-long t in omega (arith, long, l)

last-or : (kept : List Stretch) (s t : Stretch) (i : ℕ) → slice_get (kept ++ s ∷ []) i ≡ Some t → (slice_get kept i ≡ Some t) ⊎ (s ≡ t)
last-or [] s t zero e = inr cc
last-or [] s t (suc i) e = cc
last-or (x ∷ kept) s t zero e = inl e
last-or (x ∷ kept) s t (suc i) e = last-or kept s t i e

-- one more in which no node stands
pub each-more : (kept next : List Stretch) (s : Stretch) → next ≡ kept ++ s ∷ [] → s.start ≡ 0 → s.kinds.items ≡ []
    → ((flat : FlatModule) (frame : List Meaning) (i : ℕ) (t : Stretch) → slice_get kept i ≡ Some t → IsStretch flat frame t)
    → (flat : FlatModule) (frame : List Meaning) (i : ℕ) (t : Stretch) → slice_get next i ≡ Some t → IsStretch flat frame t
each-more kept next s e start none h flat frame i t at = by-place (last-or kept s t i (ap (λ xs. slice_get xs i) (sym e) ∙ at))
  where
    by-place : (slice_get kept i ≡ Some t) ⊎ (s ≡ t) → IsStretch flat frame t
    by-place (inl here) = h flat frame i t here
    by-place (inr is) = subst (IsStretch flat frame) is (empty-stretch flat frame s start none)

pub long-more : (kept next : List Stretch) (s : Stretch) (n : ℕ) → next ≡ kept ++ s ∷ [] → length kept ≡ n → length next ≡ n + 1
long-more kept next s n e h = ap length e ∙ length-append kept (s ∷ []) ∙ ap (λ k. k + 1) h

-- the frame of a number that is read
pub frame-read : (frames : List (List Meaning)) (i : ℕ) (x got frame : List Meaning) → i < length frames → x ≡ get_or frames i x → got ≡ x → slice_get frames i ≡ Some frame → got ≡ frame
frame-read frames i x got frame l e is at = is ∙ some-same x frame (sym (slice_get_read frames (length frames) i x refl l e) ∙ at)
  where
    some-same : (a b : List Meaning) → Some a ≡ Some b → a ≡ b
    some-same a b e = cc
