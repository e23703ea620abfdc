-- Kinds that were found are those that are asked for.
use Rattle.std.proofs.Common.{◌≡◌, ◌≢◌, ℕ, zero, suc, ◌+◌, ◌-◌, ◌<◌, ◌≤◌, false, List, [], ◌∷◌, ◌++◌, Option, Some, None, refl, sym, ap, ◌∙◌, subst, map, take, length, get_or, arith}
use Rattle.std.specs.Prelude.{◌&&◌, is_some, not, slice_get}
use Rattle.std.specs.List.{AllByRecursion, list_all}
use Rattle.std.proofs.lemmas.List.{map-append, take_more}
use Rattle.tla_symbols.specs.declared.level.Kind.{Kind}
use Rattle.tla_model.specs.Entities.{Meaning}
use Rattle.kind_text.specs.FlatModule.{FlatModule, Form, IsOrdered, Node}
use Rattle.kind_table.specs.Flattened.{first_node}
use Rattle.kind_table.proofs.Firsts.{first-below, first-parts, needed}
use Rattle.flat_kinds.specs.Symbols.{item_itself}
use Rattle.level_facts.specs.declared.facts.Argument.{Argument}
use Rattle.level_facts.specs.Facts.{AreKinds, argument_item}
use Rattle.level_text.specs.LevelFaults.{parts_of}
use Rattle.flattened_trees.specs.Answers as asked
use Rattle.flattened_trees.specs.Answers.{items_of, kind_in}
use Rattle.level_answers.specs.Found.{found_kind, is_refused, parts_have_kinds}

read-at : (kinds : List (Option Kind)) (k : ℕ) (x : Option Kind) → slice_get kinds k ≡ Some x → get_or kinds k None ≡ x
read-at [] k x e = cc
read-at (y ∷ kinds) zero x e = cc
read-at (y ∷ kinds) (suc k) x e = read-at kinds k x e

module _ (flat : FlatModule) (frame : List Meaning) (start end : ℕ) (kinds : List (Option Kind)) (h : AreKinds flat (items_of frame) start end kinds) where
  pub kind_found : (i : ℕ) → start ≤ first_node flat i → i < end → found_kind start kinds i ≡ kind_in flat frame i
  kind_found i later l =
      let below = first-below flat i in
      let here : start + (i - start) ≡ i = omega (arith, below, later) in
      let within : i - start < length kinds = omega (arith, h.long, below, later, l) in
      read-at kinds (i - start) _ (h.each (i - start) within (subst (λ x. start ≤ first_node flat x) (sym here) later))
      ∙ ap (kind_in flat frame) here

  all_found : (is : List ℕ) → AllByRecursion (λ i. start ≤ first_node flat i) is → AllByRecursion (λ i. i < end) is → list_all (λ i. is_some (found_kind start kinds i)) is ≡ asked.have_kinds flat frame is
  all_found [] later l = refl
  all_found (i ∷ is) later l =
      ap (λ k. is_some k && list_all (λ i. is_some (found_kind start kinds i)) is) (kind_found i later.0 l.0)
      ∙ ap (λ b. is_some (kind_in flat frame i) && b) (all_found is later.1 l.1)

  lower : (n : ℕ) (is : List ℕ) → AllByRecursion (λ i. i < n) is → n ≤ end → AllByRecursion (λ i. i < end) is
  lower n [] h l = tt
  lower n (i ∷ is) h l = (omega (arith, h.0, l), lower n is h.1 l)

  parts_found : IsOrdered flat → (i : ℕ) → i < end → (o : Option Node) → slice_get flat.nodes i ≡ o → AllByRecursion (λ part. start ≤ first_node flat part) (parts_of o) → parts_have_kinds start kinds o ≡ asked.parts_have_kinds flat frame o
  parts_found ordered i l None e later = refl
  parts_found ordered i l (Some node) e later = all_found node.parts later (lower i node.parts (ordered i node e).parts (omega (arith, l)))

  pub refusal_found : IsOrdered flat → (i : ℕ) → start ≤ first_node flat i → i < end → AllByRecursion (λ part. start ≤ first_node flat part) (parts_of (slice_get flat.nodes i)) → is_refused flat start kinds i ≡ (not (is_some (kind_in flat frame i)) && asked.parts_have_kinds flat frame (slice_get flat.nodes i))
  refusal_found ordered i later l parts =
      ap (λ k. not (is_some k) && parts_have_kinds start kinds (slice_get flat.nodes i)) (kind_found i later l)
      ∙ ap (λ b. not (is_some (kind_in flat frame i)) && b) (parts_found ordered i l (slice_get flat.nodes i) refl parts)

-- ---- parts

starts-later : (flat : FlatModule) (start first : ℕ) (parts : List ℕ) → start ≤ first → AllByRecursion (λ part. first ≤ first_node flat part) parts → AllByRecursion (λ part. start ≤ first_node flat part) parts
starts-later flat start first [] l h = tt
starts-later flat start first (part ∷ parts) l h = (omega (arith, l, h.0), starts-later flat start first parts l h.1)

all-needed : (form : Form) (parts : List ℕ) → form ≢ Form.Let → needed form parts ≡ parts
all-needed (Form.Leaf kind) parts n = refl
all-needed (Form.Parameter place) parts n = refl
all-needed (Form.Call place) parts n = refl
all-needed (Form.Operation rule) parts n = refl
all-needed Form.Bounded parts n = refl
all-needed Form.Old parts n = refl
all-needed Form.Let parts n = absurd (n refl)
all-needed (Form.Use path d) parts n = refl
all-needed (Form.Name path d) parts n = refl
all-needed (Form.Symbol rule) parts n = refl
all-needed (Form.Lambda d) parts n = refl

pub parts_later : (flat : FlatModule) (start i : ℕ) (node : Node) → IsOrdered flat → slice_get flat.nodes i ≡ Some node → node.form ≢ Form.Let → start ≤ first_node flat i → AllByRecursion (λ part. start ≤ first_node flat part) node.parts
parts_later flat start i node ordered e n l =
    subst (AllByRecursion (λ part. start ≤ first_node flat part)) (all-needed node.form node.parts n)
    (starts-later flat start (first_node flat i) (needed node.form node.parts) l (first-parts flat i node ordered e).1)

-- what is refused, where a node was found to have no kind
pub refused_when : (flat : FlatModule) (start : ℕ) (kinds : List (Option Kind)) (i : ℕ) (o : Option Node) → is_some (found_kind start kinds i) ≡ false → slice_get flat.nodes i ≡ o → parts_have_kinds start kinds o ≡ is_refused flat start kinds i
refused_when flat start kinds i o none e =
    sym (ap (λ b. not b && parts_have_kinds start kinds (slice_get flat.nodes i)) none ∙ ap (parts_have_kinds start kinds) e)

-- ---- frames

-- one symbol more, by itself
pub frame_more : (flat : FlatModule) (as_ new : List Argument) (a : Argument) (xs : List Meaning) (i : ℕ) (x : Meaning) → i < length xs → x ≡ get_or xs i x → map (argument_item flat) as_ ≡ items_of (take i xs) → argument_item flat a ≡ item_itself x → new ≡ as_ ++ a ∷ [] → map (argument_item flat) new ≡ items_of (take (i + 1) xs)
frame_more flat as_ new a xs i x l is h e new_is =
    ap (map (argument_item flat)) new_is ∙ map-append (argument_item flat) as_ (a ∷ [])
    ∙ ap (λ ys. ys ++ argument_item flat a ∷ []) h ∙ ap (λ y. items_of (take i xs) ++ y ∷ []) (e ∙ ap item_itself is)
    ∙ sym (ap items_of (take_more xs i x l) ∙ map-append item_itself (take i xs) (get_or xs i x ∷ []))
