-- The nodes that a node is made of, in order: what was found of a part is at its position.
use Rattle.std.proofs.Common.{◌≡◌, ℕ, zero, suc, ◌+◌, ◌-◌, ◌<◌, ◌≤◌, List, [], ◌∷◌, ◌++◌, Some, None, inl, inr, refl, sym, ap, ◌∙◌, subst, map, length, get_or, arith}
use Rattle.std.specs.Prelude.{◌⊎◌, slice_get}
use Rattle.std.specs.List.{AllByRecursion}
use Rattle.std.proofs.lemmas.Bool.{cases_lt}
use Rattle.std.proofs.lemmas.List.{length_push}
use Rattle.kind_text.specs.ExpandedKind.{Given}
use Rattle.kind_text.specs.Substitution.{Item, Same, expression}
use Rattle.kind_text.specs.FlatModule.{FlatModule, Form, IsOrdered}
use Rattle.kind_text.specs.Expansion.{form_item, text}
use Rattle.kind_table.specs.declared.argument.Arg.{Arg}
use Rattle.kind_table.specs.Flattened.{first_node}
use Rattle.kind_table.specs.Table.{AllWithin, meaning, meanings, picked}
use Rattle.kind_table.specs.Weights.{longest}
use Rattle.kind_table.proofs.Firsts.{first-below, first-parts, needed}
use Rattle.kind_table.proofs.Growth.{grows_not}
use Rattle.kind_table.proofs.Weighing.{cost-le, cost-split}
use Rattle.kind_table.specs.declared.flat.FlatModule as tables
use Rattle.kind_table.specs.Flattened.{flat_of}
use Rattle.kind_table.proofs.TableEntries.{nodes-long}
use Rattle.level_facts.specs.declared.facts.KindFacts.{KindFacts}
use Rattle.level_facts.specs.Facts.{IsFacts}
use Rattle.level_facts.specs.Judged.{Found, IsFound, Picked, Steps}
use Rattle.level_facts.proofs.Finding.{Reads, found_on, reads-below, reads-text}

module _ (flat : FlatModule) (table : List Arg) (start i : ℕ) (frame found : List ℕ) (f : Found flat table start i frame found) where
  -- what was found of an earlier node that begins at start or later
  pub found_at : (part : ℕ) → part < i → start ≤ first_node flat part → IsFound flat table part frame (picked start found part)
  found_at part l s =
      let below = first-below flat part in
      let same : start + (part - start) ≡ part = omega (arith, below, s) in
      let k : part - start < length found = omega (arith, below, s, l, f.long) in
      let s' : start ≤ first_node flat (start + (part - start)) = subst (λ x. start ≤ first_node flat x) (sym same) s in
      subst (λ x. IsFound flat table x frame (picked start found part)) same (f.each (part - start) k s')

  all_found : (parts : List ℕ) → AllByRecursion (λ part. part < i) parts → AllByRecursion (λ part. start ≤ first_node flat part) parts → Picked flat table i parts frame (map (picked start found) parts)
  all_found [] l s = record { within = tt; same = tt; light = omega arith }
  all_found (part ∷ parts) l s =
      let one = found_at part l.0 s.0 in let rest = all_found parts l.1 s.1 in
      let c = cost-split (longest flat.nodes) part i l.0 in
      record { within = (one.within, rest.within); same = (one.same, rest.same); light = omega (arith, one.light, rest.light, c.1) }

  starts-later : (first : ℕ) (parts : List ℕ) → start ≤ first → AllByRecursion (λ part. first ≤ first_node flat part) parts → AllByRecursion (λ part. start ≤ first_node flat part) parts
  starts-later first [] s h = tt
  starts-later first (part ∷ parts) s h = (omega (arith, s, h.0), starts-later first parts s h.1)

  -- what was found of all parts that a node's kind is made of
  pub found_parts : IsOrdered flat → (form : Form) (parts : List ℕ) → Reads flat i form parts → start ≤ first_node flat i → AllByRecursion (λ part. part < i) (needed form parts) → Picked flat table i (needed form parts) frame (map (picked start found) (needed form parts))
  found_parts ordered form parts r s l =
      let h = first-parts flat i r.node ordered r.here in
      let h' = subst (λ x. AllByRecursion (λ part. first_node flat i ≤ first_node flat part) (needed form x)) r.parts_are
      (subst (λ x. AllByRecursion (λ part. first_node flat i ≤ first_node flat part) (needed x r.node.parts)) r.form_is h.1) in
      all_found (needed form parts) l (starts-later (first_node flat i) (needed form parts) s h')

  -- LET is what its body is
  pub let_found : (ordered : IsOrdered flat) (parts : List ℕ) (part : ℕ) (rest : List ℕ) → Reads flat i Form.Let parts → parts ≡ part ∷ rest → start ≤ first_node flat i → IsFound flat table i frame (picked start found part)
  let_found ordered parts part rest r is s =
      let r' : Reads flat i Form.Let (part ∷ rest) = subst (Reads flat i Form.Let) is r in
      let l = (reads-below flat ordered r').0.0 in
      let h = first-parts flat i r'.node ordered r'.here in
      let h' = subst (λ x. AllByRecursion (λ part. first_node flat i ≤ first_node flat part) (needed Form.Let x)) r'.parts_are
      (subst (λ x. AllByRecursion (λ part. first_node flat i ≤ first_node flat part) (needed x r'.node.parts)) r'.form_is h.1) in
      let one = found_at part l (omega (arith, s, h'.0)) in
      let it : text flat i (meanings flat table frame) ≡ text flat part (meanings flat table frame) = reads-text flat ordered r' (meanings flat table frame) in
      let c = cost-le (longest flat.nodes) part i (omega (arith, l)) in
      record {
        within = one.within;
        same = subst (λ x. Same (meaning flat table (picked start found part)) x) (sym it) one.same;
        light = omega (arith, one.light, c);
      }

  -- and its body is the first of its parts
  pub let_body : (ordered : IsOrdered flat) (parts : List ℕ) (inner n : ℕ) → Reads flat i Form.Let parts → Some inner ≡ slice_get parts 0 → n ≡ picked start found inner → start ≤ first_node flat i → IsFound flat table i frame n
  let_body ordered [] inner n r e is s = let none : Some inner ≡ None = e in cc
  let_body ordered (part ∷ rest) inner n r e is s =
      let body : Some inner ≡ Some part = e in
      let same : inner ≡ part = cc in
      subst (IsFound flat table i frame) (sym (is ∙ ap (picked start found) same)) (let_found ordered (part ∷ rest) part rest r refl s)

-- LET without a body has no kind
pub let_missing : (flat : FlatModule) (parts : List ℕ) (s : List Item) → None ≡ slice_get parts 0 → form_item flat (text flat) Form.Let parts s ≡ expression (Given None)
let_missing flat [] s e = refl
let_missing flat (part ∷ rest) s e = let some : None ≡ Some part = e in cc

-- ---- one node more

get_or-left : (xs : List ℕ) (x k : ℕ) → k < length xs → get_or (xs ++ x ∷ []) k 0 ≡ get_or xs k 0
get_or-left [] x k l = absurd (omega arith)
get_or-left (y ∷ xs) x zero l = refl
get_or-left (y ∷ xs) x (suc k) l = get_or-left xs x k (omega arith)

get_or-end : (xs : List ℕ) (x : ℕ) → get_or (xs ++ x ∷ []) (length xs) 0 ≡ x
get_or-end [] x = refl
get_or-end (y ∷ xs) x = get_or-end xs x

pub found_more : (flat : FlatModule) {a b : List Arg} (start i : ℕ) (frame found new : List ℕ) (n : ℕ) → AllWithin a frame → Found flat a start i frame found → Steps flat a b start i frame n → new ≡ found ++ n ∷ [] → Found flat b start (i + 1) frame new
found_more flat {a} {b} start i frame found new n w f one is = subst (Found flat b start (i + 1) frame) (sym is) (record {
  long = omega (arith, f.long, length_push found n);
  each = λ k l s. by_place k l s (cases_lt k (length found));
})
  where
    by_place : (k : ℕ) → k < length (found ++ n ∷ []) → start ≤ first_node flat (start + k) → (k < length found) ⊎ (length found ≤ k) → IsFound flat b (start + k) frame (get_or (found ++ n ∷ []) k 0)
    by_place k l s c = elim c [
      | inl m ↦ subst (IsFound flat b (start + k) frame) (sym (get_or-left found n k m)) (found_on flat (start + k) frame _ one.grows w (f.each k m s))
      | inr m ↦
          let same : k ≡ length found = omega (arith, l, m, length_push found n) in
          let here : start + k ≡ i = omega (arith, same, f.long) in
          let x = one.found (subst (λ y. start ≤ first_node flat y) here s) in
          let number : get_or (found ++ n ∷ []) k 0 ≡ n = ap (λ y. get_or (found ++ n ∷ []) y 0) same ∙ get_or-end found n in
          subst (IsFound flat b (start + k) frame) (sym number) (subst (λ y. IsFound flat b y frame n) (sym here) x)
    ]

-- a node that the code does not leave out begins at start or later
pub begins_later : (t : tables.FlatModule) (facts : KindFacts) (start i first : ℕ) → IsFacts (flat_of t) facts → i < length t.nodes.items → first ≡ get_or facts.firsts.items i 0 → start ≤ first → start ≤ first_node (flat_of t) i
begins_later t facts start i first h l e s =
    let here : i < length facts.firsts.items = omega (arith, l, h.firsts.long, nodes-long t) in
    let same = h.firsts.each i here in omega (arith, e, same, s)

-- one that begins before start is left out
pub left_out : (t : tables.FlatModule) (facts : KindFacts) (start i first n : ℕ) (frame : List ℕ) → IsFacts (flat_of t) facts → i < length t.nodes.items → first ≡ get_or facts.firsts.items i 0 → first < start → Steps (flat_of t) facts.arguments.keys facts.arguments.keys start i frame n
left_out t facts start i first n frame h l e s =
    let here : i < length facts.firsts.items = omega (arith, l, h.firsts.long, nodes-long t) in
    let same = h.firsts.each i here in
    record { grows = grows_not facts.arguments.keys h.table; found = λ later. absurd (omega (arith, e, same, s, later)) }

-- where the nodes begin that a node is made of
pub begins_at : (t : tables.FlatModule) (facts : KindFacts) (i first : ℕ) → IsFacts (flat_of t) facts → i < length t.nodes.items → first ≡ get_or facts.firsts.items i 0 → (first ≤ first_node (flat_of t) i) × (first ≤ i)
begins_at t facts i first h l e =
    let here : i < length facts.firsts.items = omega (arith, l, h.firsts.long, nodes-long t) in
    let same = h.firsts.each i here in let below = first-below (flat_of t) i in
    (omega (arith, e, same), omega (arith, e, same, below))
