-- The guards of an instance, one replacement after another.
use Rattle.std.proofs.Common.{◌≡◌, ℕ, zero, suc, ◌+◌, ◌<◌, ◌≤◌, Bool, true, false, cond, List, [], ◌∷◌, ◌++◌, Option, Some, None, refl, sym, ap, ◌∙◌, subst, map, drop, length, get_or, arith}
use Rattle.std.specs.Prelude.{◌&&◌, slice_get}
use Rattle.std.proofs.lemmas.List.{drop_all, drop_more, length-map}
use Rattle.kind_text.specs.ExpandedKind.{Expanded, kind}
use Rattle.kind_text.specs.Substitution.{Alike, Item, Same, judged}
use Rattle.kind_text.specs.FlatModule.{FlatModule, Replacement, places_of}
use Rattle.kind_text.specs.Expansion.{Guard, are_met, guarded_by, guards_of, items, judged_at, text}
use Rattle.kind_table.specs.declared.argument.Arg.{Arg}
use Rattle.kind_table.specs.declared.flat.Instance.{Instance}
use Rattle.kind_table.specs.declared.flat.Replacement as table
use Rattle.kind_table.specs.Flattened.{instance_of, replacement_of}
use Rattle.kind_table.specs.Table.{AllWithin, Grows, IsTable, meaning, meanings}
use Rattle.kind_table.proofs.Growth.{grows_not, grows_on, meaning_on}
use Rattle.kind_table.proofs.Weighing.{lower-at}
use Rattle.level_facts.specs.Judged.{MeetsGuards, is_within}
use Rattle.level_facts.proofs.Likes.{kind-judged}

-- the nodes of replacements
abbrev pub roots_of : List table.Replacement → List ℕ
roots_of rs = map (λ (r : Replacement). r.root) (map replacement_of rs)

roots-long : (rs : List table.Replacement) → length (roots_of rs) ≡ length rs
roots-long rs = length-map (map replacement_of rs) (λ (r : Replacement). r.root) ∙ length-map rs replacement_of

roots-at : (rs : List table.Replacement) (i : ℕ) (r : table.Replacement) → i < length rs → r ≡ get_or rs i r → get_or (roots_of rs) i 0 ≡ r.root
roots-at [] i r l e = absurd (omega arith)
roots-at (x ∷ rs) zero r l e = ap (λ (y : table.Replacement). y.root) (sym e)
roots-at (x ∷ rs) (suc i) r l e = roots-at rs i r (omega arith) e

-- the nodes of replacements, as they are read
pub roots-same : (rs : List table.Replacement) → map (λ (r : table.Replacement). r.root) rs ≡ roots_of rs
roots-same [] = refl
roots-same (r ∷ rs) = ap (λ xs. r.root ∷ xs) (roots-same rs)

by_bound : (o : Option ℕ) (t : Expanded) (gs : List Guard) → are_met (guarded_by o t ++ gs) ≡ (is_within o (kind t) && are_met gs)
by_bound None t gs = refl
by_bound (Some most) t gs = refl

module _ (flat : FlatModule) where
  -- what is judged of a replacement is what is judged of its number
  pub judged_number : (table : List Arg) (ns roots : List ℕ) (s : List Item) (i : ℕ) → Alike (meanings flat table ns) (items (text flat) roots s) → i < length ns → i < length roots → Same (meaning flat table (get_or ns i 0)) (text flat (get_or roots i 0) s)
  judged_number table [] roots s i h l m = absurd (omega arith)
  judged_number table (n ∷ ns) [] s i h l m = absurd (omega arith)
  judged_number table (n ∷ ns) (root ∷ roots) s zero h l m = h.0
  judged_number table (n ∷ ns) (root ∷ roots) s (suc i) h l m = judged_number table ns roots s i h.1 (omega arith) (omega arith)

  -- the guards from a replacement on
  abbrev pub met_from : List table.Replacement → List Item → Bool
  met_from rs s = are_met (guards_of flat (text flat) (map replacement_of rs) s)

  -- those from a replacement on decide
  pub record Decide (old : List Arg) (j : Instance) (ns : List ℕ) (i : ℕ) : Type 0 where
    pub left : (s : List Item) → Alike (meanings flat old ns) (items (text flat) (roots_of j.replacements.items) s) → met_from (drop i j.replacements.items) s ≡ met_from j.replacements.items s

  -- what was judged of the replacement at a place
  pub record JudgesAt (old new : List Arg) (j : Instance) (ns : List ℕ) (i : ℕ) (r : table.Replacement) (met : Bool) : Type 0 where
    pub there : i < length j.replacements.items
    pub long : length ns ≡ length j.replacements.items
    pub is : r ≡ get_or j.replacements.items i r
    pub within : AllWithin old ns
    pub grows : Grows old new
    pub met_is : met ≡ is_within r.most (kind (judged (places_of (slice_get flat.nodes r.root)) (meaning flat new (get_or ns i 0))))

  -- the same, where its number is read at the place
  pub judges_at : {old mid new : List Arg} (j : Instance) (ns : List ℕ) (i n : ℕ) (r : table.Replacement) (met : Bool) → i < length j.replacements.items → length ns ≡ length j.replacements.items → r ≡ get_or j.replacements.items i r → AllWithin old ns → Grows old mid → Grows mid new → n ≡ get_or ns i 0 → met ≡ is_within r.most (kind (judged (places_of (slice_get flat.nodes r.root)) (meaning flat new n))) → JudgesAt old new j ns i r met
  judges_at {old} {mid} {new} j ns i n r met l long e w g h at is =
      record {
        there = l;
        long = long;
        is = e;
        within = w;
        grows = grows_on g h;
        met_is = is ∙ ap (λ x. is_within r.most (kind (judged (places_of (slice_get flat.nodes r.root)) (meaning flat new x)))) at;
      }

  one_more : {old new : List Arg} (j : Instance) (ns : List ℕ) (i : ℕ) (r : table.Replacement) (met : Bool) (s : List Item) → JudgesAt old new j ns i r met → Alike (meanings flat old ns) (items (text flat) (roots_of j.replacements.items) s) → met_from (drop i j.replacements.items) s ≡ (met && met_from (drop (i + 1) j.replacements.items) s)
  one_more {old} {new} j ns i r met s h like =
      let rs = j.replacements.items in let n = get_or ns i 0 in let places = places_of (slice_get flat.nodes r.root) in
      let here : i < length ns = omega (arith, h.there, h.long) in
      let here_too : i < length (roots_of rs) = omega (arith, h.there, roots-long rs) in
      let same : Same (meaning flat old n) (text flat r.root s) =
      subst (λ x. Same (meaning flat old n) (text flat x s)) (roots-at rs i r h.there h.is) (judged_number old ns (roots_of rs) s i like here here_too) in
      let kinds : kind (judged places (meaning flat new n)) ≡ kind (judged places (text flat r.root s)) =
      ap (λ x. kind (judged places x)) (meaning_on flat h.grows n (lower-at (length old) ns i 0 h.within here)) ∙ kind-judged places _ _ same in
      ap (λ x. met_from x s) (drop_more rs i r h.there ∙ ap (λ x. x ∷ drop (i + 1) rs) (sym h.is))
      ∙ by_bound r.most (judged_at flat (text flat) r.root s) (guards_of flat (text flat) (map replacement_of (drop (i + 1) rs)) s)
      ∙ ap (λ b. b && met_from (drop (i + 1) rs) s) (sym (h.met_is ∙ ap (is_within r.most) kinds))

  pub decide_none : (old : List Arg) (j : Instance) (ns : List ℕ) → Decide old j ns 0
  decide_none old j ns = record { left = λ s h. refl }

  pub decide_more : {old new : List Arg} {j : Instance} {ns : List ℕ} {i : ℕ} {r : table.Replacement} {met : Bool} → Decide old j ns i → JudgesAt old new j ns i r met → met ≡ true → Decide old j ns (i + 1)
  decide_more {old} {new} {j} {ns} {i} {r} {met} d h holds =
      record { left = λ s like. sym (one_more j ns i r met s h like ∙ ap (λ b. b && met_from (drop (i + 1) j.replacements.items) s) holds) ∙ d.left s like }

  pub meets_free : (old : List Arg) (j : Instance) (ns : List ℕ) → IsTable old → j.guards ≡ false → MeetsGuards flat old old j ns true
  meets_free old j ns t fails =
      record { grows = grows_not old t; is = λ s like. sym (ap (λ b. are_met (cond b (guards_of flat (text flat) (instance_of j).replacements s) [])) fails) }

  decided : (j : Instance) (s : List Item) (b : Bool) → j.guards ≡ true → b ≡ met_from j.replacements.items s → b ≡ are_met (cond j.guards (guards_of flat (text flat) (instance_of j).replacements s) [])
  decided j s b holds e = e ∙ sym (ap (λ g. are_met (cond g (guards_of flat (text flat) (instance_of j).replacements s) [])) holds)

  pub meets_all : {old new : List Arg} {j : Instance} {ns : List ℕ} {i : ℕ} → Grows old new → Decide old j ns i → length j.replacements.items ≤ i → j.guards ≡ true → MeetsGuards flat old new j ns true
  meets_all {old} {new} {j} {ns} {i} g d l holds =
      record { grows = g; is = λ s like. decided j s true holds (sym (ap (λ x. met_from x s) (drop_all i j.replacements.items l)) ∙ d.left s like) }

  pub meets_not : {old new : List Arg} {j : Instance} {ns : List ℕ} {i : ℕ} {r : table.Replacement} {met : Bool} → Decide old j ns i → JudgesAt old new j ns i r met → met ≡ false → j.guards ≡ true → MeetsGuards flat old new j ns false
  meets_not {old} {new} {j} {ns} {i} {r} {met} d h fails holds =
      record {
        grows = h.grows;
        is = λ s like. decided j s false holds (sym (one_more j ns i r met s h like ∙ ap (λ b. b && met_from (drop (i + 1) j.replacements.items) s) fails) ∙ d.left s like);
      }
