-- Instances that are made, and right sides that are found.
use Rattle.std.proofs.Common.{◌≡◌, ℕ, zero, suc, ◌+◌, ◌<◌, ◌≤◌, List, [], ◌∷◌, ◌++◌, Bool, true, false, Some, refl, sym, ap, subst, ◌∙◌, length, take, drop, get_or, map, add-one, arith}
use Rattle.std.specs.Prelude.{if◌then◌else◌, nat_lt, slice_get}
use Rattle.std.specs.List.{AllByRecursion}
use Rattle.std.proofs.lemmas.Bool.Decides.{nat_tests}
use Rattle.std.proofs.lemmas.List.{append-nil, map-append}
use Rattle.list_laws.proofs.Lists.{all-both, at-end}
use Rattle.tla_symbols.specs.declared.lexeme.Lexeme.{Lexeme}
use Rattle.tla_tree.specs.Arena.{Node as ArenaNode, AreThere, node_at}
use Rattle.tla_tree.specs.Syntax.{Cons}
use Rattle.tla_tree.proofs.Nodes.{tree_at-form}
use Rattle.tla_model.specs.Tables.{Named, same_named}
use Rattle.tla_model.specs.Entities.{Meaning}
use Rattle.tla_model.specs.Lexemes.{spelled}
use Rattle.kind_text.specs.FlatModule as flat
use Rattle.kind_text.specs.FlatModule.{Extends, FlatModule}
use Rattle.kind_table.specs.declared.flat.Replacement.{Replacement}
use Rattle.kind_table.specs.Flattened.{replacement_of}
use Rattle.flat_builder.specs.Building.{with_instance}
use Rattle.flattened_trees.specs.Flattened as flattened
use Rattle.flattened_trees.specs.Flattened.{AreReplacing, IsInstance, right_for, right_of}
use Rattle.name_context.specs.AsTables.{meant_by}
use Rattle.tree_flattener.specs.declared.instances.Right.{Right}
use Rattle.tree_flattener.specs.declared.state.Flattening.{Flattening}
use Rattle.tree_flattener.specs.Replacing.{AreStayed, Instantiates, IsRighted, ReplacesAll, replacements_of, right_in, rights_in}
use Rattle.tree_flattener.specs.Steps.{Steps}
use Rattle.tree_flattener.specs.Worlds.{World, setting_of}
use Rattle.tree_flattener.proofs.Replacements.{roots-on}
use Rattle.tree_flattener.proofs.Stepping.{extends-on, keeps-append, keeps-itself, keeps-same, same-setting, steps-on, steps-same}
use Rattle.tree_flattener.proofs.Walking.{at_nodes}

-- ---- lists

pub split-at : (xs : List ℕ) (i d : ℕ) → i < length xs → xs ≡ take i xs ++ (get_or xs i d ∷ drop (i + 1) xs)
split-at xs i d there = rw add-one (split xs i there)
  where
    split : (ys : List ℕ) (j : ℕ) → j < length ys → ys ≡ take j ys ++ (get_or ys j d ∷ drop (suc j) ys)
    split [] j here = absurd (omega arith)
    split (y ∷ ys) zero here = refl
    split (y ∷ ys) (suc j) here = ap (λ z. y ∷ z) (split ys j (omega (arith, here)))

drop-over : (symbols : List Meaning) (next : ℕ) → drop (suc next) symbols ≡ drop 1 (drop next symbols)
drop-over [] zero = refl
drop-over [] (suc next) = refl
drop-over (x ∷ symbols) zero = refl
drop-over (x ∷ symbols) (suc next) = drop-over symbols next

drop-out : (symbols : List Meaning) (next : ℕ) → length symbols ≤ next → drop next symbols ≡ []
drop-out [] zero past = refl
drop-out [] (suc next) past = refl
drop-out (x ∷ symbols) zero past = absurd (omega (arith, past))
drop-out (x ∷ symbols) (suc next) past = drop-out symbols next (omega (arith, past))

-- what is left behind one more symbol
pub behind-drop : (symbols : List Meaning) (next left : ℕ) → left ≡ (if nat_lt next (length symbols) then next + 1 else next) → drop left symbols ≡ drop 1 (drop next symbols)
behind-drop symbols next left is = ap (λ n. drop n symbols) is ∙ by_test (nat_lt next (length symbols)) refl
  where
    by_test : (b : Bool) → nat_lt next (length symbols) ≡ b → drop (if b then next + 1 else next) symbols ≡ drop 1 (drop next symbols)
    by_test true e = rw add-one (drop-over symbols next)
    by_test false e =
        let past : length symbols ≤ next = grind (arith, nat_tests, e) in
        let none = drop-out symbols next past in
        none ∙ sym (ap (drop 1) none)

-- the first symbol of those that are left
pub first-left : (symbols : List Meaning) (next : ℕ) → slice_get (drop next symbols) 0 ≡ slice_get symbols next
first-left [] zero = refl
first-left [] (suc next) = refl
first-left (x ∷ symbols) zero = refl
first-left (x ∷ symbols) (suc next) = first-left symbols next

-- ---- right sides

pub right-among : (P : ℕ → Type 0) (rights : List Right) (name : Named) (right : flattened.Right) → AllByRecursion (λ (r : Right). P r.node) rights → Some right ≡ right_for (rights_in rights) name → P right.node
right-among P [] name right all e = absurd (let impossible : ⊥ = cc in impossible)
right-among P (r ∷ rights) name right all e = by_test (same_named name (meant_by r.name)) (right-among P rights name right all.1) e
  where
    by_test : (b : Bool) → (Some right ≡ right_for (rights_in rights) name → P right.node) → Some right ≡ (if b then Some (right_in r) else right_for (rights_in rights) name) → P right.node
    by_test true others found = let same : right ≡ right_in r = cc in subst P (sym (ap (λ (z : flattened.Right). z.node) same)) all.0
    by_test false others found = others found

pub push-righted : (nodes : List ArenaNode) (kids is : List ℕ) (name : Named) (right : Right) (before after : List Right) → 0 < length kids → 0 < length is → AreThere nodes kids
    → meant_by right.name ≡ name → right.node ≡ get_or is 0 0 → right.at ≡ (node_at nodes (get_or kids 0 0)).span → after ≡ before ++ right ∷ [] → IsRighted before after (right_of name (at_nodes nodes kids) is)
push-righted nodes [] is name right before after some_kids some known named node at pushed = absurd (omega arith)
push-righted nodes (kid ∷ kids) [] name right before after some_kids some known named node at pushed = absurd (omega arith)
push-righted nodes (kid ∷ kids) (i ∷ is) name right before after some_kids some known named node at pushed =
    let found = tree_at-form nodes kid known.0 in
    record {
      made = right ∷ [];
      is = pushed;
      are = subst (λ x. rights_in (right ∷ []) ≡ right_of name (Cons x (at_nodes nodes kids)) (i ∷ is)) (sym found.1) (λ j. record { name = named j; node = node j; at = at j } ∷ []);
    }

-- ---- instances

pub instance-made : (w : World) (s0 s1 s2 s3 : Flattening) (frame outer count j : ℕ) (guards : Bool) (l : Lexeme) (rights : List flattened.Right) (start mid made : List Replacement) → frame < length s0.frames.items
    → start ≡ []
    → AreStayed s0 s1 (w.faces (spelled w.text.source l)).outer start mid
    → ReplacesAll (setting_of w s1 frame []) (w.faces (spelled w.text.source l)).is_constant rights l s1 s2 (w.faces (spelled w.text.source l)).parameters (w.implied l.span.start) mid made
    → s3.flat ≡ with_instance s2.flat (record { outer = outer; parameters = count; guards = guards; replacements = map replacement_of made }) → j ≡ length s2.flat.instances
    → s3.locals.items ≡ s2.locals.items → s3.frames.items ≡ s2.frames.items → s3.asked.items ≡ s2.asked.items
    → Instantiates w (setting_of w s0 frame []) outer count guards l rights s0 s3 j
instance-made w s0 s1 s2 s3 frame outer count j guards l rights start mid made there none stayed replaced flat_is number locals frames questions =
    let instance : flat.Instance = record { outer = outer; parameters = count; guards = guards; replacements = map replacement_of made } in
    let extends = subst (Extends s2.flat) (sym flat_is) (record { nodes = keeps-itself s2.flat.nodes; definitions = keeps-itself s2.flat.definitions; instances = keeps-append s2.flat.instances (instance ∷ []) }) in
    let last = steps-same s2 s3 extends (keeps-same s2.frames.items s3.frames.items frames) questions in
    let same = same-setting w s0 s1 frame [] stayed.steps.frames stayed.locals there in
    let is_there = subst (λ (z : FlatModule). slice_get z.instances j ≡ Some instance) (sym flat_is) (ap (slice_get (s2.flat.instances ++ instance ∷ [])) number ∙ at-end s2.flat.instances instance) in
    let made_is : made ≡ stayed.staying ++ replaced.made = replaced.is ∙ ap (λ z. z ++ replaced.made) (stayed.is ∙ ap (λ z. z ++ stayed.staying) none) in
    let roots = all-both (λ (r : Replacement). r.root < length s2.flat.nodes) stayed.staying replaced.made (roots-on s1.flat s2.flat replaced.steps.extends stayed.staying stayed.there) replaced.there in
    let all_roots = subst (AllByRecursion (λ (r : Replacement). r.root < length s2.flat.nodes)) (sym made_is) roots in
    record {
      asked = replaced.asked;
      steps = subst (Steps s0 s3) (append-nil replaced.asked) (steps-on s0 s1 s3 [] (replaced.asked ++ []) stayed.steps (steps-on s1 s2 s3 replaced.asked [] replaced.steps last));
      locals = locals ∙ replaced.locals ∙ stayed.locals;
      there = (instance, is_there, mapped made (roots-on s2.flat s3.flat extends made all_roots));
      holds = λ more from3.
          let from2 = extends-on s2.flat s3.flat more extends from3 in
          let from1 = extends-on s1.flat s2.flat more replaced.steps.extends from2 in (
            replacements_of stayed.staying,
            replacements_of replaced.made,
            from3.instances j instance is_there
                ∙ ap (λ z. Some (record { outer = outer; parameters = count; guards = guards; replacements = z })) (ap (map replacement_of) made_is ∙ map-append replacement_of stayed.staying replaced.made),
            stayed.holds more from1,
            subst (λ z. AreReplacing more z.leads z.frame (w.faces (spelled w.text.source l)).is_constant rights l (w.faces (spelled w.text.source l)).parameters (w.implied l.span.start) (replacements_of replaced.made) replaced.asked) same
                (replaced.holds more from2),
          );
    }
  where
    mapped : (rs : List Replacement) → AllByRecursion (λ (r : Replacement). r.root < length s3.flat.nodes) rs → AllByRecursion (λ (r : flat.Replacement). r.root < length s3.flat.nodes) (map replacement_of rs)
    mapped [] all = tt
    mapped (r ∷ rs) all = (all.0, mapped rs all.1)
