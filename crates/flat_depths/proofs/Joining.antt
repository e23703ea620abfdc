-- Parts that are joined, and arguments on paths, are as deep as what they are nodes of.
use Rattle.std.proofs.Common.{◌≡◌, ℕ, ◌≤◌, max, Bool, true, false, cond, List, [], ◌∷◌, ◌++◌, map, refl, sym, ap, ◌∙◌, take, drop, length, arith}
use Rattle.std.specs.Prelude.{is_some, slice_get}
use Rattle.std.specs.List.{AllByRecursion}
use Rattle.std.proofs.Math.Nat.{max-zero, zero-max}
use Rattle.std.proofs.Math.Seq.{drop-append_seam}
use Rattle.tla_symbols.specs.declared.lexeme.Lexeme.{Lexeme}
use Rattle.tla_symbols.specs.declared.lexeme.Span.{Span}
use Rattle.tla_tree.specs.declared.form.Form.TheVariants as Form
use Rattle.tla_tree.specs.Forms.{helps}
use Rattle.tla_tree.specs.Syntax.{Tree, Trees, Node, Nil, Cons}
use Rattle.tla_model.specs.Entities.{Text, all_placed, binding_of, bound_as, is_group, placed}
use Rattle.tla_model.specs.Contexts.{bind_all}
use Rattle.tla_model.specs.Scopes.{all_grouped, has_set, names_in}
use Rattle.module_model.specs.Exports.{Known}
use Rattle.kind_text.specs.FlatModule.{FlatModule, Form as NodeForm, Replacement, places_of}
use Rattle.level_text.specs.Depth.{depth as depth_at, greatest, operator_depth, parameters_on}
use Rattle.tree_kinds.specs.Standing.{Outside}
use Rattle.tree_kinds.specs.Expanding.{places_at}
use Rattle.tree_kinds.specs.TreeDepths.{Beneath, counted, depth, in_scope, operators_depth, parts_depth}
use Rattle.flat_depths.specs.Depths.{IsAsDeep}
use Rattle.flat_depths.specs.Parts.{AreArguments, AreOnPath, Counts, HasParts, counted_on, path_of}
use Rattle.flat_depths.proofs.Agreeing.{max-assoc}

pub greatest-joins : (f : ℕ → ℕ) (is js : List ℕ) → greatest f (is ++ js) ≡ max (greatest f is) (greatest f js)
greatest-joins f [] js = sym (zero-max (greatest f js))
greatest-joins f (i ∷ is) js = ap (max (f i)) (greatest-joins f is js) ∙ joined (f i) (greatest f is) (greatest f js)
  where
    joined : (a b c : ℕ) → max a (max b c) ≡ max (max a b) c
    joined a b c = omega arith

-- roots without a depth before others do not count
pub roots-join : (f : ℕ → ℕ) (staying made : List Replacement) → AllByRecursion (λ r. f r.root ≡ 0) staying → greatest f (map (λ r. r.root) (staying ++ made)) ≡ greatest f (map (λ r. r.root) made)
roots-join f [] made all = refl
roots-join f (r ∷ rest) made all =
    ap (λ n. max n (greatest f (map (λ r. r.root) (rest ++ made)))) all.0 ∙ zero-max (greatest f (map (λ r. r.root) (rest ++ made))) ∙ roots-join f rest made all.1

-- what a path leaves of items that are split there
take-front : (first more : List ℕ) → take (length first) (first ++ more) ≡ first
take-front [] more = refl
take-front (i ∷ first) more = ap (λ is. i ∷ is) (take-front first more)

append-append : (a b c : List ℕ) → (a ++ b) ++ c ≡ a ++ (b ++ c)
append-append [] b c = refl
append-append (x ∷ a) b c = ap (λ xs. x ∷ xs) (append-append a b c)

-- ---- expressions declare nothing

pub no-name : (form : Form.the_data) → helps form ≡ false → placed form ≡ []
no-name (Form.Name l) e = cc
no-name (Form.OperatorParameter l places) e = cc
no-name (Form.PrefixParameter l) e = cc
no-name (Form.InfixParameter l) e = cc
no-name (Form.PostfixParameter l) e = cc
no-name form e = refl

pub no-group : (form : Form.the_data) → helps form ≡ false → is_group form ≡ false
no-group Form.Names e = cc
no-group Form.TupleNames e = cc
no-group Form.Bound e = cc
no-group Form.TupleBound e = cc
no-group Form.Bounds e = cc
no-group form e = refl

pub no-set : (form : Form.the_data) → helps form ≡ false → has_set form ≡ false
no-set Form.Bound e = cc
no-set Form.TupleBound e = cc
no-set form e = refl

all-unnamed : (flat : FlatModule) (text : Text) (known : Known) (named : List ℕ → Outside) (around : Beneath) (arguments : Trees) (is : List ℕ) → AreArguments flat text known named around arguments is → all_placed arguments ≡ []
all-unnamed flat text known named around Nil is all = refl
all-unnamed flat text known named around (Cons (Node form s parts) rest) [] all = absurd all
all-unnamed flat text known named around (Cons (Node form s parts) rest) (i ∷ is) (plain, deep, places, more) =
    ap (λ xs. xs ++ all_placed rest) (no-name form plain) ∙ all-unnamed flat text known named around rest is more

all-ungrouped : (flat : FlatModule) (text : Text) (known : Known) (named : List ℕ → Outside) (around : Beneath) (arguments : Trees) (is : List ℕ) → AreArguments flat text known named around arguments is → all_grouped arguments ≡ []
all-ungrouped flat text known named around Nil is all = refl
all-ungrouped flat text known named around (Cons (Node form s parts) rest) [] all = absurd all
all-ungrouped flat text known named around (Cons (Node form s parts) rest) (i ∷ is) (plain, deep, places, more) =
    ap (λ b. names_in b parts ++ all_grouped rest) (no-group form plain) ∙ all-ungrouped flat text known named around rest is more

-- ---- arguments that count

module _ (flat : FlatModule) where
  operator-below : (i : ℕ) → operator_depth flat (depth_at flat) i ≤ depth_at flat i
  operator-below i = by_some (is_some (places_of (slice_get flat.nodes i)))
    where
      by_some : (b : Bool) → cond b (depth_at flat i) 0 ≤ depth_at flat i
      by_some true = omega arith
      by_some false = omega arith

  operators-below : (is : List ℕ) → greatest (operator_depth flat (depth_at flat)) is ≤ greatest (depth_at flat) is
  operators-below [] = omega arith
  operators-below (i ∷ is) = both (operator_depth flat (depth_at flat) i) (depth_at flat i) _ _ (operator-below i) (operators-below is)
    where
      both : (a b c d : ℕ) → a ≤ b → c ≤ d → max a c ≤ max b d
      both a b c d l m = omega (arith, l, m)

  split-counts : (path before own : List ℕ) (n : ℕ) → length before ≡ parameters_on flat (depth_at flat) path → max (greatest (depth_at flat) before) (greatest (operator_depth flat (depth_at flat)) own) ≡ n → counted_on flat path (before ++ own) ≡ n
  split-counts path before own n many e =
      ap (λ k. max (greatest (depth_at flat) (take k (before ++ own))) (greatest (operator_depth flat (depth_at flat)) (drop k (before ++ own)))) (sym many)
      ∙ ap (λ is. max (greatest (depth_at flat) is) (greatest (operator_depth flat (depth_at flat)) (drop (length before) (before ++ own)))) (take-front before own)
      ∙ ap (λ is. max (greatest (depth_at flat) before) (greatest (operator_depth flat (depth_at flat)) is)) (drop-append_seam before own)
      ∙ e

  within-counts : (before own : List ℕ) (n : ℕ) → max (greatest (depth_at flat) before) (greatest (operator_depth flat (depth_at flat)) own) ≡ n → n ≤ greatest (depth_at flat) (before ++ own)
  within-counts before own n e = let below = operators-below own in let joins = greatest-joins (depth_at flat) before own in omega (arith, e, below, joins)

  counts-split : (form : NodeForm) (before own : List ℕ) (n : ℕ) → length before ≡ parameters_on flat (depth_at flat) (path_of form) → max (greatest (depth_at flat) before) (greatest (operator_depth flat (depth_at flat)) own) ≡ n → Counts flat form (before ++ own) n
  counts-split (NodeForm.Use path d) before own n many e = split-counts path before own n many e
  counts-split (NodeForm.Name path d) before own n many e = split-counts path before own n many e
  counts-split form before own n many e = within-counts before own n e

  module _ (text : Text) (known : Known) (named : List ℕ → Outside) where
    -- a part that has nodes, before others
    pub helpers-join : (outside around : Beneath) (form : Form.the_data) (sp : Span) (parts rest : Trees) (is js : List ℕ) → has_set form ≡ false → greatest (depth_at flat) is ≡ depth text known named around (Node form sp parts) → greatest (depth_at flat) js ≡ parts_depth text known named outside around rest → greatest (depth_at flat) (is ++ js) ≡ parts_depth text known named outside around (Cons (Node form sp parts) rest)
    helpers-join outside around form sp parts rest is js none first others =
        greatest-joins (depth_at flat) is js
        ∙ ap (λ n. max n (greatest (depth_at flat) js)) first
        ∙ ap (max (depth text known named around (Node form sp parts))) others
        ∙ ap (λ b. max (elim b as (λ _. ℕ) [ true ↦ parts_depth text known named outside outside parts | false ↦ depth text known named around (Node form sp parts) ]) (parts_depth text known named outside around rest)) (sym none)

    pub sets-join : (outside around : Beneath) (form : Form.the_data) (sp : Span) (parts rest : Trees) (is js : List ℕ) → has_set form ≡ true → greatest (depth_at flat) is ≡ parts_depth text known named outside outside parts → greatest (depth_at flat) js ≡ parts_depth text known named outside around rest → greatest (depth_at flat) (is ++ js) ≡ parts_depth text known named outside around (Cons (Node form sp parts) rest)
    sets-join outside around form sp parts rest is js set first others =
        greatest-joins (depth_at flat) is js
        ∙ ap (λ n. max n (greatest (depth_at flat) js)) first
        ∙ ap (max (parts_depth text known named outside outside parts)) others
        ∙ ap (λ b. max (elim b as (λ _. ℕ) [ true ↦ parts_depth text known named outside outside parts | false ↦ depth text known named around (Node form sp parts) ]) (parts_depth text known named outside around rest)) (sym set)

    pub expressions-join : (outside around : Beneath) (form : Form.the_data) (sp : Span) (parts rest : Trees) (i : ℕ) (is : List ℕ) → helps form ≡ false → IsAsDeep flat text known named around i (Node form sp parts) → greatest (depth_at flat) is ≡ parts_depth text known named outside around rest → greatest (depth_at flat) (i ∷ is) ≡ parts_depth text known named outside around (Cons (Node form sp parts) rest)
    expressions-join outside around form sp parts rest i is plain deep others =
        helpers-join outside around form sp parts rest (i ∷ []) is (no-set form plain) (max-zero (depth_at flat i) ∙ deep) others

    module _ (around : Beneath) where
      pub arguments-deep : (arguments : Trees) (is : List ℕ) → AreArguments flat text known named around arguments is → greatest (depth_at flat) is ≡ parts_depth text known named around around arguments
      arguments-deep Nil [] all = refl
      arguments-deep Nil (i ∷ is) all = absurd all
      arguments-deep (Cons (Node form s parts) rest) [] all = absurd all
      arguments-deep (Cons (Node form s parts) rest) (i ∷ is) (plain, deep, places, more) =
          expressions-join around around form s parts rest i is plain deep (arguments-deep rest is more)

      choose : (b : Bool) (n : ℕ) → cond b n 0 ≡ elim b as (λ _. ℕ) [ true ↦ n | false ↦ 0 ]
      choose true n = refl
      choose false n = refl

      operator-first : (x : Tree) (rest : Trees) (i : ℕ) (is : List ℕ) → depth_at flat i ≡ depth text known named around x → places_of (slice_get flat.nodes i) ≡ places_at text known named around.context x → greatest (operator_depth flat (depth_at flat)) is ≡ operators_depth text known named around rest → greatest (operator_depth flat (depth_at flat)) (i ∷ is) ≡ operators_depth text known named around (Cons x rest)
      operator-first x rest i is deep places others =
          ap (λ o. max (cond (is_some o) (depth_at flat i) 0) (greatest (operator_depth flat (depth_at flat)) is)) places
          ∙ ap (λ n. max (cond (is_some (places_at text known named around.context x)) n 0) (greatest (operator_depth flat (depth_at flat)) is)) deep
          ∙ ap (λ n. max n (greatest (operator_depth flat (depth_at flat)) is)) (choose (is_some (places_at text known named around.context x)) (depth text known named around x))
          ∙ ap (max (elim (is_some (places_at text known named around.context x)) as (λ _. ℕ) [ true ↦ depth text known named around x | false ↦ 0 ])) others

      operators-deep : (arguments : Trees) (is : List ℕ) → AreArguments flat text known named around arguments is → greatest (operator_depth flat (depth_at flat)) is ≡ operators_depth text known named around arguments
      operators-deep Nil [] all = refl
      operators-deep Nil (i ∷ is) all = absurd all
      operators-deep (Cons (Node form s parts) rest) [] all = absurd all
      operators-deep (Cons (Node form s parts) rest) (i ∷ is) (plain, deep, places, more) =
          operator-first (Node form s parts) rest i is deep places (operators-deep rest is more)

      -- a segment binds nothing for its arguments
      segment-deep : (l : Lexeme) (s : Span) (arguments : Trees) (is : List ℕ) → AreArguments flat text known named around arguments is → greatest (depth_at flat) is ≡ depth text known named around (Node (Form.Segment l) s arguments)
      segment-deep l s arguments is all =
          arguments-deep arguments is all
          ∙ sym (ap (λ (names : List (Lexeme × ℕ)). parts_depth text known named around (record around { context = bind_all text around.context (bound_as (binding_of (Form.Segment l)) names) }) arguments)
          (ap (λ xs. xs ++ all_grouped arguments) (all-unnamed flat text known named around arguments is all) ∙ all-ungrouped flat text known named around arguments is all))
          ∙ sym (zero-max (parts_depth text known named around (in_scope text known named around (Form.Segment l) arguments) arguments))

      path-all : (segments : Trees) (before own : List ℕ) → AreOnPath flat text known named around segments before own → greatest (depth_at flat) (before ++ own) ≡ parts_depth text known named around around segments
      path-all Nil before own on = absurd on
      path-all (Cons (Node (Form.Segment l) s arguments) Nil) before own (none, all) =
          ap (λ is. greatest (depth_at flat) (is ++ own)) none ∙ segment-deep l s arguments own all ∙ sym (max-zero (depth text known named around (Node (Form.Segment l) s arguments)))
      path-all (Cons (Node (Form.Segment l) s arguments) (Cons x rest)) before own (first, others, split, all, on) =
          ap (λ is. greatest (depth_at flat) (is ++ own)) split
          ∙ ap (greatest (depth_at flat)) (append-append first others own)
          ∙ helpers-join around around (Form.Segment l) s arguments (Cons x rest) first (others ++ own) refl (segment-deep l s arguments first all) (path-all (Cons x rest) others own on)
      path-all (Cons (Node form s arguments) rest) before own on = absurd on

      path-counted : (segments : Trees) (before own : List ℕ) → AreOnPath flat text known named around segments before own → max (greatest (depth_at flat) before) (greatest (operator_depth flat (depth_at flat)) own) ≡ counted text known named around segments
      path-counted Nil before own on = absurd on
      path-counted (Cons (Node (Form.Segment l) s arguments) Nil) before own (none, all) =
          ap (λ is. max (greatest (depth_at flat) is) (greatest (operator_depth flat (depth_at flat)) own)) none
          ∙ zero-max (greatest (operator_depth flat (depth_at flat)) own)
          ∙ operators-deep arguments own all
      path-counted (Cons (Node (Form.Segment l) s arguments) (Cons x rest)) before own (first, others, split, all, on) =
          ap (λ is. max (greatest (depth_at flat) is) (greatest (operator_depth flat (depth_at flat)) own)) split
          ∙ ap (λ n. max n (greatest (operator_depth flat (depth_at flat)) own)) (greatest-joins (depth_at flat) first others)
          ∙ max-assoc (greatest (depth_at flat) first) (greatest (depth_at flat) others) (greatest (operator_depth flat (depth_at flat)) own)
          ∙ ap (λ n. max n (max (greatest (depth_at flat) others) (greatest (operator_depth flat (depth_at flat)) own))) (arguments-deep arguments first all)
          ∙ ap (max (parts_depth text known named around around arguments)) (path-counted (Cons x rest) others own on)
      path-counted (Cons (Node form s arguments) rest) before own on = absurd on

      pub path-parts : (segments : Trees) (s : Span) (form : NodeForm) (before own : List ℕ) → AreOnPath flat text known named around segments before own → length before ≡ parameters_on flat (depth_at flat) (path_of form) → HasParts flat text known named around (Node Form.Identifier s segments) form (before ++ own)
      path-parts segments s form before own on many =
          (path-all segments before own on, counts-split form before own (counted text known named around segments) many (path-counted segments before own on))
