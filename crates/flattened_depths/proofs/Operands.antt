-- Nodes are the expressions that parts are made of.
use Rattle.std.proofs.Common.{◌≡◌, ℕ, ◌+◌, max, Bool, true, false, cond, List, [], ◌∷◌, ◌++◌, Option, None, refl, sym, ap, ◌∙◌, subst, arith}
use Rattle.std.proofs.Math.Nat.{max-zero}
use Rattle.tla_symbols.specs.declared.lexeme.Lexeme.{Lexeme}
use Rattle.tla_symbols.specs.declared.lexeme.Span.{Span}
use Rattle.tla_tree.specs.declared.form.Form.TheVariants as Form
use Rattle.tla_tree.specs.Forms.{helps}
use Rattle.tla_tree.specs.Syntax.{Trees, Node, Nil, Cons}
use Rattle.tla_model.specs.declared.names.Binder.{Binder}
use Rattle.tla_model.specs.Tables.{Named}
use Rattle.tla_model.specs.Entities.{Meaning, Text, within}
use Rattle.tla_model.specs.Contexts.{Context}
use Rattle.tla_model.specs.Scopes.{has_set}
use Rattle.module_model.specs.Exports.{Known}
use Rattle.kind_text.specs.FlatModule.{FlatModule}
use Rattle.level_text.specs.Depth.{depth as depth_at, greatest}
use Rattle.tree_kinds.specs.Standing.{Outside}
use Rattle.tree_kinds.specs.Expanding.{Part, Outer, Helper, Whole, part_of, places_at, stands_outside}
use Rattle.tree_kinds.specs.TreeDepths.{Depths, deep_names, deep_parts, depth, parts_depth}
use Rattle.flat_trees.specs.Stands.{Stand}
use Rattle.flat_depths.proofs.Joining.{greatest-joins, no-set}
use Rattle.flattened_trees.specs.Leads.{FlatFace, Setting}
use Rattle.flattened_trees.specs.Questions.{Question}
use Rattle.flattened_trees.specs.Flattened.{AreOperands, IsFlattened, all_parts}
use Rattle.flattened_trees.specs.Readable.{AreReadable, IsReadable}
use Rattle.flattened_depths.specs.Arranged.{AreArranged, BindsNothing, IsArranged}
use Rattle.flattened_depths.specs.Rounds.{LeadsBehind}
use Rattle.flattened_trees.specs.Answers.{deep_answers}
use Rattle.flattened_depths.proofs.Counting.{New, inner_names, new-fewer, times, times-joins, whole-plain}
use Rattle.flattened_depths.proofs.Facts.{Everywhere, PartsMatch, TreeGood, asked-joins, beneath, helper-matches}
use Rattle.flattened_depths.proofs.Rounds.{Round, Usable}

-- ---- what parts are

pub stands-outside : (form : Form.the_data) → part_of form ≡ Outer → stands_outside form ≡ true
stands-outside form e = by_tests (stands_outside form) (helps form) e
  where
    by_tests : (a b : Bool) → cond a Outer (cond b Helper Whole) ≡ Outer → a ≡ true
    by_tests true b e = refl
    by_tests false true e = cc
    by_tests false false e = cc

pub helps-out : (form : Form.the_data) → part_of form ≡ Helper → (helps form ≡ true) × (stands_outside form ≡ false)
helps-out form e = by_tests (stands_outside form) (helps form) e
  where
    by_tests : (a b : Bool) → cond a Outer (cond b Helper Whole) ≡ Helper → (b ≡ true) × (a ≡ false)
    by_tests true b e = cc
    by_tests false true e = (refl, refl)
    by_tests false false e = cc

pub whole-inside : (form : Form.the_data) → part_of form ≡ Whole → stands_outside form ≡ false
whole-inside form e = by_tests (stands_outside form) (helps form) e
  where
    by_tests : (a b : Bool) → cond a Outer (cond b Helper Whole) ≡ Whole → a ≡ false
    by_tests true b e = cc
    by_tests false b e = refl

outer-helps : (form : Form.the_data) → part_of form ≡ Outer → helps form ≡ true
outer-helps Form.Bound e = refl
outer-helps Form.TupleBound e = refl
outer-helps Form.IndexStep e = refl
outer-helps form e = absurd (never (helps form) e)
  where
    never : (b : Bool) → cond b Helper Whole ≡ Outer → ⊥
    never true e = cc
    never false e = cc

pub inside-set : (form : Form.the_data) → stands_outside form ≡ false → has_set form ≡ false
inside-set Form.IndexStep e = cc
inside-set form e = e

module _ (flat : FlatModule) (text : Text) (known : Known) (named : List ℕ → Outside) (means : ℕ → Option Meaning) (implied : ℕ → List Meaning) (faces : List ℕ → FlatFace) (inside : List ℕ → Named → Stand) where
  -- ---- parts before others

  -- what is said of one part
  abbrev pub PartMatches : Context → Context → Depths → Form.the_data → Span → Trees → List ℕ → List Question → Type 0
  PartMatches outside context depths form s parts is asked =
      (greatest (depth_at flat) is ≡ elim (has_set form) as (λ _. ℕ) [ true ↦ parts_depth text known named (beneath outside depths) (beneath outside depths) parts | false ↦ depth text known named (beneath context depths) (Node form s parts) ])
      × (deep_answers flat asked ≡ elim (has_set form) as (λ _. List Lexeme) [ true ↦ deep_parts text known named (beneath outside depths) (beneath outside depths) parts | false ↦ deep_names text known named (beneath context depths) (Node form s parts) ])

  pub parts-join : (outside context : Context) (depths : Depths) (form : Form.the_data) (s : Span) (parts rest : Trees) (is first others : List ℕ) (asked a b : List Question) → is ≡ first ++ others → asked ≡ a ++ b → PartMatches outside context depths form s parts first a → PartsMatch flat text known named means implied faces inside outside context depths rest others b → PartsMatch flat text known named means implied faces inside outside context depths (Cons (Node form s parts) rest) is asked
  parts-join outside context depths form s parts rest is first others asked a b split joined one later =
      record {
        deep = ap (greatest (depth_at flat)) split ∙ greatest-joins (depth_at flat) first others
            ∙ ap (λ n. max n (greatest (depth_at flat) others)) one.0
            ∙ ap (max (elim (has_set form) as (λ _. ℕ) [ true ↦ parts_depth text known named (beneath outside depths) (beneath outside depths) parts | false ↦ depth text known named (beneath context depths) (Node form s parts) ])) later.deep;
        names = ap (deep_answers flat) joined ∙ asked-joins flat a b
            ∙ ap (λ xs. xs ++ deep_answers flat b) one.1
            ∙ ap (λ xs. (elim (has_set form) as (λ _. List Lexeme) [ true ↦ deep_parts text known named (beneath outside depths) (beneath outside depths) parts | false ↦ deep_names text known named (beneath context depths) (Node form s parts) ]) ++ xs) later.names
            ∙ by_set (has_set form);
      }
    where
      by_set : (b : Bool) → (elim b as (λ _. List Lexeme) [ true ↦ deep_parts text known named (beneath outside depths) (beneath outside depths) parts | false ↦ deep_names text known named (beneath context depths) (Node form s parts) ]) ++ deep_parts text known named (beneath outside depths) (beneath context depths) rest ≡ elim b as (λ _. List Lexeme) [ true ↦ deep_parts text known named (beneath outside depths) (beneath outside depths) parts ++ deep_parts text known named (beneath outside depths) (beneath context depths) rest | false ↦ deep_names text known named (beneath context depths) (Node form s parts) ++ deep_parts text known named (beneath outside depths) (beneath context depths) rest ]
      by_set true = refl
      by_set false = refl

  -- a part without a set
  pub inside-matches : (outside context : Context) (depths : Depths) (form : Form.the_data) (s : Span) (parts : Trees) (is : List ℕ) (asked : List Question) → has_set form ≡ false → greatest (depth_at flat) is ≡ depth text known named (beneath context depths) (Node form s parts) → deep_answers flat asked ≡ deep_names text known named (beneath context depths) (Node form s parts) → PartMatches outside context depths form s parts is asked
  inside-matches outside context depths form s parts is asked none deep names = (
    deep ∙ ap (λ b. elim b as (λ _. ℕ) [ true ↦ parts_depth text known named (beneath outside depths) (beneath outside depths) parts | false ↦ depth text known named (beneath context depths) (Node form s parts) ]) (sym none),
    names ∙ ap (λ b. elim b as (λ _. List Lexeme) [ true ↦ deep_parts text known named (beneath outside depths) (beneath outside depths) parts | false ↦ deep_names text known named (beneath context depths) (Node form s parts) ]) (sym none),
  )

  -- a part with a set
  set-matches : (outside context : Context) (depths : Depths) (form : Form.the_data) (s : Span) (parts : Trees) (is : List ℕ) (asked : List Question) → has_set form ≡ true → PartsMatch flat text known named means implied faces inside outside outside depths parts is asked → PartMatches outside context depths form s parts is asked
  set-matches outside context depths form s parts is asked set match = (
    match.deep ∙ ap (λ b. elim b as (λ _. ℕ) [ true ↦ parts_depth text known named (beneath outside depths) (beneath outside depths) parts | false ↦ depth text known named (beneath context depths) (Node form s parts) ]) (sym set),
    match.names ∙ ap (λ b. elim b as (λ _. List Lexeme) [ true ↦ deep_parts text known named (beneath outside depths) (beneath outside depths) parts | false ↦ deep_names text known named (beneath context depths) (Node form s parts) ]) (sym set),
  )

  -- a helper form
  pub helper-part : (outside context : Context) (depths : Depths) (form : Form.the_data) (s : Span) (parts : Trees) (is : List ℕ) (asked : List Question) → helps form ≡ true → has_set form ≡ false → BindsNothing form parts → PartsMatch flat text known named means implied faces inside context context depths parts is asked → PartMatches outside context depths form s parts is asked
  helper-part outside context depths form s parts is asked helper none unbound match =
      let one = helper-matches flat text known named means implied faces inside context depths form s parts is asked helper unbound match in
      inside-matches outside context depths form s parts is asked none one.0 one.1

  pub none-match : (outside context : Context) (depths : Depths) (is : List ℕ) (asked : List Question) → is ≡ [] → asked ≡ [] → PartsMatch flat text known named means implied faces inside outside context depths Nil is asked
  none-match outside context depths is asked none empty = record { deep = ap (greatest (depth_at flat)) none; names = ap (deep_answers flat) empty }

  -- ---- parts that are new

  -- names that are declared in one part, or in the expression that it is
  abbrev pub part_names : Part → Form.the_data → Span → Trees → List Binder
  part_names p form s parts = elim p [ Outer ↦ inner_names text parts | Helper ↦ inner_names text parts | Whole ↦ within (Node form s parts) ]

  pub first-new : (seen : List Meaning) (form : Form.the_data) (s : Span) (parts rest : Trees) → New text seen (inner_names text (Cons (Node form s parts) rest)) → New text seen (part_names (part_of form) form s parts)
  first-new seen form s parts rest new = new-fewer text (inner_names text (Cons (Node form s parts) rest)) (part_names (part_of form) form s parts) seen (λ m. let e : times text m (inner_names text (Cons (Node form s parts) rest)) ≡ times text m (part_names (part_of form) form s parts) + times text m (inner_names text rest) = times-joins text m (part_names (part_of form) form s parts) (inner_names text rest) in omega (arith, e)) new

  pub rest-new : (seen : List Meaning) (form : Form.the_data) (s : Span) (parts rest : Trees) → New text seen (inner_names text (Cons (Node form s parts) rest)) → New text seen (inner_names text rest)
  rest-new seen form s parts rest new = new-fewer text (inner_names text (Cons (Node form s parts) rest)) (inner_names text rest) seen (λ m. let e : times text m (inner_names text (Cons (Node form s parts) rest)) ≡ times text m (part_names (part_of form) form s parts) + times text m (inner_names text rest) = times-joins text m (part_names (part_of form) form s parts) (inner_names text rest) in omega (arith, e)) new

  module _ (seen : List Meaning) (stands : Meaning → Stand) (setting : Setting) (depths : Depths) (round : Round text flat known seen stands setting depths) where
    -- parts that can be read, where they are flattened, are as deep as they are written
    abbrev pub OperandsGood : Trees → Type 0
    OperandsGood parts =
        (outside context : Context) (unbound : Bool) (is : List ℕ) (asked : List Question)
        → Usable text flat known seen stands outside → Usable text flat known seen stands context → (unbound ≡ true → outside ≡ context)
        → New text seen (inner_names text parts) → AreArranged (LeadsBehind flat text known named faces inside) unbound parts → AreReadable text known named means implied faces outside context parts
        → AreOperands text means implied faces flat all_parts setting parts is asked
        → PartsMatch flat text known named means implied faces inside outside context depths parts is asked

    -- an expression among parts
    pub whole-part : (outside context : Context) (form : Form.the_data) (s : Span) (parts : Trees) (i : ℕ) (is : List ℕ) (asked : List Question) → TreeGood flat text known named means implied faces inside (Node form s parts) → part_of form ≡ Whole → is ≡ i ∷ [] → Usable text flat known seen stands context → New text seen (within (Node form s parts)) → IsArranged (LeadsBehind flat text known named faces inside) (Node form s parts) → IsReadable text known named means implied faces context (Node form s parts) → IsFlattened text means implied faces flat setting (Node form s parts) i asked → PartMatches outside context depths form s parts is asked
    whole-part outside context form s parts i is asked tree whole one here new arranged readable flattened =
        let match = tree seen stands setting depths context i asked round here new arranged readable flattened in
        inside-matches outside context depths form s parts is asked (no-set form (whole-plain form whole)) (ap (greatest (depth_at flat)) one ∙ max-zero (depth_at flat i) ∙ match.deep) match.names

    pub part-good : (outside context : Context) (unbound : Bool) (form : Form.the_data) (s : Span) (parts : Trees) (is : List ℕ) (asked : List Question) → TreeGood flat text known named means implied faces inside (Node form s parts) → OperandsGood parts
        → Usable text flat known seen stands outside → Usable text flat known seen stands context → (unbound ≡ true → outside ≡ context)
        → (p : Part) → part_of form ≡ p → New text seen (part_names p form s parts)
        → (elim p as (λ _. Type 0) [
          | Outer ↦ (elim (has_set form) [ true ↦ Unit {0} | false ↦ (unbound ≡ true) × BindsNothing form parts ]) × AreArranged (LeadsBehind flat text known named faces inside) true parts
          | Helper ↦ BindsNothing form parts × AreArranged (LeadsBehind flat text known named faces inside) true parts
          | Whole ↦ IsArranged (LeadsBehind flat text known named faces inside) (Node form s parts)
        ])
        → (elim p as (λ _. Type 0) [
          | Outer ↦ AreReadable text known named means implied faces outside outside parts
          | Helper ↦ AreReadable text known named means implied faces context context parts
          | Whole ↦ (places_at text known named context (Node form s parts) ≡ None) × IsReadable text known named means implied faces context (Node form s parts)
        ])
        → (elim p as (λ _. Type 0) [
          | Outer ↦ AreOperands text means implied faces flat all_parts setting parts is asked
          | Helper ↦ AreOperands text means implied faces flat all_parts setting parts is asked
          | Whole ↦ (i : ℕ) × (is ≡ i ∷ []) × IsFlattened text means implied faces flat setting (Node form s parts) i asked
        ])
        → PartMatches outside context depths form s parts is asked
    part-good outside context unbound form s parts is asked tree inner before here one Whole e new arranged readable (i, alone, flattened) =
        whole-part outside context form s parts i is asked tree e alone here new arranged readable.1 flattened
    part-good outside context unbound form s parts is asked tree inner before here one Helper e new (none, arranged) readable flattened =
        let helper = helps-out form e in
        helper-part outside context depths form s parts is asked helper.0 (inside-set form helper.1) none (inner context context true is asked here here (λ _. refl) new arranged readable flattened)
    part-good outside context unbound form s parts is asked tree inner before here one Outer e new (bound, arranged) readable flattened =
        by_set (has_set form) refl bound (inner outside outside true is asked before before (λ _. refl) new arranged readable flattened)
      where
        by_set : (b : Bool) → has_set form ≡ b → (elim b as (λ _. Type 0) [ true ↦ Unit {0} | false ↦ (unbound ≡ true) × BindsNothing form parts ]) → PartsMatch flat text known named means implied faces inside outside outside depths parts is asked → PartMatches outside context depths form s parts is asked
        by_set true set bound match = set-matches outside context depths form s parts is asked set match
        by_set false set (same, none) match =
            helper-part outside context depths form s parts is asked (outer-helps form e) set none (subst (λ c. PartsMatch flat text known named means implied faces inside c c depths parts is asked) (one same) match)

    operands-cons : (form : Form.the_data) (s : Span) (parts rest : Trees) → TreeGood flat text known named means implied faces inside (Node form s parts) → OperandsGood parts → OperandsGood rest → OperandsGood (Cons (Node form s parts) rest)
    operands-cons form s parts rest tree inner later outside context unbound is asked before here one new arranged readable (first, others, a, b, split, joined, flattened, more) =
        parts-join outside context depths form s parts rest is first others asked a b split joined
        (part-good outside context unbound form s parts first a tree inner before here one (part_of form) refl (first-new seen form s parts rest new) arranged.0 readable.0 flattened)
        (later outside context unbound others b before here one (rest-new seen form s parts rest new) arranged.1 readable.1 more)

    pub operands-good : (parts : Trees) → Everywhere flat text known named means implied faces inside parts → OperandsGood parts
    operands-good Nil below = λ outside context unbound is asked before here one new arranged readable flattened. none-match outside context depths is asked flattened.0 flattened.1
    operands-good (Cons (Node form s parts) rest) (tree, below, later) = operands-cons form s parts rest tree (operands-good parts below) (operands-good rest later)
