-- What is shown of trees and of parts, and the steps from parts to forms that bind nothing.
use Rattle.std.proofs.Common.{◌≡◌, ℕ, Bool, true, false, cond, List, [], ◌∷◌, ◌++◌, Option, map, refl, sym, ap, ◌∙◌, append_assoc}
use Rattle.std.specs.Prelude.{slice_get}
use Rattle.std.proofs.Math.Nat.{zero-max}
use Rattle.tla_symbols.specs.declared.lexeme.Lexeme.{Lexeme}
use Rattle.tla_symbols.specs.declared.lexeme.LexKind.TheVariants as LexKind
use Rattle.tla_symbols.specs.declared.lexeme.Span.{Span}
use Rattle.tla_symbols.specs.declared.op.Op.TheVariants as Op
use Rattle.tla_tree.specs.declared.form.Form.TheVariants as Form
use Rattle.tla_tree.specs.Forms.{helps}
use Rattle.tla_tree.specs.Syntax.{Tree, Trees, Node, Nil, Cons}
use Rattle.tla_model.specs.Tables.{Named}
use Rattle.tla_model.specs.Entities.{Meaning, Nothing, Text, defined_as, defines, within}
use Rattle.tla_model.specs.Contexts.{Context, bind_all, reserve_all}
use Rattle.tla_model.specs.Scopes.{is_free, prefixed, reserved, scope, itself as as_spelled}
use Rattle.module_model.specs.Exports.{Known}
use Rattle.kind_text.specs.FlatModule.{FlatModule, places_of}
use Rattle.level_text.specs.Depth.{depth as depth_at, greatest}
use Rattle.tree_kinds.specs.Standing.{Outside}
use Rattle.tree_kinds.specs.Expanding.{places_at}
use Rattle.tree_kinds.specs.TreeDepths as written
use Rattle.tree_kinds.specs.TreeDepths.{Beneath, Depths, deep_names, deep_parts, defined_depth, depth, is_too_deep, parts_depth}
use Rattle.tree_kinds.specs.TreeLevels.{is_judged}
use Rattle.flat_trees.specs.Stands.{Stand}
use Rattle.flattened_trees.specs.Leads.{FlatFace, Setting}
use Rattle.flattened_trees.specs.Questions.{Asked, Question, HasKind, UseOf, asks_at, form_asks, kind_asks, over, path_asks, symbol_asks}
use Rattle.flattened_trees.specs.Flattened.{IsFlattened}
use Rattle.flattened_trees.specs.Readable.{IsReadable}
use Rattle.flattened_depths.specs.Arranged.{BindsNothing, IsArranged}
use Rattle.flattened_depths.specs.Rounds.{LeadsBehind}
use Rattle.flattened_trees.specs.Answers.{deep_answers, deep_answer}
use Rattle.flattened_depths.proofs.Counting.{New}
use Rattle.flattened_depths.proofs.Rounds.{Round, Usable}

-- what stands round a tree
abbrev pub beneath : Context → Depths → Beneath
beneath context depths = record { context = context; depths = depths }

pub nothing-either : {A : Type 0} (b : Bool) → cond b [] [] ≡ (let none : List A = [] in none)
nothing-either true = refl
nothing-either false = refl

-- ---- questions

pub asked-joins : (flat : FlatModule) (a b : List Question) → deep_answers flat (a ++ b) ≡ deep_answers flat a ++ deep_answers flat b
asked-joins flat [] b = refl
asked-joins flat (q ∷ a) b = ap (λ xs. deep_answer flat q.asked ++ xs) (asked-joins flat a b) ∙ sym (append_assoc (deep_answer flat q.asked) (deep_answers flat a) (deep_answers flat b))

over-joins : (flat : FlatModule) (frame : List Meaning) (a b : List Asked) → deep_answers flat (over frame (a ++ b)) ≡ deep_answers flat (over frame a) ++ deep_answers flat (over frame b)
over-joins flat frame [] b = refl
over-joins flat frame (q ∷ a) b = ap (λ xs. deep_answer flat q ++ xs) (over-joins flat frame a b) ∙ sym (append_assoc (deep_answer flat q) (deep_answers flat (over frame a)) (deep_answers flat (over frame b)))

module _ (flat : FlatModule) (frame : List Meaning) (i : ℕ) where
  path-none : (segments : Trees) → deep_answers flat (over frame (path_asks i segments)) ≡ []
  path-none Nil = refl
  path-none (Cons (Node (Form.Segment l) s arguments) Nil) = refl
  path-none (Cons (Node (Form.Segment l) s arguments) (Cons x rest)) = path-none (Cons x rest)
  path-none (Cons (Node form s arguments) rest) = path-none rest

  symbol-none : (l : Lexeme) (which : Op.the_data → Op.the_data) (kind : LexKind.the_data) → deep_answers flat (over frame (symbol_asks i l which kind)) ≡ []
  symbol-none l which (LexKind.Sym op) = by_free (is_free (which op))
    where
      by_free : (b : Bool) → deep_answers flat (over frame (cond b (UseOf l i ∷ []) [])) ≡ []
      by_free true = refl
      by_free false = refl
  symbol-none l which kind = refl

  form-none : (form : Form.the_data) (parts : Trees) → deep_answers flat (over frame (form_asks i form parts)) ≡ []
  form-none Form.Identifier parts = path-none parts
  form-none (Form.Symbol l) parts = symbol-none l as_spelled l.kind
  form-none (Form.Prefix l) parts = symbol-none l prefixed l.kind
  form-none (Form.Infix l) parts = symbol-none l as_spelled l.kind
  form-none (Form.Postfix l) parts = symbol-none l as_spelled l.kind
  form-none form parts = refl

  -- what is asked of a node itself is of no definition
  pub asks-none : (form : Form.the_data) (s : Span) (parts : Trees) → deep_answers flat (over frame (asks_at i form s parts)) ≡ []
  asks-none form s parts =
      over-joins flat frame (form_asks i form parts) (kind_asks i form s)
      ∙ ap (λ xs. xs ++ deep_answers flat (over frame (kind_asks i form s))) (form-none form parts)
      ∙ by_judged (is_judged form)
    where
      by_judged : (b : Bool) → deep_answers flat (over frame (cond b (HasKind s i ∷ []) [])) ≡ []
      by_judged true = refl
      by_judged false = refl

-- ---- facts

module _ (flat : FlatModule) (text : Text) (known : Known) (named : List ℕ → Outside) (means : ℕ → Option Meaning) (implied : ℕ → List Meaning) (faces : List ℕ → FlatFace) (inside : List ℕ → Named → Stand) where
  -- a node is a tree, of which this is asked
  pub record TreeMatches (context : Context) (depths : Depths) (x : Tree) (i : ℕ) (asked : List Question) : Type 0 where
    pub deep : depth_at flat i ≡ depth text known named (beneath context depths) x
    pub places : places_of (slice_get flat.nodes i) ≡ places_at text known named context x
    pub names : deep_answers flat asked ≡ deep_names text known named (beneath context depths) x

  -- nodes are the expressions that parts are made of, of which this is asked
  pub record PartsMatch (outside context : Context) (depths : Depths) (parts : Trees) (is : List ℕ) (asked : List Question) : Type 0 where
    pub deep : greatest (depth_at flat) is ≡ parts_depth text known named (beneath outside depths) (beneath context depths) parts
    pub names : deep_answers flat asked ≡ deep_parts text known named (beneath outside depths) (beneath context depths) parts

  -- wherever it can be read, a node is a tree where it is flattened
  abbrev pub TreeGood : Tree → Type 0
  TreeGood x =
      (seen : List Meaning) (stands : Meaning → Stand) (setting : Setting) (depths : Depths) (context : Context) (i : ℕ) (asked : List Question)
      → Round text flat known seen stands setting depths → Usable text flat known seen stands context → New text seen (within x) → IsArranged (LeadsBehind flat text known named faces inside) x
      → IsReadable text known named means implied faces context x → IsFlattened text means implied faces flat setting x i asked
      → TreeMatches context depths x i asked

  -- the same of all trees that parts are made of
  abbrev pub Everywhere : Trees → Type 0
  Everywhere Nil = Unit {0}
  Everywhere (Cons (Node form s parts) rest) = TreeGood (Node form s parts) × Everywhere parts × Everywhere rest

  -- ---- forms that bind nothing

  scope-same : (context : Context) (form : Form.the_data) (parts : Trees) → BindsNothing form parts → scope text context form parts ≡ context
  scope-same context (Form.FunctionDefinition l) parts none = cc none.0
  scope-same context form parts none = ap (bind_all text (reserved text context form parts)) none.1 ∙ ap (λ d. reserve_all text context (defined_as d parts)) none.0

  reserved-same : (context : Context) (form : Form.the_data) (parts : Trees) → BindsNothing form parts → reserved text context form parts ≡ context
  reserved-same context form parts none = ap (λ d. reserve_all text context (defined_as d parts)) none.0

  -- parts are as deep in both contexts
  pub unbound-depth : (context : Context) (depths : Depths) (form : Form.the_data) (parts : Trees) → BindsNothing form parts → parts_depth text known named (beneath (reserved text context form parts) depths) (beneath (scope text context form parts) depths) parts ≡ parts_depth text known named (beneath context depths) (beneath context depths) parts
  unbound-depth context depths form parts none =
      ap (λ c. parts_depth text known named (beneath c depths) (beneath (scope text context form parts) depths) parts) (reserved-same context form parts none)
      ∙ ap (λ c. parts_depth text known named (beneath context depths) (beneath c depths) parts) (scope-same context form parts none)

  pub unbound-names : (context : Context) (depths : Depths) (form : Form.the_data) (parts : Trees) → BindsNothing form parts → deep_parts text known named (beneath (reserved text context form parts) depths) (beneath (scope text context form parts) depths) parts ≡ deep_parts text known named (beneath context depths) (beneath context depths) parts
  unbound-names context depths form parts none =
      ap (λ c. deep_parts text known named (beneath c depths) (beneath (scope text context form parts) depths) parts) (reserved-same context form parts none)
      ∙ ap (λ c. deep_parts text known named (beneath context depths) (beneath c depths) parts) (scope-same context form parts none)

  pub helper-depth : (around : Beneath) (form : Form.the_data) (s : Span) (parts : Trees) → helps form ≡ true → depth text known named around (Node form s parts) ≡ parts_depth text known named (written.before_scope text known named around form parts) (written.in_scope text known named around form parts) parts
  helper-depth around Form.Identifier s parts e = cc
  helper-depth around Form.Let s parts e = cc
  helper-depth around (Form.Symbol l) s parts e = cc
  helper-depth around (Form.Prefix l) s parts e = cc
  helper-depth around (Form.Infix l) s parts e = cc
  helper-depth around (Form.Postfix l) s parts e = cc
  helper-depth around form s parts e = zero-max (parts_depth text known named (written.before_scope text known named around form parts) (written.in_scope text known named around form parts) parts)

  -- the names of a form that is no definition are those in its parts
  pub plain-names : (around : Beneath) (form : Form.the_data) (s : Span) (parts : Trees) → defines form ≡ Nothing → written.deep_name text known named around (Node form s parts) ≡ []
  plain-names around form s parts none = ap (λ d. cond (is_too_deep (defined_depth text known named around (Node form s parts) []).depth) (map (λ b. b.name) (defined_as d parts)) []) none ∙ nothing-either (is_too_deep (defined_depth text known named around (Node form s parts) []).depth)

  -- the names of a helper form are its own and those in its parts
  pub names-open : (around : Beneath) (form : Form.the_data) (s : Span) (parts : Trees) → helps form ≡ true → deep_names text known named around (Node form s parts) ≡ written.deep_name text known named around (Node form s parts) ++ deep_parts text known named (written.before_scope text known named around form parts) (written.in_scope text known named around form parts) parts
  names-open around Form.Let s parts e = cc
  names-open around form s parts e = refl

  pub helper-names : (around : Beneath) (form : Form.the_data) (s : Span) (parts : Trees) → helps form ≡ true → defines form ≡ Nothing → deep_names text known named around (Node form s parts) ≡ deep_parts text known named (written.before_scope text known named around form parts) (written.in_scope text known named around form parts) parts
  helper-names around form s parts e none = names-open around form s parts e ∙ ap (λ xs. xs ++ deep_parts text known named (written.before_scope text known named around form parts) (written.in_scope text known named around form parts) parts) (plain-names around form s parts none)

  -- a helper form that binds nothing is as deep as its parts
  pub helper-matches : (context : Context) (depths : Depths) (form : Form.the_data) (s : Span) (parts : Trees) (is : List ℕ) (asked : List Question) → helps form ≡ true → BindsNothing form parts → PartsMatch context context depths parts is asked → (greatest (depth_at flat) is ≡ depth text known named (beneath context depths) (Node form s parts)) × (deep_answers flat asked ≡ deep_names text known named (beneath context depths) (Node form s parts))
  helper-matches context depths form s parts is asked e none match = (
    match.deep ∙ sym (unbound-depth context depths form parts none) ∙ sym (helper-depth (beneath context depths) form s parts e),
    match.names ∙ sym (unbound-names context depths form parts none) ∙ sym (helper-names (beneath context depths) form s parts e none.0),
  )
