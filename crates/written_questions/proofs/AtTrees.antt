-- What is asked of nodes themselves, and of their trees.
use Rattle.std.proofs.Common.{◌≡◌, ℕ, Bool, true, false, List, [], ◌∷◌, ◌++◌, Option, Some, None, refl, sym, ap, ◌∙◌, map, drop}
use Rattle.std.specs.Prelude.{if◌then◌else◌, option_map, slice_get}
use Rattle.tla_symbols.specs.declared.lexeme.LexKind.TheVariants as LexKind
use Rattle.tla_symbols.specs.declared.lexeme.Lexeme.{Lexeme}
use Rattle.tla_symbols.specs.declared.lexeme.Span.{Span}
use Rattle.tla_symbols.specs.declared.op.Op.TheVariants as Op
use Rattle.tla_tree.specs.declared.form.Form.TheVariants as Form
use Rattle.tla_tree.specs.Syntax.{Trees, Node as TreeNode, Nil as NoTrees, Cons as ConsTree}
use Rattle.tla_model.specs.declared.entity.Level.{Level}
use Rattle.tla_model.specs.Tables.{Named}
use Rattle.tla_model.specs.Entities.{Meaning}
use Rattle.tla_model.specs.Scopes.{is_free, prefixed, itself as as_spelled}
use Rattle.module_model.specs.Exports.{Exports}
use Rattle.kind_text.specs.FlatModule.{FlatModule, IsOrdered, Replacement}
use Rattle.tree_kinds.specs.Standing.{operator_places}
use Rattle.tree_kinds.specs.Expanding.{greatest_level}
use Rattle.tree_kinds.specs.TreeLevels.{is_judged}
use Rattle.flattened_trees.specs.Flattened as flattened
use Rattle.flattened_trees.specs.Flattened.{AreReplacing, HasNode, Right as FlatRight}
use Rattle.flattened_trees.specs.Leads as flat_leads
use Rattle.flattened_trees.specs.NodeForms as nodes
use Rattle.flattened_trees.specs.Questions as flat_questions
use Rattle.resolved_trees.specs.Resolved.{Nil, resolved}
use Rattle.written_trees.specs.Leading.{leads_in}
use Rattle.written_trees.specs.Written.{Right, lead_of, named, right_for}
use Rattle.written_trees.proofs.Instances.{for-told, node-told, right_in, rights_in}
use Rattle.written_trees.proofs.Nodes.{meant-told}
use Rattle.written_questions.specs.Questions.{HasKind, IsAtMost, Question, UseAs, UseOf, asked_in, asks_at, form_asks, kind_asks, over, path_asks, questions_in, symbol_asks}
use Rattle.written_questions.specs.Asking.{replacing_asks}

module _ (flat : FlatModule) where
  -- one list of questions after another
  pub both : (a b : List flat_questions.Question) → questions_in flat (a ++ b) ≡ questions_in flat a ++ questions_in flat b
  both [] b = refl
  both (q ∷ a) b = ap (λ qs. record { frame = q.frame; asked = asked_in flat q.asked } ∷ qs) (both a b)

  -- over a frame
  pub over-told : (frame : List Meaning) (asked : List flat_questions.Asked) → questions_in flat (flat_questions.over frame asked) ≡ over frame (map (asked_in flat) asked)
  over-told frame [] = refl
  over-told frame (a ∷ asked) = ap (λ qs. record { frame = frame; asked = asked_in flat a } ∷ qs) (over-told frame asked)

  asked-both : (a b : List flat_questions.Asked) → map (asked_in flat) (a ++ b) ≡ map (asked_in flat) a ++ map (asked_in flat) b
  asked-both [] b = refl
  asked-both (x ∷ a) b = ap (λ xs. asked_in flat x ∷ xs) (asked-both a b)

  path-asked : (i : ℕ) (parts : Trees) → map (asked_in flat) (flat_questions.path_asks i parts) ≡ path_asks (resolved flat i) parts
  path-asked i NoTrees = refl
  path-asked i (ConsTree (TreeNode (Form.Segment l) s arguments) NoTrees) = refl
  path-asked i (ConsTree (TreeNode (Form.Segment l) s arguments) (ConsTree next rest)) = ap (λ xs. UseAs l Level.Instance ∷ xs) (path-asked i (ConsTree next rest))
  path-asked i (ConsTree (TreeNode form s arguments) rest) = path-asked i rest

  symbol-asked : (i : ℕ) (l : Lexeme) (which : Op.the_data → Op.the_data) (kind : LexKind.the_data) → map (asked_in flat) (flat_questions.symbol_asks i l which kind) ≡ symbol_asks (resolved flat i) l which kind
  symbol-asked i l which (LexKind.Sym op) = by (is_free (which op))
    where
      by : (b : Bool) → map (asked_in flat) (if b then flat_questions.UseOf l i ∷ [] else []) ≡ (if b then UseOf l (resolved flat i) ∷ [] else [])
      by true = refl
      by false = refl
  symbol-asked i l which kind = refl

  form-asked : (i : ℕ) (form : Form.the_data) (parts : Trees) → map (asked_in flat) (flat_questions.form_asks i form parts) ≡ form_asks (resolved flat i) form parts
  form-asked i Form.Identifier parts = path-asked i parts
  form-asked i (Form.Symbol l) parts = symbol-asked i l as_spelled l.kind
  form-asked i (Form.Prefix l) parts = symbol-asked i l prefixed l.kind
  form-asked i (Form.Infix l) parts = symbol-asked i l as_spelled l.kind
  form-asked i (Form.Postfix l) parts = symbol-asked i l as_spelled l.kind
  form-asked i form parts = refl

  kind-asked : (i : ℕ) (form : Form.the_data) (s : Span) → map (asked_in flat) (flat_questions.kind_asks i form s) ≡ kind_asks (resolved flat i) form s
  kind-asked i form s = by (is_judged form)
    where
      by : (b : Bool) → map (asked_in flat) (if b then flat_questions.HasKind s i ∷ [] else []) ≡ (if b then HasKind s (resolved flat i) ∷ [] else [])
      by true = refl
      by false = refl

  -- what is asked of a node itself is asked of its tree
  pub at-told : (frame : List Meaning) (i : ℕ) (form : Form.the_data) (s : Span) (parts : Trees)
      → questions_in flat (flat_questions.over frame (flat_questions.asks_at i form s parts)) ≡ over frame (asks_at (resolved flat i) form s parts)
  at-told frame i form s parts =
      over-told frame (flat_questions.asks_at i form s parts)
      ∙ ap (over frame) (asked-both (flat_questions.form_asks i form parts) (flat_questions.kind_asks i form s) ∙ (λ k. form-asked i form parts k ++ kind-asked i form s k))

module _ (flat : FlatModule) (ordered : IsOrdered flat) (leads : flat_leads.Leads) (frame : List Meaning) (constant : Bool) (rights : List FlatRight) (l : Lexeme) where
  -- what is asked of what stands for parameters, by whether something is written for the first
  abbrev asks_by : Named × Meaning → Exports → List Meaning → Option Right → List Question
  asks_by parameter parameters symbols found = elim found [
    | Some right ↦ record { frame = frame; asked = IsAtMost right.at right.tree (greatest_level constant parameter.1) } ∷ replacing_asks (leads_in flat leads) frame constant (rights_in flat ordered rights) l parameters symbols
    | None ↦ record {
      frame = frame;
      asked = IsAtMost l.span (named (operator_places (Some parameter.1)) (lead_of (leads_in flat leads) (slice_get symbols 0) []) Nil) (greatest_level constant parameter.1);
    } ∷ replacing_asks (leads_in flat leads) frame constant (rights_in flat ordered rights) l parameters (drop 1 symbols)
  ]

  -- what stands for the first parameter, and what for the others
  abbrev IsReplacedBy : Named × Meaning → Exports → List Meaning → Replacement → List Replacement → List flat_questions.Question → List flat_questions.Question → Option FlatRight → Type 0
  IsReplacedBy parameter parameters symbols r others asked rest found = elim found [
    | Some right ↦ (r.root ≡ right.node) × (asked ≡ flattened.asks_of flat leads frame constant rights l right.at r parameter ∷ rest) × AreReplacing flat leads frame constant rights l parameters symbols others rest
    | None ↦ HasNode flat r.root (nodes.name_node (operator_places (Some parameter.1)) (nodes.lead_of leads (slice_get symbols 0) []) [])
        × (asked ≡ flattened.asks_of flat leads frame constant rights l l.span r parameter ∷ rest) × AreReplacing flat leads frame constant rights l parameters (drop 1 symbols) others rest
  ]

  pub replacing-asked : (parameters : Exports) (symbols : List Meaning) (others : List Replacement) (asked : List flat_questions.Question) → AreReplacing flat leads frame constant rights l parameters symbols others asked
      → questions_in flat asked ≡ replacing_asks (leads_in flat leads) frame constant (rights_in flat ordered rights) l parameters symbols
  replacing-asked [] symbols others asked (none, asks) = ap (questions_in flat) asks
  replacing-asked (parameter ∷ parameters) symbols [] asked are = absurd are
  replacing-asked (parameter ∷ parameters) symbols (r ∷ others) asked (rest, most, are) =
      by (flattened.right_for rights parameter.0) refl are (λ symbols rest are. replacing-asked parameters symbols others rest are)
    where
      by : (found : Option FlatRight) → flattened.right_for rights parameter.0 ≡ found → IsReplacedBy parameter parameters symbols r others asked rest found
          → ((symbols : List Meaning) (more : List flat_questions.Question) → AreReplacing flat leads frame constant rights l parameters symbols others more
          → questions_in flat more ≡ replacing_asks (leads_in flat leads) frame constant (rights_in flat ordered rights) l parameters symbols)
          → questions_in flat asked ≡ asks_by parameter parameters symbols (right_for (rights_in flat ordered rights) parameter.0)
      by (Some right) e (root, asks, are) again =
          let further = again symbols rest are in
          ap (questions_in flat) asks
          ∙ (λ i. record { frame = frame; asked = IsAtMost right.at (resolved flat (root i)) (greatest_level constant parameter.1) } ∷ further i)
          ∙ sym (ap (asks_by parameter parameters symbols) (for-told flat ordered rights parameter.0 ∙ ap (option_map (right_in flat ordered)) e))
      by None e (has, asks, are) again =
          let tree = node-told flat ordered r.root _ has ∙ meant-told flat (operator_places (Some parameter.1)) leads (slice_get symbols 0) [] [] in
          let further = again (drop 1 symbols) rest are in
          ap (questions_in flat) asks
          ∙ (λ i. record { frame = frame; asked = IsAtMost l.span (tree i) (greatest_level constant parameter.1) } ∷ further i)
          ∙ sym (ap (asks_by parameter parameters symbols) (for-told flat ordered rights parameter.0 ∙ ap (option_map (right_in flat ordered)) e))
