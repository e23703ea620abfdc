-- Nodes of expressions, from the nodes of their parts.
use Rattle.std.proofs.Common.{◌≡◌, ℕ, ◌<◌, List, [], ◌∷◌, ◌++◌, Bool, true, false, true≢false, Some, refl, sym, ap, subst, ◌∙◌, length, map}
use Rattle.std.specs.Prelude.{if◌then◌else◌, slice_get}
use Rattle.std.proofs.lemmas.List.{append-nil, map-append}
use Rattle.tla_symbols.specs.declared.lexeme.LexKind.TheVariants as LexKind
use Rattle.tla_symbols.specs.declared.lexeme.Lexeme.{Lexeme}
use Rattle.tla_symbols.specs.declared.lexeme.Span.{Span}
use Rattle.tla_symbols.specs.declared.op.Op.{Op}
use Rattle.tla_tree.specs.declared.form.Form.TheVariants as Form
use Rattle.tla_tree.specs.Syntax.{Tree, Trees, Node, Nil, Cons, trees}
use Rattle.tla_model.specs.Scopes.{is_free, itself as as_spelled, prefixed}
use Rattle.tla_model.specs.declared.entity.Level.{Level}
use Rattle.kind_text.specs.FlatModule.{FlatModule}
use Rattle.tree_kinds.specs.TreeLevels.{is_judged}
use Rattle.flattened_trees.specs.Leads.{Setting}
use Rattle.flattened_trees.specs.NodeForms.{form_node}
use Rattle.flattened_trees.specs.Questions as asking
use Rattle.flattened_trees.specs.Questions.{asks_at, form_asks, kind_asks, over, path_asks, symbol_asks}
use Rattle.flattened_trees.specs.Flattened.{AreOperands, IsFlattened, all_parts}
use Rattle.tree_flattener.specs.declared.rules.Taken.TheVariants as taken
use Rattle.tree_flattener.specs.declared.shapes.Shape.TheVariants as shape
use Rattle.tree_flattener.specs.declared.state.Flattening.{Flattening}
use Rattle.tree_flattener.specs.Flattens.{Flattens, ReadsAll, operands_of}
use Rattle.tree_flattener.specs.Making.{shape_of}
use Rattle.tree_flattener.specs.Steps.{Adds, Asks, Numbers, Steps, noted, question_about}
use Rattle.tree_flattener.specs.Worlds.{World, setting_of}
use Rattle.tree_flattener.proofs.Stepping.{added-node, added-there, adds-steps, extends-on, extends-same, keeps-on, keeps-same, numbers-steps, same-setting, steps-on}
use Rattle.tree_flattener.proofs.Walking.{noted-both}

-- ---- what is asked of a form gets its number

module _ (number frame : ℕ) where
  abbrev Gets : List asking.Asked → List asking.Asked → Type 0
  Gets before after = map (question_about number) (noted frame before) ≡ noted frame after

  gets-both : (xs ys us vs : List asking.Asked) → Gets xs us → Gets ys vs → Gets (xs ++ ys) (us ++ vs)
  gets-both xs ys us vs first second =
      ap (map (question_about number)) (noted-both frame xs ys) ∙ map-append (question_about number) (noted frame xs) (noted frame ys)
      ∙ ap (λ z. z ++ map (question_about number) (noted frame ys)) first ∙ ap (λ z. noted frame us ++ z) second ∙ sym (noted-both frame us vs)

  path-gets : (parts : Trees) → Gets (path_asks 0 parts) (path_asks number parts)
  path-gets Nil = refl
  path-gets (Cons (Node (Form.Segment l) s arguments) Nil) = refl
  path-gets (Cons (Node (Form.Segment l) s arguments) (Cons x rest)) = ap (λ z. noted frame (asking.UseAs l Level.Instance ∷ []) ++ z) (path-gets (Cons x rest))
  path-gets (Cons (Node _ s arguments) rest) = path-gets rest

  test-gets : (b : Bool) (x y : asking.Asked) → Gets (x ∷ []) (y ∷ []) → Gets (if b then x ∷ [] else []) (if b then y ∷ [] else [])
  test-gets true x y e = e
  test-gets false x y e = refl

  symbol-gets : (l : Lexeme) (which : Op → Op) (kind : LexKind.the_data) → Gets (symbol_asks 0 l which kind) (symbol_asks number l which kind)
  symbol-gets l which (LexKind.Sym op) = test-gets (is_free (which op)) (asking.UseOf l 0) (asking.UseOf l number) refl
  symbol-gets l which _ = refl

  form-gets : (form : Form.the_data) (parts : Trees) → Gets (form_asks 0 form parts) (form_asks number form parts)
  form-gets Form.Identifier parts = path-gets parts
  form-gets (Form.Symbol l) parts = symbol-gets l as_spelled l.kind
  form-gets (Form.Prefix l) parts = symbol-gets l prefixed l.kind
  form-gets (Form.Infix l) parts = symbol-gets l as_spelled l.kind
  form-gets (Form.Postfix l) parts = symbol-gets l as_spelled l.kind
  form-gets _ parts = refl

  pub asks-get : (form : Form.the_data) (s : Span) (parts : Trees) → Gets (asks_at 0 form s parts) (asks_at number form s parts)
  asks-get form s parts =
      gets-both (form_asks 0 form parts) (kind_asks 0 form s) (form_asks number form parts) (kind_asks number form s)
      (form-gets form parts) (test-gets (is_judged form) (asking.HasKind s 0) (asking.HasKind s number) refl)

-- ---- plain forms

module _ (w : World) (more : FlatModule) (setting : Setting) (i : ℕ) (s : Span) (f : ℕ → Tree) where
  is_plain : shape.the_data → Bool
  is_plain shape.Plain = true
  is_plain _ = false

  plain-flattened : (form : Form.the_data) (children is : List ℕ) (a : List asking.Question) → shape_of form children ≡ shape.Plain
      → AreOperands w.text w.means w.implied w.faces more all_parts setting (trees (map f children)) is a
      → slice_get more.nodes i ≡ Some (form_node w.text.source w.means setting form (trees (map f children)) is)
      → IsFlattened w.text w.means w.implied w.faces more setting (Node form s (trees (map f children))) i (over setting.frame (asks_at i form s (trees (map f children))) ++ a)
  unfolding is_plain
  plain-flattened Form.Let children is a e operands node = absurd (true≢false (sym (ap is_plain e)))
  plain-flattened Form.Except [] is a e operands node = (is, a, operands, node, refl)
  plain-flattened Form.Except (c ∷ children) is a e operands node = absurd (true≢false (sym (ap is_plain e)))
  plain-flattened _ children is a e operands node = (is, a, operands, node, refl)

-- a node of a plain form, from what was done for it
pub plain-flattens : (w : World) (s0 s1 s2 s3 s4 : Flattening) (frame : ℕ) (olds : List ℕ) (form : Form.the_data) (s : Span) (f : ℕ → Tree) (children is : List ℕ) (i from to : ℕ)
    → shape_of form children ≡ shape.Plain → frame < length s0.frames.items
    → Asks s0 s1 frame (asks_at 0 form s (trees (map f children)))
    → ReadsAll (operands_of w (setting_of w s1 frame olds) taken.All) s1 s2 (trees (map f children)) [] is
    → Adds s2 s3 (form_node w.text.source w.means (setting_of w s2 frame olds) form (trees (map f children)) is) i
    → Numbers s3 s4 from to i → from ≡ length s0.asked.items → to ≡ length s1.asked.items
    → Flattens w s0 s4 frame olds (Node form s (trees (map f children))) i
plain-flattens w s0 s1 s2 s3 s4 frame olds form s f children is i from to plain there asked reads adds numbers begins ends =
    let parts = trees (map f children) in
    let setting = setting_of w s0 frame olds in
    let keeps1 = keeps-same s0.frames.items s1.frames.items asked.frames in
    let same1 = same-setting w s0 s1 frame olds keeps1 asked.locals there in
    let keeps2 = keeps-on s0.frames.items s1.frames.items s2.frames.items keeps1 reads.steps.frames in
    let same2 = same-setting w s0 s2 frame olds keeps2 (reads.locals ∙ asked.locals) there in
    let node = form_node w.text.source w.means (setting_of w s2 frame olds) form parts is in
    let inner = subst (Steps s1 s3) (append-nil reads.asked) (steps-on s1 s2 s3 reads.asked [] reads.steps (adds-steps s2 s3 node i adds)) in
    record {
      asked = over setting.frame (asks_at i form s parts) ++ reads.asked;
      steps = numbers-steps s0 s1 s3 s4 frame from to i (asks_at 0 form s parts) (asks_at i form s parts) reads.asked asked inner numbers begins ends there (asks-get i frame form s parts);
      locals = numbers.locals ∙ adds.locals ∙ reads.locals ∙ asked.locals;
      there = subst (λ (z : FlatModule). i < length z.nodes) (sym numbers.flat) (added-there s2 s3 node i adds);
      holds = λ more extends.
          let from3 = extends-on s3.flat s4.flat more (extends-same s3.flat s4.flat numbers.flat) extends in
          let from2 = extends-on s2.flat s3.flat more (adds-steps s2 s3 node i adds).extends from3 in
          plain-flattened w more setting i s f form children is reads.asked plain
          (subst (λ is'. AreOperands w.text w.means w.implied w.faces more all_parts setting parts is' reads.asked) (sym reads.is)
          (subst (λ z. AreOperands w.text w.means w.implied w.faces more all_parts z parts reads.first reads.asked) same1 (reads.holds more from2)))
          (added-node s2 s3 node i adds more from3 ∙ ap (λ z. Some (form_node w.text.source w.means z form parts is)) same2);
    }
