-- Nodes of EXCEPT and of its updates.
use Rattle.std.proofs.Common.{◌≡◌, ℕ, ◌<◌, List, [], ◌∷◌, ◌++◌, Bool, true, false, true≢false, Some, refl, sym, ap, subst, ◌∙◌, length, drop, append_assoc, map}
use Rattle.list_laws.proofs.Lists.{all-both}
use Rattle.tla_symbols.specs.declared.lexeme.Span.{Span}
use Rattle.tla_symbols.specs.declared.level.Rule.TheVariants.{Plain}
use Rattle.tla_tree.specs.declared.form.Form.TheVariants as Form
use Rattle.tla_tree.specs.Syntax.{Tree, Trees, Node, Cons, trees}
use Rattle.kind_text.specs.FlatModule.{FlatModule, Form as NodeForm}
use Rattle.flattened_trees.specs.Leads.{repeating}
use Rattle.flattened_trees.specs.NodeForms.{plain_node}
use Rattle.flattened_trees.specs.Questions.{asks_at, over}
use Rattle.flattened_trees.specs.Flattened.{AreOperands, AreUpdates, IsFlattened, inside_parts}
use Rattle.tree_flattener.specs.declared.rules.Taken.TheVariants as taken
use Rattle.tree_flattener.specs.declared.shapes.Shape.TheVariants as shape
use Rattle.tree_flattener.specs.declared.state.Flattening.{Flattening}
use Rattle.tree_flattener.specs.Flattens.{Flattens, Reads, ReadsAll, operands_of, updates_of}
use Rattle.tree_flattener.specs.Making.{shape_of}
use Rattle.tree_flattener.specs.Steps.{Adds, Asks, Numbers, Steps}
use Rattle.tree_flattener.specs.Worlds.{World, setting_of}
use Rattle.tree_flattener.proofs.Expressions.{asks-get}
use Rattle.tree_flattener.proofs.Stepping.{added-node, added-there, adds-steps, extends-on, extends-same, keeps-on, keeps-same, numbers-steps, same-setting, steps-on}
use Rattle.tree_flattener.proofs.Within.{all-below-on}
use Rattle.std.proofs.lemmas.List.{append-nil}

-- ---- updates

module _ (w : World) (s0 s1 s2 : Flattening) (frame : ℕ) (olds : List ℕ) (f : ℕ) (form : Form.the_data) (s : Span) (parts : Trees) where
  -- the nodes of an update are those of its indices, and then of its right side
  pub change-reads : (before indices mid after repeated : List ℕ) → frame < length s0.frames.items
      → ReadsAll (operands_of w (setting_of w s0 frame olds) taken.Outside) s0 s1 parts [] indices
      → repeated ≡ f ∷ indices → mid ≡ before ++ indices
      → ReadsAll (operands_of w (setting_of w s1 frame repeated) taken.Inside) s1 s2 parts mid after
      → Reads (updates_of w (setting_of w s0 frame olds) f) s0 s2 (Node form s parts) before after
  change-reads before indices mid after repeated there r same pushed q =
      let setting = setting_of w s0 frame olds in
      let olds_are : repeated ≡ f ∷ r.first = same ∙ ap (λ z. f ∷ z) r.is in
      let round : setting_of w s1 frame repeated ≡ repeating setting (f ∷ r.first) =
      same-setting w s0 s1 frame repeated r.steps.frames r.locals there ∙ ap (λ z. repeating setting z) olds_are
      in
      record {
        asked = r.asked ++ q.asked;
        steps = steps-on s0 s1 s2 r.asked q.asked r.steps q.steps;
        locals = q.locals ∙ r.locals;
        first = r.first ++ q.first;
        is = q.is ∙ ap (λ z. z ++ q.first) (pushed ∙ ap (λ z. before ++ z) r.is) ∙ append_assoc before r.first q.first;
        there = all-both (λ i. i < length s2.flat.nodes) r.first q.first (all-below-on s1.flat s2.flat q.steps.extends r.first r.there) q.there;
        holds = λ more extends rest others b h. (
          r.first,
          q.first,
          others,
          r.asked,
          q.asked,
          b,
          r.holds more (extends-on s1.flat s2.flat more q.steps.extends extends),
          subst (λ z. AreOperands w.text w.means w.implied w.faces more inside_parts z parts q.first q.asked) round (q.holds more extends),
          h,
          append_assoc r.first q.first others,
          append_assoc r.asked q.asked b,
        );
      }

-- ---- the whole

module _ (w : World) (s0 s1 s2 s3 s4 s5 : Flattening) (frame : ℕ) (olds : List ℕ) (s : Span) (function : Tree) (updates : Trees) where
  pub except-flattens : (f i from to : ℕ) (start is : List ℕ) → frame < length s0.frames.items
      → Asks s0 s1 frame (asks_at 0 Form.Except s (Cons function updates))
      → Flattens w s1 s2 frame olds function f → start ≡ f ∷ []
      → ReadsAll (updates_of w (setting_of w s2 frame olds) f) s2 s3 updates start is
      → Adds s3 s4 (plain_node (NodeForm.Operation Plain) is) i
      → Numbers s4 s5 from to i → from ≡ length s0.asked.items → to ≡ length s1.asked.items
      → Flattens w s0 s5 frame olds (Node Form.Except s (Cons function updates)) i
  except-flattens f i from to start is there asked made begins_with reads adds numbers begins ends =
      let parts = Cons function updates in
      let setting = setting_of w s0 frame olds in
      let keeps1 = keeps-same s0.frames.items s1.frames.items asked.frames in
      let same1 = same-setting w s0 s1 frame olds keeps1 asked.locals there in
      let keeps2 = keeps-on s0.frames.items s1.frames.items s2.frames.items keeps1 made.steps.frames in
      let same2 = same-setting w s0 s2 frame olds keeps2 (made.locals ∙ asked.locals) there in
      let is_are : is ≡ f ∷ reads.first = reads.is ∙ ap (λ z. z ++ reads.first) begins_with in
      let node = plain_node (NodeForm.Operation Plain) is in
      let inner = subst (λ z. Steps s1 s4 (made.asked ++ z)) (append-nil reads.asked) (steps-on s1 s2 s4 made.asked (reads.asked ++ []) made.steps (steps-on s2 s3 s4 reads.asked [] reads.steps (adds-steps s3 s4 node i adds))) in
      record {
        asked = over setting.frame (asks_at i Form.Except s parts) ++ (made.asked ++ reads.asked);
        steps = numbers-steps s0 s1 s4 s5 frame from to i (asks_at 0 Form.Except s parts) (asks_at i Form.Except s parts) (made.asked ++ reads.asked) asked inner numbers begins ends there (asks-get i frame Form.Except s parts);
        locals = numbers.locals ∙ adds.locals ∙ reads.locals ∙ made.locals ∙ asked.locals;
        there = subst (λ (z : FlatModule). i < length z.nodes) (sym numbers.flat) (added-there s3 s4 node i adds);
        holds = λ more extends.
            let from4 = extends-on s4.flat s5.flat more (extends-same s4.flat s5.flat numbers.flat) extends in
            let from3 = extends-on s3.flat s4.flat more (adds-steps s3 s4 node i adds).extends from4 in
            let from2 = extends-on s2.flat s3.flat more reads.steps.extends from3 in (
              f,
              reads.first,
              made.asked,
              reads.asked,
              subst (λ z. IsFlattened w.text w.means w.implied w.faces more z function f made.asked) same1 (made.holds more from2),
              subst (λ z. AreUpdates w.text w.means w.implied w.faces more z f updates reads.first reads.asked) same2 (reads.holds more from3),
              added-node s3 s4 node i adds more from4 ∙ ap (λ z. Some (plain_node (NodeForm.Operation Plain) z)) is_are,
              refl,
            );
      }

-- ---- shapes

is_except : shape.the_data → Bool
is_except (shape.Except f) = true
is_except _ = false

function_in : ℕ → shape.the_data → ℕ
function_in d (shape.Except f) = f
function_in d _ = d

-- an EXCEPT has its function first
pub except-first : (form : Form.the_data) (children : List ℕ) (function : ℕ) → shape_of form children ≡ shape.Except function → children ≡ function ∷ drop 1 children
unfolding is_except function_in
except-first Form.Let children function e = absurd (true≢false (sym (ap is_except e)))
except-first Form.Except [] function e = absurd (true≢false (sym (ap is_except e)))
except-first Form.Except (c ∷ children) function e = ap (λ z. z ∷ children) (ap (function_in c) e)
except-first _ children function e = absurd (true≢false (sym (ap is_except e)))

module _ (w : World) (s0 s1 s2 s3 s4 s5 : Flattening) (frame : ℕ) (olds : List ℕ) (s : Span) (f : ℕ → Tree) where
  pub except-made : (form : Form.the_data) (children updates : List ℕ) (function node i from to : ℕ) (start is : List ℕ) → shape_of form children ≡ shape.Except function → updates ≡ drop 1 children → frame < length s0.frames.items
      → Asks s0 s1 frame (asks_at 0 form s (trees (map f children)))
      → Flattens w s1 s2 frame olds (f function) node → start ≡ node ∷ []
      → ReadsAll (updates_of w (setting_of w s2 frame olds) node) s2 s3 (trees (map f updates)) start is
      → Adds s3 s4 (plain_node (NodeForm.Operation Plain) is) i
      → Numbers s4 s5 from to i → from ≡ length s0.asked.items → to ≡ length s1.asked.items
      → Flattens w s0 s5 frame olds (Node form s (trees (map f children))) i
  unfolding is_except function_in
  except-made Form.Let children updates function node i from to start is e same there asked made begins_with reads adds numbers begins ends = absurd (true≢false (sym (ap is_except e)))
  except-made Form.Except [] updates function node i from to start is e same there asked made begins_with reads adds numbers begins ends = absurd (true≢false (sym (ap is_except e)))
  except-made Form.Except (c ∷ children) updates function node i from to start is e same there asked made begins_with reads adds numbers begins ends =
      except-flattens w s0 s1 s2 s3 s4 s5 frame olds s (f c) (trees (map f children)) node i from to start is there asked
      (subst (λ z. Flattens w s1 s2 frame olds (f z) node) (sym (ap (function_in c) e)) made) begins_with
      (subst (λ z. ReadsAll (updates_of w (setting_of w s2 frame olds) node) s2 s3 (trees (map f z)) start is) same reads) adds numbers begins ends
  except-made _ children updates function node i from to start is e same there asked made begins_with reads adds numbers begins ends = absurd (true≢false (sym (ap is_except e)))
