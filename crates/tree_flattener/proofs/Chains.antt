-- Nodes of LET: its definitions, and the body behind them.
use Rattle.std.proofs.Common.{◌≡◌, ℕ, ◌<◌, List, [], ◌∷◌, ◌++◌, Bool, true, false, true≢false, Some, None, refl, sym, ap, subst, ◌∙◌, length, take, append_assoc}
use Rattle.std.specs.Prelude.{Option}
use Rattle.std.specs.Option.{option_or}
use Rattle.std.specs.List.{AllByRecursion}
use Rattle.std.proofs.lemmas.List.{append-nil}
use Rattle.list_laws.proofs.Lists.{all-both}
use Rattle.tla_symbols.specs.declared.lexeme.Span.{Span}
use Rattle.tla_tree.specs.declared.form.Form.TheVariants as Form
use Rattle.tla_tree.specs.Forms.{helps}
use Rattle.tla_tree.specs.Syntax.{Tree, Trees, Node, Nil, Cons}
use Rattle.tla_model.specs.Tables.{Named}
use Rattle.kind_text.specs.FlatModule.{FlatModule}
use Rattle.declared_names.specs.Listed.{listed}
use Rattle.flattened_trees.specs.Leads.{Lead, Setting, behind}
use Rattle.flattened_trees.specs.NodeForms.{let_node}
use Rattle.flattened_trees.specs.Questions.{Question}
use Rattle.flattened_trees.specs.Flattened.{IsChain, IsDefined, IsFlattened}
use Rattle.tree_flattener.specs.declared.shapes.Shape.TheVariants as shape
use Rattle.tree_flattener.specs.declared.state.Flattening.{Flattening}
use Rattle.tree_flattener.specs.Flattens.{Flattens, IsMadeDefinition, Links, LinksSome}
use Rattle.tree_flattener.specs.Making.{shape_of}
use Rattle.tree_flattener.specs.Steps.{Adds, Cuts, Steps}
use Rattle.tree_flattener.specs.Worlds.{IsReady, World, setting_of}
use Rattle.tree_flattener.proofs.Stepping.{added-node, added-there, adds-steps, extends-on, extends-same, keeps-same, ready-on, same-setting, steps-none, steps-on, steps-same, take-all-of}
use Rattle.tree_flattener.proofs.Within.{all-below-on}

or-none : (body : Option ℕ) → option_or body None ≡ body
or-none None = refl
or-none (Some i) = refl

or-assoc : (a b c : Option ℕ) → option_or (option_or a b) c ≡ option_or a (option_or b c)
or-assoc None b c = refl
or-assoc (Some i) b c = refl

listed-or : (P : ℕ → Type 0) (a b : Option ℕ) → AllByRecursion P (listed a) → AllByRecursion P (listed b) → AllByRecursion P (listed (option_or a b))
listed-or P None b all more = more
listed-or P (Some i) b all more = all

module _ (w : World) (frame : ℕ) (olds : List ℕ) where
  pub links-start : (s : Flattening) (all : Trees) → IsReady w s frame olds → LinksSome w s s frame olds all all None []
  links-start s all ready = record { asked = []; steps = steps-none s; ready = ready; put = []; locals = sym (append-nil s.locals.items); body_there = tt; there = tt; holds = λ more e next others b h. h }

  pub links-on : (s t u : Flattening) (all rest : Trees) (x : Tree) (body next_body : Option ℕ) (roots next_roots : List ℕ)
      → LinksSome w s t frame olds all (Cons x rest) body roots → Links w t u frame olds x body next_body roots next_roots → LinksSome w s u frame olds all rest next_body next_roots
  links-on s t u all rest x body next_body roots next_roots r q =
      let to_u = all-below-on t.flat u.flat q.steps.extends in
      record {
        asked = r.asked ++ q.asked;
        steps = steps-on s t u r.asked q.asked r.steps q.steps;
        ready = q.ready;
        put = r.put ++ q.put;
        locals = q.locals ∙ ap (λ z. z ++ q.put) r.locals ∙ append_assoc s.locals.items r.put q.put;
        body_there = subst (λ z. AllByRecursion (λ i. i < length u.flat.nodes) (listed z)) (sym q.body_is) (listed-or (λ i. i < length u.flat.nodes) body q.body (to_u (listed body) r.body_there) q.body_there);
        there = subst (AllByRecursion (λ i. i < length u.flat.nodes)) (sym q.is) (all-both (λ i. i < length u.flat.nodes) roots q.first (to_u roots r.there) q.there);
        holds = λ more e next others b h.
            let deep = r.holds more (extends-on t.flat u.flat more q.steps.extends e) (option_or q.body next) (q.first ++ others) (q.asked ++ b) (q.holds more e rest next others b h) in
            let bodies : option_or body (option_or q.body next) ≡ option_or next_body next = sym (or-assoc body q.body next) ∙ ap (λ z. option_or z next) (sym q.body_is) in
            let roots_are : roots ++ (q.first ++ others) ≡ next_roots ++ others = sym (append_assoc roots q.first others) ∙ ap (λ z. z ++ others) (sym q.is) in
            subst (λ z. IsChain w.text w.means w.implied w.faces more (setting_of w s frame olds) all z (next_roots ++ others) ((r.asked ++ q.asked) ++ b)) bodies
            (subst (λ z. IsChain w.text w.means w.implied w.faces more (setting_of w s frame olds) all (option_or body (option_or q.body next)) z ((r.asked ++ q.asked) ++ b)) roots_are
            (subst (λ z. IsChain w.text w.means w.implied w.faces more (setting_of w s frame olds) all (option_or body (option_or q.body next)) (roots ++ (q.first ++ others)) z) (sym (append_assoc r.asked q.asked b)) deep));
      }

  -- ---- one link

  module _ (form : Form.the_data) (s : Span) (parts rest : Trees) (more : FlatModule) (setting : Setting) where
    abbrev pub Goes : Bool → Option ℕ → List ℕ → List Question → List Question → Type 0
    Goes help body roots a b = elim help [
      | true ↦ (lead : List Named → Lead) × (first others : List ℕ) × IsDefined w.text w.means w.implied w.faces more setting (Node form s parts) lead first a
          × IsChain w.text w.means w.implied w.faces more (behind w.text setting (Node form s parts) lead) rest body others b × (roots ≡ first ++ others)
      | false ↦ (i : ℕ) × (after : Option ℕ) × IsFlattened w.text w.means w.implied w.faces more setting (Node form s parts) i a × IsChain w.text w.means w.implied w.faces more setting rest after roots b × (body ≡ Some i)
    ]

    chained : (help : Bool) → helps form ≡ help → (body : Option ℕ) (roots : List ℕ) (a b : List Question) → Goes help body roots a b → IsChain w.text w.means w.implied w.faces more setting (Cons (Node form s parts) rest) body roots (a ++ b)
    chained help e body roots a b goes = (a, b, refl, subst (λ z. Goes z body roots a b) (sym e) goes)

  pub definition-links : (old new : Flattening) (form : Form.the_data) (s : Span) (parts : Trees) (body : Option ℕ) (before after : List ℕ) → helps form ≡ true
      → IsMadeDefinition w old new frame olds (Node form s parts) before after → Links w old new frame olds (Node form s parts) body body before after
  definition-links old new form s parts body before after help m =
      record {
        asked = m.asked;
        steps = m.steps;
        ready = m.ready;
        put = m.put;
        locals = m.locals;
        body = None;
        body_is = sym (or-none body);
        body_there = tt;
        first = m.first;
        is = m.is;
        there = m.there;
        holds = λ more e rest next others b h.
            chained form s parts rest more (setting_of w old frame olds) true help next (m.first ++ others) m.asked b
            (m.lead, m.first, others, m.holds more e, subst (λ z. IsChain w.text w.means w.implied w.faces more z rest next others b) m.setting h, refl);
      }

  pub body-links : (old new : Flattening) (form : Form.the_data) (s : Span) (parts : Trees) (i : ℕ) (body next_body : Option ℕ) (before : List ℕ) → helps form ≡ false → IsReady w old frame olds
      → next_body ≡ option_or body (Some i)
      → Flattens w old new frame olds (Node form s parts) i → Links w old new frame olds (Node form s parts) body next_body before before
  body-links old new form s parts i body next_body before help ready pushed m =
      let same = same-setting w old new frame olds m.steps.frames m.locals ready.framed in
      record {
        asked = m.asked;
        steps = m.steps;
        ready = ready-on w old new frame olds m.steps.extends m.steps.frames m.locals ready;
        put = [];
        locals = m.locals ∙ sym (append-nil old.locals.items);
        body = Some i;
        body_is = pushed;
        body_there = (m.there, tt);
        first = [];
        is = sym (append-nil before);
        there = tt;
        holds = λ more e rest next others b h.
            chained form s parts rest more (setting_of w old frame olds) false help (Some i) others m.asked b
            (i, next, m.holds more e, subst (λ z. IsChain w.text w.means w.implied w.faces more z rest next others b) same h, refl);
      }

-- ---- the whole

is_let : shape.the_data → Bool
is_let shape.Let = true
is_let _ = false

let-shape : (form : Form.the_data) (children : List ℕ) → shape_of form children ≡ shape.Let → form ≡ Form.Let
unfolding is_let
let-shape Form.Let children e = refl
let-shape Form.Except [] e = absurd (true≢false (sym (ap is_let e)))
let-shape Form.Except (c ∷ children) e = absurd (true≢false (sym (ap is_let e)))
let-shape _ children e = absurd (true≢false (sym (ap is_let e)))

pub chain-flattens : (w : World) (s0 s1 s2 s3 : Flattening) (frame : ℕ) (olds : List ℕ) (form : Form.the_data) (s : Span) (parts : Trees) (children : List ℕ) (body : Option ℕ) (roots : List ℕ) (mark i : ℕ)
    → shape_of form children ≡ shape.Let → LinksSome w s0 s1 frame olds parts Nil body roots → Cuts s1 s2 mark → mark ≡ length s0.locals.items → Adds s2 s3 (let_node body roots) i
    → Flattens w s0 s3 frame olds (Node form s parts) i
chain-flattens w s0 s1 s2 s3 frame olds form s parts children body roots mark i shaped r cuts marked adds =
    let node = let_node body roots in
    let setting = setting_of w s0 frame olds in
    let cut = steps-same s1 s2 (extends-same s1.flat s2.flat cuts.flat) (keeps-same s1.frames.items s2.frames.items cuts.frames) cuts.questions in
    let onward = steps-on s0 s1 s3 r.asked [] r.steps (steps-on s1 s2 s3 [] [] cut (adds-steps s2 s3 node i adds)) in
    record {
      asked = r.asked;
      steps = subst (Steps s0 s3) (append-nil r.asked) onward;
      locals = adds.locals ∙ cuts.locals ∙ ap (λ n. take n s1.locals.items) marked ∙ ap (take (length s0.locals.items)) r.locals ∙ take-all-of s0.locals.items r.put;
      there = added-there s2 s3 node i adds;
      holds = λ more extends.
          let from2 = extends-on s2.flat s3.flat more (adds-steps s2 s3 node i adds).extends extends in
          let from1 = extends-on s1.flat s2.flat more cut.extends from2 in
          let all = r.holds more from1 None [] [] (refl, refl, refl) in
          let chain =
          subst (λ z. IsChain w.text w.means w.implied w.faces more setting parts z roots r.asked) (or-none body)
          (subst (λ z. IsChain w.text w.means w.implied w.faces more setting parts (option_or body None) z r.asked) (append-nil roots)
          (subst (λ z. IsChain w.text w.means w.implied w.faces more setting parts (option_or body None) (roots ++ []) z) (append-nil r.asked) all))
          in
          subst (λ z. IsFlattened w.text w.means w.implied w.faces more setting (Node z s parts) i r.asked) (sym (let-shape form children shaped))
          (body, roots, chain, added-node s2 s3 node i adds more extends);
    }
