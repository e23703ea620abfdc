-- Right sides of replacements, one after another.
use Rattle.std.proofs.Common.{◌≡◌, ℕ, ◌+◌, ◌<◌, ◌≤◌, List, [], ◌∷◌, ◌++◌, Bool, true, false, true≢false, Some, None, refl, sym, ap, subst, ◌∙◌, length, drop, get_or, append_assoc}
use Rattle.std.specs.Prelude.{Option, unwrap_or}
use Rattle.std.specs.List.{AllByRecursion}
use Rattle.std.proofs.lemmas.List.{append-nil, map-append}
use Rattle.list_laws.proofs.Lists.{all-both, all-weaker}
use Rattle.tla_symbols.specs.declared.lexeme.Lexeme.{Lexeme}
use Rattle.tla_symbols.specs.declared.lexeme.Span.{Span}
use Rattle.tla_tree.specs.declared.form.Form.TheVariants as Form
use Rattle.tla_tree.specs.Arena.{tree_at}
use Rattle.tla_tree.specs.Syntax.{Tree, Trees, Node, Nil, Cons}
use Rattle.tla_model.specs.Entities.{name_of}
use Rattle.tla_model.specs.Lexemes.{spelled}
use Rattle.tla_model.specs.Tables.{Named}
use Rattle.module_model.specs.Exports.{entry_of}
use Rattle.kind_text.specs.FlatModule.{FlatModule}
use Rattle.tree_kinds.specs.TreeLevels.{declared_level}
use Rattle.flattened_trees.specs.Leads.{Setting}
use Rattle.flattened_trees.specs.Questions.{Asked, Question, UseAs, over}
use Rattle.flattened_trees.specs.Flattened as flattened
use Rattle.flattened_trees.specs.Flattened.{AreOperands, AreRights, all_parts, right_of}
use Rattle.tree_flattener.specs.declared.instances.Right.{Right}
use Rattle.tree_flattener.specs.declared.rules.Taken.TheVariants as taken
use Rattle.tree_flattener.specs.declared.state.Flattening.{Flattening}
use Rattle.tree_flattener.specs.Flattens.{ReadsAll, operands_of}
use Rattle.tree_flattener.specs.Making.{left_of}
use Rattle.tree_flattener.specs.Replacing.{IsRighted, right_in, rights_in}
use Rattle.tree_flattener.specs.Righting.{Rights, RightsAll, RightsSome}
use Rattle.tree_flattener.specs.Steps.{AreAsked, Asks, Steps, noted}
use Rattle.tree_flattener.specs.Worlds.{World, frame_at, setting_of}
use Rattle.tree_flattener.proofs.Stepping.{extends-on, extends-same, keeps-same, noted-asked, same-setting, steps-none, steps-on}
use Rattle.tree_flattener.proofs.Walking.{at_nodes, rest-trees}
use Rattle.tree_flattener.proofs.Within.{all-below-on, below-on}
use Rattle.tree_flattener.proofs.Looping.{drop-past}

-- what is asked over a frame that is there is a step
pub asks-steps : (s t : Flattening) (frame : ℕ) (asks : List Asked) → frame < length s.frames.items → Asks s t frame asks → Steps s t (over (frame_at s.frames.items frame) asks)
asks-steps s t frame asks there asked =
    record {
      extends = extends-same s.flat t.flat asked.flat;
      frames = keeps-same s.frames.items t.frames.items asked.frames;
      more = noted frame asks;
      questions = asked.questions;
      are = subst (λ fs. AreAsked fs (noted frame asks) (over (frame_at s.frames.items frame) asks)) (sym asked.frames) (noted-asked s.frames.items frame there asks);
    }

module _ (P : ℕ → Type 0) where
  right-there : (name : Named) (parts : Trees) (is : List ℕ) → AllByRecursion P is → AllByRecursion (λ (right : flattened.Right). P right.node) (right_of name parts is)
  right-there name Nil is all = tt
  right-there name (Cons (Node form at parts) others) [] all = tt
  right-there name (Cons (Node form at parts) others) (i ∷ is) all = (all.0, tt)

  made-there : (made : List Right) → AllByRecursion (λ (right : flattened.Right). P right.node) (rights_in made) → AllByRecursion (λ (right : Right). P right.node) made
  made-there [] all = tt
  made-there (right ∷ made) all = (all.0, made-there made all.1)

is_named : Option Lexeme → Bool
is_named None = false
is_named (Some l) = true

module _ (w : World) (more : FlatModule) (setting : Setting) (l : Lexeme) where
  -- what is no replacement has no right side
  no-right : (form : Form.the_data) (s : Span) (parts rest : Trees) (rights : List flattened.Right) (roots : List ℕ) (asked : List Question) → left_of form ≡ None
      → AreRights w.text w.means w.implied w.faces more setting l rest rights roots asked → AreRights w.text w.means w.implied w.faces more setting l (Cons (Node form s parts) rest) rights roots asked
  unfolding is_named
  no-right (Form.Replacement left) s parts rest rights roots asked e h = absurd (true≢false (ap is_named e))
  no-right _ s parts rest rights roots asked e h = h

  one-right : (form : Form.the_data) (s : Span) (parts rest : Trees) (left : Lexeme) (further : List flattened.Right) (is others : List ℕ) (a b : List Question) → left_of form ≡ Some left
      → AreOperands w.text w.means w.implied w.faces more all_parts setting parts is a → AreRights w.text w.means w.implied w.faces more setting l rest further others b
      → AreRights w.text w.means w.implied w.faces more setting l (Cons (Node form s parts) rest) (right_of (name_of w.text.source left) parts is ++ further) (is ++ others)
      ((over setting.frame (UseAs left (declared_level (entry_of (w.faces (spelled w.text.source l)).parameters (name_of w.text.source left))) ∷ []) ++ a) ++ b)
  unfolding is_named
  one-right (Form.Replacement n) s parts rest left further is others a b e operands h =
      let same : n ≡ left = ap (λ found. unwrap_or found n) e in (
        is,
        others,
        a,
        b,
        further,
        operands,
        h,
        ap (λ z. right_of (name_of w.text.source z) parts is ++ further) (sym same),
        refl,
        append_assoc (over setting.frame (UseAs left (declared_level (entry_of (w.faces (spelled w.text.source l)).parameters (name_of w.text.source left))) ∷ [])) a b
            ∙ ap (λ z. over setting.frame (UseAs z (declared_level (entry_of (w.faces (spelled w.text.source l)).parameters (name_of w.text.source z))) ∷ []) ++ (a ++ b)) (sym same),
      )
  one-right _ s parts rest left further is others a b e operands h = absurd (true≢false (sym (ap is_named e)))

pub not-righted : (w : World) (s0 : Flattening) (frame : ℕ) (olds : List ℕ) (l : Lexeme) (form : Form.the_data) (s : Span) (parts : Trees) (rights : List Right) (before : List ℕ) → None ≡ left_of form → Rights w s0 s0 frame olds l (Node form s parts) rights rights before before
not-righted w s0 frame olds l form s parts rights before e =
    record {
      asked = [];
      steps = steps-none s0;
      locals = refl;
      made = [];
      rights = sym (append-nil rights);
      rights_there = tt;
      first = [];
      is = sym (append-nil before);
      there = tt;
      holds = λ more extends rest further others b h. no-right w more (setting_of w s0 frame olds) l form s parts rest further others b (sym e) h;
    }

pub righted : (w : World) (s0 s1 s2 : Flattening) (frame : ℕ) (olds : List ℕ) (l left : Lexeme) (form : Form.the_data) (s : Span) (parts : Trees) (rights_before rights_after : List Right) (is before after : List ℕ)
    → Some left ≡ left_of form → frame < length s0.frames.items
    → Asks s0 s1 frame (UseAs left (declared_level (entry_of (w.faces (spelled w.text.source l)).parameters (name_of w.text.source left))) ∷ [])
    → ReadsAll (operands_of w (setting_of w s1 frame olds) taken.All) s1 s2 parts [] is
    → IsRighted rights_before rights_after (right_of (name_of w.text.source left) parts is)
    → after ≡ before ++ is
    → Rights w s0 s2 frame olds l (Node form s parts) rights_before rights_after before after
righted w s0 s1 s2 frame olds l left form s parts rights_before rights_after is before after e there asked reads pushed roots =
    let asks = UseAs left (declared_level (entry_of (w.faces (spelled w.text.source l)).parameters (name_of w.text.source left))) ∷ [] in
    let first = asks-steps s0 s1 frame asks there asked in
    let same = same-setting w s0 s1 frame olds first.frames asked.locals there in
    let all_there = subst (AllByRecursion (λ i. i < length s2.flat.nodes)) (sym reads.is) reads.there in
    record {
      asked = over (frame_at s0.frames.items frame) asks ++ reads.asked;
      steps = steps-on s0 s1 s2 (over (frame_at s0.frames.items frame) asks) reads.asked first reads.steps;
      locals = reads.locals ∙ asked.locals;
      made = pushed.made;
      rights = pushed.is;
      rights_there = made-there (λ i. i < length s2.flat.nodes) pushed.made
          (subst (AllByRecursion (λ (right : flattened.Right). right.node < length s2.flat.nodes)) (sym pushed.are) (right-there (λ i. i < length s2.flat.nodes) (name_of w.text.source left) parts is all_there));
      first = is;
      is = roots;
      there = all_there;
      holds = λ more extends rest further others b h.
          subst (λ z. AreRights w.text w.means w.implied w.faces more (setting_of w s0 frame olds) l (Cons (Node form s parts) rest) (z ++ further) (is ++ others) ((over (frame_at s0.frames.items frame) asks ++ reads.asked) ++ b)) (sym pushed.are)
          (one-right w more (setting_of w s0 frame olds) l form s parts rest left further is others reads.asked b (sym e)
          (subst (λ z. AreOperands w.text w.means w.implied w.faces more all_parts z parts is reads.asked) same
          (subst (λ z. AreOperands w.text w.means w.implied w.faces more all_parts (setting_of w s1 frame olds) parts z reads.asked) (sym reads.is) (reads.holds more extends))) h);
    }

module _ (w : World) (frame : ℕ) (olds : List ℕ) (l : Lexeme) where
  pub rights-start : (s : Flattening) (all : Trees) (before : List ℕ) → RightsSome w s s frame olds l all all [] before before
  rights-start s all before = record { asked = []; steps = steps-none s; locals = refl; rights_there = tt; first = []; is = sym (append-nil before); there = tt; holds = λ more e further others b h. h }

  rights-next : (s t u : Flattening) (all rest : Trees) (x : Tree) (made next : List Right) (before mid after : List ℕ) → frame < length s.frames.items
      → RightsSome w s t frame olds l all (Cons x rest) made before mid → Rights w t u frame olds l x made next mid after → RightsSome w s u frame olds l all rest next before after
  rights-next s t u all rest x made next before mid after there r q =
      let same = same-setting w s t frame olds r.steps.frames r.locals there in
      let to_u = below-on t.flat u.flat q.steps.extends in
      record {
        asked = r.asked ++ q.asked;
        steps = steps-on s t u r.asked q.asked r.steps q.steps;
        locals = q.locals ∙ r.locals;
        rights_there = subst (AllByRecursion (λ (right : Right). right.node < length u.flat.nodes)) (sym q.rights)
            (all-both (λ (right : Right). right.node < length u.flat.nodes) made q.made
            (all-weaker (λ (right : Right). right.node < length t.flat.nodes) (λ (right : Right). right.node < length u.flat.nodes) (λ right. to_u right.node) made r.rights_there) q.rights_there);
        first = r.first ++ q.first;
        is = q.is ∙ ap (λ z. z ++ q.first) r.is ∙ append_assoc before r.first q.first;
        there = all-both (λ i. i < length u.flat.nodes) r.first q.first (all-below-on t.flat u.flat q.steps.extends r.first r.there) q.there;
        holds = λ more e further others b h.
            let Q : Setting → List flattened.Right → List ℕ → List Question → Type 0 = λ setting rights roots asked. AreRights w.text w.means w.implied w.faces more setting l all rights roots asked in
            let one = subst (λ z. AreRights w.text w.means w.implied w.faces more z l (Cons x rest) (rights_in q.made ++ further) (q.first ++ others) (q.asked ++ b)) same
            (q.holds more e rest further others b (subst (λ z. AreRights w.text w.means w.implied w.faces more z l rest further others b) (sym same) h))
            in
            let deep = r.holds more (extends-on t.flat u.flat more q.steps.extends e) (rights_in q.made ++ further) (q.first ++ others) (q.asked ++ b) one in
            let rights_are : rights_in made ++ (rights_in q.made ++ further) ≡ rights_in next ++ further =
            sym (append_assoc (rights_in made) (rights_in q.made) further) ∙ ap (λ z. z ++ further) (sym (map-append right_in made q.made) ∙ ap rights_in (sym q.rights))
            in
            subst (λ z. Q (setting_of w s frame olds) z ((r.first ++ q.first) ++ others) ((r.asked ++ q.asked) ++ b)) rights_are
            (subst (λ z. Q (setting_of w s frame olds) (rights_in made ++ (rights_in q.made ++ further)) z ((r.asked ++ q.asked) ++ b)) (sym (append_assoc r.first q.first others))
            (subst (λ z. Q (setting_of w s frame olds) (rights_in made ++ (rights_in q.made ++ further)) (r.first ++ (q.first ++ others)) z) (sym (append_assoc r.asked q.asked b)) deep));
      }

  pub rights-on : (s t u : Flattening) (children : List ℕ) (i : ℕ) (made next : List Right) (before mid after : List ℕ) → i < length children → frame < length s.frames.items
      → RightsSome w s t frame olds l (at_nodes w.nodes children) (at_nodes w.nodes (drop i children)) made before mid
      → Rights w t u frame olds l (tree_at w.nodes (get_or children i 0)) made next mid after
      → RightsSome w s u frame olds l (at_nodes w.nodes children) (at_nodes w.nodes (drop (i + 1) children)) next before after
  rights-on s t u children i made next before mid after here there r q =
      rights-next s t u (at_nodes w.nodes children) (at_nodes w.nodes (drop (i + 1) children)) _ made next before mid after there
      (subst (λ z. RightsSome w s t frame olds l (at_nodes w.nodes children) z made before mid) (rest-trees w.nodes children i 0 here) r) q

  pub rights-done : (s t : Flattening) (children : List ℕ) (i : ℕ) (made : List Right) (before after : List ℕ) → length children ≤ i
      → RightsSome w s t frame olds l (at_nodes w.nodes children) (at_nodes w.nodes (drop i children)) made before after
      → RightsAll w s t frame olds l (at_nodes w.nodes children) made before after
  rights-done s t children i made before after past so_far =
      let r = subst (λ z. RightsSome w s t frame olds l (at_nodes w.nodes children) (at_nodes w.nodes z) made before after) (drop-past children i past) so_far in
      record {
        asked = r.asked;
        steps = r.steps;
        locals = r.locals;
        rights_there = r.rights_there;
        first = r.first;
        is = r.is;
        there = r.there;
        holds = λ more e.
            let Q : List flattened.Right → List ℕ → List Question → Type 0 = λ rights roots asked. AreRights w.text w.means w.implied w.faces more (setting_of w s frame olds) l (at_nodes w.nodes children) rights roots asked in
            subst (λ z. Q z r.first r.asked) (append-nil (rights_in made))
            (subst (λ z. Q (rights_in made ++ []) z r.asked) (append-nil r.first)
            (subst (λ z. Q (rights_in made ++ []) (r.first ++ []) z) (append-nil r.asked) (r.holds more e [] [] [] (refl, refl, refl))));
      }
