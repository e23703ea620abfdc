-- Replacements of instances, one after another.
use Rattle.std.proofs.Common.{◌≡◌, ℕ, zero, suc, ◌+◌, ◌<◌, List, [], ◌∷◌, ◌++◌, Bool, Some, None, refl, sym, ap, subst, ◌∙◌, length, drop, append_assoc, arith}
use Rattle.std.specs.Prelude.{Option, slice_get}
use Rattle.std.specs.List.{AllByRecursion}
use Rattle.std.proofs.lemmas.List.{append-nil, map-append}
use Rattle.list_laws.proofs.Lists.{all-both, all-weaker}
use Rattle.tla_symbols.specs.declared.lexeme.Lexeme.{Lexeme}
use Rattle.tla_model.specs.Tables.{Named}
use Rattle.tla_model.specs.Entities.{Meaning}
use Rattle.module_model.specs.Exports.{Exports}
use Rattle.kind_text.specs.FlatModule as flat
use Rattle.kind_text.specs.FlatModule.{Extends, FlatModule, UsesInstance}
use Rattle.kind_table.specs.declared.flat.Replacement.{Replacement}
use Rattle.kind_table.specs.Flattened.{replacement_of}
use Rattle.tree_kinds.specs.Expanding.{greatest_level}
use Rattle.tree_kinds.specs.Standing.{operator_places}
use Rattle.flattened_trees.specs.Leads.{Setting}
use Rattle.flattened_trees.specs.NodeForms.{lead_of, name_node, plain_node}
use Rattle.flattened_trees.specs.Questions as asking
use Rattle.flattened_trees.specs.Questions.{Question}
use Rattle.flattened_trees.specs.Flattened as flattened
use Rattle.flattened_trees.specs.Flattened.{AreReplacing, AreStaying, HasNode, IsInstance, right_for}
use Rattle.tree_flattener.specs.declared.state.Flattening.{Flattening}
use Rattle.tree_flattener.specs.Replacing.{AreStayed, Replaces, ReplacesAll, ReplacesSome, replacements_of}
use Rattle.tree_flattener.specs.Steps.{Adds, AreAsked, Asks, noted}
use Rattle.tree_flattener.specs.Worlds.{frame_at}
use Rattle.tree_flattener.proofs.Stepping.{added-node, added-there, adds-steps, extends-on, extends-same, keeps-same, noted-asked, steps-none, steps-on}
use Rattle.tree_flattener.proofs.Within.{below-on}

-- ---- symbols that stay

staying-more : (m : FlatModule) (from count : ℕ) (staying : List flat.Replacement) (r : flat.Replacement) → AreStaying m from count staying → HasNode m r.root (plain_node (flat.Form.Parameter (from + count)) []) → r.most ≡ None → AreStaying m from (suc count) (staying ++ r ∷ [])
staying-more m from zero [] r are node most = let e : from + 0 ≡ from = omega arith in (subst (λ n. HasNode m r.root (plain_node (flat.Form.Parameter n) [])) e node, most, tt)
staying-more m from zero (x ∷ staying) r are node most = absurd are
staying-more m from (suc count) [] r are node most = absurd are
staying-more m from (suc count) (x ∷ staying) r are node most =
    let e : from + suc count ≡ suc from + count = omega arith in
    (are.0, are.1, staying-more m (suc from) count staying r are.2 (subst (λ n. HasNode m r.root (plain_node (flat.Form.Parameter n) [])) e node) most)

pub roots-on : (a b : FlatModule) → Extends a b → (rs : List Replacement) → AllByRecursion (λ r. r.root < length a.nodes) rs → AllByRecursion (λ r. r.root < length b.nodes) rs
roots-on a b extends rs all = all-weaker (λ r. r.root < length a.nodes) (λ r. r.root < length b.nodes) (λ r. below-on a b extends r.root) rs all

pub stayed-none : (s : Flattening) (before : List Replacement) → AreStayed s s 0 before before
stayed-none s before = record { steps = steps-none s; locals = refl; staying = []; is = sym (append-nil before); there = tt; holds = λ more extends. tt }

pub stayed-on : (s t u : Flattening) (place root : ℕ) (before mid after : List Replacement) → AreStayed s t place before mid → Adds t u (plain_node (flat.Form.Parameter place) []) root
    → after ≡ mid ++ record { root = root; most = None } ∷ [] → AreStayed s u (place + 1) before after
stayed-on s t u place root before mid after r adds pushed =
    let x : Replacement = record { root = root; most = None } in
    let node = plain_node (flat.Form.Parameter place) [] in
    let step = adds-steps t u node root adds in
    record {
      steps = steps-on s t u [] [] r.steps step;
      locals = adds.locals ∙ r.locals;
      staying = r.staying ++ x ∷ [];
      is = pushed ∙ ap (λ z. z ++ x ∷ []) r.is ∙ append_assoc before r.staying (x ∷ []);
      there = all-both (λ y. y.root < length u.flat.nodes) r.staying (x ∷ []) (roots-on t.flat u.flat step.extends r.staying r.there) (added-there t u node root adds, tt);
      holds = λ more extends.
          let e : place + 1 ≡ suc place = omega arith in
          let z : 0 + place ≡ place = omega arith in
          subst (λ n. AreStaying more 0 n (replacements_of (r.staying ++ x ∷ []))) (sym e)
          (subst (AreStaying more 0 (suc place)) (sym (map-append replacement_of r.staying (x ∷ [])))
          (staying-more more 0 place (replacements_of r.staying) (replacement_of x) (r.holds more (extends-on t.flat u.flat more step.extends extends))
          (subst (λ n. HasNode more root (plain_node (flat.Form.Parameter n) [])) (sym z) (added-node t u node root adds more extends)) refl));
    }

-- ---- parameters that are replaced

module _ (setting : Setting) (constant : Bool) (rights : List flattened.Right) (l : Lexeme) where
  abbrev Chosen : FlatModule → Named × Meaning → Exports → List Meaning → flat.Replacement → List flat.Replacement → List Question → List Question → Option flattened.Right → Type 0
  Chosen more parameter parameters symbols r made asked rest found = elim found [
    | Some right ↦ (r.root ≡ right.node) × (asked ≡ flattened.asks_of more setting.leads setting.frame constant rights l right.at r parameter ∷ rest) × AreReplacing more setting.leads setting.frame constant rights l parameters symbols made rest
    | None ↦ HasNode more r.root (name_node (operator_places (Some parameter.1)) (lead_of setting.leads (slice_get symbols 0) []) [])
        × (asked ≡ flattened.asks_of more setting.leads setting.frame constant rights l l.span r parameter ∷ rest) × AreReplacing more setting.leads setting.frame constant rights l parameters (drop 1 symbols) made rest
  ]

  chosen : (more : FlatModule) (parameter : Named × Meaning) (parameters : Exports) (symbols : List Meaning) (r : flat.Replacement) (made : List flat.Replacement) (asked rest : List Question) (found : Option flattened.Right)
      → right_for rights parameter.0 ≡ found → r.most ≡ Some (greatest_level constant parameter.1) → Chosen more parameter parameters symbols r made asked rest found
      → AreReplacing more setting.leads setting.frame constant rights l (parameter ∷ parameters) symbols (r ∷ made) asked
  chosen more parameter parameters symbols r made asked rest found e most choice = (rest, most, subst (Chosen more parameter parameters symbols r made asked rest) (sym e) choice)

  -- by a right side
  pub by-right : (s t : Flattening) (frame : ℕ) (parameter : Named × Meaning) (symbols : List Meaning) (right : flattened.Right) (before after : List Replacement)
      → frame < length s.frames.items → frame_at s.frames.items frame ≡ setting.frame
      → Some right ≡ right_for rights parameter.0 → right.node < length s.flat.nodes
      → Asks s t frame (asking.IsAtMost right.at right.node (greatest_level constant parameter.1) ∷ [])
      → after ≡ before ++ record { root = right.node; most = Some (greatest_level constant parameter.1) } ∷ []
      → Replaces setting constant rights l s t parameter symbols symbols before after
  by-right s t frame parameter symbols right before after there framed found node asked pushed =
      let r : Replacement = record { root = right.node; most = Some (greatest_level constant parameter.1) } in
      let q : Question = record { frame = setting.frame; asked = asking.IsAtMost right.at right.node (greatest_level constant parameter.1) } in
      let asks = asking.IsAtMost right.at right.node (greatest_level constant parameter.1) ∷ [] in
      record {
        asked = q ∷ [];
        steps = record {
          extends = extends-same s.flat t.flat asked.flat;
          frames = keeps-same s.frames.items t.frames.items asked.frames;
          more = noted frame asks;
          questions = asked.questions;
          are = subst (λ fs. AreAsked fs (noted frame asks) (q ∷ [])) (sym asked.frames)
              (subst (λ f. AreAsked s.frames.items (noted frame asks) (asking.over f asks)) framed (noted-asked s.frames.items frame there asks));
        };
        locals = asked.locals;
        made = r;
        is = pushed;
        there = below-on s.flat t.flat (extends-same s.flat t.flat asked.flat) right.node node;
        holds = λ more extends rest others b h. chosen more parameter rest symbols (replacement_of r) others (q ∷ b) b (Some right) (sym found) refl (refl, refl, h);
      }

  pub by-symbol : (s t u : Flattening) (frame root : ℕ) (parameter : Named × Meaning) (symbols : List Meaning) (before after : List Replacement)
      → frame < length s.frames.items → frame_at s.frames.items frame ≡ setting.frame
      → None ≡ right_for rights parameter.0
      → Adds s t (name_node (operator_places (Some parameter.1)) (lead_of setting.leads (slice_get symbols 0) []) []) root
      → Asks t u frame (asking.IsAtMost l.span root (greatest_level constant parameter.1) ∷ [])
      → after ≡ before ++ record { root = root; most = Some (greatest_level constant parameter.1) } ∷ []
      → Replaces setting constant rights l s u parameter symbols (drop 1 symbols) before after
  by-symbol s t u frame root parameter symbols before after there framed found adds asked pushed =
      let r : Replacement = record { root = root; most = Some (greatest_level constant parameter.1) } in
      let node = name_node (operator_places (Some parameter.1)) (lead_of setting.leads (slice_get symbols 0) []) [] in
      let q : Question = record { frame = setting.frame; asked = asking.IsAtMost l.span root (greatest_level constant parameter.1) } in
      let asks = asking.IsAtMost l.span root (greatest_level constant parameter.1) ∷ [] in
      let same = asked.frames ∙ adds.frames in
      let first = adds-steps s t node root adds in
      record {
        asked = q ∷ [];
        steps = record {
          extends = extends-on s.flat t.flat u.flat first.extends (extends-same t.flat u.flat asked.flat);
          frames = keeps-same s.frames.items u.frames.items same;
          more = noted frame asks;
          questions = asked.questions ∙ ap (λ z. z ++ noted frame asks) adds.questions;
          are = subst (λ fs. AreAsked fs (noted frame asks) (q ∷ [])) (sym same)
              (subst (λ f. AreAsked s.frames.items (noted frame asks) (asking.over f asks)) framed (noted-asked s.frames.items frame there asks));
        };
        locals = asked.locals ∙ adds.locals;
        made = r;
        is = pushed;
        there = below-on t.flat u.flat (extends-same t.flat u.flat asked.flat) root (added-there s t node root adds);
        holds = λ more extends rest others b h.
            chosen more parameter rest symbols (replacement_of r) others (q ∷ b) b None (sym found) refl
            (added-node s t node root adds more (extends-on t.flat u.flat more (extends-same t.flat u.flat asked.flat) extends), refl, h);
      }

  pub replaces-start : (s : Flattening) (all : Exports) (symbols : List Meaning) (before : List Replacement) → ReplacesSome setting constant rights l s s all all symbols symbols before before
  replaces-start s all symbols before = record { asked = []; steps = steps-none s; locals = refl; made = []; is = sym (append-nil before); there = tt; holds = λ more e others b h. h }

  pub replaces-on : (s t u : Flattening) (all rest : Exports) (parameter : Named × Meaning) (symbols left next : List Meaning) (before mid after : List Replacement)
      → ReplacesSome setting constant rights l s t all (parameter ∷ rest) symbols left before mid → Replaces setting constant rights l t u parameter left next mid after
      → ReplacesSome setting constant rights l s u all rest symbols next before after
  replaces-on s t u all rest parameter symbols left next before mid after r q =
      record {
        asked = r.asked ++ q.asked;
        steps = steps-on s t u r.asked q.asked r.steps q.steps;
        locals = q.locals ∙ r.locals;
        made = r.made ++ q.made ∷ [];
        is = q.is ∙ ap (λ z. z ++ q.made ∷ []) r.is ∙ append_assoc before r.made (q.made ∷ []);
        there = all-both (λ x. x.root < length u.flat.nodes) r.made (q.made ∷ []) (roots-on t.flat u.flat q.steps.extends r.made r.there) (q.there, tt);
        holds = λ more e others b h.
            let deep = r.holds more (extends-on t.flat u.flat more q.steps.extends e) (replacement_of q.made ∷ others) (q.asked ++ b) (q.holds more e rest others b h) in
            let made : replacements_of r.made ++ (replacement_of q.made ∷ others) ≡ replacements_of (r.made ++ q.made ∷ []) ++ others =
            sym (append_assoc (replacements_of r.made) (replacement_of q.made ∷ []) others) ∙ ap (λ z. z ++ others) (sym (map-append replacement_of r.made (q.made ∷ [])))
            in
            subst (λ z. AreReplacing more setting.leads setting.frame constant rights l all symbols z ((r.asked ++ q.asked) ++ b)) made
            (subst (AreReplacing more setting.leads setting.frame constant rights l all symbols (replacements_of r.made ++ (replacement_of q.made ∷ others))) (sym (append_assoc r.asked q.asked b)) deep);
      }

  pub replaces-end : (s t : Flattening) (all : Exports) (symbols left : List Meaning) (before after : List Replacement)
      → ReplacesSome setting constant rights l s t all [] symbols left before after → ReplacesAll setting constant rights l s t all symbols before after
  replaces-end s t all symbols left before after r =
      record {
        asked = r.asked;
        steps = r.steps;
        locals = r.locals;
        made = r.made;
        is = r.is;
        there = r.there;
        holds = λ more e.
            subst (λ z. AreReplacing more setting.leads setting.frame constant rights l all symbols z r.asked) (append-nil (replacements_of r.made))
            (subst (AreReplacing more setting.leads setting.frame constant rights l all symbols (replacements_of r.made ++ [])) (append-nil r.asked) (r.holds more e [] [] (refl, refl)));
      }
