-- Nodes of parts, one after another.
use Rattle.std.proofs.Common.{◌≡◌, ℕ, ◌<◌, List, [], ◌∷◌, ◌++◌, Bool, true, false, refl, sym, ap, subst, ◌∙◌, length, append_assoc}
use Rattle.std.specs.Prelude.{◌&&◌, if◌then◌else◌, not}
use Rattle.std.proofs.lemmas.List.{append-nil}
use Rattle.list_laws.proofs.Lists.{all-both}
use Rattle.tla_symbols.specs.declared.lexeme.Span.{Span}
use Rattle.tla_tree.specs.declared.form.Form.TheVariants as Form
use Rattle.tla_tree.specs.Forms.{helps}
use Rattle.tla_tree.specs.Syntax.{Tree, Trees, Node, Nil, Cons}
use Rattle.kind_text.specs.FlatModule.{FlatModule}
use Rattle.tree_kinds.specs.Expanding.{Part, Outer, Helper, Whole, part_of, stands_outside}
use Rattle.flattened_trees.specs.Leads.{Setting}
use Rattle.flattened_trees.specs.Questions.{Question}
use Rattle.flattened_trees.specs.Flattened.{AreOperands, IsFlattened, all_parts}
use Rattle.tree_flattener.specs.declared.rules.Taken.TheVariants as taken
use Rattle.tree_flattener.specs.declared.state.Flattening.{Flattening}
use Rattle.tree_flattener.specs.Flattens.{Flattens, OfParts, Reads, ReadsAll, ReadsSome, operands_of}
use Rattle.tree_flattener.specs.Parts.{is_whole, taken_by}
use Rattle.tree_flattener.specs.Worlds.{World, setting_of}
use Rattle.tree_flattener.proofs.Stepping.{extends-on, steps-none, steps-on}
use Rattle.tree_flattener.proofs.Within.{all-below-on}

module _ (P : OfParts) where
  pub reads-start : (s : Flattening) (all : Trees) (before : List ℕ) → ReadsSome P s s all all before before
  reads-start s all before = record { asked = []; steps = steps-none s; locals = refl; first = []; is = sym (append-nil before); there = tt; holds = λ more e others b h. h }

  pub reads-on : (s t u : Flattening) (all rest : Trees) (x : Tree) (before mid after : List ℕ) → ReadsSome P s t all (Cons x rest) before mid → Reads P t u x mid after → ReadsSome P s u all rest before after
  reads-on s t u all rest x before mid after r q =
      record {
        asked = r.asked ++ q.asked;
        steps = steps-on s t u r.asked q.asked r.steps q.steps;
        locals = q.locals ∙ r.locals;
        first = r.first ++ q.first;
        is = q.is ∙ ap (λ z. z ++ q.first) r.is ∙ append_assoc before r.first q.first;
        there = all-both (λ i. i < length u.flat.nodes) r.first q.first (all-below-on t.flat u.flat q.steps.extends r.first r.there) q.there;
        holds = λ more e others b h.
            subst (λ z. P more all z ((r.asked ++ q.asked) ++ b)) (sym (append_assoc r.first q.first others))
            (subst (λ z. P more all (r.first ++ (q.first ++ others)) z) (sym (append_assoc r.asked q.asked b))
            (r.holds more (extends-on t.flat u.flat more q.steps.extends e) (q.first ++ others) (q.asked ++ b) (q.holds more e rest others b h)));
      }

  pub reads-end : (s t : Flattening) (all : Trees) (before after : List ℕ) → ((more : FlatModule) → P more Nil [] []) → ReadsSome P s t all Nil before after → ReadsAll P s t all before after
  reads-end s t all before after none r =
      record {
        asked = r.asked;
        steps = r.steps;
        locals = r.locals;
        first = r.first;
        is = r.is;
        there = r.there;
        holds = λ more e.
            subst (λ z. P more all z r.asked) (append-nil r.first) (subst (λ z. P more all (r.first ++ []) z) (append-nil r.asked) (r.holds more e [] [] (none more)));
      }

-- ---- operands

module _ (w : World) (setting : Setting) (form : Form.the_data) (s : Span) (parts : Trees) where
  -- what a part gives, by whether it is looked at and by what it is
  abbrev pub Goes : FlatModule → Bool → Part → List ℕ → List Question → Type 0
  Goes more looked part first a = elim looked [
    | true ↦ elim part [
      | Outer ↦ AreOperands w.text w.means w.implied w.faces more all_parts setting parts first a
      | Helper ↦ AreOperands w.text w.means w.implied w.faces more all_parts setting parts first a
      | Whole ↦ (i : ℕ) × (first ≡ i ∷ []) × IsFlattened w.text w.means w.implied w.faces more setting (Node form s parts) i a
    ]
    | false ↦ (first ≡ []) × (a ≡ [])
  ]

  piece : (more : FlatModule) (which : taken.the_data) (first : List ℕ) (a : List Question) → Goes more (taken_by which form) (part_of form) first a
      → (rest : Trees) (others : List ℕ) (b : List Question) → operands_of w setting which more rest others b → operands_of w setting which more (Cons (Node form s parts) rest) (first ++ others) (a ++ b)
  piece more which first a goes rest others b h = (first, others, a, b, refl, refl, goes, h)

  -- what is not looked at gives nothing
  pub not-looked : (which : taken.the_data) (state : Flattening) (before : List ℕ) → taken_by which form ≡ false → Reads (operands_of w setting which) state state (Node form s parts) before before
  not-looked which state before e =
      record {
        asked = [];
        steps = steps-none state;
        locals = refl;
        first = [];
        is = sym (append-nil before);
        there = tt;
        holds = λ more extends rest others b h. piece more which [] [] (subst (λ looked. Goes more looked (part_of form) [] []) (sym e) (refl, refl)) rest others b h;
      }

  inner-goes : (more : FlatModule) (outside help : Bool) (first : List ℕ) (a : List Question) → (not outside && not help) ≡ false → AreOperands w.text w.means w.implied w.faces more all_parts setting parts first a
      → Goes more true (if outside then Outer else if help then Helper else Whole) first a
  inner-goes more true help first a e h = h
  inner-goes more false true first a e h = h
  inner-goes more false false first a e h = absurd (let impossible : ⊥ = cc in impossible)

  whole-goes : (more : FlatModule) (outside help : Bool) (i : ℕ) (a : List Question) → (not outside && not help) ≡ true → IsFlattened w.text w.means w.implied w.faces more setting (Node form s parts) i a
      → Goes more true (if outside then Outer else if help then Helper else Whole) (i ∷ []) a
  whole-goes more true help i a e h = absurd (let impossible : ⊥ = cc in impossible)
  whole-goes more false true i a e h = absurd (let impossible : ⊥ = cc in impossible)
  whole-goes more false false i a e h = (i, refl, h)

  -- what is no expression by itself gives those that it is made of
  pub looked-into : (which : taken.the_data) (old new : Flattening) (before after : List ℕ) → taken_by which form ≡ true → is_whole form ≡ false
      → ReadsAll (operands_of w setting taken.All) old new parts before after → Reads (operands_of w setting which) old new (Node form s parts) before after
  looked-into which old new before after e inner r =
      record {
        asked = r.asked;
        steps = r.steps;
        locals = r.locals;
        first = r.first;
        is = r.is;
        there = r.there;
        holds = λ more extends rest others b h.
            piece more which r.first r.asked
            (subst (λ looked. Goes more looked (part_of form) r.first r.asked) (sym e) (inner-goes more (stands_outside form) (helps form) r.first r.asked inner (r.holds more extends))) rest others b h;
      }

-- an expression by itself gives its node
pub looked-at : (w : World) (which : taken.the_data) (old new : Flattening) (frame : ℕ) (olds : List ℕ) (form : Form.the_data) (s : Span) (parts : Trees) (i : ℕ) (before after : List ℕ) → taken_by which form ≡ true → is_whole form ≡ true
    → after ≡ before ++ i ∷ [] → Flattens w old new frame olds (Node form s parts) i → Reads (operands_of w (setting_of w old frame olds) which) old new (Node form s parts) before after
looked-at w which old new frame olds form s parts i before after e whole pushed made =
    let setting = setting_of w old frame olds in
    record {
      asked = made.asked;
      steps = made.steps;
      locals = made.locals;
      first = i ∷ [];
      is = pushed;
      there = (made.there, tt);
      holds = λ more extends rest others b h.
          piece w setting form s parts more which (i ∷ []) made.asked
          (subst (λ looked. Goes w setting form s parts more looked (part_of form) (i ∷ []) made.asked) (sym e) (whole-goes w setting form s parts more (stands_outside form) (helps form) i made.asked whole (made.holds more extends))) rest others b h;
    }
