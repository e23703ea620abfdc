-- What the machine accepts is derivable, by the tree that it answers.
use Rattle.std.proofs.Common.{◌≡◌, ℕ, suc, ◌<◌, ◌≤◌, inl, inr, Bool, true, false, List, [], ◌∷◌, ◌++◌, Option, Some, None, refl, ap, sym, subst, ◌∙◌, append_assoc, append-nil, arith}
use Rattle.std.specs.Prelude.{cond, nat_lt, option_and_then}
use Rattle.std.proofs.lemmas.Bool.Decides.{nat_tests}
use Rattle.tla_symbols.specs.declared.lexeme.Lexeme.{Lexeme}
use Rattle.tla_tree.specs.declared.form.Form.{Form}
use Rattle.tla_tree.specs.Syntax.{Tree, Trees, Nil, Cons, trees}
use Rattle.tla_tree.specs.Edges.{AllJoin, right_mark, beside, right_edge, right_edge_of_last, left_edge}
use Rattle.tla_tree.specs.Alignment.{GoesOn, From}
use Rattle.tla_tree.specs.Shapes.{IsSubscript}
use Rattle.tla_tree.specs.Lexemes.{built, joined}
use Rattle.tla_tree.specs.FirstBad.{DerivesWhole}
use Rattle.tla_tree.specs.Derivation.{Derives, DerivesBound, DerivesBounds, DerivesSteps, last_step, more_steps, DerivesStep, DerivesItems, more_items}
use Rattle.precedence.specs.declared.Choice.{Choice}
use Rattle.expr_grammar.specs.declared.wait.Handed.{Handed}
use Rattle.expr_grammar.specs.declared.wait.Wait.{Wait}
use Rattle.expr_grammar.specs.declared.wait.Mode.{Mode}
use Rattle.expr_grammar.specs.declared.wait.Start.{Start}
use Rattle.expr_grammar.specs.declared.wait.MarkMove.{MarkMove}
use Rattle.expr_grammar.specs.declared.wait.PartMove.{PartMove}
use Rattle.expr_grammar.specs.declared.wait.Lead.{Lead}
use Rattle.expr_grammar.specs.declared.wait.Shape.{Shape}
use Rattle.expr_grammar.specs.Kinds.{is_name, is_comma}
use Rattle.expr_grammar.specs.Tables.{if_goes, keeps, mode, Child, child, list_of, goes_on, begins, at_mark, endable, absorbs, role, edge_of, lead, takes, choice, shape, is_expression, ends_with, ends_with_part, finishes, after_expression, after_part, or_finish, at_part}
use Rattle.expr_grammar.specs.Machine.{start_bounds, whole_bounds, close_bounds, finish_due_bounds, finish_bounds, parse_bounds, Frame, frame, State, At, Have, inside, inside_list, inner, entry, with_child, ready, node_with, absorbed, complete, led, act, operator_step, moved, part_step, is_operator, within, on_bullet, leave, have, ended, marked, begun, due, step, run, start, close_all, finish_due, finish, parse}
use Rattle.expr_laws.proofs.KindTests.{comma-is}
use Rattle.expr_laws.proofs.Tabled.{promised, IsNoBullet}
use Rattle.expr_laws.proofs.Asking.{AllFit}
use Rattle.expr_laws.proofs.Completeness.{outside}
use Rattle.expr_laws.proofs.Naming.{true-goes-on}
use Rattle.expr_laws.proofs.Starting.{derives-shape, joined-snoc}
use Rattle.expr_laws.proofs.Views.{Bounds, Sort, sort, binding, Stands, expression, symbol, instance, names, bound, arm, other_arm, segment, definition, parameter, replacement, update, step as of_step, Shut, HasRead, list_first, list_item, handing_segment, segment_name, binding_start, quantifier_first, quantifier_next, temporal_first, choose_first, image_bounds, square_first, function_names, function_bounds, except_updates, update_bang, step_first, step_next, case_arms, arm_guard, handing_definition, definition_name, prefix_name, definition_parameters, function_head_bounds, replacements, replacement_start, parameter_start, ItemsRead}
use Rattle.expr_laws.proofs.Viewing.{adds-close, adds-part}
use Rattle.expr_laws.proofs.Marking.{MarkOk, mark-sound, HeadOk, head-sound, BeginOk, begin-sound}
use Rattle.expr_laws.proofs.Converting.{}
use Rattle.expr_laws.proofs.Parting.{bounds-mark, bounds-close, PartOk, operand-moves, other-moves, names-shape, bound-of, segment-shape, definition-shape, step-shape}
use Rattle.expr_laws.proofs.Ending.{item-at, after, at_end, by_column, by_mark, by_operator, EndOk, ends-sound}
use Rattle.expr_laws.proofs.Joining.{last-edge, EdgeOk, ends-edges, Shuts, list-shuts, list-part, LeadOk, lead-sound, factor-sound}
use Rattle.expr_laws.proofs.PartShapes.{arm-shape, bound-shape, instance-shape, parameter-shape, replacement-shape, update-shape}

-- each frame has read what its wait says, under the wait of the frame below it
pub data Chain : List Frame → Type 0 where
  bottom : Chain (frame Wait.Whole [] [] ∷ [])
  bottom_bounds : {ps : List Tree} {a : List Lexeme} → Bounds 0 ps a → Chain (frame Wait.WholeBounds ps a ∷ [])
  link : {f g : Frame} {fs : List Frame} → Chain (g ∷ fs) → HasRead g.wait (inner (g ∷ fs)) f.wait f.parts f.read → From (inner (g ∷ fs)) f.read → Chain (f ∷ g ∷ fs)

-- the lexemes of the frames, from the bottom one
abbrev pub spelled : List Frame → List Lexeme
spelled [] = []
spelled (f ∷ fs) = spelled fs ++ f.read

-- a state after these lexemes
abbrev pub Sound : List Lexeme → State → Type 0
Sound ts (At fs) = Chain fs × (spelled fs ≡ ts)
Sound ts (Have [] e b) = ⊥
Sound ts (Have (f ∷ fs) e b) = Chain (f ∷ fs) × Shut f.wait e b (inner (f ∷ fs)) × From (inner (f ∷ fs)) b × (spelled (f ∷ fs) ++ b ≡ ts)

abbrev pub Going : List Lexeme → Option State → Type 0
Going ts None = Unit {0}
Going ts (Some st) = Sound ts st

From-both : (i : ℕ) (xs ys : List Lexeme) → From i xs → From i ys → From i (xs ++ ys)
From-both i [] ys h k = k
From-both i (x ∷ xs) ys h k = (h.0, From-both i xs ys h.1 k)

From-less : (i j : ℕ) (xs : List Lexeme) → i ≤ j → From j xs → From i xs
From-less i j [] l h = tt
From-less i j (x ∷ xs) l h = (let k : j ≤ x.col = h.0 in omega arith, From-less i j xs l h.1)

renamed : (o : Option State) (ts us : List Lexeme) → ts ≡ us → Going ts o → Going us o
renamed o ts us e g = subst (λ z. Going z o) e g

-- a part with a frame of its own begins
abbrev ChildOk : Wait → ℕ → Wait → List Tree → List Lexeme → Option Child → Type 0
ChildOk w i v ps a None = HasRead w i (entry v) ps a × (promised v ≡ [])
ChildOk w i v ps a (Some c) = HasRead w i (entry v) ps a × HasRead (entry v) (inside (entry v) i) c.wait [] c.read × From (inside (entry v) i) c.read × (c.read ≡ promised v)

child-sound : (w : Wait) (i : ℕ) (v : Wait) (ps : List Tree) (a : List Lexeme) → HasRead w i v ps a → ChildOk w i v ps a (child v)
child-sound w i v ps a (handing_segment m n l h) = (handing_segment m n l h, segment_name refl n, (l, tt), refl)
child-sound w i v ps a (handing_definition {n = n} m k (inl e) l h) =
    let q : is_name n.kind ≡ true = ap is_name e in
    let r : HasRead (Wait.Handing Handed.Definition n) i (cond (is_name n.kind) (Wait.DefinitionName n) (Wait.PrefixName n)) [] (n ∷ []) =
    subst (λ z. HasRead (Wait.Handing Handed.Definition n) i (cond z (Wait.DefinitionName n) (Wait.PrefixName n)) [] (n ∷ [])) (sym q) (definition_name refl e)
    in
    (handing_definition m k (inl e) l h, r, (l, tt), refl)
child-sound w i v ps a (handing_definition {n = n} m k (inr e) l h) =
    let q : is_name n.kind ≡ false = ap is_name e in
    let r : HasRead (Wait.Handing Handed.Definition n) i (cond (is_name n.kind) (Wait.DefinitionName n) (Wait.PrefixName n)) [] (n ∷ []) =
    subst (λ z. HasRead (Wait.Handing Handed.Definition n) i (cond z (Wait.DefinitionName n) (Wait.PrefixName n)) [] (n ∷ [])) (sym q) (prefix_name refl e)
    in
    (handing_definition m k (inr e) l h, r, (l, tt), refl)
child-sound w i v ps a (quantifier_first m q) = (quantifier_first m q, binding_start refl, tt, refl)
child-sound w i v ps a (quantifier_next m q h) = (quantifier_next m q h, binding_start refl, tt, refl)
child-sound w i v ps a (temporal_first m q) = (temporal_first m q, binding_start refl, tt, refl)
child-sound w i v ps a (choose_first m k) = (choose_first m k, binding_start refl, tt, refl)
child-sound w i v ps a (image_bounds d due k m e n h) = (image_bounds d due k m e n h, binding_start refl, tt, refl)
child-sound w i v ps a (function_bounds due k h) = (function_bounds due k h, binding_start refl, tt, refl)
child-sound w i v ps a (except_updates d due k m e h) = (except_updates d due k m e h, update_bang refl, tt, refl)
child-sound w i v ps a (case_arms m k h) = (case_arms m k h, arm_guard refl, tt, refl)
child-sound w i v ps a (definition_parameters e n k h) = (definition_parameters e n k h, parameter_start refl, tt, refl)
child-sound w i v ps a (function_head_bounds e n k h) = (function_head_bounds e n k h, binding_start refl, tt, refl)
child-sound w i v ps a (replacements so k m t h) = (replacements so k m t h, replacement_start refl, tt, refl)
child-sound w i v ps a (function_names due f k) = (square_first due f k, refl)
child-sound w i v ps a h = (h, refl)

ready-sound : (g : Frame) (fs : List Frame) (v : Wait) (ps : List Tree) (a : List Lexeme) → Chain (g ∷ fs) → HasRead g.wait (inner (g ∷ fs)) v ps a → From (inner (g ∷ fs)) a → Sound (spelled (g ∷ fs) ++ (a ++ promised v)) (ready (frame v ps a ∷ g ∷ fs))
ready-sound g fs v ps a c h f = by (child v) (child-sound g.wait (inner (g ∷ fs)) v ps a h)
  where
    by : (o : Option Child) → ChildOk g.wait (inner (g ∷ fs)) v ps a o → Sound (spelled (g ∷ fs) ++ (a ++ promised v)) (with_child o (frame (entry v) ps a ∷ g ∷ fs))
    by None q = (link c q.0 f, ap (λ z. spelled (g ∷ fs) ++ z) (sym (append-nil a) ∙ ap (λ z. a ++ z) (sym q.1)))
    by (Some k) q = (link (link c q.0 f) q.1 q.2, append_assoc (spelled (g ∷ fs)) a k.read ∙ ap (λ z. spelled (g ∷ fs) ++ (a ++ z)) q.3)

-- a frame whose wait promises nothing
started : (g : Frame) (fs : List Frame) (v : Wait) (ps : List Tree) (a : List Lexeme) → Chain (g ∷ fs) → HasRead g.wait (inner (g ∷ fs)) v ps a × (promised v ≡ []) → From (inner (g ∷ fs)) a → Sound (spelled (g ∷ fs) ++ a) (ready (frame v ps a ∷ g ∷ fs))
started g fs v ps a c h f =
    let e : spelled (g ∷ fs) ++ (a ++ promised v) ≡ spelled (g ∷ fs) ++ a = ap (λ z. spelled (g ∷ fs) ++ z) (ap (λ z. a ++ z) h.1 ∙ append-nil a) in
    renamed (Some (ready (frame v ps a ∷ g ∷ fs))) _ _ e (ready-sound g fs v ps a c h.0 f)

-- a closed part that its frame takes at once
step-marks : (v : Wait) → sort v ≡ Sort.Step → mode v ≡ Mode.Marks
step-marks Wait.StepFirst e = refl
step-marks Wait.StepNext e = refl
step-marks (Wait.Handing Handed.Segment n) e = cc
step-marks (Wait.Handing Handed.Definition n) e = cc
step-marks _ e = cc

step-unbound : (v : Wait) → sort v ≡ Sort.Step → binding v ≡ None
step-unbound Wait.StepFirst e = refl
step-unbound Wait.StepNext e = refl
step-unbound (Wait.Handing Handed.Segment n) e = cc
step-unbound (Wait.Handing Handed.Definition n) e = cc
step-unbound _ e = cc

step-of : (v : Wait) (x : Tree) (b : List Lexeme) (i : ℕ) (o : Option Lexeme) → sort v ≡ Sort.Step → Stands v x b i o → DerivesStep x b i
step-of v x b i o e (expression d f p s) = absurd (p (step-marks v e))
step-of v x b i o e (symbol m k p) = let q : mode v ≡ Mode.Marks = step-marks v e in cc
step-of v x b i o e (instance so d) = cc
step-of v x b i o e (names β k d) = let q : binding v ≡ None = step-unbound v e in cc
step-of v x b i o e (bound β k d) = let q : binding v ≡ None = step-unbound v e in cc
step-of v x b i o e (arm so d) = cc
step-of v x b i o e (other_arm so k l d) = cc
step-of v x b i o e (segment so d) = cc
step-of v x b i o e (definition k d) = let q : sort v ≡ Sort.Other = ap sort k in cc
step-of v x b i o e (parameter so d) = cc
step-of v x b i o e (replacement so d) = cc
step-of v x b i o e (update so d) = cc
step-of v x b i o e (of_step so d) = d

absorb-sound : (w : Wait) (i : ℕ) (v u : Wait) (ps : List Tree) (a : List Lexeme) → HasRead w i v ps a → (x : Tree) (b : List Lexeme) → Stands v x b (inside v i) None → absorbs v ≡ Some u → HasRead w i u (ps ++ x ∷ []) (a ++ b)
absorb-sound w i v u ps a (step_first so k) x b s e =
    let f : Wait.StepNext ≡ u = cc in
    let d : DerivesStep x b i = step-of Wait.StepFirst x b i None refl s in
    subst (λ z. HasRead w i z (ps ++ x ∷ []) (a ++ b)) f (step_next so k (last_step d) (λ xs c r. more_steps d r))
absorb-sound w i v u ps a (step_next {d = c} so k l h) x b s e =
    let f : Wait.StepNext ≡ u = cc in
    let d : DerivesStep x b i = step-of Wait.StepNext x b i None refl s in
    subst (λ z. HasRead w i z (ps ++ x ∷ []) (a ++ b)) f (step_next so k (adds-close (λ xs z. DerivesSteps xs z i) ps c x b h (last_step d)) (adds-part (λ xs z. DerivesSteps xs z i) ps c x b h (λ xs z r. more_steps d r)))
absorb-sound w i v u ps a _ x b s e = cc

complete-sound : (g : Frame) (gs : List Frame) → Chain (g ∷ gs) → (x : Tree) (b : List Lexeme) → Shut g.wait x b (inner (g ∷ gs)) → From (inner (g ∷ gs)) b → Sound (spelled (g ∷ gs) ++ b) (complete (g ∷ gs) x b)
complete-sound g gs bottom x b s f = (bottom, s, f, refl)
complete-sound g gs (bottom_bounds h) x b s f = (bottom_bounds h, s, f, refl)
complete-sound g gs (link {g = e} {fs = fs} c h k) x b s f = by (absorbs g.wait) refl
  where
    by : (o : Option Wait) → absorbs g.wait ≡ o → Sound (spelled (g ∷ e ∷ fs) ++ b) (absorbed o g (e ∷ fs) x b)
    by None q = (link c h k, s, f, refl)
    by (Some u) q =
        let r : HasRead e.wait (inner (e ∷ fs)) u (g.parts ++ x ∷ []) (g.read ++ b) = absorb-sound e.wait (inner (e ∷ fs)) g.wait u g.parts g.read h x b (s.0 None) q in
        (link c r (From-both (inner (e ∷ fs)) g.read b k (From-less (inner (e ∷ fs)) (inner (g ∷ e ∷ fs)) b (outside (list_of g.wait) (inner (e ∷ fs))) f)), sym (append_assoc (spelled (e ∷ fs)) g.read b))

-- a lexeme that moves the frame that is due, or begins a part
abbrev Held : Frame → List Frame → Lexeme → List Lexeme → Option State → Type 0
Held f fs t ts o = Going (ts ++ t ∷ []) o

pub ended-sound : (f : Frame) (g : Frame) (fs : List Frame) (t : Lexeme) (o : Option Form) → Chain (g ∷ fs) → HeadOk g.wait (inner (g ∷ fs)) f.parts f.read (Some t) o → From (inner (g ∷ fs)) f.read → ((e : Tree) (b : List Lexeme) → Stands g.wait e b (inner (g ∷ fs)) (Some t) → right_edge e ≡ [] → From (inner (g ∷ fs)) b → Going (spelled (g ∷ fs) ++ (b ++ t ∷ [])) (have (g ∷ fs) e b t)) → Going (spelled (f ∷ g ∷ fs) ++ t ∷ []) (ended o f (g ∷ fs) t)
ended-sound f g fs t None c h k go = tt
ended-sound f g fs t (Some form) c h k go = renamed _ _ _ (sym (append_assoc (spelled (g ∷ fs)) f.read (t ∷ []))) (go _ f.read h.0 h.1 k)

marked-sound : (f g : Frame) (fs : List Frame) (t : Lexeme) (m : MarkMove) → Chain (f ∷ g ∷ fs) → MarkOk g.wait (inner (g ∷ fs)) f.wait f.parts f.read t m → From (inner (g ∷ fs)) f.read → inner (f ∷ g ∷ fs) ≤ t.col → Chain (g ∷ fs) → Going (spelled (f ∷ g ∷ fs) ++ t ∷ []) (ended (endable f.wait (Some t.kind)) f (g ∷ fs) t) → Going (spelled (f ∷ g ∷ fs) ++ t ∷ []) (marked m f (g ∷ fs) t)
marked-sound f g fs t m c h k l d e = by m h
  where
    near : inner (g ∷ fs) ≤ t.col
    near = omega (arith, l, outside (list_of f.wait) (inner (g ∷ fs)))

    longer : From (inner (g ∷ fs)) (f.read ++ t ∷ [])
    longer = From-both (inner (g ∷ fs)) f.read (t ∷ []) k (near, tt)

    same : spelled (g ∷ fs) ++ (f.read ++ t ∷ []) ≡ spelled (f ∷ g ∷ fs) ++ t ∷ []
    same = sym (append_assoc (spelled (g ∷ fs)) f.read (t ∷ []))

    by : (m : MarkMove) → MarkOk g.wait (inner (g ∷ fs)) f.wait f.parts f.read t m → Going (spelled (f ∷ g ∷ fs) ++ t ∷ []) (marked m f (g ∷ fs) t)
    by (MarkMove.Shift u) h = renamed (Some (ready (frame u f.parts (f.read ++ t ∷ []) ∷ g ∷ fs))) _ _ same (started g fs u f.parts (f.read ++ t ∷ []) d h longer)
    by (MarkMove.Leaf form u) h = renamed (Some (ready (frame u (f.parts ++ built form Nil (t ∷ []) ∷ []) (f.read ++ t ∷ []) ∷ g ∷ fs))) _ _ same (started g fs u _ (f.read ++ t ∷ []) d h longer)
    by (MarkMove.LeafOf form n u) h = renamed (Some (ready (frame u (f.parts ++ built form Nil (n ∷ []) ∷ []) (f.read ++ t ∷ []) ∷ g ∷ fs))) _ _ same (started g fs u _ (f.read ++ t ∷ []) d h longer)
    by (MarkMove.Push u) h = started f (g ∷ fs) u [] (t ∷ []) c h (l, tt)
    by (MarkMove.Hand hd) h = renamed (Some (ready (frame (Wait.Handing hd t) f.parts f.read ∷ g ∷ fs))) _ _ same (ready-sound g fs (Wait.Handing hd t) f.parts f.read d h k)
    by (MarkMove.Close form) h = renamed (Some (complete (g ∷ fs) (built form (trees f.parts) (f.read ++ t ∷ [])) (f.read ++ t ∷ []))) _ _ same (complete-sound g fs d _ (f.read ++ t ∷ []) h longer)
    by MarkMove.Refused h = e

begun-sound : (f : Frame) (fs : List Frame) (t : Lexeme) (s : Start) → Chain (f ∷ fs) → BeginOk f.wait (inner (f ∷ fs)) t s → inner (f ∷ fs) ≤ t.col → Going (spelled (f ∷ fs) ++ t ∷ []) (marked (at_mark f.wait t) f fs t) → Going (spelled (f ∷ fs) ++ t ∷ []) (begun s f fs t)
begun-sound f fs t (Start.Leaf form) c h l e = (c, h, (l, tt), refl)
begun-sound f fs t (Start.Push u) c h l e = started f fs u [] (t ∷ []) c h (l, tt)
begun-sound f fs t (Start.PushLeaf form u) c h l e = started f fs u _ (t ∷ []) c h (l, tt)
begun-sound f fs t (Start.Hand hd) c h l e = ready-sound f fs (Wait.Handing hd t) [] [] c h tt
begun-sound f fs t Start.NoStart c h l e = e

-- an expression that stands under a wait
record Operand (w : Wait) (x : Tree) (b : List Lexeme) (i : ℕ) (o : Option Lexeme) : Type 0 where
  derives : Derives x b i o
  fits : AllFit w (left_edge x)
  subscript : mode w ≡ Mode.Subscript → IsSubscript x

operand-of : (w : Wait) (x : Tree) (b : List Lexeme) (i : ℕ) (o : Option Lexeme) → Stands w x b i o → is_expression (shape x) ≡ true → Operand w x b i o
operand-of w x b i o (expression d f p s) e = record { derives = d; fits = f; subscript = s }
operand-of w x b i o (symbol m k p) e = cc
operand-of w x b i o (instance so d) e = let q : shape x ≡ Shape.Instance = instance-shape d in cc
operand-of w x b i o (names β k d) e = let q : shape x ≡ Shape.Names = names-shape β x b d in cc
operand-of w x b i o (bound β k d) e = let q : shape x ≡ Shape.Bound = bound-shape (bound-of β x b i o d) in cc
operand-of w x b i o (arm so d) e = let q : shape x ≡ Shape.Arm = arm-shape d in cc
operand-of w x b i o (other_arm so k l d) e = cc
operand-of w x b i o (segment so d) e = let q : shape x ≡ Shape.Helper = segment-shape d in cc
operand-of w x b i o (definition k d) e = let q : shape x ≡ Shape.Helper = definition-shape d in cc
operand-of w x b i o (parameter so d) e = let q : shape x ≡ Shape.Helper = parameter-shape d in cc
operand-of w x b i o (replacement so d) e = let q : shape x ≡ Shape.Helper = replacement-shape d in cc
operand-of w x b i o (update so d) e = let q : shape x ≡ Shape.Helper = update-shape d in cc
operand-of w x b i o (of_step so d) e = let q : shape x ≡ Shape.Helper = step-shape d in cc

-- the bottom frame never ends, and takes no lexeme but an operator
whole-finishes : (sh : Shape) → finishes Wait.Whole sh ≡ None
whole-finishes sh = by (is_expression sh)
  where
    by : (b : Bool) → cond b (ends_with Wait.Whole) (ends_with_part Wait.Whole sh) ≡ None
    by true = refl
    by false = refl

whole-part : (sh : Shape) (t : Lexeme) → at_part Wait.Whole sh t ≡ PartMove.Refused
whole-part sh t = by (is_expression sh)
  where
    by : (b : Bool) → or_finish (cond b (after_expression Wait.Whole sh t) (after_part Wait.Whole sh t)) (cond b (ends_with Wait.Whole) (ends_with_part Wait.Whole sh)) ≡ PartMove.Refused
    by true = refl
    by false = refl

led-sound : (f : Frame) (fs : List Frame) (e : Tree) (b : List Lexeme) (t : Lexeme) (l : Lead) → Chain (f ∷ fs) → LeadOk f.wait (inner (f ∷ fs)) e b t l → From (inner (f ∷ fs)) (b ++ t ∷ []) → Going (spelled (f ∷ fs) ++ (b ++ t ∷ [])) (led l f fs e b t)
led-sound f fs e b t (Lead.Push u) c h k = started f fs u (e ∷ []) (b ++ t ∷ []) c h k
led-sound f fs e b t (Lead.Node form) c h k = (c, h, k, refl)
led-sound f fs e b t Lead.NoLead c h k = tt

going-if : (ts : List Lexeme) (b : Bool) (m n : Option State) → (b ≡ true → Going ts m) → (b ≡ false → Going ts n) → Going ts (cond b m n)
going-if ts true m n f g = f refl
going-if ts false m n f g = g refl

-- a frame that ends round its part
ends-going : (v : Wait) (w : Wait) (i : ℕ) (ps : List Tree) (a : List Lexeme) (e : Tree) (b : List Lexeme) (t : Lexeme) (ts : List Lexeme) (o : Option Form) (go : Form → Option State) → EndOk w i ps a e b (Some t) o → ((form : Form) → o ≡ Some form → Stands w (built form (trees (ps ++ e ∷ [])) (a ++ b)) (a ++ b) i (Some t) → Going ts (go form)) → Going ts (option_and_then go o)
ends-going v w i ps a e b t ts None go h k = tt
ends-going v w i ps a e b t ts (Some form) go h k = k form refl h

spelled-on : (s a b : List Lexeme) (t : Lexeme) → s ++ ((a ++ b) ++ t ∷ []) ≡ (s ++ a) ++ (b ++ t ∷ [])
spelled-on s a b t = simp append_assoc

choice-going : (ts : List Lexeme) (c : Choice) (m n : Option State) → (c ≡ Choice.Ends → Going ts m) → (c ≡ Choice.Waits → Going ts n) → Going ts (act c m n)
choice-going ts Choice.Ends m n f g = f refl
choice-going ts Choice.Waits m n f g = g refl
choice-going ts Choice.Clashes m n f g = tt

leads : (f : Frame) (fs : List Frame) (e : Tree) (b : List Lexeme) (t : Lexeme) → Chain (f ∷ fs) → Stands f.wait e b (inner (f ∷ fs)) (Some t) → AllJoin (edge_of (role t.kind)) (right_edge e) → From (inner (f ∷ fs)) b → inner (f ∷ fs) ≤ t.col → choice f.wait (edge_of (role t.kind)) ≡ Choice.Waits → Going (spelled (f ∷ fs) ++ (b ++ t ∷ [])) (cond (is_expression (shape e)) (led (lead (role t.kind) t) f fs e b t) None)
leads f fs e b t c s j k l w =
    going-if _ (is_expression (shape e)) _ _
    (λ x. let o : Operand f.wait e b (inner (f ∷ fs)) (Some t) = operand-of f.wait e b (inner (f ∷ fs)) (Some t) s x in
    led-sound f fs e b t (lead (role t.kind) t) c (lead-sound f.wait (inner (f ∷ fs)) e b t (role t.kind) refl w j o.fits o.derives) (From-both (inner (f ∷ fs)) b (t ∷ []) k (l, tt)))
    (λ x. tt)

operator-sound : (f : Frame) (fs : List Frame) → Chain (f ∷ fs) → (e : Tree) (b : List Lexeme) (t : Lexeme) → Stands f.wait e b (inner (f ∷ fs)) (Some t) → AllJoin (edge_of (role t.kind)) (right_edge e) → From (inner (f ∷ fs)) b → inner (f ∷ fs) ≤ t.col → Going (spelled (f ∷ fs) ++ (b ++ t ∷ [])) (operator_step (f ∷ fs) e b t)
operator-sound f fs bottom e b t s j k l = leads f fs e b t bottom s j k l refl
operator-sound f fs (bottom_bounds h) e b t s j k l = tt
operator-sound f fs (link {g = g} {fs = gs} c h r) e b t s j k l =
    going-if _ (takes f.wait (role t.kind)) _ _
    (λ x. going-if _ (is_expression (shape e)) _ _
    (λ y. let o : Operand f.wait e b (inner (f ∷ g ∷ gs)) (Some t) = operand-of f.wait e b (inner (f ∷ g ∷ gs)) (Some t) s y in
    (link c (factor-sound g.wait (inner (g ∷ gs)) f.wait f.parts f.read h e b t x j o.fits o.derives) (From-both (inner (g ∷ gs)) f.read (b ++ t ∷ []) r (From-both (inner (g ∷ gs)) b (t ∷ []) near (close, tt))), sym (append_assoc (spelled (g ∷ gs)) f.read (b ++ t ∷ []))))
    (λ y. tt))
    (λ x. choice-going _ (choice f.wait (edge_of (role t.kind))) _ _
    (λ y. ends-going f.wait g.wait (inner (g ∷ gs)) f.parts f.read e b t _ (finishes f.wait (shape e)) _
    (ends-sound g.wait (inner (g ∷ gs)) f.wait f.parts f.read h e b (Some t) k (by_operator y) refl s)
    (λ form z n. renamed _ _ _ (spelled-on (spelled (g ∷ gs)) f.read b t)
    (operator-sound g gs c (built form (trees (f.parts ++ e ∷ [])) (f.read ++ b)) (f.read ++ b) t n (edges form z y) (From-both (inner (g ∷ gs)) f.read b r near) close)))
    (λ y. leads f (g ∷ gs) e b t (link c h r) s j k l y))
  where
    near : From (inner (g ∷ gs)) b
    near = From-less (inner (g ∷ gs)) (inner (f ∷ g ∷ gs)) b (outside (list_of f.wait) (inner (g ∷ gs))) k

    close : inner (g ∷ gs) ≤ t.col
    close = omega (arith, l, outside (list_of f.wait) (inner (g ∷ gs)))

    edges : (form : Form) → finishes f.wait (shape e) ≡ Some form → choice f.wait (edge_of (role t.kind)) ≡ Choice.Ends → AllJoin (edge_of (role t.kind)) (right_edge (built form (trees (f.parts ++ e ∷ [])) (f.read ++ b)))
    edges form z y =
        let q : EdgeOk (edge_of (role t.kind)) (right_edge e) (Some form) = subst (λ m. EdgeOk (edge_of (role t.kind)) (right_edge e) m) z (ends-edges f.wait (edge_of (role t.kind)) (shape e) (right_edge e) y j) in
        subst (λ m. AllJoin (edge_of (role t.kind)) (beside (right_mark form) m)) (sym (last-edge f.parts e)) q

-- what the lexeme does to the frame, where it is no operator
part-moves : (w : Wait) (i : ℕ) (v : Wait) (ps : List Tree) (a : List Lexeme) → HasRead w i v ps a → (x : Tree) (b : List Lexeme) (t : Lexeme) → i ≤ t.col → Stands v x b (inside v i) (Some t) → PartOk w i ps a x b t (after v x t)
part-moves w i v ps a h x b t l s = by (is_expression (shape x)) refl
  where
    by : (c : Bool) → is_expression (shape x) ≡ c → PartOk w i ps a x b t (cond c (after_expression v (shape x) t) (after_part v (shape x) t))
    by true e = let o : Operand v x b (inside v i) (Some t) = operand-of v x b (inside v i) (Some t) s e in operand-moves w i v ps a h x b t o.derives o.subscript
    by false e = other-moves w i v ps a h x b t l e refl s

moved-sound : (f g : Frame) (fs : List Frame) (e : Tree) (b : List Lexeme) (t : Lexeme) (m : PartMove) (o : Option Form) (go : Form → Option State) → Chain (g ∷ fs) → PartOk g.wait (inner (g ∷ fs)) f.parts f.read e b t m → From (inner (g ∷ fs)) f.read → From (inner (g ∷ fs)) b → inner (g ∷ fs) ≤ t.col → (m ≡ PartMove.Refused → Going (spelled (f ∷ g ∷ fs) ++ (b ++ t ∷ [])) (option_and_then go o)) → Going (spelled (f ∷ g ∷ fs) ++ (b ++ t ∷ [])) (moved (or_finish m o) f (g ∷ fs) e b t go)
moved-sound f g fs e b t m o go c h r k l q = by m h q
  where
    whole-read : From (inner (g ∷ fs)) (f.read ++ (b ++ t ∷ []))
    whole-read = From-both (inner (g ∷ fs)) f.read (b ++ t ∷ []) r (From-both (inner (g ∷ fs)) b (t ∷ []) k (l, tt))

    same : spelled (g ∷ fs) ++ (f.read ++ (b ++ t ∷ [])) ≡ spelled (f ∷ g ∷ fs) ++ (b ++ t ∷ [])
    same = sym (append_assoc (spelled (g ∷ fs)) f.read (b ++ t ∷ []))

    finished : (o : Option Form) → Going (spelled (f ∷ g ∷ fs) ++ (b ++ t ∷ [])) (option_and_then go o) → Going (spelled (f ∷ g ∷ fs) ++ (b ++ t ∷ [])) (moved (or_finish PartMove.Refused o) f (g ∷ fs) e b t go)
    finished None x = tt
    finished (Some form) x = x

    by : (m : PartMove) → PartOk g.wait (inner (g ∷ fs)) f.parts f.read e b t m → (m ≡ PartMove.Refused → Going (spelled (f ∷ g ∷ fs) ++ (b ++ t ∷ [])) (option_and_then go o)) → Going (spelled (f ∷ g ∷ fs) ++ (b ++ t ∷ [])) (moved (or_finish m o) f (g ∷ fs) e b t go)
    by (PartMove.Finish form) h q = absurd h
    by (PartMove.Done form u) h q = renamed (Some (complete (g ∷ fs) _ (f.read ++ (b ++ t ∷ [])))) _ _ same (complete-sound g fs c _ (f.read ++ (b ++ t ∷ [])) h whole-read)
    by (PartMove.Goes u v) h q = renamed (Some (ready (frame u _ (f.read ++ (b ++ t ∷ [])) ∷ g ∷ fs))) _ _ same (started g fs u _ (f.read ++ (b ++ t ∷ [])) c h whole-read)
    by (PartMove.Hand hd) h q =
        renamed (Some (ready (frame (Wait.Handing hd t) _ (f.read ++ b) ∷ g ∷ fs))) _ _ (spelled-on (spelled (g ∷ fs)) f.read b t)
        (ready-sound g fs (Wait.Handing hd t) _ (f.read ++ b) c h (From-both (inner (g ∷ fs)) f.read b r k))
    by (PartMove.Convert flag) h q = (link (link c h.1 r) h.0 (From-both (inner (g ∷ fs)) b (t ∷ []) k (l, tt)), refl)
    by PartMove.Refused h q = finished o (q refl)

-- a bound where bounds alone are due
bound-at : (x : Tree) (b : List Lexeme) (i : ℕ) (o : Option Lexeme) → Stands Wait.WholeBounds x b i o → shape x ≡ Shape.Bound → DerivesBound x b i o
bound-at x b i o (expression d f p s) e = let q : is_expression (shape x) ≡ true = derives-shape d in let r : is_expression (shape x) ≡ false = ap is_expression e in cc
bound-at x b i o (symbol m k p) e = cc
bound-at x b i o (instance so d) e = cc
bound-at x b i o (names β k d) e = let q : shape x ≡ Shape.Names = names-shape β x b d in cc
bound-at x b i o (bound β k d) e = bound-of β x b i o d
bound-at x b i o (arm so d) e = cc
bound-at x b i o (other_arm so k l d) e = cc
bound-at x b i o (segment so d) e = cc
bound-at x b i o (definition k d) e = cc
bound-at x b i o (parameter so d) e = cc
bound-at x b i o (replacement so d) e = cc
bound-at x b i o (update so d) e = cc
bound-at x b i o (of_step so d) e = cc

part-sound : (f : Frame) (fs : List Frame) → Chain (f ∷ fs) → (e : Tree) (b : List Lexeme) (t : Lexeme) → Stands f.wait e b (inner (f ∷ fs)) (Some t) → From (inner (f ∷ fs)) b → inner (f ∷ fs) ≤ t.col → is_operator (role t.kind) ≡ false → Going (spelled (f ∷ fs) ++ (b ++ t ∷ [])) (part_step (f ∷ fs) e b t)
part-sound f fs bottom e b t s k l n = subst (λ z. Going (spelled (f ∷ fs) ++ (b ++ t ∷ [])) (moved z f fs e b t (λ form. part_step fs (node_with form f e b) (f.read ++ b) t))) (sym (whole-part (shape e) t)) tt
part-sound f fs (bottom_bounds {ps = ps} {a = a} h) e b t s k l n = by (shape e) refl
  where
    by : (sh : Shape) → shape e ≡ sh → Going (spelled (f ∷ fs) ++ (b ++ t ∷ [])) (moved (at_part Wait.WholeBounds sh t) f fs e b t (λ form. part_step fs (node_with form f e b) (f.read ++ b) t))
    by Shape.Bound q = move-if (is_comma t.kind) refl
      where
        move-if : (c : Bool) → is_comma t.kind ≡ c → Going (spelled (f ∷ fs) ++ (b ++ t ∷ [])) (moved (or_finish (if_goes c (keeps Wait.WholeBounds)) None) f fs e b t (λ form. part_step fs (node_with form f e b) (f.read ++ b) t))
        move-if true z = (link (bottom_bounds (bounds-mark 0 ps a e b t h (comma-is t.kind z) (bound-at e b 0 (Some t) s q))) (binding_start refl) tt, append-nil (a ++ (b ++ t ∷ [])))
        move-if false z = tt
    by _ q = tt
part-sound f fs (link {g = g} {fs = gs} c h r) e b t s k l n =
    moved-sound f g gs e b t (after f.wait e t) (finishes f.wait (shape e)) _ c (part-moves g.wait (inner (g ∷ gs)) f.wait f.parts f.read h e b t close s) r near close
    (λ m. ends-going f.wait g.wait (inner (g ∷ gs)) f.parts f.read e b t _ (finishes f.wait (shape e)) _
    (ends-sound g.wait (inner (g ∷ gs)) f.wait f.parts f.read h e b (Some t) k (by_mark l n m) refl s)
    (λ form z q. renamed _ _ _ (spelled-on (spelled (g ∷ gs)) f.read b t)
    (part-sound g gs c (built form (trees (f.parts ++ e ∷ [])) (f.read ++ b)) (f.read ++ b) t q (From-both (inner (g ∷ gs)) f.read b r near) close n)))
  where
    near : From (inner (g ∷ gs)) b
    near = From-less (inner (g ∷ gs)) (inner (f ∷ g ∷ gs)) b (outside (list_of f.wait) (inner (g ∷ gs))) k

    close : inner (g ∷ gs) ≤ t.col
    close = omega (arith, l, outside (list_of f.wait) (inner (g ∷ gs)))

-- a lexeme inside the innermost list
within-sound : (f : Frame) (fs : List Frame) → Chain (f ∷ fs) → (e : Tree) (b : List Lexeme) (t : Lexeme) → Stands f.wait e b (inner (f ∷ fs)) (Some t) → right_edge e ≡ [] → From (inner (f ∷ fs)) b → inner (f ∷ fs) ≤ t.col → Going (spelled (f ∷ fs) ++ (b ++ t ∷ [])) (within (f ∷ fs) e b t)
within-sound f fs c e b t s r k l =
    going-if _ (is_operator (role t.kind)) _ _
    (λ x. operator-sound f fs c e b t s (subst (λ z. AllJoin (edge_of (role t.kind)) z) (sym r) tt) k l)
    (λ x. part-sound f fs c e b t s k l x)

-- the bullet of the next item
bullet-sound : (w : Wait) (i : ℕ) (v : Wait) (ps : List Tree) (a : List Lexeme) → HasRead w i v ps a → (first : Lexeme) (x : Tree) (b : List Lexeme) (t : Lexeme) → list_of v ≡ Some first → Derives x b (inside v i) (Some t) → From (inside v i) b → GoesOn first t → HasRead w i (Wait.ListItem first) (ps ++ x ∷ []) (a ++ (b ++ t ∷ [])) × (i ≤ t.col)
bullet-sound w i v ps a (list_first {t = u} m k j) first x b t l d f g =
    let q : u ≡ first = cc in
    let n : inside v i ≡ suc u.col = item-at (Wait.ListFirst u) u i refl j in
    let y : GoesOn u t = subst (λ z. GoesOn z t) (sym q) g in
    let r : ItemsRead u t (x ∷ []) (b ++ t ∷ []) = λ o xs c r. subst (λ z. DerivesItems u (Cons x xs) (u ∷ z) o) (sym (append_assoc b (t ∷ []) c)) (more_items t (k, refl, refl) (subst (λ z. From z b) n f) (subst (λ z. Derives x b z (Some t)) n d) r) in
    (subst (λ z. HasRead w i (Wait.ListItem z) (x ∷ []) (u ∷ (b ++ t ∷ []))) q (list_item m k j y r), (let z : t.col ≡ u.col = y.2 in omega (arith, j, z)))
bullet-sound w i v ps a (list_item {first = u} {d = c} m k j g' h) first x b t l d f g =
    let q : u ≡ first = cc in
    let n : inside v i ≡ suc u.col = item-at (Wait.ListItem u) u i refl j in
    let y : GoesOn u t = subst (λ z. GoesOn z t) (sym q) g in
    let r : ItemsRead u t (ps ++ x ∷ []) (c ++ (b ++ t ∷ [])) = λ o xs z r.
    let e : (c ++ (b ++ t ∷ [])) ++ z ≡ c ++ (b ++ t ∷ z) = simp append_assoc in
    subst (λ z'. DerivesItems u z' (u ∷ ((c ++ (b ++ t ∷ [])) ++ z)) o) (sym (joined-snoc ps x xs))
    (subst (λ z'. DerivesItems u (joined (trees ps) (Cons x xs)) (u ∷ z') o) (sym e) (h o (Cons x xs) (b ++ t ∷ z) (more_items t g' (subst (λ z'. From z' b) n f) (subst (λ z'. Derives x b z' (Some t)) n d) r)))
    in
    (subst (λ z. HasRead w i (Wait.ListItem z) (ps ++ x ∷ []) (u ∷ (c ++ (b ++ t ∷ [])))) q (list_item m k j y r), (let z : t.col ≡ u.col = y.2 in omega (arith, j, z)))
bullet-sound w i v ps a _ first x b t l d f g = cc

-- the next item begins, or the frame ends
bullet-going : (ts : List Lexeme) (c : Bool) (m : Option Lexeme) (f : Frame) (fs : List Frame) (e : Tree) (b : List Lexeme) (t : Lexeme) (out : Option State) → ((first : Lexeme) → c ≡ true → m ≡ Some first → goes_on first t ≡ true → Sound ts (At (frame (Wait.ListItem first) (f.parts ++ e ∷ []) (f.read ++ (b ++ t ∷ [])) ∷ fs))) → ((first : Lexeme) → m ≡ Some first → goes_on first t ≡ false → Going ts out) → (m ≡ None → Going ts out) → ((first : Lexeme) → c ≡ false → m ≡ Some first → Going ts out) → Going ts (on_bullet (cond c m None) f fs e b t out)
bullet-going ts true None f fs e b t out x y z u = z refl
bullet-going ts true (Some first) f fs e b t out x y z u = going-if ts (goes_on first t) _ _ (λ q. x first refl refl q) (λ q. y first refl q)
bullet-going ts false None f fs e b t out x y z u = z refl
bullet-going ts false (Some first) f fs e b t out x y z u = u first refl refl

-- a frame that ends before a lexeme left of the items it stands in
leave-link : (f g : Frame) (gs : List Frame) → Chain (g ∷ gs) → HasRead g.wait (inner (g ∷ gs)) f.wait f.parts f.read → From (inner (g ∷ gs)) f.read → (e : Tree) (b : List Lexeme) (t : Lexeme) → Stands f.wait e b (inner (f ∷ g ∷ gs)) (Some t) → From (inner (f ∷ g ∷ gs)) b → t.col < inner (f ∷ g ∷ gs) → ((e' : Tree) → Stands g.wait e' (f.read ++ b) (inner (g ∷ gs)) (Some t) → From (inner (g ∷ gs)) (f.read ++ b) → t.col < inner (g ∷ gs) → Going (spelled (g ∷ gs) ++ ((f.read ++ b) ++ t ∷ [])) (leave (g ∷ gs) e' (f.read ++ b) t)) → Going (spelled (f ∷ g ∷ gs) ++ (b ++ t ∷ [])) (leave (f ∷ g ∷ gs) e b t)
leave-link f g gs c h r e b t s k l go =
    bullet-going _ (is_expression (shape e)) (list_of f.wait) f (g ∷ gs) e b t _
    (λ first x q y. next first x q (true-goes-on first t y))
    (λ first q y. ends (subst (λ z. IsNoBullet z t) (sym q) y))
    (λ q. ends (subst (λ z. IsNoBullet z t) (sym q) tt))
    (λ first x q. subst (λ z. Going (spelled (f ∷ g ∷ gs) ++ (b ++ t ∷ [])) (option_and_then (λ form. (cond (nat_lt t.col (inner (g ∷ gs))) (leave (g ∷ gs) (node_with form f e b) (f.read ++ b) t) (within (g ∷ gs) (node_with form f e b) (f.read ++ b) t))) z)) (sym (list-part f.wait first (shape e) q x)) tt)
  where
    near : From (inner (g ∷ gs)) b
    near = From-less (inner (g ∷ gs)) (inner (f ∷ g ∷ gs)) b (outside (list_of f.wait) (inner (g ∷ gs))) k

    read : From (inner (g ∷ gs)) (f.read ++ b)
    read = From-both (inner (g ∷ gs)) f.read b r near

    shut : (form : Form) → finishes f.wait (shape e) ≡ Some form → (m : Option Lexeme) → list_of f.wait ≡ m → inner (g ∷ gs) ≤ t.col → right_edge (built form (trees (f.parts ++ e ∷ [])) (f.read ++ b)) ≡ []
    shut form z None q x = let i : inner (f ∷ g ∷ gs) ≡ inner (g ∷ gs) = ap (λ y. inside_list y (inner (g ∷ gs))) q in absurd (omega (arith, i, l, x))
    shut form z (Some first) q x =
        let y : Shuts (Some form) = subst Shuts z (list-shuts f.wait first (shape e) q) in
        ap (λ m. beside m (right_edge_of_last (trees (f.parts ++ e ∷ [])))) y

    below : (form : Form) → finishes f.wait (shape e) ≡ Some form → Stands g.wait (built form (trees (f.parts ++ e ∷ [])) (f.read ++ b)) (f.read ++ b) (inner (g ∷ gs)) (Some t) → Going (spelled (f ∷ g ∷ gs) ++ (b ++ t ∷ [])) (cond (nat_lt t.col (inner (g ∷ gs))) (leave (g ∷ gs) (built form (trees (f.parts ++ e ∷ [])) (f.read ++ b)) (f.read ++ b) t) (within (g ∷ gs) (built form (trees (f.parts ++ e ∷ [])) (f.read ++ b)) (f.read ++ b) t))
    below form z n =
        going-if _ (nat_lt t.col (inner (g ∷ gs))) _ _
        (λ x. renamed _ _ _ (spelled-on (spelled (g ∷ gs)) f.read b t) (go _ n read (grind (arith, nat_tests))))
        (λ x. let y : inner (g ∷ gs) ≤ t.col = grind (arith, nat_tests) in renamed _ _ _ (spelled-on (spelled (g ∷ gs)) f.read b t) (within-sound g gs c _ (f.read ++ b) t n (shut form z (list_of f.wait) refl y) read y))

    ends : IsNoBullet (list_of f.wait) t → Going (spelled (f ∷ g ∷ gs) ++ (b ++ t ∷ [])) (option_and_then (λ form. (cond (nat_lt t.col (inner (g ∷ gs))) (leave (g ∷ gs) (node_with form f e b) (f.read ++ b) t) (within (g ∷ gs) (node_with form f e b) (f.read ++ b) t))) (finishes f.wait (shape e)))
    ends n =
        ends-going f.wait g.wait (inner (g ∷ gs)) f.parts f.read e b t _ (finishes f.wait (shape e)) _
        (ends-sound g.wait (inner (g ∷ gs)) f.wait f.parts f.read h e b (Some t) k (by_column l n) refl s)
        (λ form z q. below form z q)

    next : (first : Lexeme) → is_expression (shape e) ≡ true → list_of f.wait ≡ Some first → GoesOn first t → Sound (spelled (f ∷ g ∷ gs) ++ (b ++ t ∷ [])) (At (frame (Wait.ListItem first) (f.parts ++ e ∷ []) (f.read ++ (b ++ t ∷ [])) ∷ g ∷ gs))
    next first x q y =
        let o : Operand f.wait e b (inner (f ∷ g ∷ gs)) (Some t) = operand-of f.wait e b (inner (f ∷ g ∷ gs)) (Some t) s x in
        let z : HasRead g.wait (inner (g ∷ gs)) (Wait.ListItem first) (f.parts ++ e ∷ []) (f.read ++ (b ++ t ∷ [])) × (inner (g ∷ gs) ≤ t.col) = bullet-sound g.wait (inner (g ∷ gs)) f.wait f.parts f.read h first e b t q o.derives k y in
        (link c z.0 (From-both (inner (g ∷ gs)) f.read (b ++ t ∷ []) r (From-both (inner (g ∷ gs)) b (t ∷ []) near (z.1, tt))), sym (append_assoc (spelled (g ∷ gs)) f.read (b ++ t ∷ [])))

leave-sound : (f : Frame) (fs : List Frame) → Chain (f ∷ fs) → (e : Tree) (b : List Lexeme) (t : Lexeme) → Stands f.wait e b (inner (f ∷ fs)) (Some t) → From (inner (f ∷ fs)) b → t.col < inner (f ∷ fs) → Going (spelled (f ∷ fs) ++ (b ++ t ∷ [])) (leave (f ∷ fs) e b t)
leave-sound f fs bottom e b t s k l = absurd (omega (arith, l))
leave-sound f fs (bottom_bounds h) e b t s k l = absurd (omega (arith, l))
leave-sound f fs (link {g = g} {fs = gs} c h r) e b t s k l = leave-link f g gs c h r e b t s k l (λ e' n x y. leave-sound g gs c e' (f.read ++ b) t n x y)

have-sound : (f : Frame) (fs : List Frame) → Chain (f ∷ fs) → (e : Tree) (b : List Lexeme) (t : Lexeme) → Stands f.wait e b (inner (f ∷ fs)) (Some t) → right_edge e ≡ [] → From (inner (f ∷ fs)) b → Going (spelled (f ∷ fs) ++ (b ++ t ∷ [])) (have (f ∷ fs) e b t)
have-sound f fs c e b t s r k =
    going-if _ (nat_lt t.col (inner (f ∷ fs))) _ _
    (λ x. leave-sound f fs c e b t s k (grind (arith, nat_tests)))
    (λ x. within-sound f fs c e b t s r k (grind (arith, nat_tests)))

due-sound : (f : Frame) (fs : List Frame) → Chain (f ∷ fs) → (t : Lexeme) → Going (spelled (f ∷ fs) ++ t ∷ []) (due (f ∷ fs) t)
due-sound f fs bottom t =
    going-if _ (nat_lt t.col 0) _ _ (λ x. tt)
    (λ x. begun-sound f fs t (begins Mode.Operand t) bottom (begin-sound Wait.Whole 0 t (omega arith)) (omega arith) tt)
due-sound f fs (bottom_bounds h) t = going-if _ (nat_lt t.col 0) _ _ (λ x. tt) (λ x. tt)
due-sound f fs (link {g = g} {fs = gs} c h r) t =
    going-if _ (nat_lt t.col (inner (f ∷ g ∷ gs))) _ _ (λ x. ending)
    (λ x. let l : inner (f ∷ g ∷ gs) ≤ t.col = grind (arith, nat_tests) in
    begun-sound f (g ∷ gs) t (begins (mode f.wait) t) (link c h r) (begin-sound f.wait (inner (f ∷ g ∷ gs)) t l) l
    (marked-sound f g gs t (at_mark f.wait t) (link c h r) (mark-sound g.wait (inner (g ∷ gs)) f.wait f.parts f.read h t l) r l c ending))
  where
    ending : Going (spelled (f ∷ g ∷ gs) ++ t ∷ []) (ended (endable f.wait (Some t.kind)) f (g ∷ gs) t)
    ending = ended-sound f g gs t (endable f.wait (Some t.kind)) c (head-sound g.wait (inner (g ∷ gs)) f.wait f.parts f.read h (Some t.kind) (Some t)) r (λ e b s q k. have-sound g gs c e b t s q k)

step-sound : (ts : List Lexeme) (st : State) (t : Lexeme) → Sound ts st → Going (ts ++ t ∷ []) (step st t)
step-sound ts (At []) t s = tt
step-sound ts (At (f ∷ fs)) t s = renamed _ _ _ (ap (λ z. z ++ t ∷ []) s.1) (due-sound f fs s.0 t)
step-sound ts (Have [] e b) t s = absurd s
step-sound ts (Have (f ∷ fs) e b) t s =
    renamed _ _ _ (sym (append_assoc (spelled (f ∷ fs)) b (t ∷ [])) ∙ ap (λ z. z ++ t ∷ []) s.3) (have-sound f fs s.0 e b t (s.1.0 (Some t)) s.1.1 s.2)

run-sound : (rest ts : List Lexeme) (o : Option State) → Going ts o → Going (ts ++ rest) (run o rest)
run-sound [] ts o g = renamed o _ _ (sym (append-nil ts)) g
run-sound (t ∷ rest) ts None g = tt
run-sound (t ∷ rest) ts (Some st) g = renamed (run (step st t) rest) _ _ (append_assoc ts (t ∷ []) rest) (run-sound rest (ts ++ t ∷ []) (step st t) (step-sound ts st t g))

pub start-sound : (ts : List Lexeme) → Going ts (run (Some start) ts)
start-sound ts = run-sound ts [] (Some start) (bottom, refl)

-- at the end all frames end
abbrev Closing : List Lexeme → Option Tree → Type 0
Closing ts None = Unit {0}
Closing ts (Some tree) = DerivesWhole tree ts

closing-if : (ts : List Lexeme) (b : Bool) (m n : Option Tree) → (b ≡ true → Closing ts m) → (b ≡ false → Closing ts n) → Closing ts (cond b m n)
closing-if ts true m n f g = f refl
closing-if ts false m n f g = g refl

tree-going : (w : Wait) (i : ℕ) (ps : List Tree) (a : List Lexeme) (e : Tree) (b : List Lexeme) (ts : List Lexeme) (o : Option Form) (go : Form → Option Tree) → EndOk w i ps a e b None o → ((form : Form) → Stands w (built form (trees (ps ++ e ∷ [])) (a ++ b)) (a ++ b) i None → Closing ts (go form)) → Closing ts (option_and_then go o)
tree-going w i ps a e b ts None go h k = tt
tree-going w i ps a e b ts (Some form) go h k = k form h

close-sound : (f : Frame) (fs : List Frame) → Chain (f ∷ fs) → (e : Tree) (b : List Lexeme) → Stands f.wait e b (inner (f ∷ fs)) None → From (inner (f ∷ fs)) b → Closing (spelled (f ∷ fs) ++ b) (close_all (f ∷ fs) e b)
close-sound f fs bottom e b s k =
    closing-if _ (is_expression (shape e)) _ _ (λ x. let o : Operand Wait.Whole e b 0 None = operand-of Wait.Whole e b 0 None s x in o.derives) (λ x. tt)
close-sound f fs (bottom_bounds h) e b s k = tt
close-sound f fs (link {g = g} {fs = gs} c h r) e b s k =
    tree-going g.wait (inner (g ∷ gs)) f.parts f.read e b _ (finishes f.wait (shape e)) _ (ends-sound g.wait (inner (g ∷ gs)) f.wait f.parts f.read h e b None k at_end refl s)
    (λ form q. subst (λ z. Closing z (close_all (g ∷ gs) (node_with form f e b) (f.read ++ b))) (sym (append_assoc (spelled (g ∷ gs)) f.read b))
    (close-sound g gs c (node_with form f e b) (f.read ++ b) q (From-both (inner (g ∷ gs)) f.read b r (From-less (inner (g ∷ gs)) (inner (f ∷ g ∷ gs)) b (outside (list_of f.wait) (inner (g ∷ gs))) k))))

head-closes : (f g : Frame) (gs : List Frame) (o : Option Form) → Chain (g ∷ gs) → HeadOk g.wait (inner (g ∷ gs)) f.parts f.read None o → From (inner (g ∷ gs)) f.read → Closing (spelled (f ∷ g ∷ gs)) (option_and_then (λ form. close_all (g ∷ gs) (built form (trees f.parts) f.read) f.read) o)
head-closes f g gs None c h r = tt
head-closes f g gs (Some form) c h r = close-sound g gs c _ f.read h.0 r

finish-sound : (ts : List Lexeme) (o : Option State) → Going ts o → Closing ts (finish o)
finish-sound ts None g = tt
finish-sound ts (Some (At [])) g = tt
finish-sound ts (Some (At (f ∷ fs))) g = subst (λ z. Closing z (finish_due (f ∷ fs))) g.1 (by f fs g.0)
  where
    by : (f : Frame) (fs : List Frame) → Chain (f ∷ fs) → Closing (spelled (f ∷ fs)) (finish_due (f ∷ fs))
    by f fs bottom = tt
    by f fs (bottom_bounds h) = tt
    by f fs (link {g = h} {fs = hs} c r k) = head-closes f h hs (endable f.wait None) c (head-sound h.wait (inner (h ∷ hs)) f.wait f.parts f.read r None None) k
finish-sound ts (Some (Have [] e b)) g = absurd g
finish-sound ts (Some (Have (f ∷ fs) e b)) g = subst (λ z. Closing z (close_all (f ∷ fs) e b)) g.3 (close-sound f fs g.0 e b (g.1.0 None) g.2)

-- what the machine accepts is derivable, by the tree that it answers
pub accepted-derives : (ts : List Lexeme) (tree : Tree) → parse ts ≡ Some tree → DerivesWhole tree ts
accepted-derives ts tree e = subst (λ z. Closing ts z) e (finish-sound ts (run (Some start) ts) (start-sound ts))

-- the same for bounds alone
abbrev ClosingBounds : List Lexeme → Option Trees → Type 0
ClosingBounds ts None = Unit {0}
ClosingBounds ts (Some bounds) = DerivesBounds bounds ts 0 None

bounds-going : (w : Wait) (i : ℕ) (ps : List Tree) (a : List Lexeme) (e : Tree) (b : List Lexeme) (ts : List Lexeme) (o : Option Form) (go : Form → Option Trees) → EndOk w i ps a e b None o → ((form : Form) → Stands w (built form (trees (ps ++ e ∷ [])) (a ++ b)) (a ++ b) i None → ClosingBounds ts (go form)) → ClosingBounds ts (option_and_then go o)
bounds-going w i ps a e b ts None go h k = tt
bounds-going w i ps a e b ts (Some form) go h k = k form h

close-bounds-sound : (f : Frame) (fs : List Frame) → Chain (f ∷ fs) → (e : Tree) (b : List Lexeme) → Stands f.wait e b (inner (f ∷ fs)) None → From (inner (f ∷ fs)) b → ClosingBounds (spelled (f ∷ fs) ++ b) (close_bounds (f ∷ fs) e b)
close-bounds-sound f fs bottom e b s k = tt
close-bounds-sound f fs (bottom_bounds {ps = ps} {a = a} h) e b s k = by (shape e) refl
  where
    by : (sh : Shape) → shape e ≡ sh → ClosingBounds (a ++ b) (whole_bounds Wait.WholeBounds sh (trees (ps ++ e ∷ [])))
    by Shape.Bound q = bounds-close 0 ps a e b None h (bound-at e b 0 None s q)
    by _ q = tt
close-bounds-sound f fs (link {g = g} {fs = gs} c h r) e b s k =
    bounds-going g.wait (inner (g ∷ gs)) f.parts f.read e b _ (finishes f.wait (shape e)) _ (ends-sound g.wait (inner (g ∷ gs)) f.wait f.parts f.read h e b None k at_end refl s)
    (λ form q. subst (λ z. ClosingBounds z (close_bounds (g ∷ gs) (node_with form f e b) (f.read ++ b))) (sym (append_assoc (spelled (g ∷ gs)) f.read b))
    (close-bounds-sound g gs c (node_with form f e b) (f.read ++ b) q (From-both (inner (g ∷ gs)) f.read b r (From-less (inner (g ∷ gs)) (inner (f ∷ g ∷ gs)) b (outside (list_of f.wait) (inner (g ∷ gs))) k))))

head-closes-bounds : (f g : Frame) (gs : List Frame) (o : Option Form) → Chain (g ∷ gs) → HeadOk g.wait (inner (g ∷ gs)) f.parts f.read None o → From (inner (g ∷ gs)) f.read → ClosingBounds (spelled (f ∷ g ∷ gs)) (option_and_then (λ form. close_bounds (g ∷ gs) (built form (trees f.parts) f.read) f.read) o)
head-closes-bounds f g gs None c h r = tt
head-closes-bounds f g gs (Some form) c h r = close-bounds-sound g gs c _ f.read h.0 r

finish-bounds-sound : (ts : List Lexeme) (o : Option State) → Going ts o → ClosingBounds ts (finish_bounds o)
finish-bounds-sound ts None g = tt
finish-bounds-sound ts (Some (At [])) g = tt
finish-bounds-sound ts (Some (At (f ∷ fs))) g = subst (λ z. ClosingBounds z (finish_due_bounds (f ∷ fs))) g.1 (by f fs g.0)
  where
    by : (f : Frame) (fs : List Frame) → Chain (f ∷ fs) → ClosingBounds (spelled (f ∷ fs)) (finish_due_bounds (f ∷ fs))
    by f fs bottom = tt
    by f fs (bottom_bounds h) = tt
    by f fs (link {g = h} {fs = hs} c r k) = head-closes-bounds f h hs (endable f.wait None) c (head-sound h.wait (inner (h ∷ hs)) f.wait f.parts f.read r None None) k
finish-bounds-sound ts (Some (Have [] e b)) g = absurd g
finish-bounds-sound ts (Some (Have (f ∷ fs) e b)) g = subst (λ z. ClosingBounds z (close_bounds (f ∷ fs) e b)) g.3 (close-bounds-sound f fs g.0 e b (g.1.0 None) g.2)

pub accepted-bounds : (ts : List Lexeme) (bounds : Trees) → parse_bounds ts ≡ Some bounds → DerivesBounds bounds ts 0 None
accepted-bounds ts bounds e =
    subst (λ z. ClosingBounds ts z) e
    (finish-bounds-sound ts (run (Some start_bounds) ts) (run-sound ts [] (Some start_bounds) (link (bottom_bounds (λ o xs c r. r)) (binding_start refl) tt, refl)))
