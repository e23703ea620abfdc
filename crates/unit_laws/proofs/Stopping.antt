-- What is a whole expression goes on with none of the lexemes before which it is done, nor bounds with `]`.
use Rattle.std.proofs.Common.{◌≡◌, Bool, true, false, List, [], ◌∷◌, ◌++◌, Option, Some, None, refl, ap, subst, ◌∙◌}
use Rattle.std.specs.Prelude.{cond, nat_lt, option_and_then}
use Rattle.tla_symbols.specs.declared.op.Op.TheVariants as Op
use Rattle.tla_symbols.specs.declared.lexeme.LexKind.{LexKind}
use Rattle.tla_symbols.specs.declared.lexeme.Word.TheVariants as Word
use Rattle.tla_symbols.specs.declared.lexeme.Mark.TheVariants as Mark
use Rattle.tla_symbols.specs.declared.lexeme.Lexeme.{Lexeme}
use Rattle.tla_tree.specs.declared.form.Form.{Form}
use Rattle.tla_tree.specs.Syntax.{Tree, Trees}
use Rattle.expr_grammar.specs.declared.wait.Handed.TheVariants as Handed
use Rattle.expr_grammar.specs.declared.wait.Wait.{Wait}
use Rattle.expr_grammar.specs.declared.wait.Start.{Start}
use Rattle.expr_grammar.specs.declared.wait.MarkMove.{MarkMove}
use Rattle.expr_grammar.specs.declared.wait.PartMove.{PartMove}
use Rattle.expr_grammar.specs.declared.wait.Shape.{Shape}
use Rattle.expr_grammar.specs.Kinds.{is_bang, is_always, is_comma, is_left_paren, is_with, is_right_bracket}
use Rattle.expr_grammar.specs.Tables.{list_of, is_junction, role, shape, is_expression, ends_with, ends_with_part, finishes, after_expression, after_part, or_finish, finish_by, at_part, mode, begins, at_mark, endable}
use Rattle.expr_grammar.specs.Machine.{Frame, State, At, Have, inner, node, node_with, operator_step, part_step, moved, is_operator, within, on_bullet, leave, have, ended, step, run, start, whole, close_all, finish, begun, marked, whole_bounds, close_bounds, finish_bounds}
use Rattle.expr_grammar.specs.Following.{stops}
use Rattle.expr_laws.proofs.KindTests.{right_bracket-is}
use Rattle.expr_laws.proofs.CompletingKinds.{Kind, Goal, makes, wanted, meets}
use Rattle.expr_laws.proofs.CompletingStates.{Under, Stacked, Fits, FitsNext, run-fits, start-fits}
use Rattle.unit_laws.proofs.Lasting.{either-none}

-- what such a lexeme is not
record Quiet (k : LexKind) : Type 0 where
  pub mark : is_operator (role k) ≡ false
  pub junction : is_junction k ≡ false
  pub bang : is_bang k ≡ false
  pub always : is_always k ≡ false
  pub paren : is_left_paren k ≡ false
  pub with : is_with k ≡ false

stops-quiet : (k : LexKind) → stops k ≡ true → Quiet k
stops-quiet (LexKind.Sym Op.Negative) h = record { mark = refl; junction = refl; bang = refl; always = refl; paren = refl; with = refl }
stops-quiet (LexKind.Sym op) h = cc
stops-quiet (LexKind.Mark Mark.Comma) h = record { mark = refl; junction = refl; bang = refl; always = refl; paren = refl; with = refl }
stops-quiet (LexKind.Mark Mark.RightBracket) h = record { mark = refl; junction = refl; bang = refl; always = refl; paren = refl; with = refl }
stops-quiet (LexKind.Mark mark) h = cc
stops-quiet (LexKind.Word Word.With) h = cc
stops-quiet (LexKind.Word word) h = record { mark = refl; junction = refl; bang = refl; always = refl; paren = refl; with = refl }
stops-quiet _ h = record { mark = refl; junction = refl; bang = refl; always = refl; paren = refl; with = refl }

refused-expression : (w : Wait) (sh : Shape) (t : Lexeme) (form : Form) → ends_with w ≡ Some form → after_expression w sh t ≡ PartMove.Refused
refused-expression Wait.Whole sh t form h = refl
refused-expression _ sh t form h = cc

-- whether a frame holds replacements, which alone goes on with a comma though it may end
abbrev is_replacements : Wait → Bool
is_replacements (Wait.Replacements m) = true
is_replacements _ = false

either-refused : (c : Bool) (m n : PartMove) → m ≡ PartMove.Refused → n ≡ PartMove.Refused → cond c m n ≡ PartMove.Refused
either-refused true m n h k = h
either-refused false m n h k = k

-- a frame that does not go on with the lexeme once it may end
abbrev Settles : Wait → Lexeme → Type 0
Settles w t = is_replacements w ≡ true → is_comma t.kind ≡ false

refused-part : (w : Wait) (sh : Shape) (t : Lexeme) (form : Form) → Quiet t.kind → Settles w t → ends_with_part w sh ≡ Some form → after_part w sh t ≡ PartMove.Refused
refused-part (Wait.Handing Handed.Segment n) Shape.Helper t form q r h = rw (q.bang)
refused-part Wait.CaseArms Shape.Arm t form q r h = rw (q.always)
refused-part Wait.CaseArms Shape.OtherArm t form q r h = refl
refused-part (Wait.DefinitionBody n) Shape.Instance t form q r h = refl
refused-part (Wait.Replacements m) Shape.Helper t form q r h = rw (r refl)
refused-part _ _ t form q r h = cc

ends-part : (w : Wait) (sh : Shape) (t : Lexeme) (form : Form) → Quiet t.kind → Settles w t → finishes w sh ≡ Some form → at_part w sh t ≡ PartMove.Finish form
ends-part w sh t form q r h = ap (λ m. or_finish m (finishes w sh)) (by (is_expression sh) h) ∙ ap finish_by h
  where
    by : (b : Bool) → cond b (ends_with w) (ends_with_part w sh) ≡ Some form → cond b (after_expression w sh t) (after_part w sh t) ≡ PartMove.Refused
    by true k = refused-expression w sh t form k
    by false k = refused-part w sh t form q r k

-- frames that may all end before the lexeme, above a bottom that it does not move
data Closes (t : Lexeme) : List Frame → Tree → List Lexeme → Type 0 where
  bottom : {f : Frame} {e : Tree} {b : List Lexeme} → at_part f.wait (shape e) t ≡ PartMove.Refused → finishes f.wait (shape e) ≡ None → Closes t (f ∷ []) e b
  above : {f g : Frame} {fs : List Frame} {e : Tree} {b : List Lexeme} (form : Form)
      → finishes f.wait (shape e) ≡ Some form → Settles f.wait t → Closes t (g ∷ fs) (node_with form f e b) (f.read ++ b)
      → Closes t (f ∷ g ∷ fs) e b

no-bullet : (o : Option Lexeme) (f : Frame) (fs : List Frame) (e : Tree) (b : List Lexeme) (t : Lexeme) (out : Option State) → is_junction t.kind ≡ false → on_bullet o f fs e b t out ≡ out
no-bullet None f fs e b t out h = refl
no-bullet (Some first) f fs e b t out h = rw (h)

part-refused : {t : Lexeme} {fs : List Frame} {e : Tree} {b : List Lexeme} → Quiet t.kind → Closes t fs e b → part_step fs e b t ≡ None
part-refused {t = t} {e = e} {b = b} q (bottom {f = f} h k) = ap (λ m. moved m f [] e b t (λ form. part_step [] (node_with form f e b) (f.read ++ b) t)) h
part-refused {t = t} {e = e} {b = b} q (above {f = f} {g = g} {fs = fs} form h r c) =
    ap (λ m. moved m f (g ∷ fs) e b t (λ form. part_step (g ∷ fs) (node_with form f e b) (f.read ++ b) t)) (ends-part f.wait (shape e) t form q r h) ∙ part-refused q c

within-refused : {t : Lexeme} {fs : List Frame} {e : Tree} {b : List Lexeme} → Quiet t.kind → Closes t fs e b → within fs e b t ≡ None
within-refused {t = t} {fs = fs} {e = e} {b = b} q c = ap (λ z. cond z (operator_step fs e b t) (part_step fs e b t)) q.mark ∙ part-refused q c

leave-refused : {t : Lexeme} {fs : List Frame} {e : Tree} {b : List Lexeme} → Quiet t.kind → Closes t fs e b → leave fs e b t ≡ None
leave-refused {t = t} {e = e} {b = b} q (bottom {f = f} h k) =
    let go : Form → Option State = λ form. cond (nat_lt t.col (inner [])) (leave [] (node_with form f e b) (f.read ++ b) t) (within [] (node_with form f e b) (f.read ++ b) t) in
    no-bullet (cond (is_expression (shape e)) (list_of f.wait) None) f [] e b t (option_and_then go (finishes f.wait (shape e))) q.junction ∙ ap (λ o. option_and_then go o) k
leave-refused {t = t} {e = e} {b = b} q (above {f = f} {g = g} {fs = fs} form h r c) =
    let go : Form → Option State = λ form. cond (nat_lt t.col (inner (g ∷ fs))) (leave (g ∷ fs) (node_with form f e b) (f.read ++ b) t) (within (g ∷ fs) (node_with form f e b) (f.read ++ b) t) in
    no-bullet (cond (is_expression (shape e)) (list_of f.wait) None) f (g ∷ fs) e b t (option_and_then go (finishes f.wait (shape e))) q.junction
    ∙ (ap (λ o. option_and_then go o) h ∙ either-none (nat_lt t.col (inner (g ∷ fs))) _ _ (leave-refused q c) (within-refused q c))

have-refused : {t : Lexeme} {fs : List Frame} {e : Tree} {b : List Lexeme} → Quiet t.kind → Closes t fs e b → have fs e b t ≡ None
have-refused {t = t} {fs = fs} q c = either-none (nat_lt t.col (inner fs)) _ _ (leave-refused q c) (within-refused q c)

-- a definition ends no expression by itself, nor does an instance
on-tree-none : (o : Option Form) (go : Form → Option Tree) → ((form : Form) → go form ≡ None) → option_and_then go o ≡ None
on-tree-none None go h = refl
on-tree-none (Some form) go h = h form

definition-under : (w : Wait) → meets (wanted w) Kind.Definition ≡ true → (n : Lexeme) × (w ≡ Wait.Handing Handed.Definition n)
definition-under (Wait.Handing Handed.Definition n) h = (n, refl)
definition-under _ h = cc

instance-under : (w : Wait) → meets (wanted w) Kind.Instance ≡ true → (n : Lexeme) × (w ≡ Wait.DefinitionBody n)
instance-under (Wait.DefinitionBody n) h = (n, refl)
instance-under (Wait.Handing Handed.Segment t) h = cc
instance-under (Wait.Handing Handed.Definition t) h = cc
instance-under _ h = cc

handing-ends : (n : Lexeme) (sh : Shape) → finishes (Wait.Handing Handed.Definition n) sh ≡ None
handing-ends n sh = by (is_expression sh)
  where
    by : (b : Bool) → cond b None (ends_with_part (Wait.Handing Handed.Definition n) sh) ≡ None
    by true = refl
    by false = refl

no-definition : (fs : List Frame) (e : Tree) (b : List Lexeme) → Under Goal.ForExpression fs Kind.Definition → close_all fs e b ≡ None
no-definition [] e b u = refl
no-definition (f ∷ []) e b u = ap (λ w. whole w e) (definition-under f.wait u.0).1
no-definition (f ∷ g ∷ fs) e b u =
    let d : (n : Lexeme) × (f.wait ≡ Wait.Handing Handed.Definition n) = definition-under f.wait u.0 in
    let k : finishes f.wait (shape e) ≡ None = ap (λ w. finishes w (shape e)) d.1 ∙ handing-ends d.0 (shape e) in
    ap (λ o. option_and_then (λ form. close_all (g ∷ fs) (node_with form f e b) (f.read ++ b)) o) k

no-instance : (fs : List Frame) (e : Tree) (b : List Lexeme) → Under Goal.ForExpression fs Kind.Instance → close_all fs e b ≡ None
no-instance [] e b u = refl
no-instance (f ∷ []) e b u = ap (λ w. whole w e) (instance-under f.wait u.0).1
no-instance (f ∷ g ∷ fs) e b u =
    let d : (n : Lexeme) × (f.wait ≡ Wait.DefinitionBody n) = instance-under f.wait u.0 in
    let v : Under Goal.ForExpression (g ∷ fs) Kind.Definition = subst (λ w. Under Goal.ForExpression (g ∷ fs) (makes w)) d.1 u.1 in
    on-tree-none (finishes f.wait (shape e)) _ (λ form. no-definition (g ∷ fs) (node_with form f e b) (f.read ++ b) v)

replacements-make : (w : Wait) → is_replacements w ≡ true → makes w ≡ Kind.Instance
replacements-make (Wait.Replacements m) h = refl
replacements-make _ h = cc

abbrev nothing : Option Form
nothing = None

whole-refuses : (w : Wait) (e : Tree) (t : Lexeme) (x : Tree) → whole w e ≡ Some x → (at_part w (shape e) t ≡ PartMove.Refused) × (finishes w (shape e) ≡ None)
whole-refuses Wait.Whole e t x h = by (is_expression (shape e))
  where
    by : (b : Bool) → (or_finish (cond b PartMove.Refused PartMove.Refused) (cond b nothing nothing) ≡ PartMove.Refused) × (cond b nothing nothing ≡ nothing)
    by true = (refl, refl)
    by false = (refl, refl)
whole-refuses _ e t x h = cc

under-stacked : (fs : List Frame) (k : Kind) → Under Goal.ForExpression fs k → Stacked Goal.ForExpression fs
under-stacked [] k u = tt
under-stacked (f ∷ fs) k u = u.1

-- what closes as a whole
closes-all : (fs : List Frame) (e : Tree) (b : List Lexeme) (t : Lexeme) (x : Tree) → Stacked Goal.ForExpression fs → close_all fs e b ≡ Some x → Closes t fs e b
closes-all [] e b t x u h = cc
closes-all (f ∷ []) e b t x u h = let k : (at_part f.wait (shape e) t ≡ PartMove.Refused) × (finishes f.wait (shape e) ≡ None) = whole-refuses f.wait e t x h in bottom k.0 k.1
closes-all (f ∷ g ∷ fs) e b t x u h =
    by-form (finishes f.wait (shape e)) refl (λ form. close_all (g ∷ fs) (node_with form f e b) (f.read ++ b)) h (λ form q k. above form q (settles _ _ k) (closes-all (g ∷ fs) (node_with form f e b) (f.read ++ b) t x u.1 k))
  where
    by-form : (o : Option Form) → finishes f.wait (shape e) ≡ o → (go : Form → Option Tree) → option_and_then go o ≡ Some x → ((form : Form) → finishes f.wait (shape e) ≡ Some form → go form ≡ Some x → Closes t (f ∷ g ∷ fs) e b) → Closes t (f ∷ g ∷ fs) e b
    by-form None q go k r = cc
    by-form (Some form) q go k r = r form q k

    settles : (y : Tree) (c : List Lexeme) → close_all (g ∷ fs) y c ≡ Some x → Settles f.wait t
    settles y c k r =
        let v : Under Goal.ForExpression (g ∷ fs) Kind.Instance = subst (λ z. Under Goal.ForExpression (g ∷ fs) z) (replacements-make f.wait r) u in
        let z : close_all (g ∷ fs) y c ≡ None = no-instance (g ∷ fs) y c v in
        cc

endable-same : (w : Wait) (k : LexKind) (form : Form) → endable w None ≡ Some form → endable w (Some k) ≡ Some form
endable-same (Wait.SegmentName n) k form h = h
endable-same Wait.SubscriptRead k form h = h
endable-same (Wait.InstanceNamed m) k form h = h
endable-same (Wait.ReplacementEnd n) k form h = h
endable-same (Wait.ParameterName n) k form h = h
endable-same _ k form h = cc

endable-waits : (w : Wait) (t : Lexeme) (form : Form) → Quiet t.kind → endable w None ≡ Some form → (begins (mode w) t ≡ Start.NoStart) × (at_mark w t ≡ MarkMove.Refused)
endable-waits (Wait.SegmentName n) t form q h = (refl, rw (q.paren))
endable-waits Wait.SubscriptRead t form q h = (refl, rw (q.bang))
endable-waits (Wait.InstanceNamed m) t form q h = (refl, rw (q.with))
endable-waits (Wait.ReplacementEnd n) t form q h = (refl, refl)
endable-waits (Wait.ParameterName n) t form q h = (refl, rw (q.paren))
endable-waits _ t form q h = cc

-- a frame that may end at once ends before the lexeme, and the frames below it do
due-refused : (f : Frame) (fs : List Frame) (t : Lexeme) (form : Form) → Quiet t.kind → endable f.wait None ≡ Some form → Closes t fs (node form f) f.read → step (At (f ∷ fs)) t ≡ None
due-refused f fs t form q h c =
    let k : ended (endable f.wait (Some t.kind)) f fs t ≡ None = ap (λ o. ended o f fs t) (endable-same f.wait t.kind form h) ∙ have-refused q c in
    let w : (begins (mode f.wait) t ≡ Start.NoStart) × (at_mark f.wait t ≡ MarkMove.Refused) = endable-waits f.wait t form q h in
    let m : begun (begins (mode f.wait) t) f fs t ≡ None = ap (λ s. begun s f fs t) w.0 ∙ (ap (λ m. marked m f fs t) w.1 ∙ k) in
    either-none (nat_lt t.col (inner (f ∷ fs))) _ _ k m

on-tree-some : (P : Type 0) (o : Option Form) (go : Form → Option Tree) (x : Tree) → option_and_then go o ≡ Some x → ((form : Form) → o ≡ Some form → go form ≡ Some x → P) → P
on-tree-some P None go x h k = cc
on-tree-some P (Some form) go x h k = k form refl h

state-refused : (st : State) (t : Lexeme) (x : Tree) → Fits Goal.ForExpression st → finish (Some st) ≡ Some x → stops t.kind ≡ true → step st t ≡ None
state-refused (At []) t x u h s = absurd u
state-refused (At (f ∷ fs)) t x u h s =
    on-tree-some _ (endable f.wait None) (λ form. close_all fs (node form f) f.read) x h (λ form e k. due-refused f fs t form (stops-quiet t.kind s) e (closes-all fs (node form f) f.read t x (under-stacked fs (makes f.wait) u.1) k))
state-refused (Have [] e b) t x u h s = absurd u
state-refused (Have (f ∷ fs) e b) t x u h s = have-refused (stops-quiet t.kind s) (closes-all (f ∷ fs) e b t x u.1 h)

-- an expression that is whole goes on with no lexeme before which it is done
pub done-refused : (lexemes : List Lexeme) (st : State) (x : Tree) (t : Lexeme) → run (Some start) lexemes ≡ Some st → finish (Some st) ≡ Some x → stops t.kind ≡ true → step st t ≡ None
done-refused lexemes st x t e h s =
    let u : FitsNext Goal.ForExpression (Some st) = subst (FitsNext Goal.ForExpression) e (run-fits Goal.ForExpression (Some start) lexemes (start-fits Goal.ForExpression)) in
    state-refused st t x u h s

-- ---- bounds

bracket-quiet : (t : Lexeme) → is_right_bracket t.kind ≡ true → Quiet t.kind
bracket-quiet t h = stops-quiet t.kind (ap stops (right_bracket-is t.kind h))

bracket-settles : (w : Wait) (t : Lexeme) → is_right_bracket t.kind ≡ true → Settles w t
bracket-settles w t h r = ap is_comma (right_bracket-is t.kind h)

bounds-refuse : (w : Wait) (sh : Shape) (ps : Trees) (t : Lexeme) (xs : Trees) → is_right_bracket t.kind ≡ true → whole_bounds w sh ps ≡ Some xs → (at_part w sh t ≡ PartMove.Refused) × (finishes w sh ≡ None)
bounds-refuse Wait.WholeBounds Shape.Bound ps t xs b h = let c : is_comma t.kind ≡ false = ap is_comma (right_bracket-is t.kind b) in (rw (c), refl)
bounds-refuse _ _ ps t xs b h = cc

on-bounds-some : (P : Type 0) (o : Option Form) (go : Form → Option Trees) (xs : Trees) → option_and_then go o ≡ Some xs → ((form : Form) → o ≡ Some form → go form ≡ Some xs → P) → P
on-bounds-some P None go xs h k = cc
on-bounds-some P (Some form) go xs h k = k form refl h

closes-bounds : (fs : List Frame) (e : Tree) (b : List Lexeme) (t : Lexeme) (xs : Trees) → is_right_bracket t.kind ≡ true → close_bounds fs e b ≡ Some xs → Closes t fs e b
closes-bounds [] e b t xs r h = cc
closes-bounds (f ∷ []) e b t xs r h = let k : (at_part f.wait (shape e) t ≡ PartMove.Refused) × (finishes f.wait (shape e) ≡ None) = bounds-refuse f.wait (shape e) _ t xs r h in bottom k.0 k.1
closes-bounds (f ∷ g ∷ fs) e b t xs r h =
    on-bounds-some _ (finishes f.wait (shape e)) (λ form. close_bounds (g ∷ fs) (node_with form f e b) (f.read ++ b)) xs h (λ form q k. above form q (bracket-settles f.wait t r) (closes-bounds (g ∷ fs) (node_with form f e b) (f.read ++ b) t xs r k))

-- bounds that are whole do not go on with `]`
pub bounds-refused : (st : State) (xs : Trees) (t : Lexeme) → finish_bounds (Some st) ≡ Some xs → is_right_bracket t.kind ≡ true → step st t ≡ None
bounds-refused (At []) xs t h r = cc
bounds-refused (At (f ∷ fs)) xs t h r =
    on-bounds-some _ (endable f.wait None) (λ form. close_bounds fs (node form f) f.read) xs h (λ form e k. due-refused f fs t form (bracket-quiet t r) e (closes-bounds fs (node form f) f.read t xs r k))
bounds-refused (Have fs e b) xs t h r = have-refused (bracket-quiet t r) (closes-bounds fs e b t xs r h)
