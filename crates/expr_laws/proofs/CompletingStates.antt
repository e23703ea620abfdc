-- Each state that the machine reaches fits: each frame makes a part that the frame below it takes.
use Rattle.std.proofs.Common.{◌≡◌, Bool, true, false, List, [], ◌∷◌, ◌++◌, Option, Some, None, refl, ap, sym, subst, ◌∙◌}
use Rattle.std.specs.Prelude.{cond, is_none, nat_lt, option_and_then}
use Rattle.tla_symbols.specs.declared.lexeme.Lexeme.{Lexeme}
use Rattle.tla_tree.specs.declared.form.Form.{Form}
use Rattle.tla_tree.specs.Syntax.{Tree, Trees, Nil, trees}
use Rattle.tla_tree.specs.Lexemes.{place, built, one}
use Rattle.precedence.specs.declared.Choice.{Choice}
use Rattle.expr_grammar.specs.declared.wait.Handed.TheVariants as Handed
use Rattle.expr_grammar.specs.declared.wait.Wait.{Wait}
use Rattle.expr_grammar.specs.declared.wait.Start.{Start}
use Rattle.expr_grammar.specs.declared.wait.MarkMove.{MarkMove}
use Rattle.expr_grammar.specs.declared.wait.PartMove.{PartMove}
use Rattle.expr_grammar.specs.declared.wait.Lead.{Lead}
use Rattle.expr_grammar.specs.Kinds.{is_name}
use Rattle.expr_grammar.specs.Tables.{mode, child, list_of, goes_on, begins, at_mark, endable, absorbs, role, edge_of, lead, takes, choice, shape, is_expression, converted, finishes, at_part}
use Rattle.expr_grammar.specs.Machine.{Frame, frame, State, At, Have, inner, ready, complete, absorbed, node, node_with, led, act, operator_step, moved, part_step, is_operator, within, on_bullet, leave, have, ended, marked, begun, step, run, start, start_bounds}
use Rattle.expr_laws.proofs.CompletingKinds.{Kind, Goal, bottom, makes, wanted, meets, shows, rough, shows-form, meets-shows, meets-no_step, bottom-shows}
use Rattle.expr_laws.proofs.CompletingTables.{takes_sets, Grows, same, to_bound, KeepsMark, mark-kept, KeepsPart, part-kept, BeginsExpression, begins-kept, begins_something, begins-wanted, waits-wanted, LeadsExpression, leads-kept, takes-factor, absorbs-step, absorbs-no_step}

-- a part of the kind may stand on these frames, above the bottom frame of the goal
abbrev pub Under : Goal → List Frame → Kind → Type 0
Under goal [] k = k ≡ bottom goal
Under goal (f ∷ fs) k = (meets (wanted f.wait) k ≡ true) × Under goal fs (makes f.wait)

abbrev pub Stacked : Goal → List Frame → Type 0
Stacked goal [] = Unit {0}
Stacked goal (f ∷ fs) = Under goal fs (makes f.wait)

-- a frame that may be due itself, with no frame for a part above it
abbrev pub is_due : Wait → Bool
is_due (Wait.FunctionNames b) = false
is_due w = is_none (child w)

-- a part that a frame takes, and does not absorb
abbrev pub IsTaken : Wait → Tree → Type 0
IsTaken w e = (shows (wanted w) (shape e) ≡ true) × (meets (wanted w) Kind.Step ≡ false)

abbrev pub Fits : Goal → State → Type 0
Fits goal (At []) = ⊥
Fits goal (At (f ∷ fs)) = (is_due f.wait ≡ true) × Under goal fs (makes f.wait)
Fits goal (Have [] e b) = ⊥
Fits goal (Have (f ∷ fs) e b) = IsTaken f.wait e × Under goal fs (makes f.wait)

abbrev pub FitsNext : Goal → Option State → Type 0
FitsNext goal None = Unit {0}
FitsNext goal (Some st) = Fits goal st

under-stacked : (goal : Goal) (fs : List Frame) (k : Kind) → Under goal fs k → Stacked goal fs
under-stacked goal [] k u = tt
under-stacked goal (f ∷ fs) k u = u.1

meets-bound : (j k : Kind) → meets j k ≡ true → takes_sets k ≡ true → meets j Kind.Bound ≡ true
meets-bound j Kind.Either h s = by-either j h
  where
    by-either : (j : Kind) → meets j Kind.Either ≡ true → meets j Kind.Bound ≡ true
    by-either Kind.Either h = refl
    by-either _ h = cc
meets-bound j Kind.Bound h s = h
meets-bound j Kind.One h s = by-one j h
  where
    by-one : (j : Kind) → meets j Kind.One ≡ true → meets j Kind.Bound ≡ true
    by-one Kind.One h = refl
    by-one _ h = cc
meets-bound j _ h s = cc

bottom-sets : (goal : Goal) → takes_sets (bottom goal) ≡ true → ⊥
bottom-sets Goal.ForExpression h = cc
bottom-sets Goal.ForBounds h = cc

pub grown : (goal : Goal) (fs : List Frame) {k l : Kind} → Grows k l → Under goal fs k → Under goal fs l
grown goal fs same u = u
grown goal [] (to_bound s) u = let z : takes_sets (bottom goal) ≡ true = subst (λ k. takes_sets k ≡ true) u s in absurd (bottom-sets goal z)
grown goal (f ∷ fs) (to_bound {k = k} s) u = (meets-bound (wanted f.wait) k u.0 s, u.1)

ready-fits : (goal : Goal) (w : Wait) (ps : List Tree) (a : List Lexeme) (fs : List Frame) → Under goal fs (makes w) → Fits goal (ready (frame w ps a ∷ fs))
ready-fits goal Wait.WholeBounds ps a fs u = (refl, (refl, u))
ready-fits goal (Wait.Handing Handed.Segment t) ps a fs u = (refl, (refl, u))
ready-fits goal (Wait.Handing Handed.Definition t) ps a fs u = by-name (is_name t.kind)
  where
    by-name : (b : Bool) → (is_due (cond b (Wait.DefinitionName t) (Wait.PrefixName t)) ≡ true) × ((meets Kind.Definition (makes (cond b (Wait.DefinitionName t) (Wait.PrefixName t))) ≡ true) × Under goal fs Kind.Expression)
    by-name true = (refl, (refl, u))
    by-name false = (refl, (refl, u))
ready-fits goal (Wait.QuantifierFirst q) ps a fs u = (refl, (refl, u))
ready-fits goal (Wait.QuantifierNext q) ps a fs u = (refl, (refl, u))
ready-fits goal (Wait.TemporalFirst q) ps a fs u = (refl, (refl, u))
ready-fits goal Wait.ChooseFirst ps a fs u = (refl, (refl, u))
ready-fits goal Wait.ImageBounds ps a fs u = (refl, (refl, u))
ready-fits goal Wait.FunctionBounds ps a fs u = (refl, (refl, u))
ready-fits goal Wait.ExceptUpdates ps a fs u = (refl, (refl, u))
ready-fits goal Wait.CaseArms ps a fs u = (refl, (refl, u))
ready-fits goal (Wait.DefinitionParameters n) ps a fs u = (refl, (refl, u))
ready-fits goal (Wait.FunctionHeadBounds n) ps a fs u = (refl, (refl, u))
ready-fits goal (Wait.Replacements m) ps a fs u = (refl, (refl, u))
ready-fits goal _ ps a fs u = (refl, u)

complete-fits : (goal : Goal) (fs : List Frame) (k : Kind) (e : Tree) (b : List Lexeme) → Under goal fs k → shows k (shape e) ≡ true → Fits goal (complete fs e b)
complete-fits goal [] k e b u s = absurd (bottom-shows goal (shape e) (subst (λ k. shows k (shape e) ≡ true) u s))
complete-fits goal (f ∷ fs) k e b u s = by-absorbed (absorbs f.wait) refl
  where
    by-absorbed : (o : Option Wait) → absorbs f.wait ≡ o → Fits goal (absorbed o f fs e b)
    by-absorbed None q = ((meets-shows (wanted f.wait) k (shape e) u.0 s, absorbs-no_step f.wait q), u.1)
    by-absorbed (Some w) q =
        let z : (w ≡ Wait.StepNext) × (makes f.wait ≡ Kind.Update) = absorbs-step f.wait w q in
        (ap is_due z.0, subst (λ l. Under goal fs l) (z.1 ∙ sym (ap makes z.0)) u.1)

form-shows : (k : Kind) (form : Form) (ps : Trees) (a : List Lexeme) → shows k (rough form) ≡ true → shows k (shape (built form ps a)) ≡ true
form-shows k form ps a h = shows-form k form (place a) ps ∙ h

expression-taken : (w : Wait) (form : Form) (ps : Trees) (a : List Lexeme) → shows Kind.Expression (rough form) ≡ true → meets (wanted w) Kind.Expression ≡ true → IsTaken w (built form ps a)
expression-taken w form ps a h m = (meets-shows (wanted w) Kind.Expression _ m (form-shows Kind.Expression form ps a h), meets-no_step (wanted w) Kind.Expression m refl)

led-fits : (goal : Goal) (l : Lead) (f : Frame) (fs : List Frame) (e : Tree) (b : List Lexeme) (t : Lexeme) → LeadsExpression l → meets (wanted f.wait) Kind.Expression ≡ true → Under goal fs (makes f.wait) → FitsNext goal (led l f fs e b t)
led-fits goal (Lead.Push w) f fs e b t h m u = ready-fits goal w (e ∷ []) (b ++ t ∷ []) (f ∷ fs) (subst (λ k. Under goal (f ∷ fs) k) (sym h) (m, u))
led-fits goal (Lead.Node form) f fs e b t h m u = (expression-taken f.wait form (one e) (b ++ t ∷ []) h m, u)
led-fits goal Lead.NoLead f fs e b t h m u = tt

on-form-fits : (goal : Goal) (o : Option Form) (go : Form → Option State) → ((form : Form) → FitsNext goal (go form)) → FitsNext goal (option_and_then go o)
on-form-fits goal None go h = tt
on-form-fits goal (Some form) go h = h form

either-fits : (goal : Goal) (c : Bool) (x y : Option State) → (c ≡ true → FitsNext goal x) → FitsNext goal y → FitsNext goal (cond c x y)
either-fits goal true x y h k = h refl
either-fits goal false x y h k = k

act-fits : (goal : Goal) (c : Choice) (x y : Option State) → FitsNext goal x → (c ≡ Choice.Waits → FitsNext goal y) → FitsNext goal (act c x y)
act-fits goal Choice.Ends x y h k = h
act-fits goal Choice.Waits x y h k = k refl
act-fits goal Choice.Clashes x y h k = tt

operator-fits : (goal : Goal) (fs : List Frame) (e : Tree) (b : List Lexeme) (t : Lexeme) → Stacked goal fs → FitsNext goal (operator_step fs e b t)
operator-fits goal [] e b t u = tt
operator-fits goal (f ∷ fs) e b t u =
    either-fits goal (takes f.wait (role t.kind)) _ _
    (λ h. either-fits goal (is_expression (shape e)) _ None (λ q. (refl, subst (λ w. Under goal fs (makes w)) (takes-factor f.wait (role t.kind) h) u)) tt)
    (act-fits goal (choice f.wait (edge_of (role t.kind))) _ _
    (on-form-fits goal (finishes f.wait (shape e)) _ (λ form. operator-fits goal fs (node_with form f e b) (f.read ++ b) t (under-stacked goal fs _ u)))
    (λ c. either-fits goal (is_expression (shape e)) _ None (λ q. led-fits goal (lead (role t.kind) t) f fs e b t (leads-kept (role t.kind) t) (waits-wanted f.wait _ c) u) tt))

moved-fits : (goal : Goal) (m : PartMove) (f : Frame) (fs : List Frame) (e : Tree) (b : List Lexeme) (t : Lexeme) (go : Form → Option State) → KeepsPart f.wait m → Under goal fs (makes f.wait) → ((form : Form) → FitsNext goal (go form)) → FitsNext goal (moved m f fs e b t go)
moved-fits goal (PartMove.Finish form) f fs e b t go k u h = h form
moved-fits goal (PartMove.Done form cv) f fs e b t go k u h = complete-fits goal fs (makes f.wait) _ _ u (form-shows (makes f.wait) form (trees (f.parts ++ converted cv e b)) (f.read ++ (b ++ t ∷ [])) k)
moved-fits goal (PartMove.Goes w cv) f fs e b t go k u h = ready-fits goal w (f.parts ++ converted cv e b) (f.read ++ (b ++ t ∷ [])) fs (grown goal fs k u)
moved-fits goal (PartMove.Hand hd) f fs e b t go k u h = ready-fits goal (Wait.Handing hd t) (f.parts ++ e ∷ []) (f.read ++ b) fs (grown goal fs k u)
moved-fits goal (PartMove.Convert flag) f fs e b t go k u h = (refl, (refl, grown goal fs k u))
moved-fits goal PartMove.Refused f fs e b t go k u h = tt

part-fits : (goal : Goal) (fs : List Frame) (e : Tree) (b : List Lexeme) (t : Lexeme) → Stacked goal fs → FitsNext goal (part_step fs e b t)
part-fits goal [] e b t u = tt
part-fits goal (f ∷ fs) e b t u = moved-fits goal (at_part f.wait (shape e) t) f fs e b t _ (part-kept f.wait (shape e) t) u (λ form. part-fits goal fs (node_with form f e b) (f.read ++ b) t (under-stacked goal fs _ u))

within-fits : (goal : Goal) (fs : List Frame) (e : Tree) (b : List Lexeme) (t : Lexeme) → Stacked goal fs → FitsNext goal (within fs e b t)
within-fits goal fs e b t u = either-fits goal (is_operator (role t.kind)) _ _ (λ h. operator-fits goal fs e b t u) (part-fits goal fs e b t u)

bullet-fits : (goal : Goal) (w : Wait) (c : Bool) (f : Frame) (fs : List Frame) (e : Tree) (b : List Lexeme) (t : Lexeme) (out : Option State) → Under goal fs (makes w) → FitsNext goal out → FitsNext goal (on_bullet (cond c (list_of w) None) f fs e b t out)
bullet-fits goal (Wait.ListFirst first) true f fs e b t out u h = either-fits goal (goes_on first t) _ out (λ q. (refl, u)) h
bullet-fits goal (Wait.ListItem first) true f fs e b t out u h = either-fits goal (goes_on first t) _ out (λ q. (refl, u)) h
bullet-fits goal _ true f fs e b t out u h = h
bullet-fits goal w false f fs e b t out u h = h

leave-fits : (goal : Goal) (fs : List Frame) (e : Tree) (b : List Lexeme) (t : Lexeme) → Stacked goal fs → FitsNext goal (leave fs e b t)
leave-fits goal [] e b t u = tt
leave-fits goal (f ∷ fs) e b t u =
    bullet-fits goal f.wait (is_expression (shape e)) f fs e b t _ u
    (on-form-fits goal (finishes f.wait (shape e)) _ (λ form.
    either-fits goal (nat_lt t.col (inner fs)) _ _
    (λ h. leave-fits goal fs (node_with form f e b) (f.read ++ b) t (under-stacked goal fs _ u))
    (within-fits goal fs (node_with form f e b) (f.read ++ b) t (under-stacked goal fs _ u))))

have-fits : (goal : Goal) (fs : List Frame) (e : Tree) (b : List Lexeme) (t : Lexeme) → Stacked goal fs → FitsNext goal (have fs e b t)
have-fits goal fs e b t u = either-fits goal (nat_lt t.col (inner fs)) _ _ (λ h. leave-fits goal fs e b t u) (within-fits goal fs e b t u)

ended-fits : (goal : Goal) (o : Option Form) (f : Frame) (fs : List Frame) (t : Lexeme) → Under goal fs (makes f.wait) → FitsNext goal (ended o f fs t)
ended-fits goal o f fs t u = on-form-fits goal o _ (λ form. have-fits goal fs (node form f) f.read t (under-stacked goal fs _ u))

marked-fits : (goal : Goal) (m : MarkMove) (f : Frame) (fs : List Frame) (t : Lexeme) → KeepsMark f.wait m → Under goal fs (makes f.wait) → FitsNext goal (marked m f fs t)
marked-fits goal (MarkMove.Shift w) f fs t k u = ready-fits goal w f.parts (f.read ++ t ∷ []) fs (grown goal fs k u)
marked-fits goal (MarkMove.Leaf form w) f fs t k u = ready-fits goal w (f.parts ++ built form Nil (t ∷ []) ∷ []) (f.read ++ t ∷ []) fs (grown goal fs k u)
marked-fits goal (MarkMove.LeafOf form n w) f fs t k u = ready-fits goal w (f.parts ++ built form Nil (n ∷ []) ∷ []) (f.read ++ t ∷ []) fs (grown goal fs k u)
marked-fits goal (MarkMove.Push w) f fs t k u = ready-fits goal w [] (t ∷ []) (f ∷ fs) (k, u)
marked-fits goal (MarkMove.Hand h) f fs t k u = ready-fits goal (Wait.Handing h t) f.parts f.read fs (grown goal fs k u)
marked-fits goal (MarkMove.Close form) f fs t k u = complete-fits goal fs (makes f.wait) _ _ u (form-shows (makes f.wait) form (trees f.parts) (f.read ++ t ∷ []) k)
marked-fits goal MarkMove.Refused f fs t k u = ended-fits goal (endable f.wait (Some t.kind)) f fs t u

begun-fits : (goal : Goal) (s : Start) (f : Frame) (fs : List Frame) (t : Lexeme) → BeginsExpression s → (begins_something s ≡ true → meets (wanted f.wait) Kind.Expression ≡ true) → Under goal fs (makes f.wait) → FitsNext goal (begun s f fs t)
begun-fits goal (Start.Leaf form) f fs t k m u = (expression-taken f.wait form Nil (t ∷ []) k (m refl), u)
begun-fits goal (Start.Push w) f fs t k m u = ready-fits goal w [] (t ∷ []) (f ∷ fs) (subst (λ l. Under goal (f ∷ fs) l) (sym k) (m refl, u))
begun-fits goal (Start.PushLeaf form w) f fs t k m u = ready-fits goal w (built form Nil (t ∷ []) ∷ []) (t ∷ []) (f ∷ fs) (subst (λ l. Under goal (f ∷ fs) l) (sym k) (m refl, u))
begun-fits goal (Start.Hand h) f fs t k m u = ready-fits goal (Wait.Handing h t) [] [] (f ∷ fs) (m refl, u)
begun-fits goal Start.NoStart f fs t k m u = marked-fits goal (at_mark f.wait t) f fs t (mark-kept f.wait t) u

step-fits : (goal : Goal) (st : State) (t : Lexeme) → Fits goal st → FitsNext goal (step st t)
step-fits goal (At []) t u = absurd u
step-fits goal (At (f ∷ fs)) t u =
    either-fits goal (nat_lt t.col (inner (f ∷ fs))) _ _
    (λ h. ended-fits goal (endable f.wait (Some t.kind)) f fs t u.1)
    (begun-fits goal (begins (mode f.wait) t) f fs t (begins-kept (mode f.wait) t) (begins-wanted f.wait t) u.1)
step-fits goal (Have [] e b) t u = absurd u
step-fits goal (Have (f ∷ fs) e b) t u = have-fits goal (f ∷ fs) e b t u.1

pub run-fits : (goal : Goal) (o : Option State) (lexemes : List Lexeme) → FitsNext goal o → FitsNext goal (run o lexemes)
run-fits goal o [] u = u
run-fits goal None (t ∷ lexemes) u = tt
run-fits goal (Some st) (t ∷ lexemes) u = run-fits goal (step st t) lexemes (step-fits goal st t u)

abbrev pub start_of : Goal → State
start_of Goal.ForExpression = start
start_of Goal.ForBounds = start_bounds

pub start-fits : (goal : Goal) → Fits goal (start_of goal)
start-fits Goal.ForExpression = (refl, refl)
start-fits Goal.ForBounds = (refl, (refl, refl))
