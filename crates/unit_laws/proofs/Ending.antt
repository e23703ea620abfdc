-- A list that ends as the lexer ends it is a module, or has a first bad lexeme.
use Rattle.std.proofs.Common.{◌≡◌, ℕ, suc, ◌+◌, ◌<◌, ◌⊎◌, inl, inr, false, List, [], ◌∷◌, ◌++◌, length, take, Option, Some, None, refl, ap, sym, subst, ◌∙◌, arith}
use Rattle.tla_symbols.specs.declared.lexeme.LexKind.{LexKind}
use Rattle.tla_symbols.specs.declared.lexeme.Lexeme.{Lexeme}
use Rattle.tla_symbols.specs.declared.lexeme.Span.{Span}
use Rattle.tla_tree.specs.declared.form.Form.{Form}
use Rattle.tla_tree.specs.Syntax.{Tree, Trees}
use Rattle.tla_tree.specs.Lexemes.{then}
use Rattle.expr_grammar.specs.Kinds.{is_comma}
use Rattle.expr_grammar.specs.Machine as Expressions
use Rattle.expr_grammar.specs.Machine.{start}
use Rattle.expr_grammar.specs.Following.{done_before, bounds_done_before}
use Rattle.unit_grammar.specs.Units.{UnitTree, Constants, ModuleUnits}
use Rattle.unit_grammar.specs.FirstBad.{IsDerivable, IsFirstBad, IsLast, EndsOnce}
use Rattle.unit_machine.specs.declared.wait.Due.{Due}
use Rattle.unit_machine.specs.declared.wait.DueMove.{DueMove}
use Rattle.unit_machine.specs.declared.wait.Wait.{Wait}
use Rattle.unit_machine.specs.declared.wait.Move.{Move}
use Rattle.unit_machine.specs.Tables.{unit_start, due_move, move, after_expression, after_bounds}
use Rattle.unit_machine.specs.Machine.{Frame, frame, Begun, OfConstants, OfDefinition, OfInstance, OfAssumption, OfTheorem, Focus, Stands, Declared, Part, Expression, Bounds, State, started, unit_due, due_moved, after_declared, finished, node, taking, reading, moved, part_step, given, expression_step, reading_bounds, bounds_step, focus_step, step, run, opening, answered, answer, parse}
use Rattle.unit_laws.proofs.Flat.{whole-derives}
use Rattle.unit_laws.proofs.UnitCompleteness.{run-nothing}
use Rattle.unit_laws.proofs.Views.{Wholes, FocusOk, at_opening, at_word, at_name, at_dashes, at_read, at_extends, at_extended, at_unit, at_line, at_local, at_variable, at_variables, at_closed, at_declared, at_part, at_expression, at_bounds}
use Rattle.unit_laws.proofs.Soundness.{GoingOk, opening-sound}
use Rattle.unit_laws.proofs.FirstBad.{refused-first}
use Rattle.unit_laws.proofs.Lasting.{Last, closing, ending, wrong, as_lexeme, last-refused}

-- the outermost module is closed, if the lexeme was read at all
abbrev OnlyClosed : Option State → Type 0
OnlyClosed None = Unit {0}
OnlyClosed (Some s) = s.focus ≡ Stands Due.Closed []

due-closes : (d : ℕ) (us : List UnitTree) (t : Lexeme) → Last t.kind → OnlyClosed (unit_due None d us t)
due-closes d us t l = by t.kind l d
  where
    by : (k : LexKind) → Last k → (d : ℕ) → OnlyClosed (started (unit_start k t) None d us t)
    by k closing ℕ.zero = tt
    by k closing (suc ℕ.zero) = refl
    by k closing (suc (suc d)) = tt
    by k ending d = tt
    by k wrong d = tt

-- what such a lexeme does where something is due
data DueStays : DueMove → Type 0 where
  due_refuses : DueStays DueMove.Refused
  has_begun : {d n : Lexeme} → DueStays (DueMove.Begun d n)
  is_list : DueStays DueMove.Listed
  is_line : {d : Lexeme} → DueStays (DueMove.Lined d)
  begins_unit : DueStays (DueMove.Begins None)

due-stays : (due : Due) (k : LexKind) → Last k → (s : Span) (line col : ℕ) → DueStays (due_move due (as_lexeme k s line col))
due-stays Due.Opening k closing s line col = due_refuses
due-stays Due.Opening k ending s line col = due_refuses
due-stays Due.Opening k wrong s line col = due_refuses
due-stays (Due.OpeningWord d) k closing s line col = due_refuses
due-stays (Due.OpeningWord d) k ending s line col = due_refuses
due-stays (Due.OpeningWord d) k wrong s line col = due_refuses
due-stays (Due.ModuleName d) k closing s line col = due_refuses
due-stays (Due.ModuleName d) k ending s line col = due_refuses
due-stays (Due.ModuleName d) k wrong s line col = due_refuses
due-stays (Due.ModuleDashes d n) k closing s line col = due_refuses
due-stays (Due.ModuleDashes d n) k ending s line col = due_refuses
due-stays (Due.ModuleDashes d n) k wrong s line col = due_refuses
due-stays (Due.ModuleRead d n) k closing s line col = has_begun
due-stays (Due.ModuleRead d n) k ending s line col = has_begun
due-stays (Due.ModuleRead d n) k wrong s line col = has_begun
due-stays (Due.ExtendsName d n) k closing s line col = due_refuses
due-stays (Due.ExtendsName d n) k ending s line col = due_refuses
due-stays (Due.ExtendsName d n) k wrong s line col = due_refuses
due-stays (Due.ExtendsRead d n) k closing s line col = has_begun
due-stays (Due.ExtendsRead d n) k ending s line col = has_begun
due-stays (Due.ExtendsRead d n) k wrong s line col = has_begun
due-stays Due.Unit k closing s line col = begins_unit
due-stays Due.Unit k ending s line col = begins_unit
due-stays Due.Unit k wrong s line col = begins_unit
due-stays (Due.Dashes d) k closing s line col = is_line
due-stays (Due.Dashes d) k ending s line col = is_line
due-stays (Due.Dashes d) k wrong s line col = is_line
due-stays (Due.Local w) k closing s line col = due_refuses
due-stays (Due.Local w) k ending s line col = due_refuses
due-stays (Due.Local w) k wrong s line col = due_refuses
due-stays Due.VariableName k closing s line col = due_refuses
due-stays Due.VariableName k ending s line col = due_refuses
due-stays Due.VariableName k wrong s line col = due_refuses
due-stays Due.VariableRead k closing s line col = is_list
due-stays Due.VariableRead k ending s line col = is_list
due-stays Due.VariableRead k wrong s line col = is_list
due-stays Due.Closed k closing s line col = due_refuses
due-stays Due.Closed k ending s line col = due_refuses
due-stays Due.Closed k wrong s line col = due_refuses

due_moved-closes : (m : DueMove) → DueStays m → (names : List Lexeme) (d : ℕ) (us : List UnitTree) (t : Lexeme) → Last t.kind → OnlyClosed (due_moved m names d us t)
due_moved-closes m due_refuses names d us t l = tt
due_moved-closes m has_begun names d us t l = due-closes (suc d) _ t l
due_moved-closes m is_list names d us t l = due-closes d _ t l
due_moved-closes m is_line names d us t l = due-closes d _ t l
due_moved-closes m begins_unit names d us t l = due-closes d us t l

-- and frames
data MoveStays : Move → Type 0 where
  refuses : MoveStays Move.Refused
  ends_before : {form : Form} → MoveStays (Move.Ends form)
  expresses : MoveStays Move.Expression

move-stays : (w : Wait) (k : LexKind) → Last k → (s : Span) (line col : ℕ) → MoveStays (move w (as_lexeme k s line col))
move-stays Wait.Declaration k closing s line col = refuses
move-stays Wait.Declaration k ending s line col = refuses
move-stays Wait.Declaration k wrong s line col = refuses
move-stays (Wait.DeclarationName n) k closing s line col = ends_before
move-stays (Wait.DeclarationName n) k ending s line col = ends_before
move-stays (Wait.DeclarationName n) k wrong s line col = ends_before
move-stays (Wait.Places n p) k closing s line col = refuses
move-stays (Wait.Places n p) k ending s line col = refuses
move-stays (Wait.Places n p) k wrong s line col = refuses
move-stays (Wait.PlacesRead n p) k closing s line col = refuses
move-stays (Wait.PlacesRead n p) k ending s line col = refuses
move-stays (Wait.PlacesRead n p) k wrong s line col = refuses
move-stays (Wait.PrefixPlace s') k closing s line col = refuses
move-stays (Wait.PrefixPlace s') k ending s line col = refuses
move-stays (Wait.PrefixPlace s') k wrong s line col = refuses
move-stays Wait.SymbolPlace k closing s line col = refuses
move-stays Wait.SymbolPlace k ending s line col = refuses
move-stays Wait.SymbolPlace k wrong s line col = refuses
move-stays (Wait.InfixPlace s') k closing s line col = refuses
move-stays (Wait.InfixPlace s') k ending s line col = refuses
move-stays (Wait.InfixPlace s') k wrong s line col = refuses
move-stays (Wait.DefinitionName n) k closing s line col = refuses
move-stays (Wait.DefinitionName n) k ending s line col = refuses
move-stays (Wait.DefinitionName n) k wrong s line col = refuses
move-stays (Wait.Parameters n) k closing s line col = refuses
move-stays (Wait.Parameters n) k ending s line col = refuses
move-stays (Wait.Parameters n) k wrong s line col = refuses
move-stays (Wait.ParametersRead n) k closing s line col = refuses
move-stays (Wait.ParametersRead n) k ending s line col = refuses
move-stays (Wait.ParametersRead n) k wrong s line col = refuses
move-stays (Wait.Define n) k closing s line col = refuses
move-stays (Wait.Define n) k ending s line col = refuses
move-stays (Wait.Define n) k wrong s line col = refuses
move-stays (Wait.Body n) k closing s line col = expresses
move-stays (Wait.Body n) k ending s line col = expresses
move-stays (Wait.Body n) k wrong s line col = expresses
move-stays (Wait.PrefixName s') k closing s line col = refuses
move-stays (Wait.PrefixName s') k ending s line col = refuses
move-stays (Wait.PrefixName s') k wrong s line col = refuses
move-stays (Wait.PrefixDefine s') k closing s line col = refuses
move-stays (Wait.PrefixDefine s') k ending s line col = refuses
move-stays (Wait.PrefixDefine s') k wrong s line col = refuses
move-stays (Wait.InfixName s') k closing s line col = refuses
move-stays (Wait.InfixName s') k ending s line col = refuses
move-stays (Wait.InfixName s') k wrong s line col = refuses
move-stays (Wait.InfixDefine s') k closing s line col = refuses
move-stays (Wait.InfixDefine s') k ending s line col = refuses
move-stays (Wait.InfixDefine s') k wrong s line col = refuses
move-stays (Wait.PostfixDefine s') k closing s line col = refuses
move-stays (Wait.PostfixDefine s') k ending s line col = refuses
move-stays (Wait.PostfixDefine s') k wrong s line col = refuses
move-stays (Wait.Bounds n) k closing s line col = refuses
move-stays (Wait.Bounds n) k ending s line col = refuses
move-stays (Wait.Bounds n) k wrong s line col = refuses
move-stays (Wait.BoundsRead n) k closing s line col = refuses
move-stays (Wait.BoundsRead n) k ending s line col = refuses
move-stays (Wait.BoundsRead n) k wrong s line col = refuses
move-stays (Wait.BoundsDefine n) k closing s line col = refuses
move-stays (Wait.BoundsDefine n) k ending s line col = refuses
move-stays (Wait.BoundsDefine n) k wrong s line col = refuses
move-stays (Wait.Right form) k closing s line col = expresses
move-stays (Wait.Right form) k ending s line col = expresses
move-stays (Wait.Right form) k wrong s line col = expresses
move-stays Wait.InstanceName k closing s line col = refuses
move-stays Wait.InstanceName k ending s line col = refuses
move-stays Wait.InstanceName k wrong s line col = refuses
move-stays (Wait.InstanceRead m) k closing s line col = ends_before
move-stays (Wait.InstanceRead m) k ending s line col = ends_before
move-stays (Wait.InstanceRead m) k wrong s line col = ends_before
move-stays (Wait.Replacements m) k closing s line col = refuses
move-stays (Wait.Replacements m) k ending s line col = refuses
move-stays (Wait.Replacements m) k wrong s line col = refuses
move-stays (Wait.ReplacementsRead m) k closing s line col = ends_before
move-stays (Wait.ReplacementsRead m) k ending s line col = ends_before
move-stays (Wait.ReplacementsRead m) k wrong s line col = ends_before
move-stays Wait.ReplacementStart k closing s line col = refuses
move-stays Wait.ReplacementStart k ending s line col = refuses
move-stays Wait.ReplacementStart k wrong s line col = refuses
move-stays (Wait.ReplacementArrow n) k closing s line col = refuses
move-stays (Wait.ReplacementArrow n) k ending s line col = refuses
move-stays (Wait.ReplacementArrow n) k wrong s line col = refuses
move-stays (Wait.ReplacementRight n) k closing s line col = expresses
move-stays (Wait.ReplacementRight n) k ending s line col = expresses
move-stays (Wait.ReplacementRight n) k wrong s line col = expresses
move-stays (Wait.Complete form) k closing s line col = ends_before
move-stays (Wait.Complete form) k ending s line col = ends_before
move-stays (Wait.Complete form) k wrong s line col = ends_before

last-comma : (k : LexKind) → Last k → is_comma k ≡ false
last-comma k closing = refl
last-comma k ending = refl
last-comma k wrong = refl

declared-closes : (xs : Trees) (d : ℕ) (us : List UnitTree) (t : Lexeme) → Last t.kind → OnlyClosed (after_declared xs d us t)
declared-closes xs d us t l =
    let e : after_declared xs d us t ≡ unit_due None d (us ++ Constants xs ∷ []) t = (let z : is_comma t.kind ≡ false = last-comma t.kind l in rw z) in
    subst OnlyClosed (sym e) (due-closes d (us ++ Constants xs ∷ []) t l)

finished-closes : (begun : Begun) (x : Tree) (d : ℕ) (us : List UnitTree) (t : Lexeme) → Last t.kind → OnlyClosed (finished begun x d us t)
finished-closes (OfConstants xs) x d us t l = declared-closes (then xs x) d us t l
finished-closes (OfDefinition before) x d us t l = due-closes d _ t l
finished-closes (OfInstance before) x d us t l = due-closes d _ t l
finished-closes (OfAssumption w) x d us t l = due-closes d _ t l
finished-closes (OfTheorem w) x d us t l = due-closes d _ t l

reading-closes : (st : Expressions.State) (begun : Begun) (fs : List Frame) (b : List Lexeme) (d : ℕ) (us : List UnitTree) (t : Lexeme) → Last t.kind → OnlyClosed (reading (Expressions.step st t) begun fs b d us)
reading-closes st begun fs b d us t l = subst (λ o. OnlyClosed (reading o begun fs b d us)) (sym (last-refused st t l)) tt

moved-closes : (m : Move) → MoveStays m → (begun : Begun) (f : Frame) (fs : List Frame) (d : ℕ) (us : List UnitTree) (t : Lexeme) (go : Form → Option State) → Last t.kind → ((form : Form) → OnlyClosed (go form)) → OnlyClosed (moved m begun f fs d us t go)
moved-closes m refuses begun f fs d us t go l h = tt
moved-closes m (ends_before {form = form}) begun f fs d us t go l h = h form
moved-closes m expresses begun f fs d us t go l h = reading-closes start begun (f ∷ fs) (t ∷ []) d us t l

part-closes : (fs : List Frame) (begun : Begun) (f : Frame) (d : ℕ) (us : List UnitTree) (t : Lexeme) → Last t.kind → OnlyClosed (part_step fs begun f d us t)
part-closes [] begun f d us t l = moved-closes (move f.wait t) (move-stays f.wait t.kind l t.span t.line t.col) begun f [] d us t _ l (λ form. finished-closes begun (node form f) d us t l)
part-closes (g ∷ gs) begun f d us t l = moved-closes (move f.wait t) (move-stays f.wait t.kind l t.span t.line t.col) begun f (g ∷ gs) d us t _ l (λ form. part-closes gs begun (taking g (node form f) f.read) d us t l)

given-closes : (fs : List Frame) (begun : Begun) (x : Tree) (b : List Lexeme) (d : ℕ) (us : List UnitTree) (t : Lexeme) → Last t.kind → OnlyClosed (given fs begun x b d us t)
given-closes [] begun x b d us t l = finished-closes begun x d us t l
given-closes (g ∷ gs) begun x b d us t l = part-closes gs begun (frame (after_expression g.wait) (then g.parts x) (g.read ++ b)) d us t l

expression-closes : (o : Option Tree) (begun : Begun) (fs : List Frame) (st : Expressions.State) (b : List Lexeme) (d : ℕ) (us : List UnitTree) (t : Lexeme) → Last t.kind → OnlyClosed (expression_step o begun fs st b d us t)
expression-closes (Some x) begun fs st b d us t l = given-closes fs begun x b d us t l
expression-closes None begun fs st b d us t l = reading-closes st begun fs (b ++ t ∷ []) d us t l

bounds-closes : (o : Option Trees) (begun : Begun) (f : Frame) (st : Expressions.State) (b : List Lexeme) (d : ℕ) (us : List UnitTree) (t : Lexeme) → Last t.kind → OnlyClosed (bounds_step o begun f st b d us t)
bounds-closes (Some xs) begun f st b d us t l = part-closes [] begun (frame (after_bounds f.wait) xs (f.read ++ b)) d us t l
bounds-closes None begun f st b d us t l = subst (λ o. OnlyClosed (reading_bounds o begun f (b ++ t ∷ []) d us)) (sym (last-refused st t l)) tt

focus-closes : (focus : Focus) (d : ℕ) (us : List UnitTree) (t : Lexeme) → Last t.kind → OnlyClosed (focus_step focus d us t)
focus-closes (Stands due names) d us t l = due_moved-closes (due_move due t) (due-stays due t.kind l t.span t.line t.col) names d us t l
focus-closes (Declared xs) d us t l = declared-closes xs d us t l
focus-closes (Part begun f fs) d us t l = part-closes fs begun f d us t l
focus-closes (Expression begun fs st b) d us t l = expression-closes (done_before (Some st) t.kind) begun fs st b d us t l
focus-closes (Bounds begun f st b) d us t l = bounds-closes (bounds_done_before (Some st) t.kind) begun f st b d us t l

last-of : (t : Lexeme) → IsLast t → Last t.kind
last-of t (inl e) = subst Last (sym e) closing
last-of t (inr (inl e)) = subst Last (sym e) ending
last-of t (inr (inr e)) = subst Last (sym e) wrong

goes-closed : (o : Option State) (ts : List Lexeme) → ((s : State) → OnlyClosed (run (Some s) ts)) → OnlyClosed (run o ts)
goes-closed None ts h = subst OnlyClosed (sym (run-nothing ts)) tt
goes-closed (Some s) ts h = h s

run-closes : (ts : List Lexeme) (s : State) → EndsOnce ts → OnlyClosed (run (Some s) ts)
run-closes [] s e = absurd e
run-closes (t ∷ []) s e = focus-closes s.focus s.depth s.units t (last-of t e)
run-closes (t ∷ next ∷ ts) s e = goes-closed (step s t) (next ∷ ts) (λ r. run-closes (next ∷ ts) r e.1)

closed-wholes : {d : ℕ} {us : List UnitTree} {focus : Focus} {p : List Lexeme} → FocusOk d us focus p → focus ≡ Stands Due.Closed [] → Wholes us p
closed-wholes (at_closed w) e = w
closed-wholes at_opening e = cc
closed-wholes (at_word k) e = cc
closed-wholes (at_name q d w o k l) e = cc
closed-wholes (at_dashes q d w o k l m) e = cc
closed-wholes (at_read q d w x o k l m i) e = cc
closed-wholes (at_extends q d w x y c o k l m i j h) e = cc
closed-wholes (at_extended q d w x y ns c v o k l m i j h f) e = cc
closed-wholes (at_unit g) e = cc
closed-wholes (at_line q g k) e = cc
closed-wholes (at_local q g k) e = cc
closed-wholes (at_variable q w c g k h) e = cc
closed-wholes (at_variables q w ns c v g k h f) e = cc
closed-wholes (at_declared q w xs x d b g k h m) e = cc
closed-wholes (at_part q l c g o k h) e = cc
closed-wholes (at_expression q l c g o u h) e = cc
closed-wholes (at_bounds q l g s k m h) e = cc

closing-wholes : (lexemes : List Lexeme) → EndsOnce lexemes → (reached : State) → run (Some opening) lexemes ≡ Some reached → (reached.focus ≡ Stands Due.Closed []) × Wholes reached.units lexemes
closing-wholes lexemes e reached h =
    let c : reached.focus ≡ Stands Due.Closed [] = subst OnlyClosed h (run-closes lexemes opening e) in
    (c, closed-wholes (subst (λ o. GoingOk lexemes o) h (opening-sound lexemes)) c)

-- a list that is read to such an end is accepted
pub accepts-read : (lexemes : List Lexeme) → EndsOnce lexemes → (reached : State) → run (Some opening) lexemes ≡ Some reached → (found : ModuleUnits) × (parse lexemes ≡ Some found)
accepts-read lexemes e reached h =
    let w : (reached.focus ≡ Stands Due.Closed []) × Wholes reached.units lexemes = closing-wholes lexemes e reached h in
    (w.1.0, ap answer h ∙ (ap (λ z. answered z reached.units) w.0 ∙ w.1.1))

-- where the machine refuses
record FirstNone (ts : List Lexeme) (s : State) : Type 0 where
  pub index : ℕ
  pub below : index < length ts
  pub reached : State
  pub reads : run (Some s) (take index ts) ≡ Some reached
  pub refuses : run (Some s) (take (index + 1) ts) ≡ None

take-one : (t : Lexeme) (ts : List Lexeme) (index : ℕ) → take (suc index + 1) (t ∷ ts) ≡ t ∷ take (index + 1) ts
take-one t ts index = let e : suc index + 1 ≡ suc (index + 1) = omega arith in ap (λ z. take z (t ∷ ts)) e

first-none : (ts : List Lexeme) (s : State) → run (Some s) ts ≡ None → FirstNone ts s
first-none [] s e = cc
first-none (t ∷ ts) s e = by (step s t) refl e (λ r h. first-none ts r h)
  where
    by : (o : Option State) → step s t ≡ o → run o ts ≡ None → ((r : State) → run (Some r) ts ≡ None → FirstNone ts r) → FirstNone (t ∷ ts) s
    by None q h f = record { index = 0; below = omega arith; reached = s; reads = refl; refuses = q }
    by (Some r) q h f =
        let k : FirstNone ts r = f r h in
        let l : k.index < length ts = k.below in
        record {
          index = suc k.index;
          below = omega arith;
          reached = k.reached;
          reads = ap (λ z. run z (take k.index ts)) q ∙ k.reads;
          refuses = ap (λ z. run (Some s) z) (take-one t ts k.index) ∙ (ap (λ z. run z (take (k.index + 1) ts)) q ∙ k.refuses);
        }

pub derivable-or-bad : (lexemes : List Lexeme) → EndsOnce lexemes → IsDerivable lexemes ⊎ ((index : ℕ) × (index < length lexemes) × IsFirstBad lexemes index)
derivable-or-bad lexemes e = by (run (Some opening) lexemes) refl
  where
    by : (o : Option State) → run (Some opening) lexemes ≡ o → IsDerivable lexemes ⊎ ((index : ℕ) × (index < length lexemes) × IsFirstBad lexemes index)
    by (Some r) h = let w : (r.focus ≡ Stands Due.Closed []) × Wholes r.units lexemes = closing-wholes lexemes e r h in inl (w.1.0, whole-derives w.1.2)
    by None h = let k : FirstNone lexemes opening = first-none lexemes opening h in inr (k.index, k.below, refused-first lexemes k.index (record { reached = k.reached; reads = k.reads; refuses = k.refuses }))
