-- Each frame that is due itself has a completion.
use Rattle.std.proofs.Common.{◌≡◌, ℕ, ◌+◌, ◌≤◌, Bool, true, false, List, [], ◌∷◌, ◌++◌, Option, Some, None, refl, ap, sym, subst, ◌∙◌, arith}
use Rattle.tla_symbols.specs.declared.lexeme.LexKind.{LexKind}
use Rattle.tla_symbols.specs.declared.lexeme.Word.TheVariants as Word
use Rattle.tla_symbols.specs.declared.lexeme.Mark.TheVariants as Mark
use Rattle.tla_symbols.specs.declared.op.Op.TheVariants as Op
use Rattle.tla_symbols.specs.declared.lexeme.Lexeme.{Lexeme}
use Rattle.tla_tree.specs.declared.form.Form.{Form}
use Rattle.tla_tree.specs.Syntax.{Tree, trees}
use Rattle.tla_tree.specs.Lexemes.{place, built}
use Rattle.expr_grammar.specs.declared.wait.Binding.{Binding}
use Rattle.expr_grammar.specs.declared.wait.Handed.TheVariants as Handed
use Rattle.expr_grammar.specs.declared.wait.Wait.{Wait}
use Rattle.expr_grammar.specs.declared.wait.Mode.{Mode}
use Rattle.expr_grammar.specs.declared.wait.Start.{Start}
use Rattle.expr_grammar.specs.declared.wait.MarkMove.{MarkMove}
use Rattle.expr_grammar.specs.declared.wait.Conversion.{Conversion}
use Rattle.expr_grammar.specs.declared.wait.Shape.{Shape}
use Rattle.expr_grammar.specs.Kinds.{is_with}
use Rattle.expr_grammar.specs.Tables.{mode, list_of, begins, at_mark, endable, shape, is_expression, ends_with}
use Rattle.expr_grammar.specs.Machine.{Frame, frame, State, At, Have, inner, complete, node, step, run}
use Rattle.expr_laws.proofs.Tabled.{head_by_mark}
use Rattle.expr_laws.proofs.Completeness.{left-false, outside, ends-head}
use Rattle.expr_laws.proofs.CompletingKinds.{Kind, Goal, binds, makes, wanted, meets, shows, rough, shows-form, meets-shows, meets-no_step, bottom-shows}
use Rattle.expr_laws.proofs.CompletingTables.{to_bound}
use Rattle.expr_laws.proofs.CompletingStates.{Under, is_due, grown}
use Rattle.expr_laws.proofs.CompletingParts.{lexeme, Answers, answers-head, Completion, closes, BeginsClosing, Closing, Lands, Room, is_usual, usual-lands, closed, first, marks}
use Rattle.expr_laws.proofs.CompletingFrames.{ends-round-expression, ends-round-instance, ends_with_body, closes_with_mark, goes-on, closes-no_bang}

-- a frame round a part that it takes
pub part-closes : {goal : Goal} {c : ℕ} (w : Wait) {ps : List Tree} {a : List Lexeme} {fs : List Frame} (e : Tree) {b : List Lexeme} → Room goal c fs (makes w) → inner (frame w ps a ∷ fs) ≤ c → shows (wanted w) (shape e) ≡ true → meets (wanted w) Kind.Step ≡ false → Closing goal c (Have (frame w ps a ∷ fs) e b)
part-closes {goal} {c} w {ps} {a} {fs} e {b} r i s n = by-form (ends_with w) refl
  where
    by-expression : (form : Form) → ends_with w ≡ Some form → (x : Bool) → is_expression (shape e) ≡ x → Closing goal c (Have (frame w ps a ∷ fs) e b)
    by-expression form q true x = ends-round-expression form r i q x
    by-expression form q false x = ends-round-instance r i form q s x

    by-form : (o : Option Form) → ends_with w ≡ o → Closing goal c (Have (frame w ps a ∷ fs) e b)
    by-form None q = goes-on w r i q s n
    by-form (Some form) q = by-expression form q (is_expression (shape e)) refl

step-taken : {goal : Goal} {c : ℕ} (w : Wait) (ps : List Tree) (a : List Lexeme) {fs : List Frame} (e : Tree) (b : List Lexeme) → Room goal c fs (makes w) → inner (frame w ps a ∷ fs) ≤ c → meets (wanted w) Kind.Step ≡ true → Completion goal (complete (frame w ps a ∷ fs) e b)
step-taken Wait.StepFirst ps a e b r i m = marks (LexKind.Sym Op.Equal) i refl (ends_with_body Form.Update r i refl refl)
step-taken Wait.StepNext ps a e b r i m = marks (LexKind.Sym Op.Equal) i refl (ends_with_body Form.Update r i refl refl)
step-taken (Wait.Handing Handed.Segment t) ps a e b r i m = cc
step-taken (Wait.Handing Handed.Definition t) ps a e b r i m = cc
step-taken _ ps a e b r i m = cc

-- a frame on frames that take what it makes takes what it wants
pub above : {goal : Goal} {c : ℕ} {w : Wait} {ps : List Tree} {a : List Lexeme} {fs : List Frame} (k : Kind) → Room goal c fs (makes w) → inner (frame w ps a ∷ fs) ≤ c → meets (wanted w) k ≡ true → Room goal c (frame w ps a ∷ fs) k
above {goal} {c} {w} {ps} {a} {fs} k r i m = record { low = i; under = (m, r.under); takes = λ e b s. by-kind k e b m s }
  where
    by-kind : (k : Kind) (e : Tree) (b : List Lexeme) → meets (wanted w) k ≡ true → shows k (shape e) ≡ true → Lands goal k c (frame w ps a ∷ fs) e b
    by-kind Kind.Step e b m s = step-taken w ps a e b r i m
    by-kind _ e b m s = part-closes w e r i (meets-shows (wanted w) _ (shape e) m s) (meets-no_step (wanted w) _ m refl)

-- each stack that fits takes its part
pub room : {goal : Goal} (c : ℕ) (fs : List Frame) (k : Kind) → inner fs ≤ c → Under goal fs k → Room goal c fs k
room {goal} c [] k i u = record { low = i; under = u; takes = λ e b s. absurd (bottom-shows goal (shape e) (subst (λ k. shows k (shape e) ≡ true) u s)) }
room c (f ∷ fs) k i u =
    let j : inner fs ≤ c = omega (arith, i, outside (list_of f.wait) (inner fs)) in
    above k (room c fs (makes f.wait) j u.1) i u.0

-- a frame that may end before each mark that closes
ends_before : {goal : Goal} {c : ℕ} {w : Wait} {ps : List Tree} {a : List Lexeme} {fs : List Frame} (form : Form) → Room goal c fs (makes w) → inner (frame w ps a ∷ fs) ≤ c → is_usual (makes w) ≡ true → shows (makes w) (rough form) ≡ true → begins (mode w) ≡ (λ t. Start.NoStart) → ((t : Lexeme) → closes t.kind ≡ true → at_mark w t ≡ MarkMove.Refused) → ((k : Option LexKind) → endable w k ≡ Some form) → Completion goal (At (frame w ps a ∷ fs))
ends_before {goal} {c} {w} {ps} {a} {fs} form r i u s m p q = by-closing (usual-lands (makes w) c fs _ _ u (r.takes (node form (frame w ps a)) a (shows-form (makes w) form (place a) (trees ps) ∙ s)))
  where
    by-rest : (rest : List Lexeme) → Answers goal (run (Some (Have fs (node form (frame w ps a)) a)) rest) → BeginsClosing c rest → Completion goal (At (frame w ps a ∷ fs))
    by-rest [] k l = record { rest = []; answers = answers-head goal w ps a form fs (q None) k }
    by-rest (t ∷ rest) k l =
        let j : inner (frame w ps a ∷ fs) ≤ t.col = omega (arith, i, l.1) in
        let e : step (At (frame w ps a ∷ fs)) t ≡ step (Have fs (node form (frame w ps a)) a) t = ends-head w ps a form fs t (head_by_mark j (ap (λ f. f t) m) (p t l.0) (q (Some t.kind))) in
        record { rest = t ∷ rest; answers = subst (λ o. Answers goal (run o rest)) (sym e) k }

    by-closing : Closing goal c (Have fs (node form (frame w ps a)) a) → Completion goal (At (frame w ps a ∷ fs))
    by-closing k = by-rest k.all.rest k.all.answers k.first

closes-no_with : (k : LexKind) → closes k ≡ true → is_with k ≡ false
closes-no_with (LexKind.Word Word.With) h = cc
closes-no_with _ h = refl

-- names without a set end before a colon, which the frame below takes
names-due : {goal : Goal} {c : ℕ} {ps : List Tree} {a : List Lexeme} (fs : List Frame) → inner fs ≤ c → Under goal fs Kind.Names → Completion goal (At (frame (Wait.BindingRead Binding.Names) ps a ∷ fs))
names-due {goal} [] i u = absurd (bottom-shows goal Shape.Names (subst (λ k. shows k Shape.Names ≡ true) u refl))
names-due {goal} {c} {ps} {a} (f ∷ fs) i u = by-wait f.wait i u.0 u.1
  where
    by-wait : (w : Wait) → inner (frame w f.parts f.read ∷ fs) ≤ c → meets (wanted w) Kind.Names ≡ true → Under goal fs (makes w) → Completion goal (At (frame (Wait.BindingRead Binding.Names) ps a ∷ frame w f.parts f.read ∷ fs))
    by-wait (Wait.TemporalFirst t) i m u =
        let colon : Lexeme = lexeme (LexKind.Mark Mark.Colon) c in
        let st : State = At (frame (Wait.TemporalBody t) (f.parts ++ built Form.Names (trees ps) a ∷ []) (f.read ++ (a ++ colon ∷ [])) ∷ fs) in
        let e : step (At (frame (Wait.BindingRead Binding.Names) ps a ∷ frame (Wait.TemporalFirst t) f.parts f.read ∷ fs)) colon ≡ Some st = rw (left-false c (inner fs) i) in
        first colon e (ends_with_body (Form.TemporalQuantifier t) (room c fs Kind.Expression i u) i refl refl)
    by-wait (Wait.Handing Handed.Segment t) i m u = absurd cc
    by-wait (Wait.Handing Handed.Definition t) i m u = absurd cc
    by-wait _ i m u = absurd cc

-- with a set
set-due : {goal : Goal} {c : ℕ} (b : Binding) (fs : List Frame) {ps : List Tree} {a : List Lexeme} → inner fs ≤ c → Under goal fs (binds b) → Completion goal (At (frame (Wait.BindingRead b) ps a ∷ fs))
set-due Binding.Names fs i u = names-due fs i u
set-due Binding.Either fs i u = marks (LexKind.Sym Op.In) i refl (ends_with_body Form.Bound (room _ fs Kind.Bound i (grown _ fs (to_bound refl) u)) i refl refl)
set-due Binding.Bound fs i u = marks (LexKind.Sym Op.In) i refl (ends_with_body Form.Bound (room _ fs Kind.Bound i u) i refl refl)
set-due Binding.One fs i u = marks (LexKind.Sym Op.In) i refl (ends_with_body Form.Bound (room _ fs Kind.Bound i (grown _ fs (to_bound refl) u)) i refl refl)

segment-due : {goal : Goal} {c : ℕ} (n : Lexeme) {ps : List Tree} {a : List Lexeme} {fs : List Frame} → Room goal c fs Kind.Segment → inner fs ≤ c → Completion goal (At (frame (Wait.SegmentName n) ps a ∷ fs))
segment-due n r i = marks (LexKind.Mark Mark.LeftParen) i refl (closes_with_mark (LexKind.Mark Mark.RightParen) (Form.Segment n) Conversion.Keep r i refl refl (λ sh h. rw h) refl)

subscript-due : {goal : Goal} {c : ℕ} {ps : List Tree} {a : List Lexeme} {fs : List Frame} → Room goal c fs Kind.Expression → inner fs ≤ c → Completion goal (At (frame Wait.SubscriptRead ps a ∷ fs))
subscript-due r i = ends_before Form.Identifier r i refl refl refl (λ t h. rw (closes-no_bang t.kind h)) (λ k. refl)

instance-due : {goal : Goal} {c : ℕ} (m : Lexeme) {ps : List Tree} {a : List Lexeme} {fs : List Frame} → Room goal c fs Kind.Instance → inner fs ≤ c → Completion goal (At (frame (Wait.InstanceNamed m) ps a ∷ fs))
instance-due m r i = ends_before (Form.Instance m) r i refl refl refl (λ t h. rw (closes-no_with t.kind h)) (λ k. refl)

-- a mark closes the form
pub closes-due : {goal : Goal} {c : ℕ} {w : Wait} {ps : List Tree} {a : List Lexeme} {fs : List Frame} (kind : LexKind) (form : Form) → Room goal c fs (makes w) → inner (frame w ps a ∷ fs) ≤ c → begins (mode w) (lexeme kind c) ≡ Start.NoStart → at_mark w (lexeme kind c) ≡ MarkMove.Close form → shows (makes w) (rough form) ≡ true → Completion goal (At (frame w ps a ∷ fs))
closes-due {c = c} {w = w} {ps = ps} {a = a} {fs = fs} kind form r i b m s = marks {st = complete fs (built form (trees ps) (a ++ lexeme kind c ∷ [])) (a ++ lexeme kind c ∷ [])} kind i (rw (b, m)) (closed form (trees ps) (a ++ lexeme kind c ∷ []) r s)

record-due : {goal : Goal} {c : ℕ} (n : Lexeme) {ps : List Tree} {a : List Lexeme} {fs : List Frame} → Room goal c fs Kind.Expression → inner fs ≤ c → Completion goal (At (frame (Wait.RecordNamed n) ps a ∷ fs))
record-due {c = c} n r i = marks (LexKind.Mark Mark.MapsTo) i refl (closes_with_mark (LexKind.Mark Mark.RightBracket) Form.Record (Conversion.AsField n (lexeme (LexKind.Mark Mark.MapsTo) c)) r i refl refl (λ sh h. rw h) refl)

record_set-due : {goal : Goal} {c : ℕ} (n : Lexeme) {ps : List Tree} {a : List Lexeme} {fs : List Frame} → Room goal c fs Kind.Expression → inner fs ≤ c → Completion goal (At (frame (Wait.RecordSetNamed n) ps a ∷ fs))
record_set-due {c = c} n r i = marks (LexKind.Mark Mark.Colon) i refl (closes_with_mark (LexKind.Mark Mark.RightBracket) Form.RecordSet (Conversion.AsField n (lexeme (LexKind.Mark Mark.Colon) c)) r i refl refl (λ sh h. rw h) refl)

update-due : {goal : Goal} {c : ℕ} {ps : List Tree} {a : List Lexeme} {fs : List Frame} → Room goal c fs Kind.Update → inner fs ≤ c → Completion goal (At (frame Wait.StepNext ps a ∷ fs))
update-due r i = marks (LexKind.Sym Op.Equal) i refl (ends_with_body Form.Update r i refl refl)

definition-due : {goal : Goal} {c : ℕ} (n : Lexeme) {ps : List Tree} {a : List Lexeme} {fs : List Frame} → Room goal c fs Kind.Definition → inner fs ≤ c → Completion goal (At (frame (Wait.DefinitionName n) ps a ∷ fs))
definition-due n r i = marks (LexKind.Mark Mark.Define) i refl (ends_with_body (Form.OperatorDefinition n) r i refl refl)

places-due : {goal : Goal} {c : ℕ} (n : Lexeme) (places : ℕ) {ps : List Tree} {a : List Lexeme} {fs : List Frame} → Room goal c fs Kind.Parameter → inner fs ≤ c → Completion goal (At (frame (Wait.Places n places) ps a ∷ fs))
places-due n places r i = marks (LexKind.Mark Mark.Underscore) i refl (closes-due (LexKind.Mark Mark.RightParen) (Form.OperatorParameter n (places + 1)) r i refl refl refl)

parameter-due : {goal : Goal} {c : ℕ} (n : Lexeme) {ps : List Tree} {a : List Lexeme} {fs : List Frame} → Room goal c fs Kind.Parameter → inner fs ≤ c → Completion goal (At (frame (Wait.ParameterName n) ps a ∷ fs))
parameter-due n r i = marks (LexKind.Mark Mark.LeftParen) i refl (places-due n 0 r i)

-- a frame that waits for a mark of its own
pub mark-due : {goal : Goal} {c : ℕ} (w : Wait) (ps : List Tree) (a : List Lexeme) {fs : List Frame} → Room goal c fs (makes w) → inner (frame w ps a ∷ fs) ≤ c → is_due w ≡ true → mode w ≡ Mode.Marks → Completion goal (At (frame w ps a ∷ fs))
mark-due (Wait.SegmentName n) ps a r i d m = segment-due n r i
mark-due Wait.IdentifierBang ps a r i d m = marks LexKind.Name i refl (segment-due _ (above Kind.Segment r i refl) i)
mark-due (Wait.ArgumentSymbol n) ps a r i d m = closes-due (LexKind.Mark Mark.RightParen) (Form.Segment n) r i refl refl refl
mark-due Wait.SubscriptRead ps a r i d m = subscript-due r i
mark-due Wait.SubscriptBang ps a r i d m = marks LexKind.Name i refl (subscript-due r i)
mark-due (Wait.BindingStart b) ps a {fs} r i d m = marks LexKind.Name i refl (set-due b fs i r.under)
mark-due (Wait.BindingComma b) ps a {fs} r i d m = marks LexKind.Name i refl (set-due b fs i r.under)
mark-due (Wait.BindingRead b) ps a {fs} r i d m = set-due b fs i r.under
mark-due (Wait.TupleComma b) ps a r i d m = marks LexKind.Name i refl (marks (LexKind.Mark Mark.RightAngle) i refl (marks (LexKind.Sym Op.In) i refl (ends_with_body Form.TupleBound r i refl refl)))
mark-due (Wait.TupleRead b) ps a r i d m = marks (LexKind.Mark Mark.RightAngle) i refl (marks (LexKind.Sym Op.In) i refl (ends_with_body Form.TupleBound r i refl refl))
mark-due (Wait.TupleClosed b) ps a r i d m = marks (LexKind.Sym Op.In) i refl (ends_with_body Form.TupleBound r i refl refl)
mark-due Wait.FieldName ps a r i d m = closes-due LexKind.Name (Form.FieldAccess _) r i refl refl refl
mark-due Wait.RecordNext ps a r i d m = marks LexKind.Name i refl (record-due _ r i)
mark-due (Wait.RecordNamed n) ps a r i d m = record-due n r i
mark-due Wait.RecordSetNext ps a r i d m = marks LexKind.Name i refl (record_set-due _ r i)
mark-due (Wait.RecordSetNamed n) ps a r i d m = record_set-due n r i
mark-due Wait.UpdateBang ps a r i d m = marks (LexKind.Mark Mark.Bang) i refl (marks (LexKind.Mark Mark.Dot) i refl (marks LexKind.Name i refl (update-due r i)))
mark-due Wait.StepFirst ps a r i d m = marks (LexKind.Mark Mark.Dot) i refl (marks LexKind.Name i refl (update-due r i))
mark-due Wait.StepField ps a r i d m = marks LexKind.Name i refl (update-due r i)
mark-due Wait.StepNext ps a r i d m = update-due r i
mark-due Wait.OtherArrow ps a r i d m = marks (LexKind.Mark Mark.Arrow) i refl (ends_with_body Form.OtherArm r i refl refl)
mark-due Wait.LetFirst ps a r i d m = marks LexKind.Name i refl (definition-due _ (above Kind.Definition r i refl) i)
mark-due (Wait.DefinitionName n) ps a r i d m = definition-due n r i
mark-due (Wait.DefinitionDefine n) ps a r i d m = marks (LexKind.Mark Mark.Define) i refl (ends_with_body (Form.OperatorDefinition n) r i refl refl)
mark-due (Wait.PrefixName s) ps a r i d m = marks LexKind.Name i refl (marks (LexKind.Mark Mark.Define) i refl (ends_with_body (Form.PrefixDefinition s) r i refl refl))
mark-due (Wait.PrefixDefine s) ps a r i d m = marks (LexKind.Mark Mark.Define) i refl (ends_with_body (Form.PrefixDefinition s) r i refl refl)
mark-due (Wait.InfixName s) ps a r i d m = marks LexKind.Name i refl (marks (LexKind.Mark Mark.Define) i refl (ends_with_body (Form.InfixDefinition s) r i refl refl))
mark-due (Wait.InfixDefine s) ps a r i d m = marks (LexKind.Mark Mark.Define) i refl (ends_with_body (Form.InfixDefinition s) r i refl refl)
mark-due (Wait.PostfixDefine s) ps a r i d m = marks (LexKind.Mark Mark.Define) i refl (ends_with_body (Form.PostfixDefinition s) r i refl refl)
mark-due (Wait.FunctionHeadDefine n) ps a r i d m = marks (LexKind.Mark Mark.Define) i refl (ends_with_body (Form.FunctionDefinition n) r i refl refl)
mark-due Wait.InstanceModule ps a r i d m = marks LexKind.Name i refl (instance-due _ r i)
mark-due (Wait.InstanceNamed n) ps a r i d m = instance-due n r i
mark-due Wait.ReplacementStart ps a r i d m = marks LexKind.Name i refl (marks (LexKind.Mark Mark.LeftArrow) i refl (ends_with_body (Form.Replacement _) r i refl refl))
mark-due (Wait.ReplacementArrow n) ps a r i d m = marks (LexKind.Mark Mark.LeftArrow) i refl (ends_with_body (Form.Replacement n) r i refl refl)
mark-due (Wait.ReplacementEnd n) ps a r i d m = ends_before (Form.Replacement n) r i refl refl refl (λ t h. refl) (λ k. refl)
mark-due Wait.ParameterStart ps a r i d m = marks LexKind.Name i refl (parameter-due _ r i)
mark-due (Wait.ParameterName n) ps a r i d m = parameter-due n r i
mark-due (Wait.Places n places) ps a r i d m = places-due n places r i
mark-due (Wait.PlacesRead n places) ps a r i d m = closes-due (LexKind.Mark Mark.RightParen) (Form.OperatorParameter n places) r i refl refl refl
mark-due (Wait.PrefixPlace s) ps a r i d m = closes-due (LexKind.Mark Mark.Underscore) (Form.PrefixParameter s) r i refl refl refl
mark-due Wait.SymbolPlace ps a r i d m = closes-due (LexKind.Sym Op.PlusClosure) (Form.PostfixParameter _) r i refl refl refl
mark-due (Wait.InfixPlace s) ps a r i d m = closes-due (LexKind.Mark Mark.Underscore) (Form.InfixParameter s) r i refl refl refl
mark-due _ ps a r i d m = absurd cc
