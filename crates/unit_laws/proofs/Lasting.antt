-- The closing run, the text's end and a place without a lexeme are read by no expression, and end what is read.
use Rattle.std.proofs.Common.{◌≡◌, ℕ, Bool, true, false, List, [], ◌∷◌, ◌++◌, Option, Some, None, refl, ap, sym, subst, ◌∙◌}
use Rattle.std.specs.Prelude.{cond, nat_lt, option_and_then}
use Rattle.tla_symbols.specs.declared.lexeme.LexKind.{LexKind}
use Rattle.tla_symbols.specs.declared.lexeme.Lexeme.{Lexeme}
use Rattle.tla_symbols.specs.declared.lexeme.Span.{Span}
use Rattle.tla_tree.specs.declared.form.Form.{Form}
use Rattle.tla_tree.specs.Syntax.{Tree}
use Rattle.expr_grammar.specs.declared.wait.Handed.TheVariants as Handed
use Rattle.expr_grammar.specs.declared.wait.Mode.{Mode}
use Rattle.expr_grammar.specs.declared.wait.Wait.{Wait}
use Rattle.expr_grammar.specs.declared.wait.Start.{Start}
use Rattle.expr_grammar.specs.declared.wait.MarkMove.{MarkMove}
use Rattle.expr_grammar.specs.declared.wait.PartMove.{PartMove}
use Rattle.expr_grammar.specs.declared.wait.Shape.{Shape}
use Rattle.expr_grammar.specs.Tables.{mode, begins, list_of, goes_on, role, shape, is_expression, finishes, after_expression, after_part, or_finish, finish_by, at_part, at_mark, endable}
use Rattle.expr_grammar.specs.Machine.{Frame, State, At, Have, inner, node, node_with, operator_step, part_step, moved, is_operator, within, on_bullet, leave, have, ended, begun, marked, step}

-- the three kinds of a last lexeme
pub data Last : LexKind → Type 0 where
  closing : Last LexKind.Close
  ending : Last LexKind.End
  wrong : Last LexKind.Bad

abbrev pub as_lexeme : LexKind → Span → ℕ → ℕ → Lexeme
as_lexeme kind span line col = record { kind = kind; span = span; line = line; col = col }

dead-expression : (w : Wait) (sh : Shape) (k : LexKind) → Last k → (s : Span) (line col : ℕ) → after_expression w sh (as_lexeme k s line col) ≡ PartMove.Refused
dead-expression Wait.Whole sh k closing s line col = refl
dead-expression Wait.BraceFirst Shape.Member k closing s line col = refl
dead-expression Wait.BraceFirst Shape.Member k ending s line col = refl
dead-expression Wait.BraceFirst Shape.Member k wrong s line col = refl
dead-expression (Wait.SquareFirst b) (Shape.Plain n) k closing s line col = refl
dead-expression (Wait.SquareFirst b) Shape.Member k closing s line col = refl
dead-expression (Wait.SquareFirst b) (Shape.Plain n) k ending s line col = refl
dead-expression (Wait.SquareFirst b) Shape.Member k ending s line col = refl
dead-expression (Wait.SquareFirst b) (Shape.Plain n) k wrong s line col = refl
dead-expression (Wait.SquareFirst b) Shape.Member k wrong s line col = refl
dead-expression _ sh k closing s line col = refl
dead-expression _ sh k ending s line col = refl
dead-expression _ sh k wrong s line col = refl

dead-part : (w : Wait) (sh : Shape) (k : LexKind) → Last k → (s : Span) (line col : ℕ) → after_part w sh (as_lexeme k s line col) ≡ PartMove.Refused
dead-part (Wait.Handing Handed.Definition n) Shape.Helper k closing s line col = refl
dead-part (Wait.Handing Handed.Definition n) Shape.Helper k ending s line col = refl
dead-part (Wait.Handing Handed.Definition n) Shape.Helper k wrong s line col = refl
dead-part (Wait.Handing Handed.Segment n) Shape.Helper k closing s line col = refl
dead-part (Wait.Handing Handed.Segment n) Shape.Helper k ending s line col = refl
dead-part (Wait.Handing Handed.Segment n) Shape.Helper k wrong s line col = refl
dead-part _ Shape.Symbol k closing s line col = refl
dead-part _ Shape.Symbol k ending s line col = refl
dead-part _ Shape.Symbol k wrong s line col = refl
dead-part _ _ k closing s line col = refl
dead-part _ _ k ending s line col = refl
dead-part _ _ k wrong s line col = refl

dead-mark : (w : Wait) (k : LexKind) → Last k → (s : Span) (line col : ℕ) → at_mark w (as_lexeme k s line col) ≡ MarkMove.Refused
dead-mark Wait.Whole k closing s line col = refl
dead-mark Wait.Whole k ending s line col = refl
dead-mark Wait.Whole k wrong s line col = refl
dead-mark _ k closing s line col = refl
dead-mark _ k ending s line col = refl
dead-mark _ k wrong s line col = refl

-- no frame goes on with such a lexeme
data Stays : PartMove → Type 0 where
  refuses : Stays PartMove.Refused
  finishes_first : {form : Form} → Stays (PartMove.Finish form)

stays-by : (o : Option Form) → Stays (finish_by o)
stays-by None = refuses
stays-by (Some form) = finishes_first

stays : (w : Wait) (sh : Shape) (t : Lexeme) → Last t.kind → Stays (at_part w sh t)
stays w sh t l = subst Stays (sym (ap (λ m. or_finish m (finishes w sh)) (by (is_expression sh)))) (stays-by (finishes w sh))
  where
    by : (b : Bool) → cond b (after_expression w sh t) (after_part w sh t) ≡ PartMove.Refused
    by true = dead-expression w sh t.kind l t.span t.line t.col
    by false = dead-part w sh t.kind l t.span t.line t.col

moved-none : (m : PartMove) → Stays m → (f : Frame) (fs : List Frame) (e : Tree) (b : List Lexeme) (t : Lexeme) (go : Form → Option State) → ((form : Form) → go form ≡ None) → moved m f fs e b t go ≡ None
moved-none m refuses f fs e b t go h = refl
moved-none m (finishes_first {form = form}) f fs e b t go h = h form

part-none : (fs : List Frame) (e : Tree) (b : List Lexeme) (t : Lexeme) → Last t.kind → part_step fs e b t ≡ None
part-none [] e b t l = refl
part-none (f ∷ fs) e b t l = moved-none (at_part f.wait (shape e) t) (stays f.wait (shape e) t l) f fs e b t _ (λ form. part-none fs (node_with form f e b) (f.read ++ b) t l)

last-mark : (k : LexKind) → Last k → is_operator (role k) ≡ false
last-mark k closing = refl
last-mark k ending = refl
last-mark k wrong = refl

last-bullet : (first t : Lexeme) → Last t.kind → goes_on first t ≡ false
last-bullet first t l = by t.kind l t.span t.line t.col
  where
    by : (k : LexKind) → Last k → (s : Span) (line col : ℕ) → goes_on first (as_lexeme k s line col) ≡ false
    by k closing s line col = refl
    by k ending s line col = refl
    by k wrong s line col = refl

within-none : (fs : List Frame) (e : Tree) (b : List Lexeme) (t : Lexeme) → Last t.kind → within fs e b t ≡ None
within-none fs e b t l = ap (λ z. cond z (operator_step fs e b t) (part_step fs e b t)) (last-mark t.kind l) ∙ part-none fs e b t l

pub either-none : (c : Bool) (m n : Option State) → m ≡ None → n ≡ None → cond c m n ≡ None
either-none true m n h k = h
either-none false m n h k = k

on-form-none : (o : Option Form) (go : Form → Option State) → ((form : Form) → go form ≡ None) → option_and_then go o ≡ None
on-form-none None go h = refl
on-form-none (Some form) go h = h form

on-bullet-none : (o : Option Lexeme) (f : Frame) (fs : List Frame) (e : Tree) (b : List Lexeme) (t : Lexeme) (out : Option State) → Last t.kind → out ≡ None → on_bullet o f fs e b t out ≡ None
on-bullet-none None f fs e b t out l h = h
on-bullet-none (Some first) f fs e b t out l h = (let z : goes_on first t ≡ false = last-bullet first t l in either-false _ _ z)
  where
    either-false : (m : Option State) (c : Bool) → c ≡ false → cond c m out ≡ None
    either-false m c z = ap (λ c. cond c m out) z ∙ h

leave-none : (fs : List Frame) (e : Tree) (b : List Lexeme) (t : Lexeme) → Last t.kind → leave fs e b t ≡ None
leave-none [] e b t l = refl
leave-none (f ∷ fs) e b t l =
    on-bullet-none (cond (is_expression (shape e)) (list_of f.wait) None) f fs e b t _ l
    (on-form-none (finishes f.wait (shape e)) _ (λ form. either-none (nat_lt t.col (inner fs)) _ _ (leave-none fs (node_with form f e b) (f.read ++ b) t l) (within-none fs (node_with form f e b) (f.read ++ b) t l)))

have-none : (fs : List Frame) (e : Tree) (b : List Lexeme) (t : Lexeme) → Last t.kind → have fs e b t ≡ None
have-none fs e b t l = either-none (nat_lt t.col (inner fs)) _ _ (leave-none fs e b t l) (within-none fs e b t l)

ended-none : (o : Option Form) (f : Frame) (fs : List Frame) (t : Lexeme) → Last t.kind → ended o f fs t ≡ None
ended-none o f fs t l = on-form-none o _ (λ form. have-none fs (node form f) f.read t l)

last-begins : (m : Mode) (t : Lexeme) → Last t.kind → begins m t ≡ Start.NoStart
last-begins m t l = by m t.kind l t.span t.line t.col
  where
    by : (m : Mode) (k : LexKind) → Last k → (s : Span) (line col : ℕ) → begins m (as_lexeme k s line col) ≡ Start.NoStart
    by Mode.Operand k closing s line col = refl
    by Mode.Operand k ending s line col = refl
    by Mode.Operand k wrong s line col = refl
    by Mode.Subscript k closing s line col = refl
    by Mode.Subscript k ending s line col = refl
    by Mode.Subscript k wrong s line col = refl
    by Mode.Marks k l s line col = refl
    by Mode.Child k l s line col = refl

-- the machine for expressions reads no such lexeme
pub last-refused : (st : State) (t : Lexeme) → Last t.kind → step st t ≡ None
last-refused (At []) t l = refl
last-refused (At (f ∷ fs)) t l =
    let m : marked (at_mark f.wait t) f fs t ≡ None = ap (λ z. marked z f fs t) (dead-mark f.wait t.kind l t.span t.line t.col) ∙ ended-none (endable f.wait (Some t.kind)) f fs t l in
    either-none (nat_lt t.col (inner (f ∷ fs))) _ _ (ended-none (endable f.wait (Some t.kind)) f fs t l) (ap (λ z. begun z f fs t) (last-begins (mode f.wait) t l) ∙ m)
last-refused (Have fs e b) t l = have-none fs e b t l
