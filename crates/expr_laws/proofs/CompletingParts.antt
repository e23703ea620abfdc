-- Lexemes that complete the frames round a part.
--
-- All of them stand right of each list's bullet. Numbers are the operands, since they end at once.
use Rattle.std.proofs.Common.{◌≡◌, ℕ, ◌≤◌, Bool, true, false, List, [], ◌∷◌, ◌++◌, Option, Some, None, refl, ap, sym, subst, ◌∙◌, arith}
use Rattle.tla_symbols.specs.declared.lexeme.LexKind.{LexKind}
use Rattle.tla_symbols.specs.declared.lexeme.Word.{Word}
use Rattle.tla_symbols.specs.declared.lexeme.Mark.{Mark}
use Rattle.tla_symbols.specs.declared.lexeme.Lexeme.{Lexeme}
use Rattle.tla_tree.specs.declared.form.Form.{Form}
use Rattle.tla_tree.specs.Syntax.{Tree, Trees, Nil, trees}
use Rattle.tla_tree.specs.Lexemes.{place, built}
use Rattle.expr_grammar.specs.declared.wait.Mode.TheVariants as Mode
use Rattle.expr_grammar.specs.declared.wait.Wait.{Wait}
use Rattle.expr_grammar.specs.declared.wait.PartMove.{PartMove}
use Rattle.expr_grammar.specs.declared.wait.Conversion.{Conversion}
use Rattle.expr_grammar.specs.declared.wait.Shape.{Shape}
use Rattle.expr_grammar.specs.Tables.{mode, begins, endable, absorbs, role, shape, is_expression, converted, finishes, at_part}
use Rattle.expr_grammar.specs.Machine.{Frame, frame, State, At, Have, inner, ready, complete, absorbed, node, node_with, moved, part_step, is_operator, begun, step, run, finish, finish_bounds}
use Rattle.expr_laws.proofs.Tabled.{by_mark}
use Rattle.expr_laws.proofs.Completeness.{left-false, have-within, ends-round}
use Rattle.expr_laws.proofs.CompletingKinds.{Kind, Goal, bottom, makes, wanted, meets, shows, rough, shows-form, bottom-shows}
use Rattle.expr_laws.proofs.CompletingStates.{Under}

-- a lexeme of a completion
abbrev pub lexeme : LexKind → ℕ → Lexeme
lexeme kind column = record { kind = kind; span = record { start = 0; end = 0 }; line = 0; col = column }

-- at the end of the list the machine answers
abbrev pub Answers : Goal → Option State → Type 0
Answers Goal.ForExpression o = (tree : Tree) × (finish o ≡ Some tree)
Answers Goal.ForBounds o = (bounds : Trees) × (finish_bounds o ≡ Some bounds)

pub record Completion (goal : Goal) (st : State) : Type 0 where
  pub rest : List Lexeme
  pub answers : Answers goal (run (Some st) rest)

-- marks and words that end each part which may end
abbrev pub closes : LexKind → Bool
closes (LexKind.Mark Mark.LeftParen) = true
closes (LexKind.Mark Mark.RightParen) = true
closes (LexKind.Mark Mark.RightBracket) = true
closes (LexKind.Mark Mark.RightBrace) = true
closes (LexKind.Mark Mark.RightAngle) = true
closes (LexKind.Mark Mark.Colon) = true
closes (LexKind.Mark Mark.Arrow) = true
closes (LexKind.Mark Mark.MapsTo) = true
closes (LexKind.Word Word.Then) = true
closes (LexKind.Word Word.Else) = true
closes (LexKind.Word Word.In) = true
closes _ = false

abbrev pub BeginsClosing : ℕ → List Lexeme → Type 0
BeginsClosing c [] = Unit {0}
BeginsClosing c (t ∷ rest) = (closes t.kind ≡ true) × (c ≤ t.col)

-- a completion that is empty or begins with such a mark
pub record Closing (goal : Goal) (c : ℕ) (st : State) : Type 0 where
  pub all : Completion goal st
  pub first : BeginsClosing c all.rest

-- a part of the kind on these frames has a completion; a step of a path belongs to it at once
abbrev pub Lands : Goal → Kind → ℕ → List Frame → Tree → List Lexeme → Type 0
Lands goal Kind.Step c fs e b = Completion goal (complete fs e b)
Lands goal _ c fs e b = Closing goal c (Have fs e b)

pub record Room (goal : Goal) (c : ℕ) (fs : List Frame) (k : Kind) : Type 0 where
  pub low : inner fs ≤ c
  pub under : Under goal fs k
  pub takes : (e : Tree) (b : List Lexeme) → shows k (shape e) ≡ true → Lands goal k c fs e b

-- kinds of parts that are neither a whole nor a step
abbrev pub is_usual : Kind → Bool
is_usual Kind.Whole = false
is_usual Kind.WholeBounds = false
is_usual Kind.Step = false
is_usual _ = true

bottom-unusual : (goal : Goal) → is_usual (bottom goal) ≡ true → ⊥
bottom-unusual Goal.ForExpression h = cc
bottom-unusual Goal.ForBounds h = cc

pub usual-lands : {goal : Goal} (k : Kind) (c : ℕ) (fs : List Frame) (e : Tree) (b : List Lexeme) → is_usual k ≡ true → Lands goal k c fs e b → Closing goal c (Have fs e b)
usual-lands Kind.Whole c fs e b h l = cc
usual-lands Kind.WholeBounds c fs e b h l = cc
usual-lands Kind.Step c fs e b h l = cc
usual-lands _ c fs e b h l = l

closes-mark : (k : LexKind) → closes k ≡ true → is_operator (role k) ≡ false
closes-mark (LexKind.Mark Mark.Dot) h = cc
closes-mark (LexKind.Mark Mark.LeftBracket) h = cc
closes-mark (LexKind.Sym op) h = cc
closes-mark _ h = refl

no-step : (w : Wait) (k : Kind) → meets (wanted w) k ≡ true → meets Kind.Step k ≡ false → absorbs w ≡ None
no-step Wait.StepFirst k h n = cc
no-step Wait.StepNext k h n = cc
no-step _ k h n = refl

pub lands-complete : {goal : Goal} (k : Kind) (c : ℕ) (fs : List Frame) (e : Tree) (b : List Lexeme) → Under goal fs k → Lands goal k c fs e b → Completion goal (complete fs e b)
lands-complete Kind.Step c fs e b u l = l
lands-complete {goal} k c [] e b u l = usual-all k l u
  where
    usual-all : (k : Kind) → Lands goal k c [] e b → k ≡ bottom goal → Completion goal (Have [] e b)
    usual-all Kind.Step l u = absurd (bottom-shows goal Shape.Helper (subst (λ k. shows k Shape.Helper ≡ true) u refl))
    usual-all _ l u = l.all
lands-complete {goal} k c (f ∷ fs) e b u l = by-kind k u.0 l
  where
    by-kind : (k : Kind) → meets (wanted f.wait) k ≡ true → Lands goal k c (f ∷ fs) e b → Completion goal (absorbed (absorbs f.wait) f fs e b)
    by-kind Kind.Step m l = l
    by-kind _ m l = rw (no-step f.wait _ m refl) l.all

-- a part closes what it belongs to, and the frames below take that
pub closed : {goal : Goal} {c : ℕ} {fs : List Frame} {k : Kind} (form : Form) (xs : Trees) (a : List Lexeme) → Room goal c fs k → shows k (rough form) ≡ true → Completion goal (complete fs (built form xs a) a)
closed {c = c} {fs = fs} {k = k} form xs a r h = lands-complete k c fs (built form xs a) a r.under (r.takes (built form xs a) a (shows-form k form (place a) xs ∙ h))

abbrev pub first : {goal : Goal} {st st' : State} (t : Lexeme) → step st t ≡ Some st' → Completion goal st' → Completion goal st
first {goal} t e k = record { rest = t ∷ k.rest; answers = subst (λ o. Answers goal (run o k.rest)) (sym e) k.answers }

have-moved : (w : Wait) (ps : List Tree) (a : List Lexeme) (fs : List Frame) (e : Tree) (b : List Lexeme) (t : Lexeme) (m : PartMove) → inner (frame w ps a ∷ fs) ≤ t.col → closes t.kind ≡ true → at_part w (shape e) t ≡ m → step (Have (frame w ps a ∷ fs) e b) t ≡ moved m (frame w ps a) fs e b t (λ form. part_step fs (node_with form (frame w ps a) e b) (a ++ b) t)
have-moved w ps a fs e b t m i h q = have-within (frame w ps a ∷ fs) e b t i ∙ rw (closes-mark t.kind h, q)

-- a mark ends the frame
pub ends_with_mark : {goal : Goal} {c : ℕ} {w : Wait} {ps : List Tree} {a : List Lexeme} {fs : List Frame} {e : Tree} {b : List Lexeme} (kind : LexKind) (form : Form) (cv : Conversion) → Room goal c fs (makes w) → inner (frame w ps a ∷ fs) ≤ c → closes kind ≡ true → at_part w (shape e) (lexeme kind c) ≡ PartMove.Done form cv → shows (makes w) (rough form) ≡ true → Closing goal c (Have (frame w ps a ∷ fs) e b)
ends_with_mark {c = c} {w = w} {ps} {a} {fs} {e} {b} kind form cv r i h q s = record {
  all = first (lexeme kind c) (have-moved w ps a fs e b (lexeme kind c) (PartMove.Done form cv) i h q) (closed form (trees (ps ++ converted cv e b)) (a ++ (b ++ lexeme kind c ∷ [])) r s);
  first = (h, omega arith);
}

-- a mark goes on with the frame
pub goes_with_mark : {goal : Goal} {c : ℕ} {w : Wait} {ps : List Tree} {a : List Lexeme} {fs : List Frame} {e : Tree} {b : List Lexeme} (kind : LexKind) (v : Wait) (cv : Conversion) → inner (frame w ps a ∷ fs) ≤ c → closes kind ≡ true → at_part w (shape e) (lexeme kind c) ≡ PartMove.Goes v cv → Completion goal (ready (frame v (ps ++ converted cv e b) (a ++ (b ++ lexeme kind c ∷ [])) ∷ fs)) → Closing goal c (Have (frame w ps a ∷ fs) e b)
goes_with_mark {c = c} {w = w} {ps} {a} {fs} {e} {b} kind v cv i h q k = record {
  all = first (lexeme kind c) (have-moved w ps a fs e b (lexeme kind c) (PartMove.Goes v cv) i h q) k;
  first = (h, omega arith);
}

-- a mark moves the frame that is due
pub marks : {goal : Goal} {c : ℕ} {w : Wait} {ps : List Tree} {a : List Lexeme} {fs : List Frame} {st : State} (kind : LexKind) → inner (frame w ps a ∷ fs) ≤ c → begun (begins (mode w) (lexeme kind c)) (frame w ps a) fs (lexeme kind c) ≡ Some st → Completion goal st → Completion goal (At (frame w ps a ∷ fs))
marks {c = c} {w = w} {ps} {a} {fs} kind i q k = first (lexeme kind c) (rw (left-false c (inner (frame w ps a ∷ fs)) i) q) k

-- a number is the operand that is due
pub operand : {goal : Goal} {c : ℕ} {w : Wait} {ps : List Tree} {a : List Lexeme} {fs : List Frame} → mode w ≡ Mode.Operand → inner (frame w ps a ∷ fs) ≤ c → ((e : Tree) (b : List Lexeme) → is_expression (shape e) ≡ true → Closing goal c (Have (frame w ps a ∷ fs) e b)) → Completion goal (At (frame w ps a ∷ fs))
operand {c = c} {w = w} {ps} {a} {fs} m i k =
    let t : Lexeme = lexeme LexKind.Number c in
    let s : step (At (frame w ps a ∷ fs)) t ≡ Some (Have (frame w ps a ∷ fs) (built (Form.Number t) Nil (t ∷ [])) (t ∷ [])) = rw (left-false c (inner (frame w ps a ∷ fs)) i, m) in
    first t s (k _ _ refl).all

-- at the end a frame that may end answers as what is below it does
answers-round : (goal : Goal) (w : Wait) (ps : List Tree) (a : List Lexeme) (e : Tree) (b : List Lexeme) (form : Form) (g : Frame) (gs : List Frame) → finishes w (shape e) ≡ Some form → Answers goal (Some (Have (g ∷ gs) (node_with form (frame w ps a) e b) (a ++ b))) → Answers goal (Some (Have (frame w ps a ∷ g ∷ gs) e b))
answers-round Goal.ForExpression w ps a e b form g gs q k = (k.0, rw q k.1)
answers-round Goal.ForBounds w ps a e b form g gs q k = (k.0, rw q k.1)

pub answers-head : (goal : Goal) (w : Wait) (ps : List Tree) (a : List Lexeme) (form : Form) (fs : List Frame) → endable w None ≡ Some form → Answers goal (Some (Have fs (node form (frame w ps a)) a)) → Answers goal (Some (At (frame w ps a ∷ fs)))
answers-head Goal.ForExpression w ps a form fs q k = (k.0, rw q k.1)
answers-head Goal.ForBounds w ps a form fs q k = (k.0, rw q k.1)

-- a frame that ends round its part needs nothing
pub ends_alone : {goal : Goal} {c : ℕ} {w : Wait} {ps : List Tree} {a : List Lexeme} {fs : List Frame} {e : Tree} {b : List Lexeme} (form : Form) → Room goal c fs (makes w) → inner (frame w ps a ∷ fs) ≤ c → is_usual (makes w) ≡ true → shows (makes w) (rough form) ≡ true → finishes w (shape e) ≡ Some form → ((t : Lexeme) → closes t.kind ≡ true → at_part w (shape e) t ≡ PartMove.Finish form) → Closing goal c (Have (frame w ps a ∷ fs) e b)
ends_alone {goal} {c} {w} {ps} {a} {fs} {e} {b} form r i u s f p = by-frames fs i (r.under) (usual-lands (makes w) c fs _ _ u (r.takes (node_with form (frame w ps a) e b) (a ++ b) (shows-form (makes w) form (place (a ++ b)) (trees (ps ++ e ∷ [])) ∙ s)))
  where
    by-rest : (g : Frame) (gs : List Frame) (rest : List Lexeme) → inner (frame w ps a ∷ g ∷ gs) ≤ c → Answers goal (run (Some (Have (g ∷ gs) (node_with form (frame w ps a) e b) (a ++ b))) rest) → BeginsClosing c rest → Closing goal c (Have (frame w ps a ∷ g ∷ gs) e b)
    by-rest g gs [] i k l = record { all = record { rest = []; answers = answers-round goal w ps a e b form g gs f k }; first = tt }
    by-rest g gs (t ∷ rest) i k l =
        let j : inner (frame w ps a ∷ g ∷ gs) ≤ t.col = omega (arith, i, l.1) in
        let q : step (Have (frame w ps a ∷ g ∷ gs) e b) t ≡ step (Have (g ∷ gs) (node_with form (frame w ps a) e b) (a ++ b)) t = ends-round w ps a e b form (g ∷ gs) t (by_mark j (closes-mark t.kind l.0) (p t l.0)) in
        record { all = record { rest = t ∷ rest; answers = subst (λ o. Answers goal (run o rest)) (sym q) k }; first = l }

    by-frames : (fs : List Frame) → inner (frame w ps a ∷ fs) ≤ c → Under goal fs (makes w) → Closing goal c (Have fs (node_with form (frame w ps a) e b) (a ++ b)) → Closing goal c (Have (frame w ps a ∷ fs) e b)
    by-frames [] i v k = absurd (bottom-unusual goal (ap is_usual (sym v) ∙ u))
    by-frames (g ∷ gs) i v k = by-rest g gs k.all.rest i k.all.answers k.first
