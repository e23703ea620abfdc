-- Identifiers, bullets and arms before what follows them.
use Rattle.std.proofs.Common.{◌≡◌, ℕ, suc, ◌+◌, ◌<◌, ◌≤◌, ◌⊎◌, inl, inr, Bool, true, false, List, [], ◌∷◌, ◌++◌, Option, Some, None, refl, subst, ◌∙◌, append_assoc, arith}
use Rattle.std.specs.Prelude.{cond, nat_lt, nat_eq, max, IsTrue, is_some, ◌||◌}
use Rattle.std.proofs.lemmas.Bool.Decides.{nat_tests}
use Rattle.tla_symbols.specs.declared.op.Op.{Op}
use Rattle.tla_symbols.specs.declared.place.Fix.{Fix}
use Rattle.tla_symbols.specs.declared.lexeme.LexKind.{LexKind}
use Rattle.tla_symbols.specs.declared.lexeme.Mark.{Mark}
use Rattle.tla_symbols.specs.declared.lexeme.Lexeme.{Lexeme}
use Rattle.tla_symbols.specs.Symbols.{range_of}
use Rattle.tla_tree.specs.declared.form.Form.{Form}
use Rattle.tla_tree.specs.Syntax.{Tree, Trees, trees}
use Rattle.tla_tree.specs.Edges.{Edge, Open, AllJoin}
use Rattle.tla_tree.specs.Alignment.{IsBullet, GoesOn, takes_left, MayFollow, MayFollowArms}
use Rattle.tla_tree.specs.Shapes.{HasNoPart, AreBareSegments}
use Rattle.tla_tree.specs.Lexemes.{IsName, built, one, joined}
use Rattle.tla_tree.specs.Derivation.{DerivesSegments, last_segment, more_segments, bare, applied, DerivesArguments, last_argument, more_arguments}
use Rattle.expr_grammar.specs.declared.wait.Handed.TheVariants as Handed
use Rattle.expr_grammar.specs.declared.wait.Wait.{Wait}
use Rattle.expr_grammar.specs.declared.wait.Mode.TheVariants as Mode
use Rattle.expr_grammar.specs.declared.wait.Start.{Start}
use Rattle.expr_grammar.specs.declared.wait.PartMove.{PartMove}
use Rattle.expr_grammar.specs.declared.wait.Role.{Role}
use Rattle.expr_grammar.specs.declared.wait.Shape.{Shape}
use Rattle.expr_grammar.specs.Kinds.{is_left_paren, is_bang, is_always}
use Rattle.expr_grammar.specs.Tables.{mode, handed, list_of, is_junction, is_bullet, same_junction, goes_on, begins, role_of, role, edge_of, shape, is_expression, ends_with, finishes, after_expression}
use Rattle.expr_grammar.specs.Machine.{inside, is_operator}
use Rattle.expr_laws.proofs.Tabled.{IsNoBullet, Ends, at_end, by_column, by_mark, by_operator, EndsHead, head_at_end, head_by_column, head_by_mark, Part, headed, finished, Begun, pushed_hand, fresh_child, shifted, leafed}
use Rattle.expr_laws.proofs.Asking.{continues, Follows, not-open}
use Rattle.expr_laws.proofs.Starting.{start-at, trees-snoc, joined-snoc, renamed, segment-leaf}

-- a name does not go on before this lexeme
abbrev pub NoParen : Option Lexeme → Type 0
NoParen None = Unit {0}
NoParen (Some n) = is_left_paren n.kind ≡ false

abbrev pub NoMore : Option Lexeme → Type 0
NoMore None = Unit {0}
NoMore (Some n) = continues n.kind ≡ false

pub no-paren : (k : LexKind) → continues k ≡ false → is_left_paren k ≡ false
no-paren (LexKind.Mark Mark.LeftParen) h = cc
no-paren _ h = refl

pub no-bang : (k : LexKind) → continues k ≡ false → is_bang k ≡ false
no-bang (LexKind.Mark Mark.Bang) h = cc
no-bang _ h = refl

abbrev pub NoBang : Option Lexeme → Type 0
NoBang None = Unit {0}
NoBang (Some n) = is_bang n.kind ≡ false

-- of a subscript less is asked
abbrev pub FollowsIn : Bool → ℕ → List Edge → Option Lexeme → Type 0
FollowsIn true i qs o = Follows i qs o
FollowsIn false i qs o = NoBang o

pub follows-no-bang : (i : ℕ) (qs : List Edge) (o : Option Lexeme) → Follows i qs o → NoBang o
follows-no-bang i qs None f = tt
follows-no-bang i qs (Some n) f = no-bang n.kind f.0

pub follows-no-more : (i : ℕ) (qs : List Edge) (o : Option Lexeme) → Follows i qs o → NoMore o
follows-no-more i qs None f = tt
follows-no-more i qs (Some n) f = f.0

pub more-paren : (o : Option Lexeme) → NoMore o → NoParen o
more-paren None f = tt
more-paren (Some n) f = no-paren n.kind f

pub segment-ends : (n : Lexeme) (i : ℕ) (o : Option Lexeme) → NoParen o → EndsHead (Wait.SegmentName n) i (Form.Segment n) o
segment-ends n i None f = head_at_end refl
segment-ends n i (Some t) f = by-column (nat_lt t.col i) refl
  where
    by-column : (b : Bool) → nat_lt t.col i ≡ b → EndsHead (Wait.SegmentName n) i (Form.Segment n) (Some t)
    by-column true k = head_by_column refl (grind (arith, nat_tests))
    by-column false k = head_by_mark (grind (arith, nat_tests)) refl (rw f) refl

pub subpath-ends : (i : ℕ) (o : Option Lexeme) → NoBang o → EndsHead Wait.SubscriptRead i Form.Identifier o
subpath-ends i None f = head_at_end refl
subpath-ends i (Some t) f = by-column (nat_lt t.col i) refl
  where
    by-column : (b : Bool) → nat_lt t.col i ≡ b → EndsHead Wait.SubscriptRead i Form.Identifier (Some t)
    by-column true k = head_by_column refl (grind (arith, nat_tests))
    by-column false k = head_by_mark (grind (arith, nat_tests)) refl (rw f) refl

pub path-ends : (n : Lexeme) (x : Tree) (i : ℕ) (o : Option Lexeme) → shape x ≡ Shape.Helper → NoMore o → Ends (Wait.Handing Handed.Segment n) x i Form.Identifier o
path-ends n x i None e f = at_end (rw e)
path-ends n x i (Some t) e f = by-column (nat_lt t.col i) (is_operator (role t.kind)) refl refl
  where
    by-column : (b c : Bool) → nat_lt t.col i ≡ b → is_operator (role t.kind) ≡ c → Ends (Wait.Handing Handed.Segment n) x i Form.Identifier (Some t)
    by-column true c k l = by_column (rw e) (grind (arith, nat_tests)) tt
    by-column false true k l = by_operator (grind (arith, nat_tests)) l refl refl (rw e)
    by-column false false k l = let z : is_bang t.kind ≡ false = no-bang t.kind f in by_mark (grind (arith, nat_tests)) l (rw (e, z))

abbrev pub name-identifier : Lexeme → Tree
name-identifier n = built Form.Identifier (one (segment-leaf n)) (n ∷ [])

-- a segment under the wait that holds its name
pub record SegmentRead (x : Tree) (a : List Lexeme) (i : ℕ) (o : Option Lexeme) : Type 0 where
  pub n : Lexeme
  pub name : IsName n
  pub part : Part (Wait.Handing Handed.Segment n) x a i o
  pub helps : shape x ≡ Shape.Helper

pub bare-segment : (n : Lexeme) (i : ℕ) (o : Option Lexeme) → NoParen o → Part (Wait.Handing Handed.Segment n) (segment-leaf n) (n ∷ []) i o
bare-segment n i o f = headed (Form.Segment n) (fresh_child (handed Handed.Segment n) refl) (segment-ends n i o f)

pub name-part : (n : Lexeme) → IsName n → (w : Wait) (i : ℕ) (o : Option Lexeme) → mode w ≡ Mode.Operand → NoMore o → Part w (name-identifier n) (n ∷ []) i o
name-part n k w i o h f =
    finished Form.Identifier (pushed_hand n Handed.Segment (start-at w n _ h k)) (bare-segment n i o (more-paren o f)) tt refl (path-ends n (segment-leaf n) i o refl f)

pub subscript-segment : (w : Wait) (n : Lexeme) → mode w ≡ Mode.Subscript → IsName n → begins (mode w) n ≡ Start.PushLeaf (Form.Segment n) Wait.SubscriptRead
subscript-segment w n h e = rw (h, e)

pub arguments-there : {xs : Trees} {a : List Lexeme} {i : ℕ} {o : Option Lexeme} → DerivesArguments xs a i o → HasNoPart xs → ⊥
arguments-there (last_argument d) h = h
arguments-there (more_arguments t k d d') h = h

-- a path without arguments, as a subscript
pub subpath : {xs : Trees} {a : List Lexeme} {i : ℕ} → DerivesSegments xs a i → AreBareSegments xs → (w : Wait) (ps : List Tree) (c : List Lexeme) (o : Option Lexeme) → NoBang o → ((n : Lexeme) → IsName n → Begun w Wait.SubscriptRead (ps ++ segment-leaf n ∷ []) (c ++ n ∷ []) i) → Part w (built Form.Identifier (joined (trees ps) xs) (c ++ a)) (c ++ a) i o
subpath {i = i} (last_segment (bare {n = n} k)) b w ps c o f start =
    renamed _ _ _ _ _ (trees-snoc ps (segment-leaf n)) refl (headed Form.Identifier (start n k) (subpath-ends i o f))
subpath (last_segment (applied t u k l m d)) b w ps c o f start = absurd (arguments-there d b.0)
subpath {i = i} (more_segments {x = x} {xs = xs} {a = a} {b = a'} t e (bare {n = n} k) d) b w ps c o f start =
    let p : Begun w Wait.SubscriptBang (ps ++ segment-leaf n ∷ []) ((c ++ n ∷ []) ++ t ∷ []) i = shifted t (start n k) refl (rw e) refl refl in
    renamed _ _ _ _ _ (joined-snoc ps (segment-leaf n) xs) (simp append_assoc)
    (subpath d b.1 w (ps ++ segment-leaf n ∷ []) ((c ++ n ∷ []) ++ t ∷ []) o f (λ m e'. leafed m (Form.Segment m) p refl (rw e') refl refl))
subpath (more_segments t e (applied t' u k l m d) d') b w ps c o f start = absurd (arguments-there d b.0)

-- bullets
pub bullet-true : (t : Lexeme) → IsBullet t → is_bullet t ≡ true
bullet-true t (inl k, e) = rw (k, e) (grind (arith, nat_tests))
bullet-true t (inr k, e) = rw (k, e) (grind (arith, nat_tests))

pub bullet-start : (w : Wait) (t : Lexeme) → mode w ≡ Mode.Operand → IsBullet t → begins (mode w) t ≡ Start.Push (Wait.ListFirst t)
bullet-start w t h (inl k, e) = let b : is_bullet t ≡ true = bullet-true t (inl k, e) in start-at w t _ h k ∙ rw b
bullet-start w t h (inr k, e) = let b : is_bullet t ≡ true = bullet-true t (inr k, e) in start-at w t _ h k ∙ rw b

pub same-junction : (t first : Lexeme) → IsBullet t → t.kind ≡ first.kind → same_junction t.kind first.kind ≡ true
same-junction t first (inl k, e) q = rw (← q, k)
same-junction t first (inr k, e) q = rw (← q, k)

pub goes-on : (first t : Lexeme) → GoesOn first t → goes_on first t ≡ true
goes-on first t g =
    let b : is_bullet t ≡ true = bullet-true t g.0 in
    let s : same_junction t.kind first.kind ≡ true = same-junction t first g.0 g.1 in
    rw (b, s, g.2) (grind (arith, nat_tests))

pub true-junction : (a b : LexKind) → same_junction a b ≡ true → a ≡ b
true-junction (LexKind.Sym Op.And) (LexKind.Sym Op.And) h = refl
true-junction (LexKind.Sym Op.Or) (LexKind.Sym Op.Or) h = refl
true-junction _ _ h = cc

pub is-junction : (k : LexKind) → is_junction k ≡ true → (k ≡ LexKind.Sym Op.And) ⊎ (k ≡ LexKind.Sym Op.Or)
is-junction (LexKind.Sym Op.And) h = inl refl
is-junction (LexKind.Sym Op.Or) h = inr refl
is-junction _ h = cc

pub true-bullet : (t : Lexeme) → is_bullet t ≡ true → IsBullet t
true-bullet t h = by (is_junction t.kind) refl h
  where
    by : (b : Bool) → is_junction t.kind ≡ b → cond b (nat_eq t.span.end (t.span.start + 2)) false ≡ true → IsBullet t
    by true e k = (is-junction t.kind e, grind (arith, nat_tests))
    by false e k = cc

pub true-goes-on : (first t : Lexeme) → goes_on first t ≡ true → GoesOn first t
true-goes-on first t h = by (is_bullet t) (same_junction t.kind first.kind) refl refl h
  where
    by : (b c : Bool) → is_bullet t ≡ b → same_junction t.kind first.kind ≡ c → cond b (cond c (nat_eq t.col first.col) false) false ≡ true → GoesOn first t
    by true true e f k = (true-bullet t e, true-junction t.kind first.kind f, grind (arith, nat_tests))
    by true false e f k = cc
    by false c e f k = cc

pub no-goes-on : (first t : Lexeme) → (GoesOn first t → ⊥) → goes_on first t ≡ false
no-goes-on first t n = by (goes_on first t) refl
  where
    by : (b : Bool) → goes_on first t ≡ b → b ≡ false
    by true e = absurd (n (true-goes-on first t e))
    by false e = refl

pub or-or : (op : Op) → is_operator (role_of op) ≡ true → IsTrue (is_some (range_of op Fix.Infix) || is_some (range_of op Fix.Postfix))
or-or op h = by (is_some (range_of op Fix.Infix)) (is_some (range_of op Fix.Postfix)) h
  where
    by : (b c : Bool) → is_operator (cond b (Role.Symbol op Fix.Infix) (cond c (Role.Symbol op Fix.Postfix) Role.Mark)) ≡ true → IsTrue (b || c)
    by true c k = refl
    by false true k = refl
    by false false k = cc

pub operator-takes : (k : LexKind) → is_operator (role k) ≡ true → IsTrue (takes_left k)
operator-takes (LexKind.Sym op) h = or-or op h
operator-takes (LexKind.Mark Mark.LeftBracket) h = refl
operator-takes (LexKind.Mark Mark.Dot) h = refl
operator-takes _ h = cc

-- a list before the lexeme after it
pub list-ends : (v : Wait) (first : Lexeme) (x : Tree) (i : ℕ) (o : Option Lexeme) → list_of v ≡ Some first → ends_with v ≡ Some (Form.JunctionList first) → ((t : Lexeme) → after_expression v (shape x) t ≡ PartMove.Refused) → is_expression (shape x) ≡ true → MayFollow first o → Ends v x i (Form.JunctionList first) o
list-ends v first x i None l e a s f = at_end (rw (s, e))
list-ends v first x i (Some n) l e a s f = by (nat_lt n.col (inside v i)) (is_operator (role n.kind)) refl refl
  where
    finish : finishes v (shape x) ≡ Some (Form.JunctionList first)
    finish = rw (s, e)

    deep : suc first.col ≤ inside v i
    deep = rw l (omega arith)

    no-bullet : (m : Option Lexeme) → m ≡ Some first → IsNoBullet m n
    no-bullet None q = cc
    no-bullet (Some t) q = let z : first ≡ t = cc in subst (λ y. goes_on y n ≡ false) z (no-goes-on first n f.0)

    by : (b c : Bool) → nat_lt n.col (inside v i) ≡ b → is_operator (role n.kind) ≡ c → Ends v x i (Form.JunctionList first) (Some n)
    by true c k r = by_column finish (grind (arith, nat_tests)) (no-bullet (list_of v) l)
    by false true k r =
        let z : n.col ≤ first.col = f.1 (operator-takes n.kind r) in
        let y : inside v i ≤ n.col = grind (arith, nat_tests) in
        absurd (omega (arith, z, y, deep))
    by false false k r = by_mark (grind (arith, nat_tests)) r (rw (s, a n, e))

pub items-deep : (first : Lexeme) (i : ℕ) → i ≤ first.col → suc first.col ≡ max i (suc first.col)
items-deep first i h = omega arith

-- the arms of a CASE before the lexeme after it
pub arms-end : (x : Tree) (i : ℕ) (qs : List Edge) (o : Option Lexeme) → shape x ≡ Shape.Arm → MayFollowArms i o → Follows i (Open ∷ qs) o → Ends Wait.CaseArms x i Form.Case o
arms-end x i qs None e m f = at_end (rw e)
arms-end x i qs (Some n) e m f = by (nat_lt n.col i) (is_operator (role n.kind)) (is_always n.kind) refl refl refl f.1
  where
    always : (k : LexKind) → is_always k ≡ true → k ≡ LexKind.Sym Op.Always
    always (LexKind.Sym Op.Always) h = refl
    always _ h = cc

    by : (b c d : Bool) → nat_lt n.col i ≡ b → is_operator (role n.kind) ≡ c → is_always n.kind ≡ d → (n.col < i) ⊎ (is_operator (role n.kind) ≡ true → AllJoin (edge_of (role n.kind)) (Open ∷ qs)) → Ends Wait.CaseArms x i Form.Case (Some n)
    by true c d k r a h = by_column (rw e) (grind (arith, nat_tests)) tt
    by false c d k r a (inl h) = by_column (rw e) h tt
    by false true d k r a (inr h) = let j : AllJoin (edge_of (role n.kind)) (Open ∷ qs) = h r in absurd (not-open (edge_of (role n.kind)) j.0)
    by false false true k r a (inr h) = by_column (rw e) (m (always n.kind a)) tt
    by false false false k r a (inr h) = by_mark (grind (arith, nat_tests)) r (rw (e, a))

pub other-arm-ends : (x : Tree) (i : ℕ) (qs : List Edge) (o : Option Lexeme) → shape x ≡ Shape.OtherArm → Follows i (Open ∷ qs) o → Ends Wait.CaseArms x i Form.Case o
other-arm-ends x i qs None e f = at_end (rw e)
other-arm-ends x i qs (Some n) e f = by (nat_lt n.col i) (is_operator (role n.kind)) refl refl f.1
  where
    by : (b c : Bool) → nat_lt n.col i ≡ b → is_operator (role n.kind) ≡ c → (n.col < i) ⊎ (is_operator (role n.kind) ≡ true → AllJoin (edge_of (role n.kind)) (Open ∷ qs)) → Ends Wait.CaseArms x i Form.Case (Some n)
    by true c k r h = by_column (rw e) (grind (arith, nat_tests)) tt
    by false c k r (inl h) = by_column (rw e) h tt
    by false true k r (inr h) = let j : AllJoin (edge_of (role n.kind)) (Open ∷ qs) = h r in absurd (not-open (edge_of (role n.kind)) j.0)
    by false false k r (inr h) = by_mark (grind (arith, nat_tests)) r (rw e)
