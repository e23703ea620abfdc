-- The choices against the conditions on edges.
use Rattle.std.proofs.Common.{◌≡◌, ℕ, ◌≤◌, Bool, true, false, List, [], ◌∷◌, refl, ap, sym, ◌∙◌, inl, inr, arith}
use Rattle.std.specs.Prelude.{cond, slice_index_or}
use Rattle.std.proofs.lemmas.Bool.Decides.{nat_tests}
use Rattle.tla_symbols.specs.declared.op.Op.{Op}
use Rattle.tla_symbols.specs.declared.place.Fix.{Fix}
use Rattle.tla_tree.specs.Edges.{Edge, Operator, Open, Applied, Selected, lo, hi, associates, Meets, Joins}
use Rattle.precedence.specs.declared.Choice.TheVariants.{Ends, Waits, Clashes}
use Rattle.precedence.specs.Choices.{op_number, fix_number, same_op, same_edge, meets, joins, choose}

OPS : List Op
OPS =
    Op.Not ∷
    Op.Enabled ∷
    Op.Unchanged ∷
    Op.Always ∷
    Op.Eventually ∷
    Op.PowerSet ∷
    Op.BigUnion ∷
    Op.Domain ∷
    Op.Negative ∷
    Op.Implies ∷
    Op.Equivalent ∷
    Op.PlusArrow ∷
    Op.LeadsTo ∷
    Op.And ∷
    Op.Or ∷
    Op.Equal ∷
    Op.NotEqual ∷
    Op.In ∷
    Op.NotIn ∷
    Op.SubsetEqual ∷
    Op.Less ∷
    Op.Greater ∷
    Op.LessEqual ∷
    Op.GreaterEqual ∷
    Op.Subset ∷
    Op.Superset ∷
    Op.SupersetEqual ∷
    Op.SquareSubset ∷
    Op.SquareSubsetEqual ∷
    Op.SquareSuperset ∷
    Op.SquareSupersetEqual ∷
    Op.Precedes ∷
    Op.PrecedesEqual ∷
    Op.Succeeds ∷
    Op.SucceedsEqual ∷
    Op.MuchLess ∷
    Op.MuchGreater ∷
    Op.Similar ∷
    Op.SimilarEqual ∷
    Op.Asymptotic ∷
    Op.Approximate ∷
    Op.Congruent ∷
    Op.DotEqual ∷
    Op.Proportional ∷
    Op.RightTurnstile ∷
    Op.LeftTurnstile ∷
    Op.RightModels ∷
    Op.LeftModels ∷
    Op.Assign ∷
    Op.Produces ∷
    Op.ActionCompose ∷
    Op.AtAt ∷
    Op.ColonGreater ∷
    Op.LessColon ∷
    Op.SetMinus ∷
    Op.Cup ∷
    Op.Cap ∷
    Op.DotDot ∷
    Op.Ellipsis ∷
    Op.BangBang ∷
    Op.HashHash ∷
    Op.Dollar ∷
    Op.DollarDollar ∷
    Op.QueryQuery ∷
    Op.SquareCap ∷
    Op.SquareCup ∷
    Op.MultisetUnion ∷
    Op.Wreath ∷
    Op.Plus ∷
    Op.PlusPlus ∷
    Op.CirclePlus ∷
    Op.Percent ∷
    Op.PercentPercent ∷
    Op.Bar ∷
    Op.BarBar ∷
    Op.Minus ∷
    Op.MinusMinus ∷
    Op.CircleMinus ∷
    Op.Product ∷
    Op.Star ∷
    Op.StarStar ∷
    Op.Ampersand ∷
    Op.AmpersandAmpersand ∷
    Op.CircleDot ∷
    Op.CircleTimes ∷
    Op.BigCircle ∷
    Op.BulletSign ∷
    Op.Concatenate ∷
    Op.StarSign ∷
    Op.Slash ∷
    Op.SlashSlash ∷
    Op.Divide ∷
    Op.CircleSlash ∷
    Op.Caret ∷
    Op.CaretCaret ∷
    Op.Prime ∷
    Op.PlusClosure ∷
    Op.StarClosure ∷
    Op.SharpClosure ∷
    []

op_of : ℕ → Op
op_of number = slice_index_or OPS number Op.Not

op_of-number : (op : Op) → op_of (op_number op) ≡ op
unfolding op_of op_number OPS
op_of-number Op.Not = refl
op_of-number _ = refl

pub true-same_op : (a b : Op) → same_op a b ≡ true → a ≡ b
unfolding same_op
true-same_op a b h =
    let e : op_number a ≡ op_number b = grind (arith, nat_tests) in
    sym (op_of-number a) ∙ (ap op_of e ∙ op_of-number b)

pub same_op-true : (a : Op) → same_op a a ≡ true
unfolding same_op
same_op-true a = grind (arith, nat_tests)

fix-number : (f g : Fix) → fix_number f ≡ fix_number g → f ≡ g
unfolding fix_number
fix-number Fix.Prefix Fix.Prefix h = refl
fix-number Fix.Infix Fix.Infix h = refl
fix-number Fix.Postfix Fix.Postfix h = refl
fix-number _ _ h = cc

pub same_edge-true : (p : Edge) → same_edge p p ≡ true
unfolding same_edge
same_edge-true (Operator op fix) =
    let e : same_op op op ≡ true = same_op-true op in
    rw e (grind (arith, nat_tests))
same_edge-true Open = refl
same_edge-true Applied = refl
same_edge-true Selected = refl

pub true-same_edge : (p q : Edge) → same_edge p q ≡ true → p ≡ q
unfolding same_edge
true-same_edge (Operator a f) (Operator b g) h =
    let e : a ≡ b = true-same_op a b (grind (arith, nat_tests)) in
    let k : f ≡ g = fix-number f g (grind (arith, nat_tests)) in
    λ i. Operator (e i) (k i)
true-same_edge Open Open h = refl
true-same_edge Applied Applied h = refl
true-same_edge Selected Selected h = refl
true-same_edge _ _ h = cc

-- each range has its ends in order
prefix-ordered : (op : Op) → lo (Operator op Fix.Prefix) ≤ hi (Operator op Fix.Prefix)
prefix-ordered Op.Not = omega arith
prefix-ordered _ = omega arith

infix-ordered : (op : Op) → lo (Operator op Fix.Infix) ≤ hi (Operator op Fix.Infix)
infix-ordered Op.Not = omega arith
infix-ordered _ = omega arith

postfix-ordered : (op : Op) → lo (Operator op Fix.Postfix) ≤ hi (Operator op Fix.Postfix)
postfix-ordered Op.Not = omega arith
postfix-ordered _ = omega arith

pub ordered : (p : Edge) → lo p ≤ hi p
ordered (Operator op Fix.Prefix) = prefix-ordered op
ordered (Operator op Fix.Infix) = infix-ordered op
ordered (Operator op Fix.Postfix) = postfix-ordered op
ordered Open = omega arith
ordered Applied = omega arith
ordered Selected = omega arith

pub meets-true : (p q : Edge) → Meets p q → meets p q ≡ true
unfolding meets
meets-true p q h = grind (arith, nat_tests)

pub true-meets : (p q : Edge) → meets p q ≡ true → Meets p q
unfolding meets
true-meets p q h = grind (arith, nat_tests)

pub joins-true : (p q : Edge) → Joins p q → joins p q ≡ true
unfolding joins
joins-true p q (inl h) = rw (meets-true p q h)
joins-true p q (inr h) =
    let e : same_edge q p ≡ true = ap (λ z. same_edge z p) h.0 ∙ same_edge-true p in
    rw (e, h.1) (either (meets p q))
  where
    either : (b : Bool) → cond b true true ≡ true
    either true = refl
    either false = refl

pub true-joins : (p q : Edge) → joins p q ≡ true → Joins p q
unfolding joins
true-joins p q h = go (meets p q) (same_edge q p) refl refl h
  where
    go : (b c : Bool) → meets p q ≡ b → same_edge q p ≡ c → cond b true (cond c (associates p) false) ≡ true → Joins p q
    go true c e f k = inl (true-meets p q e)
    go false true e f k = inr (true-same_edge q p f, k)
    go false false e f k = cc

-- of two neighbours at most one order is good
pub meets-joins : (p q : Edge) → Meets p q → Joins q p → ⊥
meets-joins p q h (inl k) = omega (arith, ordered p, ordered q)
meets-joins p q h (inr k) =
    let e : lo p ≡ lo q = ap lo k.0 in
    omega (arith, ordered p, e)

pub meets-not_joins : (p q : Edge) → Meets p q → joins q p ≡ false
meets-not_joins p q h = go (joins q p) refl
  where
    go : (b : Bool) → joins q p ≡ b → b ≡ false
    go true e = absurd (meets-joins p q h (true-joins q p e))
    go false e = refl

pub choose-ends : (p q : Edge) → Joins q p → choose p q ≡ Ends
unfolding choose
choose-ends p q h = rw (joins-true q p h)

pub choose-waits : (p q : Edge) → Meets p q → choose p q ≡ Waits
unfolding choose
choose-waits p q h = rw (meets-not_joins p q h, meets-true p q h)

pub ends-joins : (p q : Edge) → choose p q ≡ Ends → Joins q p
unfolding choose
ends-joins p q h = go (joins q p) (meets p q) refl h
  where
    go : (b c : Bool) → joins q p ≡ b → cond b Ends (cond c Waits Clashes) ≡ Ends → Joins q p
    go true c e k = true-joins q p e
    go false true e k = cc
    go false false e k = cc

pub waits-meets : (p q : Edge) → choose p q ≡ Waits → Meets p q
unfolding choose
waits-meets p q h = go (joins q p) (meets p q) refl h
  where
    go : (b c : Bool) → meets p q ≡ c → cond b Ends (cond c Waits Clashes) ≡ Waits → Meets p q
    go true c e k = cc
    go false true e k = true-meets p q e
    go false false e k = cc
