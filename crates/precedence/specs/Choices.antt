-- What becomes of an operator that waits for its last operand, at one that comes after that operand.
use Rattle.std.specs.Prelude.{ℕ, Bool, true, false, cond, nat_lt, nat_eq}
use Rattle.tla_symbols.specs.declared.op.Op.{Op}
use Rattle.tla_symbols.specs.declared.place.Fix.{Fix}
use Rattle.tla_tree.specs.Edges.{Edge, Operator, Open, Applied, Selected, lo, hi, associates}
use Rattle.precedence.specs.declared.Choice.{Choice}
use Rattle.precedence.specs.declared.Choice.TheVariants.{Ends, Waits, Clashes}

-- symbols by number
unfoldable pub op_number : Op → ℕ
op_number Op.Not = 0
op_number Op.Enabled = 1
op_number Op.Unchanged = 2
op_number Op.Always = 3
op_number Op.Eventually = 4
op_number Op.PowerSet = 5
op_number Op.BigUnion = 6
op_number Op.Domain = 7
op_number Op.Negative = 8
op_number Op.Implies = 9
op_number Op.Equivalent = 10
op_number Op.PlusArrow = 11
op_number Op.LeadsTo = 12
op_number Op.And = 13
op_number Op.Or = 14
op_number Op.Equal = 15
op_number Op.NotEqual = 16
op_number Op.In = 17
op_number Op.NotIn = 18
op_number Op.SubsetEqual = 19
op_number Op.Less = 20
op_number Op.Greater = 21
op_number Op.LessEqual = 22
op_number Op.GreaterEqual = 23
op_number Op.Subset = 24
op_number Op.Superset = 25
op_number Op.SupersetEqual = 26
op_number Op.SquareSubset = 27
op_number Op.SquareSubsetEqual = 28
op_number Op.SquareSuperset = 29
op_number Op.SquareSupersetEqual = 30
op_number Op.Precedes = 31
op_number Op.PrecedesEqual = 32
op_number Op.Succeeds = 33
op_number Op.SucceedsEqual = 34
op_number Op.MuchLess = 35
op_number Op.MuchGreater = 36
op_number Op.Similar = 37
op_number Op.SimilarEqual = 38
op_number Op.Asymptotic = 39
op_number Op.Approximate = 40
op_number Op.Congruent = 41
op_number Op.DotEqual = 42
op_number Op.Proportional = 43
op_number Op.RightTurnstile = 44
op_number Op.LeftTurnstile = 45
op_number Op.RightModels = 46
op_number Op.LeftModels = 47
op_number Op.Assign = 48
op_number Op.Produces = 49
op_number Op.ActionCompose = 50
op_number Op.AtAt = 51
op_number Op.ColonGreater = 52
op_number Op.LessColon = 53
op_number Op.SetMinus = 54
op_number Op.Cup = 55
op_number Op.Cap = 56
op_number Op.DotDot = 57
op_number Op.Ellipsis = 58
op_number Op.BangBang = 59
op_number Op.HashHash = 60
op_number Op.Dollar = 61
op_number Op.DollarDollar = 62
op_number Op.QueryQuery = 63
op_number Op.SquareCap = 64
op_number Op.SquareCup = 65
op_number Op.MultisetUnion = 66
op_number Op.Wreath = 67
op_number Op.Plus = 68
op_number Op.PlusPlus = 69
op_number Op.CirclePlus = 70
op_number Op.Percent = 71
op_number Op.PercentPercent = 72
op_number Op.Bar = 73
op_number Op.BarBar = 74
op_number Op.Minus = 75
op_number Op.MinusMinus = 76
op_number Op.CircleMinus = 77
op_number Op.Product = 78
op_number Op.Star = 79
op_number Op.StarStar = 80
op_number Op.Ampersand = 81
op_number Op.AmpersandAmpersand = 82
op_number Op.CircleDot = 83
op_number Op.CircleTimes = 84
op_number Op.BigCircle = 85
op_number Op.BulletSign = 86
op_number Op.Concatenate = 87
op_number Op.StarSign = 88
op_number Op.Slash = 89
op_number Op.SlashSlash = 90
op_number Op.Divide = 91
op_number Op.CircleSlash = 92
op_number Op.Caret = 93
op_number Op.CaretCaret = 94
op_number Op.Prime = 95
op_number Op.PlusClosure = 96
op_number Op.StarClosure = 97
op_number Op.SharpClosure = 98

-- places of symbols by number
unfoldable pub fix_number : Fix → ℕ
fix_number Fix.Prefix = 0
fix_number Fix.Infix = 1
fix_number Fix.Postfix = 2

-- whether two symbols are the same
unfoldable pub same_op : Op → Op → Bool
same_op a b = nat_eq (op_number a) (op_number b)

-- whether two edges are the same
unfoldable pub same_edge : Edge → Edge → Bool
same_edge (Operator a f) (Operator b g) = cond (nat_eq (fix_number f) (fix_number g)) (same_op a b) false
same_edge Open Open = true
same_edge Applied Applied = true
same_edge Selected Selected = true
same_edge _ _ = false

-- whether the range of the inner operator lies above that of the outer one
unfoldable pub meets : Edge → Edge → Bool
meets outer inner = nat_lt (hi outer) (lo inner)

-- whether it does, or both are one symbol that associates to the left
unfoldable pub joins : Edge → Edge → Bool
joins outer inner = cond (meets outer inner) true (cond (same_edge inner outer) (associates outer) false)

-- the waiting operator ends, waits, or clashes with the one that comes
unfoldable pub choose : Edge → Edge → Choice
choose waiting coming = cond (joins coming waiting) Ends (cond (meets waiting coming) Waits Clashes)
