-- The operator symbols at their places: precedence ranges, rules of levels, and which are definable.
use Rattle.std.specs.Prelude.{ℕ, Bool, true, false, Option, Some, None}
use Rattle.tla_symbols.specs.declared.op.Op.{Op}
use Rattle.tla_symbols.specs.declared.op.Op.TheVariants.{Not, Enabled, Unchanged, Always, Eventually, PowerSet, BigUnion, Domain, Negative, Implies, Equivalent, PlusArrow, LeadsTo, And, Or, Equal, NotEqual, In, NotIn, SubsetEqual, Less, Greater, LessEqual, GreaterEqual, Subset, Superset, SupersetEqual, SquareSubset, SquareSubsetEqual, SquareSuperset, SquareSupersetEqual, Precedes, PrecedesEqual, Succeeds, SucceedsEqual, MuchLess, MuchGreater, Similar, SimilarEqual, Asymptotic, Approximate, Congruent, DotEqual, Proportional, RightTurnstile, LeftTurnstile, RightModels, LeftModels, Assign, Produces, ActionCompose, AtAt, ColonGreater, LessColon, SetMinus, Cup, Cap, DotDot, Ellipsis, BangBang, HashHash, Dollar, DollarDollar, QueryQuery, SquareCap, SquareCup, MultisetUnion, Wreath, Plus, PlusPlus, CirclePlus, Percent, PercentPercent, Bar, BarBar, Minus, MinusMinus, CircleMinus, Product, Star, StarStar, Ampersand, AmpersandAmpersand, CircleDot, CircleTimes, BigCircle, BulletSign, Concatenate, StarSign, Slash, SlashSlash, Divide, CircleSlash, Caret, CaretCaret, Prime, PlusClosure, StarClosure, SharpClosure}
use Rattle.tla_symbols.specs.declared.place.Fix.{Fix}
use Rattle.tla_symbols.specs.declared.place.Fix.TheVariants.{Prefix, Infix, Postfix}
use Rattle.tla_symbols.specs.declared.place.Range.{Range}
use Rattle.tla_symbols.specs.declared.level.Rule.{Rule}
use Rattle.tla_symbols.specs.declared.place.Place.{Place}

-- no place of the symbol
abbrev pub nowhere : Place
nowhere = record { range = None; rule = None; definable = false }

-- a symbol of the language, which no module can define
abbrev pub built_in : ℕ → ℕ → Bool → Rule → Place
built_in lo hi left rule = record { range = Some (record { lo = lo; hi = hi; left = left }); rule = Some rule; definable = false }

-- a symbol that means what a module defines it to be
abbrev pub free : ℕ → ℕ → Bool → Place
free lo hi left = record { range = Some (record { lo = lo; hi = hi; left = left }); rule = None; definable = true }

-- before its operand; minus is applied as `-`, and declared, defined and passed as `-.`
abbrev pub prefix_place : Op → Place
prefix_place Not = built_in 4 4 false Rule.Boolean
prefix_place Enabled = built_in 4 15 false Rule.Enabled
prefix_place Unchanged = built_in 4 15 false Rule.Unchanged
prefix_place Always = built_in 4 15 false Rule.Always
prefix_place Eventually = built_in 4 15 false Rule.Eventually
prefix_place PowerSet = built_in 8 8 false Rule.Plain
prefix_place BigUnion = built_in 8 8 false Rule.Plain
prefix_place Domain = built_in 9 9 false Rule.Plain
prefix_place Minus = record { range = Some (record { lo = 12; hi = 12; left = false }); rule = None; definable = false }
prefix_place Negative = record { range = None; rule = None; definable = true }
prefix_place _ = nowhere

-- between its operands
abbrev pub infix_place : Op → Place
infix_place Implies = built_in 1 1 false Rule.Boolean
infix_place Equivalent = built_in 2 2 false Rule.Boolean
infix_place PlusArrow = built_in 2 2 false Rule.Leads
infix_place LeadsTo = built_in 2 2 false Rule.Leads
infix_place And = built_in 3 3 true Rule.Boolean
infix_place Or = built_in 3 3 true Rule.Boolean
infix_place Equal = built_in 5 5 false Rule.Plain
infix_place NotEqual = built_in 5 5 false Rule.Plain
infix_place In = built_in 5 5 false Rule.Plain
infix_place NotIn = built_in 5 5 false Rule.Plain
infix_place SubsetEqual = built_in 5 5 false Rule.Plain
infix_place Less = free 5 5 false
infix_place Greater = free 5 5 false
infix_place LessEqual = free 5 5 false
infix_place GreaterEqual = free 5 5 false
infix_place Subset = free 5 5 false
infix_place Superset = free 5 5 false
infix_place SupersetEqual = free 5 5 false
infix_place SquareSubset = free 5 5 false
infix_place SquareSubsetEqual = free 5 5 false
infix_place SquareSuperset = free 5 5 false
infix_place SquareSupersetEqual = free 5 5 false
infix_place Precedes = free 5 5 false
infix_place PrecedesEqual = free 5 5 false
infix_place Succeeds = free 5 5 false
infix_place SucceedsEqual = free 5 5 false
infix_place MuchLess = free 5 5 false
infix_place MuchGreater = free 5 5 false
infix_place Similar = free 5 5 false
infix_place SimilarEqual = free 5 5 false
infix_place Asymptotic = free 5 5 false
infix_place Approximate = free 5 5 false
infix_place Congruent = free 5 5 false
infix_place DotEqual = free 5 5 false
infix_place Proportional = free 5 5 false
infix_place RightTurnstile = free 5 5 false
infix_place LeftTurnstile = free 5 5 false
infix_place RightModels = free 5 5 false
infix_place LeftModels = free 5 5 false
infix_place Assign = free 5 5 false
infix_place Produces = free 5 5 false
infix_place ActionCompose = built_in 5 14 true Rule.Compose
infix_place AtAt = free 6 6 true
infix_place ColonGreater = free 7 7 false
infix_place LessColon = free 7 7 false
infix_place SetMinus = built_in 8 8 false Rule.Plain
infix_place Cup = built_in 8 8 true Rule.Plain
infix_place Cap = built_in 8 8 true Rule.Plain
infix_place DotDot = free 9 9 false
infix_place Ellipsis = free 9 9 false
infix_place BangBang = free 9 13 false
infix_place HashHash = free 9 13 true
infix_place Dollar = free 9 13 true
infix_place DollarDollar = free 9 13 true
infix_place QueryQuery = free 9 13 true
infix_place SquareCap = free 9 13 true
infix_place SquareCup = free 9 13 true
infix_place MultisetUnion = free 9 13 true
infix_place Wreath = free 9 14 false
infix_place Plus = free 10 10 true
infix_place PlusPlus = free 10 10 true
infix_place CirclePlus = free 10 10 true
infix_place Percent = free 10 11 false
infix_place PercentPercent = free 10 11 true
infix_place Bar = free 10 11 true
infix_place BarBar = free 10 11 true
infix_place Minus = free 11 11 true
infix_place MinusMinus = free 11 11 true
infix_place CircleMinus = free 11 11 true
infix_place Product = built_in 10 13 false Rule.Plain
infix_place Star = free 13 13 true
infix_place StarStar = free 13 13 true
infix_place Ampersand = free 13 13 true
infix_place AmpersandAmpersand = free 13 13 true
infix_place CircleDot = free 13 13 true
infix_place CircleTimes = free 13 13 true
infix_place BigCircle = free 13 13 true
infix_place BulletSign = free 13 13 true
infix_place Concatenate = free 13 13 true
infix_place StarSign = free 13 13 true
infix_place Slash = free 13 13 false
infix_place SlashSlash = free 13 13 false
infix_place Divide = free 13 13 false
infix_place CircleSlash = free 13 13 false
infix_place Caret = free 14 14 false
infix_place CaretCaret = free 14 14 false
infix_place _ = nowhere

-- after its operand
abbrev pub postfix_place : Op → Place
postfix_place Prime = built_in 15 15 false Rule.Prime
postfix_place PlusClosure = free 15 15 false
postfix_place StarClosure = free 15 15 false
postfix_place SharpClosure = free 15 15 false
postfix_place _ = nowhere

-- what a symbol is at this place: built in, free for modules to define, or not to be used there
abbrev pub place_of : Op → Fix → Place
place_of op Prefix = prefix_place op
place_of op Infix = infix_place op
place_of op Postfix = postfix_place op

-- the precedence range of a symbol at a place, if it can be applied there
abbrev pub range_of : Op → Fix → Option Range
range_of op fix = (place_of op fix).range

-- the rule of levels of a symbol that is built in at a place
abbrev pub rule_of : Op → Fix → Option Rule
rule_of op fix = (place_of op fix).rule

-- whether a module may declare and define the symbol at a place
abbrev pub is_definable : Op → Fix → Bool
is_definable op fix = (place_of op fix).definable
