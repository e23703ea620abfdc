-- How reserved words, symbols and marks are spelled.
use Rattle.std.specs.Prelude.{ℕ, List, [], ◌∷◌, Option, Some, None, if◌then◌else◌, codes}
use Rattle.std.specs.Str.{bytes_eq}
use Rattle.tla_symbols.specs.declared.op.Op.{Op}
use Rattle.tla_symbols.specs.declared.lexeme.Word.{Word}
use Rattle.tla_symbols.specs.declared.lexeme.Mark.{Mark}

-- what the first entry with a spelling means
abbrev pub meaning_of : {E M : Type 0} → (E → List ℕ) → (E → M) → List E → List ℕ → Option M
meaning_of text meaning [] spelling = None
meaning_of text meaning (entry ∷ entries) spelling = if bytes_eq (text entry) spelling then Some (meaning entry) else meaning_of text meaning entries spelling

-- a table of spellings, each with its meaning
abbrev pub Table : Type 0 → Type 0
Table M = List (List ℕ × M)

-- what a spelling means by a table, if it stands there
abbrev pub in_table : {M : Type 0} → Table M → List ℕ → Option M
in_table table spelling = meaning_of (λ e. e.0) (λ e. e.1) table spelling

-- the reserved words that are no operators
abbrev pub WORDS : Table Word
WORDS =
    (codes "ASSUME", Word.Assume) ∷
    (codes "ASSUMPTION", Word.Assumption) ∷
    (codes "AXIOM", Word.Axiom) ∷
    (codes "CASE", Word.Case) ∷
    (codes "CHOOSE", Word.Choose) ∷
    (codes "CONSTANT", Word.Constant) ∷
    (codes "CONSTANTS", Word.Constants) ∷
    (codes "ELSE", Word.Else) ∷
    (codes "EXCEPT", Word.Except) ∷
    (codes "EXTENDS", Word.Extends) ∷
    (codes "IF", Word.If) ∷
    (codes "IN", Word.In) ∷
    (codes "INSTANCE", Word.Instance) ∷
    (codes "LET", Word.Let) ∷
    (codes "LOCAL", Word.Local) ∷
    (codes "MODULE", Word.Module) ∷
    (codes "OTHER", Word.Other) ∷
    (codes "SF_", Word.StrongFair) ∷
    (codes "THEN", Word.Then) ∷
    (codes "THEOREM", Word.Theorem) ∷
    (codes "VARIABLE", Word.Variable) ∷
    (codes "VARIABLES", Word.Variables) ∷
    (codes "WF_", Word.WeakFair) ∷
    (codes "WITH", Word.With) ∷
    []

-- the operator symbols, each with its synonyms
abbrev pub SYMBOLS : Table Op
SYMBOLS =
    (codes "~", Op.Not) ∷
    (codes "\\lnot", Op.Not) ∷
    (codes "\\neg", Op.Not) ∷
    (codes "ENABLED", Op.Enabled) ∷
    (codes "UNCHANGED", Op.Unchanged) ∷
    (codes "[]", Op.Always) ∷
    (codes "<>", Op.Eventually) ∷
    (codes "SUBSET", Op.PowerSet) ∷
    (codes "UNION", Op.BigUnion) ∷
    (codes "DOMAIN", Op.Domain) ∷
    (codes "-.", Op.Negative) ∷
    (codes "=>", Op.Implies) ∷
    (codes "<=>", Op.Equivalent) ∷
    (codes "\\equiv", Op.Equivalent) ∷
    (codes "-+->", Op.PlusArrow) ∷
    (codes "~>", Op.LeadsTo) ∷
    (codes "/\\", Op.And) ∷
    (codes "\\land", Op.And) ∷
    (codes "\\/", Op.Or) ∷
    (codes "\\lor", Op.Or) ∷
    (codes "=", Op.Equal) ∷
    (codes "#", Op.NotEqual) ∷
    (codes "/=", Op.NotEqual) ∷
    (codes "\\in", Op.In) ∷
    (codes "\\notin", Op.NotIn) ∷
    (codes "\\subseteq", Op.SubsetEqual) ∷
    (codes "<", Op.Less) ∷
    (codes ">", Op.Greater) ∷
    (codes "=<", Op.LessEqual) ∷
    (codes "<=", Op.LessEqual) ∷
    (codes "\\leq", Op.LessEqual) ∷
    (codes ">=", Op.GreaterEqual) ∷
    (codes "\\geq", Op.GreaterEqual) ∷
    (codes "\\subset", Op.Subset) ∷
    (codes "\\supset", Op.Superset) ∷
    (codes "\\supseteq", Op.SupersetEqual) ∷
    (codes "\\sqsubset", Op.SquareSubset) ∷
    (codes "\\sqsubseteq", Op.SquareSubsetEqual) ∷
    (codes "\\sqsupset", Op.SquareSuperset) ∷
    (codes "\\sqsupseteq", Op.SquareSupersetEqual) ∷
    (codes "\\prec", Op.Precedes) ∷
    (codes "\\preceq", Op.PrecedesEqual) ∷
    (codes "\\succ", Op.Succeeds) ∷
    (codes "\\succeq", Op.SucceedsEqual) ∷
    (codes "\\ll", Op.MuchLess) ∷
    (codes "\\gg", Op.MuchGreater) ∷
    (codes "\\sim", Op.Similar) ∷
    (codes "\\simeq", Op.SimilarEqual) ∷
    (codes "\\asymp", Op.Asymptotic) ∷
    (codes "\\approx", Op.Approximate) ∷
    (codes "\\cong", Op.Congruent) ∷
    (codes "\\doteq", Op.DotEqual) ∷
    (codes "\\propto", Op.Proportional) ∷
    (codes "|-", Op.RightTurnstile) ∷
    (codes "-|", Op.LeftTurnstile) ∷
    (codes "|=", Op.RightModels) ∷
    (codes "=|", Op.LeftModels) ∷
    (codes ":=", Op.Assign) ∷
    (codes "::=", Op.Produces) ∷
    (codes "\\cdot", Op.ActionCompose) ∷
    (codes "@@", Op.AtAt) ∷
    (codes ":>", Op.ColonGreater) ∷
    (codes "<:", Op.LessColon) ∷
    (codes "\\", Op.SetMinus) ∷
    (codes "\\cup", Op.Cup) ∷
    (codes "\\union", Op.Cup) ∷
    (codes "\\cap", Op.Cap) ∷
    (codes "\\intersect", Op.Cap) ∷
    (codes "..", Op.DotDot) ∷
    (codes "...", Op.Ellipsis) ∷
    (codes "!!", Op.BangBang) ∷
    (codes "##", Op.HashHash) ∷
    (codes "$", Op.Dollar) ∷
    (codes "$$", Op.DollarDollar) ∷
    (codes "??", Op.QueryQuery) ∷
    (codes "\\sqcap", Op.SquareCap) ∷
    (codes "\\sqcup", Op.SquareCup) ∷
    (codes "\\uplus", Op.MultisetUnion) ∷
    (codes "\\wr", Op.Wreath) ∷
    (codes "+", Op.Plus) ∷
    (codes "++", Op.PlusPlus) ∷
    (codes "\\oplus", Op.CirclePlus) ∷
    (codes "(+)", Op.CirclePlus) ∷
    (codes "%", Op.Percent) ∷
    (codes "%%", Op.PercentPercent) ∷
    (codes "|", Op.Bar) ∷
    (codes "||", Op.BarBar) ∷
    (codes "-", Op.Minus) ∷
    (codes "--", Op.MinusMinus) ∷
    (codes "\\ominus", Op.CircleMinus) ∷
    (codes "(-)", Op.CircleMinus) ∷
    (codes "\\X", Op.Product) ∷
    (codes "\\times", Op.Product) ∷
    (codes "*", Op.Star) ∷
    (codes "**", Op.StarStar) ∷
    (codes "&", Op.Ampersand) ∷
    (codes "&&", Op.AmpersandAmpersand) ∷
    (codes "\\odot", Op.CircleDot) ∷
    (codes "(.)", Op.CircleDot) ∷
    (codes "\\otimes", Op.CircleTimes) ∷
    (codes "(\\X)", Op.CircleTimes) ∷
    (codes "\\bigcirc", Op.BigCircle) ∷
    (codes "\\bullet", Op.BulletSign) ∷
    (codes "\\o", Op.Concatenate) ∷
    (codes "\\circ", Op.Concatenate) ∷
    (codes "\\star", Op.StarSign) ∷
    (codes "/", Op.Slash) ∷
    (codes "//", Op.SlashSlash) ∷
    (codes "\\div", Op.Divide) ∷
    (codes "\\oslash", Op.CircleSlash) ∷
    (codes "(/)", Op.CircleSlash) ∷
    (codes "^", Op.Caret) ∷
    (codes "^^", Op.CaretCaret) ∷
    (codes "'", Op.Prime) ∷
    (codes "^+", Op.PlusClosure) ∷
    (codes "^*", Op.StarClosure) ∷
    (codes "^#", Op.SharpClosure) ∷
    []

-- the marks
abbrev pub MARKS : Table Mark
MARKS =
    (codes "==", Mark.Define) ∷
    (codes "->", Mark.Arrow) ∷
    (codes "<-", Mark.LeftArrow) ∷
    (codes "|->", Mark.MapsTo) ∷
    (codes ",", Mark.Comma) ∷
    (codes ":", Mark.Colon) ∷
    (codes "!", Mark.Bang) ∷
    (codes "@", Mark.At) ∷
    (codes "(", Mark.LeftParen) ∷
    (codes ")", Mark.RightParen) ∷
    (codes "[", Mark.LeftBracket) ∷
    (codes "]", Mark.RightBracket) ∷
    (codes "]_", Mark.RightBracketSubscript) ∷
    (codes "{", Mark.LeftBrace) ∷
    (codes "}", Mark.RightBrace) ∷
    (codes "<<", Mark.LeftAngle) ∷
    (codes ">>", Mark.RightAngle) ∷
    (codes ">>_", Mark.RightAngleSubscript) ∷
    (codes "_", Mark.Underscore) ∷
    (codes ".", Mark.Dot) ∷
    (codes "\\A", Mark.ForAll) ∷
    (codes "\\E", Mark.Exists) ∷
    (codes "\\AA", Mark.TemporalForAll) ∷
    (codes "\\EE", Mark.TemporalExists) ∷
    []

-- the reserved word with a spelling, if it is one
abbrev pub word_of : List ℕ → Option Word
word_of spelling = in_table WORDS spelling

-- the operator symbol with a spelling, if it is one
abbrev pub op_of : List ℕ → Option Op
op_of spelling = in_table SYMBOLS spelling

-- the mark with a spelling, if it is one
abbrev pub mark_of : List ℕ → Option Mark
mark_of spelling = in_table MARKS spelling
