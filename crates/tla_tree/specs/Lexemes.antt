-- Kinds and places of lexemes, and trees over them.
use Rattle.std.specs.Prelude.{◌≡◌, ℕ, Bool, true, false, ◌||◌, IsTrue, is_some, List, [], ◌∷◌}
use Rattle.tla_symbols.specs.declared.op.Op.{Op}
use Rattle.tla_symbols.specs.declared.place.Fix.{Fix}
use Rattle.tla_symbols.specs.declared.lexeme.LexKind.{LexKind}
use Rattle.tla_symbols.specs.declared.lexeme.Word.{Word}
use Rattle.tla_symbols.specs.declared.lexeme.Mark.{Mark}
use Rattle.tla_symbols.specs.declared.lexeme.Lexeme.{Lexeme}
use Rattle.tla_symbols.specs.declared.lexeme.Span.{Span}
use Rattle.tla_symbols.specs.Symbols.{range_of, is_definable}
use Rattle.tla_tree.specs.declared.form.Form.{Form}
use Rattle.tla_tree.specs.Syntax.{Tree, Trees, Node, Nil, Cons}

-- the lexeme is an Identifier
abbrev pub IsName : Lexeme → Type 0
IsName t = t.kind ≡ LexKind.Name

-- the lexeme is this reserved word
abbrev pub IsWord : Lexeme → Word → Type 0
IsWord t word = t.kind ≡ LexKind.Word word

-- the lexeme is this mark
abbrev pub IsMark : Lexeme → Mark → Type 0
IsMark t mark = t.kind ≡ LexKind.Mark mark

-- the lexeme is this symbol, in any of its spellings
abbrev pub IsSymbol : Lexeme → Op → Type 0
IsSymbol t op = t.kind ≡ LexKind.Sym op

-- the symbol can be applied at this place
abbrev pub Applies : Op → Fix → Type 0
Applies op fix = IsTrue (is_some (range_of op fix))

-- a module may define the symbol at this place
abbrev pub Defines : Op → Fix → Type 0
Defines op fix = IsTrue (is_definable op fix)

-- the symbol `\X`, which makes one form of all its factors
abbrev pub is_product : Op → Bool
is_product Op.Product = true
is_product _ = false

-- symbols that are passed bare: any prefix (`-.` for minus), infix or postfix symbol other than `\X`
abbrev pub is_passed : Op → Bool
is_passed Op.Product = false
is_passed _ = true

-- bare symbols on the right of `<-`: infix ones other than `-` `/\` `\/` `\X`, postfix ones, and `-.`
abbrev pub is_given : Op → Bool
is_given Op.Product = false
is_given Op.Minus = false
is_given Op.And = false
is_given Op.Or = false
is_given Op.Negative = true
is_given op = is_some (range_of op Fix.Infix) || is_some (range_of op Fix.Postfix)

-- the end of the last lexeme
abbrev pub end_of : Lexeme → List Lexeme → ℕ
end_of t [] = t.span.end
end_of t (next ∷ rest) = end_of next rest

-- from the first lexeme to the last
abbrev pub place : List Lexeme → Span
place [] = record { start = 0; end = 0 }
place (t ∷ rest) = record { start = t.span.start; end = end_of t rest }

-- the tree of a form with these parts and lexemes
abbrev pub built : Form → Trees → List Lexeme → Tree
built form parts lexemes = Node form (place lexemes) parts

-- a form's only part
abbrev pub one : Tree → Trees
one x = Cons x Nil

-- a form's two parts
abbrev pub two : Tree → Tree → Trees
two x y = Cons x (Cons y Nil)

-- parts and one more
abbrev pub then : Trees → Tree → Trees
then Nil last = one last
then (Cons x xs) last = Cons x (then xs last)

-- parts and more
abbrev pub joined : Trees → Trees → Trees
joined Nil ys = ys
joined (Cons x xs) ys = Cons x (joined xs ys)
