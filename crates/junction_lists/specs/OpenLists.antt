-- The aligned lists that are open, from the outermost: each with its bullet's symbol and its column.
use Rattle.std.specs.Prelude.{◌≡◌, ℕ, suc, ◌+◌, ◌-◌, ◌<◌, ◌≤◌, ◌⊎◌, ◌^◌, nat_le, List, [], ◌∷◌, filter}
use Rattle.tla_symbols.specs.declared.op.Op.{Op}
use Rattle.tla_symbols.specs.declared.lexeme.LexKind.{LexKind}
use Rattle.tla_symbols.specs.declared.lexeme.Lexeme.{Lexeme}
use Rattle.junction_lists.specs.declared.OpenList.{OpenList}

-- each list stands right of the one that holds it, and its items have columns
abbrev pub IsNested : ℕ → List OpenList → Type 0
IsNested column [] = Unit {0}
IsNested column (list ∷ rest) = (column ≤ list.col) × (list.col < 2 ^ 32 - 1) × IsNested (suc list.col) rest

-- the column from which items of the innermost list stand
abbrev pub inner : List OpenList → ℕ
inner [] = 0
inner (list ∷ []) = suc list.col
inner (list ∷ next ∷ rest) = inner (next ∷ rest)

-- the lists that have this column or one right of it
abbrev pub covered : ℕ → List OpenList → List OpenList
covered column lists = filter (λ list. nat_le column list.col) lists

-- the kind is that of `/\` or `\/`, and of this symbol
abbrev pub IsJunction : Op → LexKind → Type 0
IsJunction bullet kind = (kind ≡ LexKind.Sym bullet) × ((bullet ≡ Op.And) ⊎ (bullet ≡ Op.Or))

-- the lexeme begins an item of the list: its bullet in its column
abbrev pub IsBulletOf : OpenList → Lexeme → Type 0
IsBulletOf list lexeme = (lexeme.col ≡ list.col) × (lexeme.span.end ≡ lexeme.span.start + 2) × IsJunction list.bullet lexeme.kind

-- the lexeme begins an item of the innermost list, if one is open
abbrev pub IsInnermostBullet : List OpenList → Lexeme → Type 0
IsInnermostBullet [] lexeme = ⊥
IsInnermostBullet (list ∷ []) lexeme = IsBulletOf list lexeme
IsInnermostBullet (list ∷ next ∷ rest) lexeme = IsInnermostBullet (next ∷ rest) lexeme
