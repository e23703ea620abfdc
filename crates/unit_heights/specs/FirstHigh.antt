-- How the first lexeme is found of the first unit that is too high: by the place at which its first node begins.
use Rattle.std.specs.Prelude.{ℕ, zero, suc, ◌+◌, ◌-◌, ◌≤◌, ◌==◌, nat_lt, List, [], ◌∷◌, Option, Some, None, if◌then◌else◌}
use Rattle.tla_symbols.specs.declared.lexeme.Lexeme.{Lexeme}
use Rattle.tla_tree.specs.Syntax.{Tree, span}
use Rattle.unit_grammar.specs.Units.{UnitTree, OperatorDefinition, FunctionDefinition, ModuleDefinition, Instance, Assumption, Theorem, ModuleBegin, ModuleEnd}
use Rattle.unit_grammar.specs.Heights.{highest_unit}
use Rattle.unit_heights.specs.TooHigh.{MOST_HEIGHT}

-- each lexeme begins at this place or further on, and behind where the one before it does
abbrev pub BeginsFurther : ℕ → List Lexeme → Type 0
BeginsFurther at [] = Unit {0}
BeginsFurther at (l ∷ ls) = (at ≤ l.span.start) × BeginsFurther (suc l.span.start) ls

-- how many modules are open behind a unit
abbrev pub depth_after : ℕ → UnitTree → ℕ
depth_after depth (ModuleBegin dashes name extends) = suc depth
depth_after depth (ModuleEnd closing) = depth - 1
depth_after depth _ = depth

-- the unit of the outermost module that holds a unit, where so many modules are open and this one began before
abbrev pub outer : {A : Type 0} → ℕ → A → A → A
outer zero begun unit = unit
outer (suc depth) begun unit = begun

-- the unit of the outermost module that holds the first unit that is too high, or the last
abbrev pub high_unit : ℕ → UnitTree → List UnitTree → UnitTree
high_unit depth begun [] = begun
high_unit depth begun (unit ∷ units) =
    if nat_lt MOST_HEIGHT (highest_unit depth (unit ∷ [])) then outer depth begun unit else high_unit (depth_after depth unit) (outer depth begun unit) units

-- where a definition or an instance begins
abbrev pub begins_with : Option Lexeme → Tree → ℕ
begins_with (Some local) x = local.span.start
begins_with None x = (span x).start

-- where a unit's first lexeme begins
abbrev pub begins_at : UnitTree → ℕ
begins_at (OperatorDefinition local x) = begins_with local x
begins_at (FunctionDefinition local x) = begins_with local x
begins_at (ModuleDefinition local x) = begins_with local x
begins_at (Instance local x) = begins_with local x
begins_at (Assumption word name x) = word.span.start
begins_at (Theorem word name x) = word.span.start
begins_at (ModuleBegin dashes name extends) = dashes.span.start
begins_at _ = 0

-- how many lexemes stand before the one that begins at a place
abbrev pub place_of : List Lexeme → ℕ → ℕ
place_of [] at = 0
place_of (l ∷ ls) at = if l.span.start == at then 0 else place_of ls at + 1

-- how many lexemes stand before a unit
abbrev pub lexemes_before : List Lexeme → UnitTree → ℕ
lexemes_before lexemes unit = place_of lexemes (begins_at unit)

-- how many lexemes stand before the first unit that is too high
abbrev pub before_high : List Lexeme → List UnitTree → ℕ
before_high lexemes [] = 0
before_high lexemes (unit ∷ units) = lexemes_before lexemes (high_unit 0 unit (unit ∷ units))
