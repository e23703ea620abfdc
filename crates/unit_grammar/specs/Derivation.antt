-- Which units and modules derive which lexemes: a rule for each form of unit, with all its conditions.
--
-- A module is `---- MODULE Id ----`, `EXTENDS Id, ..` where it extends, units, and a run of `=`; that of the outermost
-- module is the closing run. The rules for expressions, definitions, instances and declarations are those of
-- `tla_tree.specs.Derivation` and `Headings`, outside all aligned lists (column 0). Beside the lexemes of a unit stands
-- the lexeme that follows, since an aligned list, or a CASE, at a unit's end looks at it. A nested module has no tree of
-- its own: it derives a begin, its units and an end, as they stand in the one list of the module that holds it.
use Rattle.std.specs.Prelude.{◌≡◌, ◌⊎◌, List, [], ◌∷◌, ◌++◌, Option, Some, None}
use Rattle.tla_symbols.specs.declared.lexeme.LexKind.{LexKind}
use Rattle.tla_symbols.specs.declared.lexeme.Word.{Word}
use Rattle.tla_symbols.specs.declared.lexeme.Mark.TheVariants as Mark
use Rattle.tla_symbols.specs.declared.lexeme.Lexeme.{Lexeme}
use Rattle.tla_tree.specs.Syntax.{Tree, Trees}
use Rattle.tla_tree.specs.Lexemes.{IsName, IsWord, IsMark}
use Rattle.tla_tree.specs.Headings.{DerivesParameters}
use Rattle.tla_tree.specs.Derivation.{Derives, DerivesDefinition, DerivesInstance}
use Rattle.unit_grammar.specs.Units.{UnitTree, Variables, Constants, Instance, Assumption, Theorem, Line, ModuleBegin, ModuleEnd, ModuleUnits, defined}

-- four or more `-`
abbrev pub IsDashes : Lexeme → Type 0
IsDashes t = t.kind ≡ LexKind.Dashes

-- the run of `=` that ends a nested module
abbrev pub IsEquals : Lexeme → Type 0
IsEquals t = t.kind ≡ LexKind.Equals

-- the run of `=` that closes the outermost module
abbrev pub IsClose : Lexeme → Type 0
IsClose t = t.kind ≡ LexKind.Close

-- `VARIABLE` or `VARIABLES`
abbrev pub DeclaresVariables : Lexeme → Type 0
DeclaresVariables w = IsWord w Word.Variable ⊎ IsWord w Word.Variables

-- `CONSTANT` or `CONSTANTS`
abbrev pub DeclaresConstants : Lexeme → Type 0
DeclaresConstants w = IsWord w Word.Constant ⊎ IsWord w Word.Constants

-- `ASSUME`, `ASSUMPTION` or `AXIOM`
abbrev pub Assumes : Lexeme → Type 0
Assumes w = IsWord w Word.Assume ⊎ (IsWord w Word.Assumption ⊎ IsWord w Word.Axiom)

-- names, and their lexemes with the commas between them
pub data SpellsNames : List Lexeme → List Lexeme → Type 0 where
  last_name : {n : Lexeme} → IsName n → SpellsNames (n ∷ []) (n ∷ [])
  more_names : {n t : Lexeme} {names a : List Lexeme}
      → IsName n → IsMark t Mark.Comma
      → SpellsNames names a
      → SpellsNames (n ∷ names) (n ∷ t ∷ a)

-- how a module begins with these dashes, of this name, that extends these
pub data BeginsModule : Lexeme → Lexeme → List Lexeme → List Lexeme → Type 0 where
  alone : {d w n e : Lexeme}
      → IsDashes d → IsWord w Word.Module → IsName n → IsDashes e
      → BeginsModule d n [] (d ∷ w ∷ n ∷ e ∷ [])
  extending : {d w n e x : Lexeme} {names a : List Lexeme}
      → IsDashes d → IsWord w Word.Module → IsName n → IsDashes e → IsWord x Word.Extends
      → SpellsNames names a
      → BeginsModule d n names (d ∷ w ∷ n ∷ e ∷ x ∷ a)

-- what may stand before a definition or an instance
pub data SpellsLocal : Option Lexeme → List Lexeme → Type 0 where
  exported : SpellsLocal None []
  kept : {w : Lexeme} → IsWord w Word.Local → SpellsLocal (Some w) (w ∷ [])

-- the first of lexemes before one that follows them
abbrev pub first : List Lexeme → Lexeme → Lexeme
first [] next = next
first (t ∷ rest) next = t

mutual
  -- a unit, before the lexeme that follows
  pub data DerivesUnit : List UnitTree → List Lexeme → Lexeme → Type 0 where
    -- `VARIABLE x, ..`
    variables : {w next : Lexeme} {names a : List Lexeme}
        → DeclaresVariables w → SpellsNames names a
        → DerivesUnit (Variables names ∷ []) (w ∷ a) next
    -- `CONSTANT Decl, ..`
    constants : {w next : Lexeme} {xs : Trees} {a : List Lexeme}
        → DeclaresConstants w → DerivesParameters xs a
        → DerivesUnit (Constants xs ∷ []) (w ∷ a) next
    -- an operator, function or module definition
    definition : {before : Option Lexeme} {x : Tree} {a b : List Lexeme} {next : Lexeme}
        → SpellsLocal before a → DerivesDefinition x b 0 (Some next)
        → DerivesUnit (defined before x ∷ []) (a ++ b) next
    -- `INSTANCE Id`, and `WITH Repl, ..` after it
    instance : {before : Option Lexeme} {x : Tree} {a b : List Lexeme} {next : Lexeme}
        → SpellsLocal before a → DerivesInstance x b 0 (Some next)
        → DerivesUnit (Instance before x ∷ []) (a ++ b) next
    -- `ASSUME e` and `THEOREM e`
    assumption : {w next : Lexeme} {x : Tree} {a : List Lexeme}
        → Assumes w → Derives x a 0 (Some next)
        → DerivesUnit (Assumption w None x ∷ []) (w ∷ a) next
    theorem : {w next : Lexeme} {x : Tree} {a : List Lexeme}
        → IsWord w Word.Theorem → Derives x a 0 (Some next)
        → DerivesUnit (Theorem w None x ∷ []) (w ∷ a) next
    -- dashes that no MODULE follows
    line : {d next : Lexeme}
        → IsDashes d → (IsWord next Word.Module → ⊥)
        → DerivesUnit (Line d ∷ []) (d ∷ []) next
    -- a module in the module
    nested : {d n next : Lexeme} {names a b : List Lexeme} {units : List UnitTree} (e : Lexeme)
        → BeginsModule d n names a → DerivesUnits units b e → IsEquals e
        → DerivesUnit (ModuleBegin d n names ∷ (units ++ ModuleEnd e ∷ [])) (a ++ (b ++ e ∷ [])) next

  -- any number of units
  pub data DerivesUnits : List UnitTree → List Lexeme → Lexeme → Type 0 where
    no_units : {next : Lexeme} → DerivesUnits [] [] next
    more_units : {unit units : List UnitTree} {a b : List Lexeme} {next : Lexeme}
        → DerivesUnit unit a (first b next) → DerivesUnits units b next
        → DerivesUnits (unit ++ units) (a ++ b) next

-- the outermost module, with its closing run
pub data DerivesModule : ModuleUnits → List Lexeme → Type 0 where
  outermost : {d n : Lexeme} {names a b : List Lexeme} {units : List UnitTree} (c : Lexeme)
      → BeginsModule d n names a → DerivesUnits units b c → IsClose c
      → DerivesModule (record { name = n; extends = names; units = units }) (a ++ (b ++ c ∷ []))
