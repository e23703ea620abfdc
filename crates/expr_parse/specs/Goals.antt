-- What the machine reads, by its goal: an expression, or the bounds in the head of a function's definition.
use Rattle.std.specs.Prelude.{◌≡◌, Bool, true, List, Some}
use Rattle.tla_symbols.specs.declared.lexeme.LexKind.{LexKind}
use Rattle.tla_symbols.specs.declared.lexeme.Lexeme.{Lexeme}
use Rattle.tla_tree.specs.declared.form.Form.TheVariants as Form
use Rattle.tla_tree.specs.Syntax.{Tree, form}
use Rattle.tla_tree.specs.FirstBad.{Begins}
use Rattle.tla_tree.specs.Derivation.{Derives, DerivesBounds}
use Rattle.expr_grammar.specs.BoundsAlone.{BeginsBounds}
use Rattle.expr_grammar.specs.Kinds.{is_right_bracket}
use Rattle.expr_grammar.specs.Following as Following
use Rattle.tree_parts.specs.Parts.{parts_of}
use Rattle.expr_parse.specs.declared.goal.Goal.{Goal}

-- the lexemes before which an expression of a unit may be done
abbrev pub stops : LexKind → Bool
stops kind = Following.stops kind

-- the lexemes before which it may be done
abbrev pub may_end : Goal → LexKind → Bool
may_end Goal.Expression kind = stops kind
may_end Goal.Bounds kind = is_right_bracket kind

-- the tree derives the lexemes before the next one, outside all aligned lists; bounds are the parts of a tree
abbrev pub DerivesGoal : Goal → Tree → List Lexeme → Lexeme → Type 0
DerivesGoal Goal.Expression tree lexemes next = Derives tree lexemes 0 (Some next)
DerivesGoal Goal.Bounds tree lexemes next = (form tree ≡ Form.Bounds) × DerivesBounds (parts_of tree) lexemes 0 (Some next)

-- the same expression, or the same bounds
abbrev pub IsSame : Goal → Tree → Tree → Type 0
IsSame Goal.Expression other tree = other ≡ tree
IsSame Goal.Bounds other tree = parts_of other ≡ parts_of tree

-- some derivable list begins so
abbrev pub BeginsGoal : Goal → List Lexeme → Type 0
BeginsGoal Goal.Expression lexemes = Begins lexemes
BeginsGoal Goal.Bounds lexemes = BeginsBounds lexemes

-- what is read is whole before the lexeme
abbrev pub IsWhole : Goal → List Lexeme → Lexeme → Type 0
IsWhole goal lexemes next = (may_end goal next.kind ≡ true) × ((tree : Tree) × DerivesGoal goal tree lexemes next)
