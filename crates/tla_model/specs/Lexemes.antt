-- How lexemes are spelled in a text, and which lexemes a module holds.
use Rattle.std.specs.Prelude.{ℕ, ◌-◌, ◌≤◌, List, [], ◌∷◌, ◌++◌, take, drop}
use Rattle.std.specs.List.{AllByRecursion}
use Rattle.std.specs.Str.{IsCharBoundary}
use Rattle.tla_symbols.specs.declared.lexeme.Lexeme.{Lexeme}
use Rattle.tla_tree.specs.declared.form.Form.TheVariants as Form
use Rattle.tla_tree.specs.Syntax.{Tree, Trees, Node, Nil, Cons}
use Rattle.unit_grammar.specs.Units.{UnitTree, Variables, Constants, OperatorDefinition, FunctionDefinition, ModuleDefinition, Instance, Assumption, Theorem, Line, ModuleBegin, ModuleEnd, ModuleUnits}

-- the bytes of a lexeme
abbrev pub spelled : List ℕ → Lexeme → List ℕ
spelled text l = take (l.span.end - l.span.start) (drop l.span.start text)

-- both ends of a lexeme stand at characters of the text, in this order
pub record LiesIn (text : List ℕ) (l : Lexeme) : Type 0 where
  pub order : l.span.start ≤ l.span.end
  pub start : IsCharBoundary text l.span.start
  pub end : IsCharBoundary text l.span.end

-- ---- the lexemes of a module

-- the lexeme that a form holds, if it holds one
abbrev pub form_lexemes : Form.the_data → List Lexeme
form_lexemes (Form.Number l) = l ∷ []
form_lexemes (Form.Text l) = l ∷ []
form_lexemes (Form.At l) = l ∷ []
form_lexemes (Form.Symbol l) = l ∷ []
form_lexemes (Form.Prefix l) = l ∷ []
form_lexemes (Form.Infix l) = l ∷ []
form_lexemes (Form.Postfix l) = l ∷ []
form_lexemes (Form.Quantifier l) = l ∷ []
form_lexemes (Form.BoundedQuantifier l) = l ∷ []
form_lexemes (Form.TemporalQuantifier l) = l ∷ []
form_lexemes (Form.FieldAccess l) = l ∷ []
form_lexemes (Form.Fairness l) = l ∷ []
form_lexemes (Form.JunctionList l) = l ∷ []
form_lexemes (Form.Segment l) = l ∷ []
form_lexemes (Form.Name l) = l ∷ []
form_lexemes (Form.Field l) = l ∷ []
form_lexemes (Form.FieldStep l) = l ∷ []
form_lexemes (Form.OperatorDefinition l) = l ∷ []
form_lexemes (Form.PrefixDefinition l) = l ∷ []
form_lexemes (Form.InfixDefinition l) = l ∷ []
form_lexemes (Form.PostfixDefinition l) = l ∷ []
form_lexemes (Form.FunctionDefinition l) = l ∷ []
form_lexemes (Form.ModuleDefinition l) = l ∷ []
form_lexemes (Form.Instance l) = l ∷ []
form_lexemes (Form.Replacement l) = l ∷ []
form_lexemes (Form.OperatorParameter l places) = l ∷ []
form_lexemes (Form.PrefixParameter l) = l ∷ []
form_lexemes (Form.InfixParameter l) = l ∷ []
form_lexemes (Form.PostfixParameter l) = l ∷ []
form_lexemes _ = []

abbrev mutual
  -- the lexemes that a tree holds
  pub lexemes : Tree → List Lexeme
  lexemes (Node form s parts) = form_lexemes form ++ all_lexemes parts

  -- the same of several trees, in their order
  pub all_lexemes : Trees → List Lexeme
  all_lexemes Nil = []
  all_lexemes (Cons x rest) = lexemes x ++ all_lexemes rest

-- the lexemes that a unit holds, but for the words and dashes of units and the ends of modules
abbrev pub unit_lexemes : UnitTree → List Lexeme
unit_lexemes (Variables names) = names
unit_lexemes (Constants declarations) = all_lexemes declarations
unit_lexemes (OperatorDefinition local x) = lexemes x
unit_lexemes (FunctionDefinition local x) = lexemes x
unit_lexemes (ModuleDefinition local x) = lexemes x
unit_lexemes (Instance local x) = lexemes x
unit_lexemes (Assumption word name x) = lexemes x
unit_lexemes (Theorem word name x) = lexemes x
unit_lexemes (Line dashes) = []
unit_lexemes (ModuleBegin dashes name extends) = name ∷ extends
unit_lexemes (ModuleEnd closing) = []

-- the same of several units, in their order
abbrev pub units_lexemes : List UnitTree → List Lexeme
units_lexemes [] = []
units_lexemes (unit ∷ units) = unit_lexemes unit ++ units_lexemes units

-- the names and symbols of a module: its name, the names that it extends, and those that its units hold
abbrev pub module_lexemes : ModuleUnits → List Lexeme
module_lexemes units = units.name ∷ (units.extends ++ units_lexemes units.units)

-- the names and symbols of a module lie in its text
abbrev pub LexemesLie : List ℕ → ModuleUnits → Type 0
LexemesLie text units = AllByRecursion (LiesIn text) (module_lexemes units)
