-- What is shown of the units of a module that is a front stands in its text.
use Rattle.std.proofs.Common.{◌≡◌, ℕ, List, [], ◌∷◌, ◌++◌, Option, Some, None, map}
use Rattle.std.specs.List.{AllByRecursion}
use Rattle.std.specs.Option.{IfSome, option_to_list}
use Rattle.tla_symbols.specs.declared.lexeme.Lexeme.{Lexeme}
use Rattle.tla_tree.specs.Arena.{Node as ArenaNode}
use Rattle.tla_tree.specs.Syntax.{Tree, Trees, Node, Nil, Cons}
use Rattle.tla_tree.specs.declared.unit.Unit.TheVariants as unit
use Rattle.tla_model.specs.Lexemes.{LiesIn, form_lexemes, lexemes, all_lexemes, unit_lexemes, units_lexemes}
use Rattle.unit_grammar.specs.Units.{UnitTree, Variables, Constants, OperatorDefinition, FunctionDefinition, ModuleDefinition, Assumption, Theorem, ModuleBegin, ModuleEnd}
use Rattle.unit_grammar.specs.UnitNodes.{unit_at}
use Rattle.span_laws.specs.NodeSpans.{SpansText, TreeSpans, PartSpans, UnitSpans}
use Rattle.span_laws.specs.UnitWords.{unit_words}
use Rattle.server_outlines.specs.Shown.{IsShown, AreShown, IsUnitShown}

module _ (text : List ℕ) where
  abbrev Lie : List Lexeme → Type 0
  Lie ls = AllByRecursion (LiesIn text) ls

  lie-left : (a b : List Lexeme) → Lie (a ++ b) → Lie a
  lie-left [] b all = tt
  lie-left (l ∷ a) b all = (all.0, lie-left a b all.1)

  lie-right : (a b : List Lexeme) → Lie (a ++ b) → Lie b
  lie-right [] b all = all
  lie-right (l ∷ a) b all = lie-right a b all.1

  if-there : (o : Option Lexeme) → Lie (option_to_list o) → IfSome o (LiesIn text)
  if-there None h = tt
  if-there (Some l) h = h.0

  tree-shown : (x : Tree) → TreeSpans (SpansText text) x → Lie (lexemes x) → IsShown text x
  tree-shown (Node form span parts) spans lie = record { span = spans.0.placed; name = lie-left (form_lexemes form) (all_lexemes parts) lie }

  trees-shown : (xs : Trees) → PartSpans (SpansText text) xs → Lie (all_lexemes xs) → AreShown text xs
  trees-shown Nil spans lie = tt
  trees-shown (Cons x xs) spans lie = (tree-shown x spans.0 (lie-left (lexemes x) (all_lexemes xs) lie), trees-shown xs spans.1 (lie-right (lexemes x) (all_lexemes xs) lie))

  unit-shown : (u : UnitTree) → UnitSpans (SpansText text) u → Lie (unit_lexemes u) → Lie (unit_words u) → IsUnitShown text u
  unit-shown (Variables names) spans lie words = lie
  unit-shown (Constants declarations) spans lie words = trees-shown declarations spans lie
  unit-shown (OperatorDefinition local x) spans lie words = record { local_lies = if-there local words; shown = tree-shown x spans lie }
  unit-shown (FunctionDefinition local x) spans lie words = record { local_lies = if-there local words; shown = tree-shown x spans lie }
  unit-shown (ModuleDefinition local x) spans lie words = record { local_lies = if-there local words; shown = tree-shown x spans lie }
  unit-shown (Assumption word name x) spans lie words = record { word_lies = words.0; name_lies = if-there name words.1; shown = tree-shown x spans lie }
  unit-shown (Theorem word name x) spans lie words = record { word_lies = words.0; name_lies = if-there name words.1; shown = tree-shown x spans lie }
  unit-shown (ModuleBegin dashes name extends) spans lie words = record { dashes_lie = words.0; name_lies = lie.0 }
  unit-shown (ModuleEnd closing) spans lie words = words.0
  unit-shown _ spans lie words = tt

  pub units-shown : (nodes : List ArenaNode) (units : List unit.the_data) → AllByRecursion (UnitSpans (SpansText text)) (map (unit_at nodes) units) → Lie (units_lexemes (map (unit_at nodes) units)) →
      AllByRecursion (λ u. Lie (unit_words u)) (map (unit_at nodes) units) → AllByRecursion (λ u. IsUnitShown text (unit_at nodes u)) units
  units-shown nodes [] spans lie words = tt
  units-shown nodes (u ∷ units) spans lie words =
      let here : List Lexeme = unit_lexemes (unit_at nodes u) in
      let behind : List Lexeme = units_lexemes (map (unit_at nodes) units) in
      (unit-shown (unit_at nodes u) spans.0 (lie-left here behind lie) words.0, units-shown nodes units spans.1 (lie-right here behind lie) words.1)

  -- behind the module's own name and the names that it extends
  pub names-lie : (name : Lexeme) (extends more : List Lexeme) → Lie (name ∷ (extends ++ more)) → Lie more
  names-lie name extends more all = lie-right extends more all.1
