-- What is found of levels and of depths in units stands at their nodes, lexemes and words.
use Rattle.std.proofs.Common.{ℕ, List, [], ◌∷◌, ◌++◌}
use Rattle.std.specs.List.{AllByRecursion}
use Rattle.list_laws.proofs.Lists.{all-both, all-either, all-left, all-right}
use Rattle.tla_symbols.specs.declared.lexeme.Lexeme.{Lexeme}
use Rattle.tla_symbols.specs.declared.lexeme.Span.{Span}
use Rattle.tla_tree.specs.Syntax.{Tree}
use Rattle.unit_grammar.specs.Units.{UnitTree, OperatorDefinition, FunctionDefinition, ModuleDefinition, Instance, Assumption, Theorem}
use Rattle.tla_model.specs.Entities.{Text}
use Rattle.tla_model.specs.Lexemes.{lexemes, unit_lexemes, units_lexemes}
use Rattle.span_laws.specs.NodeSpans.{TreeSpans, UnitSpans}
use Rattle.span_laws.specs.UnitWords.{unit_words}
use Rattle.tree_kinds.specs.Standing.{Outside, themselves}
use Rattle.tree_kinds.specs.TreeDepths.{depth, is_too_deep}
use Rattle.tree_kinds.specs.TreeLevels.{assumed}
use Rattle.module_kinds.specs.ModuleKinds.{KindState, after, around, beneath, deep_from, deep_in, deep_of, deep_word, found_from, found_in, found_of, known_at, named}
use Rattle.level_spans.specs.LevelSpans.{StandsAt}
use Rattle.level_spans.proofs.DeepTrees.{tree-deep}
use Rattle.level_spans.proofs.LevelTrees.{assumed-stands, tree-stands}

module _ (text : Text) (files : List ℕ → Outside) (words : List ℕ) where
  -- ---- levels

  module _ (P : Span → Type 0) where
    abbrev At : Lexeme → Type 0
    At l = P l.span

    tree-found : (state : KindState) (unit : UnitTree) (x : Tree) → TreeSpans P x → AllByRecursion At (lexemes x) → AllByRecursion (StandsAt P) (found_of text files words state unit x)
    tree-found state unit x spans held = tree-stands P text (known_at text files words state unit) (named text files words state) (around text files words state themselves) x spans held

    unit-found : (state : KindState) (unit : UnitTree) → UnitSpans P unit → AllByRecursion At (unit_lexemes unit) → AllByRecursion (StandsAt P) (found_in text files words state unit)
    unit-found state (OperatorDefinition local x) spans held = tree-found state (OperatorDefinition local x) x spans held
    unit-found state (FunctionDefinition local x) spans held = tree-found state (FunctionDefinition local x) x spans held
    unit-found state (ModuleDefinition local x) spans held = tree-found state (ModuleDefinition local x) x spans held
    unit-found state (Instance local x) spans held = tree-found state (Instance local x) x spans held
    unit-found state (Assumption word name x) spans held =
        all-both (StandsAt P) (found_of text files words state (Assumption word name x) x)
        (assumed text (known_at text files words state (Assumption word name x)) (named text files words state) (around text files words state themselves) x) (tree-found state (Assumption word name x) x spans held)
        (assumed-stands P text (known_at text files words state (Assumption word name x)) (named text files words state) (around text files words state themselves) x spans)
    unit-found state (Theorem word name x) spans held = tree-found state (Theorem word name x) x spans held
    unit-found state _ spans held = tt

    pub units-found : (state : KindState) (units : List UnitTree) → AllByRecursion (UnitSpans P) units → AllByRecursion At (units_lexemes units) → AllByRecursion (StandsAt P) (found_from text files words state units)
    units-found state [] spans held = tt
    units-found state (unit ∷ units) spans held =
        all-both (StandsAt P) (found_in text files words state unit) (found_from text files words (after text files words state unit) units) (unit-found state unit spans.0 (all-left At (unit_lexemes unit) (units_lexemes units) held))
        (units-found (after text files words state unit) units spans.1 (all-right At (unit_lexemes unit) (units_lexemes units) held))

  -- ---- depths

  module _ (P : Lexeme → Type 0) where
    tree-in : (state : KindState) (unit : UnitTree) (x : Tree) → AllByRecursion P (lexemes x) → AllByRecursion P (deep_of text files words state unit x)
    tree-in state unit x held = tree-deep P text (known_at text files words state unit) (named text files words state) (beneath text files words state) x held

    claim-in : (state : KindState) (unit : UnitTree) (word : Lexeme) (x : Tree) → P word → AllByRecursion P (lexemes x) → AllByRecursion P (deep_word text files words state unit word x ++ deep_of text files words state unit x)
    claim-in state unit word x p held =
        all-both P (deep_word text files words state unit word x) (deep_of text files words state unit x)
        (all-either P (is_too_deep (depth text (known_at text files words state unit) (named text files words state) (beneath text files words state) x)) (word ∷ []) [] (p, tt) tt) (tree-in state unit x held)

    unit-in : (state : KindState) (unit : UnitTree) → AllByRecursion P (unit_words unit) → AllByRecursion P (unit_lexemes unit) → AllByRecursion P (deep_in text files words state unit)
    unit-in state (OperatorDefinition local x) spoken held = tree-in state (OperatorDefinition local x) x held
    unit-in state (FunctionDefinition local x) spoken held = tree-in state (FunctionDefinition local x) x held
    unit-in state (ModuleDefinition local x) spoken held = tree-in state (ModuleDefinition local x) x held
    unit-in state (Instance local x) spoken held = tree-in state (Instance local x) x held
    unit-in state (Assumption word name x) spoken held = claim-in state (Assumption word name x) word x spoken.0 held
    unit-in state (Theorem word name x) spoken held = claim-in state (Theorem word name x) word x spoken.0 held
    unit-in state _ spoken held = tt

    pub units-in : (state : KindState) (units : List UnitTree) → AllByRecursion (λ unit. AllByRecursion P (unit_words unit)) units → AllByRecursion P (units_lexemes units) → AllByRecursion P (deep_from text files words state units)
    units-in state [] spoken held = tt
    units-in state (unit ∷ units) spoken held =
        all-both P (deep_in text files words state unit) (deep_from text files words (after text files words state unit) units) (unit-in state unit spoken.0 (all-left P (unit_lexemes unit) (units_lexemes units) held))
        (units-in (after text files words state unit) units spoken.1 (all-right P (unit_lexemes unit) (units_lexemes units) held))
