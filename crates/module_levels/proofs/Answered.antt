-- What is found where something is too deep, and where nothing is.
use Rattle.std.proofs.Common.{◌≡◌, ℕ, List, [], ◌∷◌, refl, sym, ap, ◌∙◌, length}
use Rattle.std.specs.Prelude.{nat_eq}
use Rattle.indexmap.specs.IndexMap.{get}
use Rattle.tla_model.specs.declared.Diagnostic.{Diagnostic}
use Rattle.tla_symbols.specs.declared.lexeme.Lexeme.{Lexeme}
use Rattle.tree_kinds.specs.TreeLevels.{LevelFinding}
use Rattle.module_kinds.specs.ModuleKinds.{depth_faults, level_faults, level_of, or_levels}
use Rattle.kind_text.specs.FlatModule.{FlatModule}
use Rattle.flattened_trees.specs.Answers.{deep_answers, level_answers}
use Rattle.flattened_trees.specs.Questions.{Question}
use Rattle.found_levels.specs.Findings.{or_constant}
use Rattle.module_levels.specs.Kept.{IsAnswered}
use Rattle.module_levels.specs.declared.levels.ModuleLevels.{ModuleLevels}

-- faults of depth are all
deep-alone : (deep : List Lexeme) (others : List Diagnostic) → (length deep ≡ 0 → ⊥) → or_levels (depth_faults deep) others ≡ depth_faults deep
deep-alone [] others some = absurd (some refl)
deep-alone (l ∷ rest) others some = refl

deep-faults : (deep : List Lexeme) → (length deep ≡ 0 → ⊥) → depth_faults deep ≡ [] → ⊥
deep-faults [] some none = some refl
deep-faults (l ∷ rest) some none = cc

-- faults of levels are, where there are none
high-alone : (deep : List Lexeme) (others : List Diagnostic) → length deep ≡ 0 → or_levels (depth_faults deep) others ≡ others
high-alone [] others none = refl
high-alone (l ∷ rest) others none = cc

module _ (flat : FlatModule) (asked : List Question) (found : ModuleLevels) (deep : List Lexeme) (is : deep ≡ deep_answers flat asked) where
  pub deep-answered : (length deep ≡ 0 → ⊥) → found.faults ≡ depth_faults deep → IsAnswered flat asked found
  deep-answered some faults = record {
    faults = faults ∙ sym (deep-alone deep (level_faults (level_answers flat asked)) some) ∙ ap (λ ls. or_levels (depth_faults ls) (level_faults (level_answers flat asked))) is;
    levels = λ none. absurd (deep-faults deep some (sym faults ∙ none));
  }

  pub high-answered : (findings : List LevelFinding) → findings ≡ level_answers flat asked → length deep ≡ 0 → found.faults ≡ level_faults findings → ((start : ℕ) → or_constant (get nat_eq found.levels start) ≡ level_of findings start) → IsAnswered flat asked found
  high-answered findings answers none faults levels = record {
    faults = faults ∙ ap level_faults answers ∙ sym (high-alone deep (level_faults (level_answers flat asked)) none) ∙ ap (λ ls. or_levels (depth_faults ls) (level_faults (level_answers flat asked))) is;
    levels = λ none start. levels start ∙ ap (λ fs. level_of fs start) answers;
  }
