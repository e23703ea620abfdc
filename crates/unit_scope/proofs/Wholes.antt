-- A module behind what it extends, and behind its units.
use Rattle.std.proofs.Common.{◌≡◌, ℕ, List, ◌∙◌}
use Rattle.unit_grammar.specs.Units.{ModuleUnits}
use Rattle.tla_model.specs.Entities.{Text}
use Rattle.module_model.specs.Exports.{files_of}
use Rattle.module_model.specs.Imports.{Imports}
use Rattle.module_model.specs.Modules.{text_of}
use Rattle.module_model.specs.NamedModules.{known_from_all}
use Rattle.module_model.specs.Resolution.{first, last, module_named, read_all, with_known, words_of}
use Rattle.unit_scope.specs.Steps.{behind_units, extended_with, extending, over_for, unread_state}
use Rattle.unit_scope.proofs.Onward.{extended-known}

module _ (text : Text) (imports : Imports) (source : List ℕ) (units : ModuleUnits) (is : text ≡ text_of source units) where
  pub at-first : extended_with text units.extends (over_for imports units) (unread_state text) ≡ first (files_of imports) source units
  at-first =
      extended-known text units.extends (over_for imports units) (unread_state text)
      ∙ (λ i. with_known (is i) (files_of imports) (words_of units) (extending (is i) units.extends (over_for imports units) (unread_state (is i)))
      (known_from_all (is i) (module_named (is i) (files_of imports) (words_of units) (extending (is i) units.extends (over_for imports units) (unread_state (is i)))) units.extends))

  pub at-last : behind_units text units.units (over_for imports units) (first (files_of imports) source units) ≡ last (files_of imports) source units
  at-last = λ i. read_all (is i) (files_of imports) (words_of units) (first (files_of imports) source units) units.units
