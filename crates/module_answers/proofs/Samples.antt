-- A module with a nested one that defines a name, and an instance of that: so all that is asked of levels and of depths in modules can be met.
use Rattle.std.proofs.Common.{◌≡◌, inl, ℕ, List, [], refl, subst}
use Rattle.tla_symbols.specs.declared.lexeme.Lexeme.{Lexeme}
use Rattle.tla_model.specs.Entities.{Meaning}
use Rattle.tla_model.specs.Tables.{Named}
use Rattle.module_scope.specs.Environments.{first as first_scope}
use Rattle.module_model.specs.Modules.{text_of}
use Rattle.module_model.specs.Resolution.{words_of}
use Rattle.module_kinds.specs.ModuleKinds.{first, level_findings, too_deep}
use Rattle.flat_trees.specs.Stands.{Stand, Unsaid}
use Rattle.flattened_trees.specs.Answers.{deep_answers, level_answers}
use Rattle.flattened_units.specs.Units.{Reader}
use Rattle.module_meanings.specs.Premises.{first_seen}
use Rattle.module_meanings.proofs.Samples.{asked, files, flat, given, implied, made, means, ordered, outsides, reader4, source, units}
use Rattle.module_answers.specs.Deep.{IsBegunArranged, IsModuleArranged}
use Rattle.module_answers.specs.Shaped.{IsModuleShaped}
use Rattle.module_answers.proofs.Deepening.{module-names}
use Rattle.module_answers.proofs.Levels.{module-found}

shaped : IsModuleShaped flat means implied files outsides source units [] reader4 asked made
shaped = (tt, ((tt, tt), (tt, ((refl, tt), tt))))

pub levels-found : level_answers flat asked ≡ level_findings outsides source units
levels-found = module-found flat ordered means implied files outsides source units [] reader4 asked made given shaped

-- ---- depths

abbrev reader0 : Reader
reader0 = record { setting = record { leads = made.0; frame = []; olds = [] }; round = []; faces = first_scope (text_of source units).file }

begins : (dashes name : Lexeme) (own : List Meaning) → [] ≡ own → IsBegunArranged flat (text_of source units) means implied files outsides (words_of units) (first outsides source units) reader0 (first_seen flat means implied files outsides source units []) own dashes name []
begins dashes name own e =
    subst (λ (ms : List Meaning). IsBegunArranged flat (text_of source units) means implied files outsides (words_of units) (first outsides source units) reader0 (first_seen flat means implied files outsides source units []) ms dashes name []) e
    (record { plain = tt; extended = tt; stay = λ m is. inl tt })

-- nothing is said of files
abbrev inside : List ℕ → Named → Stand
inside title name = Unsaid

arranged : IsModuleArranged flat means implied files outsides source units [] reader4 asked made
arranged = record { extended = tt; arranged = ((λ own e. begins _ _ own e), ((inside, (refl, ((refl, tt), tt))), (tt, ((inside, (refl, (refl, refl), tt, tt)), tt)))) }

pub depths-found : deep_answers flat asked ≡ too_deep outsides source units
depths-found = module-names flat ordered means implied files outsides source units [] reader4 asked made given arranged
