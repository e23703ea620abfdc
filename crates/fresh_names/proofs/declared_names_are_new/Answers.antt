use Rattle.std.proofs.Common.{◌++◌, ◌∷◌, arith}
use Rattle.tla_model.specs.Entities.{declaring}
use Rattle.module_model.specs.Modules.{text_of}
use Rattle.lexeme_laws.specs.Apart.{begins_at}
use Rattle.fresh_names.specs.Seen.{symbols_in}
use Rattle.fresh_names.proofs.Kept.{all-wider, tree-names, tree-others}
use Rattle.fresh_names.proofs.Units.{unit-fresh}
use Rattle.fresh_names.proofs.declared_names_are_new.Goals as goal

pub returns-clause-own : goal.returns-clause-own
returns-clause-own c = λ name bytes found before behind unit x seen front units own elsewhere.
    unit-fresh bytes found
    (λ start. omega (arith, c.lexemes_are_held_once.ensures.declared (begins_at start) found, c.names_begin_apart.ensures.held name bytes found front start))
    before behind unit x seen units own elsewhere

pub returns-clause-trees : goal.returns-clause-trees
returns-clause-trees c = λ name bytes found before behind unit x seen front units tree elsewhere.
    unit-fresh bytes found
    (λ start. omega (arith, c.lexemes_are_held_once.ensures.declared (begins_at start) found, c.names_begin_apart.ensures.held name bytes found front start))
    before behind unit x seen units (tree-names unit x tree)
    (all-wider (text_of bytes found) (declaring before ++ symbols_in (unit ∷ behind)) (declaring before ++ declaring behind)
    (tree-others (text_of bytes found) before behind unit x tree) seen elsewhere)
