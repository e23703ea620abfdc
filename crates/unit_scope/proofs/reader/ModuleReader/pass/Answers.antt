use Rattle.std.proofs.Common.{[], ◌∷◌}
use Rattle.unit_grammar.specs.UnitNodes.{unit_at}
use Rattle.unit_scope.proofs.Onward.{somewhere-on}
use Rattle.unit_scope.proofs.UnitParts.{on-one}
use Rattle.unit_scope.proofs.reader.ModuleReader.pass.Goals as goal

pub returns-clause-somewhere : goal.returns-clause-somewhere
returns-clause-somewhere c =
    on-one c.pass_unit.result _ _ (somewhere-on c.args.text.now c.args.self.now c.pass_unit.new.self (unit_at c.args.tree.now c.args.unit.now ∷ []) c.requires.somewhere) c.pass_unit.ensures
