use Rattle.std.proofs.Common.{subst, sym}
use Rattle.tla_model.specs.Lexemes.{LiesIn}
use Rattle.tree_names.specs.BindersInText.{BindersLie}
use Rattle.unit_scope.proofs.Lexemes.{variables-lie}
use Rattle.unit_scope.proofs.UnitParts.{variables-read}
use Rattle.unit_scope.proofs.reader.ModuleReader.read_variables.Goals as goal

pub read_declarations-requires : goal.read_declarations-requires
read_declarations-requires c = subst (BindersLie c.args.text.now.source) (sym c.in_ok-binders.ensures) (variables-lie (LiesIn c.args.text.now.source) c.args.names.now c.requires)

pub returns : goal.returns
returns c =
    let read = c.in_ok-read_declarations.ensures in
    variables-read c.args.text.now c.args.self.now c.read_declarations.new.self c.args.findings.now c.read_declarations.new.findings c.in_ok-binders.binders read.state read.findings c.args.names.now c.in_ok-binders.ensures
