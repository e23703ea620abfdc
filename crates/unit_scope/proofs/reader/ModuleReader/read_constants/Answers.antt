use Rattle.std.proofs.Common.{subst, sym}
use Rattle.std.specs.Prelude.{map}
use Rattle.tla_tree.specs.Arena.{tree_at}
use Rattle.tla_tree.specs.Syntax.{trees}
use Rattle.tla_model.specs.Lexemes.{LiesIn}
use Rattle.tla_model.specs.declared.names.Binding.TheVariants as as_binding
use Rattle.tree_names.specs.BindersInText.{BindersLie}
use Rattle.unit_scope.proofs.Lexemes.{placed-lie}
use Rattle.unit_scope.proofs.UnitParts.{constants-read}
use Rattle.unit_scope.proofs.reader.ModuleReader.read_constants.Goals as goal

pub read_declarations-requires : goal.read_declarations-requires
read_declarations-requires c =
    subst (BindersLie c.args.text.now.source) (sym c.in_ok-binders.ensures) (placed-lie (LiesIn c.args.text.now.source) as_binding.Constant (trees (map (tree_at c.args.tree.now) c.args.nodes.now)) c.requires.lie)

pub returns : goal.returns
returns c =
    let read = c.in_ok-read_declarations.ensures in
    constants-read c.args.text.now c.args.self.now c.read_declarations.new.self c.args.findings.now c.read_declarations.new.findings c.in_ok-binders.binders read.state read.findings
    (trees (map (tree_at c.args.tree.now) c.args.nodes.now)) c.in_ok-binders.ensures
