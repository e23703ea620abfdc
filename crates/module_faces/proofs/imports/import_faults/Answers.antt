use Rattle.std.proofs.Common.{◌∙◌}
use Rattle.unit_grammar.specs.UnitNodes.{module_of}
use Rattle.module_faces.proofs.NamesInText.{names-lie}
use Rattle.module_faces.proofs.imports.import_faults.Goals as goal

pub push_faults-requires : goal.push_faults-requires
push_faults-requires c =
    names-lie c.args.tree.now.source _ (module_of c.args.tree.now) _ _ c.requires.readable.lie (c.imports_are_lexemes.ensures c.args.tree.now.source (module_of c.args.tree.now)) c.as_str.ensures
    (c.as_slice.ensures ∙ c.requires.named.needed)
