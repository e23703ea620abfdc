use Rattle.std.proofs.Common.{ap, ◌∙◌}
use Rattle.module_model.specs.Imports.{Imports, import_of}
use Rattle.module_model.proofs.Importing.{lookup-named}
use Rattle.module_model.proofs.imported.Imported.get.Goals as goal

pub returns : goal.returns
returns c =
    c.get.ensures.value ∙ lookup-named c.self.inside.imports.entries c.args.name.now
    ∙ ap (λ (imports : Imports). import_of imports c.args.name.now) c.self.view_is
