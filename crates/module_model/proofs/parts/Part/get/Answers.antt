use Rattle.std.proofs.Common.{ap, ◌∙◌}
use Rattle.std.specs.Prelude.{nat_eq}
use Rattle.std.specs.Arc.{arc_value}
use Rattle.std.specs.Option.{option_map}
use Rattle.tla_model.specs.Tables.{lookup}
use Rattle.module_model.specs.Parts.{InText}
use Rattle.module_model.proofs.PartTables.{lookup-place, shown-copied}
use Rattle.module_model.proofs.parts.Part.get.Goals as goal

pub returns : goal.returns
returns c =
    shown-copied c.get.result ∙ ap (option_map (λ x. arc_value x)) c.get.ensures.value ∙ lookup-place c.self.inside.instances.entries c.args.place
    ∙ ap (λ (instances : InText). lookup nat_eq instances c.args.place) c.self.view_is
