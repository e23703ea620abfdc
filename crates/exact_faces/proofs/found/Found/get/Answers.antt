use Rattle.std.proofs.Common.{◌∙◌, ap}
use Rattle.std.specs.Prelude.{option_map}
use Rattle.tla_model.specs.Entities.{same_decl}
use Rattle.tla_model.specs.Tables.{lookup}
use Rattle.exact_faces.specs.Found.{decl_of}
use Rattle.exact_faces.proofs.Keys.{lookup-row, value_of}
use Rattle.exact_faces.proofs.found.Found.get.Goals as goal

pub returns-in-Some : goal.returns-in-Some
returns-in-Some c =
    ap (option_map value_of) c.in-Some.ensures.value ∙ lookup-row c.self.inside.entries.entries c.args.«module».now c.args.place
    ∙ (λ i. lookup same_decl (c.self.view_is i) (decl_of c.args.«module».now c.args.place))

pub returns-in-None : goal.returns-in-None
returns-in-None c =
    ap (option_map value_of) c.in-None.ensures.value ∙ lookup-row c.self.inside.entries.entries c.args.«module».now c.args.place
    ∙ (λ i. lookup same_decl (c.self.view_is i) (decl_of c.args.«module».now c.args.place))
