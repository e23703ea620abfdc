use Rattle.std.proofs.Common.{◌∙◌, ap}
use Rattle.std.specs.Arc.{arc_value}
use Rattle.tla_model.specs.Entities.{same_decl}
use Rattle.tla_model.specs.Tables.{added}
use Rattle.exact_faces.specs.Found.{decl_of}
use Rattle.exact_faces.proofs.Keys.{row-added, row-stays}
use Rattle.exact_faces.proofs.found.Found.put.Goals as goal

pub returns-then-contains_key : goal.returns-then-contains_key
returns-then-contains_key c =
    row-stays c.self.inside.entries.entries c.args.self.now c.as_str.result.now c.args.decl.now.place (arc_value c.args.table.now) c.self.view_is c.if-contains_key.ensures
    ∙ ap (λ title. added same_decl c.args.self.now (decl_of title c.args.decl.now.place) (arc_value c.args.table.now)) c.as_str.ensures

pub returns : goal.returns
returns c =
    row-added c.self.inside.entries c.args.self.now c.insert.new.self.entries c.as_str.result c.args.decl.now.place c.args.table c.self.view_is c.if-contains_key.ensures c.in_ok-insert.ensures.entries
    ∙ ap (λ title. added same_decl c.args.self.now (decl_of title c.args.decl.now.place) (arc_value c.args.table.now)) c.as_str.ensures
