use Rattle.std.proofs.Common.{ap, sym, ◌∙◌}
use Rattle.std.specs.Arc.{arc_value}
use Rattle.std.specs.Prelude.{nat_eq}
use Rattle.std.specs.Str.{bytes_eq}
use Rattle.std.specs.declared.sync.Arc.{Arc}
use Rattle.tla_model.specs.Tables.{lookup}
use Rattle.std.specs.Option.{option_map}
use Rattle.module_model.specs.Parts.{ByText, InText, by_text, in_part, reached}
use Rattle.module_model.proofs.PartTables.{copied-text, lookup-text, no-text}
use Rattle.module_model.proofs.parts.Parts.get.Goals as goal

pub returns-in-Some : goal.returns-in-Some
returns-in-Some c =
    c.get-in-Some.ensures
    ∙ ap (λ (part : InText). lookup nat_eq part c.args.decl.now.place) c.deref.ensures
    ∙ ap (λ found. in_part found c.args.decl.now.place) (sym (copied-text c.get.result c.in-Some.part c.in-Some.is) ∙ ap (option_map (λ (x : Arc InText _). arc_value x)) c.get.ensures.value ∙ lookup-text c.self.inside.texts.entries c.as_str.result.now ∙ ap (λ title. lookup bytes_eq (by_text c.self.inside.texts.entries) title) c.as_str.ensures)
    ∙ ap (λ (parts : ByText). reached parts c.args.decl.now) c.self.view_is

pub returns-in-None : goal.returns-in-None
returns-in-None c =
    ap (λ found. in_part found c.args.decl.now.place) (sym (no-text c.get.result c.in-None.is) ∙ ap (option_map (λ (x : Arc InText _). arc_value x)) c.get.ensures.value ∙ lookup-text c.self.inside.texts.entries c.as_str.result.now ∙ ap (λ title. lookup bytes_eq (by_text c.self.inside.texts.entries) title) c.as_str.ensures)
    ∙ ap (λ (parts : ByText). reached parts c.args.decl.now) c.self.view_is
