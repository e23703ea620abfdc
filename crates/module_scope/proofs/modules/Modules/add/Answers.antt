use Rattle.std.proofs.Common.{◌∙◌, ap, sym}
use Rattle.std.specs.Prelude.{is_some}
use Rattle.std.specs.Str.{bytes_eq}
use Rattle.indexmap.proofs.CallerLemmas.{insert_entry-new}
use Rattle.list_laws.proofs.Options.{none-there}
use Rattle.tla_model.specs.Tables.{added}
use Rattle.module_scope.specs.Entries.{environment_of}
use Rattle.module_scope.proofs.Keeping.{found-kept, kept-new, kept-there}
use Rattle.module_scope.proofs.modules.Modules.add.Goals as goal

pub returns-then-contains_key : goal.returns-then-contains_key
returns-then-contains_key g c =
    let entries = c.self.inside.names.entries in let name = c.args.name.now in
    sym c.self.view_is
    ∙ kept-there (environment_of entries) name c.args.known (sym (c.contains_key.ensures ∙ ap is_some (found-kept entries name)) ∙ c.if-contains_key.true)
    ∙ ap (λ z. added bytes_eq z name c.args.known) c.self.view_is

pub returns : goal.returns
returns g c =
    let entries = c.self.inside.names.entries in let name = c.args.name.now in
    let absent = sym c.contains_key.ensures ∙ c.if-contains_key.false in
    kept-new entries c.insert.new.self.entries c.args.name c.args.known
    (c.in_ok-insert.ensures.entries ∙ insert_entry-new _ c.self.inside.names c.args.name c.args.known (none-there _ absent))
    (sym (ap is_some (found-kept entries name)) ∙ absent)
    ∙ ap (λ z. added bytes_eq z name c.args.known) c.self.view_is
