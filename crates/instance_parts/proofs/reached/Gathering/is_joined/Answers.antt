use Rattle.std.proofs.Common.{◌∙◌, ap, sym}
use Rattle.std.specs.Prelude.{is_some}
use Rattle.std.specs.Str.{bytes_eq}
use Rattle.tla_model.specs.Tables.{lookup}
use Rattle.name_context.specs.AsTables.{words_of}
use Rattle.name_context.proofs.Words.{lookup-words}
use Rattle.instance_parts.specs.Gathered.{told_in}
use Rattle.instance_parts.proofs.Gathers.{taken-is}
use Rattle.instance_parts.proofs.reached.Gathering.is_joined.Goals as goal

pub returns-clause-noted : goal.returns-clause-noted
returns-clause-noted c = c.contains_key.ensures ∙ ap is_some (lookup-words c.args.self.now.joined.entries c.as_str.result.now ∙ ap (lookup bytes_eq (words_of c.args.self.now.joined.entries)) c.as_str.ensures)

pub returns-clause-told : goal.returns-clause-told
returns-clause-told c = λ is.
    let g = c.args.self.now in
    let noted = lookup-words g.joined.entries c.as_str.result.now ∙ ap (lookup bytes_eq (words_of g.joined.entries)) c.as_str.ensures in
    taken-is g.scope.now.imported.now g.scope.now.title.now (words_of g.joined.entries) (told_in g) c.args.face.now c.requires.gathering.sound.faces c.requires.import c.requires.gathering.joined (sym (c.contains_key.ensures ∙ ap is_some noted) ∙ is)
