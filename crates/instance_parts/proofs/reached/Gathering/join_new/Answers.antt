use Rattle.std.proofs.Common.{[], ◌≡◌, ◌∙◌, ◌++◌, ◌∷◌, ap, refl}
use Rattle.indexmap.proofs.CallerLemmas.{insert_entry-new}
use Rattle.name_context.specs.AsTables.{words_of}
use Rattle.name_context.proofs.Words.{lookup-words, words-append}
use Rattle.std.specs.Str.{bytes_eq}
use Rattle.tla_model.specs.Tables.{lookup}
use Rattle.instance_parts.specs.Gathered.{told_in}
use Rattle.instance_parts.specs.Gathering.{told_by}
use Rattle.instance_parts.proofs.Gathers.{join-all, join-gathered, join-grown, taken-more}
use Rattle.instance_parts.proofs.reached.Gathering.join_new.Goals as goal

pub returns-clause-gathering : goal.returns-clause-gathering
returns-clause-gathering c =
    let g = c.args.self.now in
    let face = c.args.face.now in
    let name = c.as_str.ensures in
    let words : words_of c.insert.new.self.entries ≡ words_of g.joined.entries ++ (face.«module», tt) ∷ [] =
    ap words_of (c.in_ok-insert.ensures.entries ∙ insert_entry-new _ g.joined c.as_str.result tt (lookup-words g.joined.entries c.as_str.result.now ∙ ap (lookup bytes_eq (words_of g.joined.entries)) name ∙ c.requires.new))
    ∙ words-append g.joined.entries (c.as_str.result, tt) ∙ ap (λ z. words_of g.joined.entries ++ (z, tt) ∷ []) name in
    record {
      sound = c.requires.gathering.sound;
      gathered = join-gathered g.scope.now c.requires.gathering.sound g.own g.parts g.seen.items c.requires.gathering.gathered face c.requires.import c.join.new.self c.in_ok-join.ensures;
      joined = taken-more g.scope.now.imported.now g.scope.now.title.now (words_of g.joined.entries) (words_of c.insert.new.self.entries) (told_in g) (told_by g.scope.now.title.now g.own c.join.new.self) g.seen.items g.seen.items face c.requires.gathering.sound.faces c.requires.import
          (join-grown g.scope.now c.requires.gathering.sound g.own g.parts g.seen.items c.requires.gathering.gathered face c.requires.import c.join.new.self c.in_ok-join.ensures)
          (join-all g.scope.now c.requires.gathering.sound g.own g.parts g.seen.items c.requires.gathering.gathered face c.requires.import c.join.new.self c.in_ok-join.ensures) c.requires.gathering.joined words;
      count = c.requires.gathering.count;
    }

pub returns-clause-grown : goal.returns-clause-grown
returns-clause-grown c =
    record { scope = refl; grown = join-grown c.args.self.now.scope.now c.requires.gathering.sound c.args.self.now.own c.args.self.now.parts c.args.self.now.seen.items c.requires.gathering.gathered c.args.face.now c.requires.import c.join.new.self c.in_ok-join.ensures }

pub returns-clause-told : goal.returns-clause-told
returns-clause-told c =
    join-all c.args.self.now.scope.now c.requires.gathering.sound c.args.self.now.own c.args.self.now.parts c.args.self.now.seen.items c.requires.gathering.gathered c.args.face.now c.requires.import c.join.new.self c.in_ok-join.ensures
