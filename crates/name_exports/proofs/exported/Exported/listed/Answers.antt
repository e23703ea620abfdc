use Rattle.std.proofs.Common.{[]}
use Rattle.std.specs.Str.{bytes_eq}
use Rattle.tla_model.proofs.Stretching.{new-alone}
use Rattle.name_context.specs.AsTables.{taken_words, words_of}
use Rattle.name_exports.proofs.exported.Exported.listed.Goals as goal

pub owned-requires : goal.owned-requires
owned-requires c = new-alone bytes_eq [] (taken_words c.self.inside.taken) (words_of c.self.inside.words.entries) c.self.invariant.0
