use Rattle.std.proofs.Common.{◌≡◌, drop, take}
use Rattle.std.specs.Str.{bytes_eq}
use Rattle.tla_model.specs.Stretches.{all_words}
use Rattle.tla_model.specs.Tables.{lookup}
use Rattle.tla_model.proofs.table.NameTable.word_among.Given as goal

abbrev pub invariant-loop-stretch : goal.invariant-loop-stretch
invariant-loop-stretch l = lookup bytes_eq (take l.left (all_words (drop l.stretch-index l.stretch-items))) l.word ≡ lookup bytes_eq (take l.count l.self.words) l.word
