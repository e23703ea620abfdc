use Rattle.std.proofs.Common.{◌<◌, sym, arith}
use Rattle.tla_lexeme.specs.Lengths.{bare_len}
use Rattle.tla_lexeme.proofs.WordLemmas.{underscore_is}
use Rattle.tla_lexeme.proofs.word.word_lexeme.Goals as goal

pub returns : goal.returns
returns c =
    let pos : 0 < bare_len c.args.text.now = omega (arith, c.requires.bare) in
    sym (underscore_is c.args.text.now c.requires.word (sym c.if-has.ensures) pos)
