use Rattle.name_exports.proofs.Over.{taken-over}
use Rattle.name_exports.proofs.names.Names.take_words.Goals as goal

pub returns-clause-taken : goal.returns-clause-taken
returns-clause-taken c = λ yes.
    let can = c.if-not-can_take.ensures yes in
    taken-over c.args.self.now (record { context = c.take-2.new.self; exports = c.take.new.self }) c.args.table.now.words can can.once (c.if-not-has_no_word.ensures yes) c.take-2.ensures c.take.ensures
