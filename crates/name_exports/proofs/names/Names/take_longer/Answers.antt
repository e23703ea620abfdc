use Rattle.name_exports.proofs.There.{longer-brought}
use Rattle.name_exports.proofs.names.Names.take_longer.Goals as goal

pub returns-clause-taken : goal.returns-clause-taken
returns-clause-taken c = λ yes.
    longer-brought c.args.self.now c.args.table.now.words c.args.count c.requires (record { context = c.take_instead.new.self; exports = c.take.new.self })
    (c.if-not-has_at_most.ensures yes) (c.if-not-has_at_most_behind.ensures yes) c.take_instead.ensures c.take.ensures
