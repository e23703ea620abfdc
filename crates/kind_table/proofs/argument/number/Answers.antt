use Rattle.std.proofs.Common.{◌≡◌, sym, subst}
use Rattle.kind_table.specs.Table.{AddsOnly, Grows}
use Rattle.kind_table.proofs.Growth.{grows_not}
use Rattle.kind_table.proofs.Equality.{adds-insert, adds-nothing, arg-exact, grows-insert}
use Rattle.kind_table.proofs.argument.number.Goals as goal

pub returns-clause-stored : goal.returns-clause-stored
returns-clause-stored c = let e = c.in_ok-n.ensures.stored in arg-exact c.insert_full.new.self.keys c.in_ok-n.n c.args.arg e.0 e.1 e.2

pub returns-clause-grows : goal.returns-clause-grows
returns-clause-grows c = grows-insert c.args.arguments.now.keys _ c.args.arg c.requires.table c.requires.arg c.in_ok-n.ensures.keys

pub returns-in_err-n-clause-grows : goal.returns-in_err-n-clause-grows
returns-in_err-n-clause-grows c = subst (λ x. Grows c.args.arguments.now.keys x) (sym c.in_err-n.ensures.err) (grows_not c.args.arguments.now.keys c.requires.table)

pub returns-clause-only : goal.returns-clause-only
returns-clause-only c = adds-insert c.args.arguments.now.keys _ c.args.arg c.in_ok-n.ensures.keys

pub returns-in_err-n-clause-only : goal.returns-in_err-n-clause-only
returns-in_err-n-clause-only c = subst (AddsOnly (λ x. x ≡ c.args.arg) c.args.arguments.now.keys) (sym c.in_err-n.ensures.err) (adds-nothing (λ x. x ≡ c.args.arg) c.args.arguments.now.keys)
