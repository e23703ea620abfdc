use Rattle.std.proofs.Common.{subst, sym}
use Rattle.std.specs.Prelude.{IfSome}
use Rattle.family_tables.specs.Modules.{IsTreeOf}
use Rattle.family_read.proofs.ModulesRead.{tree-of}
use Rattle.family_read.proofs.read.read_module.Goals as goal

pub needs_of-requires : goal.needs_of-requires
needs_of-requires c =
    let read = c.in-Ok.ensures.tree in
    (tree-of c.args.name.now c.args.bytes.now c.in-Ok.tree read.0 read.1 read.2 c.in-Ok.ensures.lexemes c.in-Ok.ensures.few).readable

pub returns-in_ok-module-in-Ok : goal.returns-in_ok-module-in-Ok
returns-in_ok-module-in-Ok c =
    let read = c.in-Ok.ensures.tree in
    let is = tree-of c.args.name.now c.args.bytes.now c.in-Ok.tree read.0 read.1 read.2 c.in-Ok.ensures.lexemes c.in-Ok.ensures.few in
    c.in_ok-module-in-Ok.ensures c.args.name.now c.args.bytes.now (subst (IsTreeOf c.args.name.now c.args.bytes.now) (sym c.in_ok-tree-in-Ok.ensures) is)

pub returns-in-Some : goal.returns-in-Some
returns-in-Some c = c.in_ok-module.ensures c.args.name.now c.args.bytes.now (subst (λ kept. IfSome kept (IsTreeOf c.args.name.now c.args.bytes.now)) c.in-Some.is c.in_ok-tree.ensures)
