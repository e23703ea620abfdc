use Rattle.std.proofs.Common.{refl}
use Rattle.std.proofs.lemmas.Result.{on_ok_weaker}
use Rattle.unit_flattener.proofs.Onward.{quiet-walked}
use Rattle.unit_flattener.proofs.flattener.UnitFlattener.pass.Goals as goal

pub returns : goal.returns
returns c =
    let old = c.args.self.now in
    on_ok_weaker c.pass.result
    (quiet-walked c.args.written.now old (record old { reader = c.pass.new.self }) (record { files = refl; modules = refl; own = refl; frame = refl; round = refl }) refl refl c.args.unit.now c.requires.quiet)
    c.pass.ensures.state
