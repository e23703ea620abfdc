use Rattle.std.proofs.Common.{arith}
use Rattle.kind_table.specs.Flattened.{flat_of}
use Rattle.kind_table.proofs.TableEntries.{nodes-long}
use Rattle.found_levels.proofs.Covering.{covers-to, stretch-to, there-in}
use Rattle.found_levels.proofs.stretches.stretch_over.Goals as goal

pub kinds_over_frame-requires-clause-end : goal.kinds_over_frame-requires-clause-end
kinds_over_frame-requires-clause-end c = let n = nodes-long c.args.flat.now in omega (arith, n, c.requires.there)

pub returns-clause-kinds : goal.returns-clause-kinds
returns-clause-kinds c = stretch-to (flat_of c.args.flat.now) c.args.frame.now _ c.args.node c.beginning-start.ensures.before (there-in c.args.flat.now c.args.node c.requires.there) c.in_ok-kinds.ensures.kinds

pub returns-clause-covers : goal.returns-clause-covers
returns-clause-covers c = covers-to (flat_of c.args.flat.now) c.args.frame.now _ c.args.node c.beginning-start.ensures.before c.in_ok-kinds.ensures.kinds c.beginning-start.ensures.begins
