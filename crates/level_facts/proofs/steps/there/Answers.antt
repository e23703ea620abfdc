use Rattle.std.proofs.Common.{refl, arith}
use Rattle.kind_table.proofs.TableEntries.{nodes-long}
use Rattle.level_facts.proofs.steps.there.Goals as goal

pub returns-then-body-len : goal.returns-then-body-len
returns-then-body-len c = let n = nodes-long c.args.flat.now in (refl, omega (arith, n, c.if-body-len.true, c.len.ensures, c.args.flat.now.nodes.ok.0))

pub returns : goal.returns
returns c = let n = nodes-long c.args.flat.now in omega (arith, n, c.if-body-len.false, c.len.ensures, c.args.flat.now.nodes.ok.0)
