use Rattle.std.proofs.Common.{take}
use Rattle.unit_parse.specs.NodeCounts.{IsFew}
use Rattle.unit_parse.proofs.Parsing.{HasRead}
use Rattle.unit_parse.proofs.parse.parse_module.Given as goal

abbrev pub invariant-loop-index : goal.invariant-loop-index
invariant-loop-index l = record {
  read : HasRead l.tree l.state (take l.index l.lexemes);
  few : IsFew l.tree l.state l.index;
}
