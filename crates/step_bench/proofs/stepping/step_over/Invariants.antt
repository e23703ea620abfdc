use Rattle.std.proofs.Common.{◌≡◌, ◌-◌, ◌*◌, ◌≤◌, [], length, take}
use Rattle.expr_parse.specs.declared.goal.Goal.{Goal}
use Rattle.expr_parse.specs.MachineMeaning.{HasRead, IsReady}
use Rattle.step_bench.specs.Stepping.{AllGoOn}
use Rattle.step_bench.proofs.stepping.step_over.Given as goal

abbrev pub invariant-loop-count : goal.invariant-loop-count
invariant-loop-count l = record {
  within : l.count ≤ length l.lexemes;
  goal : l.machine.goal ≡ Goal.Expression;
  ready : IsReady l.tree l.machine;
  read : HasRead l.tree l.machine 0 (take l.count l.lexemes);
  going : AllGoOn [] (take l.count l.lexemes);
  few : length l.tree ≤ 8 * l.count;
}

abbrev pub decreases-loop-count : goal.decreases-loop-count
decreases-loop-count l = length l.lexemes - l.count
