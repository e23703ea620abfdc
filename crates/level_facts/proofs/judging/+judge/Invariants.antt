use Rattle.std.proofs.Common.{◌+◌, ◌*◌, length, map, max, take}
use Rattle.std.specs.Prelude.{slice_get}
use Rattle.kind_table.specs.Flattened.{flat_of, path_at}
use Rattle.kind_table.specs.Table.{Grows}
use Rattle.kind_table.specs.Weights.{body_cost, heaviest, load, node_cost, times, weight}
use Rattle.level_facts.specs.Facts.{IsFacts}
use Rattle.level_facts.specs.Judged.{EvaluatesAll, Found, ReachesPath, lower_cost_of}
use Rattle.level_facts.proofs.Guards.{Decide}
use Rattle.level_facts.proofs.judging.+judge.Given as goal

abbrev pub decreases-kind_on : goal.decreases-kind_on
decreases-kind_on l = load (flat_of l.flat.now) l.facts.now.arguments.keys l.frame.now + body_cost (flat_of l.flat.now) (slice_get (flat_of l.flat.now).definitions l.definition)

abbrev pub decreases-called : goal.decreases-called
decreases-called l = weight (flat_of l.flat.now) l.facts.now.arguments.keys l.operator + 1

abbrev pub decreases-judged_kind : goal.decreases-judged_kind
decreases-judged_kind l = weight (flat_of l.flat.now) l.facts.now.arguments.keys l.n + 2

abbrev pub decreases-is_met : goal.decreases-is_met
decreases-is_met l = weight (flat_of l.flat.now) l.facts.now.arguments.keys l.n + 3

abbrev pub decreases-are_met : goal.decreases-are_met
decreases-are_met l = load (flat_of l.flat.now) l.facts.now.arguments.keys l.numbers.now + 4

abbrev pub decreases-judge_all : goal.decreases-judge_all
decreases-judge_all l = load (flat_of l.flat.now) l.facts.now.arguments.keys l.frame.now + heaviest (node_cost (flat_of l.flat.now)) (map (λ r. r.root) l.replacements.now) + 4

abbrev pub decreases-lead_through : goal.decreases-lead_through
decreases-lead_through l = max (load (flat_of l.flat.now) l.facts.now.arguments.keys l.reached.now.frame.items) (load (flat_of l.flat.now) l.facts.now.arguments.keys l.reached.now.rest.items) + lower_cost_of (flat_of l.flat.now) l.node + 5

abbrev pub decreases-reach : goal.decreases-reach
decreases-reach l = max (load (flat_of l.flat.now) l.facts.now.arguments.keys l.frame.now) (load (flat_of l.flat.now) l.facts.now.arguments.keys l.numbers.now) + times (length (path_at l.flat.now.paths.items l.path)) (lower_cost_of (flat_of l.flat.now) l.node) + 6

abbrev pub decreases-use_kind : goal.decreases-use_kind
decreases-use_kind l = load (flat_of l.flat.now) l.facts.now.arguments.keys l.frame.now + 2 * lower_cost_of (flat_of l.flat.now) l.node + times (length (path_at l.flat.now.paths.items l.path)) (lower_cost_of (flat_of l.flat.now) l.node) + 7

abbrev pub decreases-direct_kind : goal.decreases-direct_kind
decreases-direct_kind l = load (flat_of l.flat.now) l.facts.now.arguments.keys l.frame.now + 2 * lower_cost_of (flat_of l.flat.now) l.node + 5

abbrev pub decreases-step : goal.decreases-step
decreases-step l = load (flat_of l.flat.now) l.facts.now.arguments.keys l.frame.now + node_cost (flat_of l.flat.now) l.node + 2

abbrev pub decreases-judge : goal.decreases-judge
decreases-judge l = load (flat_of l.flat.now) l.facts.now.arguments.keys l.frame.now + node_cost (flat_of l.flat.now) l.node + 3

abbrev pub invariant-are_met-loop-i : goal.invariant-are_met-loop-i
invariant-are_met-loop-i l = record {
  facts : IsFacts (flat_of l.flat) l.facts;
  grows : Grows l.fn.facts.arguments.keys l.facts.arguments.keys;
  guards : Decide (flat_of l.flat) l.fn.facts.arguments.keys l.instance l.numbers l.i;
}

abbrev pub invariant-judge_all-loop-replacement : goal.invariant-judge_all-loop-replacement
invariant-judge_all-loop-replacement l = record {
  facts : IsFacts (flat_of l.flat) l.facts;
  found : EvaluatesAll (flat_of l.flat) l.fn.facts.arguments.keys l.facts.arguments.keys (map (λ r. r.root) (take l.replacement-index l.replacements)) l.frame l.numbers.items;
}

abbrev pub invariant-reach-loop-instance : goal.invariant-reach-loop-instance
invariant-reach-loop-instance l = record {
  facts : IsFacts (flat_of l.flat) l.facts;
  reaches : ReachesPath (flat_of l.flat) l.fn.facts.arguments.keys l.facts.arguments.keys l.node (take l.instance-index (path_at l.flat.paths.items l.path)) l.frame l.numbers l.reached;
}

abbrev pub invariant-judge-loop-i : goal.invariant-judge-loop-i
invariant-judge-loop-i l = record {
  facts : IsFacts (flat_of l.flat) l.facts;
  grows : Grows l.fn.facts.arguments.keys l.facts.arguments.keys;
  found : Found (flat_of l.flat) l.facts.arguments.keys l.start l.i l.frame l.found.items;
}
