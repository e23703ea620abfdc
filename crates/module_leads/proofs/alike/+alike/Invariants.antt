use Rattle.std.proofs.Common.{◌+◌, ◌*◌}
use Rattle.kind_table.specs.Flattened.{flat_of}
use Rattle.module_leads.specs.Alike.{AreKnown, known_face, module_at, names_at}
use Rattle.module_leads.proofs.Telling.{EachFrom, rank}
use Rattle.module_leads.proofs.alike.+alike.Given as goal

abbrev pub decreases-leads_alike : goal.decreases-leads_alike
decreases-leads_alike l = 8 * rank l.one + 6

abbrev pub decreases-names_alike : goal.decreases-names_alike
decreases-names_alike l = 8 * rank l.one + 5

abbrev pub decreases-each_alike : goal.decreases-each_alike
decreases-each_alike l = 8 * rank l.one + 4

abbrev pub decreases-name_alike : goal.decreases-name_alike
decreases-name_alike l = 8 * rank l.one + 3

abbrev pub decreases-ways_alike : goal.decreases-ways_alike
decreases-ways_alike l = 8 * l.one + 10

abbrev pub decreases-behind_alike : goal.decreases-behind_alike
decreases-behind_alike l = 8 * l.one + 7

abbrev pub decreases-through_alike : goal.decreases-through_alike
decreases-through_alike l = 8 * l.one + 7

abbrev pub invariant-each_alike-loop-index : goal.invariant-each_alike-loop-index
invariant-each_alike-loop-index l = record {
  known : AreKnown (flat_of l.flat) l.numbers l.faces l.known.keys;
  each : EachFrom (flat_of l.flat) l.numbers (known_face l.faces l.one) (known_face l.faces l.other) (names_at l.sort (module_at l.faces l.named)) l.index;
}
