use Rattle.std.proofs.Common.{sym, subst}
use Rattle.kind_table.specs.Flattened.{flat_of}
use Rattle.level_facts.specs.Facts.{Remembers}
use Rattle.level_facts.proofs.Keeping.{kept-insert}
use Rattle.level_facts.proofs.facts.keep.Goals as goal

pub returns-clause-facts : goal.returns-clause-facts
returns-clause-facts c = record {
  firsts = c.requires.facts.firsts;
  table = c.requires.facts.table;
  bodies = c.requires.facts.bodies;
  kept = subst (λ es. Remembers (flat_of c.args.flat.now) c.args.facts.now.arguments.keys c.args.facts.now.frames.keys es) (sym c.in_ok-insert.ensures.entries)
      (kept-insert (flat_of c.args.flat.now) c.args.facts.now.arguments.keys c.args.facts.now.frames.keys c.args.facts.now.kept.entries c.args.key c.args.kind c.requires.facts.kept c.requires.kept);
}
