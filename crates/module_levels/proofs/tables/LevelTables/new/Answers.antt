use Rattle.std.proofs.Common.{ap, subst, sym}
use Rattle.level_facts.specs.Facts.{IsFacts}
use Rattle.node_depths.specs.Capped.{IsDepths}
use Rattle.module_leads.specs.There.{AllLeadWithin}
use Rattle.module_leads.proofs.Led.{nothing-there}
use Rattle.module_levels.proofs.tables.LevelTables.new.Goals as goal

pub returns-clause-kept : goal.returns-clause-kept
returns-clause-kept c =
    let flat = c.new-state.result.flat in
    record {
      between = record {
        leads = ap (λ known. known.leads) c.new-3.ensures.known;
        round = ap (λ known. known.round) c.new-3.ensures.known;
        sound = c.new-3.ensures.sound;
        within = subst (AllLeadWithin flat) (sym c.new-3.ensures.known) (nothing-there flat);
        locals = c.new-state.ensures.locals;
      };
      ordered = c.as_flat.ensures.ordered;
      facts = subst (λ f. IsFacts f c.in_ok-facts.facts) c.as_flat.ensures.tables c.in_ok-facts.ensures;
      depths = subst (λ f. IsDepths f c.in_ok-depths.depths.nodes.items) c.as_flat-2.ensures.tables c.in_ok-depths.ensures;
      frames = c.new-state.ensures.frames;
      asked = c.new-state.ensures.asked;
    }
