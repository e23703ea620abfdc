use Rattle.std.proofs.Common.{refl}
use Rattle.list_laws.proofs.Options.{holds-on-err}
use Rattle.kind_table.specs.Flattened.{flat_of}
use Rattle.level_facts.proofs.Extending.{extended, facts_stay}
use Rattle.level_facts.proofs.facts.KindFacts.extend.Goals as goal

pub returns-clause-extended : goal.returns-clause-extended
returns-clause-extended c = λ before more ordered h. extended before (flat_of c.args.flat.now) more ordered c.args.self.now _ h refl refl refl c.in_ok-extend_first_nodes.ensures.firsts

pub returns-in_err-extend_first_nodes-clause-kept : goal.returns-in_err-extend_first_nodes-clause-kept
returns-in_err-extend_first_nodes-clause-kept c = holds-on-err c.from_residual.result (λ before h. facts_stay before c.args.self.now _ h refl refl refl c.in_err-extend_first_nodes.ensures.kept)
