use Rattle.std.proofs.Common.{[], ◌++◌, None, ap, ◌∙◌}
use Rattle.std.specs.Prelude.{nat_eq, unwrap_or}
use Rattle.std.proofs.lemmas.List.{take_all}
use Rattle.indexmap.specs.IndexMap.{get}
use Rattle.readable_laws.specs.Uses.{implied_at, implied_by}
use Rattle.written_names.specs.Names.{means_there}
use Rattle.written_names.proofs.Keeping.{kept, kept-is, means-more, stands-more}
use Rattle.written_names.proofs.names.written_names.Goals as goal

pub loop-finding-preserved : goal.loop-finding-preserved
loop-finding-preserved c = record {
  means = means-more (get nat_eq c.loop-finding.names.means) (get nat_eq c.put.new.names.means) c.args.findings.now c.loop-finding.finding-index c.finding-item.result c.loop-finding-test.true c.loop-finding.invariant.means
      (λ start. c.in_ok-put.ensures.means start ∙ ap (λ finding. means_there (get nat_eq c.loop-finding.names.means start) finding start) c.finding-item.is);
  implied = stands-more (λ start. unwrap_or (get nat_eq c.loop-finding.names.implied start) []) (λ start. unwrap_or (get nat_eq c.put.new.names.implied start) []) c.args.findings.now c.loop-finding.finding-index c.finding-item.result c.loop-finding-test.true c.loop-finding.invariant.implied
      (λ start. c.in_ok-put.ensures.implied start ∙ ap (λ finding. unwrap_or (get nat_eq c.loop-finding.names.implied start) [] ++ implied_at start finding) c.finding-item.is);
}

pub returns : goal.returns
returns c =
    let all = take_all c.loop-finding.finding-index c.args.findings.now c.loop-finding-test.false in
    record {
      means = λ start. c.loop-finding.invariant.means start ∙ ap (λ found. kept None found start) all ∙ kept-is c.args.findings.now start;
      implied = λ start. c.loop-finding.invariant.implied start ∙ ap (λ found. implied_by found start) all;
    }
