use Rattle.std.proofs.Common.{◌≤◌, ◌∙◌, ap, length, refl, sym, subst, arith, Some}
use Rattle.std.proofs.lemmas.Option.{slice_get_read}
use Rattle.tla_symbols.specs.declared.op.Op.{Op}
use Rattle.tla_model.specs.Entities.{Meaning}
use Rattle.list_laws.proofs.Lists.{at-map}
use Rattle.instance_parts.specs.Gathered.{AreRooted}
use Rattle.std.specs.Prelude.{map}
use Rattle.std.proofs.lemmas.Bool.Decides.{nat_tests}
use Rattle.std.proofs.lemmas.List.{length-map}
use Rattle.instance_parts.proofs.Gathereds.{grown-on, rooted-all, rooted-more}
use Rattle.instance_parts.proofs.reached.Gathering.reach_symbols.Goals as goal

pub loop-index-preserved : goal.loop-index-preserved
loop-index-preserved c = record {
  gathering = c.in_ok-reach_meaning.ensures.gathering;
  grown = grown-on c.args.self.now c.loop-index.self c.reach_meaning.new.self c.loop-index.invariant.grown c.in_ok-reach_meaning.ensures.grown;
  rooted = rooted-more c.loop-index.self c.reach_meaning.new.self c.in_ok-reach_meaning.ensures.grown (map (λ symbol. symbol.1) c.symbols-symbols.result.now) c.loop-index.index _
      (at-map (λ (symbol : Op × Meaning). symbol.1) c.symbols-symbols.result.now c.loop-index.index c.index-symbols-index.result
      (slice_get_read c.symbols-symbols.result.now (length c.symbols-symbols.result.now) c.loop-index.index c.index-symbols-index.result refl (grind (arith, nat_tests, c.loop-index-test.true)) c.index-symbols-index.is)
      ∙ ap (λ (symbol : Op × Meaning). Some symbol.1) c.index-symbols-index.is)
      c.in_ok-reach_meaning.ensures.root c.loop-index.invariant.rooted;
}

pub returns-clause-rooted : goal.returns-clause-rooted
returns-clause-rooted c =
    subst (λ symbols. AreRooted c.loop-index.self (map (λ (symbol : Op × Meaning). symbol.1) symbols)) c.symbols-symbols.ensures
    (rooted-all c.loop-index.self (map (λ (symbol : Op × Meaning). symbol.1) c.symbols-symbols.result.now) c.loop-index.index
    (subst (λ n. n ≤ c.loop-index.index) (sym (length-map c.symbols-symbols.result.now (λ (symbol : Op × Meaning). symbol.1))) c.loop-index-test.false) c.loop-index.invariant.rooted)
