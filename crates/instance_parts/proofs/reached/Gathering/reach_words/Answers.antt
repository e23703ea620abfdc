use Rattle.std.proofs.Common.{◌≤◌, ◌∙◌, ℕ, List, ap, length, refl, sym, subst, arith}
use Rattle.std.proofs.lemmas.Option.{slice_get_read}
use Rattle.tla_model.specs.Entities.{Meaning}
use Rattle.std.specs.Prelude.{map, slice_get}
use Rattle.std.proofs.lemmas.Bool.Decides.{nat_tests}
use Rattle.std.proofs.lemmas.List.{length-map}
use Rattle.tla_model.specs.Stretches.{shown}
use Rattle.tla_model.specs.EntityKinds.{is_instance, words_meant}
use Rattle.list_laws.proofs.Lists.{at-map}
use Rattle.instance_parts.proofs.Gathereds.{grown-on, rooted-all, rooted-more}
use Rattle.instance_parts.proofs.reached.Gathering.reach_words.Goals as goal

pub loop-index-preserved : goal.loop-index-preserved
loop-index-preserved c = record {
  gathering = c.in_ok-reach_meaning.ensures.gathering;
  grown = grown-on c.args.self.now c.loop-index.self c.reach_meaning.new.self c.loop-index.invariant.grown c.in_ok-reach_meaning.ensures.grown;
  rooted = rooted-more c.loop-index.self c.reach_meaning.new.self c.in_ok-reach_meaning.ensures.grown (map (λ word. word.1) (words_meant is_instance c.args.exports.now.words)) c.loop-index.index c.index.result.now.1.now
      (ap (λ words. slice_get (map (λ (word : List ℕ × Meaning). word.1) words) c.loop-index.index) (sym c.in_ok-words.ensures)
      ∙ at-map (λ (word : List ℕ × Meaning). word.1) (map shown c.in_ok-words.words.items) c.loop-index.index (shown c.index.result.now)
      (at-map shown c.in_ok-words.words.items c.loop-index.index c.index.result.now
      (slice_get_read c.in_ok-words.words.items (length c.in_ok-words.words.items) c.loop-index.index c.index.result.now refl (grind (arith, nat_tests, c.loop-index-test.true, c.len-index-end.ensures, c.in_ok-words.words.ok.0)) c.index.ensures)))
      c.in_ok-reach_meaning.ensures.root c.loop-index.invariant.rooted;
}

pub returns-clause-rooted : goal.returns-clause-rooted
returns-clause-rooted c =
    rooted-all c.loop-index.self (map (λ word. word.1) (words_meant is_instance c.args.exports.now.words)) c.loop-index.index
    (subst (λ n. n ≤ c.loop-index.index) (sym (length-map (words_meant is_instance c.args.exports.now.words) (λ (word : List ℕ × Meaning). word.1) ∙ ap length (sym c.in_ok-words.ensures) ∙ length-map c.in_ok-words.words.items shown))
    (grind (arith, nat_tests, c.loop-index-test.false, c.len-index-end.ensures, c.in_ok-words.words.ok.0))) c.loop-index.invariant.rooted
