use Rattle.std.proofs.Common.{◌≡◌, drop, arith, sym, ap, ◌∙◌}
use Rattle.tla_lexeme.specs.declared.begin.Begin.TheVariants.{Gap}
use Rattle.tla_lexeme.specs.Lengths.{bare_len}
use Rattle.tla_lexeme.specs.Lexing.{what_begins}
use Rattle.tla_lexeme.proofs.StepLemmas.{IsStep, sound, gap_turn, bare_drop_at}
use Rattle.tla_lexeme.proofs.part.behind_gap.Goals as goal

pub loop-at-preserved : goal.loop-at-preserved
loop-at-preserved c =
    let begins : what_begins (drop c.loop-at.at c.args.text.now) ≡ Gap c.in-Gap.len = ap what_begins (sym c.skip-rest.ensures) ∙ sym c.in-Gap.ensures in
    let step : IsStep c.args.text.now c.loop-at.at c.in-Gap.len = sound c.args.text.now c.loop-at.at (Gap c.in-Gap.len) c.requires.utf8 c.loop-at-test.true begins in record {
      at_char = step.cut;
      further = omega (arith, c.loop-at.invariant.further);
      bare = bare_drop_at c.args.text.now c.loop-at.at c.in-Gap.len c.bare_len-bare.result c.saturating_sub-bare.result (c.bare_len-bare.ensures ∙ ap bare_len c.skip-rest.ensures) c.saturating_sub-bare.ensures;
      lexemes = c.loop-at.invariant.lexemes ∙ gap_turn c.args.text.now c.loop-at.at c.in-Gap.len begins step;
    }

pub overflow_add-at : goal.overflow_add-at
overflow_add-at c =
    let begins : what_begins (drop c.loop-at.at c.args.text.now) ≡ Gap c.in-Gap.len = ap what_begins (sym c.skip-rest.ensures) ∙ sym c.in-Gap.ensures in
    let step : IsStep c.args.text.now c.loop-at.at c.in-Gap.len = sound c.args.text.now c.loop-at.at (Gap c.in-Gap.len) c.requires.utf8 c.loop-at-test.true begins in
    omega (arith, step.fits)

pub loop-at-smaller : goal.loop-at-smaller
loop-at-smaller c =
    let begins : what_begins (drop c.loop-at.at c.args.text.now) ≡ Gap c.in-Gap.len = ap what_begins (sym c.skip-rest.ensures) ∙ sym c.in-Gap.ensures in
    let step : IsStep c.args.text.now c.loop-at.at c.in-Gap.len = sound c.args.text.now c.loop-at.at (Gap c.in-Gap.len) c.requires.utf8 c.loop-at-test.true begins in
    omega (arith, step.fits, step.some)
