use Rattle.std.proofs.Common.{sym, ap, ◌∙◌, arith, length, length-drop}
use Rattle.std.specs.List.{prefix_len}
use Rattle.tla_lexeme.specs.declared.class.Class.TheVariants.{Dash}
use Rattle.tla_lexeme.specs.LexemeSets.{is_in}
use Rattle.tla_lexeme.proofs.HeaderLemmas.{header_turn, header_found, header_from-none, found_dashes}
use Rattle.tla_lexeme.proofs.header.header_of.Goals as goal

pub returns-then-begins_with_header-clause-value : goal.returns-then-begins_with_header-clause-value
returns-then-begins_with_header-clause-value c = header_found c.loop-before.at c.in-Some.before c.loop-before.rest.now c.skip-candidate.result.now (omega (arith, c.in-Some.ensures.1.fits)) c.in-Some.ensures.0.before c.skip-candidate.ensures (sym c.if-begins_with_header.ensures) ∙ c.loop-before.invariant.0

pub loop-before-preserved : goal.loop-before-preserved
loop-before-preserved c = (
  header_turn c.loop-before.at c.in-Some.before c.run_len-dashes.result c.loop-before.rest.now c.skip-candidate.result.now c.skip-rest.result.now (omega (arith, c.in-Some.ensures.1.fits)) c.in-Some.ensures.0.before c.skip-candidate.ensures (sym c.if-begins_with_header.ensures) c.run_len-dashes.ensures.value c.skip-rest.ensures ∙ c.loop-before.invariant.0,
  omega (arith, c.in-Some.ensures.1.fits, ap length c.skip-candidate.ensures, length-drop c.in-Some.before c.loop-before.rest.now, ap length c.skip-rest.ensures, length-drop c.run_len-dashes.result c.skip-candidate.result.now, c.run_len-dashes.ensures.within, c.loop-before.invariant.1),
)

pub loop-before-smaller : goal.loop-before-smaller
loop-before-smaller c = omega (arith, c.in-Some.ensures.1.fits, ap length c.skip-candidate.ensures, length-drop c.in-Some.before c.loop-before.rest.now, ap length c.skip-rest.ensures, length-drop c.run_len-dashes.result c.skip-candidate.result.now, c.run_len-dashes.ensures.within, c.run_len-dashes.ensures.value, ap (prefix_len (is_in Dash)) c.skip-candidate.ensures, found_dashes c.loop-before.rest.now c.in-Some.before c.in-Some.ensures.1)

pub returns-clause-value : goal.returns-clause-value
returns-clause-value c = sym (header_from-none c.loop-before.at c.loop-before.rest.now c.in_default.ensures) ∙ c.loop-before.invariant.0
