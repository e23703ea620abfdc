use Rattle.std.proofs.Common.{◌≡◌, drop, arith, sym, ◌∙◌}
use Rattle.tla_lexeme.specs.declared.begin.Begin.TheVariants.{Longest, Nothing}
use Rattle.tla_lexeme.specs.Lexing.{what_begins}
use Rattle.tla_lexeme.proofs.StepLemmas.{longest_sound, nothing_sound, longest_turn, bare_drop_at}
use Rattle.tla_lexeme.proofs.CutLemmas.{nothing_step}
use Rattle.tla_lexeme.proofs.part.next_lexeme.Goals as goal

pub returns-in-Longest-clause-lexemes : goal.returns-in-Longest-clause-lexemes
returns-in-Longest-clause-lexemes c =
    let text = c.args.text.now in
    let at = c.behind_gap-at.result.at in
    let begins : what_begins (drop at text) ≡ Longest c.in-Longest.member = sym c.behind_gap-at.ensures.begin ∙ c.in-Longest.is in
    c.behind_gap-at.ensures.lexemes ∙ longest_turn text at c.in-Longest.member begins (longest_sound text at c.in-Longest.member c.requires.utf8 begins)

pub returns-in-Longest-clause-short : goal.returns-in-Longest-clause-short
returns-in-Longest-clause-short c =
    let begins : what_begins (drop c.behind_gap-at.result.at c.args.text.now) ≡ Longest c.in-Longest.member = sym c.behind_gap-at.ensures.begin ∙ c.in-Longest.is in
    let step = longest_sound c.args.text.now c.behind_gap-at.result.at c.in-Longest.member c.requires.utf8 begins in
    omega (arith, step.fits)

pub returns-in-Longest-clause-behind : goal.returns-in-Longest-clause-behind
returns-in-Longest-clause-behind c =
    let text = c.args.text.now in
    let at = c.behind_gap-at.result.at in
    let begins : what_begins (drop at text) ≡ Longest c.in-Longest.member = sym c.behind_gap-at.ensures.begin ∙ c.in-Longest.is in
    let step = longest_sound text at c.in-Longest.member c.requires.utf8 begins in record {
      further = omega (arith, step.some);
      cut = step.cut;
      bare_is = bare_drop_at text at c.in-Longest.member.len c.behind_gap-at.result.bare c.saturating_sub.result c.behind_gap-at.ensures.bare c.saturating_sub.ensures;
    }

pub returns-in-Nothing-clause-short : goal.returns-in-Nothing-clause-short
returns-in-Nothing-clause-short c =
    let begins : what_begins (drop c.behind_gap-at.result.at c.args.text.now) ≡ Nothing c.in-Nothing.len = sym c.behind_gap-at.ensures.begin ∙ c.in-Nothing.is in
    omega (arith, nothing_sound c.args.text.now c.behind_gap-at.result.at c.in-Nothing.len c.requires.utf8 begins, c.behind_gap-at.ensures.at_char.0)

pub returns-in-Longest-clause-end_at_char : goal.returns-in-Longest-clause-end_at_char
returns-in-Longest-clause-end_at_char c =
    let begins : what_begins (drop c.behind_gap-at.result.at c.args.text.now) ≡ Longest c.in-Longest.member = sym c.behind_gap-at.ensures.begin ∙ c.in-Longest.is in
    (longest_sound c.args.text.now c.behind_gap-at.result.at c.in-Longest.member c.requires.utf8 begins).cut

pub returns-in-Nothing-clause-end_at_char : goal.returns-in-Nothing-clause-end_at_char
returns-in-Nothing-clause-end_at_char c =
    let begins : what_begins (drop c.behind_gap-at.result.at c.args.text.now) ≡ Nothing c.in-Nothing.len = sym c.behind_gap-at.ensures.begin ∙ c.in-Nothing.is in
    (nothing_step c.args.text.now c.behind_gap-at.result.at c.in-Nothing.len c.requires.utf8 c.behind_gap-at.ensures.at_char begins).cut
