use Rattle.std.proofs.Common.{◌+◌, ap, arith, subst}
use Rattle.std.specs.Str.{IsCharBoundary}
use Rattle.std.proofs.lemmas.Bool.{OnFalse_at}
use Rattle.tla_lexeme.specs.Lengths.{IsBehind}
use Rattle.tla_lexeme.specs.ModulePart.{is_equals, is_module_word}
use Rattle.tla_lexeme.proofs.CutLemmas.{placed-more}
use Rattle.tla_lexeme.proofs.PartLemmas.{whole_turn, left_more, count-le}
use Rattle.tla_lexeme.proofs.part.part_from.Goals as goal

pub lexemes-preserved : goal.lexemes-preserved
lexemes-preserved c =
    let text = c.args.text.now in
    let next = c.next_lexeme-next.result in
    let member = c.next_lexeme-next.result.member in
    let inv = c.lexemes.invariant in
    let behind : IsBehind text next.at (next.at + member.len) next.bare = subst (λ t. IsBehind t next.at (next.at + member.len) next.bare) c.bytes-bytes.ensures.value (OnFalse_at c.if-next.false c.next_lexeme-next.ensures.behind) in
    let turn = whole_turn text c.bytes-bytes.result.now c.lexemes.found c.push.new.self c.args.start c.lexemes.at c.lexemes.counts.words c.lexemes.counts.runs next.at member.len member.kind c.kind_in.result c.closes-closes.result next.is_last c.align_further-place.result c.lexeme_of.result c.bytes-bytes.ensures.value inv.lexemes c.next_lexeme-next.ensures.lexemes c.closes-closes.ensures c.align_further-place.ensures c.kind_in.ensures c.lexeme_of.ensures c.in_ok-push.ensures.ok in record {
      at_char = behind.cut;
      seen_char = subst (λ t. IsCharBoundary t next.at) c.bytes-bytes.ensures.value c.next_lexeme-next.ensures.at_char;
      order = omega arith;
      known = c.align_further-place.ensures;
      bare = behind.bare_is;
      words = omega (arith, c.after-counts.ensures.words, count-le (is_module_word member.kind) c.lexemes.counts.words (next.at + member.len) (omega (arith, behind.further, inv.words, c.next_lexeme-next.ensures.further)));
      runs = omega (arith, c.after-counts.ensures.runs, count-le (is_equals member.kind) c.lexemes.counts.runs (next.at + member.len) (omega (arith, behind.further, inv.runs, c.next_lexeme-next.ensures.further)));
      placed = placed-more c.args.text.now c.bytes-bytes.result.now c.lexemes.found c.push.new.self c.lexeme_of.result next.at member.len c.bytes-bytes.ensures.value inv.placed c.in_ok-push.ensures.ok (ap (λ l. l.span.start) c.lexeme_of.ensures) (ap (λ l. l.span.end) c.lexeme_of.ensures) c.next_lexeme-next.ensures.at_char c.next_lexeme-next.ensures.end_at_char;
      lexemes = left_more text c.push.new.self c.args.start c.lexemes.counts.words c.lexemes.counts.runs c.after-counts.result.words c.after-counts.result.runs (next.at + member.len) member.kind c.closes-closes.result next.is_last turn c.if-closes.false c.if-next.false c.after-counts.ensures.words c.after-counts.ensures.runs;
    }

pub returns-then-closes-clause-placed : goal.returns-then-closes-clause-placed
returns-then-closes-clause-placed c =
    let next = c.next_lexeme-next.result in
    placed-more c.args.text.now c.bytes-bytes.result.now c.lexemes.found c.push.new.self c.lexeme_of.result next.at next.member.len c.bytes-bytes.ensures.value c.lexemes.invariant.placed c.in_ok-push.ensures.ok
    (ap (λ l. l.span.start) c.lexeme_of.ensures) (ap (λ l. l.span.end) c.lexeme_of.ensures) c.next_lexeme-next.ensures.at_char c.next_lexeme-next.ensures.end_at_char
