use Rattle.std.proofs.Common.{arith, sym, ap, ◌∙◌, length}
use Rattle.std.proofs.lemmas.List.{nil_from_length}
use Rattle.std.proofs.lemmas.Bool.{eqb-true, eqb-false}
use Rattle.tla_text.specs.Places.{begins_with_line_feed}
use Rattle.tla_text.proofs.FurtherLemmas.{begins_after, begins_here}
use Rattle.tla_text.proofs.columns.line_feed_comes.Goals as goal

pub returns-then-is_empty : goal.returns-then-is_empty
returns-then-is_empty c = c.begins_with_line_feed.ensures ∙ ap begins_with_line_feed c.as_bytes.ensures.value ∙ begins_after c.args.more.now c.args.after.now c.utf8.after (nil_from_length c.args.more.now (eqb-true (length c.args.more.now) 0 (sym c.if-is_empty.ensures)))

pub returns : goal.returns
returns c = let some = eqb-false (length c.args.more.now) 0 (sym c.if-is_empty.ensures) in
    c.begins_with_line_feed-2.ensures ∙ ap begins_with_line_feed c.as_bytes-2.ensures.value ∙ begins_here c.args.more.now c.args.after.now c.utf8.more (omega (arith, some))
