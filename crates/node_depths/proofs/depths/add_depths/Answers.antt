use Rattle.std.proofs.Common.{ℕ, ◌+◌, ◌<◌, ◌≤◌, ap, ◌∙◌, take, length, arith}
use Rattle.std.proofs.lemmas.List.{length_push, take-append-le}
use Rattle.kind_table.proofs.TableEntries.{nodes-long}
use Rattle.node_depths.proofs.Stepping.{depths_all, depths_step}
use Rattle.node_depths.proofs.depths.add_depths.Goals as goal

pub loop-number-preserved : goal.loop-number-preserved
loop-number-preserved c =
    let inv = c.loop-number.invariant in let old = c.args.depths.now.items in let i = c.loop-number.number in
    let there : i < length c.args.flat.now.nodes.items = omega (arith, c.loop-number-test.true, c.len-number-end.ensures, c.args.flat.now.nodes.ok.0) in
    let known : length old ≤ length c.loop-number.depths.items = omega (arith, c.loop-number.auto.number, c.len-number.ensures, c.args.depths.now.ok.0, inv.long) in
    record {
      long = ap length c.in_ok-push.ensures.items ∙ length_push c.loop-number.depths.items c.capped.result ∙ ap (λ (n : ℕ). n + 1) inv.long;
      each = λ h. depths_step c.args.flat.now c.loop-number.depths.items c.deref.result.now c.push.new.self.items i c.form_depth-depth.result c.capped.result c.index.result.now
          (inv.each h) inv.long there c.index.ensures c.deref.ensures.value c.form_depth-depth.ensures c.capped.ensures c.in_ok-push.ensures.items;
      kept = ap (take (length old)) c.in_ok-push.ensures.items ∙ take-append-le (length old) c.loop-number.depths.items _ known ∙ inv.kept;
    }

pub returns-clause-depths : goal.returns-clause-depths
returns-clause-depths c = λ l h.
    let inv = c.loop-number.invariant in let n = nodes-long c.args.flat.now in
    let end = c.loop-number.auto.number-end (omega (arith, l, n, c.len-number.ensures, c.len-number-end.ensures, c.args.depths.now.ok.0, c.args.flat.now.nodes.ok.0)) in
    depths_all c.args.flat.now c.loop-number.depths.items (omega (arith, inv.long, end, c.loop-number-test.false, c.len-number-end.ensures, c.args.flat.now.nodes.ok.0)) (inv.each h)
