use Rattle.std.proofs.Common.{◌≡◌, ◌<◌, refl, ap, ◌∙◌, sym, inl, inr, length, get_or, true, false, Some, arith}
use Rattle.std.proofs.lemmas.Option.{slice_get-get_or, get_or_from_slice_get}
use Rattle.std.specs.List.{list_any}
use Rattle.std.specs.Prelude.{slice_get}
use Rattle.std.specs.Str.{bytes_eq}
use Rattle.list_laws.proofs.Tests.{same-or-other}
use Rattle.index_graph.proofs.Lists.{at-within}
use Rattle.name_graph.proofs.Naming.{needs-here, needs-not}
use Rattle.name_graph.proofs.rows.some_needs.Goals.{else-seen-index-via-then-seen-index+else-is_among, else-seen-index-via-else-seen-index}
use Rattle.name_graph.proofs.rows.some_needs.Goals as goal

pub returns-then-is_among : goal.returns-then-is_among
returns-then-is_among c =
    let q = c.args.name.now in let k = c.loop-index.index in
    let h : list_any (bytes_eq q) c.index.result.now ≡ _ = ap (list_any (bytes_eq q)) (sym c.as_slice.ensures) ∙ sym c.is_among.ensures ∙ c.if-is_among.true in
    (λ _. needs-here c.args.rows.now.entries c.args.seen.now k c.index.result.now q (slice_get-get_or c.args.seen.now k false c.loop-index-test.true ∙ ap Some c.if-seen-index.true) c.index.ensures h, λ _. refl)

pub loop-index-preserved : goal.loop-index-preserved
loop-index-preserved c k row l m e h = elim (same-or-other k c.loop-index.index) as (λ _. ⊥) [
  | inl same ↦ elim c.else-seen-index.branch [
    | else-seen-index-via-then-seen-index+else-is_among w ↦
        let q = c.args.name.now in
        needs-not c.args.rows.now.entries c.loop-index.index w.index.result.now q w.index.ensures (ap (list_any (bytes_eq q)) (sym w.as_slice.ensures) ∙ sym w.is_among.ensures ∙ w.if-is_among.false) row (ap (slice_get c.args.rows.now.entries) (sym same) ∙ e) h
    | else-seen-index-via-else-seen-index w ↦
        let t : true ≡ false = sym (get_or_from_slice_get c.args.seen.now k true false m) ∙ ap (λ z. get_or c.args.seen.now z false) same ∙ w.if-seen-index.false in
        cc t
  ]
  | inr other ↦ c.loop-index.invariant k row (omega (arith, l, other)) m e h
]

pub returns : goal.returns
returns c = (λ h. cc, λ s. absurd (c.loop-index.invariant s.index s.row (let l : s.index < length c.args.seen.now = at-within c.args.seen.now s.index _ s.marked in omega (arith, l, c.loop-index-test.false)) s.marked s.stands s.needs))
