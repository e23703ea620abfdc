use Rattle.std.proofs.Common.{◌≡◌, ap, ◌∙◌, sym, Some, length, arith}
use Rattle.std.specs.Prelude.{slice_get}
use Rattle.index_graph.specs.declared.components.Mark.{Mark}
use Rattle.std.proofs.lemmas.Option.{slice_get-get_or}
use Rattle.index_graph.proofs.Lists.{at-same}
use Rattle.index_graph.proofs.Walking.{cases, new-open, new-closed}
use Rattle.index_graph.proofs.Moves.{begun, not-new, still-new, on-ok-one}
use Rattle.index_graph.proofs.components.visit.Goals as goal

pub run-requires-clause-walk : goal.run-requires-clause-walk
run-requires-clause-walk c =
    let old = c.args.walk.now in let e = c.in_ok-open-in-New.ensures in let w = c.requires.walk in
    begun c.args.edges.now old c.open.new.self c.args.index c.requires.walk c.requires.none (slice_get-get_or old.marks.items c.args.index c.index.result.now (omega (arith, c.requires.index, w.long)) ∙ ap Some (sym c.index.ensures ∙ c.in-New.is)) c.requires.index e.marks e.path e.todo e.groups e.order e.cyclic e.numbers

pub returns-in_ok-open-in-New-clause-keeps : goal.returns-in_ok-open-in-New-clause-keeps
returns-in_ok-open-in-New-clause-keeps c =
    let old = c.args.walk.now in let e = c.in_ok-open-in-New.ensures in
    on-ok-one _ _ c.run.result c.run.ensures.keeps (λ k x f. still-new old.marks.items c.open.new.self.marks.items c.args.index (length old.path.items) e.marks x (k x f))

pub returns-in_ok-open-in-New-clause-found : goal.returns-in_ok-open-in-New-clause-found
returns-in_ok-open-in-New-clause-found c =
    let old = c.args.walk.now in let e = c.in_ok-open-in-New.ensures in let w = c.requires.walk in
    on-ok-one _ _ c.run.result c.run.ensures.keeps (λ k f. not-new old.marks.items c.args.index (length old.path.items) (omega (arith, c.requires.index, w.long)) (ap (λ z. slice_get z c.args.index) (sym e.marks) ∙ k c.args.index f))

pub returns-in-Open : goal.returns-in-Open
returns-in-Open c = record {
  walk = c.requires.walk;
  none = c.requires.none;
  keeps = λ x f. f;
  found = λ f.
      let old = c.args.walk.now in let w = c.requires.walk in
      let here : slice_get old.marks.items c.args.index ≡ Some c.index.result.now = slice_get-get_or old.marks.items c.args.index c.index.result.now (omega (arith, c.requires.index, w.long)) ∙ ap Some (sym c.index.ensures) in
      let same : Mark.New ≡ c.index.result.now = at-same old.marks.items c.args.index Mark.New c.index.result.now f here in
      cases c.in-Open.is (λ o. new-open o.0 (same ∙ o.1)) (λ o. new-closed (same ∙ o));
}
