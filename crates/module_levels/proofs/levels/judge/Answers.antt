use Rattle.std.proofs.Common.{◌≡◌, ◌∙◌, ap, false, subst, sym, true}
use Rattle.module_kinds.specs.ModuleKinds.{depth_faults, level_faults, level_of}
use Rattle.kind_text.specs.FlatModule.{Extends}
use Rattle.flattened_trees.specs.Answers.{deep_answers, level_answers}
use Rattle.tree_flattener.specs.Steps.{AreAsked}
use Rattle.found_levels.specs.Findings.{findings_of}
use Rattle.node_depths.specs.Capped.{IsDepths}
use Rattle.module_levels.proofs.Answered.{deep-answered, high-answered}
use Rattle.module_levels.proofs.levels.judge.Goals as goal

pub returns-clause-depths : goal.returns-clause-depths
returns-clause-depths c =
    let before = c.requires.behind in
    subst (λ f. IsDepths f c.extend-2.new.self.nodes.items) c.as_flat-flat.ensures.tables (c.in_ok-extend-2.ensures.extended before.before (subst (Extends before.before) (sym c.as_flat-flat.ensures.tables) before.extends) before.ordered before.depths)

pub returns-then-not-is_empty-clause-found : goal.returns-then-not-is_empty-clause-found
returns-then-not-is_empty-clause-found c asked are =
    let state = c.args.known.now.tables.state in
    let these : AreAsked state.frames.items c.as_slice-asked.result.now asked = subst (λ qs. AreAsked state.frames.items qs asked) (sym c.as_slice-asked.ensures.value) are in
    deep-answered state.flat asked _ c.in_ok-deep.deep (c.in_ok-deep.ensures state.frames.items asked these ∙ ap (λ f. deep_answers f asked) c.as_flat-flat.ensures.tables)
    (λ none. let never : true ≡ false = sym (c.is_empty.ensures.1 none) ∙ c.if-not-is_empty.true in cc)
    (c.in_ok-depth_faults.ensures ∙ ap depth_faults c.as_slice.ensures)

pub returns-clause-found : goal.returns-clause-found
returns-clause-found c asked are =
    let state = c.args.known.now.tables.state in
    let these : AreAsked state.frames.items c.as_slice-asked.result.now asked = subst (λ qs. AreAsked state.frames.items qs asked) (sym c.as_slice-asked.ensures.value) are in
    let framed : AreAsked c.as_slice-frames.result.now c.as_slice-asked.result.now asked = subst (λ fs. AreAsked fs c.as_slice-asked.result.now asked) (sym c.as_slice-frames.ensures.value) these in
    high-answered state.flat asked _ c.in_ok-deep.deep (c.in_ok-deep.ensures state.frames.items asked these ∙ ap (λ f. deep_answers f asked) c.as_flat-flat.ensures.tables) (findings_of c.in_ok-found.found)
    (c.in_ok-found.ensures.found asked framed ∙ ap (λ f. level_answers f asked) c.as_flat-flat.ensures.tables)
    (c.is_empty.ensures.0 c.if-not-is_empty.false)
    (c.in_ok-faults.ensures ∙ ap (λ fs. level_faults (findings_of fs)) c.as_slice-2.ensures)
    (λ start. c.in_ok-levels.ensures start ∙ ap (λ fs. level_of (findings_of fs) start) c.as_slice-3.ensures)
