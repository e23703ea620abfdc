use Rattle.std.proofs.Common.{◌∙◌, refl, subst}
use Rattle.std.proofs.lemmas.List.{append-nil}
use Rattle.tree_flattener.specs.Steps.{AddsFrame}
use Rattle.unit_flattener.proofs.modules.begun.Goals as goal

pub returns-clause-begun : goal.returns-clause-begun
returns-clause-begun c = record {
  leads = c.in_ok-enter.ensures.known;
  sound = c.in_ok-enter.ensures.sound;
  state = subst (λ symbols. AddsFrame c.args.tables.state c.add_frame.new.state symbols c.in_ok-walker.field-0) (c.in_ok-frame.ensures ∙ append-nil c.args.symbols.now) c.in_ok-walker.ensures;
  reads = refl;
  modules = c.in_ok-modules.ensures;
  ahead = refl;
  round = c.new-2.ensures.items;
}
