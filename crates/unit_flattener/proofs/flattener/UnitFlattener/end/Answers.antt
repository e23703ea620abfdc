use Rattle.std.proofs.Common.{◌∙◌, ◌∷◌, ap}
use Rattle.unit_grammar.specs.Units.{ModuleEnd}
use Rattle.module_model.specs.Exports.{exports_of}
use Rattle.tree_names.specs.Parameters.{entries_in}
use Rattle.unit_flattener.specs.Walking.{over_in, state_at}
use Rattle.unit_flattener.proofs.Leaving.{ends, frames-there}
use Rattle.unit_flattener.proofs.Results.{on-ok}
use Rattle.unit_flattener.proofs.flattener.UnitFlattener.end.Goals as goal

pub leave_frame-requires-clause-frames : goal.leave_frame-requires-clause-frames
leave_frame-requires-clause-frames c =
    let there = c.requires.at.before in
    frames-there c.args.written.now.text.now there.walk there.before (ModuleEnd c.args.closing ∷ c.requires.at.rest) c.args.self.now there.reader there.at

pub returns : goal.returns
returns c =
    let text = c.args.written.now.text.now in
    on-ok c.leave_frame.result c.leave_frame.ensures (λ leaves walk before rest reader at.
    ends c.args.written.now walk before rest c.args.closing c.args.self.now c.leave_frame.new.self reader c.end_nested.new.reader (entries_in c.in_ok-parameters.parameters) (entries_in c.as_slice.result.now) at
    (c.in_ok-parameters.ensures.state c.args.closing)
    (ap entries_in c.as_slice.ensures ∙ c.in_ok-entries.ensures ∙ ap exports_of (c.in_ok-table.ensures text (over_in walk) (state_at walk before).read at.reads))
    c.in_ok-parameters.ensures.parameters
    leaves)
