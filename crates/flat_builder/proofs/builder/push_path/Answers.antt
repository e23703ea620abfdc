use Rattle.std.proofs.Common.{ap, ◌∙◌}
use Rattle.kind_table.specs.Flattened.{path_at}
use Rattle.flat_builder.proofs.Growing.{built-paths, flat-paths, last-path, same-paths}
use Rattle.flat_builder.proofs.builder.push_path.Goals as goal

pub returns-in_err-push-clause-built : goal.returns-in_err-push-clause-built
returns-in_err-push-clause-built c = (same-paths c.args.flat.now c.push.new.self c.in_err-push.ensures.items).0 c.requires.built

pub returns-in_err-push-clause-same : goal.returns-in_err-push-clause-same
returns-in_err-push-clause-same c = (same-paths c.args.flat.now c.push.new.self c.in_err-push.ensures.items).1

pub returns-clause-built : goal.returns-clause-built
returns-clause-built c = built-paths c.args.flat.now c.push.new.self c.args.path c.in_ok-push.ensures.items c.requires.built

pub returns-clause-same : goal.returns-clause-same
returns-clause-same c = flat-paths c.args.flat.now c.push.new.self c.args.path c.in_ok-push.ensures.items c.requires.built.paths

pub returns-clause-path : goal.returns-clause-path
returns-clause-path c = ap (path_at c.push.new.self.items) (c.len-number.ensures ∙ c.args.flat.now.paths.ok.0) ∙ last-path c.args.flat.now c.push.new.self c.args.path c.in_ok-push.ensures.items
