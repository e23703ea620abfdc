use Rattle.std.proofs.Common.{sym, ◌∙◌}
use Rattle.list_laws.proofs.Options.{holds-on-err}
use Rattle.flat_builder.proofs.Growing.{built-instances, flat-instances, instances-length, same-instances}
use Rattle.flat_builder.proofs.builder.push_instance.Goals as goal

pub returns-in_err-push-clause-built : goal.returns-in_err-push-clause-built
returns-in_err-push-clause-built c = (same-instances c.args.flat.now c.push.new.self c.in_err-push.ensures.items).0 c.requires.built

pub returns-in_err-push-clause-kept : goal.returns-in_err-push-clause-kept
returns-in_err-push-clause-kept c = holds-on-err c.from_residual.result (same-instances c.args.flat.now c.push.new.self c.in_err-push.ensures.items).1

pub returns-clause-built : goal.returns-clause-built
returns-clause-built c = built-instances c.args.flat.now c.push.new.self c.args.instance c.in_ok-push.ensures.items c.requires.built

pub returns-clause-number : goal.returns-clause-number
returns-clause-number c = c.len-number.ensures ∙ c.args.flat.now.instances.ok.0 ∙ sym (instances-length c.args.flat.now)

pub returns-clause-added : goal.returns-clause-added
returns-clause-added c = flat-instances c.args.flat.now c.push.new.self c.args.instance c.in_ok-push.ensures.items
