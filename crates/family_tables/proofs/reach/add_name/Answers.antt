use Rattle.std.proofs.Common.{◌∙◌, inl, sym}
use Rattle.family_tables.specs.Tables.{entry_of}
use Rattle.family_tables.proofs.Reaching.{name-added, name-kept, name-only}
use Rattle.family_tables.proofs.Tabling.{gone, held}
use Rattle.family_tables.proofs.reach.add_name.Goals as goal

pub add-requires : goal.add-requires
add-requires c = gone c.get.result (entry_of c.args.names.now c.args.name.now) (sym c.is_some.ensures ∙ c.if-is_some.false) c.get.ensures

pub returns-then-is_some-clause-added : goal.returns-then-is_some-clause-added
returns-then-is_some-clause-added c = held c.get.result (entry_of c.args.names.now c.args.name.now) (sym c.is_some.ensures ∙ c.if-is_some.true) c.get.ensures

pub returns-then-is_some-clause-only : goal.returns-then-is_some-clause-only
returns-then-is_some-clause-only c other h = inl h

pub returns-clause-kept : goal.returns-clause-kept
returns-clause-kept c = name-kept c.args.names.now c.add.new.self c.args.name.now _ (gone c.get.result (entry_of c.args.names.now c.args.name.now) (sym c.is_some.ensures ∙ c.if-is_some.false) c.get.ensures) c.in_ok-add.ensures

pub returns-clause-added : goal.returns-clause-added
returns-clause-added c = name-added c.args.names.now c.add.new.self c.args.name.now _ (gone c.get.result (entry_of c.args.names.now c.args.name.now) (sym c.is_some.ensures ∙ c.if-is_some.false) c.get.ensures) c.in_ok-add.ensures

pub returns-clause-only : goal.returns-clause-only
returns-clause-only c = name-only c.args.names.now c.add.new.self c.args.name.now _ (gone c.get.result (entry_of c.args.names.now c.args.name.now) (sym c.is_some.ensures ∙ c.if-is_some.false) c.get.ensures) c.in_ok-add.ensures
