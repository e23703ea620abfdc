use Rattle.server_texts.proofs.Ordering.{file-ordered, none-ordered, order-kept, root-ordered, taken-ordered}
use Rattle.server_texts.proofs.laws.names_stay_in_order.Goals as goal

pub returns-clause-first : goal.returns-clause-first
returns-clause-first c = none-ordered

pub returns-clause-taken : goal.returns-clause-taken
returns-clause-taken c = taken-ordered

pub returns-clause-read : goal.returns-clause-read
returns-clause-read c = file-ordered

pub returns-clause-root : goal.returns-clause-root
returns-clause-root c = root-ordered

pub returns-clause-kept : goal.returns-clause-kept
returns-clause-kept c = order-kept
