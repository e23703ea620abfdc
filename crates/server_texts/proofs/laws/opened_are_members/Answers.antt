use Rattle.server_texts.proofs.Members.{members-kept, root-members}
use Rattle.server_texts.proofs.laws.opened_are_members.Goals as goal

pub returns-clause-root : goal.returns-clause-root
returns-clause-root c = root-members

pub returns-clause-kept : goal.returns-clause-kept
returns-clause-kept c = members-kept
