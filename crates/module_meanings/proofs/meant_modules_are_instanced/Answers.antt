use Rattle.module_meanings.proofs.Instancing.{meant-instanced, nested-instanced}
use Rattle.module_meanings.proofs.meant_modules_are_instanced.Goals as goal

pub returns-clause-files : goal.returns-clause-files
returns-clause-files c flat outsides source units symbols final face leads new meant same outer distinct once paths takes leaves old =
    meant-instanced flat outsides source units symbols final face leads new meant same outer distinct once paths takes leaves old

pub returns-clause-nested : goal.returns-clause-nested
returns-clause-nested c flat text means implied files outsides words state round readings setting outer base own layout leads new keeps room same distinct nothing once leads_here takes symbols unsaid =
    nested-instanced flat text means implied files outsides words state round readings setting outer base own layout leads new keeps room same distinct nothing once leads_here takes symbols unsaid
