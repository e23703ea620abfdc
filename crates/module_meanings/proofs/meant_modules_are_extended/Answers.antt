use Rattle.module_meanings.proofs.Meant.{meant-extended}
use Rattle.module_meanings.proofs.meant_modules_are_extended.Goals as goal

pub returns : goal.returns
returns c flat outsides source units symbols final face leads round frame meant same outer parameters paths takes placed =
    meant-extended flat outsides source units symbols final face leads round frame meant same outer parameters paths takes placed
