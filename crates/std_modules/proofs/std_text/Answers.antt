use Rattle.std_modules.specs.StdTexts.{STD_MODULES, naturals, integers, reals, sequences, finite_sets, bags, real_time, tlc}
use Rattle.std_modules.proofs.std_text.Goals as goal

pub returns : goal.returns
unfolding STD_MODULES naturals integers reals sequences finite_sets bags real_time tlc
returns c = c.text_in.ensures
