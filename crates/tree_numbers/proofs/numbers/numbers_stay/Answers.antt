use Rattle.tree_numbers.proofs.Staying.{numbers-stay}
use Rattle.tree_numbers.proofs.numbers.numbers_stay.Goals as goal

pub returns : goal.returns
returns c flat more numbers extends ordered numbered = numbers-stay flat more extends ordered numbers numbered
