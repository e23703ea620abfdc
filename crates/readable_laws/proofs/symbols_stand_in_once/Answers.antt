use Rattle.readable_laws.proofs.Filling.{unit-fills}
use Rattle.readable_laws.proofs.symbols_stand_in_once.Goals as goal

pub returns : goal.returns
returns c = λ name bytes units files before unit behind front whole. unit-fills files bytes units before unit behind (c.names_begin_apart.ensures.held name bytes units front) whole
