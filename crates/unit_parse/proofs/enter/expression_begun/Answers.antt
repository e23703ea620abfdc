use Rattle.unit_parse.proofs.Stepping.{begin-going, begin-refused}
use Rattle.unit_parse.proofs.enter.expression_begun.Goals as goal

pub returns-in-Going-clause-moves : goal.returns-in-Going-clause-moves
returns-in-Going-clause-moves c nodes more first st b h = begin-going nodes more c.args.unfinished c.args.reader first _ st c.in-Going.is b h

pub returns-in_default-clause-moves : goal.returns-in_default-clause-moves
returns-in_default-clause-moves c nodes more first st b h = begin-refused nodes more c.args.unfinished c.args.reader first _ st c.in_default.not-Going b h
