use Rattle.std.proofs.lemmas.Str.{IsCharBoundary-start}
use Rattle.text_cursor.proofs.cursor.Cursor.start.Goals as goal

pub place_of-requires : goal.place_of-requires
place_of-requires c = IsCharBoundary-start c.args.text.now c.bytes-bytes.ensures.utf8

pub returns : goal.returns
returns c = record { boundary = IsCharBoundary-start c.args.text.now c.bytes-bytes.ensures.utf8; place = c.place_of.ensures }
