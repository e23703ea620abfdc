use Rattle.name_exports.proofs.Owning.{put-owned}
use Rattle.name_exports.proofs.exported.put_copy.Goals as goal

pub returns : goal.returns
returns c =
    put-owned c.args.copies.now c.insert.new.self.entries c.in_ok-word.word c.args.word.now c.in_ok-meaning.meaning c.args.meaning.now
    c.requires c.in_ok-word.ensures.ok c.in_ok-meaning.ensures c.in_ok-insert.ensures.entries
