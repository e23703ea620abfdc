use Rattle.std.proofs.Common.{refl, sym}
use Rattle.module_leads.proofs.Putting.{word-put}
use Rattle.module_leads.proofs.faces.ListedNames.put_word.Goals as goal

pub returns : goal.returns
returns c =
    word-put c.args.self.now (record c.args.self.now { words = c.insert.new.self }) c.in_ok-word.word c.args.word.now c.args.way c.in_ok-word.ensures.ok
    (sym c.if-contains_key.ensures) refl c.in_ok-insert.ensures.updates
