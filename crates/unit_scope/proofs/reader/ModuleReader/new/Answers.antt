use Rattle.std.proofs.Common.{[], length, refl, reverse, subst, sym}
use Rattle.module_model.specs.Modules.{unread}
use Rattle.unit_scope.specs.EnclosingReadings.{AreRound}
use Rattle.unit_scope.proofs.reader.ModuleReader.new.Goals as goal

pub returns : goal.returns
returns c =
    let nested = c.args.scope.nested.items in
    let first = unread c.args.text.now in
    record {
      here = c.in_ok-new.ensures.reading nested;
      round = subst (λ outers. AreRound first.context first.modules (reverse outers) []) (sym c.new-2.ensures.items) tt;
      known = c.requires.known;
      sound = c.requires.sound;
      numbered = c.in_ok-new.ensures.numbered (length nested);
      title = c.requires.title;
      kept = refl;
    }
