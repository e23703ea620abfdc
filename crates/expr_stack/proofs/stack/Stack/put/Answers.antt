use Rattle.std.proofs.Common.{refl}
use Rattle.expr_stack.proofs.Stacking.{put-stands}
use Rattle.expr_stack.proofs.stack.Stack.put.Goals as goal

pub returns : goal.returns
returns c nodes parts read below opens =
    put-stands nodes c.args.self.now (record { alloc = c.args.self.now.alloc; frames = c.push.new.self; parts = c.args.self.now.parts }) _ c.args.wait c.args.opening c.inner.result parts read below c.in-Ok.ensures.items refl refl refl c.inside-inner.ensures (c.inner.ensures nodes _ below opens.stands) opens
