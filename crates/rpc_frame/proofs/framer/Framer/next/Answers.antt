use Rattle.std.proofs.Common.{◌∙◌, ap, List, ℕ, drop, subst}
use Rattle.rpc_frame.specs.declared.header.Found.TheVariants.{Frame}
use Rattle.rpc_frame.specs.Framing.{IsFound}
use Rattle.rpc_frame.proofs.Fronts.{frame_taken}
use Rattle.rpc_frame.proofs.framer.Framer.next.Goals as goal

pub returns-in-Frame : goal.returns-in-Frame
returns-in-Frame c =
    let P : List ℕ → Type 0 = λ waiting. IsFound waiting (Frame c.in-Frame.header c.in-Frame.content) in
    rw (← c.self.view_is)
    (frame_taken c.self.inside.bytes.items c.self.inside.start c.self.inside.taken c.in-Frame.header c.in-Frame.content (subst P (c.behind-waiting.ensures ∙ ap (drop c.self.inside.start) c.deref.ensures.value) c.in-Frame.ensures))
