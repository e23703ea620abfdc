-- The innermost of the frames that wait.
use Rattle.std.proofs.Common.{◌≡◌, ℕ, List, [], ◌∷◌, ◌++◌, length, refl, ap, subst, ◌∙◌}
use Rattle.std.specs.Prelude.{reverse}
use Rattle.std.proofs.lemmas.List.{reverse-append}
use Rattle.tla_tree.specs.Arena as Arena
use Rattle.unit_grammar.specs.Units.{UnitTree}
use Rattle.unit_machine.specs.Machine as Machine
use Rattle.unit_frames.specs.declared.frame.Frame.{Frame}
use Rattle.unit_frames.specs.declared.unfinished.Unfinished.{Unfinished}
use Rattle.unit_frames.specs.FrameMeaning.{IsFrame, AreFrames, IsUnder}

pub popped : (old new : List Frame) (last : Frame) → old ≡ new ++ last ∷ [] → reverse old ≡ last ∷ reverse new
popped old new last e = ap reverse e ∙ reverse-append new (last ∷ [])

pub nothing-left : (old : List Frame) → length old ≡ 0 → old ≡ []
nothing-left [] e = refl
nothing-left (h ∷ hs) e = cc

pub under-popped : (nodes : List Arena.Node) (unfinished after : Unfinished) (top : Frame) (b : Machine.Begun) (fs : List Machine.Frame) (d : ℕ) (us : List UnitTree) → after.reached ≡ unfinished.reached → after.begun ≡ unfinished.begun → reverse unfinished.below.items ≡ top ∷ reverse after.below.items → IsUnder nodes unfinished b fs d us → (g : Machine.Frame) × (gs : List Machine.Frame) × (fs ≡ g ∷ gs) × IsFrame nodes top g × IsUnder nodes after b gs d us
under-popped nodes unfinished after top b fs d us r s e u = by fs (subst (λ z. AreFrames nodes z fs) e u.below)
  where
    by : (hs : List Machine.Frame) → AreFrames nodes (top ∷ reverse after.below.items) hs → (g : Machine.Frame) × (gs : List Machine.Frame) × (hs ≡ g ∷ gs) × IsFrame nodes top g × IsUnder nodes after b gs d us
    by [] a = absurd a
    by (g ∷ gs) a = (g, gs, refl, a.0, record { reached = rw r u.reached; begun = rw s u.begun; below = a.1 })

pub under-none : (nodes : List Arena.Node) (unfinished : Unfinished) (b : Machine.Begun) (fs : List Machine.Frame) (d : ℕ) (us : List UnitTree) → unfinished.below.items ≡ [] → IsUnder nodes unfinished b fs d us → fs ≡ []
under-none nodes unfinished b fs d us e u = by fs (subst (λ z. AreFrames nodes (reverse z) fs) e u.below)
  where
    by : (hs : List Machine.Frame) → AreFrames nodes [] hs → hs ≡ []
    by [] a = refl
    by (h ∷ hs) a = absurd a
