-- The module that was read, and the first bad lexeme.
use Rattle.std.proofs.Common.{◌≡◌, ℕ, ◌+◌, ◌<◌, ◌≤◌, List, [], ◌∷◌, ◌++◌, length, take, refl, ap, sym, subst, ◌∙◌, Option, Some, None}
use Rattle.std.specs.Prelude.{slice_index_or}
use Rattle.std.proofs.lemmas.List.{take_more, take_all}
use Rattle.tla_symbols.specs.declared.lexeme.Lexeme.{Lexeme}
use Rattle.tla_tree.specs.Arena as Arena
use Rattle.unit_machine.specs.declared.wait.Due.{Due}
use Rattle.unit_grammar.specs.Units.{UnitTree, ModuleUnits}
use Rattle.unit_grammar.specs.Derivation.{DerivesModule}
use Rattle.unit_grammar.specs.FirstBad.{EndsOnce, IsFirstBad}
use Rattle.unit_machine.specs.Machine as Machine
use Rattle.unit_machine.specs.Machine.{run, opening, whole, answer}
use Rattle.unit_laws.proofs.UnitCompleteness.{run-append}
use Rattle.unit_laws.proofs.Soundness.{accepted-derives}
use Rattle.unit_laws.proofs.FirstBad.{refused-first}
use Rattle.unit_laws.proofs.Ending.{accepts-read}
use Rattle.unit_frames.specs.declared.reached.Reached.{Reached}
use Rattle.unit_steps.specs.declared.point.Point.{Point}
use Rattle.unit_steps.specs.PointMeaning as Steps
use Rattle.unit_parse.specs.declared.state.State.{State}
use Rattle.unit_grammar.specs.UnitNodes.{AreUnits}
use Rattle.unit_parse.specs.ReaderMeaning.{IsFocus, IsState, IsMoved, Moves}

-- the lexemes so far led to the state
pub record HasRead (nodes : List Arena.Node) (state : State) (lexemes : List Lexeme) : Type 0 where
  pub st : Machine.State
  pub runs : run (Some opening) lexemes ≡ Some st
  pub is : IsState nodes state st

run-next : (lexemes : List Lexeme) (t : Lexeme) (st : Machine.State) → run (Some opening) lexemes ≡ Some st → run (Some opening) (lexemes ++ t ∷ []) ≡ Machine.step st t
run-next lexemes t st e = run-append lexemes (t ∷ []) (Some opening) ∙ ap (λ z. run z (t ∷ [])) e

pub reads-on : (nodes more : List Arena.Node) (state next : State) (lexemes : List Lexeme) (t : Lexeme) (h : HasRead nodes state lexemes) → Moves nodes more (Some next) (Machine.step h.st t) → HasRead more next (lexemes ++ t ∷ [])
reads-on nodes more state next lexemes t h m = by (Machine.step h.st t) refl m.is
  where
    by : (o : Option Machine.State) → Machine.step h.st t ≡ o → IsMoved more (Some next) o → HasRead more next (lexemes ++ t ∷ [])
    by None q i = absurd i
    by (Some st) q i = record { st = st; runs = run-next lexemes t h.st h.runs ∙ q; is = i }

-- the machine refuses the lexeme after those
pub refuses : (nodes more : List Arena.Node) (state : State) (lexemes : List Lexeme) (index : ℕ) (t : Lexeme) (h : HasRead nodes state (take index lexemes)) → take (index + 1) lexemes ≡ take index lexemes ++ t ∷ [] → Moves nodes more None (Machine.step h.st t) → IsFirstBad lexemes index
refuses nodes more state lexemes index t h e m = refused-first lexemes index (record { reached = h.st; reads = h.runs; refuses = by (Machine.step h.st t) refl m.is })
  where
    by : (o : Option Machine.State) → Machine.step h.st t ≡ o → IsMoved more None o → run (Some opening) (take (index + 1) lexemes) ≡ None
    by None q i = ap (run (Some opening)) e ∙ (run-next (take index lexemes) t h.st h.runs ∙ q)
    by (Some st) q i = absurd i

-- all lexemes were read: the machine accepts them
pub read-whole : (nodes : List Arena.Node) (state : State) (lexemes : List Lexeme) → EndsOnce lexemes → (h : HasRead nodes state lexemes) → (found : ModuleUnits) × (answer (Some h.st) ≡ Some found) × DerivesModule found lexemes
read-whole nodes state lexemes o h =
    let k = accepts-read lexemes o h.st h.runs in
    (k.0, ap answer (sym h.runs) ∙ k.1, accepted-derives k.0 lexemes k.1)

-- the outermost module is closed, after units the first of which begins it
pub closed-units : (nodes : List Arena.Node) (state : State) (point : Point) (reached : Reached) (due : Due) (names : List Lexeme) (st : Machine.State) → state ≡ State.At point → point ≡ Point.Stands reached due names → IsState nodes state st → AreUnits nodes reached.units st.units
closed-units nodes state point reached due names st q p i = by st.focus (subst (λ z. Steps.IsFocus nodes z st.focus st.depth st.units) p (subst (λ z. IsFocus nodes z st.focus st.depth st.units) q i))
  where
    by : (focus : Machine.Focus) → Steps.IsFocus nodes (Point.Stands reached due names) focus st.depth st.units → AreUnits nodes reached.units st.units
    by (Machine.Stands d ns) k = k.2.units
    by (Machine.Declared xs) k = absurd k
    by (Machine.Part b f fs) k = absurd k
    by (Machine.Expression b fs s a) k = absurd k
    by (Machine.Bounds b f s a) k = absurd k

pub closed-whole : (focus : Machine.Focus) (us : List UnitTree) (found : ModuleUnits) → Machine.answered focus us ≡ Some found → whole us ≡ Some found
closed-whole (Machine.Stands Due.Closed names) us found q = q
closed-whole (Machine.Stands _ names) us found q = cc
closed-whole (Machine.Declared xs) us found q = cc
closed-whole (Machine.Part b f fs) us found q = cc
closed-whole (Machine.Expression b fs s a) us found q = cc
closed-whole (Machine.Bounds b f s a) us found q = cc

-- ---- the lexemes one by one

pub reads-next : (nodes more : List Arena.Node) (state next : State) (moved : Option State) (items lexemes : List Lexeme) (index : ℕ) (d : Lexeme) → items ≡ lexemes → index < length lexemes → (h : HasRead nodes state (take index lexemes)) → moved ≡ Some next → Moves nodes more moved (Machine.step h.st (slice_index_or items index d)) → HasRead more next (take (index + 1) lexemes)
reads-next nodes more state next moved items lexemes index d e below h q n =
    let m : Moves nodes more moved (Machine.step h.st (slice_index_or lexemes index d)) = subst (λ z. Moves nodes more moved (Machine.step h.st (slice_index_or z index d))) e n in
    subst (HasRead more next) (sym (take_more lexemes index d below))
    (reads-on nodes more state next (take index lexemes) (slice_index_or lexemes index d) h (subst (λ z. Moves nodes more z (Machine.step h.st (slice_index_or lexemes index d))) q m))

pub refuses-next : (nodes more : List Arena.Node) (state : State) (moved : Option State) (items lexemes : List Lexeme) (index : ℕ) (d : Lexeme) → items ≡ lexemes → index < length lexemes → (h : HasRead nodes state (take index lexemes)) → moved ≡ None → Moves nodes more moved (Machine.step h.st (slice_index_or items index d)) → (index < length lexemes) × IsFirstBad lexemes index
refuses-next nodes more state moved items lexemes index d e below h q n =
    let m : Moves nodes more moved (Machine.step h.st (slice_index_or lexemes index d)) = subst (λ z. Moves nodes more moved (Machine.step h.st (slice_index_or z index d))) e n in (
      below,
      refuses nodes more state lexemes index (slice_index_or lexemes index d) h (take_more lexemes index d below) (subst (λ z. Moves nodes more z (Machine.step h.st (slice_index_or lexemes index d))) q m),
    )

pub read-all : (nodes : List Arena.Node) (state : State) (lexemes : List Lexeme) (index : ℕ) → length lexemes ≤ index → HasRead nodes state (take index lexemes) → HasRead nodes state lexemes
read-all nodes state lexemes index over h = subst (HasRead nodes state) (take_all index lexemes over) h
