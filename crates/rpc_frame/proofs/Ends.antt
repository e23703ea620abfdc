-- A walk over the frames that wait, to the rest behind them.
use Rattle.std.proofs.Common.{◌≡◌, ◌↔◌, ℕ, ◌+◌, Bool, true, false, not, IsTrue, eqb, List, [], ◌∷◌, length, take, drop, refl, sym, ap, ◌∙◌, subst, ⊎_elim, arith}
use Rattle.std.proofs.lemmas.List.{take-append-drop, drop-drop}
use Rattle.std.proofs.lemmas.Bool.{eqb-true, eqb-false, false≢true}
use Rattle.rpc_frame.specs.declared.header.Progress.{Progress}
use Rattle.rpc_frame.specs.declared.header.Found.TheVariants.{Frame, Unfinished, Bad, Long}
use Rattle.rpc_frame.specs.HeaderMachine.{HasRead}
use Rattle.rpc_frame.specs.Framing.{IsFound}
use Rattle.rpc_frame.specs.Frames.{EndsInside}
use Rattle.rpc_frame.proofs.OneReading.{inside_behind, inside_unfinished, nothing_inside, bad_inside, too_long_inside}

-- one list ends as another does
abbrev pub EndsAs : List ℕ → List ℕ → Type 0
EndsAs bytes rest = EndsInside bytes ↔ EndsInside rest

read_none : (bytes : List ℕ) (p : Progress) → HasRead [] p → HasRead bytes p
read_none bytes p r = grind (arith, r)

pub frame_passed : (bytes rest tail : List ℕ) (header content : ℕ) (p : Progress) → IsFound rest (Frame header content) → tail ≡ drop content (drop header rest) → HasRead [] p → EndsAs bytes rest → HasRead tail p × EndsAs bytes tail
frame_passed bytes rest tail header content p f t r as_rest =
    let E : List ℕ → Type 0 = λ l. EndsAs rest l in
    let same : EndsAs rest tail = subst E (sym (t ∙ drop-drop content header rest)) (inside_behind rest (take (header + content) rest) (drop (header + content) rest) (take content (drop header rest)) (sym (take-append-drop (header + content) rest)) f.2) in
    (read_none tail p r, (λ i. same.0 (as_rest.0 i), λ i. as_rest.1 (same.1 i)))

empty : (rest : List ℕ) → length rest ≡ 0 → rest ≡ []
empty [] e = refl
empty (b ∷ rest) e = absurd (omega (arith, e))

pub unfinished_ends : (bytes rest : List ℕ) (none : Bool) → none ≡ eqb (length rest) 0 → IsFound rest Unfinished → EndsAs bytes rest → IsTrue (not none) ↔ EndsInside bytes
unfinished_ends bytes rest true e f as_rest =
    (λ t. absurd (false≢true t), λ i. absurd (nothing_inside rest (empty rest (eqb-true (length rest) 0 (sym e))) (as_rest.0 i)))
unfinished_ends bytes rest false e f as_rest = (
  λ t.
      ⊎_elim (λ n. absurd (eqb-false (length rest) 0 (sym e) (ap length n))) (λ u. as_rest.1 (inside_unfinished rest u)) f,
  λ i. refl,
)

pub bad_ends : (bytes rest : List ℕ) (place : ℕ) → IsFound rest (Bad place) → EndsAs bytes rest → IsTrue false ↔ EndsInside bytes
bad_ends bytes rest place b as_rest =
    (λ t. absurd (false≢true t), λ i. absurd (bad_inside rest place b (as_rest.0 i)))

pub long_ends : (bytes rest : List ℕ) (said : ℕ) → IsFound rest (Long said) → EndsAs bytes rest → IsTrue false ↔ EndsInside bytes
long_ends bytes rest said l as_rest =
    (λ t. absurd (false≢true t), λ i. absurd (too_long_inside rest said l (as_rest.0 i)))
