-- Units one by one: whether they are the same, and what is hashed of them.
use Rattle.std.proofs.Common.{◌≡◌, ℕ, ◌+◌, ◌<◌, suc, Bool, true, false, List, [], ◌∷◌, ◌++◌, refl, sym, ap, ◌∙◌, length, get_or, take, fold}
use Rattle.std.specs.Prelude.{◌&&◌}
use Rattle.std.specs.Hash as fed
use Rattle.tla_model.specs.declared.ids.UnitId.{UnitId}
use Rattle.tla_model.specs.Entities.{same_units}
use Rattle.tla_model.proofs.Stretching.{stretch-next}
use Rattle.tla_model.specs.Keys.{same_unit, units_input}

pub units-apart : (a b : List UnitId) → (length a ≡ length b → ⊥) → false ≡ same_units a b
units-apart [] [] apart = absurd (apart refl)
units-apart [] (y ∷ b) apart = refl
units-apart (x ∷ a) [] apart = refl
units-apart (x ∷ a) (y ∷ b) apart = by (same_unit x y) (units-apart a b (λ e. apart (ap suc e)))
  where
    by : (c : Bool) → false ≡ same_units a b → false ≡ (c && same_units a b)
    by true rest = rest
    by false rest = refl

-- one more unit
pub units-more : {S : Type 0} (write : S → List ℕ → S) (first before named last : S) (units : List UnitId) (i : ℕ) (unit : UnitId)
    → before ≡ fold write first (units_input (take i units)) → named ≡ fold write before (fed.str unit.«module») → last ≡ fold write named (fed.u32 unit.place)
    → i < length units → unit ≡ get_or units i unit → last ≡ fold write first (units_input (take (i + 1) units))
units-more write first before named last units i unit known name place within is =
    fed.fed_then write first before last (units_input (take i units)) (fed.str unit.«module» ++ fed.u32 unit.place) known
    (fed.fed_then write before named last (fed.str unit.«module») (fed.u32 unit.place) name place)
    ∙ ap (fold write first) (sym (stretch-next (λ (other : UnitId). fed.str other.«module» ++ fed.u32 other.place) units i unit within is))
