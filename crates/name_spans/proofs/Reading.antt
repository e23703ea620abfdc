-- Bytes that are a module are read whole.
use Rattle.std.proofs.Common.{◌≡◌, ℕ, zero, suc, Bool, true, false, List, [], length, take, subst, ⊎_elim, arith}
use Rattle.std.specs.Str.{IsUtf8, is_utf8}
use Rattle.std.proofs.Math.Seq.{take-length}
use Rattle.std.proofs.lemmas.Bool.{cases_Bool, cond-false}
use Rattle.std.proofs.lemmas.Str.{IsUtf8-from_is_utf8, is_utf8-from_IsUtf8, IsUtf8-nil}
use Rattle.unit_grammar.specs.Units.{ModuleUnits}
use Rattle.front_laws.specs.Fronts.{Tree, IsFront, greatest, read}
use Rattle.front_laws.proofs.OneFront.{greatest-le}

greatest-passes : (p : ℕ → Bool) (n : ℕ) → greatest p n ≡ n → p 0 ≡ true → p n ≡ true
greatest-passes p zero is first = first
greatest-passes p (suc n) is first =
    ⊎_elim
    (λ (yes : p (suc n) ≡ true). yes)
    (λ (no : p (suc n) ≡ false). absurd (omega (arith, is, cond-false (p (suc n)) (suc n) (greatest p n) no, greatest-le p n)))
    (cases_Bool (p (suc n)))

pub module-is-text : (name bytes : List ℕ) (found : ModuleUnits) → IsFront name bytes (Tree found) → IsUtf8 bytes
module-is-text name bytes found (read readable few part front) =
    subst IsUtf8 (take-length bytes) (IsUtf8-from_is_utf8 (take (length bytes) bytes) (greatest-passes (λ n. is_utf8 (take n bytes)) (length bytes) readable (is_utf8-from_IsUtf8 [] IsUtf8-nil)))
