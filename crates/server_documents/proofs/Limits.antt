-- How many bytes the texts have.
use Rattle.std.proofs.Common.{◌≡◌, ◌≤◌, ◌+◌, ◌*◌, ◌^◌, ℕ, List, [], ◌∷◌, length, refl, sym, ap, ◌∙◌, arith}
use Rattle.std.specs.Prelude.{map}
use Rattle.std.specs.List.{sum_by}
use Rattle.std.specs.Map.{values_of}
use Rattle.std.proofs.lemmas.List.Sums.{sum_by-cons}
use Rattle.lsp_answers.specs.States.{ModuleText, bytes_of}
use Rattle.server_documents.specs.declared.held.Held.{Held}
use Rattle.server_documents.specs.Held.{AreShort, held_len, text_as}

-- the bytes of what is held are those of the texts
pub all-bytes : (es : List (List ℕ × Held)) → sum_by held_len (values_of es) ≡ bytes_of (map text_as es)
all-bytes [] = refl
all-bytes (e ∷ es) =
    sum_by-cons held_len e.1 (values_of es) ∙ ap (λ n. held_len e.1 + n) (all-bytes es)
    ∙ sym (sum_by-cons (λ (text : ModuleText). length text.bytes) (text_as e) (map text_as es))

-- short texts have few bytes for each
pub few-bytes : (es : List (List ℕ × Held)) → AreShort es → sum_by held_len (values_of es) ≤ length es * 2 ^ 31
few-bytes [] all = omega arith
few-bytes (e ∷ es) all = let one = all.0 in let rest = few-bytes es all.1 in let cons = sum_by-cons held_len e.1 (values_of es) in omega (arith, one, rest, cons)
