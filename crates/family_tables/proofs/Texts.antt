-- The longest front of some bytes that is a text, and bytes that are the same.
use Rattle.std.proofs.Common.{◌≡◌, ℕ, List, Bool, true, false, not, take, refl, sym, ap, ◌∙◌}
use Rattle.std.proofs.Math.Seq.{take-length}
use Rattle.std.specs.Str.{IsUtf8, bytes_eq}
use Rattle.list_laws.proofs.Texts.{same-text}
use Rattle.tla_text.specs.Places.{IsLongestUtf8}
use Rattle.front_laws.proofs.Readable.{readable_len-longest, readable_len-text}
use Rattle.family_facts.specs.Verdicts.{text_of}

-- the text of bytes that are one
pub text_of-text : (bytes text : List ℕ) → text ≡ bytes → IsUtf8 bytes → text ≡ text_of bytes
text_of-text bytes text is utf8 = is ∙ (sym (take-length bytes) ∙ ap (λ n. take n bytes) (sym (readable_len-text bytes utf8)))

-- and of bytes that are none
pub text_of-longest : (bytes text : List ℕ) (at : ℕ) → text ≡ take at bytes → IsLongestUtf8 bytes at → text ≡ text_of bytes
text_of-longest bytes text at is longest = is ∙ ap (λ n. take n bytes) (sym (readable_len-longest bytes at longest))

-- bytes that do not differ are the same
pub alike : (a b : List ℕ) → false ≡ not (bytes_eq a b) → a ≡ b
alike a b same = by (bytes_eq a b) refl same
  where
    by : (e : Bool) → bytes_eq a b ≡ e → false ≡ not e → a ≡ b
    by true is same = same-text a b is
    by false is same = cc
