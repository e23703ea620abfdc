-- The expansion over parameters that stay becomes any other one, by what is put in for them.
use Rattle.std.proofs.Common.{◌≡◌, ℕ, suc, ◌+◌, List, [], ◌∷◌, refl, ap, ◌∙◌, length, arith}
use Rattle.kind_text.specs.ExpandedKind.{Expanded, Operands, Ruled, Guarded, Nil, Cons}
use Rattle.kind_text.specs.Substitution.{Item, at, put, puts, stays}
use Rattle.kind_text.specs.FlatModule.{FlatModule}
use Rattle.kind_text.specs.Expansion.{text}
use Rattle.kind_text.proofs.Relations.{Each, AllRelated, IsKept, text-related}

module _ (z : ℕ → Item) where
  abbrev pub Becomes : Expanded → Expanded → Type 0
  Becomes t u = put t z ≡ u

  each-puts : (ts us : Operands) → Each Becomes ts us → puts ts z ≡ us
  each-puts Nil Nil each = refl
  each-puts Nil (Cons u us) each = absurd each
  each-puts (Cons t ts) Nil each = absurd each
  each-puts (Cons t ts) (Cons u us) each = ap (λ x. Cons x (puts ts z)) each.0 ∙ ap (Cons u) (each-puts ts us each.1)

  kept : IsKept Becomes
  kept = record {
    leaf = λ k. refl;
    rule = λ r ts us each. ap (Ruled r) (each-puts ts us each);
    guard = λ most a b t u same more. ap (λ x. Guarded most x (put t z)) same ∙ ap (Guarded most b) more;
  }

  -- the parameters that stay become what is put in
  stays-become : (s : List Item) (i : ℕ) → ((k : ℕ) → z (k + i) ≡ at s k) → AllRelated Becomes (stays i (length s)) s
  stays-become [] i same = tt
  stays-become (x ∷ s) i same =
      let n : i ≡ 0 + i = omega arith in let e : z i ≡ x = ap z n ∙ same 0 in (
        record { text = ap (λ (y : Item). y.text) e; call = λ ts us each. ap (λ (y : Item). y.call (puts ts z)) e ∙ ap x.call (each-puts ts us each) },
        stays-become s (suc i) (λ k. let m : k + suc i ≡ suc k + i = omega arith in ap z m ∙ same (suc k)),
      )

-- the expansion over parameters that stay, with items put in for them
pub put-text : (flat : FlatModule) (i : ℕ) (s : List Item) → put (text flat i (stays 0 (length s))).text (at s) ≡ (text flat i s).text
put-text flat i s =
    (text-related (Becomes (at s)) (kept (at s)) flat i (stays 0 (length s)) s
    (stays-become (at s) s 0 (λ k. let m : k + 0 ≡ k = omega arith in ap (at s) m))).text
