-- What means the same is equal as a key, and hashed alike.
use Rattle.std.proofs.Common.{◌≡◌, true, refl, sym, ap, ◌∙◌, true≢false}
use Rattle.std.specs.Prelude.{ℕ, ◌&&◌, Option, Some, None}
use Rattle.std.specs.Cmp.{IsEquivalence, both_ways}
use Rattle.std.proofs.lemmas.Bool.{and_from, and_parts, eq-eqb}
use Rattle.std.proofs.lemmas.Bool.Decides.{Decides-eqb}
use Rattle.tla_model.specs.Equal.{meaning-fed}
use Rattle.tla_model.specs.Keys.{meaning_input}
use Rattle.tla_model.specs.Entities.{Meaning, same_meaning}
use Rattle.tla_model.specs.Same.{meaning-itself, same-alike, same-turned}
use Rattle.tree_kinds.specs.Standing.{same_standing}
use Rattle.tree_kinds.proofs.Standings.{standing-alike, standing-itself, standing-means, standing-turned}
use Rattle.module_leads.specs.declared.keys.MeaningKey.{MeaningKey}
use Rattle.module_leads.specs.declared.keys.SymbolKey.{SymbolKey}
use Rattle.module_leads.specs.Keys.{same_arity, same_key}

-- ---- meanings that stand as the same

pub standing-back : (x y : Meaning) → same_standing x y ≡ same_standing y x
standing-back x y = both_ways (same_standing x y) (same_standing y x) (standing-turned x y) (standing-turned y x)

-- keys of meanings
pub meaning-equivalence : IsEquivalence (λ (a b : MeaningKey). same_standing a.meaning b.meaning)
meaning-equivalence = record {
  refl = λ x. standing-itself x.meaning;
  symm = λ x y. standing-back x.meaning y.meaning;
  congr = λ x y z. standing-alike x.meaning y.meaning z.meaning;
}

pub standing-fed : (x y : Meaning) → same_standing x y ≡ true → meaning_input x ≡ meaning_input y
standing-fed x y same = meaning-fed x y (standing-means x y same)

-- ---- symbols

arity-itself : (a : Option ℕ) → same_arity a a ≡ true
arity-itself None = refl
arity-itself (Some n) = eq-eqb n n refl

arity-equal : (a b : Option ℕ) → same_arity a b ≡ true → a ≡ b
arity-equal None None same = refl
arity-equal None (Some n) same = absurd (true≢false (sym same))
arity-equal (Some m) None same = absurd (true≢false (sym same))
arity-equal (Some m) (Some n) same = ap (λ k. Some k) ((Decides-eqb m n).0 same)

key-back : (x y : SymbolKey) → same_key x y ≡ true → same_key y x ≡ true
key-back x y same =
    let parts = and_parts (same_arity x.arity y.arity) (same_meaning x.meaning y.meaning) same in
    and_from (same_arity y.arity x.arity) (same_meaning y.meaning x.meaning)
    (ap (λ z. same_arity z x.arity) (sym (arity-equal x.arity y.arity parts.0)) ∙ arity-itself x.arity) (same-turned x.meaning y.meaning parts.1)

key-along : (x y z : SymbolKey) → same_key x y ≡ true → same_key x z ≡ same_key y z
key-along x y z same =
    let parts = and_parts (same_arity x.arity y.arity) (same_meaning x.meaning y.meaning) same in
    let arities = arity-equal x.arity y.arity parts.0 in
    let meanings = same-alike x.meaning y.meaning z.meaning parts.1 in λ i. same_arity (arities i) z.arity && meanings i

-- keys of symbols
pub key-equivalence : IsEquivalence same_key
key-equivalence = record {
  refl = λ x. and_from (same_arity x.arity x.arity) (same_meaning x.meaning x.meaning) (arity-itself x.arity) (meaning-itself x.meaning);
  symm = λ x y. both_ways (same_key x y) (same_key y x) (key-back x y) (key-back y x);
  congr = key-along;
}

pub key-fed : (x y : SymbolKey) → same_key x y ≡ true → meaning_input x.meaning ≡ meaning_input y.meaning
key-fed x y same = meaning-fed x.meaning y.meaning (and_parts (same_arity x.arity y.arity) (same_meaning x.meaning y.meaning) same).1
