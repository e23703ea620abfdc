-- What means the same is equal as a key, and hashed alike.
use Rattle.std.proofs.Common.{◌≡◌, true, refl, sym, true≢false}
use Rattle.std.specs.Prelude.{◌&&◌}
use Rattle.std.specs.Cmp.{IsEquivalence, both_ways}
use Rattle.std.proofs.lemmas.Bool.{and_parts}
use Rattle.tla_model.specs.declared.ids.Callee.{Callee}
use Rattle.tla_model.specs.declared.names.Meaning.TheVariants.{BuiltIn, Declared}
use Rattle.tla_model.specs.Entities.{Meaning, same_decl, same_meaning, same_units}
use Rattle.tla_model.specs.Keys.{meaning_input}
use Rattle.tla_model.specs.Same.{decl-equal, meaning-itself, same-alike, same-turned, units-equal}

-- callees that are the same have one declaration, and came through the same units
callees-equal : (a b : Callee) → (same_decl a.decl b.decl && same_units a.via b.via) ≡ true → (a.decl ≡ b.decl) × (a.via ≡ b.via)
callees-equal a b same =
    let parts = and_parts (same_decl a.decl b.decl) (same_units a.via b.via) same in (decl-equal a.decl b.decl parts.0, units-equal a.via b.via parts.1)

pub meaning-fed : (x y : Meaning) → same_meaning x y ≡ true → meaning_input x ≡ meaning_input y
meaning-fed BuiltIn BuiltIn same = refl
meaning-fed BuiltIn (Declared f b) same = absurd (true≢false (sym same))
meaning-fed (Declared e a) BuiltIn same = absurd (true≢false (sym same))
meaning-fed (Declared e a) (Declared f b) same =
    let equal = callees-equal a b same in λ i. meaning_input (Declared f (record { instance = 0; decl = equal.0 i; via = equal.1 i }))

same-back : (x y : Meaning) → same_meaning x y ≡ same_meaning y x
same-back x y = both_ways (same_meaning x y) (same_meaning y x) (same-turned x y) (same-turned y x)

pub meaning-equivalence : IsEquivalence same_meaning
meaning-equivalence = record { refl = meaning-itself; symm = same-back; congr = same-alike }
