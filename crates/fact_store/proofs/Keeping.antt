-- A slot whose fact was brought up to what its needs give.
use Rattle.std.proofs.Common.{◌≡◌, ℕ, Bool, true, false, List, Option, Some, None, refl, sym, ap, ◌∙◌, subst}
use Rattle.std.specs.Prelude.{slice_set, is_none, unwrap_or}
use Rattle.std.specs.Arc.{arc_value}
use Rattle.std.proofs.lemmas.Bool.{and_from}
use Rattle.list_laws.proofs.Tests.{and-right}
use Rattle.fact_store.specs.declared.slot.Slot.{Slot}
use Rattle.fact_store.specs.declared.slot.Kept.{Kept}
use Rattle.fact_store.specs.declared.given.Input.{Input}
use Rattle.fact_values.specs.Names.{name_eq}
use Rattle.fact_values.specs.States.{State, same_given}
use Rattle.fact_store.specs.Given.{states}
use Rattle.fact_store.specs.Slots.{source, IsSound}
use Rattle.fact_store.specs.Right.{is_fresh, with_given, Keeps}
use Rattle.fact_store.proofs.Pairs.{same_given-refl, is_fresh-with_given}

module _ {Own F : Type 0} (own_of : List ℕ → List ℕ → Own) (needs_of : Own → Option (List (List ℕ))) (fact_of : List ℕ → Own → List (List ℕ × State F) → F) (same : F → F → Bool) (same_refl : (a : F) → same a a ≡ true) (old new : List (Slot Own F)) (index : ℕ) (slot : Slot Own F) (given : List (List ℕ × Input F)) (sound : IsSound own_of needs_of fact_of slot) where
  -- its fact stands, and what is given now is like what was given then
  module _ (respects : (name : List ℕ) (own : Own) (xs ys : List (List ℕ × State F)) → same_given same xs ys ≡ true → fact_of name own xs ≡ fact_of name own ys) (fresh : is_fresh same slot.kept (states given) ≡ true) (written : new ≡ slice_set old index (record slot { kept = with_given slot.kept given })) where
    made : (o : Option (Kept F)) → slot.kept ≡ o → is_fresh same o (states given) ≡ true → (k : Kept F) → with_given o given ≡ Some k → arc_value k.fact ≡ fact_of slot.name (own_of slot.name (source k slot.bytes)) (states k.given)
    made None e h k w = cc
    made (Some kept) e h k w =
        let s : record kept { given = given } ≡ k = cc in
        subst (λ (z : Kept F). arc_value z.fact ≡ fact_of slot.name (own_of slot.name (source z slot.bytes)) (states z.given)) s
        (sound.made kept e ∙ respects slot.name (own_of slot.name (source kept slot.bytes)) (states kept.given) (states given) (and-right (is_none kept.from) _ h))

    elsewhere : (o : Option (Kept F)) → slot.kept ≡ o → (k : Kept F) (b : List ℕ) → with_given o given ≡ Some k → k.from ≡ Some b → name_eq b slot.bytes ≡ false
    elsewhere None e k b w f = cc
    elsewhere (Some kept) e k b w f = let s : record kept { given = given } ≡ k = cc in sound.elsewhere kept b e (ap (λ (z : Kept F). z.from) s ∙ f)

    pub keeps-again : Keeps own_of needs_of fact_of same old new index slot (states given)
    keeps-again = record {
      after = record slot { kept = with_given slot.kept given };
      written = written;
      outline_kept = refl;
      sound = record {
        own_part = sound.own_part;
        needs_part = sound.needs_part;
        made = made slot.kept refl fresh;
        elsewhere = elsewhere slot.kept refl;
      };
      fresh = is_fresh-with_given same same_refl slot.kept given fresh;
    }

  -- its fact was derived
  module _ (kept : Kept F) (from : kept.from ≡ None) (with_these : kept.given ≡ given) (fact : arc_value kept.fact ≡ fact_of slot.name slot.own (states given)) (written : new ≡ slice_set old index (record slot { kept = Some kept })) where
    pub keeps-derived : Keeps own_of needs_of fact_of same old new index slot (states given)
    keeps-derived = record {
      after = record slot { kept = Some kept };
      written = written;
      outline_kept = refl;
      sound = record {
        own_part = sound.own_part;
        needs_part = sound.needs_part;
        made = λ k e.
            let s : kept ≡ k = cc in
            subst (λ (z : Kept F). arc_value z.fact ≡ fact_of slot.name (own_of slot.name (source z slot.bytes)) (states z.given)) s
            (fact ∙ (λ j. fact_of slot.name ((sound.own_part ∙ ap (own_of slot.name) (sym (ap (λ (o : Option (List ℕ)). unwrap_or o slot.bytes) from))) j) (states (sym with_these j))));
        elsewhere = λ k b e f. let s : kept ≡ k = cc in let h : ◌≡◌ {A = Option (List ℕ)} None (Some b) = sym from ∙ ap (λ (z : Kept F). z.from) s ∙ f in cc h;
      };
      fresh =
          and_from (is_none kept.from) _ (ap is_none from)
          (ap (λ (xs : List (List ℕ × Input F)). same_given same (states xs) (states given)) with_these ∙ same_given-refl same same_refl (states given));
    }
