-- The same is found of a module by texts that agree on it and on all that it needs.
use Rattle.std.proofs.Common.{◌≡◌, ℕ, Bool, true, List, Option, Some, None, refl, ap, ◌∙◌}
use Rattle.std.specs.FinMap.{get}
use Rattle.fact_values.specs.Names.{Texts}
use Rattle.fact_values.proofs.Agreeing.{given-agree}
use Rattle.family_facts.specs.Facts.{needs_of, own_of}
use Rattle.leveled_facts.specs.Families.{AgreeOn, fact_of, leveled, leveled_text}

pub leveled-agree : (texts others : Texts) (among : List ℕ → Bool) → AgreeOn texts others among → (name : List ℕ) → among name ≡ true → leveled texts name ≡ leveled others name
leveled-agree texts others among agree name h = of-text (get texts name) ∙ ap (leveled_text others name) (agree.same name h)
  where
    of-text : (o : Option (List ℕ)) → leveled_text texts name o ≡ leveled_text others name o
    of-text None = refl
    of-text (Some bytes) = ap (fact_of name (own_of name bytes)) (given-agree own_of needs_of fact_of texts others among agree name h)
