-- Paths that are followed, one instance after another.
use Rattle.std.proofs.Common.{◌≡◌, ℕ, List, [], ◌∷◌, ◌++◌, sym, ap, ◌∙◌, append_assoc, append-nil}
use Rattle.flattened_trees.specs.Leads.{Lead, nowhere, through}
use Rattle.module_leads.specs.Paths.{along}

along-next : (path : List ℕ) (j : ℕ) (lead : Lead) → along (path ++ j ∷ []) lead ≡ along path (through j lead)
along-next path j lead = let longer = append_assoc path (j ∷ []) lead.path in λ i. record { path = longer i; end = lead.end }

-- through one more instance
pub follow-on : (old new : List ℕ) (j : ℕ) (inner next all : Lead) → new ≡ old ++ j ∷ [] → along old (through j inner) ≡ all → inner ≡ next → along new next ≡ all
follow-on old new j inner next all longer known is =
    ap (λ path. along path next) longer ∙ along-next old j next ∙ ap (λ lead. along old (through j lead)) (sym is) ∙ known

-- and nothing is known behind it
pub follow-nowhere : (old new : List ℕ) (j : ℕ) (inner all : Lead) → new ≡ old ++ j ∷ [] → along old (through j inner) ≡ all → inner ≡ nowhere → record { path = new; end = nowhere.end } ≡ all
follow-nowhere old new j inner all longer known is =
    let whole = append-nil new in (λ i. record { path = sym whole i; end = nowhere.end }) ∙ follow-on old new j inner nowhere all longer known is
