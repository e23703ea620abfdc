-- What stands for a parameter is the same by its place and by its declaration.
use Rattle.std.proofs.Common.{◌≡◌, ℕ, zero, suc, List, [], ◌∷◌, Some, true, false, refl, ap, ◌∙◌, arith, ⊎_elim}
use Rattle.std.specs.Prelude.{slice_get, if◌then◌else◌}
use Rattle.std.proofs.lemmas.Bool.{cases_Bool}
use Rattle.module_model.specs.declared.face.Replacement.{Replacement}
use Rattle.tla_model.specs.declared.ids.DeclId.{DeclId}
use Rattle.tla_model.specs.Tables.{Named}
use Rattle.tla_model.specs.Entities.{Meaning}
use Rattle.module_model.specs.Exports.{Exports}
use Rattle.module_model.specs.Substitutions.{AreApart, is_declared, replacement_of}

pub by-declaration : (parameters : Exports) (replacements : List Replacement) (i : ℕ) (p : Named × Meaning) (r : Replacement) (decl : DeclId) → AreApart parameters → slice_get parameters i ≡ Some p → slice_get replacements i ≡ Some r → is_declared p.1 decl ≡ true → replacement_of parameters replacements decl ≡ Some r
by-declaration [] replacements i p r decl apart at to is = cc
by-declaration (first ∷ parameters) [] i p r decl apart at to is = cc
by-declaration (first ∷ parameters) (one ∷ replacements) zero p r decl apart at to is =
    let same : first ≡ p = cc in
    let gives : one ≡ r = cc in
    ap (λ b. if b then Some one else replacement_of parameters replacements decl) (ap (λ (x : Named × Meaning). is_declared x.1 decl) same ∙ is) ∙ ap (λ x. Some x) gives
by-declaration (first ∷ parameters) (one ∷ replacements) (suc i) p r decl apart at to is = ⊎_elim
    (λ (t : is_declared first.1 decl ≡ true). let k : zero ≡ suc i = apart zero (suc i) first p decl refl at t is in absurd (omega (arith, k)))
    (λ (f : is_declared first.1 decl ≡ false).
    ap (λ b. if b then Some one else replacement_of parameters replacements decl) f
    ∙ by-declaration parameters replacements i p r decl (λ j k a b d m n s t. let e : suc j ≡ suc k = apart (suc j) (suc k) a b d m n s t in omega (arith, e)) at to is)
    (cases_Bool (is_declared first.1 decl))
