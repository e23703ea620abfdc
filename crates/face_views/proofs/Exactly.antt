-- What exact answers tell.
use Rattle.std.proofs.Common.{◌≡◌, Bool, true, false, sym, subst, ◌∙◌, true≢false}
use Rattle.tla_model.specs.declared.ids.Callee.{Callee}
use Rattle.tla_model.specs.Entities.{same_decl, same_units}
use Rattle.tla_model.specs.Same.{callee-equal, units-itself}
use Rattle.face_views.specs.Exact.{Tells}

-- an answer tells of what holds exactly where that holds which it tells of
pub tells-as : (answer : Bool) (P Q : Type 0) → (P → Q) → (Q → P) → Tells answer P → Tells answer Q
tells-as true P Q to from told = to told
tells-as false P Q to from told = λ q. told (from q)

pub tells-false : (answer : Bool) (P : Type 0) → answer ≡ false → ¬ P → Tells answer P
tells-false true P is none = absurd (true≢false is)
tells-false false P is none = none

-- and of equal things
pub tells-of : {A : Type 0} (answer : Bool) (P : A → A → Type 0) (a b x y : A) → a ≡ x → b ≡ y →
    Tells answer (P a b) → Tells answer (P x y)
tells-of answer P a b x y first second told =
    subst (λ z. Tells answer (P x z)) second (subst (λ z. Tells answer (P z b)) first told)

-- callees of one instance and one declaration are the same exactly where their units are
pub told-by-units : (answer : Bool) (one other : Callee) → one.instance ≡ other.instance →
    same_decl one.decl other.decl ≡ true → answer ≡ same_units one.via other.via →
    Tells answer (one ≡ other)
told-by-units true one other instances decls is = callee-equal one other instances decls (sym is)
told-by-units false one other instances decls is = λ same.
    let itself : same_units one.via other.via ≡ true =
    subst (λ (c : Callee). same_units one.via c.via ≡ true) same (units-itself one.via) in
    true≢false (sym itself ∙ sym is)
