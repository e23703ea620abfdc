-- A table in groups means what the plain table means.
use Rattle.std.proofs.Common.{◌≡◌, ℕ, true, false, eqb, cond, List, [], ◌∷◌, Option, Some, None, refl, sym, ap, ◌∙◌, subst, ◌⊎◌, inl, inr, ⊎_elim}
use Rattle.std.specs.Prelude.{map}
use Rattle.std.proofs.lemmas.Bool.{cases_Bool}
use Rattle.std.proofs.lemmas.Slice.Eq.{bytes_eq-Decides}
use Rattle.std.specs.Str.{bytes_eq}
use Rattle.tla_spelling.specs.Spellings.{meaning_of}
use Rattle.tla_spelling.specs.Groups.{meaning_from, meaning_in}

opt-cases : {A : Type 0} (o : Option A) → ((a : A) × (o ≡ Some a)) ⊎ (o ≡ None)
opt-cases None = inr refl
opt-cases (Some a) = inl (a, refl)

-- what each entry's own spelling means elsewhere, and what it is to mean
abbrev pub elsewhere : {E M : Type 0} → (E → List ℕ) → (List ℕ → Option M) → List E → List (Option M)
elsewhere text lookup entries = map (λ e. lookup (text e)) entries

abbrev pub meant : {E M : Type 0} → (E → M) → List E → List (Option M)
meant meaning entries = map (λ e. Some (meaning e)) entries

-- what an entry means, its spelling means elsewhere
found : {E M : Type 0} (text : E → List ℕ) (meaning : E → M) (lookup : List ℕ → Option M) (es : List E) (s : List ℕ) (m : M) → elsewhere text lookup es ≡ meant meaning es → meaning_of text meaning es s ≡ Some m → lookup s ≡ Some m
found text meaning lookup [] s m all is = cc is
found text meaning lookup (e ∷ es) s m all is =
    let here : lookup (text e) ≡ Some (meaning e) = cc all in
    let later : elsewhere text lookup es ≡ meant meaning es = cc all in
    ⊎_elim
    (λ (same : bytes_eq (text e) s ≡ true).
    let value : Some (meaning e) ≡ Some m = sym (ap (λ b. cond b (Some (meaning e)) (meaning_of text meaning es s)) same) ∙ is in
    subst (λ l. lookup l ≡ Some (meaning e)) ((bytes_eq-Decides (text e) s).0 same) here ∙ value)
    (λ (other : bytes_eq (text e) s ≡ false).
    found text meaning lookup es s m later (sym (ap (λ b. cond b (Some (meaning e)) (meaning_of text meaning es s)) other) ∙ is))
    (cases_Bool (bytes_eq (text e) s))

found-from : {G E M : Type 0} (text : E → List ℕ) (meaning : E → M) (first : G → ℕ) (entries : G → List E) (lookup : List ℕ → Option M) (gs : List G) (b : ℕ) (s : List ℕ) (m : M) → map (λ g. elsewhere text lookup (entries g)) gs ≡ map (λ g. meant meaning (entries g)) gs → meaning_from text meaning first entries gs b s ≡ Some m → lookup s ≡ Some m
found-from text meaning first entries lookup [] b s m all is = cc is
found-from text meaning first entries lookup (g ∷ gs) b s m all is =
    let here : elsewhere text lookup (entries g) ≡ meant meaning (entries g) = cc all in
    let later : map (λ x. elsewhere text lookup (entries x)) gs ≡ map (λ x. meant meaning (entries x)) gs = cc all in
    ⊎_elim
    (λ (same : eqb (first g) b ≡ true).
    found text meaning lookup (entries g) s m here (sym (ap (λ t. cond t (meaning_of text meaning (entries g) s) (meaning_from text meaning first entries gs b s)) same) ∙ is))
    (λ (other : eqb (first g) b ≡ false).
    found-from text meaning first entries lookup gs b s m later (sym (ap (λ t. cond t (meaning_of text meaning (entries g) s) (meaning_from text meaning first entries gs b s)) other) ∙ is))
    (cases_Bool (eqb (first g) b))

found-in : {G E M : Type 0} (text : E → List ℕ) (meaning : E → M) (first : G → ℕ) (entries : G → List E) (lookup : List ℕ → Option M) (gs : List G) (s : List ℕ) (m : M) → map (λ g. elsewhere text lookup (entries g)) gs ≡ map (λ g. meant meaning (entries g)) gs → meaning_in text meaning first entries gs s ≡ Some m → lookup s ≡ Some m
found-in text meaning first entries lookup gs [] m all is = cc is
found-in text meaning first entries lookup gs (b ∷ more) m all is = found-from text meaning first entries lookup gs b (b ∷ more) m all is

-- two ways to look a spelling up, of which each finds what the other finds
same : {M : Type 0} (one two : List ℕ → Option M) (s : List ℕ) → ((m : M) → one s ≡ Some m → two s ≡ Some m) → ((m : M) → two s ≡ Some m → one s ≡ Some m) → one s ≡ two s
same one two s there back =
    ⊎_elim
    (λ (some : (m : _) × (one s ≡ Some m)). some.1 ∙ sym (there some.0 some.1))
    (λ (none : one s ≡ None).
    ⊎_elim
    (λ (some : (m : _) × (two s ≡ Some m)). back some.0 some.1 ∙ sym some.1)
    (λ (also : two s ≡ None). none ∙ sym also)
    (opt-cases (two s)))
    (opt-cases (one s))

-- a table in groups and a plain one that have the same entries
pub same-in : {G E F M : Type 0} (text : E → List ℕ) (meaning : E → M) (first : G → ℕ) (entries : G → List E) (gs : List G) (plain : F → List ℕ) (meaning_plain : F → M) (fs : List F) (s : List ℕ)
    → map (λ g. elsewhere text (meaning_of plain meaning_plain fs) (entries g)) gs ≡ map (λ g. meant meaning (entries g)) gs
    → elsewhere plain (meaning_in text meaning first entries gs) fs ≡ meant meaning_plain fs
    → meaning_in text meaning first entries gs s ≡ meaning_of plain meaning_plain fs s
same-in text meaning first entries gs plain meaning_plain fs s groups rows =
    same (meaning_in text meaning first entries gs) (meaning_of plain meaning_plain fs) s
    (λ m is. found-in text meaning first entries (meaning_of plain meaning_plain fs) gs s m groups is)
    (λ m is. found plain meaning_plain (meaning_in text meaning first entries gs) fs s m rows is)
