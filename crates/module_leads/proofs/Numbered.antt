-- Faces by their numbers: those before a limit, and one more.
use Rattle.std.proofs.Common.{◌≡◌, ℕ, zero, suc, ◌<◌, ◌≤◌, Bool, true, false, List, [], ◌∷◌, ◌++◌, Option, Some, None, refl, sym, ap, ◌∙◌, length, get_or, slice_get, if◌then◌else◌, arith, true≢false}
use Rattle.std.specs.Prelude.{nat_eq, nat_lt}
use Rattle.std.proofs.lemmas.Bool.{eq-eqb, ltb-false, ltb-true}
use Rattle.std.proofs.lemmas.Bool.Decides.{Decides-eqb}
use Rattle.std.proofs.lemmas.Option.{slice_get-get_or, slice_get_past, slice_get_within}
use Rattle.list_laws.proofs.Lists.{at-end}
use Rattle.flattened_trees.specs.Leads.{FlatFace, nowhere}
use Rattle.flattened_units.specs.Units.{no_face}
use Rattle.module_leads.specs.declared.faces.ModuleFace.{ModuleFace}
use Rattle.module_leads.specs.Faces.{IsFaceBefore, faces_of, first_faces, flat_face, listed_face}
use Rattle.module_leads.specs.Ways.{face_at}

-- ---- lists

pub at-within : {A : Type 0} (a b : List A) (n : ℕ) → n < length a → slice_get (a ++ b) n ≡ slice_get a n
at-within [] b n within = absurd (omega arith)
at-within (x ∷ a) b zero within = refl
at-within (x ∷ a) b (suc n) within = at-within a b n (omega arith)

pub length-more : {A : Type 0} (a : List A) (x : A) → length (a ++ x ∷ []) ≡ suc (length a)
length-more [] x = refl
length-more (y ∷ a) x = ap suc (length-more a x)

pub other-number : (m n : ℕ) → (m ≡ n → ⊥) → nat_eq m n ≡ false
other-number m n apart = by (nat_eq m n) refl
  where
    by : (b : Bool) → nat_eq m n ≡ b → nat_eq m n ≡ false
    by true e = absurd (apart ((Decides-eqb m n).0 e))
    by false e = e

-- ---- faces

-- none has a number that is not before the limit
pub face-past : (listed : List ModuleFace) (limit number : ℕ) → limit ≤ number → first_faces listed limit number ≡ no_face
face-past listed zero number past = refl
face-past listed (suc count) number past =
    ap (λ (b : Bool). if b then listed_face (first_faces listed count) (slice_get listed count) else first_faces listed count number) (other-number number count (λ e. omega arith))
    ∙ face-past listed count number (omega arith)

-- one before the limit is what it is by those before it
pub face-listed : (listed : List ModuleFace) (limit number : ℕ) → number < limit → first_faces listed limit number ≡ listed_face (first_faces listed number) (slice_get listed number)
face-listed listed zero number below = absurd (omega arith)
face-listed listed (suc count) number below = by (nat_eq number count) refl (λ apart. face-listed listed count number (omega arith))
  where
    by : (b : Bool) → nat_eq number count ≡ b → ((number ≡ count → ⊥) → first_faces listed count number ≡ listed_face (first_faces listed number) (slice_get listed number)) →
        (if b then listed_face (first_faces listed count) (slice_get listed count) else first_faces listed count number) ≡ listed_face (first_faces listed number) (slice_get listed number)
    by true e before = ap (λ (n : ℕ). listed_face (first_faces listed n) (slice_get listed n)) (sym ((Decides-eqb number count).0 e))
    by false e before = before (λ same. true≢false (sym (eq-eqb number count same) ∙ e))

-- it is the same whatever the limit
pub face-known : (listed : List ModuleFace) (limit number : ℕ) → number < limit → first_faces listed limit number ≡ faces_of listed number
face-known listed limit number below = face-listed listed limit number below ∙ by (nat_lt number (length listed)) refl
  where
    by : (b : Bool) → nat_lt number (length listed) ≡ b → listed_face (first_faces listed number) (slice_get listed number) ≡ faces_of listed number
    by true e = sym (face-listed listed (length listed) number (ltb-true number (length listed) e))
    by false e =
        let past : length listed ≤ number = ltb-false number (length listed) e in
        ap (listed_face (first_faces listed number)) (slice_get_past listed number past) ∙ sym (face-past listed (length listed) number past)

-- a face by its number
pub face-is : (listed : List ModuleFace) (number : ℕ) (face : ModuleFace) → slice_get listed number ≡ Some face → faces_of listed number ≡ flat_face (first_faces listed number) face
face-is listed number face at = face-listed listed (length listed) number (slice_get_within listed number face at) ∙ ap (listed_face (first_faces listed number)) at

pub face-gone : (listed : List ModuleFace) (number : ℕ) → slice_get listed number ≡ None → faces_of listed number ≡ no_face
face-gone listed number none = by (nat_lt number (length listed)) refl
  where
    by : (b : Bool) → nat_lt number (length listed) ≡ b → faces_of listed number ≡ no_face
    by true e = face-listed listed (length listed) number (ltb-true number (length listed) e) ∙ ap (listed_face (first_faces listed number)) none
    by false e = face-past listed (length listed) number (ltb-false number (length listed) e)

pub face-beyond : (listed : List ModuleFace) (limit : ℕ) (face : Option ℕ) (number : ℕ) → face ≡ Some number → limit ≤ number → face_at (first_faces listed limit) face ≡ no_face
face-beyond listed limit face number is past = ap (face_at (first_faces listed limit)) is ∙ face-past listed limit number past

pub face-before : (listed : List ModuleFace) (limit : ℕ) (face : Option ℕ) (number : ℕ) (found : ModuleFace) → face ≡ Some number → number < limit → limit ≤ length listed → found ≡ get_or listed number found
    → IsFaceBefore listed limit face number found
face-before listed limit face number found is below within at = record {
  before = below;
  numbered = is;
  is = ap (face_at (first_faces listed limit)) is ∙ face-listed listed limit number below
      ∙ ap (listed_face (first_faces listed number)) (slice_get-get_or listed number found (omega arith) ∙ ap Some (sym at));
}

-- over no name paths lead nowhere
pub listed-none : (faces : ℕ → FlatFace) (face : Option ModuleFace) → (listed_face faces face).leads [] ≡ nowhere
listed-none faces None = refl
listed-none faces (Some face) = refl

pub face-none : (listed : List ModuleFace) (limit : ℕ) (face : Option ℕ) → (face_at (first_faces listed limit) face).leads [] ≡ nowhere
face-none listed limit None = refl
face-none listed zero (Some number) = refl
face-none listed (suc count) (Some number) = by (nat_eq number count) (face-none listed count (Some number))
  where
    by : (b : Bool) → (first_faces listed count number).leads [] ≡ nowhere → (if b then listed_face (first_faces listed count) (slice_get listed count) else first_faces listed count number).leads [] ≡ nowhere
    by true before = listed-none (first_faces listed count) (slice_get listed count)
    by false before = before

-- ---- one more

-- the others stay
pub faces-stay : (listed : List ModuleFace) (face : ModuleFace) (limit : ℕ) → limit ≤ length listed → first_faces (listed ++ face ∷ []) limit ≡ first_faces listed limit
faces-stay listed face zero within = refl
faces-stay listed face (suc count) within =
    let before = faces-stay listed face count (omega arith) in
    let at = at-within listed (face ∷ []) count (omega arith) in
    λ i number. if nat_eq number count then listed_face (before i) (at i) else before i number

pub faces-more : (listed : List ModuleFace) (face : ModuleFace) → faces_of (listed ++ face ∷ []) ≡ (λ number. if nat_eq number (length listed) then flat_face (faces_of listed) face else faces_of listed number)
faces-more listed face =
    let before = faces-stay listed face (length listed) (omega arith) in
    let at = at-end listed face in
    ap (first_faces (listed ++ face ∷ [])) (length-more listed face)
    ∙ (λ i number. if nat_eq number (length listed) then listed_face (before i) (at i) else before i number)
