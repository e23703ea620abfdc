-- Faces that go together: those of imports, and those that are there with a further one.
use Rattle.std.proofs.Common.{◌≡◌, ℕ, List, [], ◌∷◌, ◌++◌, Option, Some, None, Bool, true, false, refl, sym, ap, ◌∙◌, cond, subst}
use Rattle.std.specs.Prelude.{IsSome}
use Rattle.std.specs.Arc.{arc_value}
use Rattle.std.specs.Str.{bytes_eq}
use Rattle.list_laws.proofs.Texts.{same-text}
use Rattle.tla_model.specs.declared.ids.DeclId.{DeclId}
use Rattle.module_model.specs.declared.face.Face.{Face}
use Rattle.module_model.specs.Exports.{Exports, face_instances}
use Rattle.module_model.specs.Given.{AgreeOn, AreFaces, AreForeign, IsFaceOver, IsWhole, ComesFrom, Text, Reached, imported}
use Rattle.module_model.specs.Imports.{Imports}
use Rattle.family_tables.specs.Agreement.{AreAgreed, AreFrom, IsAgreed, IsAgreedFace, IsTaken, Own, Shared, accepted_face, found_face}
use Rattle.family_tables.specs.Tables.{entry_of}
use Rattle.family_tables.specs.declared.outcome.Outcome.{Outcome}
use Rattle.family_tables.specs.declared.outcome.Outcome.TheVariants as outcome
use Rattle.family_tables.proofs.Tabling.{entry-append}

none-is : {A : Type 0} (o : Option A) → o ≡ None → IsSome o → ⊥
none-is None none some = let k : false ≡ true = some in cc
none-is (Some x) none some = cc

none-some : {A : Type 0} (x : A) → ◌≡◌ {A = Option A} None (Some x) → ⊥
none-some {A} x e = cc

same-some : {A : Type 0} (o : Option A) (x y : A) → o ≡ Some x → o ≡ Some y → x ≡ y
same-some {A} None x y one other = absurd (none-some x one)
same-some {A} (Some z) x y one other = same z x one ∙ same y z (sym other)
  where
    same : (a b : A) → ◌≡◌ {A = Option A} (Some a) (Some b) → b ≡ a
    same a b e = cc

-- ---- imports

module _ (outcomes : List (List ℕ × Outcome)) (imports : Imports) (title : List ℕ) (agreed : AreAgreed outcomes) (unfound : entry_of outcomes title ≡ None) (from : AreFrom outcomes imports) where
  foreign-from : (name : List ℕ) (face : Face) → imported imports name ≡ Some face → AreForeign (face_instances face) title
  foreign-from name face there decl entries found = by (bytes_eq decl.«module» title) refl
    where
      by : (b : Bool) → bytes_eq decl.«module» title ≡ b → bytes_eq decl.«module» title ≡ false
      by true same = absurd (none-is (entry_of outcomes decl.«module») (ap (entry_of outcomes) (same-text decl.«module» title same) ∙ unfound) (agreed.declared name face decl entries (from name face there) found))
      by false apart = apart

  -- those of imports go together where those that were found do
  pub faces-from : AreFaces imports title
  faces-from = record {
    named = λ name face there. agreed.named name face (from name face there);
    whole = λ name face there. agreed.whole name face (from name face there);
    agree = λ name other one two first second. agreed.agree name other one two (from name one first) (from other two second);
    foreign = foreign-from;
  }

-- a face over imports that were found goes with those that were found
pub agreed-over : (outcomes : List (List ℕ × Outcome)) (imports : Imports) (title : List ℕ) (face : Face) → AreFrom outcomes imports → IsFaceOver imports title face → IsAgreedFace outcomes title face
agreed-over outcomes imports title face from over = record { named = over.named; whole = over.whole; from = λ decl entries there. taken decl entries (over.from decl entries there) }
  where
    taken : (decl : DeclId) (entries : Exports) → ComesFrom imports title decl entries → IsTaken outcomes title decl entries
    taken decl entries (Text own) = Own own
    taken decl entries (Reached name other there reached) = Shared name other (from name other there) reached

-- ---- one more module

pub none-agreed : AreAgreed []
none-agreed = record {
  named = λ name face there. absurd (none-some face there);
  whole = λ name face there. absurd (none-some face there);
  agree = λ name other one two first second. absurd (none-some one first);
  declared = λ name face decl entries there found. absurd (none-some face there);
}

module _ (outcomes : List (List ℕ × Outcome)) (title : List ℕ) (agreed : AreAgreed outcomes) (none : entry_of outcomes title ≡ None) where
  -- a further face says of an instance what a face that is there says
  agree-old : (one two : Face) (other : List ℕ) → IsAgreedFace outcomes title one → found_face outcomes other ≡ Some two → AgreeOn (face_instances one) (face_instances two)
  agree-old one two other is there decl a b first second = by (is.from decl a first)
    where
      by : IsTaken outcomes title decl a → a ≡ b
      by (Own own) = absurd (none-is (entry_of outcomes decl.«module») (ap (entry_of outcomes) (same-text decl.«module» title own) ∙ none) (agreed.declared other two decl b there second))
      by (Shared name face found has) = agreed.agree name other face two found there decl a b has second

  fresh : (o : outcome.the_data) (face : Face) → IsAgreed outcomes title o → accepted_face (Some o) ≡ Some face → IsAgreedFace outcomes title face
  fresh (outcome.Refused faults) face new some = absurd (none-some face some)
  fresh (outcome.Accepted shared) face new some = subst (IsAgreedFace outcomes title) (same-some (Some (arc_value shared)) (arc_value shared) face refl some) new

  module _ (outcomes' : List (List ℕ × Outcome)) (o : Outcome) (grown : outcomes' ≡ outcomes ++ (title, o) ∷ []) (new : IsAgreed outcomes title o) where
    value : (name : List ℕ) → entry_of outcomes' name ≡ cond (bytes_eq name title) (Some o) (entry_of outcomes name)
    value name = ap (λ z. entry_of z name) grown ∙ entry-append outcomes name title o none

    -- a face is the further one, or was there
    data Which (name : List ℕ) (face : Face) : Type 0 where
      New : bytes_eq name title ≡ true → accepted_face (Some o) ≡ Some face → Which name face
      Old : found_face outcomes name ≡ Some face → Which name face

    which : (name : List ℕ) (face : Face) → found_face outcomes' name ≡ Some face → Which name face
    which name face there = by (bytes_eq name title) refl (sym (ap accepted_face (value name)) ∙ there)
      where
        by : (b : Bool) → bytes_eq name title ≡ b → accepted_face (cond b (Some o) (entry_of outcomes name)) ≡ Some face → Which name face
        by true same some = New same some
        by false apart some = Old some

    still-there : (name : List ℕ) → IsSome (entry_of outcomes name) → IsSome (entry_of outcomes' name)
    still-there name there = subst IsSome (sym (value name)) (by (bytes_eq name title))
      where
        by : (b : Bool) → IsSome (cond b (Some o) (entry_of outcomes name))
        by true = refl
        by false = there

    own-there : (name : List ℕ) → bytes_eq name title ≡ true → IsSome (entry_of outcomes' name)
    own-there name own = subst IsSome (sym (value name ∙ ap (λ b. cond b (Some o) (entry_of outcomes name)) own)) refl

    named-more : (name : List ℕ) (face : Face) → Which name face → face.«module» ≡ name
    named-more name face (New same some) = (fresh o face new some).named ∙ sym (same-text name title same)
    named-more name face (Old there) = agreed.named name face there

    whole-more : (name : List ℕ) (face : Face) → Which name face → IsWhole face
    whole-more name face (New same some) = (fresh o face new some).whole
    whole-more name face (Old there) = agreed.whole name face there

    agree-more : (name other : List ℕ) (one two : Face) → Which name one → Which other two → AgreeOn (face_instances one) (face_instances two)
    agree-more name other one two (Old first) (Old second) = agreed.agree name other one two first second
    agree-more name other one two (New same first) (Old second) = agree-old one two other (fresh o one new first) second
    agree-more name other one two (Old first) (New same second) = λ decl a b here there. sym (agree-old two one name (fresh o two new second) first decl b a there here)
    agree-more name other one two (New same first) (New again second) = λ decl a b here there.
        same-some (face_instances two decl) a b (ap (λ (f : Face). face_instances f decl) (same-some (accepted_face (Some o)) two one second first) ∙ here) there

    declared-more : (name : List ℕ) (face : Face) (decl : DeclId) (entries : Exports) → face_instances face decl ≡ Some entries → Which name face → IsSome (entry_of outcomes' decl.«module»)
    declared-more name face decl entries found (Old there) = still-there decl.«module» (agreed.declared name face decl entries there found)
    declared-more name face decl entries found (New same some) = by ((fresh o face new some).from decl entries found)
      where
        by : IsTaken outcomes title decl entries → IsSome (entry_of outcomes' decl.«module»)
        by (Own own) = own-there decl.«module» own
        by (Shared other reached there has) = still-there decl.«module» (agreed.declared other reached decl entries there has)

    pub agreed-more : AreAgreed outcomes'
    agreed-more = record {
      named = λ name face there. named-more name face (which name face there);
      whole = λ name face there. whole-more name face (which name face there);
      agree = λ name other one two first second. agree-more name other one two (which name one first) (which other two second);
      declared = λ name face decl entries there found. declared-more name face decl entries found (which name face there);
    }
