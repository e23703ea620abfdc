-- Names of a text, of which no two begin at one place, are new where none of them was seen.
use Rattle.std.proofs.Common.{◌≡◌, ◌≤◌, ◌+◌, ◌⊎◌, ℕ, zero, suc, Bool, true, false, cond, List, [], ◌∷◌, Some, inl, inr, nat_eq, refl, sym, ap, ◌∙◌, subst, map, arith}
use Rattle.std.specs.Prelude.{slice_get}
use Rattle.std.specs.List.{AllByRecursion}
use Rattle.std.proofs.lemmas.Bool.{and_parts}
use Rattle.std.proofs.lemmas.Bool.Decides.{Decides-eqb}
use Rattle.std.specs.Str.{bytes_eq}
use Rattle.list_laws.proofs.Lists.{all-weaker}
use Rattle.list_laws.proofs.Texts.{text-itself}
use Rattle.tla_symbols.specs.declared.lexeme.Lexeme.{Lexeme}
use Rattle.tla_model.specs.declared.ids.Callee.{Callee}
use Rattle.tla_model.specs.declared.ids.DeclId.{DeclId}
use Rattle.tla_model.specs.declared.names.Binder.{Binder}
use Rattle.tla_model.specs.declared.names.Meaning.TheVariants.{BuiltIn, Declared}
use Rattle.tla_model.specs.Entities.{Meaning, Text, declaration, meant, place_in, same_decl, same_meaning, same_units}
use Rattle.tla_model.specs.Same.{decl-equal}
use Rattle.lexeme_laws.specs.Apart.{begins_at, counted, weight}
use Rattle.flattened_trees.specs.Agreeing.{AreNew, is_seen}
use Rattle.fresh_names.specs.Seen.{IsDeclaredBy, IsElsewhere}

-- the lexemes of names, and where they begin
abbrev pub names_of : List Binder → List Lexeme
names_of binders = map (λ binder. binder.name) binders

abbrev pub starts_of : List Binder → List ℕ
starts_of binders = map (λ binder. binder.name.span.start) binders

-- how many of these names begin here
abbrev pub beginning : ℕ → List Binder → ℕ
beginning start binders = counted (begins_at start) (names_of binders)

here : (start : ℕ) (l : Lexeme) → l.span.start ≡ start → weight (begins_at start) l ≡ 1
here start l same = ap (λ b. cond b 1 0) ((Decides-eqb l.span.start start).1 same)

-- a name begins where one of these does
abbrev pub IsThere : List Binder → Binder → Type 0
IsThere all binder = 1 ≤ beginning binder.name.span.start all

pub there-all : (all some : List Binder) → ((start : ℕ) → beginning start some ≤ beginning start all) → AllByRecursion (IsThere all) some
there-all all [] few = tt
there-all all (binder ∷ some) few =
    (omega (arith, few binder.name.span.start, here binder.name.span.start binder.name refl), there-all all some (λ start. omega (arith, few start)))

-- ---- places

place-found : (binders : List Binder) (start : ℕ) → 1 ≤ beginning start binders → slice_get (starts_of binders) (place_in (starts_of binders) start) ≡ Some start
place-found [] start one = absurd (omega (arith, one))
place-found (binder ∷ rest) start one = by (nat_eq binder.name.span.start start) refl (place-found rest start) one
  where
    by : (b : Bool) → nat_eq binder.name.span.start start ≡ b → (1 ≤ beginning start rest → slice_get (starts_of rest) (place_in (starts_of rest) start) ≡ Some start)
        → 1 ≤ cond b 1 0 + beginning start rest → slice_get (starts_of (binder ∷ rest)) (cond b zero (suc (place_in (starts_of rest) start))) ≡ Some start
    by true is later one = ap Some ((Decides-eqb binder.name.span.start start).0 is)
    by false is later one = later (omega (arith, one))

-- names at one place begin at one place
same-start : (all : List Binder) (a b : ℕ) → 1 ≤ beginning a all → 1 ≤ beginning b all → place_in (starts_of all) a ≡ place_in (starts_of all) b → a ≡ b
same-start all a b one two same =
    let found : Some a ≡ Some b = sym (place-found all a one) ∙ (ap (slice_get (starts_of all)) same ∙ place-found all b two) in
    cc found

never : (b : Bool) → (b ≡ true → ⊥) → b ≡ false
never true contrary = absurd (contrary refl)
never false contrary = refl

module _ (file source : List ℕ) (all : List Binder) where
  -- the text of these names
  abbrev pub text : Text
  text = record { file = file; source = source; starts = starts_of all }

  -- where none of these names begins with another, it is none of them
  pub none-declared : (others : List Binder) (binder : Binder) → AllByRecursion (IsThere all) others → IsThere all binder → beginning binder.name.span.start others ≡ 0 → IsDeclaredBy text others (declaration text binder.name) → ⊥
  none-declared [] binder there one none declared = declared
  none-declared (other ∷ others) binder there one none (inl same) =
      let starts : other.name.span.start ≡ binder.name.span.start = same-start all other.name.span.start binder.name.span.start there.0 one (ap (λ (decl : DeclId). decl.place) (sym same)) in
      omega (arith, none, here binder.name.span.start other.name starts)
  none-declared (other ∷ others) binder there one none (inr later) = none-declared others binder there.1 one (omega (arith, none)) later

  clash : (others : List Binder) (binder : Binder) → AllByRecursion (IsThere all) others → IsThere all binder → beginning binder.name.span.start others ≡ 0
      → (callee : Callee) → (same_units [] callee.via ≡ false) ⊎ ((bytes_eq callee.decl.«module» text.file ≡ false) ⊎ IsDeclaredBy text others callee.decl)
      → declaration text binder.name ≡ callee.decl → same_units [] callee.via ≡ true → ⊥
  clash others binder there one none callee (inl through) same units = absurd (cc)
  clash others binder there one none callee (inr (inl foreign)) same units =
      let again : bytes_eq callee.decl.«module» file ≡ true = text-itself callee.decl.«module» file (ap (λ (decl : DeclId). decl.«module») (sym same)) in
      absurd (cc)
  clash others binder there one none callee (inr (inr declared)) same units = none-declared others binder there one none (subst (IsDeclaredBy text others) (sym same) declared)

  -- so it means nothing that is elsewhere
  unlike : (others : List Binder) (binder : Binder) → AllByRecursion (IsThere all) others → IsThere all binder → beginning binder.name.span.start others ≡ 0
      → (meaning : Meaning) → IsElsewhere text others meaning → same_meaning (meant text binder) meaning ≡ false
  unlike others binder there one none BuiltIn elsewhere = refl
  unlike others binder there one none (Declared entity callee) elsewhere =
      never (same_meaning (meant text binder) (Declared entity callee))
      (λ same.
      let parts = and_parts (same_decl (declaration text binder.name) callee.decl) (same_units [] callee.via) same in
      clash others binder there one none callee elsewhere (decl-equal (declaration text binder.name) callee.decl parts.0) parts.1)

  unseen : (others : List Binder) (binder : Binder) → AllByRecursion (IsThere all) others → IsThere all binder → beginning binder.name.span.start others ≡ 0
      → (seen : List Meaning) → AllByRecursion (IsElsewhere text others) seen → is_seen seen (meant text binder) ≡ false
  unseen others binder there one none [] elsewhere = refl
  unseen others binder there one none (meaning ∷ seen) elsewhere =
      ap (λ b. cond b true (is_seen seen (meant text binder))) (unlike others binder there one none meaning elsewhere.0)
      ∙ unseen others binder there one none seen elsewhere.1

  -- of more names
  more : (others : List Binder) (binder : Binder) (meaning : Meaning) → IsElsewhere text others meaning → IsElsewhere text (binder ∷ others) meaning
  more others binder BuiltIn elsewhere = tt
  more others binder (Declared entity callee) (inl through) = inl through
  more others binder (Declared entity callee) (inr (inl foreign)) = inr (inl foreign)
  more others binder (Declared entity callee) (inr (inr declared)) = inr (inr (inr declared))

  -- names are new one after another
  pub all-new : (others own : List Binder) (seen : List Meaning) → AllByRecursion (IsThere all) others → AllByRecursion (IsThere all) own
      → ((start : ℕ) → beginning start others + beginning start own ≤ 1) → AllByRecursion (IsElsewhere text others) seen → AreNew seen (map (meant text) own)
  all-new others [] seen there own few elsewhere = tt
  all-new others (binder ∷ rest) seen there own few elsewhere = (
    unseen others binder there own.0 (omega (arith, few binder.name.span.start, here binder.name.span.start binder.name refl)) seen elsewhere,
    all-new (binder ∷ others) rest (meant text binder ∷ seen) (own.0, there) own.1 (λ start. omega (arith, few start))
        (inr (inr (inl refl)), all-weaker (IsElsewhere text others) (IsElsewhere text (binder ∷ others)) (more others binder) seen elsewhere),
  )
