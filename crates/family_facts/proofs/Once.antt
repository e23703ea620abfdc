-- Each name of a family stands once.
use Rattle.std.proofs.Common.{◌≡◌, ℕ, zero, suc, ◌+◌, List, [], ◌∷◌, ◌++◌, Some, refl, sym, ap, ◌∙◌, cond, map, filter, not, length, arith, true, false, Bool, inl, inr, subst}
use Rattle.std.specs.Prelude.{◌⊎◌, ◌&&◌, Contains, slice_get}
use Rattle.std.specs.Str.{bytes_eq}
use Rattle.list_laws.specs.Distinct.{AreNamedApart}
use Rattle.list_laws.proofs.Lists.{at-mapped}
use Rattle.list_laws.proofs.Tests.{and-both}
use Rattle.list_laws.proofs.Texts.{text-itself}
use Rattle.std_modules.specs.StdTexts.{std_names}
use Rattle.family_facts.specs.Family.{AreMembersDistinct, Member, is_there}
use Rattle.family_facts.specs.Verdicts.{AreDistinct, built_in, built_in_members, family_of, member_of}
use Rattle.family_facts.specs.declared.verdict.File.{File}
use Rattle.family_facts.proofs.Lists.{at-contains, contains-at, in-filter, mapped}
use Rattle.family_facts.proofs.Members.{AreOneEach, not-hidden, one-each}

-- the name is none of these
abbrev pub is_apart : List ℕ → List (List ℕ) → Bool
is_apart name [] = true
is_apart name (other ∷ names) = not (bytes_eq other name) && is_apart name names

abbrev pub are_apart : List (List ℕ) → Bool
are_apart [] = true
are_apart (name ∷ names) = is_apart name names && are_apart names

pub not-so : (a : Bool) → not a ≡ true → a ≡ false
not-so true e = cc
not-so false e = refl

pub built-in-apart : are_apart std_names ≡ true
built-in-apart = refl

at-either : {A : Type 0} (xs ys : List A) (i : ℕ) (x : A) → slice_get (xs ++ ys) i ≡ Some x → (slice_get xs i ≡ Some x) ⊎ ((k : ℕ) × (i ≡ length xs + k) × (slice_get ys k ≡ Some x))
at-either [] ys i x e = inr (i, omega arith, e)
at-either (z ∷ xs) ys zero x e = inl e
at-either {A} (z ∷ xs) ys (suc i) x e = elim (at-either xs ys i x e) as (λ _. (slice_get (z ∷ xs) (suc i) ≡ Some x) ⊎ ((k : ℕ) × (suc i ≡ length (z ∷ xs) + k) × (slice_get ys k ≡ Some x))) [
  | inl before ↦ inl before
  | inr rest ↦ let h : i ≡ length xs + rest.0 = rest.1 in inr (rest.0, omega arith, rest.2)
]

apart-not : (name : List ℕ) (names : List (List ℕ)) → is_apart name names ≡ true → Contains names name → ⊥
apart-not name [] apart h = absurd (omega (arith, h.1))
apart-not name (x ∷ xs) apart (zero, l, e) =
    let k : true ≡ false = sym (text-itself x name e) ∙ not-so (bytes_eq x name) (and-both (not (bytes_eq x name)) (is_apart name xs) apart).0 in
    cc
apart-not name (x ∷ xs) apart (suc i, l, e) = apart-not name xs (and-both (not (bytes_eq x name)) (is_apart name xs) apart).1 (i, omega (arith, l), e)

-- a built-in module of these has one of these names
built-in-named : (p : Member → Bool) (names : List (List ℕ)) (k : ℕ) (a : Member) → slice_get (filter p (map built_in names)) k ≡ Some a → Contains names a.name
built-in-named p names k a e =
    let n = mapped built_in names a (in-filter p (map built_in names) a (at-contains (filter p (map built_in names)) k a e)).0 in
    subst (λ x. Contains names x) (ap (λ (m : Member). m.name) n.2) n.1

-- ---- items that have names of their own

module _ {A : Type 0} (name_of : A → List ℕ) where
  place-first : (b : A) (rest : List A) → AreNamedApart name_of rest → ((k : ℕ) (a : A) → slice_get rest k ≡ Some a → name_of a ≡ name_of b → ⊥) → AreNamedApart name_of (b ∷ rest)
  place-first b rest placed apart zero zero x y ex ey same = refl
  place-first b rest placed apart zero (suc l) x y ex ey same = let s : b ≡ x = cc in absurd (apart l y ey (sym (ap name_of s ∙ same)))
  place-first b rest placed apart (suc k) zero x y ex ey same = let s : b ≡ y = cc in absurd (apart k x ex (same ∙ sym (ap name_of s)))
  place-first b rest placed apart (suc k) (suc l) x y ex ey same = ap suc (placed k l x y ex ey same)

  none-placed : AreNamedApart name_of []
  none-placed zero l a b ea eb same = cc
  none-placed (suc k) l a b ea eb same = cc

  place-kept : (t : Bool) (b : A) (rest : List A) → AreNamedApart name_of rest → AreNamedApart name_of (b ∷ rest) → AreNamedApart name_of (cond t (b ∷ rest) rest)
  place-kept true b rest h k = k
  place-kept false b rest h k = h

  -- some of them have names of their own
  pub filter-placed : (p : A → Bool) (xs : List A) → AreNamedApart name_of xs → AreNamedApart name_of (filter p xs)
  filter-placed p [] d = none-placed
  filter-placed p (x ∷ xs) d =
      let rest : AreNamedApart name_of (filter p xs) = filter-placed p xs (λ k l a b ea eb same. let e : suc k ≡ suc l = d (suc k) (suc l) a b ea eb same in cc) in
      place-kept (p x) x (filter p xs) rest
      (place-first x (filter p xs) rest (λ k a e same.
      let at = contains-at xs a (in-filter p xs a (at-contains (filter p xs) k a e)).0 in
      let never : zero ≡ suc at.0 = d zero (suc at.0) x a refl at.1 (sym same) in
      cc))

built-in-placed : (p : Member → Bool) (names : List (List ℕ)) → are_apart names ≡ true → AreMembersDistinct (filter p (map built_in names))
built-in-placed p [] apart = none-placed (λ (m : Member). m.name)
built-in-placed p (n ∷ ns) apart =
    let parts = and-both (is_apart n ns) (are_apart ns) apart in
    let rest : List Member = filter p (map built_in ns) in
    let placed : AreMembersDistinct rest = built-in-placed p ns parts.1 in
    place-kept (λ (m : Member). m.name) (p (built_in n)) (built_in n) rest placed (place-first (λ (m : Member). m.name) (built_in n) rest placed (λ k a e same. apart-not n ns parts.0 (subst (λ x. Contains ns x) same (built-in-named p ns k a e))))

files-placed : (files : List File) → AreDistinct files → AreMembersDistinct (map member_of files)
files-placed files d k l a b ea eb same =
    let f = at-mapped member_of files k a ea in
    let g = at-mapped member_of files l b eb in
    d k l f.0 g.0 f.1 g.1 (ap (λ (m : Member). m.name) f.2 ∙ (same ∙ sym (ap (λ (m : Member). m.name) g.2)))

-- no two members of the files over the built-in modules have one name
pub family-placed : (files : List File) → AreDistinct files → AreMembersDistinct (family_of files)
family-placed files d k l a b ea eb same =
    let own : List Member = map member_of files in
    let kept : Member → Bool = λ m. not (is_there own m.name) in
    let others : List Member = filter kept built_in_members in
    elim (at-either own others k a ea) as (λ _. k ≡ l) [
      | inl fa ↦ elim (at-either own others l b eb) as (λ _. k ≡ l) [
        | inl fb ↦ files-placed files d k l a b fa fb same
        | inr sb ↦ absurd (not-hidden own a b (at-contains own k a fa) (in-filter kept built_in_members b (at-contains others sb.0 b sb.2)).1 same)
      ]
      | inr sa ↦ elim (at-either own others l b eb) as (λ _. k ≡ l) [
        | inl fb ↦ absurd (not-hidden own b a (at-contains own l b fb) (in-filter kept built_in_members a (at-contains others sa.0 a sa.2)).1 (sym same))
        | inr sb ↦
            let place : sa.0 ≡ sb.0 = built-in-placed kept std_names built-in-apart sa.0 sb.0 a b sa.2 sb.2 same in
            sa.1 ∙ (ap (λ n. length own + n) place ∙ sym sb.1)
      ]
    ]

pub members-differ : (files : List File) → AreDistinct files → AreOneEach (family_of files)
members-differ files d = one-each (family_of files) (family-placed files d)
