-- A part of some files has, under its names, the texts of all.
use Rattle.std.proofs.Common.{◌≡◌, ◌≤◌, ℕ, Bool, true, false, List, [], ◌∷◌, Option, Some, None, refl, sym, ap, ◌∙◌, arith, cond, filter, inl, inr, map, not, subst}
use Rattle.std.specs.Prelude.{Contains, sum_by}
use Rattle.std.specs.FinMap.{get}
use Rattle.std.proofs.lemmas.List.Elements.{Contains-append_cases, Contains-append_right}
use Rattle.std.proofs.lemmas.List.Sums.{sum_by-cons}
use Rattle.list_laws.proofs.Lists.{contains-map}
use Rattle.family_facts.specs.Facts.{texts_of}
use Rattle.family_facts.specs.Family.{Member, is_there}
use Rattle.family_facts.specs.Verdicts.{AreDistinct, built_in_members, family_of, member_of}
use Rattle.family_facts.specs.declared.verdict.File.{File}
use Rattle.family_facts.proofs.Lists.{filter-in, in-filter, mapped}
use Rattle.family_facts.proofs.Members.{file-there, member-there, there-member}
use Rattle.family_facts.proofs.Once.{filter-placed, members-differ}
use Rattle.family_facts.proofs.States.{text-member, text-of-member}

-- a part is not longer, however long each item counts
pub sum-part : {A : Type 0} (size : A → ℕ) (p : A → Bool) (xs : List A) → sum_by size (filter p xs) ≤ sum_by size xs
sum-part size p [] = omega arith
sum-part {A} size p (x ∷ xs) = by (p x) (sum-part size p xs)
  where
    by : (b : Bool) → sum_by size (filter p xs) ≤ sum_by size xs → sum_by size (cond b (x ∷ filter p xs) (filter p xs)) ≤ sum_by size (x ∷ xs)
    by true l = omega (arith, l, sum_by-cons size x xs, sum_by-cons size x (filter p xs))
    by false l = omega (arith, l, sum_by-cons size x xs)

module _ (p : List ℕ → Bool) (files : List File) (distinct : AreDistinct files) where
  -- the files of these names
  abbrev pub part : List File
  part = filter (λ (file : File). p file.name) files

  pub part-distinct : AreDistinct part
  part-distinct = filter-placed (λ (file : File). file.name) (λ (file : File). p file.name) files distinct

  pub file-in : (f : File) → Contains files f → p f.name ≡ true → Contains part f
  file-in f h t = filter-in (λ (file : File). p file.name) files f h t

  file-out : (f : File) → Contains part f → Contains files f
  file-out f h = (in-filter (λ (file : File). p file.name) files f h).0

  -- ---- what hides built-in modules

  hidden-out : (name : List ℕ) → is_there (map member_of part) name ≡ true → is_there (map member_of files) name ≡ true
  hidden-out name t =
      let m = there-member (map member_of part) name t in
      let f = mapped member_of part m.0 m.1 in
      member-there (map member_of files) name (member_of f.0) (contains-map member_of files f.0 (file-out f.0 f.1)) (ap (λ (x : Member). x.name) f.2 ∙ m.2)

  hidden-in : (name : List ℕ) → p name ≡ true → is_there (map member_of files) name ≡ true → is_there (map member_of part) name ≡ true
  hidden-in name among t =
      let m = there-member (map member_of files) name t in
      let f = mapped member_of files m.0 m.1 in
      let named : f.0.name ≡ name = ap (λ (x : Member). x.name) f.2 ∙ m.2 in
      member-there (map member_of part) name (member_of f.0) (contains-map member_of part f.0 (file-in f.0 f.1 (ap p named ∙ among))) named

  shown : (a b : Bool) → (b ≡ true → a ≡ true) → not a ≡ true → not b ≡ true
  shown true b h n = cc
  shown false true h n = let never : false ≡ true = h refl in cc
  shown false false h n = refl

  -- ---- members

  member-in : (m : Member) → Contains (family_of files) m → p m.name ≡ true → Contains (family_of part) m
  member-in m h t = elim (Contains-append_cases (map member_of files) (filter (λ x. not (is_there (map member_of files) x.name)) built_in_members) m h) as (λ _. Contains (family_of part) m) [
    | inl own ↦
        let f = mapped member_of files m own in
        subst (Contains (family_of part)) f.2 (file-there part f.0 (file-in f.0 f.1 (ap (λ (x : Member). p x.name) f.2 ∙ t)))
    | inr other ↦
        let o = in-filter (λ x. not (is_there (map member_of files) x.name)) built_in_members m other in
        Contains-append_right (map member_of part) (filter (λ x. not (is_there (map member_of part) x.name)) built_in_members) m
        (filter-in (λ x. not (is_there (map member_of part) x.name)) built_in_members m o.0 (shown (is_there (map member_of files) m.name) (is_there (map member_of part) m.name) (hidden-out m.name) o.1))
  ]

  member-out : (m : Member) → Contains (family_of part) m → p m.name ≡ true → Contains (family_of files) m
  member-out m h t = elim (Contains-append_cases (map member_of part) (filter (λ x. not (is_there (map member_of part) x.name)) built_in_members) m h) as (λ _. Contains (family_of files) m) [
    | inl own ↦ let f = mapped member_of part m own in subst (Contains (family_of files)) f.2 (file-there files f.0 (file-out f.0 f.1))
    | inr other ↦
        let o = in-filter (λ x. not (is_there (map member_of part) x.name)) built_in_members m other in
        Contains-append_right (map member_of files) (filter (λ x. not (is_there (map member_of files) x.name)) built_in_members) m
        (filter-in (λ x. not (is_there (map member_of files) x.name)) built_in_members m o.0 (shown (is_there (map member_of part) m.name) (is_there (map member_of files) m.name) (hidden-in m.name t) o.1))
  ]

  -- ---- texts

  text-in : (name bytes : List ℕ) → p name ≡ true → get (texts_of (family_of files)) name ≡ Some bytes → get (texts_of (family_of part)) name ≡ Some bytes
  text-in name bytes t e =
      let m = text-member (family_of files) name bytes e in
      ap (get (texts_of (family_of part))) (sym m.named)
      ∙ text-of-member (family_of part) (members-differ part part-distinct) m.member (member-in m.member m.there (ap p m.named ∙ t))
      ∙ ap (λ bs. Some bs) m.is

  text-out : (name bytes : List ℕ) → p name ≡ true → get (texts_of (family_of part)) name ≡ Some bytes → get (texts_of (family_of files)) name ≡ Some bytes
  text-out name bytes t e =
      let m = text-member (family_of part) name bytes e in
      ap (get (texts_of (family_of files))) (sym m.named)
      ∙ text-of-member (family_of files) (members-differ files distinct) m.member (member-out m.member m.there (ap p m.named ∙ t))
      ∙ ap (λ bs. Some bs) m.is

  -- each name has the text that it has among all
  pub part-text : (name : List ℕ) → p name ≡ true → get (texts_of (family_of files)) name ≡ get (texts_of (family_of part)) name
  part-text name t = by (get (texts_of (family_of files)) name) (get (texts_of (family_of part)) name) refl refl
    where
      by : (a b : Option (List ℕ)) → get (texts_of (family_of files)) name ≡ a → get (texts_of (family_of part)) name ≡ b → a ≡ b
      by None None e f = refl
      by (Some x) b e f = sym (text-in name x t e) ∙ f
      by None (Some y) e f = sym e ∙ text-out name y t f
