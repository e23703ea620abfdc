-- Members and their names.
use Rattle.std.proofs.Common.{◌≡◌, ℕ, zero, suc, List, [], ◌∷◌, refl, sym, ap, ◌∙◌, arith, map, filter, true, false, not, ◌||◌, ⊎_elim}
use Rattle.std.specs.Prelude.{Contains, slice_get}
use Rattle.std.specs.Str.{bytes_eq}
use Rattle.std.proofs.lemmas.Bool.{cases_Bool}
use Rattle.std.proofs.lemmas.List.Elements.{Contains-append_left}
use Rattle.list_laws.proofs.Lists.{contains-map}
use Rattle.list_laws.proofs.Texts.{same-text, text-itself}
use Rattle.family_facts.proofs.Lists.{at-same, behind, contains-at, none-there}
use Rattle.family_facts.specs.Family.{Member, is_there, AreMembersDistinct}
use Rattle.family_facts.specs.Verdicts.{built_in_members, family_of, member_of}
use Rattle.family_facts.specs.declared.verdict.File.{File}

-- a name that is there is that of a member
pub there-member : (members : List Member) (name : List ℕ) → is_there members name ≡ true → (m : Member) × Contains members m × (m.name ≡ name)
there-member [] name e = cc
there-member (m ∷ members) name e = ⊎_elim
    (λ (t : bytes_eq name m.name ≡ true). (m, (0, omega arith, refl), sym (same-text name m.name t)))
    (λ (f : bytes_eq name m.name ≡ false).
    let r = there-member members name (sym (ap (λ b. b || is_there members name) f) ∙ e) in
    (r.0, behind m members r.0 r.1, r.2))
    (cases_Bool (bytes_eq name m.name))

-- and that of a member is there
pub member-there : (members : List Member) (name : List ℕ) (m : Member) → Contains members m → m.name ≡ name → is_there members name ≡ true
member-there [] name m h e = absurd (none-there m h)
member-there (a ∷ members) name m (zero, l, s) e = ap (λ b. b || is_there members name) (text-itself name a.name (sym (ap (λ (x : Member). x.name) s ∙ e)))
member-there (a ∷ members) name m (suc i, l, s) e = ⊎_elim
    (λ (t : bytes_eq name a.name ≡ true). ap (λ b. b || is_there members name) t)
    (λ (f : bytes_eq name a.name ≡ false). ap (λ b. b || is_there members name) f ∙ member-there members name m (i, omega (arith, l), s) e)
    (cases_Bool (bytes_eq name a.name))

-- a file hides the built-in module of its name
pub not-hidden : (files : List Member) (a b : Member) → Contains files a → not (is_there files b.name) ≡ true → a.name ≡ b.name → ⊥
not-hidden files a b h n e = let k : not true ≡ true = sym (ap not (member-there files b.name a h e)) ∙ n in cc

-- members of one name are one
abbrev pub AreOneEach : List Member → Type 0
AreOneEach family = (a b : Member) → Contains family a → Contains family b → a.name ≡ b.name → a ≡ b

pub one-each : (family : List Member) → AreMembersDistinct family → AreOneEach family
one-each family distinct a b ha hb e =
    let i = contains-at family a ha in
    let j = contains-at family b hb in
    at-same family j.0 a b (ap (slice_get family) (sym (distinct i.0 j.0 a b i.1 j.1 e)) ∙ i.1) j.1

-- a file is a member of its family
pub file-there : (files : List File) (f : File) → Contains files f → Contains (family_of files) (member_of f)
file-there files f h = Contains-append_left (map member_of files) (filter (λ m. not (is_there (map member_of files) m.name)) built_in_members) (member_of f) (contains-map member_of files f h)
