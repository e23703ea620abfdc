-- Files of names that stand but once.
use Rattle.std.proofs.Common.{◌≡◌, ℕ, ◌+◌, ◌<◌, List, [], ◌∷◌, ◌++◌, length, get_or, Option, Some, None, refl, sym, ap, ◌∙◌, subst, arith, slice_get, ⊎_elim}
use Rattle.std.specs.List.Sorted.{IsStrictlySortedBy}
use Rattle.std.specs.Ordering.{nat_cmp}
use Rattle.std.specs.Cmp.Lexicographic.{slice_cmp}
use Rattle.std.proofs.lemmas.List.{append-nil}
use Rattle.std.proofs.lemmas.Option.{slice_get-get_or}
use Rattle.family_facts.specs.Verdicts.{AreDistinct}
use Rattle.family_facts.specs.declared.verdict.File.{File}
use Rattle.list_laws.proofs.Lists.{pushed-cases}
use Rattle.file_names.specs.Files.{module_of_file, modules_of_listing}
use Rattle.file_names.proofs.Named.{file_named}
use Rattle.sany_files.specs.Files.{with_read}
use Rattle.name_graph.specs.Family.{AreOnce}
use Rattle.sany_files.specs.Reading.{AreNamed}
use Rattle.sany_files.proofs.DistinctLemmas.{filter_map-apart, sorted-apart}

-- two files of one module are one
one-file : (a b name : List ℕ) → module_of_file a ≡ Some name → module_of_file b ≡ Some name → a ≡ b
one-file a b name is_a is_b = (file_named a name is_a).1 ∙ sym (file_named b name is_b).1

-- no module of a listing stands twice
pub modules-distinct : (names : List (List ℕ)) → IsStrictlySortedBy (slice_cmp nat_cmp) names → AreOnce (modules_of_listing names)
modules-distinct names sorted = filter_map-apart module_of_file one-file names (sorted-apart names sorted)

module _ (files : List File) (names : List (List ℕ)) (i : ℕ) (name : List ℕ) (at : slice_get names i ≡ Some name) (named : AreNamed files names i) where
  named-file : (f : File) → f.name ≡ name → AreNamed (files ++ f ∷ []) names (i + 1)
  named-file f is = λ k g e.
      ⊎_elim (λ old. let w = named k g old in (w.0, (omega arith), w.2))
      (λ new. (i, (omega arith), at ∙ ap (λ n. Some n) (sym is ∙ ap (λ (x : File). x.name) new.1)))
      (pushed-cases files f g k e)

  -- a file that is there has another name
  not-there : AreOnce names → (k : ℕ) (a : File) → slice_get files k ≡ Some a → a.name ≡ name → ⊥
  not-there distinct k a e same =
      let w = named k a e in
      let one : w.0 ≡ i = distinct w.0 i name (w.2 ∙ ap (λ n. Some n) same) at in
      omega (arith, w.1, one)

  distinct-file : (f : File) → f.name ≡ name → AreOnce names → AreDistinct files → AreDistinct (files ++ f ∷ [])
  distinct-file f is distinct apart = λ k m a b e g same.
      ⊎_elim
      (λ old. ⊎_elim (λ old'. apart k m a b old old' same) (λ new. absurd (not-there distinct k a old (same ∙ (sym (ap (λ (x : File). x.name) new.1) ∙ is)))) (pushed-cases files f b m g))
      (λ new. ⊎_elim (λ old'. absurd (not-there distinct m b old' (sym same ∙ (sym (ap (λ (x : File). x.name) new.1) ∙ is)))) (λ new'. new.0 ∙ sym new'.0) (pushed-cases files f b m g))
      (pushed-cases files f a k e)

  named-read : (bytes : Option (List ℕ)) → AreNamed (files ++ with_read name bytes []) names (i + 1)
  named-read None = subst (λ fs. AreNamed fs names (i + 1)) (sym (append-nil files)) (λ k g e. let w = named k g e in (w.0, (omega arith), w.2))
  named-read (Some bytes) = named-file (record { name = name; bytes = bytes }) refl

  distinct-read : (bytes : Option (List ℕ)) → AreOnce names → AreDistinct files → AreDistinct (files ++ with_read name bytes [])
  distinct-read None distinct apart = subst (λ fs. AreDistinct fs) (sym (append-nil files)) apart
  distinct-read (Some bytes) distinct apart = distinct-file (record { name = name; bytes = bytes }) refl distinct apart

name-at : (names : List (List ℕ)) (i : ℕ) (d name : List ℕ) → i < length names → name ≡ get_or names i d → slice_get names i ≡ Some name
name-at names i d name lt is = slice_get-get_or names i d lt ∙ ap (λ n. Some n) (sym is)

-- one more read
pub named-more : (names : List (List ℕ)) (i : ℕ) (d name : List ℕ) (bytes : Option (List ℕ)) (files files' : List File) → i < length names → name ≡ get_or names i d →
    files' ≡ files ++ with_read name bytes [] → AreNamed files names i → AreNamed files' names (i + 1)
named-more names i d name bytes files files' lt isname isfiles named = subst (λ fs. AreNamed fs names (i + 1)) (sym isfiles) (named-read files names i name (name-at names i d name lt isname) named bytes)

pub distinct-more : (names : List (List ℕ)) (i : ℕ) (d name : List ℕ) (bytes : Option (List ℕ)) (files files' : List File) → i < length names → name ≡ get_or names i d →
    files' ≡ files ++ with_read name bytes [] → AreNamed files names i → AreOnce names → AreDistinct files → AreDistinct files'
distinct-more names i d name bytes files files' lt isname isfiles named distinct apart =
    subst (λ fs. AreDistinct fs) (sym isfiles) (distinct-read files names i name (name-at names i d name lt isname) named bytes distinct apart)

pub named-none : (names : List (List ℕ)) → AreNamed [] names 0
named-none names = λ k f e. absurd (cc)
