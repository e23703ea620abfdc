-- The modules of a root are read in byte order of their names.
use Rattle.std.proofs.Common.{◌≡◌, ℕ, ◌<◌, ◌≤◌, true, List, [], ◌∷◌, Option, Some, None, refl, ap, ◌∙◌, subst, arith, inl, inr}
use Rattle.std.specs.Prelude.{◌&&◌, ◌||◌, ◌==◌, is_none, nat_le, not, option_and_then}
use Rattle.std.specs.BTreeSet.{insert_key}
use Rattle.std.specs.Char.{is_ascii_alphanumeric}
use Rattle.std.specs.Int.{is_in_range}
use Rattle.std.specs.Cmp.{nat_cmp_is}
use Rattle.std.specs.Cmp.Lexicographic.{slice_cmp}
use Rattle.std.specs.List.{cons_option, filter_map, list_all, list_any}
use Rattle.std.specs.Ordering.{nat_cmp, match_ordering, ordering_then}
use Rattle.std.specs.declared.cmp.Ordering.{Ordering}
use Rattle.std.specs.declared.cmp.Ordering.TheVariants.{Less, Equal, Greater}
use Rattle.std.proofs.lemmas.Bool.{and_parts, eqb-true, leb-true, or_cases}
use Rattle.tool_io.specs.Folder.{Told, files_at, names_at, names_of, with_names}
use Rattle.tool_io.specs.declared.FileBytes.{FileBytes}
use Rattle.tla_lexeme.specs.LexemeSets.{is_fair, is_identifier, is_in, is_name, table_kind}
use Rattle.tla_lexeme.specs.declared.class.Class.TheVariants.{Letter, WordChar}
use Rattle.lsp_answers.specs.States.{State}
use Rattle.file_names.specs.Files.{file_of, module_of_file, modules_of_listing}
use Rattle.server_documents.specs.Documents.{called, modules_in, names_in, root_modules}
use Rattle.server_texts.specs.Kept.{AreInByteOrder}
use Rattle.server_uris.specs.Uris.{client_root_of}
use Rattle.server_texts.proofs.ByteOrder.{before-trans, ordered-first, ordered-more, ordered-none, ordered-rest, turned, IsBeforeAll}
use Rattle.file_names.proofs.Named.{file_named}

-- ---- the names of files

before-insert : (a name : List ℕ) (names : List (List ℕ)) → slice_cmp nat_cmp a name ≡ Less → IsBeforeAll a names → IsBeforeAll a (insert_key (slice_cmp nat_cmp) names name)
before-insert a name [] less h = (less, tt)
before-insert a name (b ∷ names) less h = at (slice_cmp nat_cmp name b) (before-insert a name names less h.1)
  where
    at : (o : Ordering) → IsBeforeAll a (insert_key (slice_cmp nat_cmp) names name) → IsBeforeAll a (match_ordering o (name ∷ b ∷ names) (b ∷ names) (b ∷ insert_key (slice_cmp nat_cmp) names name))
    at Less rest = (less, h)
    at Equal rest = h
    at Greater rest = (h.0, rest)

insert-at : (o : Ordering) (name b : List ℕ) (names : List (List ℕ)) → slice_cmp nat_cmp name b ≡ o → AreInByteOrder (b ∷ names) → AreInByteOrder (insert_key (slice_cmp nat_cmp) names name) → AreInByteOrder (match_ordering o (name ∷ b ∷ names) (b ∷ names) (b ∷ insert_key (slice_cmp nat_cmp) names name))
insert-at Less name b names e h rest =
    ordered-more name (b ∷ names) (e, before-trans name b names e (ordered-first b names h)) h
insert-at Equal name b names e h rest = h
insert-at Greater name b names e h rest =
    ordered-more b (insert_key (slice_cmp nat_cmp) names name) (before-insert b name names (turned name b e) (ordered-first b names h)) rest

insert-ordered : (name : List ℕ) (names : List (List ℕ)) → AreInByteOrder names → AreInByteOrder (insert_key (slice_cmp nat_cmp) names name)
insert-ordered name [] h = ordered-more name [] tt h
insert-ordered name (b ∷ names) h = insert-at (slice_cmp nat_cmp name b) name b names refl h (insert-ordered name names (ordered-rest b names h))

with-names-ordered : (names : List (List ℕ)) (files : List FileBytes) → AreInByteOrder names → AreInByteOrder (with_names names files)
with-names-ordered names [] h = h
with-names-ordered names (f ∷ files) h =
    with-names-ordered (insert_key (slice_cmp nat_cmp) names f.name) files (insert-ordered f.name names h)

files-ordered : (files : Option (List FileBytes)) → AreInByteOrder (names_of files)
files-ordered None = ordered-none
files-ordered (Some files) = with-names-ordered [] files ordered-none

-- ---- the names of modules

from-range : (low high c : ℕ) → 46 < low → is_in_range low high c ≡ true → 46 < c
from-range low high c above e =
    let least : low ≤ c = leb-true low c (and_parts (nat_le low c) (nat_le c high) e).0 in omega arith

digit-or-capital : (c : ℕ) → (is_in_range 48 57 c || is_in_range 65 90 c) ≡ true → 46 < c
digit-or-capital c e = elim (or_cases (is_in_range 48 57 c) (is_in_range 65 90 c) e) as (λ _. 46 < c) [ inl is ↦ from-range 48 57 c (omega arith) is | inr is ↦ from-range 65 90 c (omega arith) is ]

digit-or-letter : (c : ℕ) → is_ascii_alphanumeric c ≡ true → 46 < c
digit-or-letter c e = elim (or_cases (is_in_range 48 57 c || is_in_range 65 90 c) (is_in_range 97 122 c) e) as (λ _. 46 < c) [ inl is ↦ digit-or-capital c is | inr is ↦ from-range 97 122 c (omega arith) is ]

-- a character of a name stands behind the point
behind-point : (c : ℕ) → is_in WordChar c ≡ true → 46 < c
behind-point c e = elim (or_cases (is_ascii_alphanumeric c) (c == 95) e) as (λ _. 46 < c) [ inl is ↦ digit-or-letter c is | inr is ↦ omega (arith, eqb-true c 95 is) ]

then-less : (o p q : Ordering) → (p ≡ Less → q ≡ Less) → ordering_then o p ≡ Less → ordering_then o q ≡ Less
then-less Less p q f e = refl
then-less Equal p q f e = f e
then-less Greater p q f e = e

-- so names are in the order of their files
name-less : (a b : List ℕ) → list_all (is_in WordChar) a ≡ true → slice_cmp nat_cmp (file_of a) (file_of b) ≡ Less → slice_cmp nat_cmp a b ≡ Less
name-less [] [] word e = cc
name-less [] (y ∷ b) word e = refl
name-less (x ∷ a) [] word e =
    let parts : (is_in WordChar x ≡ true) × (list_all (is_in WordChar) a ≡ true) = and_parts (is_in WordChar x) (list_all (is_in WordChar) a) word in
    let behind : Greater ≡ nat_cmp x 46 = nat_cmp_is x 46 Greater (behind-point x parts.0) in
    let no : Greater ≡ Less = ap (λ o. ordering_then o (slice_cmp nat_cmp (file_of a) (116 ∷ 108 ∷ 97 ∷ []))) behind ∙ e in
    cc
name-less (x ∷ a) (y ∷ b) word e =
    then-less (nat_cmp x y) (slice_cmp nat_cmp (file_of a) (file_of b)) (slice_cmp nat_cmp a b) (name-less a b (and_parts (is_in WordChar x) (list_all (is_in WordChar) a) word).1) e

word-name : (name : List ℕ) → is_identifier name ≡ true → list_all (is_in WordChar) name ≡ true
unfolding is_identifier
word-name name e =
    let named = and_parts (is_name name) (is_none (table_kind name)) e in
    let lettered = and_parts (list_all (is_in WordChar) name && list_any (is_in Letter) name) (not (is_fair name)) named.0 in
    (and_parts (list_all (is_in WordChar) name) (list_any (is_in Letter) name) lettered.0).0

modules-before : (a : List ℕ) (files : List (List ℕ)) → is_identifier a ≡ true → IsBeforeAll (file_of a) files → IsBeforeAll a (filter_map module_of_file files)
modules-before a [] is h = tt
modules-before a (file ∷ files) is h = at (module_of_file file) refl (modules-before a files is h.1)
  where
    at : (o : Option (List ℕ)) → module_of_file file ≡ o → IsBeforeAll a (filter_map module_of_file files) → IsBeforeAll a (cons_option o (filter_map module_of_file files))
    at None e rest = rest
    at (Some name) e rest =
        (name-less a name (word-name a is) (subst (λ f. slice_cmp nat_cmp (file_of a) f ≡ Less) (file_named file name e).1 h.0), rest)

modules-at : (o : Option (List ℕ)) (file : List ℕ) (files : List (List ℕ)) → module_of_file file ≡ o → AreInByteOrder (file ∷ files) → AreInByteOrder (filter_map module_of_file files) → AreInByteOrder (cons_option o (filter_map module_of_file files))
modules-at None file files e h rest = rest
modules-at (Some name) file files e h rest =
    let is = file_named file name e in
    ordered-more name (filter_map module_of_file files) (modules-before name files is.0 (subst (λ f. IsBeforeAll f files) is.1 (ordered-first file files h))) rest

modules-ordered : (files : List (List ℕ)) → AreInByteOrder files → AreInByteOrder (modules_of_listing files)
modules-ordered [] h = h
modules-ordered (file ∷ files) h = modules-at (module_of_file file) file files refl h (modules-ordered files (ordered-rest file files h))

-- ---- the modules of a root

told-ordered : (told : Option Told) (path : List ℕ) → AreInByteOrder (names_in told path)
told-ordered None path = ordered-none
told-ordered (Some told) path = modules-ordered (names_at told path) (files-ordered (files_at told.files path))

path-ordered : (s : State) (path : Option (List ℕ)) → AreInByteOrder (modules_in s path)
path-ordered s None = ordered-none
path-ordered s (Some path) = told-ordered (called s).folder path

pub root-modules-ordered : (s : State) (uri : Option (List ℕ)) → AreInByteOrder (root_modules s uri)
root-modules-ordered s uri = path-ordered s (option_and_then (λ r. r.path) (option_and_then client_root_of uri))
