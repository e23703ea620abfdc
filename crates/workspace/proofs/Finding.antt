-- What is found of the texts that are held.
use Rattle.std.proofs.Common.{◌≡◌, ◌≤◌, ℕ, ◌+◌, Bool, true, false, cond, List, [], ◌∷◌, ◌++◌, length, get_or, map, take, Option, Some, None, if◌then◌else◌, inl, inr, nat_lt, refl, sym, ap, ◌∙◌, subst, arith}
use Rattle.std.specs.Prelude.{Contains, is_some, option_map, slice_get, sum_by}
use Rattle.std.specs.Cmp.Lexicographic.{slice_cmp}
use Rattle.std.specs.List.Sorted.{IsStrictlySortedBy}
use Rattle.std.specs.Ordering.{nat_cmp}
use Rattle.std.specs.Str.{IsUtf8, bytes_eq}
use Rattle.tla_lexeme.specs.Spans.{IsPlaced}
use Rattle.std.proofs.Math.Seq.{take-length}
use Rattle.std.proofs.lemmas.Bool.{ltb-false}
use Rattle.std.proofs.lemmas.List.Elements.{Contains-append_right}
use Rattle.std.proofs.lemmas.List.Sums.{sum_by-cons}
use Rattle.std.proofs.lemmas.Option.{slice_get-get_or, slice_get-map}
use Rattle.list_laws.proofs.Lists.{contains-map}
use Rattle.list_laws.proofs.Texts.{same-text, text-itself}
use Rattle.front_laws.proofs.Readable.{readable_len-text}
use Rattle.family_facts.specs.Verdicts.{AreDistinct, text_of}
use Rattle.family_facts.specs.declared.verdict.File.{File}
use Rattle.family_facts.proofs.Lists.{at-contains, behind, first-or-rest, here, mapped, none-there}
use Rattle.std.specs.List.{All}
use Rattle.tla_symbols.specs.declared.lexeme.Span.{Span}
use Rattle.family_levels.specs.Findings.{decls_in, faults_in, uses_in}
use Rattle.family_levels.specs.Telling.{AreFound as AreFilesFound, AreFoundOf, StandsIn}
use Rattle.family_levels.specs.declared.findings.Findings.{Findings}
use Rattle.sany_files.proofs.DistinctLemmas.{sorted-apart}
use Rattle.lsp_answers.specs.States.{ModuleText, Opened, State, bytes_of, limit_of, most_bytes, most_modules}
use Rattle.server_documents.specs.Documents.{named, opened_as, text_of as text_in}
use Rattle.server_notes.specs.Areas.{notes_on}
use Rattle.server_locations.specs.Locations.{module_named}
use Rattle.server_locations.specs.Standing.{HasNamesPlaced, Stands}
use Rattle.server_texts.specs.Answers.{all_found, found_in}
use Rattle.server_texts.specs.Notes.{file_of_text, files_of, notes_in, notes_of}
use Rattle.workspace.specs.Found.{AreFound, AreNamesFound, IsFoundOf, IsNameFound, found_of}

-- ---- files

abbrev name_of : ModuleText → List ℕ
name_of t = t.name

name-at : (texts : List ModuleText) (i : ℕ) (file : File) → slice_get (files_of texts) i ≡ Some file → slice_get (map name_of texts) i ≡ Some file.name
name-at texts i file at = slice_get-map name_of texts i ∙ by (slice_get texts i) (sym (slice_get-map file_of_text texts i) ∙ at)
  where
    by : (t : Option ModuleText) → option_map file_of_text t ≡ Some file → option_map name_of t ≡ Some file.name
    by None e = cc
    by (Some t) e = let same : file_of_text t ≡ file = cc in ap (λ (f : File). Some f.name) same

-- texts in byte order of names are files with names of their own
pub files-apart : (texts : List ModuleText) → IsStrictlySortedBy (slice_cmp nat_cmp) (map name_of texts) → AreDistinct (files_of texts)
files-apart texts sorted = λ i j a b at_i at_j same.
    sorted-apart (map name_of texts) sorted i j a.name (name-at texts i a at_i) (name-at texts j b at_j ∙ ap (λ n. Some n) (sym same))

-- and have as many bytes
pub files-bytes : (texts : List ModuleText) → sum_by (λ (file : File). length file.bytes) (files_of texts) ≡ bytes_of texts
files-bytes [] = refl
files-bytes (t ∷ texts) =
    sum_by-cons (λ (file : File). length file.bytes) (file_of_text t) (files_of texts)
    ∙ ap (λ n. length t.bytes + n) (files-bytes texts)
    ∙ sym (sum_by-cons (λ (text : ModuleText). length text.bytes) t texts)

-- what is found of the files is found of the texts
pub texts-found : (texts : List ModuleText) (found : Findings) → AreFilesFound (files_of texts) found → AreFound texts found
texts-found texts found are t there = are (file_of_text t) (contains-map file_of_text texts t there)

-- and what is found of those of some names
pub names-found : (texts : List ModuleText) (found : Findings) (names : List (List ℕ)) → AreFoundOf names (files_of texts) found → AreNamesFound texts found names
names-found texts found names are name wanted t there named = are (file_of_text t) (contains-map file_of_text texts t there) (subst (Contains names) (sym named) wanted)

-- ---- modules

-- what is found of the modules of texts is what the function of these gives
pub modules-found : (s : State) (found : Findings) → AreFound s.texts found → map (found_of found) s.texts ≡ all_found s
modules-found s found are = along s.texts (λ t h. h)
  where
    along : (ts : List ModuleText) → ((t : ModuleText) → Contains ts t → Contains s.texts t) → map (found_of found) ts ≡ map (found_in s) ts
    along [] of = refl
    along (t ∷ ts) of =
        let tells = (are t (of t (here t ts))).tells in
        (λ i. record { name = t.name; bytes = t.bytes; uses = tells.uses i; decls = tells.decls i } ∷ along ts (λ u h. of u (behind t ts u h)) i)

-- no text has more bytes than all of them
most-of : (ts : List ModuleText) (t : ModuleText) → Contains ts t → length t.bytes ≤ bytes_of ts
most-of [] t h = absurd (none-there t h)
most-of (u ∷ ts) t h =
    let more = sum_by-cons (λ (x : ModuleText). length x.bytes) u ts in
    elim (first-or-rest u ts t h) as (λ _. length t.bytes ≤ bytes_of (u ∷ ts)) [
      | inl same ↦ let l : length u.bytes ≡ length t.bytes = ap (λ (x : ModuleText). length x.bytes) same in omega (arith, more, l)
      | inr rest ↦ let l = most-of ts t rest in omega (arith, more, l)
    ]

stands-in : (bytes : List ℕ) (span : Span) → StandsIn bytes span → Stands bytes span
stands-in bytes span h = record { utf8 = h.0; placed = h.1 }

-- the names of a module stand in its text
module-placed : (texts : List ModuleText) (found : Findings) (t : ModuleText) → IsFoundOf texts found t → length t.bytes ≤ most_bytes → HasNamesPlaced (found_of found t)
module-placed texts found t is few = record {
  short = omega (arith, few);
  uses = λ k d l. stands-in t.bytes (get_or (uses_in found t.name) k d).name (is.uses k d l);
  decls = λ k d l. stands-in t.bytes (get_or (decls_in found t.name) k d).name (is.decls k d l);
}

-- and those of all in theirs
pub modules-placed : (s : State) (found : Findings) → AreFound s.texts found → bytes_of s.texts ≤ most_bytes → All HasNamesPlaced (map (found_of found) s.texts)
modules-placed s found are few = λ k d l.
    (let all = map (found_of found) s.texts in
    let at = mapped (found_of found) s.texts (get_or all k d) (at-contains all k (get_or all k d) (slice_get-get_or all k d l)) in
    let most = most-of s.texts at.0 at.1 in
    subst HasNamesPlaced at.2 (module-placed s.texts found at.0 (are at.0 at.1) (omega (arith, most, few))))

-- ---- notes

-- a text that is found by its name is among them
named-there : (texts : List ModuleText) (name bytes : List ℕ) → option_map (λ t. t.bytes) (named (λ t. t.name) name texts) ≡ Some bytes → Contains texts (record { name = name; bytes = bytes })
named-there [] name bytes e = cc
named-there (t ∷ texts) name bytes e = by (bytes_eq name t.name) refl e (named-there texts name bytes)
  where
    by : (b : Bool) → bytes_eq name t.name ≡ b → option_map (λ (m : ModuleText). m.bytes) (cond b (Some t) (named (λ m. m.name) name texts)) ≡ Some bytes
        → (option_map (λ m. m.bytes) (named (λ m. m.name) name texts) ≡ Some bytes → Contains texts (record { name = name; bytes = bytes }))
        → Contains (t ∷ texts) (record { name = name; bytes = bytes })
    by true same e rest =
        let is : t.bytes ≡ bytes = cc in
        subst (λ (m : ModuleText). Contains (t ∷ texts) m) (λ i. record { name = sym (same-text name t.name same) i; bytes = is i }) (here t texts)
    by false apart e rest = behind t texts (record { name = name; bytes = bytes }) (rest e)

-- a text is all of its longest front
pub whole : (bytes : List ℕ) → IsUtf8 bytes → text_of bytes ≡ bytes
whole bytes utf8 = ap (λ n. take n bytes) (readable_len-text bytes utf8) ∙ take-length bytes

module _ (s : State) (found : Findings) (name bytes : List ℕ) (is : IsNameFound s.texts found name) (at : text_in s name ≡ Some bytes) (utf8 : IsUtf8 bytes) where
  abbrev this : ModuleText
  this = record { name = name; bytes = bytes }

  there : Contains s.texts this
  there = named-there s.texts name bytes at

  -- its faults stand in the text
  pub faults-placed : All (λ fault. IsPlaced bytes fault.span) (faults_in found name)
  faults-placed = subst (λ text. All (λ fault. IsPlaced text fault.span) (faults_in found name)) (whole bytes utf8) (is this there refl).placed

  -- the notes of a module that has this text
  pub notes-are : notes_on bytes (faults_in found name) ≡ notes_of s name
  notes-are =
      (λ i. notes_on (sym (whole bytes utf8) i) ((is this there refl).tells.faults i))
      ∙ sym (ap (notes_in s.texts name) at)

-- ---- one module

-- what is found of some names and one more is found of that one
pub last-found : (texts given : List ModuleText) (found : Findings) (names wanted : List (List ℕ)) (name copy : List ℕ) → texts ≡ given → wanted ≡ names ++ copy ∷ [] → copy ≡ name → AreNamesFound texts found wanted → IsNameFound given found name
last-found texts given found names wanted name copy same more copied are =
    subst (λ ts. IsNameFound ts found name) same
    (are name (subst (λ ns. Contains ns name) (sym more) (Contains-append_right names (copy ∷ []) name (subst (Contains (copy ∷ [])) copied (here copy [])))))

-- a text that is found by its name is this one
text-named : (name bytes : List ℕ) (ts : List ModuleText) → option_map (λ t. t.bytes) (named name_of name ts) ≡ Some bytes → named name_of name ts ≡ Some (record { name = name; bytes = bytes })
text-named name bytes [] e = cc
text-named name bytes (t ∷ ts) e = by (bytes_eq name t.name) refl e (text-named name bytes ts)
  where
    by : (b : Bool) → bytes_eq name t.name ≡ b → option_map (λ (m : ModuleText). m.bytes) (cond b (Some t) (named name_of name ts)) ≡ Some bytes
        → (option_map (λ m. m.bytes) (named name_of name ts) ≡ Some bytes → named name_of name ts ≡ Some (record { name = name; bytes = bytes }))
        → cond b (Some t) (named name_of name ts) ≡ Some (record { name = name; bytes = bytes })
    by true same e rest = let is : t.bytes ≡ bytes = cc in λ i. Some (record { name = sym (same-text name t.name same) i; bytes = is i })
    by false apart e rest = rest e

-- the module of a name among those of texts is that of the text of this name
named-found : (s : State) (name : List ℕ) (ts : List ModuleText) → module_named (map (found_in s) ts) name ≡ option_map (found_in s) (named name_of name ts)
named-found s name [] = refl
named-found s name (t ∷ ts) = by (bytes_eq name t.name) (named-found s name ts)
  where
    by : (b : Bool) → module_named (map (found_in s) ts) name ≡ option_map (found_in s) (named name_of name ts) → cond b (Some (found_in s t)) (module_named (map (found_in s) ts) name) ≡ option_map (found_in s) (cond b (Some t) (named name_of name ts))
    by true h = refl
    by false h = h

no-text : (o : Option ModuleText) → option_map (λ t. t.bytes) o ≡ None → o ≡ None
no-text None e = refl
no-text (Some t) e = cc

-- there is none without a text
pub none-found : (s : State) (name : List ℕ) → text_in s name ≡ None → None ≡ module_named (all_found s) name
none-found s name e = sym (named-found s name s.texts ∙ ap (option_map (found_in s)) (no-text (named name_of name s.texts) e))

module _ (s : State) (found : Findings) (name bytes : List ℕ) (is : IsNameFound s.texts found name) (at : text_in s name ≡ Some bytes) where
  abbrev own : ModuleText
  own = record { name = name; bytes = bytes }

  own-there : Contains s.texts own
  own-there = named-there s.texts name bytes at

  -- what is found of a module that has a text
  pub one-found : Some (found_of found own) ≡ module_named (all_found s) name
  one-found =
      let tells = (is own own-there refl).tells in
      (λ i. Some (record { name = name; bytes = bytes; uses = tells.uses i; decls = tells.decls i }))
      ∙ sym (named-found s name s.texts ∙ ap (option_map (found_in s)) (text-named name bytes s.texts at))

  -- its names stand in its text
  pub one-placed : bytes_of s.texts ≤ most_bytes → HasNamesPlaced (found_of found own)
  one-placed few = let most = most-of s.texts own own-there in module-placed s.texts found own (is own own-there refl) (omega (arith, most, few))

-- ---- open documents

abbrev opened_name : Opened → List ℕ
opened_name o = o.name

-- the module of an open document is open
pub open-named : (s : State) (o : Opened) → Contains s.opened o → is_some (opened_as s o.name) ≡ true
open-named s o there = by s.opened there
  where
    behind-one : (p : Opened) (os : List Opened) (b : Bool) → bytes_eq o.name p.name ≡ b → Contains (p ∷ os) o → (Contains os o → is_some (named opened_name o.name os) ≡ true) → is_some (cond b (Some p) (named opened_name o.name os)) ≡ true
    behind-one p os true e there rest = refl
    behind-one p os false e there rest = elim (first-or-rest p os o there) as (λ _. is_some (named opened_name o.name os) ≡ true) [
      | inl same ↦ absurd (let no : true ≡ false = sym (text-itself o.name p.name (ap opened_name (sym same))) ∙ e in cc)
      | inr more ↦ rest more
    ]

    by : (os : List Opened) → Contains os o → is_some (named opened_name o.name os) ≡ true
    by [] there = absurd (none-there o there)
    by (p ∷ os) there = behind-one p os (bytes_eq o.name p.name) refl there (by os)

-- so it is of all open documents
pub all-open : (s : State) → All (λ name. is_some (opened_as s name) ≡ true) (map opened_name s.opened)
all-open s = λ k d l.
    let names = map opened_name s.opened in
    let at = mapped opened_name s.opened (get_or names k d) (at-contains names k (get_or names k d) (slice_get-get_or names k d l)) in
    subst (λ name. is_some (opened_as s name) ≡ true) at.2 (open-named s at.0 at.1)

-- notes by names
pub notes-by-names : (s : State) (os : List Opened) → map (notes_of s) (map opened_name os) ≡ map (λ o. notes_of s o.name) os
notes-by-names s [] = refl
notes-by-names s (o ∷ os) = ap (λ z. notes_of s o.name ∷ z) (notes-by-names s os)

-- ---- limits

few-if : (many large : Bool) (a b : ℕ) → is_some (if many then Some a else (if large then Some b else None)) ≡ false → large ≡ false
few-if true large a b e = absurd (cc)
few-if false true a b e = absurd (cc)
few-if false false a b e = refl

-- texts that pass no limit have few bytes
pub few-bytes : (s : State) → is_some (limit_of s) ≡ false → bytes_of s.texts ≤ most_bytes
few-bytes s e = ltb-false most_bytes (bytes_of s.texts) (few-if (nat_lt most_modules (length s.texts)) (nat_lt most_bytes (bytes_of s.texts)) (length s.texts) (bytes_of s.texts) e)
