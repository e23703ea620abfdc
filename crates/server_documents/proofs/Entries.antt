-- Entries in byte order of names, and what they are as a state.
use Rattle.std.proofs.Common.{◌≡◌, ◌<◌, ◌^◌, ℕ, Bool, true, false, cond, List, [], ◌∷◌, length, map, Option, Some, is_some, refl, sym, ap, ◌∙◌, subst}
use Rattle.std.specs.Prelude.{not, option_map}
use Rattle.std.specs.BTreeMap.{insert_entry}
use Rattle.std.specs.Cmp.Lexicographic.{slice_cmp}
use Rattle.std.specs.List.{AllByRecursion}
use Rattle.std.specs.List.Sorted.{IsStrictlySortedBy}
use Rattle.std.specs.Map.{keys_of, lookup, remove_entry}
use Rattle.std.specs.Ordering.{is_eq, match_ordering, nat_cmp}
use Rattle.std.specs.Str.{bytes_eq}
use Rattle.std.specs.declared.cmp.Ordering.{Ordering}
use Rattle.std.specs.declared.cmp.Ordering.TheVariants.{Less, Equal, Greater}
use Rattle.std.proofs.lemmas.Map.Text.{is_eq-slice_cmp}
use mathlib.Core.Path.{fun_ext}
use Rattle.list_laws.proofs.Texts.{same-text, text-itself, texts-apart}
use Rattle.lsp_answers.specs.States.{Opened}
use Rattle.server_documents.specs.Documents.{named, put, without}
use Rattle.server_documents.specs.declared.held.Held.{Held}
use Rattle.server_documents.specs.declared.held.Held.TheVariants.{Document}
use Rattle.server_documents.specs.declared.opened.Open.{Open}
use Rattle.server_documents.specs.Held.{AreShort, HasDocument, HaveDocuments, bytes_of, held_as, opened_entry, text_as}

-- ---- looked up

pub lookup-same : {V : Type 0} (name : List ℕ) (es : List (List ℕ × V)) → lookup (λ key. is_eq (slice_cmp nat_cmp name key)) es ≡ lookup (λ key. bytes_eq name key) es
lookup-same name es = ap (λ (test : List ℕ → Bool). lookup test es) (fun_ext (λ key. is_eq-slice_cmp name key))

pub held-named : (name : List ℕ) (es : List (List ℕ × Held)) → option_map bytes_of (held_as es name) ≡ option_map (λ t. t.bytes) (named (λ t. t.name) name (map text_as es))
held-named name [] = refl
held-named name (e ∷ es) = by (bytes_eq name e.0) (held-named name es)
  where
    by : (b : Bool) → option_map bytes_of (held_as es name) ≡ option_map (λ t. t.bytes) (named (λ t. t.name) name (map text_as es)) → option_map bytes_of (cond b (Some e.1) (held_as es name)) ≡ option_map (λ t. t.bytes) (cond b (Some (text_as e)) (named (λ t. t.name) name (map text_as es)))
    by true rest = refl
    by false rest = rest

pub open-named : (name : List ℕ) (es : List (List ℕ × Open)) → is_some (lookup (λ key. bytes_eq name key) es) ≡ is_some (named (λ o. o.name) name (map opened_entry es))
open-named name [] = refl
open-named name (e ∷ es) = by (bytes_eq name e.0) (open-named name es)
  where
    by : (b : Bool) → is_some (lookup (λ key. bytes_eq name key) es) ≡ is_some (named (λ o. o.name) name (map opened_entry es)) → is_some (cond b (Some e.1) (lookup (λ key. bytes_eq name key) es)) ≡ is_some (cond b (Some (opened_entry e)) (named (λ o. o.name) name (map opened_entry es)))
    by true rest = refl
    by false rest = rest

-- ---- put

at-key : (name key : List ℕ) (o : Ordering) → slice_cmp nat_cmp name key ≡ o → bytes_eq name key ≡ is_eq o
at-key name key o e = sym (is_eq-slice_cmp name key) ∙ ap is_eq e

module _ {V A : Type 0} (show : List ℕ × V → A) (name_of : A → List ℕ) (named_so : (e : List ℕ × V) → name_of (show e) ≡ e.0) where
  pub put-shown : (es : List (List ℕ × V)) (name : List ℕ) (v : V) → map show (insert_entry (slice_cmp nat_cmp) es name v) ≡ put name_of (show (name, v)) (map show es)
  put-shown [] name v = refl
  put-shown (e ∷ es) name v =
      by (slice_cmp nat_cmp name e.0) refl (put-shown es name v)
      ∙ sym (
      ap (λ n. match_ordering (slice_cmp nat_cmp n (name_of (show e))) (show (name, v) ∷ show e ∷ map show es) (show (name, v) ∷ map show es) (show e ∷ put name_of (show (name, v)) (map show es))) (named_so (name, v))
      ∙ ap (λ n. match_ordering (slice_cmp nat_cmp name n) (show (name, v) ∷ show e ∷ map show es) (show (name, v) ∷ map show es) (show e ∷ put name_of (show (name, v)) (map show es))) (named_so e)
      )
    where
      by : (o : Ordering) → slice_cmp nat_cmp name e.0 ≡ o → map show (insert_entry (slice_cmp nat_cmp) es name v) ≡ put name_of (show (name, v)) (map show es)
          → map show (match_ordering o ((name, v) ∷ e ∷ es) ((e.0, v) ∷ es) (e ∷ insert_entry (slice_cmp nat_cmp) es name v)) ≡ match_ordering o (show (name, v) ∷ show e ∷ map show es) (show (name, v) ∷ map show es) (show e ∷ put name_of (show (name, v)) (map show es))
      by Less is rest = refl
      by Equal is rest = ap (λ k. show (k, v) ∷ map show es) (sym (same-text name e.0 (at-key name e.0 Equal is)))
      by Greater is rest = ap (λ z. show e ∷ z) rest

module _ {V : Type 0} where
  pub lookup-put : (es : List (List ℕ × V)) (name : List ℕ) (v : V) (other : List ℕ) → lookup (λ key. bytes_eq other key) (insert_entry (slice_cmp nat_cmp) es name v) ≡ cond (bytes_eq other name) (Some v) (lookup (λ key. bytes_eq other key) es)
  lookup-put [] name v other = refl
  lookup-put (e ∷ es) name v other = by (slice_cmp nat_cmp name e.0) refl (lookup-put es name v other)
    where
      rest : Option V
      rest = lookup (λ key. bytes_eq other key) es

      past : (b c : Bool) → bytes_eq other name ≡ b → bytes_eq other e.0 ≡ c → bytes_eq name e.0 ≡ false → cond c (Some e.1) (cond b (Some v) rest) ≡ cond b (Some v) (cond c (Some e.1) rest)
      past true true eb ec apart = let no : true ≡ false = sym (text-itself name e.0 (sym (same-text other name eb) ∙ same-text other e.0 ec)) ∙ apart in cc
      past true false eb ec apart = refl
      past false c eb ec apart = refl

      here : (b : Bool) → bytes_eq other name ≡ b → cond b (Some v) rest ≡ cond b (Some v) (cond b (Some e.1) rest)
      here true eb = refl
      here false eb = refl

      by : (o : Ordering) → slice_cmp nat_cmp name e.0 ≡ o → lookup (λ key. bytes_eq other key) (insert_entry (slice_cmp nat_cmp) es name v) ≡ cond (bytes_eq other name) (Some v) rest
          → lookup (λ key. bytes_eq other key) (match_ordering o ((name, v) ∷ e ∷ es) ((e.0, v) ∷ es) (e ∷ insert_entry (slice_cmp nat_cmp) es name v)) ≡ cond (bytes_eq other name) (Some v) (cond (bytes_eq other e.0) (Some e.1) rest)
      by Less is more = refl
      by Equal is more =
          let same = same-text name e.0 (at-key name e.0 Equal is) in
          ap (λ k. cond (bytes_eq other k) (Some v) rest) (sym same) ∙ here (bytes_eq other name) refl ∙ ap (λ k. cond (bytes_eq other name) (Some v) (cond (bytes_eq other k) (Some e.1) rest)) same
      by Greater is more = ap (λ z. cond (bytes_eq other e.0) (Some e.1) z) more ∙ past (bytes_eq other name) (bytes_eq other e.0) refl refl (at-key name e.0 Greater is)

-- ---- short texts

pub short-put : (es : List (List ℕ × Held)) (name : List ℕ) (v : Held) → AreShort es → length (bytes_of v) < 2 ^ 31 → AreShort (insert_entry (slice_cmp nat_cmp) es name v)
short-put [] name v all here = (here, tt)
short-put (e ∷ es) name v all here = by (slice_cmp nat_cmp name e.0) (short-put es name v all.1 here)
  where
    by : (o : Ordering) → AreShort (insert_entry (slice_cmp nat_cmp) es name v) → AreShort (match_ordering o ((name, v) ∷ e ∷ es) ((e.0, v) ∷ es) (e ∷ insert_entry (slice_cmp nat_cmp) es name v))
    by Less rest = (here, all)
    by Equal rest = (here, all.1)
    by Greater rest = (all.0, rest)

pub short-taken : (test : List ℕ → Bool) (es : List (List ℕ × Held)) → AreShort es → AreShort (remove_entry test es)
short-taken test [] all = tt
short-taken test (e ∷ es) all = by (test e.0) (short-taken test es all.1)
  where
    by : (b : Bool) → AreShort (remove_entry test es) → AreShort (cond b es (e ∷ remove_entry test es))
    by true rest = all.1
    by false rest = (all.0, rest)

-- ---- the texts of open documents

pub documents-put : (texts : List (List ℕ × Held)) (es : List (List ℕ × Open)) (name : List ℕ) (v : Open) → HasDocument texts name → HaveDocuments texts es → HaveDocuments texts (insert_entry (slice_cmp nat_cmp) es name v)
documents-put texts [] name v here all = (here, tt)
documents-put texts (e ∷ es) name v here all = by (slice_cmp nat_cmp name e.0) (documents-put texts es name v here all.1)
  where
    by : (o : Ordering) → HaveDocuments texts (insert_entry (slice_cmp nat_cmp) es name v) → HaveDocuments texts (match_ordering o ((name, v) ∷ e ∷ es) ((e.0, v) ∷ es) (e ∷ insert_entry (slice_cmp nat_cmp) es name v))
    by Less rest = (here, all)
    by Equal rest = (all.0, all.1)
    by Greater rest = (all.0, rest)

-- a document's text that is put leaves all documents their texts
pub put-kept : (old new : List (List ℕ × Held)) (name text : List ℕ) → length text < 2 ^ 31 → ((other : List ℕ) → held_as new other ≡ cond (bytes_eq other name) (Some (Document text)) (held_as old other)) → (es : List (List ℕ × Open)) → HaveDocuments old es → HaveDocuments new es
put-kept old new name text short put [] all = tt
put-kept old new name text short put (e ∷ es) all = (by (bytes_eq e.0 name) refl, put-kept old new name text short put es all.1)
  where
    by : (b : Bool) → bytes_eq e.0 name ≡ b → HasDocument new e.0
    by true same = (text, put e.0 ∙ ap (λ b. cond b (Some (Document text)) (held_as old e.0)) same, short)
    by false apart = let has = all.0 in (has.0, put e.0 ∙ ap (λ b. cond b (Some (Document text)) (held_as old e.0)) apart ∙ has.1, has.2)

pub put-has : (old new : List (List ℕ × Held)) (name text : List ℕ) → length text < 2 ^ 31 → ((other : List ℕ) → held_as new other ≡ cond (bytes_eq other name) (Some (Document text)) (held_as old other)) → HasDocument new name
put-has old new name text short put = (text, put name ∙ ap (λ b. cond b (Some (Document text)) (held_as old name)) (text-itself name name refl), short)

-- what changes under a name of which no document is open leaves all documents their texts
pub others-kept : (old new : List (List ℕ × Held)) (name : List ℕ) → ((other : List ℕ) → bytes_eq other name ≡ false → held_as new other ≡ held_as old other) → (es : List (List ℕ × Open)) → is_some (named (λ o. o.name) name (map opened_entry es)) ≡ false → HaveDocuments old es → HaveDocuments new es
others-kept old new name kept [] none all = tt
others-kept old new name kept (e ∷ es) none all = by (bytes_eq name e.0) refl none (λ rest. others-kept old new name kept es rest all.1)
  where
    by : (b : Bool) → bytes_eq name e.0 ≡ b → is_some (cond b (Some (opened_entry e)) (named (λ o. o.name) name (map opened_entry es))) ≡ false → (is_some (named (λ o. o.name) name (map opened_entry es)) ≡ false → HaveDocuments new es) → HaveDocuments new (e ∷ es)
    by true same none more = cc
    by false apart none more = let has = all.0 in ((has.0, kept e.0 (texts-apart name e.0 apart) ∙ has.1, has.2), more none)

-- ---- taken away

-- no later name is the first one
none-later : {A : Type 0} (name_of : A → List ℕ) (name : List ℕ) (ys : List A) → AllByRecursion (λ y. slice_cmp nat_cmp name (name_of y) ≡ Less) ys → without name_of name ys ≡ ys
none-later name_of name [] all = refl
none-later name_of name (y ∷ ys) all = ap (λ b. cond (not b) (y ∷ without name_of name ys) (without name_of name ys)) (at-key name (name_of y) Less all.0) ∙ ap (λ z. y ∷ z) (none-later name_of name ys all.1)

module _ {V A : Type 0} (show : List ℕ × V → A) (name_of : A → List ℕ) (named_so : (e : List ℕ × V) → name_of (show e) ≡ e.0) where
  shown-later : (first : List ℕ) (es : List (List ℕ × V)) → AllByRecursion (λ k. slice_cmp nat_cmp first k ≡ Less) (keys_of es) → AllByRecursion (λ y. slice_cmp nat_cmp first (name_of y) ≡ Less) (map show es)
  shown-later first [] all = tt
  shown-later first (e ∷ es) all = (ap (slice_cmp nat_cmp first) (named_so e) ∙ all.0, shown-later first es all.1)

  pub taken-shown : (name : List ℕ) (es : List (List ℕ × V)) → IsStrictlySortedBy (slice_cmp nat_cmp) (keys_of es) → map show (remove_entry (λ key. is_eq (slice_cmp nat_cmp name key)) es) ≡ without name_of name (map show es)
  unfolding IsStrictlySortedBy
  taken-shown name [] sorted = refl
  taken-shown name (e ∷ es) sorted =
      ap (λ b. map show (cond b es (e ∷ remove_entry (λ key. is_eq (slice_cmp nat_cmp name key)) es))) (is_eq-slice_cmp name e.0) ∙ by (bytes_eq name e.0) refl (taken-shown name es sorted.1)
      ∙ sym (ap (λ n. cond (not (bytes_eq name n)) (show e ∷ without name_of name (map show es)) (without name_of name (map show es))) (named_so e))
    where
      by : (b : Bool) → bytes_eq name e.0 ≡ b → map show (remove_entry (λ key. is_eq (slice_cmp nat_cmp name key)) es) ≡ without name_of name (map show es)
          → map show (cond b es (e ∷ remove_entry (λ key. is_eq (slice_cmp nat_cmp name key)) es)) ≡ cond (not b) (show e ∷ without name_of name (map show es)) (without name_of name (map show es))
      by true same rest = sym (ap (λ n. without name_of n (map show es)) (same-text name e.0 same) ∙ none-later name_of e.0 (map show es) (shown-later e.0 es sorted.0))
      by false apart rest = ap (λ z. show e ∷ z) rest

pub taken-others : {V : Type 0} (name other : List ℕ) (es : List (List ℕ × V)) → bytes_eq other name ≡ false → lookup (λ key. bytes_eq other key) (remove_entry (λ key. is_eq (slice_cmp nat_cmp name key)) es) ≡ lookup (λ key. bytes_eq other key) es
taken-others name other [] apart = refl
taken-others name other (e ∷ es) apart = ap (λ b. lookup (λ key. bytes_eq other key) (cond b es (e ∷ remove_entry (λ key. is_eq (slice_cmp nat_cmp name key)) es))) (is_eq-slice_cmp name e.0) ∙ by (bytes_eq name e.0) refl (taken-others name other es apart)
  where
    by : (b : Bool) → bytes_eq name e.0 ≡ b → lookup (λ key. bytes_eq other key) (remove_entry (λ key. is_eq (slice_cmp nat_cmp name key)) es) ≡ lookup (λ key. bytes_eq other key) es
        → lookup (λ key. bytes_eq other key) (cond b es (e ∷ remove_entry (λ key. is_eq (slice_cmp nat_cmp name key)) es)) ≡ cond (bytes_eq other e.0) (Some e.1) (lookup (λ key. bytes_eq other key) es)
    by true same rest = ap (λ b. cond b (Some e.1) (lookup (λ key. bytes_eq other key) es)) (sym (ap (bytes_eq other) (sym (same-text name e.0 same)) ∙ apart))
    by false far rest = ap (λ z. cond (bytes_eq other e.0) (Some e.1) z) rest

-- ---- open documents

pub open-name : (name : List ℕ) (os_ : List Opened) → is_some (named (λ o. o.name) name os_) ≡ true → Some name ≡ option_map (λ o. o.name) (named (λ o. o.name) name os_)
open-name name [] some = cc
open-name name (o ∷ os_) some = by (bytes_eq name o.name) refl some (open-name name os_)
  where
    by : (b : Bool) → bytes_eq name o.name ≡ b → is_some (cond b (Some o) (named (λ o. o.name) name os_)) ≡ true → (is_some (named (λ o. o.name) name os_) ≡ true → Some name ≡ option_map (λ o. o.name) (named (λ o. o.name) name os_))
        → Some name ≡ option_map (λ o. o.name) (cond b (Some o) (named (λ o. o.name) name os_))
    by true same some more = ap Some (same-text name o.name same)
    by false apart some more = more some

-- an open document under its name is what is held of it
pub open-entry : (name : List ℕ) (es : List (List ℕ × Open)) → named (λ o. o.name) name (map opened_entry es) ≡ option_map (λ (v : Open). opened_entry (name, v)) (lookup (λ key. bytes_eq name key) es)
open-entry name [] = refl
open-entry name (e ∷ es) = by (bytes_eq name e.0) refl (open-entry name es)
  where
    by : (b : Bool) → bytes_eq name e.0 ≡ b → named (λ o. o.name) name (map opened_entry es) ≡ option_map (λ (v : Open). opened_entry (name, v)) (lookup (λ key. bytes_eq name key) es)
        → cond b (Some (opened_entry e)) (named (λ o. o.name) name (map opened_entry es)) ≡ option_map (λ (v : Open). opened_entry (name, v)) (cond b (Some e.1) (lookup (λ key. bytes_eq name key) es))
    by true same rest = ap (λ k. Some (opened_entry (k, e.1))) (sym (same-text name e.0 same))
    by false apart rest = rest

-- a document that is taken away leaves all others their texts
pub documents-taken : (texts : List (List ℕ × Held)) (test : List ℕ → Bool) (es : List (List ℕ × Open)) → HaveDocuments texts es → HaveDocuments texts (remove_entry test es)
documents-taken texts test [] all = tt
documents-taken texts test (e ∷ es) all = by (test e.0) (documents-taken texts test es all.1)
  where
    by : (b : Bool) → HaveDocuments texts (remove_entry test es) → HaveDocuments texts (cond b es (e ∷ remove_entry test es))
    by true rest = all.1
    by false rest = (all.0, rest)

-- each open document that is found has its text
pub document-of : (texts : List (List ℕ × Held)) (name : List ℕ) (es : List (List ℕ × Open)) (document : Open) → HaveDocuments texts es → lookup (λ key. bytes_eq name key) es ≡ Some document → HasDocument texts name
document-of texts name [] document all found = cc
document-of texts name (e ∷ es) document all found = by (bytes_eq name e.0) refl found (document-of texts name es document all.1)
  where
    by : (b : Bool) → bytes_eq name e.0 ≡ b → cond b (Some e.1) (lookup (λ key. bytes_eq name key) es) ≡ Some document → (lookup (λ key. bytes_eq name key) es ≡ Some document → HasDocument texts name) → HasDocument texts name
    by true same found rest = subst (HasDocument texts) (sym (same-text name e.0 same)) all.0
    by false apart found rest = rest found

-- ---- names

pub text-names : (es : List (List ℕ × Held)) → map (λ t. t.name) (map text_as es) ≡ keys_of es
text-names [] = refl
text-names (e ∷ es) = ap (λ names. e.0 ∷ names) (text-names es)
