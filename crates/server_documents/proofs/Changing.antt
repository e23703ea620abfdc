-- What changes make of the text of an open document.
use Rattle.std.proofs.Common.{◌≡◌, ◌<◌, ◌^◌, ℕ, Bool, true, false, cond, ltb, List, [], ◌∷◌, length, Option, Some, None, refl, sym, ap, ◌∙◌, arith}
use Rattle.std.specs.Prelude.{is_some, map, option_map}
use Rattle.std.specs.Map.{lookup}
use Rattle.std.specs.Str.{bytes_eq}
use Rattle.std.proofs.lemmas.Bool.{ltb-false}
use Rattle.lsp_wire.specs.declared.types.Change.{Change}
use Rattle.lsp_answers.specs.States.{Named, Root, State, first_too_long}
use Rattle.doc_edit.specs.Edits.{after_change as one_changed, after_changes, first_backward, first_excess, most_bytes}
use Rattle.server_uris.specs.Uris.{module_of}
use Rattle.server_documents.specs.Documents.{after_change, changed_texts, edited_at, edited_if, edited_texts, named, opened_at, put, texts_after, with_changes, with_its_text}
use Rattle.server_documents.specs.declared.held.Held.{Held}
use Rattle.server_documents.specs.declared.held.Held.TheVariants.{Document}
use Rattle.server_documents.specs.declared.opened.Open.{Open}
use Rattle.lsp_answers.specs.declared.AnswerFault.{AnswerFault}
use Rattle.lsp_answers.specs.declared.AnswerFault.TheVariants.{Folder, Limit, Memory}
use Rattle.server_documents.specs.Held.{HasDocument, HaveDocuments, IsChangeFault, IsEditFault, bytes_of, document_in, held_as, opened_entry, text_after, text_as}
use Rattle.server_documents.proofs.Entries.{document-of, held-named, open-named}
use Rattle.server_documents.proofs.Closing.{before, found-at}

-- the first text that is too long is the same, however it is found
pub excess_same : (text : List ℕ) (changes : List Change) → first_too_long (texts_after text changes) ≡ first_excess text changes
excess_same text [] = refl
excess_same text (c ∷ cs) =
    ap (λ more. cond (ltb most_bytes (length (one_changed text c))) (Some (length (one_changed text c))) more) (excess_same (one_changed text c) cs)

-- a text that is nowhere too long is never longer than a text can be
pub short-after : (text : List ℕ) (changes : List Change) → first_excess text changes ≡ None → length text < 2 ^ 31 → length (after_changes text changes) < 2 ^ 31
short-after text [] none short = short
short-after text (c ∷ cs) none short = by (ltb most_bytes (length (one_changed text c))) refl none (short-after (one_changed text c) cs)
  where
    by : (b : Bool) → ltb most_bytes (length (one_changed text c)) ≡ b → cond b (Some (length (one_changed text c))) (first_excess (one_changed text c) cs) ≡ None
        → (first_excess (one_changed text c) cs ≡ None → length (one_changed text c) < 2 ^ 31 → length (after_changes (one_changed text c) cs) < 2 ^ 31) → length (after_changes (one_changed text c) cs) < 2 ^ 31
    by true long none rest = cc
    by false low none rest = rest none (omega (arith, ltb-false most_bytes (length (one_changed text c)) low))

pub no-text-after : (backward : Option ℕ) (text : List ℕ) (changes : List Change) → None ≡ text_after backward text changes → (index : ℕ) × (backward ≡ Some index)
no-text-after None text changes is = cc
no-text-after (Some index) text changes is = (index, refl)

pub is-text-after : (backward : Option ℕ) (text new : List ℕ) (changes : List Change) → Some new ≡ text_after backward text changes → (backward ≡ None) × (new ≡ after_changes text changes)
is-text-after None text new changes is = (refl, cc)
is-text-after (Some index) text new changes is = cc

pub document-is : (held : Option Held) (text own : List ℕ) → Some text ≡ document_in held → held ≡ Some (Document own) → own ≡ text
document-is (Some (Document found)) text own is held = cc
document-is None text own is held = cc
document-is _ text own is held = cc

pub no-document : (held : Option Held) (own : List ℕ) → None ≡ document_in held → held ≡ Some (Document own) → ⊥
no-document held own is at = let e : ◌≡◌ {A = Option (List ℕ)} None (Some own) = is ∙ ap document_in at in cc e

-- where nothing is edited, a change changes nothing
pub unchanged : (s : State) (uri : List ℕ) (changes : List Change) → edited_at s uri changes ≡ None → s ≡ after_change s uri changes
unchanged s uri changes none = sym (ap (with_changes s changes) none)

pub unchanged-texts : (s : State) (uri : List ℕ) (changes : List Change) → edited_at s uri changes ≡ None → first_too_long (changed_texts s uri changes) ≡ None
unchanged-texts s uri changes none = ap (λ e. first_too_long (edited_texts changes e)) none

module _ (root : Option Root) (ts : List (List ℕ × Held)) (es : List (List ℕ × Open)) (due : Option Named) (uri name : List ℕ) (module_is : module_of root uri ≡ Some name) (changes : List Change) where
  abbrev pub held : State
  held = before root (map text_as ts) es es due uri name module_is

  pub none-open : lookup (λ key. bytes_eq name key) es ≡ None → edited_at held uri changes ≡ None
  none-open none = ap (edited_if (first_backward changes) held) (found-at root (map text_as ts) es es due uri name module_is None none) ∙ by (first_backward changes)
    where
      by : (b : Option ℕ) → edited_if b held None ≡ None
      by None = refl
      by (Some index) = refl

  pub none-backward : (index : ℕ) → first_backward changes ≡ Some index → edited_at held uri changes ≡ None
  none-backward index is = ap (λ b. edited_if b held (opened_at held uri)) is

  module _ (document : Open) (found : lookup (λ key. bytes_eq name key) es ≡ Some document) (has : HasDocument ts name) (clear : first_backward changes ≡ None) where
    edited : edited_at held uri changes ≡ Some (record { opened = opened_entry (name, document); text = has.0 })
    edited =
        ap (λ b. edited_if b held (opened_at held uri)) clear
        ∙ ap (with_its_text held) (found-at root (map text_as ts) es es due uri name module_is (Some document) found)
        ∙ ap (option_map (λ (text : List ℕ). record { opened = opened_entry (name, document); text = text })) (sym (held-named name ts) ∙ ap (option_map bytes_of) has.1)

    pub excess-is : first_too_long (changed_texts held uri changes) ≡ first_excess has.0 changes
    excess-is = ap (λ e. first_too_long (edited_texts changes e)) edited ∙ excess_same has.0 changes

    pub changes-all : (ts' : List (List ℕ × Held)) (new n u : List ℕ) → map text_as ts' ≡ put (λ t. t.name) (text_as (name, Document new)) (map text_as ts) → new ≡ after_changes has.0 changes → n ≡ name → u ≡ document.uri
        → record { root = root; texts = map text_as ts'; opened = map opened_entry es; due = Some (record { name = n; uri = u }); folder = None } ≡ after_change held uri changes
    changes-all ts' new n u texts is same spelled =
        (λ i. record { root = root; texts = texts i; opened = map opened_entry es; due = Some (record { name = same i; uri = spelled i }); folder = None })
        ∙ ap (λ (t : List ℕ). record { root = root; texts = put (λ t. t.name) (text_as (name, Document t)) (map text_as ts); opened = map opened_entry es; due = Some (record { name = name; uri = document.uri }); folder = None }) is
        ∙ sym (ap (with_changes held changes) edited)

pub edit-fault : (backward excess too : Option ℕ) (fault : AnswerFault) → IsEditFault backward excess fault → (backward ≡ None → too ≡ excess) → IsChangeFault too fault
edit-fault backward excess too (Limit said) is same = same is.0 ∙ is.1
edit-fault backward excess too Folder is same = is
edit-fault backward excess too Memory is same = tt

-- the text of an open document is its module's
pub document-text : (ts : List (List ℕ × Held)) (es : List (List ℕ × Open)) (name : List ℕ) → HaveDocuments ts es → is_some (named (λ o. o.name) name (map opened_entry es)) ≡ true → document_in (held_as ts name) ≡ option_map (λ t. t.bytes) (named (λ t. t.name) name (map text_as ts))
document-text ts es name have some = by (lookup (λ key. bytes_eq name key) es) refl (open-named name es ∙ some)
  where
    by : (found : Option Open) → lookup (λ key. bytes_eq name key) es ≡ found → is_some found ≡ true → document_in (held_as ts name) ≡ option_map (λ t. t.bytes) (named (λ t. t.name) name (map text_as ts))
    by None is there = cc
    by (Some document) is there = let has = document-of ts name es document have is in ap document_in has.1 ∙ sym (sym (held-named name ts) ∙ ap (option_map bytes_of) has.1)
