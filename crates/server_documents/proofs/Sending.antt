-- The notices of open documents, one after another, and the documents once these are sent.
use Rattle.std.proofs.Common.{◌≡◌, ◌<◌, ℕ, false, length, List, [], ◌∷◌, ◌++◌, Some, None, map, refl, sym, ap, ◌∙◌, append_assoc, subst, arith}
use Rattle.std.specs.Cmp.Lexicographic.{nat_list_cmp_total, slice_cmp}
use Rattle.std.specs.BTreeMap.{insert_entry}
use Rattle.std.specs.List.{AllByRecursion}
use Rattle.std.specs.List.Sorted.{IsStrictlySortedBy}
use Rattle.std.specs.Map.{keys_of}
use Rattle.std.specs.Ordering.{match_ordering, nat_cmp, ordering_reverse}
use Rattle.std.specs.declared.cmp.Ordering.{Ordering}
use Rattle.std.specs.declared.cmp.Ordering.TheVariants.{Less, Equal, Greater}
use Rattle.lsp_wire.specs.declared.types.Note.{Note}
use Rattle.lsp_answers.specs.declared.Due.{Due}
use Rattle.lsp_answers.specs.States.{Named, Opened, all_notices, closing, notices, others_notice, others_notices, same_notes}
use Rattle.server_documents.specs.Held.{HasDocument, HaveDocuments, opened_entry}
use Rattle.server_documents.specs.Notices.{as_sent, due_of, other_dues}
use Rattle.server_documents.specs.declared.held.Held.{Held}
use Rattle.server_documents.specs.declared.opened.Open.{Open}

-- notes of which there are more than of others are not the same
pub notes-short : (xs ys : List Note) → 0 < length xs → length ys ≡ 0 → false ≡ same_notes xs ys
notes-short [] ys some none = absurd (omega (arith, some))
notes-short (x ∷ xs) [] some none = refl
notes-short (x ∷ xs) (y ∷ ys) some none = absurd (omega (arith, none))

module _ (notes_of : List ℕ → List Note) (name : List ℕ) (document : Open) (notes : List Note) (is : notes_of name ≡ notes) (dues : List Due) (rest : List Opened) where
  abbrev here : Opened
  here = opened_entry (name, document)

  -- a document that was not named
  other-here : others_notice notes_of here ≡ other_dues document notes
  other-here = ap (other_dues document) is

  behind-other : (behind : List Due) → dues ++ (others_notice notes_of here ++ behind) ≡ (dues ++ other_dues document notes) ++ behind
  behind-other behind = ap (λ z. dues ++ (z ++ behind)) other-here ∙ sym (append_assoc dues (other_dues document notes) behind)

  pub none-named : dues ++ notices notes_of None (here ∷ rest) ≡ (dues ++ other_dues document notes) ++ notices notes_of None rest
  none-named = behind-other (others_notices notes_of rest)

  module _ (named : Named) where
    at-order : (o : Ordering) → slice_cmp nat_cmp named.name name ≡ o → all_notices notes_of named (here ∷ rest)
        ≡ match_ordering o (closing named ∷ (others_notice notes_of here ++ others_notices notes_of rest)) (due_of document (notes_of name) ∷ others_notices notes_of rest) (others_notice notes_of here ++ all_notices notes_of named rest)
    at-order o e =
        ap (λ p. match_ordering p (closing named ∷ (others_notice notes_of here ++ others_notices notes_of rest)) (due_of document (notes_of name) ∷ others_notices notes_of rest) (others_notice notes_of here ++ all_notices notes_of named rest)) e

    -- the named document is closed, and comes before
    pub named-before : slice_cmp nat_cmp named.name name ≡ Less → dues ++ notices notes_of (Some named) (here ∷ rest) ≡ ((dues ++ closing named ∷ []) ++ other_dues document notes) ++ notices notes_of None rest
    named-before e =
        ap (λ z. dues ++ z) (at-order Less e ∙ ap (λ z. closing named ∷ (z ++ others_notices notes_of rest)) other-here)
        ∙ sym (append_assoc dues (closing named ∷ []) (other_dues document notes ++ others_notices notes_of rest))
        ∙ sym (append_assoc (dues ++ closing named ∷ []) (other_dues document notes) (others_notices notes_of rest))

    -- it is this document
    pub named-here : slice_cmp nat_cmp named.name name ≡ Equal → dues ++ notices notes_of (Some named) (here ∷ rest) ≡ (dues ++ due_of document notes ∷ []) ++ notices notes_of None rest
    named-here e =
        ap (λ z. dues ++ z) (at-order Equal e ∙ ap (λ z. due_of document z ∷ others_notices notes_of rest) is)
        ∙ sym (append_assoc dues (due_of document notes ∷ []) (others_notices notes_of rest))

    -- it comes behind
    pub named-behind : slice_cmp nat_cmp named.name name ≡ Greater → dues ++ notices notes_of (Some named) (here ∷ rest) ≡ (dues ++ other_dues document notes) ++ notices notes_of (Some named) rest
    named-behind e = ap (λ z. dues ++ z) (at-order Greater e) ∙ behind-other (all_notices notes_of named rest)

-- ---- names

pub opened-names : (es : List (List ℕ × Open)) → map (λ o. o.name) (map opened_entry es) ≡ keys_of es
opened-names [] = refl
opened-names (e ∷ es) = ap (λ names. e.0 ∷ names) (opened-names es)

-- ---- documents, once their notices are sent

-- a name comes behind all of these
abbrev IsBehindAll : List ℕ → List (List ℕ) → Type 0
IsBehindAll name keys = AllByRecursion (λ key. slice_cmp nat_cmp name key ≡ Greater) keys

within-all : (P : List ℕ → Type 0) (done rest : List (List ℕ)) (name : List ℕ) → AllByRecursion P (done ++ name ∷ rest) → P name
within-all P [] rest name all = all.0
within-all P (key ∷ done) rest name all = within-all P done rest name all.1

behind-sorted : (done rest : List (List ℕ)) (name : List ℕ) → IsStrictlySortedBy (slice_cmp nat_cmp) (done ++ name ∷ rest) → IsBehindAll name done
unfolding IsStrictlySortedBy
behind-sorted [] rest name sorted = tt
behind-sorted (key ∷ done) rest name sorted =
    (nat_list_cmp_total.antisymm name key ∙ ap ordering_reverse (within-all (λ k. slice_cmp nat_cmp key k ≡ Less) done rest name sorted.0), behind-sorted done rest name sorted.1)

put-behind : (es : List (List ℕ × Open)) (name : List ℕ) (document : Open) → IsBehindAll name (keys_of es) → insert_entry (slice_cmp nat_cmp) es name document ≡ es ++ (name, document) ∷ []
put-behind [] name document behind = refl
put-behind (e ∷ es) name document behind =
    ap (λ o. match_ordering o ((name, document) ∷ e ∷ es) ((e.0, document) ∷ es) (e ∷ insert_entry (slice_cmp nat_cmp) es name document)) behind.0
    ∙ ap (λ z. e ∷ z) (put-behind es name document behind.1)

-- a document that comes behind is put last
pub put-last : (es all : List (List ℕ × Open)) (rest : List (List ℕ)) (name : List ℕ) (document : Open) → keys_of es ++ name ∷ rest ≡ keys_of all → IsStrictlySortedBy (slice_cmp nat_cmp) (keys_of all) → insert_entry (slice_cmp nat_cmp) es name document ≡ es ++ (name, document) ∷ []
put-last es all rest name document is sorted =
    put-behind es name document (behind-sorted (keys_of es) rest name (subst (IsStrictlySortedBy (slice_cmp nat_cmp)) (sym is) sorted))

map-last : {A B : Type 0} (f : A → B) (xs : List A) (x : A) → map f (xs ++ x ∷ []) ≡ map f xs ++ f x ∷ []
map-last f [] x = refl
map-last f (y ∷ ys) x = ap (λ z. f y ∷ z) (map-last f ys x)

-- one more name is gone over
pub keys-more : (es : List (List ℕ × Open)) (rest : List (List ℕ)) (name : List ℕ) (document : Open) → keys_of (es ++ (name, document) ∷ []) ++ rest ≡ keys_of es ++ name ∷ rest
keys-more es rest name document =
    ap (λ z. z ++ rest) (map-last (λ (e : List ℕ × Open). e.0) es (name, document)) ∙ append_assoc (keys_of es) (name ∷ []) rest

-- one more document counts as sent
pub sent-more : (notes_of : List ℕ → List Note) (es : List (List ℕ × Open)) (rest : List Opened) (name : List ℕ) (old new : Open) (notes : List Note) → notes_of name ≡ notes → new.uri ≡ old.uri → new.sent ≡ Some notes
    → map opened_entry (es ++ (name, new) ∷ []) ++ rest ≡ map opened_entry es ++ as_sent notes_of (opened_entry (name, old)) ∷ rest
sent-more notes_of es rest name old new notes is uri sent =
    ap (λ z. z ++ rest) (map-last opened_entry es (name, new)) ∙ append_assoc (map opened_entry es) (opened_entry (name, new) ∷ []) rest
    ∙ ap (λ (o : Opened). map opened_entry es ++ o ∷ rest) (λ i. record { name = name; uri = uri i; sent = (sent ∙ ap Some (sym is)) i })

-- documents of the same names have their texts
pub have-same : (texts : List (List ℕ × Held)) (xs ys : List (List ℕ × Open)) → keys_of xs ≡ keys_of ys → HaveDocuments texts ys → HaveDocuments texts xs
have-same texts xs ys same have = from xs (subst (AllByRecursion (HasDocument texts)) (sym same) (to ys have))
  where
    to : (es : List (List ℕ × Open)) → HaveDocuments texts es → AllByRecursion (HasDocument texts) (keys_of es)
    to [] h = tt
    to (e ∷ es) h = (h.0, to es h.1)

    from : (es : List (List ℕ × Open)) → AllByRecursion (HasDocument texts) (keys_of es) → HaveDocuments texts es
    from [] h = tt
    from (e ∷ es) h = (h.0, from es h.1)
