-- Numbers of the needs of a module, one after another.
use Rattle.std.proofs.Common.{◌≡◌, ℕ, Bool, true, false, List, [], ◌∷◌, ◌++◌, Option, Some, None, refl, sym, ap, ◌∙◌, cond}
use Rattle.std.specs.Prelude.{◌||◌, Contains, string_bytes, String}
use Rattle.std.specs.List.{list_any}
use Rattle.std.specs.Str.{bytes_eq}
use Rattle.std.specs.String.{string_eq}
use Rattle.std.specs.declared.alloc.Global.{Global}
use Rattle.std.proofs.lemmas.Map.Text.{hash_map_updates_text}
use Rattle.std.specs.Cmp.Lexicographic.{nat_list_eq_equiv}
use Rattle.indexmap.specs.IndexMap.{IndexMap, UpdatesBy, get_by_text}
use Rattle.list_laws.proofs.Texts.{contains-any, same-text}

-- whether a name is among others
abbrev pub is_among : List (List ℕ) → List ℕ → Bool
is_among names name = list_any (bytes_eq name) names

or-right : (a : Bool) → (a || true) ≡ true
or-right true = refl
or-right false = refl

or-left : (a : Bool) → (a || false) ≡ a
or-left true = refl
or-left false = refl

pub among-more : (names : List (List ℕ)) (item name : List ℕ) → is_among (names ++ item ∷ []) name ≡ (is_among names name || bytes_eq name item)
among-more [] item name = or-left (bytes_eq name item)
among-more (first ∷ names) item name = by (bytes_eq name first) (among-more names item name)
  where
    by : (b : Bool) → is_among (names ++ item ∷ []) name ≡ (is_among names name || bytes_eq name item) → (b || is_among (names ++ item ∷ []) name) ≡ ((b || is_among names name) || bytes_eq name item)
    by true rest = refl
    by false rest = rest

-- those that are among these names have their number, and others none
abbrev pub AreNumbered : (List ℕ → Option ℕ) → List (List ℕ) → (List ℕ → Option ℕ) → Type 0
AreNumbered number names files = (name : List ℕ) → files name ≡ cond (is_among names name) (number name) None

module _ (number : List ℕ → Option ℕ) (names : List (List ℕ)) (item : List ℕ) (old : List ℕ → Option ℕ) (was : AreNumbered number names old) where
  -- one more has a number
  pub numbered-more : (new : List ℕ → Option ℕ) (at : ℕ) → number item ≡ Some at → ((name : List ℕ) → new name ≡ cond (bytes_eq name item) (Some at) (old name)) → AreNumbered number (names ++ item ∷ []) new
  numbered-more new at is goes name = goes name ∙ (by (bytes_eq name item) refl ∙ ap (λ b. cond b (number name) None) (sym (among-more names item name)))
    where
      by : (b : Bool) → bytes_eq name item ≡ b → cond b (Some at) (old name) ≡ cond (is_among names name || b) (number name) None
      by true same = sym (ap number (same-text name item same) ∙ is) ∙ ap (λ b. cond b (number name) None) (sym (or-right (is_among names name)))
      by false apart = was name ∙ ap (λ b. cond b (number name) None) (sym (or-left (is_among names name)))

  -- one more has none
  pub numbered-same : number item ≡ None → AreNumbered number (names ++ item ∷ []) old
  numbered-same none name = by (bytes_eq name item) refl ∙ ap (λ b. cond b (number name) None) (sym (among-more names item name))
    where
      nothing : (b : Bool) → number name ≡ None → cond b (number name) None ≡ None
      nothing true is = is
      nothing false is = refl

      by : (b : Bool) → bytes_eq name item ≡ b → old name ≡ cond (is_among names name || b) (number name) None
      by true same =
          let is : number name ≡ None = ap number (same-text name item same) ∙ none in
          was name ∙ (nothing (is_among names name) is ∙ (sym is ∙ ap (λ b. cond b (number name) None) (sym (or-right (is_among names name)))))
      by false apart = was name ∙ ap (λ b. cond b (number name) None) (sym (or-left (is_among names name)))

-- all have their numbers, where those that are not among these names have none
pub numbered-all : (number : List ℕ → Option ℕ) (names : List (List ℕ)) (files : List ℕ → Option ℕ) → AreNumbered number names files → ((name : List ℕ) → (Contains names name → ⊥) → number name ≡ None) → (name : List ℕ) → files name ≡ number name
numbered-all number names files are others name = are name ∙ by (is_among names name) refl
  where
    by : (b : Bool) → is_among names name ≡ b → cond b (number name) None ≡ number name
    by true is = refl
    by false is = sym (others name (λ there. let never : true ≡ false = sym (contains-any names name there) ∙ is in cc))

-- none are numbered yet
pub numbered-none : (number : List ℕ → Option ℕ) (files : List ℕ → Option ℕ) → ((name : List ℕ) → files name ≡ None) → AreNumbered number [] files
numbered-none number files none name = none name

-- a number that is put under a name
pub number-put : {S : Type 0} (old new : IndexMap (String Global) ℕ S) (key : String Global) (name : List ℕ) (number : ℕ) → string_bytes key ≡ name → UpdatesBy string_eq (λ k. bytes_eq (string_bytes key) (string_bytes k)) old new (Some number)
    → (other : List ℕ) → get_by_text new other ≡ cond (bytes_eq other name) (Some number) (get_by_text old other)
number-put old new key name number spelled updates other =
    hash_map_updates_text (string_bytes key) old new (Some number) updates other
    ∙ ((λ i. cond (bytes_eq (spelled i) other) (Some number) (get_by_text old other))
    ∙ ap (λ b. cond b (Some number) (get_by_text old other)) (nat_list_eq_equiv.symm name other))
