-- Which names can be used behind declarations and entries, and which were seen.
use Rattle.std.proofs.Common.{◌≡◌, inl, inr, Bool, true, false, cond, List, [], ◌∷◌, ◌++◌, Option, Some, None, map, refl, sym, ap, ◌∙◌, subst}
use Rattle.std.specs.Prelude.{◌⊎◌, is_some}
use Rattle.std.specs.Option.{option_or}
use Rattle.tla_model.specs.declared.names.Binder.{Binder}
use Rattle.tla_model.specs.declared.names.Meaning.TheVariants.{BuiltIn, Declared}
use Rattle.tla_model.specs.Contexts.{Context, meaning_of, usable}
use Rattle.tla_model.specs.Entities.{Meaning, Text, meant, name_of, same_meaning}
use Rattle.tla_model.specs.EntityKinds.{is_instance}
use Rattle.tla_model.specs.Tables.{Named, find, has, put}
use Rattle.tla_model.specs.Same.{meaning-itself}
use Rattle.model_laws.proofs.Settling.{put-gives}
use Rattle.module_model.specs.Exports.{Behind, Exports, Known, and_known, at_path, behind_meaning}
use Rattle.module_model.specs.Modules.{Reading, clashes, declare_all, joined, with_entry}
use Rattle.tree_kinds.specs.Standing.{name_among, same_standing}
use Rattle.tree_kinds.proofs.Standings.{standing-equal, standing-unlike}
use Rattle.flat_trees.specs.Layouts.{Layout}
use Rattle.flattened_trees.specs.Agreeing.{KeepsOrders, TakesAs, is_seen}
use Rattle.flattened_meanings.proofs.Fresh.{IsOneOf}
use Rattle.flattened_units.specs.Units.{meanings_of}
use Rattle.module_meanings.specs.Premises.{AreTold, IsTold}

-- ---- what was seen

pub seen-right : (a b : List Meaning) (m : Meaning) → is_seen b m ≡ true → is_seen (a ++ b) m ≡ true
seen-right [] b m is = is
seen-right (x ∷ a) b m is = by_sameness (same_meaning m x) (seen-right a b m is)
  where
    by_sameness : (t : Bool) → is_seen (a ++ b) m ≡ true → cond t true (is_seen (a ++ b) m) ≡ true
    by_sameness true others = refl
    by_sameness false others = others

pub seen-left : (a b : List Meaning) (m : Meaning) → is_seen a m ≡ true → is_seen (a ++ b) m ≡ true
seen-left [] b m is = cc is
seen-left (x ∷ a) b m is = by_sameness (same_meaning m x) is (seen-left a b m)
  where
    by_sameness : (t : Bool) → cond t true (is_seen a m) ≡ true → (is_seen a m ≡ true → is_seen (a ++ b) m ≡ true) → cond t true (is_seen (a ++ b) m) ≡ true
    by_sameness true is others = refl
    by_sameness false is others = others is

pub unseen-parts : (a b : List Meaning) (m : Meaning) → is_seen (a ++ b) m ≡ false → (is_seen a m ≡ false) × (is_seen b m ≡ false)
unseen-parts [] b m none = (refl, none)
unseen-parts (x ∷ a) b m none = by_sameness (same_meaning m x) none (unseen-parts a b m)
  where
    by_sameness : (t : Bool) → cond t true (is_seen (a ++ b) m) ≡ false → (is_seen (a ++ b) m ≡ false → (is_seen a m ≡ false) × (is_seen b m ≡ false)) → (cond t true (is_seen a m) ≡ false) × (is_seen b m ≡ false)
    by_sameness true none others = absurd (cc none)
    by_sameness false none others = others none

-- ---- entries

-- a meaning is that of one of these entries
abbrev pub IsEntry : Exports → Meaning → Type 0
IsEntry [] m = ⊥
IsEntry (entry ∷ rest) m = (m ≡ entry.1) ⊎ IsEntry rest m

same-true : (a b : Meaning) → a ≡ b → same_meaning a b ≡ true
same-true a b same = ap (λ n. same_meaning a n) (sym same) ∙ meaning-itself a

pub entry-named : (entries : Exports) (m : Meaning) → IsEntry entries m → name_among entries m ≡ None → ⊥
entry-named [] m one none = absurd one
entry-named (entry ∷ rest) m (inl same) none =
    let e : cond true (Some entry.0) (name_among rest m) ≡ None = ap (λ b. cond b (Some entry.0) (name_among rest m)) (sym (standing-equal m entry.1 same)) ∙ none in cc e
entry-named (entry ∷ rest) m (inr one) none = by_sameness (same_standing m entry.1) none (entry-named rest m one)
  where
    by_sameness : (t : Bool) → cond t (Some entry.0) (name_among rest m) ≡ None → (name_among rest m ≡ None → ⊥) → ⊥
    by_sameness true none others = cc none
    by_sameness false none others = others none

pub entry-seen : (entries : Exports) (m : Meaning) → IsEntry entries m → is_seen (meanings_of entries) m ≡ true
entry-seen [] m one = absurd one
entry-seen (entry ∷ rest) m (inl same) = ap (λ b. cond b true (is_seen (meanings_of rest) m)) (same-true m entry.1 same)
entry-seen (entry ∷ rest) m (inr one) = by_sameness (same_meaning m entry.1) (entry-seen rest m one)
  where
    by_sameness : (t : Bool) → is_seen (meanings_of rest) m ≡ true → cond t true (is_seen (meanings_of rest) m) ≡ true
    by_sameness true others = refl
    by_sameness false others = others

pub unseen-entries : (entries : Exports) (m : Meaning) → is_seen (meanings_of entries) m ≡ false → name_among entries m ≡ None
unseen-entries [] m none = refl
unseen-entries (entry ∷ rest) m none = by_sameness (same_meaning m entry.1) refl none (unseen-entries rest m)
  where
    by_sameness : (t : Bool) → same_meaning m entry.1 ≡ t → cond t true (is_seen (meanings_of rest) m) ≡ false → (is_seen (meanings_of rest) m ≡ false → name_among rest m ≡ None) → name_among (entry ∷ rest) m ≡ None
    by_sameness true e none others = absurd (cc none)
    by_sameness false e none others = ap (λ t. cond t (Some entry.0) (name_among rest m)) (standing-unlike m entry.1 e) ∙ others none

-- ---- names behind declarations

usable-is : (o : Option (Option Meaning)) (m : Meaning) → usable o ≡ Some m → o ≡ Some (Some m)
usable-is None m e = cc
usable-is (Some found) m e = ap Some e

put-means : (context : Context) (name : Named) (meaning : Meaning) (other : Named) (m : Meaning) → meaning_of (put context name (Some meaning)) other ≡ Some m → (meaning_of context other ≡ Some m) ⊎ (m ≡ meaning)
put-means context name meaning other m e = by_put (put-gives context name (Some meaning) other (Some m) (usable-is (find (put context name (Some meaning)) other) m e))
  where
    by_put : ((find context other ≡ Some (Some m)) ⊎ (Some meaning ≡ Some m)) → (meaning_of context other ≡ Some m) ⊎ (m ≡ meaning)
    by_put (inl before) = inl (ap usable before)
    by_put (inr same) = inr (cc same)

module _ (text : Text) where
  pub declared-means : (binders : List Binder) (local : Bool) (reading : Reading) (name : Named) (m : Meaning) → meaning_of (declare_all text local reading binders).context name ≡ Some m → (meaning_of reading.context name ≡ Some m) ⊎ IsOneOf text binders m
  declared-means [] local reading name m e = inl e
  declared-means (b ∷ rest) local reading name m e =
      by_rest (declared-means rest local _ name m e)
    where
      own : Named
      own = name_of text.source b.name

      by_there : (t : Bool) → meaning_of (cond t reading (with_entry local reading own (meant text b))).context name ≡ Some m → (meaning_of reading.context name ≡ Some m) ⊎ IsOneOf text (b ∷ rest) m
      by_there true e = inl e
      by_there false e = by_put (put-means reading.context own (meant text b) name m e)
        where
          by_put : ((meaning_of reading.context name ≡ Some m) ⊎ (m ≡ meant text b)) → (meaning_of reading.context name ≡ Some m) ⊎ IsOneOf text (b ∷ rest) m
          by_put (inl before) = inl before
          by_put (inr same) = inr (inl same)

      by_rest : ((meaning_of (cond (has reading.context own) reading (with_entry local reading own (meant text b))).context name ≡ Some m) ⊎ IsOneOf text rest m) → (meaning_of reading.context name ≡ Some m) ⊎ IsOneOf text (b ∷ rest) m
      by_rest (inl here) = by_there (has reading.context own) here
      by_rest (inr one) = inr (inr one)

  pub one-is-seen : (binders : List Binder) (m : Meaning) → IsOneOf text binders m → is_seen (map (meant text) binders) m ≡ true
  one-is-seen [] m one = absurd one
  one-is-seen (b ∷ rest) m (inl same) = ap (λ t. cond t true (is_seen (map (meant text) rest) m)) (same-true m (meant text b) same)
  one-is-seen (b ∷ rest) m (inr one) = by_sameness (same_meaning m (meant text b)) (one-is-seen rest m one)
    where
      by_sameness : (t : Bool) → is_seen (map (meant text) rest) m ≡ true → cond t true (is_seen (map (meant text) rest) m) ≡ true
      by_sameness true others = refl
      by_sameness false others = others

pub joined-means : (entries : Exports) (local : Bool) (reading : Reading) (name : Named) (m : Meaning) → meaning_of (joined local reading entries).context name ≡ Some m → (meaning_of reading.context name ≡ Some m) ⊎ IsEntry entries m
joined-means [] local reading name m e = inl e
joined-means (entry ∷ rest) local reading name m e = by_rest (joined-means rest local _ name m e)
  where
    by_there : (t : Bool) → meaning_of (cond t reading (with_entry local reading entry.0 entry.1)).context name ≡ Some m → (meaning_of reading.context name ≡ Some m) ⊎ IsEntry (entry ∷ rest) m
    by_there true e = inl e
    by_there false e = by_put (put-means reading.context entry.0 entry.1 name m e)
      where
        by_put : ((meaning_of reading.context name ≡ Some m) ⊎ (m ≡ entry.1)) → (meaning_of reading.context name ≡ Some m) ⊎ IsEntry (entry ∷ rest) m
        by_put (inl before) = inl before
        by_put (inr same) = inr (inl same)

    by_rest : ((meaning_of (cond (clashes reading.context entry) reading (with_entry local reading entry.0 entry.1)).context name ≡ Some m) ⊎ IsEntry rest m) → (meaning_of reading.context name ≡ Some m) ⊎ IsEntry (entry ∷ rest) m
    by_rest (inl here) = by_there (clashes reading.context entry) here
    by_rest (inr one) = inr (inr one)

-- ---- what is known further

-- what stands behind a name, where it is an instance
abbrev held : Bool → Option Behind → Behind
held t o path = cond t (at_path o path) []

pub behind-more : (known more : Known) (m : Meaning) → IsTold known m → behind_meaning (and_known known more) (Some m) ≡ behind_meaning known (Some m)
behind-more known more BuiltIn told = refl
behind-more known more (Declared entity callee) told = by_kind (is_instance entity) told
  where
    first : (a b : Option Behind) → is_some a ≡ true → option_or a b ≡ a
    first None b some = cc some
    first (Some x) b some = refl

    by_kind : (t : Bool) → (t ≡ true → is_some (known callee.decl) ≡ true) → held t (option_or (known callee.decl) (more callee.decl)) ≡ held t (known callee.decl)
    by_kind true told = ap (held true) (first (known callee.decl) (more callee.decl) (told refl))
    by_kind false told = refl

pub orders-more : (known more : Known) (layout : Layout) → AreTold known layout.context → KeepsOrders known layout → KeepsOrders (and_known known more) layout
orders-more known more layout told orders name m e =
    subst (λ (held : Behind). TakesAs (layout.stands m) held m) (sym (behind-more known more m (told name m e))) (orders name m e)

pub told-more : (known more : Known) (m : Meaning) → IsTold known m → IsTold (and_known known more) m
told-more known more BuiltIn told = tt
told-more known more (Declared entity callee) told = λ is. first (known callee.decl) (more callee.decl) (told is)
  where
    first : (a b : Option Behind) → is_some a ≡ true → is_some (option_or a b) ≡ true
    first None b some = cc some
    first (Some x) b some = refl
