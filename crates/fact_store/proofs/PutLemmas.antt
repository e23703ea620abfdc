-- Slots after a text is put: sound, and planned where the needs are the same.
use Rattle.std.proofs.Common.{◌≡◌, ℕ, Bool, true, false, List, [], ◌∷◌, ◌++◌, Option, Some, None, refl, sym, ap, ◌∙◌, subst, cond, inl, inr, nat_eq, arith}
use Rattle.std.specs.Prelude.{slice_get, slice_set, remove, unwrap_or}
use Rattle.std.specs.Arc.{arc_value}
use Rattle.std.specs.Cmp.Lexicographic.{pointwise}
use Rattle.std.proofs.lemmas.List.{length-set}
use Rattle.std.proofs.lemmas.Option.{slice_get_within}
use Rattle.list_laws.proofs.Lists.{pushed-cases}
use Rattle.list_laws.proofs.Tests.{and-left, and-right}
use Rattle.list_laws.proofs.Texts.{numbers-equal}
use Rattle.fact_store.specs.declared.slot.Slot.{Slot}
use Rattle.fact_store.specs.declared.slot.Kept.{Kept}
use Rattle.fact_store.specs.declared.plan.Plan.{Plan}
use Rattle.fact_values.specs.Names.{name_eq, has}
use Rattle.fact_values.specs.States.{State}
use Rattle.fact_store.specs.Given.{states}
use Rattle.fact_store.specs.Slots.{source, source_after, kept_after, HasNoSlot, IsSound, AreSound}
use Rattle.fact_store.specs.Plans.{among, IsRow}
use Rattle.fact_store.specs.Right.{IsPlan, HoldsPlan}
use Rattle.fact_values.proofs.NameLemmas.{same_name}
use Rattle.fact_store.proofs.KeepLemmas.{set_cases}
use Rattle.fact_store.proofs.TextLemmas.{AreDistinct-names, names-set, AreDistinct-push, AreDistinct-remove, left_at}

-- a fact is held to have been made from the bytes that it was made from
pub source-after : (from : Option (List ℕ)) (before bytes : List ℕ) → unwrap_or (source_after from before bytes) bytes ≡ unwrap_or from before
source-after from before bytes = choice (name_eq (unwrap_or from before) bytes) refl
  where
    choice : (b : Bool) → name_eq (unwrap_or from before) bytes ≡ b → unwrap_or (cond b None (Some (unwrap_or from before))) bytes ≡ unwrap_or from before
    choice true e = sym (same_name (unwrap_or from before) bytes e)
    choice false e = refl

-- and is marked so only where those are others than the slot's
pub source_after-elsewhere : (from : Option (List ℕ)) (before bytes other : List ℕ) → source_after from before bytes ≡ Some other → name_eq other bytes ≡ false
source_after-elsewhere from before bytes other e = choice (name_eq (unwrap_or from before) bytes) refl e
  where
    choice : (b : Bool) → name_eq (unwrap_or from before) bytes ≡ b → cond b None (Some (unwrap_or from before)) ≡ Some other → name_eq other bytes ≡ false
    choice true h k = cc
    choice false h k = let s : unwrap_or from before ≡ other = cc in ap (λ x. name_eq x bytes) (sym s) ∙ h

pub names_same : (a b : List (List ℕ)) → pointwise (pointwise nat_eq) a b ≡ true → a ≡ b
names_same [] [] e = refl
names_same [] (y ∷ b) e = cc
names_same (x ∷ a) [] e = cc
names_same (x ∷ a) (y ∷ b) e = λ i. numbers-equal x y (and-left (pointwise nat_eq x y) _ e) i ∷ names_same a b (and-right (pointwise nat_eq x y) _ e) i

module _ {Own F : Type 0} where
  -- a slot with another text
  abbrev pub with_text : Slot Own F → List ℕ → Own → Option (List (List ℕ)) → Slot Own F
  with_text slot bytes own needs = record { name = slot.name; bytes = bytes; own = own; needs = needs; kept = kept_after slot.kept slot.bytes bytes }

  pub with_text-kept : (slot : Slot Own F) (bytes : List ℕ) (own : Own) (needs : Option (List (List ℕ))) (kept : Kept F) → slot.kept ≡ Some kept → (later : Kept F) × ((with_text slot bytes own needs).kept ≡ Some later) × (source later bytes ≡ source kept slot.bytes) × (later.given ≡ kept.given)
  with_text-kept slot bytes own needs kept e =
      (record kept { from = source_after kept.from slot.bytes bytes }, ap (λ k. kept_after k slot.bytes bytes) e, source-after kept.from slot.bytes bytes, refl)

  -- the plan stays where a slot keeps its name and its needs
  IsPlan-set : (slots : List (Slot Own F)) (i : ℕ) (x y : Slot Own F) (plan : Plan) → slice_get slots i ≡ Some x → y.name ≡ x.name → y.needs ≡ x.needs → IsPlan slots plan → IsPlan (slice_set slots i y) plan
  IsPlan-set slots i x y plan at n m p = record {
    edges = record {
      long = p.edges.long ∙ sym (length-set slots i y);
      rows = λ j row slot er es. elim (set_cases slots i j y slot (slice_get_within slots i x at) es) as (λ _. IsRow (slice_set slots i y) (unwrap_or slot.needs []) row) [
        | inl this ↦
            subst (λ (s : Slot Own F). IsRow (slice_set slots i y) (unwrap_or s.needs []) row) this.1
            (subst (λ (o : Option (List (List ℕ))). IsRow (slice_set slots i y) (unwrap_or o []) row) (sym m) (still (unwrap_or x.needs []) row (p.edges.rows i row x (ap (slice_get plan.edges.items) (sym this.0) ∙ er) at)))
        | inr past ↦ still (unwrap_or slot.needs []) row (p.edges.rows j row slot er past.1)
      ];
    };
    groups = p.groups;
    all = p.all;
    within = p.within;
    grounds = p.grounds;
  }
    where
      still : (names : List (List ℕ)) (row : List ℕ) → IsRow slots names row → IsRow (slice_set slots i y) names row
      still names row r = record {
        each = λ j slot g. elim (set_cases slots i j y slot (slice_get_within slots i x at) g) as (λ _. among row j ≡ has names slot.name) [
          | inl this ↦ ap (among row) this.0 ∙ r.each i x at ∙ ap (has names) (sym n ∙ ap (λ (s : Slot Own F). s.name) this.1)
          | inr past ↦ r.each j slot past.1
        ];
        within = λ k d l. omega (arith, r.within k d l, length-set slots i y);
        once = r.once;
      }

  pub HoldsPlan-set : (slots : List (Slot Own F)) (i : ℕ) (x y : Slot Own F) (plan : Option Plan) → slice_get slots i ≡ Some x → y.name ≡ x.name → y.needs ≡ x.needs → HoldsPlan slots plan → HoldsPlan (slice_set slots i y) plan
  HoldsPlan-set slots i x y None at n m h = tt
  HoldsPlan-set slots i x y (Some plan) at n m h = IsPlan-set slots i x y plan at n m h

  module _ (own_of : List ℕ → List ℕ → Own) (needs_of : Own → Option (List (List ℕ))) (fact_of : List ℕ → Own → List (List ℕ × State F) → F) where
    pub IsSound-with_text : (slot : Slot Own F) (bytes : List ℕ) (own : Own) (needs : Option (List (List ℕ))) → IsSound own_of needs_of fact_of slot → own ≡ own_of slot.name bytes → needs ≡ needs_of own → IsSound own_of needs_of fact_of (with_text slot bytes own needs)
    IsSound-with_text slot bytes own needs s eo en = record {
      own_part = eo;
      needs_part = en;
      made = λ k e. by_kept slot.kept refl k e;
      elsewhere = λ k b e f. apart slot.kept k b e f;
    }
      where
        by_kept : (o : Option (Kept F)) → slot.kept ≡ o → (k : Kept F) → kept_after o slot.bytes bytes ≡ Some k → arc_value k.fact ≡ fact_of slot.name (own_of slot.name (source k bytes)) (states k.given)
        by_kept None eq k e = cc
        by_kept (Some kept) eq k e =
            let h : record kept { from = source_after kept.from slot.bytes bytes } ≡ k = cc in
            subst (λ (z : Kept F). arc_value z.fact ≡ fact_of slot.name (own_of slot.name (source z bytes)) (states z.given)) h
            (s.made kept eq ∙ ap (λ (b : List ℕ). fact_of slot.name (own_of slot.name b) (states kept.given)) (sym (source-after kept.from slot.bytes bytes)))

        apart : (o : Option (Kept F)) (k : Kept F) (b : List ℕ) → kept_after o slot.bytes bytes ≡ Some k → k.from ≡ Some b → name_eq b bytes ≡ false
        apart None k b e f = cc
        apart (Some kept) k b e f =
            let h : record kept { from = source_after kept.from slot.bytes bytes } ≡ k = cc in
            source_after-elsewhere kept.from slot.bytes bytes b (ap (λ (z : Kept F). z.from) h ∙ f)

    pub AreSound-set_text : (slots : List (Slot Own F)) (i : ℕ) (x y : Slot Own F) → AreSound own_of needs_of fact_of slots → slice_get slots i ≡ Some x → y.name ≡ x.name → IsSound own_of needs_of fact_of y → AreSound own_of needs_of fact_of (slice_set slots i y)
    AreSound-set_text slots i x y s e n sy = record {
      each = λ j z g. elim (set_cases slots i j y z (slice_get_within slots i x e) g) as (λ _. IsSound own_of needs_of fact_of z) [
        | inl this ↦ subst (IsSound own_of needs_of fact_of) this.1 sy
        | inr past ↦ s.each j z past.1
      ];
      distinct = AreDistinct-names (slice_set slots i y) slots (names-set slots i x y e n) s.distinct;
    }

    pub AreSound-push : (slots : List (Slot Own F)) (y : Slot Own F) → AreSound own_of needs_of fact_of slots → HasNoSlot slots y.name → IsSound own_of needs_of fact_of y → AreSound own_of needs_of fact_of (slots ++ y ∷ [])
    AreSound-push slots y s h sy = record {
      each = λ j z g. elim (pushed-cases slots y z j g) as (λ _. IsSound own_of needs_of fact_of z) [
        | inl past ↦ s.each j z past
        | inr last ↦ subst (IsSound own_of needs_of fact_of) last.1 sy
      ];
      distinct = AreDistinct-push slots y s.distinct h;
    }

    pub AreSound-remove : (slots : List (Slot Own F)) (i : ℕ) → AreSound own_of needs_of fact_of slots → AreSound own_of needs_of fact_of (remove slots i)
    AreSound-remove slots i s = record {
      each = λ j z g. let l = left_at slots i j z g in s.each l.0 z l.1;
      distinct = AreDistinct-remove slots i s.distinct;
    }

    -- a slot that is new
    pub IsSound-new : (name bytes : List ℕ) (own : Own) (needs : Option (List (List ℕ))) → own ≡ own_of name bytes → needs ≡ needs_of own → IsSound own_of needs_of fact_of (record { name = name; bytes = bytes; own = own; needs = needs; kept = None })
    IsSound-new name bytes own needs eo en = record { own_part = eo; needs_part = en; made = λ k e. cc e; elsewhere = λ k b e f. cc e }
