-- The texts while names get theirs one after another, each the last that it is to have.
use Rattle.std.proofs.Common.{◌≡◌, ℕ, zero, suc, ◌+◌, ◌≤◌, Bool, true, false, List, [], ◌∷◌, Option, Some, None, refl, sym, ap, ◌∙◌, subst, cond, inl, inr, drop, length, add-one, arith}
use Rattle.std.specs.Prelude.{◌||◌, ◌⊎◌, slice_get}
use Rattle.std.specs.FinMap.{get, get-insert, get-remove, same_map, nat_cmp-IsAntisymmetric, slice_cmp-IsAntisymmetric}
use Rattle.std.specs.Cmp.Lexicographic.{nat_list_cmp_total}
use Rattle.std.proofs.lemmas.Bool.{or_left}
use Rattle.list_laws.proofs.Lists.{drop-at}
use Rattle.fact_store.specs.declared.slot.Slot.{Slot}
use Rattle.fact_store.specs.declared.given.NewText.{NewText}
use Rattle.fact_values.specs.Names.{name_eq, Texts}
use Rattle.fact_values.specs.States.{State}
use Rattle.fact_store.specs.Slots.{texts_of, AreSound, CarriesOver}
use Rattle.fact_store.specs.Holding.{with_text, with_texts, has_text, AreBetween}
use Rattle.fact_values.proofs.NameLemmas.{true_or_false, same_name, name_eq-same, name_eq-refl}
use Rattle.fact_store.proofs.SlotLemmas.{text_of-slot, slot_with}
use Rattle.fact_store.proofs.Dirt.{carries-same, carries-through}

-- a name gets its text, and no other does
pub get-with_text : (m : Texts) (name : List ℕ) (bytes : Option (List ℕ)) (q : List ℕ) → get (with_text m name bytes) q ≡ cond (name_eq q name) bytes (get m q)
get-with_text m name None q = get-remove nat_list_cmp_total m name q
get-with_text m name (Some bytes) q = get-insert nat_list_cmp_total m name bytes q

-- a name that gets no text keeps what it has
pub with_texts-other : (texts : List NewText) (m : Texts) (q : List ℕ) → has_text texts q ≡ false → get (with_texts m texts) q ≡ get m q
with_texts-other [] m q e = refl
with_texts-other (t ∷ texts) m q e = by (true_or_false (name_eq q t.name)) (with_texts-other texts (with_text m t.name t.bytes) q)
  where
    by : (name_eq q t.name ≡ true) ⊎ (name_eq q t.name ≡ false) → (has_text texts q ≡ false → get (with_texts (with_text m t.name t.bytes) texts) q ≡ get (with_text m t.name t.bytes) q) → get (with_texts (with_text m t.name t.bytes) texts) q ≡ get m q
    by (inl same) rest = let k : true ≡ false = sym (or_left (name_eq q t.name) (has_text texts q) same) ∙ e in cc k
    by (inr other) rest =
        rest (sym (ap (λ b. b || has_text texts q) other) ∙ e)
        ∙ get-with_text m t.name t.bytes q ∙ ap (λ b. cond b t.bytes (get m q)) other

-- the last text of a name is the one that it has then
pub with_texts-last : (texts : List NewText) (m : Texts) (k : ℕ) (t : NewText) → slice_get texts k ≡ Some t → has_text (drop (suc k) texts) t.name ≡ false → get (with_texts m texts) t.name ≡ t.bytes
with_texts-last [] m k t at e = cc
with_texts-last (x ∷ texts) m zero t at e =
    let s : x ≡ t = cc in
    with_texts-other texts (with_text m x.name x.bytes) t.name e
    ∙ get-with_text m x.name x.bytes t.name
    ∙ ap (λ b. cond b x.bytes (get m t.name)) (name_eq-same t.name x.name (ap (λ (z : NewText). z.name) (sym s)))
    ∙ ap (λ (z : NewText). z.bytes) s
with_texts-last (x ∷ texts) m (suc k) t at e = with_texts-last texts (with_text m x.name x.bytes) k t at e

-- at each place: names that get a text from there on have the one of before, others their last one
abbrev pub HasTexts : Texts → Texts → List NewText → ℕ → Type 0
HasTexts old now texts k = (q : List ℕ) → get now q ≡ cond (has_text (drop k texts) q) (get old q) (get (with_texts old texts) q)

pub HasTexts-start : (old : Texts) (texts : List NewText) → HasTexts old old texts 0
HasTexts-start old texts q = by (has_text texts q) refl
  where
    by : (b : Bool) → has_text texts q ≡ b → get old q ≡ cond (has_text texts q) (get old q) (get (with_texts old texts) q)
    by true e = sym (ap (λ c. cond c (get old q) (get (with_texts old texts) q)) e)
    by false e = sym (ap (λ c. cond c (get old q) (get (with_texts old texts) q)) e ∙ with_texts-other texts old q e)

module _ (old now next : Texts) (texts : List NewText) (k : ℕ) (t : NewText) (at : slice_get texts k ≡ Some t) (h : HasTexts old now texts k) (goes : next ≡ cond (has_text (drop (suc k) texts) t.name) now (with_text now t.name t.bytes)) where
  -- from a place on a name gets a text there, or from the next place on
  from_here : (q : List ℕ) → has_text (drop k texts) q ≡ (name_eq q t.name || has_text (drop (suc k) texts) q)
  from_here q = ap (λ ts. has_text ts q) (drop-at texts k t at ∙ ap (λ n. t ∷ drop n texts) (add-one k))

  -- before a name gets its last text it has the one of before
  pub before_last : get now t.name ≡ get old t.name
  before_last = h t.name ∙ ap (λ b. cond b (get old t.name) (get (with_texts old texts) t.name)) (from_here t.name ∙ or_left _ _ (name_eq-refl t.name))

  skipped : has_text (drop (suc k) texts) t.name ≡ true → HasTexts old next texts (suc k)
  skipped later q =
      ap (λ m. get m q) (goes ∙ ap (λ b. cond b now (with_text now t.name t.bytes)) later)
      ∙ h q ∙ ap (λ b. cond b (get old q) (get (with_texts old texts) q)) (from_here q ∙ by (true_or_false (name_eq q t.name)))
    where
      by : (name_eq q t.name ≡ true) ⊎ (name_eq q t.name ≡ false) → (name_eq q t.name || has_text (drop (suc k) texts) q) ≡ has_text (drop (suc k) texts) q
      by (inl same) = ap (λ b. b || has_text (drop (suc k) texts) q) same ∙ sym (ap (has_text (drop (suc k) texts)) (same_name q t.name same) ∙ later)
      by (inr other) = ap (λ b. b || has_text (drop (suc k) texts) q) other

  put_here : has_text (drop (suc k) texts) t.name ≡ false → HasTexts old next texts (suc k)
  put_here last q =
      ap (λ m. get m q) (goes ∙ ap (λ b. cond b now (with_text now t.name t.bytes)) last)
      ∙ get-with_text now t.name t.bytes q ∙ by (true_or_false (name_eq q t.name))
    where
      by : (name_eq q t.name ≡ true) ⊎ (name_eq q t.name ≡ false) → cond (name_eq q t.name) t.bytes (get now q) ≡ cond (has_text (drop (suc k) texts) q) (get old q) (get (with_texts old texts) q)
      by (inl same) =
          ap (λ b. cond b t.bytes (get now q)) same ∙ sym (with_texts-last texts old k t at last)
          ∙ ap (get (with_texts old texts)) (sym (same_name q t.name same))
          ∙ sym (ap (λ b. cond b (get old q) (get (with_texts old texts) q)) (ap (has_text (drop (suc k) texts)) (same_name q t.name same) ∙ last))
      by (inr other) =
          ap (λ b. cond b t.bytes (get now q)) other ∙ h q
          ∙ ap (λ b. cond b (get old q) (get (with_texts old texts) q)) (from_here q ∙ ap (λ b. b || has_text (drop (suc k) texts) q) other)

  pub HasTexts-more : HasTexts old next texts (suc k)
  HasTexts-more = by (true_or_false (has_text (drop (suc k) texts) t.name))
    where
      by : (has_text (drop (suc k) texts) t.name ≡ true) ⊎ (has_text (drop (suc k) texts) t.name ≡ false) → HasTexts old next texts (suc k)
      by (inl later) = skipped later
      by (inr last) = put_here last

  -- a name with a text before and after has one in between
  pub in_between : (q a b : List ℕ) → get old q ≡ Some a → get next q ≡ Some b → (c : List ℕ) × (get now q ≡ Some c)
  in_between q a b ea eb = by (true_or_false (name_eq q t.name)) (true_or_false (has_text (drop (suc k) texts) t.name))
    where
      by : (name_eq q t.name ≡ true) ⊎ (name_eq q t.name ≡ false) → (has_text (drop (suc k) texts) t.name ≡ true) ⊎ (has_text (drop (suc k) texts) t.name ≡ false) → (c : List ℕ) × (get now q ≡ Some c)
      by (inl same) r = let n = same_name q t.name same in (a, ap (get now) n ∙ before_last ∙ ap (get old) (sym n) ∙ ea)
      by (inr other) (inl later) = (b, sym (ap (λ m. get m q) (goes ∙ ap (λ c. cond c now (with_text now t.name t.bytes)) later)) ∙ eb)
      by (inr other) (inr last) =
          (b, sym (ap (λ m. get m q) (goes ∙ ap (λ c. cond c now (with_text now t.name t.bytes)) last) ∙ get-with_text now t.name t.bytes q ∙ ap (λ c. cond c t.bytes (get now q)) other) ∙ eb)

-- past the last place each name has its last text
pub HasTexts-end : (old now : Texts) (texts : List NewText) (k : ℕ) → length texts ≤ k → HasTexts old now texts k → now ≡ with_texts old texts
HasTexts-end old now texts k l h = same_map nat_list_cmp_total (slice_cmp-IsAntisymmetric nat_cmp-IsAntisymmetric) now (with_texts old texts) (λ q.
    h q ∙ ap (λ ts. cond (has_text ts q) (get old q) (get (with_texts old texts) q)) (dropped texts k l))
  where
    dropped : (xs : List NewText) (i : ℕ) → length xs ≤ i → drop i xs ≡ []
    dropped [] zero l = refl
    dropped [] (suc i) l = refl
    dropped (x ∷ xs) zero l = absurd (omega arith)
    dropped (x ∷ xs) (suc i) l = dropped xs i (omega arith)

-- at any place each name has its text of before, or its last one
pub HasTexts-between : (old now : Texts) (texts : List NewText) (k : ℕ) → HasTexts old now texts k → AreBetween old (with_texts old texts) now
HasTexts-between old now texts k h q = by (has_text (drop k texts) q) (h q)
  where
    by : (b : Bool) → get now q ≡ cond b (get old q) (get (with_texts old texts) q) → (get now q ≡ get old q) ⊎ (get now q ≡ get (with_texts old texts) q)
    by true e = inl e
    by false e = inr e

module _ {Own F : Type 0} (own_of : List ℕ → List ℕ → Own) (needs_of : Own → Option (List (List ℕ))) (fact_of : List ℕ → Own → List (List ℕ × State F) → F) where
  -- the slots at each place
  pub record IsUpTo (old now : List (Slot Own F)) (news : List NewText) (k : ℕ) : Type 0 where
    pub sound : AreSound own_of needs_of fact_of now
    pub texts : HasTexts (texts_of old) (texts_of now) news k
    pub carries : CarriesOver old now

  pub IsUpTo-start : (old : List (Slot Own F)) (news : List NewText) → AreSound own_of needs_of fact_of old → IsUpTo old old news 0
  IsUpTo-start old news s = record { sound = s; texts = HasTexts-start (texts_of old) news; carries = carries-same old s.distinct }

  pub IsUpTo-more : (old now next : List (Slot Own F)) (news : List NewText) (k : ℕ) (t : NewText) → AreSound own_of needs_of fact_of old → IsUpTo old now news k → slice_get news k ≡ Some t → AreSound own_of needs_of fact_of next → texts_of next ≡ cond (has_text (drop (suc k) news) t.name) (texts_of now) (with_text (texts_of now) t.name t.bytes) → CarriesOver now next → IsUpTo old next news (suc k)
  IsUpTo-more old now next news k t so u at s goes c = record {
    sound = s;
    texts = HasTexts-more (texts_of old) (texts_of now) (texts_of next) news k t at u.texts goes;
    carries = carries-through old now next u.carries c (λ i j x z p q n.
        let b = in_between (texts_of old) (texts_of now) (texts_of next) news k t at u.texts goes x.name x.bytes z.bytes (text_of-slot old i x so.distinct p) (ap (get (texts_of next)) (sym n) ∙ text_of-slot next j z s.distinct q) in
        let w = slot_with now x.name b.0 b.1 in
        (w.index, w.slot, w.at, w.named));
  }

  -- the same with the next place as the code counts it
  pub IsUpTo-next : (old now next : List (Slot Own F)) (news : List NewText) (k : ℕ) (t : NewText) → AreSound own_of needs_of fact_of old → IsUpTo old now news k → slice_get news k ≡ Some t → AreSound own_of needs_of fact_of next → texts_of next ≡ cond (has_text (drop (k + 1) news) t.name) (texts_of now) (with_text (texts_of now) t.name t.bytes) → CarriesOver now next → IsUpTo old next news (k + 1)
  IsUpTo-next old now next news k t so u at s goes c =
      subst (λ (n : ℕ). IsUpTo old next news n) (sym (add-one k))
      (IsUpTo-more old now next news k t so u at s (subst (λ (n : ℕ). texts_of next ≡ cond (has_text (drop n news) t.name) (texts_of now) (with_text (texts_of now) t.name t.bytes)) (add-one k) goes) c)
