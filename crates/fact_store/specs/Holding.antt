-- What a store shows of itself.
use Rattle.std.specs.Prelude.{◌≡◌, ◌⊎◌, ℕ, Bool, List, [], ◌∷◌, Option, Some, None, refl}
use Rattle.std.specs.List.{list_any}
use Rattle.std.specs.Coded.{Coded, code_by, coded×, coded_list, coded_ℕ}
use Rattle.std.specs.FinMap.{get, insert, remove}
use Rattle.std.specs.FinMap as map
use Rattle.fact_values.specs.Names.{name_eq, Texts}
use Rattle.fact_store.specs.declared.given.NewText.{NewText}

-- the texts, and for how many names no fact was made from them as they are
pub record Holding : Type 0 where
  pub texts : Texts
  pub owed : ℕ

-- stored as the pair of its fields
abbrev pub holding_code : Coded Holding
holding_code =
    code_by (Texts × ℕ) (coded× (map.code (coded_list coded_ℕ) (coded_list coded_ℕ)) coded_ℕ) (λ h. (h.texts, h.owed)) (λ p. record { texts = p.0; owed = p.1 }) (λ _. refl)

-- the texts after a name gets these bytes, or none
abbrev pub with_text : Texts → List ℕ → Option (List ℕ) → Texts
with_text texts name None = remove texts name
with_text texts name (Some bytes) = insert texts name bytes

-- the texts after these names got theirs, one after another
abbrev pub with_texts : Texts → List NewText → Texts
with_texts texts [] = texts
with_texts texts (new ∷ rest) = with_texts (with_text texts new.name new.bytes) rest

-- whether one of these is of this name
abbrev pub has_text : List NewText → List ℕ → Bool
has_text texts name = list_any (λ new. name_eq name new.name) texts

-- each name has its first text or its last one, or none where it has none there
abbrev pub AreBetween : Texts → Texts → Texts → Type 0
AreBetween first last now = (name : List ℕ) → (get now name ≡ get first name) ⊎ (get now name ≡ get last name)
