-- What the rows of modules tell of a use is what the texts of their family do.
use Rattle.std.proofs.Common.{◌≡◌, ℕ, Bool, true, false, cond, List, [], ◌∷◌, Some, refl, sym, ap, ◌∙◌, map, subst}
use Rattle.std.specs.Prelude.{unwrap_or}
use Rattle.std.specs.Cmp.Lexicographic.{nat_list_cmp_total}
use Rattle.std.specs.FinMap.{find, get-from_entries}
use Rattle.std.specs.Str.{bytes_eq}
use Rattle.list_laws.proofs.Texts.{same-text, text-itself}
use Rattle.tla_model.specs.declared.entity.Use.{Use}
use Rattle.unit_grammar.specs.UnitNodes.{module_of}
use Rattle.front_laws.specs.Fronts.{Tree, Fault}
use Rattle.fact_values.specs.Names.{name_cmp, name_eq}
use Rattle.fact_values.proofs.NameLemmas.{name_eq-same, same_name}
use Rattle.family_facts.specs.Facts.{texts_of}
use Rattle.family_facts.specs.Family.{Member}
use Rattle.family_facts.specs.Fronts.{front_of}
use Rattle.family_facts.proofs.Needing.{HasNoOther}
use Rattle.family_facts.proofs.States.{front-one}
use Rattle.family_tables.specs.Modules.{AreModules, Entry, IsReading}
use Rattle.family_tables.specs.Tables.{entry_of}
use Rattle.family_tables.specs.declared.reading.Reading.TheVariants as reading
use Rattle.fact_lines.specs.Rows.{line_by, place_by, places_in, row_of}
use Rattle.fact_lines.specs.Lines.{declared_front, declared_place, declared_text, fact_line, place_among, places_of}

-- the texts of members, under their names
abbrev texts_in : List Member → List (List ℕ × List ℕ)
texts_in family = map (λ (m : Member). (m.name, m.bytes)) family

module _ (one : HasNoOther) (name : List ℕ) (place : ℕ) where
  -- what was read of a text declares what its front does
  read-declares : (bytes : List ℕ) (r : reading.the_data) → IsReading name bytes r → place_among (places_in r) place ≡ declared_front bytes place (front_of name bytes)
  read-declares bytes (reading.Tree tree) is =
      ap (λ source. place_among (places_of source (module_of tree)) place) is.source
      ∙ ap (declared_front bytes place) (sym (front-one one (record { name = name; bytes = bytes }) (Tree (module_of tree)) is.front))
  read-declares bytes (reading.Fault fault) is = ap (declared_front bytes place) (sym (front-one one (record { name = name; bytes = bytes }) (Fault fault) is.0))

  -- the first row of the name declares what the first member of the name does
  first-declares : (family : List Member) (modules : List Entry) → AreModules family modules → place_by (map row_of modules) name place ≡ declared_text name place (find name_cmp name (texts_in family))
  first-declares [] [] are = refl
  first-declares [] (entry ∷ modules) are = absurd are
  first-declares (m ∷ family) [] are = absurd are
  first-declares (m ∷ family) (entry ∷ modules) are = by (bytes_eq name entry.0) (name_eq name m.name) refl refl (first-declares family modules are.1)
    where
      by : (a b : Bool) → bytes_eq name entry.0 ≡ a → name_eq name m.name ≡ b → place_by (map row_of modules) name place ≡ declared_text name place (find name_cmp name (texts_in family)) →
          place_among (unwrap_or (cond a (Some (places_in entry.1.reading)) (entry_of (map row_of modules) name)) []) place ≡ declared_text name place (cond b (Some m.bytes) (find name_cmp name (texts_in family)))
      by true true t s rest = read-declares m.bytes entry.1.reading (subst (λ n. IsReading n m.bytes entry.1.reading) (sym (same-text name entry.0 t)) are.0.is.reading)
      by true false t s rest = let k : true ≡ false = sym (name_eq-same name m.name (same-text name entry.0 t ∙ are.0.named)) ∙ s in cc
      by false true t s rest = let k : true ≡ false = sym (text-itself name entry.0 (same_name name m.name s ∙ sym are.0.named)) ∙ t in cc
      by false false t s rest = rest

-- where a name is declared
place-tells : HasNoOther → (family : List Member) (modules : List Entry) → AreModules family modules → (name : List ℕ) (place : ℕ) → place_by (map row_of modules) name place ≡ declared_place (texts_of family) name place
place-tells one family modules are name place = first-declares one name place family modules are ∙ ap (declared_text name place) (sym (get-from_entries nat_list_cmp_total (texts_in family) name))

-- and the use with it
pub line-tells : HasNoOther → (family : List Member) (modules : List Entry) → AreModules family modules → (u : Use) → line_by (map row_of modules) u ≡ fact_line (texts_of family) u
line-tells one family modules are u = λ i. record { name = u.name; «module» = u.«module»; declared = place-tells one family modules are u.«module» u.place i; level = u.level }
