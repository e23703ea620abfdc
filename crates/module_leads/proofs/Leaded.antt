-- What layers say, as what is known of names.
use Rattle.std.proofs.Common.{◌≡◌, ℕ, suc, Bool, true, false, List, [], ◌∷◌, Option, Some, refl, ap, ◌∙◌, if◌then◌else◌}
use Rattle.std.specs.Prelude.{option_map, unwrap_or}
use Rattle.std.specs.Option.{option_or}
use Rattle.tla_model.specs.declared.entity.Entity.TheVariants as entity
use Rattle.tla_model.specs.declared.names.Meaning.TheVariants.{BuiltIn, Declared}
use Rattle.tla_model.specs.Entities.{Meaning}
use Rattle.tla_model.specs.Tables.{Named, Word, Symbol}
use Rattle.module_model.specs.Exports.{Exports}
use Rattle.tree_names.specs.declared.parameter.Name.TheVariants as name
use Rattle.tree_names.specs.Parameters.{named_in}
use Rattle.tree_kinds.specs.Standing.{name_among, same_standing}
use Rattle.flat_trees.specs.Layouts.{order_of}
use Rattle.flat_kinds.specs.Symbols.{same_symbol}
use Rattle.flattened_trees.specs.declared.End.TheVariants as end
use Rattle.flattened_trees.specs.Leads.{FlatFace, Lead, Leads, nowhere, only, through, with_lead, with_leads}
use Rattle.flattened_units.specs.Units.{coming_lead, no_leads, with_brought, with_symbols}
use Rattle.module_leads.specs.declared.ways.Way.TheVariants as way
use Rattle.module_leads.specs.Layers.{brought_way, leads_by, put_ways, symbol_among}
use Rattle.module_leads.specs.Ways.{face_at, name_as, unsaid_way, way_lead}

-- ---- nothing

nowhere-only : (names : List Named) → only end.Nowhere names ≡ nowhere
nowhere-only [] = refl
nowhere-only (name ∷ names) = refl

unsaid-lead : (faces : ℕ → FlatFace) (meaning : Meaning) (names : List Named) → way_lead faces (unsaid_way meaning) names ≡ no_leads meaning names
unsaid-lead faces BuiltIn names = refl
unsaid-lead faces (Declared (entity.Bound state) callee) names = refl
unsaid-lead faces (Declared e callee) names = nowhere-only names

pub unsaid-leads : (faces : ℕ → FlatFace) → leads_by faces unsaid_way ≡ no_leads
unsaid-leads faces = λ i meaning names. unsaid-lead faces meaning names i

-- a name is held as it is
pub name-held : (name : Named) → named_in (name_as name) ≡ name
name-held (Word bytes) = refl
name-held (Symbol op) = refl

pub held-name : (word : name.the_data) → name_as (named_in word) ≡ word
held-name (name.Word bytes) = refl
held-name (name.Symbol op) = refl

-- ---- ways over others

module _ (faces : ℕ → FlatFace) (below : Meaning → way.the_data) where
  -- where meanings lead by some ways, and else by others
  abbrev pub over : (Meaning → Option way.the_data) → Leads
  over ways meaning names = way_lead faces (unwrap_or (ways meaning) (below meaning)) names

  -- with one way more
  over-more : (ways : Meaning → Option way.the_data) (meaning : Meaning) (way : way.the_data) (lead : List Named → Lead) → ((names : List Named) → way_lead faces way names ≡ lead names)
      → over (λ other. if same_standing other meaning then Some way else ways other) ≡ with_lead (over ways) meaning lead
  over-more ways meaning way lead leads = λ i other names. by other names (same_standing other meaning) i
    where
      by : (other : Meaning) (names : List Named) (b : Bool) →
          way_lead faces (unwrap_or (if b then Some way else ways other) (below other)) names ≡ (if b then lead names else way_lead faces (unwrap_or (ways other) (below other)) names)
      by other names true = leads names
      by other names false = refl

  -- with the same for each of these
  pub over-all : (meanings : List Meaning) (ways : Meaning → Option way.the_data) (way : way.the_data) (lead : List Named → Lead) → ((names : List Named) → way_lead faces way names ≡ lead names)
      → over (put_ways meanings way ways) ≡ with_leads (over ways) meanings lead
  over-all [] ways way lead leads = refl
  over-all (meaning ∷ rest) ways way lead leads =
      over-all rest (λ other. if same_standing other meaning then Some way else ways other) way lead leads
      ∙ ap (λ (l : Leads). with_leads l rest lead) (over-more ways meaning way lead leads)

  -- with entries of a module
  brought-lead : (entries : Exports) (j : ℕ) (face : Option ℕ) (ways : Meaning → Option way.the_data) (meaning : Meaning) (names : List Named)
      → over (λ other. option_or (brought_way entries j face other) (ways other)) meaning names ≡ with_brought (over ways) entries j (face_at faces face) meaning names
  brought-lead [] j face ways meaning names = refl
  brought-lead (entry ∷ rest) j face ways meaning names = by (same_standing meaning entry.1) (brought-lead rest j face ways meaning names)
    where
      by : (b : Bool) → over (λ other. option_or (brought_way rest j face other) (ways other)) meaning names ≡ coming_lead j (face_at faces face) (over ways meaning names) names (name_among rest meaning) →
          way_lead faces (unwrap_or (option_or (if b then Some (way.Through j face (name_as entry.0)) else brought_way rest j face meaning) (ways meaning)) (below meaning)) names
          ≡ coming_lead j (face_at faces face) (over ways meaning names) names (if b then Some entry.0 else name_among rest meaning)
      by true known = ap (λ name. through j ((face_at faces face).leads (name ∷ names))) (name-held entry.0)
      by false known = known

  pub over-brought : (entries : Exports) (j : ℕ) (face : Option ℕ) (ways : Meaning → Option way.the_data)
      → over (λ other. option_or (brought_way entries j face other) (ways other)) ≡ with_brought (over ways) entries j (face_at faces face)
  over-brought entries j face ways = λ i meaning names. brought-lead entries j face ways meaning names i

  -- with symbols
  symbol-lead : (own : List Meaning) (place : ℕ) (meaning : Meaning) (names : List Named)
      → over (λ other. option_map (λ e. way.To e) (symbol_among own place other)) meaning names ≡ with_symbols (leads_by faces below) own place meaning names
  symbol-lead [] place meaning names = refl
  symbol-lead (symbol ∷ rest) place meaning names = by (same_symbol meaning symbol) (symbol-lead rest (suc place) meaning names)
    where
      by : (b : Bool) → over (λ other. option_map (λ e. way.To e) (symbol_among rest (suc place) other)) meaning names ≡ with_symbols (leads_by faces below) rest (suc place) meaning names →
          way_lead faces (unwrap_or (option_map (λ e. way.To e) (if b then Some (end.Place place (order_of symbol)) else symbol_among rest (suc place) meaning)) (below meaning)) names
          ≡ (if b then only (end.Place place (order_of symbol)) names else with_symbols (leads_by faces below) rest (suc place) meaning names)
      by true known = refl
      by false known = known

  pub over-symbols : (own : List Meaning) (place : ℕ) → over (λ other. option_map (λ e. way.To e) (symbol_among own place other)) ≡ with_symbols (leads_by faces below) own place
  over-symbols own place = λ i meaning names. symbol-lead own place meaning names i
