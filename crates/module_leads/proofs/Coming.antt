-- What a table brings, by what its names mean.
use Rattle.std.proofs.Common.{◌≡◌, ℕ, Bool, true, false, List, [], ◌∷◌, ◌++◌, Option, Some, None, refl, ap, ◌∙◌, if◌then◌else◌}
use Rattle.std.specs.Prelude.{◌&&◌, option_map}
use Rattle.std.specs.Option.{option_or}
use Rattle.tla_symbols.specs.declared.op.Op.{Op}
use Rattle.tla_model.specs.declared.entity.Entity.TheVariants as entity
use Rattle.tla_model.specs.declared.names.Meaning.TheVariants.{BuiltIn, Declared}
use Rattle.tla_model.specs.Entities.{Meaning, same_meaning}
use Rattle.tla_model.specs.EntityKinds.{is_meant, stands_behind}
use Rattle.tla_model.specs.Meant.{is_behind, word_meaning}
use Rattle.tla_model.specs.Tables.{Named, Table, Word, Symbol}
use Rattle.module_model.specs.Exports.{Exports, exports_of, instantiable, of_symbols, of_words}
use Rattle.tree_kinds.specs.Standing.{is_bound}
use Rattle.tree_kinds.proofs.Standings.{bound-apart, free-standing}
use Rattle.module_leads.specs.declared.ways.Way.TheVariants as way
use Rattle.module_leads.specs.Brought.{name_meaning, symbol_meaning}
use Rattle.module_leads.specs.Layers.{brought_way}
use Rattle.module_leads.specs.Ways.{name_as}

-- what can be named behind an instance is not bound
behind-free : (meaning : Meaning) → is_meant stands_behind meaning ≡ true → is_bound meaning ≡ false
behind-free BuiltIn behind = cc
behind-free (Declared (entity.Definition orders) callee) behind = refl
behind-free (Declared (entity.Instance orders) callee) behind = refl
behind-free (Declared (entity.Bound state) callee) behind = cc
behind-free (Declared e callee) behind = cc

module _ (j : ℕ) (face : Option ℕ) (other : Meaning) where
  -- the way through this name
  abbrev pub by_name : Named → way.the_data
  by_name name = way.Through j face (name_as name)

  abbrev pub way_or : Bool → Named → Option way.the_data → Option way.the_data
  way_or b name rest = if b then Some (by_name name) else rest

  -- a bound name is brought by nothing
  pub none-bound : is_bound other ≡ true → (entries : Exports) → brought_way (instantiable entries) j face other ≡ None
  none-bound bound [] = refl
  none-bound bound (entry ∷ entries) = by (is_meant stands_behind entry.1) refl (none-bound bound entries)
    where
      by : (b : Bool) → is_meant stands_behind entry.1 ≡ b → brought_way (instantiable entries) j face other ≡ None
          → brought_way (if b then entry ∷ instantiable entries else instantiable entries) j face other ≡ None
      by true behind rest = ap (λ (c : Bool). way_or c entry.0 (brought_way (instantiable entries) j face other)) (bound-apart other entry.1 bound (behind-free entry.1 behind)) ∙ rest
      by false behind rest = rest

  -- an entry is brought where it can be named behind an instance and means the same
  entry-comes : is_bound other ≡ false → (entry : Named × Meaning) (entries : Exports)
      → brought_way (instantiable (entry ∷ entries)) j face other ≡ way_or (is_behind other entry.1) entry.0 (brought_way (instantiable entries) j face other)
  entry-comes free entry entries = by (is_meant stands_behind entry.1) refl
    where
      by : (b : Bool) → is_meant stands_behind entry.1 ≡ b
          → brought_way (if b then entry ∷ instantiable entries else instantiable entries) j face other ≡ way_or (b && same_meaning other entry.1) entry.0 (brought_way (instantiable entries) j face other)
      by true behind = ap (λ (c : Bool). way_or c entry.0 (brought_way (instantiable entries) j face other)) (free-standing other entry.1 free (behind-free entry.1 behind))
      by false behind = refl

  abbrev pub found_word : Option (List ℕ × Meaning) → Option way.the_data
  found_word found = option_map (λ (entry : List ℕ × Meaning). by_name (Word entry.0)) found

  words-come : is_bound other ≡ false → (words : List (List ℕ × Meaning)) (more : Exports)
      → brought_way (instantiable (of_words words ++ more)) j face other ≡ option_or (found_word (word_meaning words other)) (brought_way (instantiable more) j face other)
  words-come free [] more = refl
  words-come free (word ∷ words) more = entry-comes free (Word word.0, word.1) (of_words words ++ more) ∙ by (is_behind other word.1) (words-come free words more)
    where
      by : (b : Bool) → brought_way (instantiable (of_words words ++ more)) j face other ≡ option_or (found_word (word_meaning words other)) (brought_way (instantiable more) j face other)
          → way_or b (Word word.0) (brought_way (instantiable (of_words words ++ more)) j face other) ≡ option_or (found_word (if b then Some word else word_meaning words other)) (brought_way (instantiable more) j face other)
      by true rest = refl
      by false rest = rest

  abbrev pub found_symbol : Option Op → Option way.the_data
  found_symbol found = option_map (λ op. by_name (Symbol op)) found

  symbols-come : is_bound other ≡ false → (symbols : List (Op × Meaning)) → brought_way (instantiable (of_symbols symbols)) j face other ≡ found_symbol (symbol_meaning symbols other)
  symbols-come free [] = refl
  symbols-come free (symbol ∷ symbols) = entry-comes free (Symbol symbol.0, symbol.1) (of_symbols symbols) ∙ by (is_behind other symbol.1) (symbols-come free symbols)
    where
      by : (b : Bool) → brought_way (instantiable (of_symbols symbols)) j face other ≡ found_symbol (symbol_meaning symbols other)
          → way_or b (Symbol symbol.0) (brought_way (instantiable (of_symbols symbols)) j face other) ≡ found_symbol (if b then Some symbol.0 else symbol_meaning symbols other)
      by true rest = refl
      by false rest = rest

  named : (word : Option (List ℕ × Meaning)) (symbol : Option Op)
      → option_or (found_word word) (found_symbol symbol) ≡ option_map by_name (option_or (option_map (λ (entry : List ℕ × Meaning). Word entry.0) word) (option_map (λ op. Symbol op) symbol))
  named (Some word) symbol = refl
  named None (Some op) = refl
  named None None = refl

  -- a table brings what a name of it means
  pub table-comes : is_bound other ≡ false → (table : Table Meaning) → brought_way (instantiable (exports_of table)) j face other ≡ option_map by_name (name_meaning table other)
  table-comes free table =
      words-come free table.words (of_symbols table.symbols)
      ∙ ap (option_or (found_word (word_meaning table.words other))) (symbols-come free table.symbols)
      ∙ named (word_meaning table.words other) (symbol_meaning table.symbols other)
