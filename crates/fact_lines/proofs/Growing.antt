-- Rows of modules that stand once each, module by module.
use Rattle.std.proofs.Common.{◌≡◌, ◌<◌, ◌+◌, ℕ, List, [], ◌∷◌, ◌++◌, Some, None, refl, sym, ap, ◌∙◌, map, take, arith, subst}
use Rattle.std.specs.Prelude.{Contains, slice_get}
use Rattle.std.specs.List.{All}
use Rattle.std.proofs.lemmas.List.{map_more, take-map}
use Rattle.std.proofs.lemmas.List.Elements.{All-contains}
use Rattle.std.proofs.lemmas.Option.{get_or_from_slice_get, slice_get_within}
use Rattle.list_laws.proofs.Lists.{at-map}
use Rattle.tla_text.specs.declared.Place.{Place}
use Rattle.family_facts.proofs.Lists.{at-contains, contains-at}
use Rattle.family_tables.specs.Modules.{Entry}
use Rattle.family_tables.specs.Outcomes.{IsSomeModule}
use Rattle.family_tables.specs.Plans.{AreOnce}
use Rattle.family_tables.specs.Tables.{entry_of, names_in}
use Rattle.family_tables.proofs.Indices.{at-taken}
use Rattle.family_tables.proofs.Tabling.{entry-none}
use Rattle.fact_lines.specs.Rows.{places_in, row_of}

-- rows have the names of their modules
rows-named : (modules : List Entry) → names_in (map row_of modules) ≡ names_in modules
rows-named [] = refl
rows-named (entry ∷ modules) = ap (λ (names : List (List ℕ)). entry.0 ∷ names) (rows-named modules)

module _ (modules : List Entry) (i : ℕ) (entry : Entry) (at : slice_get modules i ≡ Some entry) where
  -- a module among some that were read was read
  pub entry-read : All (λ (e : Entry). IsSomeModule e.0 e.1) modules → IsSomeModule entry.0 entry.1
  entry-read all = All-contains (λ (e : Entry). IsSomeModule e.0 e.1) modules entry all (at-contains modules i entry at)

  module _ (rows : List (List ℕ × List Place)) (are : rows ≡ map row_of (take i modules)) where
    -- none of the rows before a module has its name
    pub row-fresh : AreOnce (names_in modules) → entry_of rows entry.0 ≡ None
    row-fresh once = entry-none rows entry.0 (λ there.
        let named : names_in rows ≡ take i (names_in modules) = ap names_in are ∙ (rows-named (take i modules) ∙ sym (take-map (λ (e : Entry). e.0) i modules)) in
        let before = contains-at (take i (names_in modules)) entry.0 (subst (λ names. Contains names entry.0) named there) in
        let taken = at-taken i (names_in modules) before.0 entry.0 before.1 in
        let same : before.0 ≡ i = once before.0 i entry.0 taken.0 (at-map (λ (e : Entry). e.0) modules i entry at) in
        let less : before.0 < i = taken.1 in
        absurd (omega (arith, same, less)))

    -- with its row behind them they are those of one module more
    pub row-more : (rows' : List (List ℕ × List Place)) (places : List Place) → places ≡ places_in entry.1.reading → rows' ≡ rows ++ (entry.0, places) ∷ [] → rows' ≡ map row_of (take (i + 1) modules)
    row-more rows' places is grown =
        grown ∙ ((λ j. are j ++ (entry.0, is j) ∷ [])
        ∙ sym (map_more row_of modules i entry (slice_get_within modules i entry at) ∙ ap (λ e. map row_of (take i modules) ++ row_of e ∷ []) (get_or_from_slice_get modules i entry entry at)))
