-- Trees that are kept of modules, one after another.
use Rattle.std.proofs.Common.{◌≡◌, ◌<◌, ℕ, ◌+◌, List, [], ◌∷◌, ◌++◌, Some, None, ap, arith, inl, inr, subst, sym, take, ◌∙◌}
use Rattle.std.specs.Prelude.{Contains, slice_get}
use Rattle.std.specs.List.{All}
use Rattle.std.proofs.lemmas.List.{map-append, take_more}
use Rattle.std.proofs.lemmas.List.Elements.{Contains-append_left, Contains-append_right}
use Rattle.std.proofs.lemmas.Option.{get_or_from_slice_get, slice_get_within}
use Rattle.tla_tree.specs.declared.unit.ModuleTree.{ModuleTree}
use Rattle.list_laws.proofs.Lists.{at-map}
use Rattle.family_facts.proofs.Lists.{contains-at, contains-pushed, here}
use Rattle.family_tables.specs.Keeping.{AreRead, IsRead}
use Rattle.family_tables.specs.Modules.{Entry, IsReading}
use Rattle.family_tables.specs.Outcomes.{IsSomeModule}
use Rattle.family_tables.specs.Plans.{AreOnce}
use Rattle.family_tables.specs.Tables.{entry_of, names_in}
use Rattle.family_tables.specs.declared.reading.Module.{Module}
use Rattle.family_tables.specs.declared.reading.Reading.TheVariants as reading
use Rattle.family_tables.proofs.Indices.{at-taken}
use Rattle.family_tables.proofs.Ordered.{found-more}
use Rattle.family_tables.proofs.Tabling.{entry-none}

-- each tree has one of these names
abbrev pub AreNamesOf : List (List ℕ) → List (List ℕ × ModuleTree) → Type 0
AreNamesOf names trees = (name : List ℕ) → Contains (names_in trees) name → Contains names name

-- the module at an index, behind the trees of those before it
module _ (modules : List Entry) (i : ℕ) (name : List ℕ) (m : Module) (at : slice_get modules i ≡ Some (name, m)) (trees : List (List ℕ × ModuleTree)) (named : AreNamesOf (take i (names_in modules)) trees) where
  name-at : slice_get (names_in modules) i ≡ Some name
  name-at = at-map (λ (entry : Entry). entry.0) modules i (name, m) at

  names-more : take (i + 1) (names_in modules) ≡ take i (names_in modules) ++ name ∷ []
  names-more = take_more (names_in modules) i name (slice_get_within (names_in modules) i name name-at) ∙ ap (λ n. take i (names_in modules) ++ n ∷ []) (get_or_from_slice_get (names_in modules) i name name name-at)

  -- it has none yet
  pub tree-fresh : AreOnce (names_in modules) → entry_of trees name ≡ None
  tree-fresh once = entry-none trees name (λ c.
      let k = contains-at (take i (names_in modules)) name (named name c) in
      let before = at-taken i (names_in modules) k.0 name k.1 in
      let place : k.0 ≡ i = once k.0 i name before.0 name-at in
      let less : k.0 < i = before.1 in
      absurd (omega (arith, place, less)))

  -- with one of it, or with none
  pub named-more : (more : List (List ℕ × ModuleTree)) (tree : ModuleTree) → more ≡ trees ++ (name, tree) ∷ [] → AreNamesOf (take (i + 1) (names_in modules)) more
  named-more more tree is other c =
      let names : names_in more ≡ names_in trees ++ name ∷ [] = ap names_in is ∙ map-append (λ (x : List ℕ × ModuleTree). x.0) trees ((name, tree) ∷ []) in
      subst (λ ns. Contains ns other) (sym names-more) (elim (contains-pushed (names_in trees) name other (subst (λ ns. Contains ns other) names c)) as (λ _. Contains (take i (names_in modules) ++ name ∷ []) other) [
        | inl before ↦ Contains-append_left (take i (names_in modules)) (name ∷ []) other (named other before)
        | inr last ↦ subst (Contains (take i (names_in modules) ++ name ∷ [])) last (Contains-append_right (take i (names_in modules)) (name ∷ []) name (here name []))
      ])

  pub named-still : AreNamesOf (take (i + 1) (names_in modules)) trees
  named-still other c = subst (λ ns. Contains ns other) (sym names-more) (Contains-append_left (take i (names_in modules)) (name ∷ []) other (named other c))

  -- its tree was read
  pub read-more : AreOnce (names_in modules) → All (λ (entry : Entry). IsSomeModule entry.0 entry.1) modules → AreRead trees → (tree : ModuleTree) → m.reading ≡ reading.Tree tree → (more : List (List ℕ × ModuleTree)) → more ≡ trees ++ (name, tree) ∷ [] → AreRead more
  read-more once all read tree is more new =
      let some : IsSomeModule name m = subst (λ (entry : Entry). IsSomeModule entry.0 entry.1) (get_or_from_slice_get modules i (name, m) (name, m) at) (all i (name, m) (slice_get_within modules i (name, m) at)) in
      found-more IsRead trees more name tree (tree-fresh once) new (some.0, subst (IsReading name some.0) is some.1.reading) read
