-- A module that is meant is what is asked of one that a tree names.
use Rattle.std.proofs.Common.{◌≡◌, inl, inr, ℕ, ◌+◌, Bool, true, false, cond, List, [], ◌∷◌, Option, Some, map, refl, sym, ap, ◌∙◌, subst, length, arith}
use Rattle.std.specs.Prelude.{◌⊎◌, ◌||◌, filter, not}
use Rattle.std.specs.List.{AllByRecursion}
use Rattle.unit_grammar.specs.Units.{ModuleUnits}
use Rattle.tla_model.specs.declared.entity.Entity.TheVariants as entity
use Rattle.tla_model.specs.declared.names.Meaning.TheVariants.{BuiltIn, Declared}
use Rattle.tla_model.specs.Entities.{Meaning, Text}
use Rattle.tla_model.specs.EntityKinds.{is_meant, stands_for_parameter}
use Rattle.tla_model.specs.Tables.{Named, has, same_named}
use Rattle.module_model.specs.Exports.{Exports, behind_instance, entry_of, exports_of, onward, parameters_in}
use Rattle.module_model.specs.Modules.{Reading, text_of}
use Rattle.module_model.specs.Resolution.{ReadState, exports_in, words_of}
use Rattle.kind_text.specs.FlatModule.{FlatModule}
use Rattle.tree_kinds.specs.Standing.{Outside, is_bound, same_standing}
use Rattle.tree_kinds.proofs.Standings.{bound-apart}
use Rattle.module_kinds.specs.ModuleKinds.{KindState, first, last, nested_outside, outside, views}
use Rattle.flat_trees.specs.Stands.{Stand, Unsaid}
use Rattle.flat_trees.specs.Layouts.{Layout}
use Rattle.flat_trees.specs.Instances.{IsModule, symbols_of, with_symbols}
use Rattle.flat_trees.proofs.Meanings.{named-equal, named-itself}
use Rattle.flat_kinds.specs.Declarations.{IsOnce}
use Rattle.flat_kinds.specs.Readings.{KeepsState, exported_stand, is_among, with_own}
use Rattle.flat_kinds.specs.Symbols.{AreDistinct, SaysNothing, symbols_at}
use Rattle.flat_kinds.proofs.Declarations.{read-same}
use Rattle.flat_kinds.proofs.Distinct.{HaveOwnNames, words-own}
use Rattle.flat_kinds.proofs.Symbols.{module-by_less, own-less, own-symbols, symbols-at-less}
use Rattle.flat_kinds.proofs.Units.{state-exported}
use Rattle.flattened_trees.specs.Agreeing.{TakesBehind, unsaid_stand}
use Rattle.flattened_trees.specs.Leads.{FlatFace, Lead, Leads, Setting}
use Rattle.flattened_units.specs.Units.{Reader, exported_leads, nested_face}
use Rattle.module_meanings.specs.Faces.{IsFaceBy, LeadsAs, LeavesLead}
use Rattle.module_meanings.specs.Following.{IsMeantSo, LeadsBy}
use Rattle.module_meanings.proofs.Leads.{exported-lead}
use Rattle.module_meanings.proofs.NestedFaces.{IsExtendable}
use Rattle.module_meanings.proofs.Staying.{IsLeafName, leaf-or-unsaid}

-- ---- symbols

parameter-free : (m : Meaning) → is_meant stands_for_parameter m ≡ true → is_bound m ≡ false
parameter-free BuiltIn is = refl
parameter-free (Declared (entity.Bound state) x) is = cc is
parameter-free (Declared e x) is = refl

-- a leaf stands as no symbol
leaf-other : (m s : Meaning) → IsLeafName m → is_meant stands_for_parameter s ≡ true → same_standing m s ≡ false
leaf-other m BuiltIn (inl same) is = cc is
leaf-other m (Declared e x) (inl same) is = ap (λ n. same_standing n (Declared e x)) same
leaf-other m s (inr bound) is = bound-apart m s bound (parameter-free s is)

-- entries of constants and variables
abbrev AreParameters : Exports → Type 0
AreParameters entries = AllByRecursion (λ (entry : Named × Meaning). is_meant stands_for_parameter entry.1 ≡ true) entries

kept-parameters : (keep : Named × Meaning → Bool) (entries : Exports) → AreParameters entries → AreParameters (filter keep entries)
kept-parameters keep [] all = tt
kept-parameters keep (entry ∷ rest) all = by_kept (keep entry) (kept-parameters keep rest all.1)
  where
    by_kept : (b : Bool) → AreParameters (filter keep rest) → AreParameters (cond b (entry ∷ filter keep rest) (filter keep rest))
    by_kept true others = (all.0, others)
    by_kept false others = others

are-parameters : (entries : Exports) → AreParameters (parameters_in entries)
are-parameters [] = tt
are-parameters (entry ∷ rest) = by_kind (is_meant stands_for_parameter entry.1) refl (are-parameters rest)
  where
    by_kind : (b : Bool) → is_meant stands_for_parameter entry.1 ≡ b → AreParameters (parameters_in rest) → AreParameters (cond b (entry ∷ parameters_in rest) (parameters_in rest))
    by_kind true is others = (is, others)
    by_kind false is others = others

-- where nothing is said but of leaves, nothing is said of what stands as a symbol
symbols-unsaid : (entries : Exports) → AreParameters entries → SaysNothing unsaid_stand (map (λ (entry : Named × Meaning). entry.1) entries)
symbols-unsaid [] all other among = cc among
symbols-unsaid (entry ∷ rest) all other among = by_same (same_standing other entry.1) refl among (symbols-unsaid rest all.1 other)
  where
    by_leaf : same_standing other entry.1 ≡ true → IsLeafName other ⊎ (unsaid_stand other ≡ Unsaid) → unsaid_stand other ≡ Unsaid
    by_leaf same (inl leaf) = let never : true ≡ false = sym same ∙ leaf-other other entry.1 leaf all.0 in absurd (cc never)
    by_leaf same (inr nothing) = nothing

    by_same : (b : Bool) → same_standing other entry.1 ≡ b → (b || is_among (map (λ (e : Named × Meaning). e.1) rest) other) ≡ true → (is_among (map (λ (e : Named × Meaning). e.1) rest) other ≡ true → unsaid_stand other ≡ Unsaid) → unsaid_stand other ≡ Unsaid
    by_same true same is others = by_leaf same (leaf-or-unsaid other)
    by_same false same is others = others is

-- ---- names of their own

-- each of these entries is found by its name
abbrev AreFound : Exports → Exports → Type 0
AreFound all entries = AllByRecursion (λ (entry : Named × Meaning). entry_of all entry.0 ≡ Some entry.1) entries

found-behind : (entry : Named × Meaning) (all rest : Exports) → AllByRecursion (λ (other : Named × Meaning). entry.0 ≡ other.0 → ⊥) rest → AreFound all rest → AreFound (entry ∷ all) rest
found-behind entry all [] apart found = tt
found-behind entry all (other ∷ rest) apart found = (by_name (same_named other.0 entry.0) refl, found-behind entry all rest apart.1 found.1)
  where
    by_name : (b : Bool) → same_named other.0 entry.0 ≡ b → cond b (Some entry.1) (entry_of all other.0) ≡ Some other.1
    by_name true is = absurd (apart.0 (sym (named-equal other.0 entry.0 is)))
    by_name false is = found.0

own-found : (entries : Exports) → HaveOwnNames entries → AreFound entries entries
own-found [] own = tt
own-found (entry ∷ rest) own =
    (ap (λ b. cond b (Some entry.1) (entry_of rest entry.0)) (named-itself entry.0), found-behind entry rest rest own.0 (own-found rest own.1))

-- those that are kept have names of their own
kept-apart : (keep : Named × Meaning → Bool) (name : Named) (entries : Exports) → AllByRecursion (λ (other : Named × Meaning). name ≡ other.0 → ⊥) entries → AllByRecursion (λ (other : Named × Meaning). name ≡ other.0 → ⊥) (filter keep entries)
kept-apart keep name [] all = tt
kept-apart keep name (entry ∷ rest) all = by_kept (keep entry) (kept-apart keep name rest all.1)
  where
    by_kept : (b : Bool) → AllByRecursion (λ (other : Named × Meaning). name ≡ other.0 → ⊥) (filter keep rest) → AllByRecursion (λ (other : Named × Meaning). name ≡ other.0 → ⊥) (cond b (entry ∷ filter keep rest) (filter keep rest))
    by_kept true others = (all.0, others)
    by_kept false others = others

kept-own : (keep : Named × Meaning → Bool) (entries : Exports) → HaveOwnNames entries → HaveOwnNames (filter keep entries)
kept-own keep [] own = tt
kept-own keep (entry ∷ rest) own = by_kept (keep entry) (kept-own keep rest own.1)
  where
    by_kept : (b : Bool) → HaveOwnNames (filter keep rest) → HaveOwnNames (cond b (entry ∷ filter keep rest) (filter keep rest))
    by_kept true others = (kept-apart keep entry.0 rest own.0, others)
    by_kept false others = others

pub table-own : (state : ReadState) → IsOnce state.place.here.exports → HaveOwnNames (exports_of state.place.here.exports)
table-own state once = words-own state.place.here.exports.words state.place.here.exports.symbols once.0 once.1

-- the parameters of a module are found by their names
parameters-found : (state : ReadState) → IsOnce state.place.here.exports → AreFound (parameters_in (exports_of state.place.here.exports)) (parameters_in (exports_of state.place.here.exports))
parameters-found state once =
    own-found (parameters_in (exports_of state.place.here.exports))
    (kept-own (λ (entry : Named × Meaning). is_meant stands_for_parameter entry.1) (exports_of state.place.here.exports) (table-own state once))

-- ---- leaves

leaves-as : (outer : ℕ) (m : Meaning) (lead : Lead) → LeadsAs 0 (unsaid_stand m) lead → LeadsAs outer (unsaid_stand m) lead
leaves-as outer BuiltIn lead is = is
leaves-as outer (Declared (entity.Bound state) x) lead is = is
leaves-as outer (Declared e x) lead is = tt

pub new-unsaid : (new : Meaning → Bool) (m : Meaning) → new BuiltIn ≡ false → new m ≡ true → is_bound m ≡ false → unsaid_stand m ≡ Unsaid
new-unsaid new m old is free = by_leaf (leaf-or-unsaid m)
  where
    by_leaf : IsLeafName m ⊎ (unsaid_stand m ≡ Unsaid) → unsaid_stand m ≡ Unsaid
    by_leaf (inl (inl same)) = let never : true ≡ false = sym is ∙ ap new same ∙ old in absurd (cc never)
    by_leaf (inl (inr bound)) = let never : true ≡ false = sym bound ∙ free in absurd (cc never)
    by_leaf (inr nothing) = nothing

-- ---- modules of files

module _ (flat : FlatModule) (outsides : List ℕ → Outside) (source : List ℕ) (units : ModuleUnits) (symbols : List Meaning) (final : Reader) where
  pub meant-instanced : (face : FlatFace) (leads : Leads) (new : Meaning → Bool) (meant : IsMeantSo flat outsides source units symbols final) → symbols ≡ symbols_of (outside outsides source units) → face.outer ≡ 0 → AreDistinct symbols → IsOnce (last outsides source units).read.place.here.exports → ((name : Named) (names : List Named) → face.leads (name ∷ names) ≡ exported_leads final.setting.leads (exports_of (last outsides source units).read.place.here.exports) (name ∷ names)) → ((name : Named) (next : Meaning) → entry_of (behind_instance (outside outsides source units).view []) name ≡ Some next → TakesBehind (meant.inner name) (onward (behind_instance (outside outsides source units).view) name) next) → LeavesLead leads → new BuiltIn ≡ false → IsFaceBy flat new leads face (outside outsides source units)
  meant-instanced face leads new meant same outer distinct once paths takes leaves old =
      let whole = outside outsides source units in
      let read = read-same (text_of source units) outsides (words_of units) (first outsides source units) units.units in
      let said : SaysNothing unsaid_stand symbols = subst (λ (ms : List Meaning). SaysNothing unsaid_stand ms) (sym same) (symbols-unsaid whole.view.parameters (are-parameters (exports_in (views (text_of source units) outsides (words_of units)) source units))) in
      let first_place : 0 + length symbols ≡ length symbols = omega arith in
      let kept = module-by_less flat (symbols_at unsaid_stand symbols 0) (with_symbols unsaid_stand symbols 0) (length symbols) meant.inner whole (symbols-at-less unsaid_stand symbols 0 distinct said) meant.kept in
      record {
        base = unsaid_stand;
        inner = meant.inner;
        paths = λ name names. paths name names ∙ meant.leads name names;
        kept = subst (λ n. IsModule flat (with_symbols unsaid_stand (symbols_of whole) n) (n + length (symbols_of whole)) meant.inner whole) (sym outer)
            (subst (λ (ms : List Meaning). IsModule flat (with_symbols unsaid_stand ms 0) (0 + length ms) meant.inner whole) same
            (subst (λ n. IsModule flat (with_symbols unsaid_stand symbols 0) n meant.inner whole) (sym first_place) kept));
        takes = takes;
        apart = subst (λ (state : ReadState). AreFound (parameters_in (exports_of state.place.here.exports)) (parameters_in (exports_of state.place.here.exports))) read (parameters-found (last outsides source units).read once);
        symbols = λ m. leaves-as face.outer m (leads m []) (leaves m);
        unsaid = λ m is free. new-unsaid new m old is free;
      }

-- ---- nested modules

module _ (flat : FlatModule) (text : Text) (means : ℕ → Option Meaning) (implied : ℕ → List Meaning) (files : List ℕ → FlatFace) (outsides : List ℕ → Outside) (words : List ℕ) (state : KindState) (round : Reading) (readings : List Reading) (setting outer : Setting) (base : Meaning → Stand) (own : List Meaning) (layout : Layout) where
  -- what it is, and what its instances take
  abbrev whole : Outside
  whole = nested_outside state (round ∷ readings)

  abbrev face : FlatFace
  face = nested_face flat text means implied files outsides words state round setting outer

  abbrev inner : Named → Stand
  inner = exported_stand layout.stands (exports_of state.read.place.here.exports)

  pub nested-instanced : (leads : Leads) (new : Meaning → Bool) → KeepsState flat (with_own base (symbols_at (λ (m : Meaning). Unsaid) own (length outer.frame))) layout state → layout.places ≡ length outer.frame + length own → own ≡ symbols_of (nested_outside state (round ∷ readings)) → AreDistinct own → SaysNothing base own → IsOnce state.read.place.here.exports → LeadsBy layout.stands setting.leads → ((name : Named) (next : Meaning) → entry_of (behind_instance (nested_outside state (round ∷ readings)).view []) name ≡ Some next → TakesBehind (exported_stand layout.stands (exports_of state.read.place.here.exports) name) (onward (behind_instance (nested_outside state (round ∷ readings)).view) name) next) → ((m : Meaning) → LeadsAs (length outer.frame) (base m) (leads m [])) → ((m : Meaning) → new m ≡ true → is_bound m ≡ false → base m ≡ Unsaid) → IsFaceBy flat new leads (nested_face flat text means implied files outsides words state round setting outer) (nested_outside state (round ∷ readings))
  nested-instanced leads new keeps room same distinct nothing once leads-here takes symbols unsaid =
      let place = length outer.frame in
      let meant = state-exported flat (with_own base (symbols_at (λ (m : Meaning). Unsaid) own place)) layout state whole.view false keeps in
      let kept = module-by_less flat (with_own base (symbols_at (λ (m : Meaning). Unsaid) own place)) (with_symbols base own place) layout.places inner whole (own-less base own place distinct nothing) meant in
      record {
        base = base;
        inner = inner;
        paths = λ name names. exported-lead layout.stands setting.leads (exports_of state.read.place.here.exports) name names leads-here;
        kept = subst (λ (ms : List Meaning). IsModule flat (with_symbols base ms place) (place + length ms) inner whole) same
            (subst (λ n. IsModule flat (with_symbols base own place) n inner whole) room kept);
        takes = takes;
        apart = own-found whole.view.parameters
            (kept-own (λ (entry : Named × Meaning). not (has round.context entry.0)) (parameters_in (exports_of state.read.place.here.exports))
            (kept-own (λ (entry : Named × Meaning). is_meant stands_for_parameter entry.1) (exports_of state.read.place.here.exports) (table-own state.read once)));
        symbols = symbols;
        unsaid = unsaid;
      }

  -- it can be extended by modules nested behind it
  pub nested-extendable : (leads : Leads) → KeepsState flat (with_own base (symbols_at (λ (m : Meaning). Unsaid) own (length outer.frame))) layout state → layout.places ≡ length outer.frame + length own → own ≡ symbols_of (nested_outside state (round ∷ readings)) → LeadsBy layout.stands setting.leads
      → ((name : Named) (next : Meaning) → entry_of (behind_instance (nested_outside state (round ∷ readings)).view []) name ≡ Some next → TakesBehind (exported_stand layout.stands (exports_of state.read.place.here.exports) name) (onward (behind_instance (nested_outside state (round ∷ readings)).view) name) next)
      → ((m : Meaning) → LeadsAs (length outer.frame) (base m) (leads m [])) → IsExtendable flat leads (nested_face flat text means implied files outsides words state round setting outer) (nested_outside state (round ∷ readings))
  nested-extendable leads keeps room same leads-here takes symbols =
      let place = length outer.frame in
      let meant = state-exported flat (with_own base (symbols_at (λ (m : Meaning). Unsaid) own place)) layout state whole.view false keeps in
      let kept = module-by_less flat (with_own base (symbols_at (λ (m : Meaning). Unsaid) own place)) (symbols_at base own place) layout.places inner whole (λ m. inr (own-symbols base own place m)) meant in
      record {
        base = base;
        inner = inner;
        paths = λ name names. exported-lead layout.stands setting.leads (exports_of state.read.place.here.exports) name names leads-here;
        kept = subst (λ (ms : List Meaning). IsModule flat (symbols_at base ms place) (place + length ms) inner whole) same
            (subst (λ n. IsModule flat (symbols_at base own place) n inner whole) room kept);
        takes = takes;
        parameters = refl;
        leads = symbols;
      }
