-- Names that stand once among the entries of a table, and the instances that they name.
use Rattle.std.proofs.Common.{◌≡◌, ℕ, zero, suc, Bool, true, false, cond, filter, List, [], ◌∷◌, ◌++◌, Some, append_assoc, map, refl, ap, sym, subst, ◌∙◌}
use Rattle.std.specs.Prelude.{slice_get}
use Rattle.std.specs.List.{AllByRecursion}
use Rattle.std.specs.Str.{bytes_eq}
use denote.Enum.Bare.{same_true, true_same}
use Rattle.list_laws.proofs.Lists.{all-both}
use Rattle.list_laws.proofs.Texts.{same-text, text-itself}
use Rattle.tla_symbols.specs.contracts.op.Op as op
use Rattle.tla_symbols.specs.declared.op.Op.{Op}
use Rattle.tla_model.specs.Entities.{Meaning}
use Rattle.tla_model.specs.EntityKinds.{is_instance, is_meant, stands_behind}
use Rattle.tla_model.specs.Tables.{AreNew, Named, Word, Symbol, Table, lookup, same_named, same_symbol}
use Rattle.tla_model.specs.declared.ids.DeclId.{DeclId}
use Rattle.tla_model.specs.declared.names.Meaning.TheVariants.{BuiltIn, Declared}
use Rattle.tla_model.proofs.Stretching.{found-next}
use Rattle.module_model.specs.Exports.{Exports, entry_of, exports_of, instantiable, of_symbols, of_words}
use Rattle.module_model.proofs.Entries.{entry-of-table}
use Rattle.exact_faces.specs.Exact.{IsNamed}
use Rattle.exact_faces.specs.Found.{AreOnce}
use Rattle.exact_faces.specs.Searching.{OfDecl, instances_among}

-- ---- each entry is found under its name

module _ {K V : Type 0} (same : K → K → Bool) (itself : (a : K) → same a a ≡ true) where
  all-found : (before entries : List (K × V)) → AreNew same before entries → AllByRecursion (λ (entry : K × V). lookup same (before ++ entries) entry.0 ≡ Some entry.1) entries
  all-found before [] new = tt
  all-found before (entry ∷ rest) new = (
    found-next same before (entry ∷ rest) entry.0 new.0 ∙ ap (λ (z : Bool). cond z (Some entry.1) (lookup same rest entry.0)) (itself entry.0),
    subst (λ z. AllByRecursion (λ (e : K × V). lookup same z e.0 ≡ Some e.1) rest) (append_assoc before (entry ∷ []) rest) (all-found (before ++ entry ∷ []) rest new.1),
  )

symbol-itself : (one : Op) → same_symbol one one ≡ true
symbol-itself one = true_same op.the_type one one refl

abbrev AreFoundIn : Exports → Exports → Type 0
AreFoundIn all entries = AllByRecursion (λ (entry : Named × Meaning). entry_of all entry.0 ≡ Some entry.1) entries

found-words : (table : Table Meaning) (words : List (List ℕ × Meaning)) → AllByRecursion (λ (word : List ℕ × Meaning). lookup bytes_eq table.words word.0 ≡ Some word.1) words → AreFoundIn (exports_of table) (of_words words)
found-words table [] found = tt
found-words table (word ∷ words) found = (entry-of-table table (Word word.0) ∙ found.0, found-words table words found.1)

found-symbols : (table : Table Meaning) (symbols : List (Op × Meaning)) → AllByRecursion (λ (symbol : Op × Meaning). lookup same_symbol table.symbols symbol.0 ≡ Some symbol.1) symbols → AreFoundIn (exports_of table) (of_symbols symbols)
found-symbols table [] found = tt
found-symbols table (symbol ∷ symbols) found = (entry-of-table table (Symbol symbol.0) ∙ found.0, found-symbols table symbols found.1)

at-all : (all entries : Exports) → AreFoundIn all entries → (index : ℕ) (entry : Named × Meaning) → slice_get entries index ≡ Some entry → entry_of all entry.0 ≡ Some entry.1
at-all all [] found zero entry at = cc
at-all all [] found (suc index) entry at = cc
at-all all (first ∷ rest) found zero entry at = let same : first ≡ entry = cc in subst (λ (e : Named × Meaning). entry_of all e.0 ≡ Some e.1) same found.0
at-all all (first ∷ rest) found (suc index) entry at = at-all all rest found.1 index entry at

-- a table has no name twice
pub table-once : (table : Table Meaning) → AreNew bytes_eq [] table.words → AreNew same_symbol [] table.symbols → AreOnce (exports_of table)
table-once table words symbols =
    at-all (exports_of table) (exports_of table)
    (all-both (λ (entry : Named × Meaning). entry_of (exports_of table) entry.0 ≡ Some entry.1) (of_words table.words) (of_symbols table.symbols)
    (found-words table table.words (all-found bytes_eq (λ a. text-itself a a refl) [] table.words words))
    (found-symbols table table.symbols (all-found same_symbol symbol-itself [] table.symbols symbols)))

-- ---- what names mean, among those entries that are kept

same-name : (a b : Named) → same_named a b ≡ true → a ≡ b
same-name (Word a) (Word b) same = ap Word (same-text a b same)
same-name (Symbol a) (Symbol b) same = ap Symbol (same_true op.the_type tt a b same)
same-name (Word a) (Symbol b) same = cc
same-name (Symbol a) (Word b) same = cc

-- where an entry stands that is found
pub record StandsAt (entries : Exports) (name : Named) (meaning : Meaning) : Type 0 where
  pub index : ℕ
  pub at : slice_get entries index ≡ Some (name, meaning)

next-at : (first : Named × Meaning) (entries : Exports) (name : Named) (meaning : Meaning) → StandsAt entries name meaning → StandsAt (first ∷ entries) name meaning
next-at first entries name meaning stands = record { index = suc stands.index; at = stands.at }

-- an entry that is found among those that pass a test stands among all, and passes it
pub record IsPassed (test : Meaning → Bool) (entries : Exports) (name : Named) (meaning : Meaning) : Type 0 where
  pub stands : StandsAt entries name meaning
  pub passes : test meaning ≡ true

module _ (test : Meaning → Bool) where
  abbrev passing : Exports → Exports
  passing entries = filter (λ entry. test entry.1) entries

  pub found-passed : (entries : Exports) (name : Named) (meaning : Meaning) → entry_of (filter (λ entry. test entry.1) entries) name ≡ Some meaning → IsPassed test entries name meaning
  found-passed [] name meaning found = cc
  found-passed (entry ∷ rest) name meaning found = by (test entry.1) refl found (found-passed rest name meaning)
    where
      later : IsPassed test rest name meaning → IsPassed test (entry ∷ rest) name meaning
      later passed = record { stands = next-at entry rest name meaning passed.stands; passes = passed.passes }

      here : test entry.1 ≡ true → (b : Bool) → same_named name entry.0 ≡ b → cond b (Some entry.1) (entry_of (passing rest) name) ≡ Some meaning → (entry_of (passing rest) name ≡ Some meaning → IsPassed test rest name meaning) → IsPassed test (entry ∷ rest) name meaning
      here passes true same is others =
          let meant : entry.1 ≡ meaning = cc in
          record {
            stands = record { index = zero; at = ap Some (λ i. (sym (same-name name entry.0 same) i, meant i)) };
            passes = ap test (sym meant) ∙ passes;
          }
      here passes false apart is others = later (others is)

      by : (b : Bool) → test entry.1 ≡ b → entry_of (cond b (entry ∷ passing rest) (passing rest)) name ≡ Some meaning → (entry_of (passing rest) name ≡ Some meaning → IsPassed test rest name meaning) → IsPassed test (entry ∷ rest) name meaning
      by true passes is others = here passes (same_named name entry.0) refl is others
      by false fails is others = later (others is)

  -- an entry that is found and passes the test is found among those that pass it
  pub passed-found : (entries : Exports) (name : Named) (meaning : Meaning) → entry_of entries name ≡ Some meaning → test meaning ≡ true → entry_of (filter (λ entry. test entry.1) entries) name ≡ Some meaning
  passed-found [] name meaning found passes = found
  passed-found (entry ∷ rest) name meaning found passes = by (same_named name entry.0) refl found (λ is. passed-found rest name meaning is passes)
    where
      first : (b : Bool) → test entry.1 ≡ b → same_named name entry.0 ≡ true → entry.1 ≡ meaning → entry_of (cond b (entry ∷ passing rest) (passing rest)) name ≡ Some meaning
      first true holds same is = ap (λ (z : Bool). cond z (Some entry.1) (entry_of (passing rest) name)) same ∙ ap Some is
      first false fails same is = let wrong : true ≡ false = sym passes ∙ ap test (sym is) ∙ fails in cc

      later : (b : Bool) → same_named name entry.0 ≡ false → entry_of (passing rest) name ≡ Some meaning → entry_of (cond b (entry ∷ passing rest) (passing rest)) name ≡ Some meaning
      later true apart is = ap (λ (z : Bool). cond z (Some entry.1) (entry_of (passing rest) name)) apart ∙ is
      later false apart is = is

      by : (b : Bool) → same_named name entry.0 ≡ b → cond b (Some entry.1) (entry_of rest name) ≡ Some meaning → (entry_of rest name ≡ Some meaning → entry_of (passing rest) name ≡ Some meaning) → entry_of (passing (entry ∷ rest)) name ≡ Some meaning
      by true same is others = let meant : entry.1 ≡ meaning = cc in first (test entry.1) refl same meant
      by false apart is others = later (test entry.1) apart (others is)

-- where no name stands twice, what is found among those that are kept is found among all
pub kept-found : (entries : Exports) (name : Named) (meaning : Meaning) → AreOnce entries → entry_of (instantiable entries) name ≡ Some meaning → entry_of entries name ≡ Some meaning
kept-found entries name meaning once found =
    let passed = found-passed (is_meant stands_behind) entries name meaning found in once passed.stands.index (name, meaning) passed.stands.at

-- ---- the instances among entries

-- a meaning that stands among those of instances is that of an entry
record IsAmong (entries : Exports) (meaning : Meaning) : Type 0 where
  name : Named
  stands : StandsAt entries name meaning
  leads : is_meant is_instance meaning ≡ true

among-at : (entries : Exports) (index : ℕ) (meaning : Meaning) → slice_get (instances_among entries) index ≡ Some meaning → IsAmong entries meaning
among-at [] zero meaning at = cc
among-at [] (suc index) meaning at = cc
among-at (entry ∷ rest) index meaning at = by (is_meant is_instance entry.1) refl index at (λ i is. among-at rest i meaning is)
  where
    later : IsAmong rest meaning → IsAmong (entry ∷ rest) meaning
    later among = record { name = among.name; stands = next-at entry rest among.name meaning among.stands; leads = among.leads }

    by : (b : Bool) → is_meant is_instance entry.1 ≡ b → (i : ℕ) →
        slice_get (map (λ (e : Named × Meaning). e.1) (cond b (entry ∷ filter (λ (e : Named × Meaning). is_meant is_instance e.1) rest) (filter (λ (e : Named × Meaning). is_meant is_instance e.1) rest))) i ≡ Some meaning →
        ((j : ℕ) → slice_get (instances_among rest) j ≡ Some meaning → IsAmong rest meaning) → IsAmong (entry ∷ rest) meaning
    by true leads zero is rest_among =
        let meant : entry.1 ≡ meaning = cc in
        record { name = entry.0; stands = record { index = zero; at = ap (λ (m : Meaning). Some (entry.0, m)) meant }; leads = ap (is_meant is_instance) (sym meant) ∙ leads }
    by true leads (suc i) is rest_among = later (rest_among i is)
    by false fails i is rest_among = later (rest_among i is)

-- so its declaration is named
pub among-named : (entries : Exports) (P : DeclId → Type 0) (index : ℕ) (meaning : Meaning) → AreOnce entries → slice_get (instances_among entries) index ≡ Some meaning → ((decl : DeclId) → IsNamed entries decl → P decl) → OfDecl P meaning
among-named entries P index BuiltIn once at all = tt
among-named entries P index (Declared entity callee) once at all =
    let among = among-at entries index (Declared entity callee) at in
    all callee.decl (record {
      name = among.name;
      entity = entity;
      callee = callee;
      found = once among.stands.index (among.name, Declared entity callee) among.stands.at;
      leads = among.leads;
      is = refl;
    })

abbrev instances : Exports → Exports
instances entries = filter (λ entry. is_meant is_instance entry.1) entries

-- an instance that is found stands among them
pub named-among : (entries : Exports) (name : Named) (meaning : Meaning) → entry_of entries name ≡ Some meaning → is_meant is_instance meaning ≡ true → (index : ℕ) × (slice_get (instances_among entries) index ≡ Some meaning)
named-among [] name meaning found leads = cc
named-among (entry ∷ rest) name meaning found leads = by (same_named name entry.0) found (λ is. named-among rest name meaning is leads)
  where
    here : (b : Bool) → is_meant is_instance entry.1 ≡ b → entry.1 ≡ meaning → (index : ℕ) × (slice_get (map (λ (e : Named × Meaning). e.1) (cond b (entry ∷ instances rest) (instances rest))) index ≡ Some meaning)
    here true is meant = (zero, ap Some meant)
    here false is meant = let wrong : true ≡ false = sym leads ∙ ap (is_meant is_instance) (sym meant) ∙ is in cc

    later : (b : Bool) → (index : ℕ) × (slice_get (instances_among rest) index ≡ Some meaning) → (index : ℕ) × (slice_get (map (λ (e : Named × Meaning). e.1) (cond b (entry ∷ instances rest) (instances rest))) index ≡ Some meaning)
    later true there = (suc there.0, there.1)
    later false there = there

    by : (b : Bool) → cond b (Some entry.1) (entry_of rest name) ≡ Some meaning → (entry_of rest name ≡ Some meaning → (index : ℕ) × (slice_get (instances_among rest) index ≡ Some meaning)) → (index : ℕ) × (slice_get (instances_among (entry ∷ rest)) index ≡ Some meaning)
    by true is rest_there = let meant : entry.1 ≡ meaning = cc in here (is_meant is_instance entry.1) refl meant
    by false is rest_there = later (is_meant is_instance entry.1) (rest_there is)
