-- The search for the instances that exports reach.
use Rattle.std.proofs.Common.{◌≡◌, ℕ, ◌+◌, ◌<◌, ◌≤◌, ⊎_elim, Bool, true, false, cond, filter, List, [], ◌∷◌, ◌++◌, Some, is_some, length, map, refl, ap, sym, subst, ◌∙◌, arith}
use Rattle.std.specs.Prelude.{nat_eq, option_map, slice_get}
use Rattle.std.proofs.lemmas.Bool.Decides.{nat_tests}
use Rattle.std.proofs.lemmas.Option.{slice_get_within}
use Rattle.tla_symbols.specs.declared.op.Op.{Op}
use Rattle.tla_model.specs.declared.ids.Callee.{Callee}
use Rattle.tla_model.specs.declared.ids.DeclId.{DeclId}
use Rattle.tla_model.specs.declared.names.Meaning.TheVariants.{BuiltIn, Declared}
use Rattle.tla_model.specs.Entities.{Entity, Meaning, same_decl}
use Rattle.tla_model.specs.EntityKinds.{is_instance, is_meant, words_meant}
use Rattle.tla_model.specs.Tables.{Named, Table, added, lookup}
use Rattle.module_model.specs.Exports as exports
use Rattle.module_model.specs.Exports.{Exports, Instances, entry_of, exports_of, face_exports, face_instances, standing}
use Rattle.module_model.specs.Given.{AreReached, IsWhole}
use Rattle.module_model.specs.Parts.{reached}
use Rattle.module_model.specs.declared.face.Face.{Face}
use Rattle.exact_faces.specs.declared.reached.Search.{Search}
use Rattle.exact_faces.specs.Exact.{Behind, First, IsNamed, IsReached}
use Rattle.exact_faces.specs.Found.{AreAllFound, AreFound, AreOnce, HasMore, Tables, told}
use Rattle.exact_faces.specs.Searching.{CanFind, HasFound, HasGrown, IsFound, IsSearch, OfAll, OfDecl, instances_among, of_symbols, of_words}
use Rattle.exact_faces.proofs.Named.{among-named, named-among}
use Rattle.exact_faces.proofs.Tables.{at-grown, each-added, entry-at, more-added, more-more, stands-at, there-added, there-more, told-added, told-more, told-table, work-added}

-- ---- what is reached

-- stays reached where more is found
pub reached-more : (old new : Instances) (entries : Exports) → ((decl : DeclId) (is : Exports) → old decl ≡ Some is → new decl ≡ Some is) → (decl : DeclId) → IsReached old entries decl → IsReached new entries decl
reached-more old new entries more decl (First named) = First named
reached-more old new entries more decl (Behind {from = from} behind reached is named) = Behind {from = from} behind (reached-more old new entries more from reached) (more from behind is) named

-- ---- one instance

module _ (face : Face) (found : Tables) (decl : DeclId) (table : Table Meaning) (known : AreFound face (told found)) (can : IsReached (told found) (face_exports face) decl) (is : reached face.parts decl ≡ Some table) (once : AreOnce (exports_of table)) where
  pub known-added : AreFound face (told (added same_decl found decl table))
  known-added = record {
    stands = λ other entries at. ⊎_elim (λ (old : told found other ≡ Some entries). known.stands other entries old)
        (λ (new : (other ≡ decl) × (exports_of table ≡ entries)). ap (face_instances face) new.0 ∙ ap standing is ∙ ap Some new.1) (told-added found decl table other entries at);
    reached = λ other entries at.
        reached-more (told found) (told (added same_decl found decl table)) (face_exports face) (told-more (added same_decl found decl table) found (more-added found decl table)) other
        (⊎_elim (λ (old : told found other ≡ Some entries). known.reached other entries old)
        (λ (new : (other ≡ decl) × (exports_of table ≡ entries)). subst (IsReached (told found) (face_exports face)) (sym new.0) can) (told-added found decl table other entries at));
    once = λ other entries at. ⊎_elim (λ (old : told found other ≡ Some entries). known.once other entries old)
        (λ (new : (other ≡ decl) × (exports_of table ≡ entries)). subst AreOnce new.1 once) (told-added found decl table other entries at);
  }

-- the search, and what is found now
abbrev pub with_found : Search → Tables → Search
with_found s found = record { face = s.face; found = found }

module _ (s : Search) (decl : DeclId) (table : Table Meaning) (new : Tables) (search : IsSearch s) (is : reached s.face.now.parts decl ≡ Some table) (put : new ≡ added same_decl s.found decl table) where
  pub search-added : CanFind s decl → AreOnce (exports_of table) → IsSearch (with_found s new)
  search-added can once = subst (λ z. IsSearch (with_found s z)) (sym put) (record { known = known-added s.face.now s.found decl table search.known can is once; each = each-added s.found decl table search.each })

  pub grown-added : HasGrown s (with_found s new)
  grown-added = subst (λ z. HasGrown s (with_found s z)) (sym put) (record { face = refl; found = more-added s.found decl table; less = work-added s.face.now.parts s.found decl table is })

  pub there-now : HasFound (with_found s new) decl
  there-now some = subst (λ z. is_some (told z decl) ≡ true) (sym put) (there-added s.found decl table)

pub grown-on : (old mid new : Search) → HasGrown old mid → HasGrown mid new → HasGrown old new
grown-on old mid new first second = record {
  face = second.face ∙ first.face;
  found = more-more new.found mid.found old.found second.found first.found;
  less = omega (arith, first.less, second.less);
}

-- ---- what holds of meanings

-- what holds of a meaning that is declared
pub of-declared : (P : DeclId → Type 0) (meaning : Meaning) (entity : Entity) (callee : Callee) → meaning ≡ Declared entity callee → P callee.decl → OfDecl P meaning
of-declared P meaning entity callee is holds = subst (OfDecl P) (sym is) holds

pub declared-of : (P : DeclId → Type 0) (meaning : Meaning) (entity : Entity) (callee : Callee) → meaning ≡ Declared entity callee → OfDecl P meaning → P callee.decl
declared-of P meaning entity callee is holds = subst (OfDecl P) is holds

pub of-weaker : (P Q : DeclId → Type 0) → ((decl : DeclId) → P decl → Q decl) → (meaning : Meaning) → OfDecl P meaning → OfDecl Q meaning
of-weaker P Q weaker BuiltIn holds = tt
of-weaker P Q weaker (Declared entity callee) holds = weaker callee.decl holds

-- what can be found still can, and what is found still is
pub can-more : (old new : Search) → HasGrown old new → (decl : DeclId) → CanFind old decl → CanFind new decl
can-more old new grown decl can =
    subst (λ face. IsReached (told new.found) (face_exports face) decl) (ap (λ (s : Rattle.std.specs.Borrow.Bor Face). s.now) (sym grown.face))
    (reached-more (told old.found) (told new.found) (face_exports old.face.now) (told-more new.found old.found grown.found) decl can)

pub found-more : (old new : Search) → HasGrown old new → (decl : DeclId) → HasFound old decl → HasFound new decl
found-more old new grown decl found some =
    there-more new.found old.found grown.found decl (found (ap (λ (f : Rattle.std.specs.Borrow.Bor Face). is_some (face_instances f.now decl)) (sym grown.face) ∙ some))

-- of the first so many meanings
abbrev pub OfFirst : (DeclId → Type 0) → List Meaning → ℕ → Type 0
OfFirst P meanings count = (index : ℕ) (meaning : Meaning) → index < count → slice_get meanings index ≡ Some meaning → OfDecl P meaning

pub of-next : (old new : Search) (meanings : List Meaning) (count : ℕ) (meaning : Meaning) → HasGrown old new → slice_get meanings count ≡ Some meaning → OfDecl (HasFound new) meaning →
    OfFirst (HasFound old) meanings count → OfFirst (HasFound new) meanings (count + 1)
of-next old new meanings count meaning grown at here before index one within is = by (nat_eq index count) refl
  where
    some-same : (a b : Meaning) → Some a ≡ Some b → a ≡ b
    some-same a b e = cc

    by : (b : Bool) → nat_eq index count ≡ b → OfDecl (HasFound new) one
    by true same =
        let equal : index ≡ count = grind (arith, nat_tests, same) in
        subst (OfDecl (HasFound new)) (some-same meaning one (sym at ∙ ap (slice_get meanings) (sym equal) ∙ is)) here
    by false apart = of-weaker (HasFound old) (HasFound new) (found-more old new grown) one (before index one (grind (arith, nat_tests, apart, within)) is)

pub of-all : (P : DeclId → Type 0) (meanings : List Meaning) (count : ℕ) → length meanings ≤ count → OfFirst P meanings count → OfAll P meanings
of-all P meanings count all first index meaning is = first index meaning (let within = slice_get_within meanings index meaning is in omega (arith, within, all)) is

-- ---- the instances that a table names

-- can be found where each that is named can
pub can-among : (s : Search) (entries : Exports) (meanings : List Meaning) → meanings ≡ instances_among entries → AreOnce entries → ((decl : DeclId) → IsNamed entries decl → CanFind s decl) → OfAll (CanFind s) meanings
can-among s entries meanings same once can index meaning is = among-named entries (CanFind s) index meaning once (ap (λ z. slice_get z index) (sym same) ∙ is) can

-- and are found where all that are meant are
pub named-found : (old new : Search) (entries : Exports) (meanings : List Meaning) → meanings ≡ instances_among entries → HasGrown old new → AreReached (face_instances old.face.now) entries → OfAll (HasFound new) meanings → AreReached (told new.found) entries
named-found old new entries meanings same grown inside found name entity callee is leads =
    let there = named-among entries name (Declared entity callee) is leads in
    found there.0 (Declared entity callee) (ap (λ z. slice_get z there.0) same ∙ there.1)
    (ap (λ (f : Rattle.std.specs.Borrow.Bor Face). is_some (face_instances f.now callee.decl)) grown.face ∙ inside name entity callee is leads)

-- so it is with a table of which all instances are found
pub all-found : (found : Tables) (entries : Exports) (meanings : List Meaning) → meanings ≡ instances_among entries → OfAll (IsFound found) meanings → AreReached (told found) entries
all-found found entries meanings same all name entity callee is leads =
    let there = named-among entries name (Declared entity callee) is leads in
    all there.0 (Declared entity callee) (ap (λ z. slice_get z there.0) same ∙ there.1)

pub found-next : (found : Tables) (meanings : List Meaning) (count : ℕ) (meaning : Meaning) → slice_get meanings count ≡ Some meaning → OfDecl (IsFound found) meaning → OfFirst (IsFound found) meanings count → OfFirst (IsFound found) meanings (count + 1)
found-next found meanings count meaning at here before index one within is = by (nat_eq index count) refl
  where
    some-same : (a b : Meaning) → Some a ≡ Some b → a ≡ b
    some-same a b e = cc

    by : (b : Bool) → nat_eq index count ≡ b → OfDecl (IsFound found) one
    by true same =
        let equal : index ≡ count = grind (arith, nat_tests, same) in
        subst (OfDecl (IsFound found)) (some-same meaning one (sym at ∙ ap (slice_get meanings) (sym equal) ∙ is)) here
    by false apart = before index one (grind (arith, nat_tests, apart, within)) is

-- among words, and among symbols
among-symbols : (symbols : List (Op × Meaning)) → instances_among (exports.of_symbols symbols) ≡ of_symbols symbols
among-symbols [] = refl
among-symbols (symbol ∷ symbols) = by (is_meant is_instance symbol.1) (among-symbols symbols)
  where
    by : (b : Bool) → instances_among (exports.of_symbols symbols) ≡ of_symbols symbols →
        map (λ (e : Named × Meaning). e.1) (cond b ((Rattle.tla_model.specs.Tables.Symbol symbol.0, symbol.1) ∷ filter (λ (e : Named × Meaning). is_meant is_instance e.1) (exports.of_symbols symbols)) (filter (λ (e : Named × Meaning). is_meant is_instance e.1) (exports.of_symbols symbols)))
        ≡ map (λ (s : Op × Meaning). s.1) (cond b (symbol ∷ filter (λ (s : Op × Meaning). is_meant is_instance s.1) symbols) (filter (λ (s : Op × Meaning). is_meant is_instance s.1) symbols))
    by true rest = ap (λ z. symbol.1 ∷ z) rest
    by false rest = rest

pub among-table : (words : List (List ℕ × Meaning)) (symbols : List (Op × Meaning)) → instances_among (exports.of_words words ++ exports.of_symbols symbols) ≡ of_words words ++ of_symbols symbols
among-table [] symbols = among-symbols symbols
among-table (word ∷ words) symbols = by (is_meant is_instance word.1) (among-table words symbols)
  where
    by : (b : Bool) → instances_among (exports.of_words words ++ exports.of_symbols symbols) ≡ of_words words ++ of_symbols symbols →
        map (λ (e : Named × Meaning). e.1) (cond b ((Rattle.tla_model.specs.Tables.Word word.0, word.1) ∷ filter (λ (e : Named × Meaning). is_meant is_instance e.1) (exports.of_words words ++ exports.of_symbols symbols)) (filter (λ (e : Named × Meaning). is_meant is_instance e.1) (exports.of_words words ++ exports.of_symbols symbols)))
        ≡ map (λ (w : List ℕ × Meaning). w.1) (cond b (word ∷ words_meant is_instance words) (words_meant is_instance words)) ++ of_symbols symbols
    by true rest = ap (λ z. word.1 ∷ z) rest
    by false rest = rest

-- ---- each instance that is found

-- each of the first so many is looked through
abbrev pub AreSeen : ℕ → Tables → Type 0
AreSeen count found = (index : ℕ) (entry : DeclId × Table Meaning) → index < count → slice_get found index ≡ Some entry → AreReached (told found) (exports_of entry.1)

pub are-reached-more : (new old : Tables) (entries : Exports) → HasMore new old → AreReached (told old) entries → AreReached (told new) entries
are-reached-more new old entries more reached name entity callee is leads = there-more new old more callee.decl (reached name entity callee is leads)

pub seen-next : (new old : Tables) (count : ℕ) (table : Table Meaning) → HasMore new old → count < length old → Some table ≡ option_map (λ (entry : DeclId × Table Meaning). entry.1) (slice_get old count) → AreReached (told new) (exports_of table) →
    AreSeen count old → AreSeen (count + 1) new
seen-next new old count table more within at here before index entry below is = by (nat_eq index count) refl
  where
    some-same : (a b : DeclId × Table Meaning) → Some a ≡ Some b → a.1 ≡ b.1
    some-same a b e = let same : a ≡ b = cc in ap (λ (p : DeclId × Table Meaning). p.1) same

    by : (b : Bool) → nat_eq index count ≡ b → AreReached (told new) (exports_of entry.1)
    by true same =
        let equal : index ≡ count = grind (arith, nat_tests, same) in
        let there = entry-at (slice_get old count) table (sym at) in
        let old_at : slice_get old count ≡ Some entry = at-grown new old more count entry within (ap (slice_get new) (sym equal) ∙ is) in
        subst (λ (t : Table Meaning). AreReached (told new) (exports_of t)) (some-same (there.0, table) entry (sym there.1 ∙ old_at)) here
    by false apart =
        let less : index < count = grind (arith, nat_tests, apart, below) in
        are-reached-more new old (exports_of entry.1) more (before index entry less (at-grown new old more index entry (omega (arith, less, within)) is))

pub seen-all : (face : Face) (found : Tables) (count : ℕ) → length found ≤ count → AreReached (told found) (face_exports face) → AreSeen count found → AreAllFound face (told found)
seen-all face found count end exports seen = record {
  exports = exports;
  behind = λ decl entries is.
      let there = told-table (lookup same_decl found decl) entries is in
      let stands = stands-at found decl there.0 there.1 in
      let within = slice_get_within found stands.0 (stands.1, there.0) stands.2 in
      subst (AreReached (told found)) there.2 (seen stands.0 (stands.1, there.0) (omega (arith, within, end)) stands.2);
}

module _ (s : Search) (index : ℕ) (table : Table Meaning) (search : IsSearch s) (whole : IsWhole s.face.now) (at : Some table ≡ option_map (λ (entry : DeclId × Table Meaning). entry.1) (slice_get s.found index)) where
  told-at : (decl : DeclId) × (told s.found decl ≡ Some (exports_of table))
  told-at = let there = entry-at (slice_get s.found index) table (sym at) in (there.0, ap standing (search.each index (there.0, table) there.1))

  -- what it names is of the face, and reached
  pub inside-at : AreReached (face_instances s.face.now) (exports_of table)
  inside-at = let here = told-at in whole.behind here.0 (exports_of table) (search.known.stands here.0 (exports_of table) here.1)

  pub can-at : (decl : DeclId) → IsNamed (exports_of table) decl → CanFind s decl
  can-at decl named = let here = told-at in Behind {from = here.0} (exports_of table) (search.known.reached here.0 (exports_of table) here.1) here.1 named
