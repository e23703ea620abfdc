-- Names, ways and modules that are alike, as far as numbers of nodes tell.
use Rattle.std.proofs.Common.{◌≡◌, ℕ, ◌<◌, ◌⊎◌, Bool, true, false, List, [], ◌∷◌, Option, Some, None, refl, sym, ap, ◌∙◌, cond, inl, inr, length, get_or, map, subst}
use Rattle.std.specs.Prelude.{option_map, slice_get, string_bytes}
use Rattle.std.specs.List.{AllByRecursion}
use Rattle.std.specs.Map.{lookup as looked_up}
use Rattle.std.specs.Str.{bytes_eq}
use Rattle.std.proofs.lemmas.Option.{slice_get_read}
use denote.Enum.Bare.{same_true}
use Rattle.list_laws.proofs.Lists.{at-map}
use Rattle.list_laws.proofs.Texts.{same-text}
use Rattle.tla_symbols.specs.declared.op.Op.{Op}
use Rattle.tla_symbols.specs.contracts.op.Op as op
use Rattle.tla_model.specs.Tables.{Named, Word, Symbol, find, lookup, same_symbol}
use Rattle.kind_text.specs.FlatModule.{FlatModule}
use Rattle.flattened_trees.specs.Leads.{FlatFace, nowhere}
use Rattle.written_trees.specs.Leading.{Face, face_in, lead_in}
use Rattle.module_leads.specs.declared.faces.FaceNames.TheVariants as names
use Rattle.module_leads.specs.declared.faces.ModuleFace.{ModuleFace}
use Rattle.module_leads.specs.declared.faces.Sort.TheVariants as sort
use Rattle.module_leads.specs.declared.faces.TableNames.{TableNames}
use Rattle.module_leads.specs.Alike.{AreAlike, AreEachAlike, behind_name, known_face, module_at, names_at, symbols_in, symbols_of, words_in}
use Rattle.module_leads.specs.Faces.{faces_of, first_faces, found_lead, named_way, table_way, way_of}
use Rattle.module_leads.specs.Layers.{layer_way}
use Rattle.module_leads.specs.Ways.{unsaid_way}
use Rattle.module_leads.proofs.Numbered.{face-gone, face-is, face-none}

-- each name of a sort leads alike that one of two modules has
abbrev pub EachAlike : FlatModule → List ModuleFace → Option ℕ → Option ℕ → sort.the_data → Type 0
EachAlike flat listed one other sort =
    AreEachAlike flat (known_face listed one) (known_face listed other) (names_at sort (module_at listed one))
    × AreEachAlike flat (known_face listed one) (known_face listed other) (names_at sort (module_at listed other))

-- ---- names at places

pub symbol-at : {B : Type 0} (symbols : List (Op × B)) (index : ℕ) (entry : Op × B) → index < length symbols → entry ≡ get_or symbols index entry → Some (Symbol entry.0) ≡ slice_get (symbols_of symbols) index
symbol-at symbols index entry within is = sym (at-map (λ e. Symbol e.0) symbols index entry (slice_get_read symbols _ index entry refl within is))

-- ---- names that are not there

-- a key is not among those of some entries, or this holds of its name, which holds of all of them
among : {K B : Type 0} (test : K → Bool) (name : K → Named) (entries : List (K × B)) (P : Named → Type 0) (sought : Named) → ((k : K) → test k ≡ true → name k ≡ sought)
    → AllByRecursion P (map (λ entry. name entry.0) entries) → (looked_up test entries ≡ None) ⊎ P sought
among test name [] P sought is all = inl refl
among test name (entry ∷ rest) P sought is all = by (test entry.0) refl (among test name rest P sought is all.1)
  where
    by : (b : Bool) → test entry.0 ≡ b → (looked_up test rest ≡ None) ⊎ P sought → (cond b (Some entry.1) (looked_up test rest) ≡ None) ⊎ P sought
    by true e other = inr (subst P (is entry.0 e) all.0)
    by false e other = other

lookup-same : {K B : Type 0} (same : K → K → Bool) (entries : List (K × B)) (key : K) → lookup same entries key ≡ looked_up (same key) entries
lookup-same same [] key = refl
lookup-same same (entry ∷ rest) key = ap (cond (same key entry.0) (Some entry.1)) (lookup-same same rest key)

-- the same of keys that are looked up one by one
among-keys : {K B : Type 0} (same : K → K → Bool) (name : K → Named) (entries : List (K × B)) (P : Named → Type 0) (key : K) → ((k : K) → same key k ≡ true → name k ≡ name key)
    → AllByRecursion P (map (λ entry. name entry.0) entries) → (lookup same entries key ≡ None) ⊎ P (name key)
among-keys {B = B} same name entries P key is all =
    subst (λ (o : Option B). (o ≡ None) ⊎ P (name key)) (sym (lookup-same same entries key)) (among (same key) name entries P (name key) is all)

word-is : (bytes k : List ℕ) → bytes_eq bytes k ≡ true → Word k ≡ Word bytes
word-is bytes k e = ap Word (sym (same-text bytes k e))

symbol-is : (o k : Op) → same_symbol o k ≡ true → Symbol k ≡ Symbol o
symbol-is o k e = ap Symbol (sym (same_true op.the_type tt o k e))

of-table : (table : TableNames) (P : Named → Type 0) (name : Named) → (find table.exports name ≡ None) ⊎ P name → (table_way table name ≡ None) ⊎ P name
of-table table P name (inl none) = inl (ap (option_map (λ meaning. layer_way table.layer (unsaid_way meaning) meaning)) none)
of-table table P name (inr holds) = inr holds

-- a module has no way of a name, or this holds of the name
pub among-names : (names : names.the_data) (P : Named → Type 0) → AllByRecursion P (words_in names) → AllByRecursion P (symbols_in names) → (name : Named) → (named_way names name ≡ None) ⊎ P name
among-names (names.Listed listed) P words symbols (Word bytes) =
    among (λ k. bytes_eq bytes (string_bytes k)) (λ k. Word (string_bytes k)) listed.words.entries P (Word bytes) (λ k e. word-is bytes (string_bytes k) e) words
among-names (names.Listed listed) P words symbols (Symbol o) = among-keys same_symbol (λ k. Symbol k) listed.symbols.items P o (symbol-is o) symbols
among-names (names.Table table) P words symbols (Word bytes) = of-table table P (Word bytes) (among-keys bytes_eq (λ k. Word k) table.exports.words P bytes (word-is bytes) words)
among-names (names.Table table) P words symbols (Symbol o) = of-table table P (Symbol o) (among-keys same_symbol (λ k. Symbol k) table.exports.symbols P o (symbol-is o) symbols)

-- ---- modules

-- nothing is known of a name of a module with a number, or this holds of the name
unlisted : (listed : List ModuleFace) (one : Option ℕ) (P : Named → Type 0) → AllByRecursion P (names_at sort.Words (module_at listed one)) → AllByRecursion P (names_at sort.Symbols (module_at listed one))
    → (name : Named) → ((names : List Named) → (known_face listed one).leads (name ∷ names) ≡ nowhere) ⊎ P name
unlisted listed None P words symbols name = inl (λ names. refl)
unlisted listed (Some number) P words symbols name = by (slice_get listed number) refl words symbols
  where
    there : (face : ModuleFace) → slice_get listed number ≡ Some face → (way_of face name ≡ None) ⊎ P name → ((names : List Named) → (faces_of listed number).leads (name ∷ names) ≡ nowhere) ⊎ P name
    there face at (inl none) =
        inl (λ names. ap (λ (z : FlatFace). z.leads (name ∷ names)) (face-is listed number face at) ∙ ap (λ found. found_lead (first_faces listed number) found names) none)
    there face at (inr holds) = inr holds

    by : (found : Option ModuleFace) → slice_get listed number ≡ found → AllByRecursion P (names_at sort.Words found) → AllByRecursion P (names_at sort.Symbols found)
        → ((names : List Named) → (faces_of listed number).leads (name ∷ names) ≡ nowhere) ⊎ P name
    by None at words symbols = inl (λ names. ap (λ (z : FlatFace). z.leads (name ∷ names)) (face-gone listed number at))
    by (Some face) at words symbols = there face at (among-names face.names P words symbols name)

-- names of two modules lead alike where each name of either does
pub all-alike : (flat : FlatModule) (listed : List ModuleFace) (one other : Option ℕ) → EachAlike flat listed one other sort.Words → EachAlike flat listed one other sort.Symbols
    → AreAlike flat (known_face listed one).leads (known_face listed other).leads
all-alike flat listed one other words symbols [] = ap (lead_in flat) (face-none listed (length listed) one ∙ sym (face-none listed (length listed) other))
all-alike flat listed one other words symbols (name ∷ names) = by (unlisted listed one P words.0 symbols.0 name) (unlisted listed other P words.1 symbols.1 name)
  where
    P : Named → Type 0
    P word = AreAlike flat (behind_name (known_face listed one) word) (behind_name (known_face listed other) word)

    by : ((names : List Named) → (known_face listed one).leads (name ∷ names) ≡ nowhere) ⊎ P name → ((names : List Named) → (known_face listed other).leads (name ∷ names) ≡ nowhere) ⊎ P name
        → lead_in flat ((known_face listed one).leads (name ∷ names)) ≡ lead_in flat ((known_face listed other).leads (name ∷ names))
    by (inr alike) second = alike names
    by (inl none) (inr alike) = alike names
    by (inl none) (inl gone) = ap (lead_in flat) (none names ∙ sym (gone names))

-- ---- what modules are to their instances

pub leads-same : (flat : FlatModule) (one other : FlatFace) → face_in flat one ≡ face_in flat other → AreAlike flat one.leads other.leads
leads-same flat one other same names = ap (λ (z : Face). z.leads names) same
