-- Nested modules that can be named are what is asked of them, by where symbols lead and which names were seen.
use Rattle.std.proofs.Common.{◌≡◌, inl, inr, ℕ, suc, ◌+◌, Bool, true, false, cond, List, [], ◌∷◌, ◌++◌, Option, Some, None, is_some, refl, sym, ap, ◌∙◌, subst, length}
use Rattle.std.specs.Prelude.{◌⊎◌, not}
use Rattle.std.specs.List.{AllByRecursion}
use Rattle.std.specs.Str.{bytes_eq}
use Rattle.tla_symbols.specs.declared.level.Kind.{Kind}
use Rattle.tla_model.specs.declared.names.Meaning.TheVariants.{BuiltIn}
use Rattle.tla_model.specs.Entities.{Meaning}
use Rattle.tla_model.specs.EntityKinds.{is_meant, stands_behind}
use Rattle.tla_model.specs.Tables.{Named, added, same_named}
use Rattle.module_scope.specs.Environments.{Environment, Scope, ended, meaning as module_meaning}
use Rattle.module_model.specs.Exports.{Behind, Exports, behind_instance, entry_of, instantiable, onward}
use Rattle.kind_text.specs.FlatModule.{FlatModule}
use Rattle.tree_kinds.specs.Standing.{Outside}
use Rattle.module_kinds.specs.ModuleKinds.{module_under, nowhere as no_module}
use Rattle.flat_trees.specs.Stands.{Stand, Unsaid, Leaf, Place, Defined, Through, Brought}
use Rattle.flat_trees.specs.Instances.{IsModule, symbols_of}
use Rattle.flat_trees.specs.Layouts.{StandsBefore, order_of}
use Rattle.flat_trees.proofs.Meanings.{named-equal}
use Rattle.flat_kinds.specs.Modules.{Current}
use Rattle.flat_kinds.specs.Readings.{with_own}
use Rattle.flat_kinds.specs.Symbols.{same_symbol, symbols_at}
use Rattle.flat_kinds.proofs.Distinct.{HaveOwnNames}
use Rattle.flattened_trees.specs.declared.End.TheVariants as end
use Rattle.flattened_trees.specs.Agreeing.{TakesAs, TakesBehind, is_seen, lead_by, unsaid_stand}
use Rattle.flattened_trees.specs.Leads.{FlatFace, Lead, Leads, Setting, nowhere, only}
use Rattle.flattened_units.specs.Units.{face_under, no_face, with_symbols}
use Rattle.module_meanings.specs.Faces.{IsExtendedBy, IsFaceBy, IsPlaced, LeadsAs}
use Rattle.module_meanings.specs.Premises.{symbol_leads}
use Rattle.module_meanings.proofs.Further.{LeadsFurther}
use Rattle.module_meanings.proofs.Nesting.{own-at}

-- ---- leads of symbols

leaf-somewhere : (kind : Kind) → nowhere ≡ only (end.Leaf kind) [] → ⊥
leaf-somewhere kind e = let same : end.Nowhere ≡ end.Leaf kind = ap (λ (lead : Lead). lead.end) e in cc same

place-somewhere : (place order : ℕ) → nowhere ≡ only (end.Place place order) [] → ⊥
place-somewhere place order e = let same : end.Nowhere ≡ end.Place place order = ap (λ (lead : Lead). lead.end) e in cc same

-- of what leads nowhere by itself nothing is said
as-nowhere : (outer : ℕ) (stand : Stand) (lead : Lead) → LeadsAs outer stand nowhere → LeadsAs outer stand lead
as-nowhere outer Unsaid lead leads = tt
as-nowhere outer (Leaf kind) lead leads = absurd (leaf-somewhere kind leads)
as-nowhere outer (Place place order) lead leads = absurd (place-somewhere place order leads.1)
as-nowhere outer (Defined d orders) lead leads = absurd leads
as-nowhere outer (Through j orders inner) lead leads = absurd leads
as-nowhere outer (Brought j inner) lead leads = absurd leads

-- a symbol before a place leads where it stands
pub symbol-as : (place : ℕ) (stand : Stand) → StandsBefore place stand → LeadsAs place stand (lead_by stand [])
symbol-as place Unsaid before = tt
symbol-as place (Leaf kind) before = refl
symbol-as place (Place at order) before = (before, refl)
symbol-as place (Defined d orders) before = absurd before
symbol-as place (Through j orders inner) before = absurd before
symbol-as place (Brought j inner) before = absurd before

-- what leads to no leaf and to no place takes what it takes behind an instance
pub further-takes : (stand : Stand) (held : Behind) (m : Meaning) (lead : Lead) → lead ≡ lead_by stand [] → LeadsFurther lead → TakesAs stand held m → TakesBehind stand held m
further-takes Unsaid held m lead same further takes = takes
further-takes (Leaf kind) held m lead same further takes = absurd (further.leaf kind same)
further-takes (Place place order) held m lead same further takes = absurd (further.place place order same)
further-takes (Defined d orders) held m lead same further takes = takes
further-takes (Through j orders inner) held m lead same further takes = takes
further-takes (Brought j inner) held m lead same further takes = takes

-- own symbols lead nowhere in the modules round them
abbrev pub AllNew : Leads → List Meaning → Type 0
AllNew symbols own = AllByRecursion (λ (s : Meaning). (m : Meaning) → same_symbol m s ≡ true → symbols m [] ≡ nowhere) own

-- own symbols that are new change nothing where others lead somewhere
pub own-elsewhere : (symbols : Leads) (own : List Meaning) (place : ℕ) (m : Meaning) → AllNew symbols own → (symbols m [] ≡ nowhere) ⊎ (with_symbols symbols own place m [] ≡ symbols m [])
own-elsewhere symbols [] place m new = inr refl
own-elsewhere symbols (s ∷ rest) place m new = by_same (same_symbol m s) refl (own-elsewhere symbols rest (suc place) m new.1)
  where
    by_same : (b : Bool) → same_symbol m s ≡ b → (symbols m [] ≡ nowhere) ⊎ (with_symbols symbols rest (suc place) m [] ≡ symbols m []) → (symbols m [] ≡ nowhere) ⊎ (cond b (only (end.Place place (order_of s)) []) (with_symbols symbols rest (suc place) m []) ≡ symbols m [])
    by_same true same others = inl (new.0 m same)
    by_same false same others = others

-- ---- faces

module _ (flat : FlatModule) where
  -- a module that is so by other leads, where fewer names are new
  pub face-moved : (new less : Meaning → Bool) (symbols leads : Leads) (face : FlatFace) (outside : Outside) → ((m : Meaning) → less m ≡ true → new m ≡ true) → ((m : Meaning) → (symbols m [] ≡ nowhere) ⊎ (leads m [] ≡ symbols m [])) → IsFaceBy flat new symbols face outside → IsFaceBy flat less leads face outside
  face-moved new less symbols leads face outside fewer lead is =
      record {
        base = is.base;
        inner = is.inner;
        paths = is.paths;
        kept = is.kept;
        takes = is.takes;
        apart = is.apart;
        symbols = λ m. by_lead m (lead m);
        unsaid = λ m one free. is.unsaid m (fewer m one) free;
      }
    where
      by_lead : (m : Meaning) → (symbols m [] ≡ nowhere) ⊎ (leads m [] ≡ symbols m []) → LeadsAs face.outer (is.base m) (leads m [])
      by_lead m (inl none) = as-nowhere face.outer (is.base m) (leads m []) (subst (λ l. LeadsAs face.outer (is.base m) l) none (is.symbols m))
      by_lead m (inr same) = subst (λ l. LeadsAs face.outer (is.base m) l) (sym same) (is.symbols m)

  -- the name of a module round a place is none that can be named
  no-face-by : (new : Meaning → Bool) (leads : Leads) → IsFaceBy flat new leads no_face no_module
  no-face-by new leads =
      record {
        base = λ m. Unsaid;
        inner = λ name. Unsaid;
        paths = λ name names. refl;
        kept = λ frame standing many all name. tt;
        takes = λ name next is. cc is;
        apart = tt;
        symbols = λ m. tt;
        unsaid = λ m is free. refl;
      }

  -- ---- modules that can be extended

  -- a module is what is asked of one that is extended, by where symbols lead, but for places of its own ones
  pub record IsExtendable (symbols : Leads) (face : FlatFace) (outside : Outside) : Type 0 where
    pub base : Meaning → Stand
    pub inner : Named → Stand
    pub paths : (name : Named) (names : List Named) → face.leads (name ∷ names) ≡ lead_by (inner name) names
    pub kept : IsModule flat (symbols_at base (symbols_of outside) face.outer) (face.outer + length (symbols_of outside)) inner outside
    pub takes : (name : Named) (next : Meaning) → entry_of (behind_instance outside.view []) name ≡ Some next → TakesBehind (inner name) (onward (behind_instance outside.view) name) next
    pub parameters : face.parameters ≡ outside.view.parameters
    pub leads : (m : Meaning) → LeadsAs face.outer (base m) (symbols m [])

  -- a module that is so by where other symbols lead
  pub extendable-moved : (symbols leads : Leads) (face : FlatFace) (outside : Outside) → ((m : Meaning) → (symbols m [] ≡ nowhere) ⊎ (leads m [] ≡ symbols m [])) → IsExtendable symbols face outside → IsExtendable leads face outside
  extendable-moved symbols leads face outside lead is =
      record {
        base = is.base;
        inner = is.inner;
        paths = is.paths;
        kept = is.kept;
        takes = is.takes;
        parameters = is.parameters;
        leads = λ m. by_lead m (lead m);
      }
    where
      by_lead : (m : Meaning) → (symbols m [] ≡ nowhere) ⊎ (leads m [] ≡ symbols m []) → LeadsAs face.outer (is.base m) (leads m [])
      by_lead m (inl none) = as-nowhere face.outer (is.base m) (leads m []) (subst (λ l. LeadsAs face.outer (is.base m) l) none (is.leads m))
      by_lead m (inr same) = subst (λ l. LeadsAs face.outer (is.base m) l) (sym same) (is.leads m)

  -- it is extended, where its own symbols have places
  pub extended-so : (leads symbols : Leads) (face : FlatFace) (outside : Outside) → IsExtendable symbols face outside → AllByRecursion (λ m. IsPlaced symbols m × (leads m [] ≡ symbols m [])) (symbols_of outside) → IsExtendedBy flat leads symbols face outside
  extended-so leads symbols face outside is placed =
      record {
        base = is.base;
        inner = is.inner;
        paths = is.paths;
        kept = is.kept;
        takes = is.takes;
        parameters = is.parameters;
        symbols = is.leads;
        placed = placed;
      }

  -- the name of a module round a place is none that can be extended
  no-extended-by : (leads symbols : Leads) → IsExtendedBy flat leads symbols no_face no_module
  no-extended-by leads symbols =
      record {
        base = λ m. Unsaid;
        inner = λ name. Unsaid;
        paths = λ name names. refl;
        kept = λ frame standing many all name. tt;
        takes = λ name next is. cc is;
        parameters = refl;
        symbols = λ m. tt;
        placed = tt;
      }

  -- ---- nested modules

  -- a nested module that can be named is so by where symbols lead by themselves, where new names are those that were not seen, to trees and
  -- to modules that extend it
  abbrev pub IsNestedKnown : List Meaning → Leads → Option Outside → Option FlatFace → Type 0
  IsNestedKnown seen symbols None None = Unit {0}
  IsNestedKnown seen symbols (Some outside) (Some face) = IsFaceBy flat (λ m. not (is_seen seen m)) symbols face outside × IsExtendable symbols face outside
  IsNestedKnown seen symbols _ _ = ⊥

  -- the same of each that can be named
  abbrev pub AreNestedKnown : List Meaning → Leads → Environment Outside → Environment FlatFace → Type 0
  AreNestedKnown seen symbols [] [] = Unit {0}
  AreNestedKnown seen symbols (m ∷ modules) (f ∷ faces) = (m.0 ≡ f.0) × IsNestedKnown seen symbols m.1 f.1 × AreNestedKnown seen symbols modules faces
  AreNestedKnown seen symbols _ _ = ⊥

  -- and of those that can be named behind each nested module round a place
  abbrev pub AreRoundKnown : List Meaning → List (List ℕ × Environment Outside) → List (List ℕ × Environment FlatFace) → List Setting → Type 0
  AreRoundKnown seen [] [] [] = Unit {0}
  AreRoundKnown seen (m ∷ modules) (f ∷ faces) (outer ∷ round) = (m.0 ≡ f.0) × AreNestedKnown seen (symbol_leads round outer.frame) m.1 f.1 × AreRoundKnown seen modules faces round
  AreRoundKnown seen _ _ _ = ⊥

  -- ---- more that was seen, and other leads

  module _ (seen more : List Meaning) (seen-more : (m : Meaning) → is_seen seen m ≡ true → is_seen more m ≡ true) where
    fewer-new : (m : Meaning) → not (is_seen more m) ≡ true → not (is_seen seen m) ≡ true
    fewer-new m new = by_seen (is_seen seen m) refl
      where
        by_seen : (b : Bool) → is_seen seen m ≡ b → not b ≡ true
        by_seen true is = let never : false ≡ true = sym (ap not (seen-more m is)) ∙ new in cc never
        by_seen false is = refl

    known-more : (symbols leads : Leads) (outside : Option Outside) (face : Option FlatFace) → ((m : Meaning) → (symbols m [] ≡ nowhere) ⊎ (leads m [] ≡ symbols m [])) → IsNestedKnown seen symbols outside face → IsNestedKnown more leads outside face
    known-more symbols leads None None lead is = tt
    known-more symbols leads (Some outside) (Some face) lead is =
        (face-moved (λ m. not (is_seen seen m)) (λ m. not (is_seen more m)) symbols leads face outside fewer-new lead is.0, extendable-moved symbols leads face outside lead is.1)
    known-more symbols leads None (Some face) lead is = absurd is
    known-more symbols leads (Some outside) None lead is = absurd is

    pub all-more : (symbols leads : Leads) (modules : Environment Outside) (faces : Environment FlatFace) → ((m : Meaning) → (symbols m [] ≡ nowhere) ⊎ (leads m [] ≡ symbols m [])) → AreNestedKnown seen symbols modules faces → AreNestedKnown more leads modules faces
    all-more symbols leads [] [] lead all = tt
    all-more symbols leads (m ∷ modules) (f ∷ faces) lead all = (all.0, known-more symbols leads m.1 f.1 lead all.1, all-more symbols leads modules faces lead all.2)
    all-more symbols leads [] (f ∷ faces) lead all = absurd all
    all-more symbols leads (m ∷ modules) [] lead all = absurd all

    pub round-more : (modules : List (List ℕ × Environment Outside)) (faces : List (List ℕ × Environment FlatFace)) (round : List Setting) → AreRoundKnown seen modules faces round → AreRoundKnown more modules faces round
    round-more [] [] [] all = tt
    round-more (m ∷ modules) (f ∷ faces) (outer ∷ round) all =
        (all.0, all-more (symbol_leads round outer.frame) (symbol_leads round outer.frame) m.1 f.1 (λ one. inr refl) all.1, round-more modules faces round all.2)
    round-more [] [] (outer ∷ round) all = absurd all
    round-more [] (f ∷ faces) round all = absurd all
    round-more (m ∷ modules) [] round all = absurd all
    round-more (m ∷ modules) (f ∷ faces) [] all = absurd all

  -- ---- modules by their names

  module _ (seen : List Meaning) (symbols : Leads) where
    -- a name means the same to both
    abbrev pub AreBoth : Option (Option Outside) → Option (Option FlatFace) → Type 0
    AreBoth None None = Unit {0}
    AreBoth (Some outside) (Some face) = IsNestedKnown seen symbols outside face
    AreBoth _ _ = ⊥

    pub known-both : (modules : Environment Outside) (faces : Environment FlatFace) (name : List ℕ) → AreNestedKnown seen symbols modules faces → AreBoth (module_meaning modules name) (module_meaning faces name)
    known-both [] [] name all = tt
    known-both (m ∷ modules) (f ∷ faces) name all =
        subst (λ key. AreBoth (cond (bytes_eq name m.0) (Some m.1) (module_meaning modules name)) (cond (bytes_eq name key) (Some f.1) (module_meaning faces name))) all.0
        (by_name (bytes_eq name m.0) (known-both modules faces name all.2))
      where
        by_name : (b : Bool) → AreBoth (module_meaning modules name) (module_meaning faces name) → AreBoth (cond b (Some m.1) (module_meaning modules name)) (cond b (Some f.1) (module_meaning faces name))
        by_name true others = all.1
        by_name false others = others
    known-both [] (f ∷ faces) name all = absurd all
    known-both (m ∷ modules) [] name all = absurd all

    behind-all : (modules : Environment Outside) (faces : Environment FlatFace) (name : List ℕ) (outside : Option Outside) (face : Option FlatFace) → AreNestedKnown seen symbols modules faces → IsNestedKnown seen symbols outside face → AreNestedKnown seen symbols (modules ++ (name, outside) ∷ []) (faces ++ (name, face) ∷ [])
    behind-all [] [] name outside face all one = (refl, one, tt)
    behind-all (m ∷ modules) (f ∷ faces) name outside face all one = (all.0, all.1, behind-all modules faces name outside face all.2 one)
    behind-all [] (f ∷ faces) name outside face all one = absurd all
    behind-all (m ∷ modules) [] name outside face all one = absurd all

    both-some : (a : Option (Option Outside)) (b : Option (Option FlatFace)) → AreBoth a b → is_some a ≡ is_some b
    both-some None None both = refl
    both-some (Some outside) (Some face) both = refl
    both-some None (Some face) both = absurd both
    both-some (Some outside) None both = absurd both

    -- one more, unless its name is there
    pub added-known : (modules : Environment Outside) (faces : Environment FlatFace) (name : List ℕ) (outside : Option Outside) (face : Option FlatFace) → AreNestedKnown seen symbols modules faces → IsNestedKnown seen symbols outside face → AreNestedKnown seen symbols (added bytes_eq modules name outside) (added bytes_eq faces name face)
    added-known modules faces name outside face all one =
        subst (λ b. AreNestedKnown seen symbols (added bytes_eq modules name outside) (cond b faces (faces ++ (name, face) ∷ []))) (both-some (module_meaning modules name) (module_meaning faces name) (known-both modules faces name all))
        (by_there (is_some (module_meaning modules name)))
      where
        by_there : (b : Bool) → AreNestedKnown seen symbols (cond b modules (modules ++ (name, outside) ∷ [])) (cond b faces (faces ++ (name, face) ∷ []))
        by_there true = all
        by_there false = behind-all modules faces name outside face all one

  -- ---- the module of a name

  -- where symbols lead by themselves, and the new names of a tree were not seen
  pub named-face : (seen : List Meaning) (symbols leads : Leads) (new : Meaning → Bool) (files : List ℕ → FlatFace) (outsides : List ℕ → Outside) (name : List ℕ) (outside : Option (Option Outside)) (face : Option (Option FlatFace)) → ((m : Meaning) → new m ≡ true → not (is_seen seen m) ≡ true) → ((nested : Option FlatFace) → face ≡ Some nested → (m : Meaning) → (symbols m [] ≡ nowhere) ⊎ (leads m [] ≡ symbols m [])) → AreBoth seen symbols outside face → (face ≡ None → IsFaceBy flat new leads (face_under files None name) (module_under outsides outside name)) → IsFaceBy flat new leads (face_under files face name) (module_under outsides outside name)
  named-face seen symbols leads new files outsides name None None fewer lead both file = file refl
  named-face seen symbols leads new files outsides name (Some None) (Some None) fewer lead both file = no-face-by new leads
  named-face seen symbols leads new files outsides name (Some (Some outside)) (Some (Some face)) fewer lead both file =
      face-moved (λ m. not (is_seen seen m)) new symbols leads face outside fewer (lead (Some face) refl) both.0
  named-face seen symbols leads new files outsides name (Some None) (Some (Some face)) fewer lead both file = absurd both
  named-face seen symbols leads new files outsides name (Some (Some outside)) (Some None) fewer lead both file = absurd both
  named-face seen symbols leads new files outsides name None (Some face) fewer lead both file = absurd both
  named-face seen symbols leads new files outsides name (Some outside) None fewer lead both file = absurd both

  -- a module of a name is extended, where its own symbols have places
  pub named-extended : (seen : List Meaning) (leads symbols : Leads) (files : List ℕ → FlatFace) (outsides : List ℕ → Outside) (name : List ℕ) (outside : Option (Option Outside)) (face : Option (Option FlatFace)) → AreBoth seen symbols outside face
      → (face ≡ None → IsExtendedBy flat leads symbols (face_under files None name) (module_under outsides outside name))
      → ((nested : Option FlatFace) → face ≡ Some nested → AllByRecursion (λ m. IsPlaced symbols m × (leads m [] ≡ symbols m [])) (symbols_of (module_under outsides outside name)))
      → IsExtendedBy flat leads symbols (face_under files face name) (module_under outsides outside name)
  named-extended seen leads symbols files outsides name None None both file placed = file refl
  named-extended seen leads symbols files outsides name (Some None) (Some None) both file placed = no-extended-by leads symbols
  named-extended seen leads symbols files outsides name (Some (Some outside)) (Some (Some face)) both file placed = extended-so leads symbols face outside both.1 (placed (Some face) refl)
  named-extended seen leads symbols files outsides name (Some None) (Some (Some face)) both file placed = absurd both
  named-extended seen leads symbols files outsides name (Some (Some outside)) (Some None) both file placed = absurd both
  named-extended seen leads symbols files outsides name None (Some face) both file placed = absurd both
  named-extended seen leads symbols files outsides name (Some outside) None both file placed = absurd both

-- ---- entries that stand behind an instance

-- an entry that is brought is one under its name
pub brought-entry : (entries : Exports) (name : Named) (m : Meaning) → HaveOwnNames entries → entry_of (instantiable entries) name ≡ Some m → (entry_of entries name ≡ Some m) × (is_meant stands_behind m ≡ true)
brought-entry [] name m own is = cc is
brought-entry (entry ∷ rest) name m own is = by_kind (is_meant stands_behind entry.1) refl (brought-entry rest name m own.1) is
  where
    none-behind : (others : Exports) → AllByRecursion (λ (other : Named × Meaning). entry.0 ≡ other.0 → ⊥) others → name ≡ entry.0 → entry_of others name ≡ Some m → ⊥
    none-behind [] apart same found = cc found
    none-behind (other ∷ others) apart same found = by_name (same_named name other.0) refl found (none-behind others apart.1 same)
      where
        by_name : (b : Bool) → same_named name other.0 ≡ b → cond b (Some other.1) (entry_of others name) ≡ Some m → (entry_of others name ≡ Some m → ⊥) → ⊥
        by_name true e here again = apart.0 (sym same ∙ named-equal name other.0 e)
        by_name false e here again = again here

    later : (entry_of rest name ≡ Some m) × (is_meant stands_behind m ≡ true) → (entry_of (entry ∷ rest) name ≡ Some m) × (is_meant stands_behind m ≡ true)
    later (found, behind) = (by_name (same_named name entry.0) refl, behind)
      where
        by_name : (b : Bool) → same_named name entry.0 ≡ b → cond b (Some entry.1) (entry_of rest name) ≡ Some m
        by_name true e = absurd (none-behind rest own.0 (named-equal name entry.0 e) found)
        by_name false e = found

    by_here : (b : Bool) → same_named name entry.0 ≡ b → is_meant stands_behind entry.1 ≡ true → (entry_of (instantiable rest) name ≡ Some m → (entry_of rest name ≡ Some m) × (is_meant stands_behind m ≡ true)) → cond b (Some entry.1) (entry_of (instantiable rest) name) ≡ Some m → (entry_of (entry ∷ rest) name ≡ Some m) × (is_meant stands_behind m ≡ true)
    by_here true e behind again here = let same : entry.1 ≡ m = cc here in (ap (λ b. cond b (Some entry.1) (entry_of rest name)) e ∙ here, ap (is_meant stands_behind) (sym same) ∙ behind)
    by_here false e behind again here = later (again here)

    by_kind : (b : Bool) → is_meant stands_behind entry.1 ≡ b → (entry_of (instantiable rest) name ≡ Some m → (entry_of rest name ≡ Some m) × (is_meant stands_behind m ≡ true)) → entry_of (cond b (entry ∷ instantiable rest) (instantiable rest)) name ≡ Some m → (entry_of (entry ∷ rest) name ≡ Some m) × (is_meant stands_behind m ≡ true)
    by_kind true e again here = by_here (same_named name entry.0) refl e again here
    by_kind false e again here = later (again here)

-- ---- what is known of nested modules at a unit

-- the symbols of a nested module are those of the module round it, and its own
abbrev pub SymbolsNest : (Meaning → Stand) → List Meaning → List Current → List Setting → Type 0
SymbolsNest symbols frame [] [] = Unit {0}
SymbolsNest symbols frame (outer ∷ outers) (setting ∷ round) =
    ((own : List Meaning) × (frame ≡ setting.frame ++ own) × (symbols ≡ with_own outer.symbols (own-at own (length setting.frame)))) × SymbolsNest outer.symbols setting.frame outers round
SymbolsNest symbols frame _ _ = ⊥

-- of symbols of the modules round a place nothing is said that were not seen
abbrev pub AreUnsaid : List Meaning → List Current → Type 0
AreUnsaid seen outers = AllByRecursion (λ (outer : Current). (m : Meaning) → is_seen seen m ≡ false → outer.symbols m ≡ unsaid_stand m) outers

-- nested modules that can be named are what is asked of them, here and round a nested module
pub record HoldsNested (flat : FlatModule) (modules : Scope Outside) (frame : List Meaning) (round : List Setting) (faces : Scope FlatFace) (seen : List Meaning) (symbols : Meaning → Stand) (outers : List Current) : Type 0 where
  pub nest : SymbolsNest symbols frame outers round
  pub built : is_seen seen BuiltIn ≡ true
  pub unsaid : (m : Meaning) → is_seen seen m ≡ false → symbols m ≡ unsaid_stand m
  pub unsaid_round : AreUnsaid seen outers
  pub here : AreNestedKnown flat seen (symbol_leads round frame) modules.here faces.here
  pub behind : AreRoundKnown flat seen modules.round faces.round round

unseen-less : (seen more : List Meaning) → ((m : Meaning) → is_seen seen m ≡ true → is_seen more m ≡ true) → (m : Meaning) → is_seen more m ≡ false → is_seen seen m ≡ false
unseen-less seen more seen-more m none = by_seen (is_seen seen m) refl
  where
    by_seen : (b : Bool) → is_seen seen m ≡ b → b ≡ false
    by_seen true is = let never : true ≡ false = sym (seen-more m is) ∙ none in cc never
    by_seen false is = refl

pub unsaid-more : (seen more : List Meaning) → ((m : Meaning) → is_seen seen m ≡ true → is_seen more m ≡ true) → (outers : List Current) → AreUnsaid seen outers → AreUnsaid more outers
unsaid-more seen more seen-more [] all = tt
unsaid-more seen more seen-more (outer ∷ outers) all = ((λ m none. all.0 m (unseen-less seen more seen-more m none)), unsaid-more seen more seen-more outers all.1)

-- where more was seen
pub nested-more : (flat : FlatModule) (modules : Scope Outside) (frame : List Meaning) (round : List Setting) (faces : Scope FlatFace) (seen more : List Meaning) (symbols : Meaning → Stand) (outers : List Current) → ((m : Meaning) → is_seen seen m ≡ true → is_seen more m ≡ true) → HoldsNested flat modules frame round faces seen symbols outers → HoldsNested flat modules frame round faces more symbols outers
nested-more flat modules frame round faces seen more symbols outers seen-more holds =
    record {
      nest = holds.nest;
      built = seen-more BuiltIn holds.built;
      unsaid = λ m none. holds.unsaid m (unseen-less seen more seen-more m none);
      unsaid_round = unsaid-more seen more seen-more outers holds.unsaid_round;
      here = all-more flat seen more seen-more (symbol_leads round frame) (symbol_leads round frame) modules.here faces.here (λ m. inr refl) holds.here;
      behind = round-more flat seen more seen-more modules.round faces.round round holds.behind;
    }

-- with a face for the module that ends
pub nested-ends : (flat : FlatModule) (here : Environment Outside) (modules : List (List ℕ × Environment Outside)) (now : Environment FlatFace) (faces : List (List ℕ × Environment FlatFace)) (outer : Setting) (round : List Setting) (seen : List Meaning) (outside : Outside) (face : FlatFace) → AreRoundKnown flat seen modules faces (outer ∷ round) → IsNestedKnown flat seen (symbol_leads round outer.frame) (Some outside) (Some face)
    → AreNestedKnown flat seen (symbol_leads round outer.frame) (ended outside here modules).here (ended face now faces).here × AreRoundKnown flat seen (ended outside here modules).round (ended face now faces).round round
nested-ends flat here [] now [] outer round seen outside face all is = absurd all
nested-ends flat here [] now (f ∷ faces) outer round seen outside face all is = absurd all
nested-ends flat here (m ∷ modules) now [] outer round seen outside face all is = absurd all
nested-ends flat here (m ∷ modules) now (f ∷ faces) outer round seen outside face all is = (
  subst (λ key. AreNestedKnown flat seen (symbol_leads round outer.frame) (added bytes_eq m.1 m.0 (Some outside)) (added bytes_eq f.1 key (Some face))) all.0
      (added-known flat seen (symbol_leads round outer.frame) m.1 f.1 m.0 (Some outside) (Some face) all.1 is),
  all.2,
)
