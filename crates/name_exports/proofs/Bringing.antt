-- Entries that other modules bring.
use Rattle.std.proofs.Common.{◌≡◌, ℕ, Bool, true, false, cond, ◌||◌, List, [], ◌∷◌, ◌++◌, Option, Some, None, refl, ap, sym, subst, ◌∙◌}
use Rattle.std.proofs.lemmas.List.Elements.{filter-append}
use Rattle.tla_model.specs.Contexts.{Context}
use Rattle.tla_model.specs.Tables.{Named, Word, put}
use Rattle.tla_model.specs.Entities.{Meaning}
use Rattle.tla_model.specs.EntityKinds.{is_meant, stands_behind}
use Rattle.tla_model.specs.declared.ids.UnitId.{UnitId}
use Rattle.module_model.specs.Exports.{Exports, instantiable, of_words}
use Rattle.module_model.specs.Modules.{Reading, brings_clash, clashes, joined, with_entry}
use Rattle.name_exports.specs.declared.names.Names.{Names}
use Rattle.name_context.specs.AsTables.{context_of}
use Rattle.name_exports.specs.Brought.{IsBringing, IsJoined, ModuleNames, as_read, behind_through, brought, brought_through, passed_through}

or-swap : (a b c : Bool) → ((a || b) || c) ≡ (b || (a || c))
or-swap true true c = refl
or-swap true false c = refl
or-swap false true c = refl
or-swap false false c = refl

or-none : (a : Bool) → a ≡ (a || false)
or-none true = refl
or-none false = refl

or-assoc : (a b c : Bool) → (a || (b || c)) ≡ ((a || b) || c)
or-assoc true b c = refl
or-assoc false b c = refl

-- ---- whether something clashes is told by the context, whether it is exported or not

-- the context with an entry that another module brings
abbrev seen-with : Context → Named × Meaning → Context
seen-with context entry = cond (clashes context entry) context (put context entry.0 (Some entry.1))

seen-brought : (local : Bool) (reading : Reading) (entry : Named × Meaning) → (brought local reading entry).context ≡ seen-with reading.context entry
seen-brought local reading entry = by (clashes reading.context entry)
  where
    by : (clash : Bool) → (cond clash reading (with_entry local reading entry.0 entry.1)).context ≡ cond clash reading.context (put reading.context entry.0 (Some entry.1))
    by true = refl
    by false = refl

same-clash : (a b : Reading) (entries : Exports) → a.context ≡ b.context → brings_clash a entries ≡ brings_clash b entries
same-clash a b [] same = refl
same-clash a b (entry ∷ rest) same =
    ap (λ context. clashes context entry || brings_clash (brought false a entry) rest) same
    ∙ ap (λ z. clashes b.context entry || z) (same-clash (brought false a entry) (brought false b entry) rest
    (seen-brought false a entry ∙ ap (λ context. seen-with context entry) same ∙ sym (seen-brought false b entry)))

-- so an entry that is LOCAL makes the same clash behind it
local-clash : (local : Bool) (reading : Reading) (entry : Named × Meaning) (rest : Exports) → brings_clash (brought local reading entry) rest ≡ brings_clash (brought false reading entry) rest
local-clash local reading entry rest =
    same-clash (brought local reading entry) (brought false reading entry) rest (seen-brought local reading entry ∙ sym (seen-brought false reading entry))

-- ---- entries one by one

pub bring-more : (local : Bool) (old now new : Names) (clash more : Bool) (entry : Named × Meaning) (rest all : Exports) → IsBringing local old now clash (entry ∷ rest) all →
    more ≡ clashes (context_of now.context) entry → ((title : List ℕ) → (taken : ModuleNames) → as_read title taken new ≡ brought local (as_read title taken now) entry) → IsBringing local old new (more || clash) rest all
bring-more local old now new clash more entry rest all so is reads = record {
  reads = λ title taken. ap (λ r. joined local r rest) (reads title taken) ∙ so.reads title taken;
  tells = λ title taken. or-swap more clash (brings_clash (as_read title taken new) rest)
      ∙ ap (λ m. clash || (m || brings_clash (as_read title taken new) rest)) is
      ∙ ap (λ r. clash || (clashes (context_of now.context) entry || brings_clash r rest)) (reads title taken)
      ∙ ap (λ z. clash || (clashes (context_of now.context) entry || z)) (local-clash local (as_read title taken now) entry rest)
      ∙ so.tells title taken;
}

pub bring-none : (local : Bool) (old : Names) (all : Exports) → IsBringing local old old false all all
bring-none local old all = record { reads = λ title taken. refl; tells = λ title taken. refl }

pub bring-all : (local : Bool) (old new : Names) (clash : Bool) (rest all : Exports) → rest ≡ [] → IsBringing local old new clash rest all → IsJoined local old new clash all
bring-all local old new clash rest all done so = record {
  reads = λ title taken. sym (ap (λ z. joined local (as_read title taken new) z) done) ∙ so.reads title taken;
  tells = λ title taken. or-none clash ∙ sym (ap (λ z. clash || brings_clash (as_read title taken new) z) done) ∙ so.tells title taken;
}

joined-append : (local : Bool) (reading : Reading) (a b : Exports) → joined local (joined local reading a) b ≡ joined local reading (a ++ b)
joined-append local reading [] b = refl
joined-append local reading (entry ∷ a) b = joined-append local (brought local reading entry) a b

clash-append : (local : Bool) (reading : Reading) (a b : Exports) → (brings_clash reading a || brings_clash (joined local reading a) b) ≡ brings_clash reading (a ++ b)
clash-append local reading [] b = refl
clash-append local reading (entry ∷ a) b =
    ap (λ z. (clashes reading.context entry || z) || brings_clash (joined local (brought local reading entry) a) b) (sym (local-clash local reading entry a))
    ∙ sym (or-assoc (clashes reading.context entry) (brings_clash (brought local reading entry) a) (brings_clash (joined local (brought local reading entry) a) b))
    ∙ ap (λ z. clashes reading.context entry || z) (clash-append local (brought local reading entry) a b)
    ∙ ap (λ z. clashes reading.context entry || z) (local-clash local reading entry (a ++ b))

pub bring-both : (local : Bool) (old mid new : Names) (first second : Bool) (a b : Exports) → IsJoined local old mid first a → IsJoined local mid new second b → IsJoined local old new (first || second) (a ++ b)
bring-both local old mid new first second a b one two = record {
  reads = λ title taken. two.reads title taken ∙ ap (λ r. joined local r b) (one.reads title taken) ∙ joined-append local (as_read title taken old) a b;
  tells = λ title taken. ap (λ z. z || second) (one.tells title taken) ∙ ap (λ z. brings_clash (as_read title taken old) a || z) (two.tells title taken ∙ ap (λ r. brings_clash r b) (one.reads title taken)) ∙ clash-append local (as_read title taken old) a b;
}

-- a stretch of entries at a time
pub bring-stretch : (local : Bool) (old now new : Names) (clash more : Bool) (stretch before rest all : Exports) → before ≡ stretch ++ rest → IsBringing local old now clash before all → IsJoined local now new more stretch → IsBringing local old new (clash || more) rest all
bring-stretch local old now new clash more stretch before rest all at so one = record {
  reads = λ title taken. ap (λ r. joined local r rest) (one.reads title taken) ∙ joined-append local (as_read title taken now) stretch rest ∙ sym (ap (λ z. joined local (as_read title taken now) z) at) ∙ so.reads title taken;
  tells = λ title taken. sym (or-assoc clash more (brings_clash (as_read title taken new) rest))
      ∙ ap (λ z. clash || (z || brings_clash (as_read title taken new) rest)) (one.tells title taken)
      ∙ ap (λ r. clash || (brings_clash (as_read title taken now) stretch || brings_clash r rest)) (one.reads title taken)
      ∙ ap (λ z. clash || z) (clash-append local (as_read title taken now) stretch rest)
      ∙ sym (ap (λ z. clash || brings_clash (as_read title taken now) z) at) ∙ so.tells title taken;
}

pub of_words-append : (a b : List (List ℕ × Meaning)) → of_words (a ++ b) ≡ of_words a ++ of_words b
of_words-append [] b = refl
of_words-append (entry ∷ a) b = ap (λ z. (Word entry.0, entry.1) ∷ z) (of_words-append a b)

pub bring-at : (old now new : Names) (clash more : Bool) (entry : Named × Meaning) (before rest all : Exports) → before ≡ entry ∷ rest → IsBringing false old now clash before all →
    more ≡ clashes (context_of now.context) entry → ((title : List ℕ) → (taken : ModuleNames) → as_read title taken new ≡ brought false (as_read title taken now) entry) → IsBringing false old new (more || clash) rest all
bring-at old now new clash more entry before rest all at so is reads = bring-more false old now new clash more entry rest all (subst (λ z. IsBringing false old now clash z all) at so) is reads

-- an entry that doesn't clash
pub bring-new : (local : Bool) (old new : Names) (name : Named) (meaning : Meaning) → false ≡ clashes (context_of old.context) (name, meaning) → ((title : List ℕ) → (taken : ModuleNames) → as_read title taken new ≡ with_entry local (as_read title taken old) name meaning) →
    (title : List ℕ) → (taken : ModuleNames) → as_read title taken new ≡ brought local (as_read title taken old) (name, meaning)
bring-new local old new name meaning fits reads = λ title taken. reads title taken ∙ ap (λ z. cond z (as_read title taken old) (with_entry local (as_read title taken old) name meaning)) fits

-- ---- entries through an INSTANCE without a name

-- one entry, if an INSTANCE brings it
pub bring-one : (local : Bool) (old new : Names) (clash : Bool) (entry : Named × Meaning) → clash ≡ clashes (context_of old.context) entry →
    ((title : List ℕ) → (taken : ModuleNames) → as_read title taken new ≡ brought local (as_read title taken old) entry) → IsJoined local old new clash (entry ∷ [])
bring-one local old new clash entry is reads = record { reads = reads; tells = λ title taken. is ∙ or-none (clashes (context_of old.context) entry) }

pub bring-nothing : (local : Bool) (old : Names) → IsJoined local old old false []
bring-nothing local old = record { reads = λ title taken. refl; tells = λ title taken. refl }

through-append : (unit : Option UnitId) (a b : Exports) → brought_through unit (a ++ b) ≡ brought_through unit a ++ brought_through unit b
through-append None a b = refl
through-append (Some unit) [] b = refl
through-append (Some unit) (entry ∷ a) b = ap (λ z. (entry.0, passed_through (Some unit) entry.1) ∷ z) (through-append (Some unit) a b)

pub behind-append : (unit : Option UnitId) (a b : Exports) → behind_through unit (a ++ b) ≡ behind_through unit a ++ behind_through unit b
behind-append unit a b = ap (brought_through unit) (filter-append (λ entry. is_meant stands_behind entry.1) a b) ∙ through-append unit (instantiable a) (instantiable b)

-- one entry behind an INSTANCE
pub behind-one : (unit : Option UnitId) (name : Named) (meaning : Meaning) → is_meant stands_behind meaning ≡ true → behind_through unit ((name, meaning) ∷ []) ≡ (name, passed_through unit meaning) ∷ []
behind-one unit name meaning is = ap (λ (kept : Bool). brought_through unit (cond kept ((name, meaning) ∷ []) [])) is ∙ one unit
  where
    one : (unit : Option UnitId) → brought_through unit ((name, meaning) ∷ []) ≡ (name, passed_through unit meaning) ∷ []
    one None = refl
    one (Some unit) = refl

pub behind-none : (unit : Option UnitId) (name : Named) (meaning : Meaning) → is_meant stands_behind meaning ≡ false → behind_through unit ((name, meaning) ∷ []) ≡ []
behind-none unit name meaning is = ap (λ (kept : Bool). brought_through unit (cond kept ((name, meaning) ∷ []) [])) is ∙ none unit
  where
    none : (unit : Option UnitId) → brought_through unit [] ≡ []
    none None = refl
    none (Some unit) = refl

-- the first of entries, and those that come then
pub behind-next : (unit : Option UnitId) (before : Exports) (name : Named) (meaning : Meaning) (rest : Exports) → before ≡ (name, meaning) ∷ rest →
    behind_through unit before ≡ behind_through unit ((name, meaning) ∷ []) ++ behind_through unit rest
behind-next unit before name meaning rest is = ap (behind_through unit) is ∙ behind-append unit ((name, meaning) ∷ []) rest

-- one more entry, if an INSTANCE brings it
pub bring-behind : (local : Bool) (old now new : Names) (clash more : Bool) (unit : Option UnitId) (before : Exports) (name : Named) (meaning : Meaning) (rest all : Exports) → before ≡ (name, meaning) ∷ rest →
    IsBringing local old now clash (behind_through unit before) all → IsJoined local now new more (behind_through unit ((name, meaning) ∷ [])) → IsBringing local old new (clash || more) (behind_through unit rest) all
bring-behind local old now new clash more unit before name meaning rest all is so one =
    bring-stretch local old now new clash more (behind_through unit ((name, meaning) ∷ [])) (behind_through unit before) (behind_through unit rest) all (behind-next unit before name meaning rest is) so one

-- what an INSTANCE brings of entries in two rows, and in three
pub join-two : (local : Bool) (unit : Option UnitId) (old mid new : Names) (first second : Bool) (a b : Exports) →
    IsJoined local old mid first (behind_through unit a) → IsJoined local mid new second (behind_through unit b) → IsJoined local old new (first || second) (behind_through unit (a ++ b))
join-two local unit old mid new first second a b one two =
    subst (IsJoined local old new (first || second)) (sym (behind-append unit a b)) (bring-both local old mid new first second (behind_through unit a) (behind_through unit b) one two)

pub join-three : (local : Bool) (unit : Option UnitId) (old mid late new : Names) (first second third : Bool) (a b c : Exports) →
    IsJoined local old mid first (behind_through unit a) → IsJoined local mid late second (behind_through unit b) → IsJoined local late new third (behind_through unit c) →
    IsJoined local old new ((first || second) || third) (behind_through unit ((a ++ b) ++ c))
join-three local unit old mid late new first second third a b c one two three =
    join-two local unit old late new (first || second) third (a ++ b) c (join-two local unit old mid late first second a b one two) three
