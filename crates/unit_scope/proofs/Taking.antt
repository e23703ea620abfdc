-- Names that a module takes.
use Rattle.std.proofs.Common.{◌≡◌, ◌<◌, ℕ, zero, suc, List, [], ◌∷◌, ◌++◌, length, take, Option, Some, None, Bool, true, false, cond, refl, ap, sym, subst, ◌∙◌, arith}
use Rattle.std.specs.Prelude.{is_some, option_map}
use Rattle.std.specs.Str.{bytes_eq}
use Rattle.std.proofs.lemmas.List.{map-append}
use Rattle.tla_model.specs.declared.names.Binder.{Binder}
use Rattle.tla_model.specs.Contexts.{bind}
use Rattle.tla_model.specs.Entities.{Meaning, Text, meant, name_of}
use Rattle.module_model.specs.Modules.{Reading, declare, with_entry}
use Rattle.module_model.proofs.PartTables.{some-mapped}
use Rattle.tla_model.specs.Tables.{Named, Table, Word, Symbol, added, find, put}
use Rattle.module_scope.specs.Environments.{Environment, is_taken, meaning}
use Rattle.instance_leads.specs.Leading.{AreNumbered, view_at, view_of, views}
use Rattle.instance_leads.specs.declared.ended.Ended.{Ended}
use Rattle.list_laws.proofs.Lists.{all-both}
use Rattle.unit_scope.specs.EnclosingReadings.{AreEnded, IsEndedOf}

-- ---- nested modules by their numbers

module _ (nested : List Ended) where
  pub views-found : (modules : Environment ℕ) (name : List ℕ) → option_map (view_of nested) (meaning modules name) ≡ meaning (views nested modules) name
  views-found [] name = refl
  views-found (entry ∷ modules) name = by (bytes_eq name entry.0) (views-found modules name)
    where
      by : (b : Bool) → option_map (view_of nested) (meaning modules name) ≡ meaning (views nested modules) name →
          option_map (view_of nested) (cond b (Some entry.1) (meaning modules name)) ≡ cond b (Some (view_of nested entry.1)) (meaning (views nested modules) name)
      by true rest = refl
      by false rest = rest

  pub views-taken : (modules : Environment ℕ) (name : List ℕ) → is_taken modules name ≡ is_taken (views nested modules) name
  views-taken modules name = sym (some-mapped (view_of nested) (meaning modules name)) ∙ ap is_some (views-found modules name)

  pub views-added : (modules : Environment ℕ) (name : List ℕ) (found : Option ℕ) → views nested (added bytes_eq modules name found) ≡ added bytes_eq (views nested modules) name (view_of nested found)
  views-added modules name found = by (is_taken modules name) (views-taken modules name)
    where
      by : (b : Bool) → b ≡ is_taken (views nested modules) name → views nested (cond b modules (modules ++ (name, found) ∷ [])) ≡ added bytes_eq (views nested modules) name (view_of nested found)
      by true same = rw (sym same) refl
      by false same = rw (sym same) (map-append (λ (entry : List ℕ × Option ℕ). (entry.0, view_of nested entry.1)) modules ((name, found) ∷ []))

-- modules that are there stay what they are where one more is kept
view-stays : (old new : List Ended) → ((number : ℕ) → number < length old → view_at new number ≡ view_at old number) → (found : Option ℕ) → IsEndedOf (length old) found → view_of new found ≡ view_of old found
view-stays old new same None there = refl
view-stays old new same (Some number) there = ap Some (same number there)

pub views-stay : (old new : List Ended) → ((number : ℕ) → number < length old → view_at new number ≡ view_at old number) → (modules : Environment ℕ) → AreEnded (length old) modules → views new modules ≡ views old modules
views-stay old new same [] all = refl
views-stay old new same (entry ∷ modules) all = λ i. (entry.0, view-stays old new same entry.1 all.0 i) ∷ views-stay old new same modules all.1 i

-- a name that is taken stands for a nested module that has ended
pub ended-numbered : (count : ℕ) (modules : Environment ℕ) → AreEnded count modules → AreNumbered count modules
ended-numbered count [] all name number at = cc at
ended-numbered count (entry ∷ modules) all name number at = by (bytes_eq name entry.0) (ended-numbered count modules all.1 name number) at
  where
    some-ended : (found : Option ℕ) → IsEndedOf count found → Some found ≡ Some (Some number) → number < count
    some-ended None there is = cc is
    some-ended (Some other) there is = subst (λ n. n < count) (some-inside other number is) there
      where
        some-inside : (a b : ℕ) → Some (Some a) ≡ Some (Some b) → a ≡ b
        some-inside a b is = cc is

    by : (b : Bool) → (meaning modules name ≡ Some (Some number) → number < count) → cond b (Some entry.1) (meaning modules name) ≡ Some (Some number) → number < count
    by true rest is = some-ended entry.1 all.0 is
    by false rest is = rest is

pub ended-added : (count : ℕ) (modules : Environment ℕ) (name : List ℕ) (found : Option ℕ) → IsEndedOf count found → AreEnded count modules → AreEnded count (added bytes_eq modules name found)
ended-added count modules name found there all = by (is_taken modules name)
  where
    by : (b : Bool) → AreEnded count (cond b modules (modules ++ (name, found) ∷ []))
    by true = all
    by false = all-both (λ (entry : List ℕ × Option ℕ). IsEndedOf count entry.1) modules ((name, found) ∷ []) all (there, tt)

pub ended-taken : (count n : ℕ) (modules : Environment ℕ) → AreEnded count modules → AreEnded count (take n modules)
ended-taken count zero modules all = tt
ended-taken count (suc n) [] all = tt
ended-taken count (suc n) (entry ∷ modules) all = (all.0, ended-taken count n modules all.1)

one-more : (count : ℕ) (found : Option ℕ) → IsEndedOf count found → IsEndedOf (suc count) found
one-more count None there = tt
one-more count (Some number) there = omega (arith, there)

pub ended-more : (count : ℕ) (modules : Environment ℕ) → AreEnded count modules → AreEnded (suc count) modules
ended-more count [] all = tt
ended-more count (entry ∷ modules) all = (one-more count entry.1 all.0, ended-more count modules all.1)

-- ---- names

-- a name that is there stays
pub put-there : {V : Type 0} (table : Table V) (name : Named) (value : V) → is_some (find table name) ≡ true → table ≡ put table name value
put-there table (Word bytes) value there = ap (λ b. record { words = cond b table.words (table.words ++ (bytes, value) ∷ []); symbols = table.symbols }) (sym there)
put-there table (Symbol op) value there = ap (λ b. record { words = table.words; symbols = cond b table.symbols (table.symbols ++ (op, value) ∷ []) }) (sym there)

module _ (text : Text) (local : Bool) (reading : Reading) (binder : Binder) (name : Named) (is : name ≡ name_of text.source binder.name) where
  declared-there : is_some (find reading.context name) ≡ true → reading ≡ declare text local reading binder
  declared-there there =
      ap (λ z. cond z reading (with_entry local reading (name_of text.source binder.name) (meant text binder))) (sym there ∙ ap (λ n. is_some (find reading.context n)) is)

  pub there-bound : is_some (find reading.context name) ≡ true → reading.context ≡ bind text reading.context binder
  there-bound there = put-there reading.context (name_of text.source binder.name) (Some (meant text binder)) (sym (ap (λ n. is_some (find reading.context n)) is) ∙ there)

  module _ (new : Reading) (meaning : Meaning) (means : meaning ≡ meant text binder) (puts : new ≡ with_entry local reading name meaning) where
    put-as : new ≡ with_entry local reading (name_of text.source binder.name) (meant text binder)
    put-as = puts ∙ (λ i. with_entry local reading (is i) (means i))

    pub declared-new : is_some (find reading.context name) ≡ false → new ≡ declare text local reading binder
    declared-new absent = put-as ∙ ap (λ z. cond z reading (with_entry local reading (name_of text.source binder.name) (meant text binder))) (sym absent ∙ ap (λ n. is_some (find reading.context n)) is)

    pub new-bound : new.context ≡ bind text reading.context binder
    new-bound = ap (λ (r : Reading). r.context) put-as

pub declared-still : (text : Text) (local : Bool) (reading : Reading) (binder : Binder) (name : Named) → name ≡ name_of text.source binder.name → is_some (find reading.context name) ≡ true → reading ≡ declare text local reading binder
declared-still text local reading binder name is there = declared-there text local reading binder name is there
