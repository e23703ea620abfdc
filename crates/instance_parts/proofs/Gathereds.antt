-- What is gathered stays so while more is gathered.
use Rattle.std.proofs.Common.{◌≡◌, ◌<◌, ◌≤◌, ◌+◌, ℕ, zero, suc, arith, length, Bool, true, false, cond, List, [], ◌∷◌, Option, Some, None, is_some, refl, ap, sym, subst, ◌∙◌, true≢false}
use Rattle.std.specs.Prelude.{◌&&◌, ◌++◌, map, nat_eq, slice_get}
use Rattle.tla_symbols.specs.declared.op.Op.{Op}
use Rattle.std.proofs.lemmas.Slice.Eq.{bytes_eq-Decides}
use Rattle.std.proofs.lemmas.Bool.Decides.{nat_tests}
use Rattle.tla_model.specs.declared.ids.DeclId.{DeclId}
use Rattle.tla_model.specs.declared.ids.Callee.{Callee}
use Rattle.tla_model.specs.declared.names.Meaning.TheVariants.{Declared}
use Rattle.tla_model.specs.Entities.{Entity, Meaning, same_decl}
use Rattle.tla_model.specs.EntityKinds.{is_instance, is_meant, words_meant}
use Rattle.tla_model.specs.Tables.{Named, Symbol, Table, Word, lookup, same_named}
use Rattle.tla_model.specs.Same.{decl-equal}
use Rattle.module_model.specs.Exports.{Exports, entry_of, exports_of, of_symbols, of_words}
use Rattle.module_model.specs.Given.{AreReached}
use Rattle.tree_tasks.specs.declared.held.Held.{Held}
use Rattle.instance_parts.specs.declared.reached.Gathering.{Gathering}
use Rattle.instance_leads.specs.declared.ended.Ended.{Ended}
use Rattle.instance_scope.specs.declared.scope.Scope.{Scope}
use Rattle.instance_parts.specs.Gathered.{AreDoneFrom, AreRooted, HasDone, HasGained, HasRoot, HasRoots, IsGrown, StayFrom, told_in}
use Rattle.instance_parts.specs.Gathering.{exported_at}
use Rattle.instance_leads.specs.Leading.{Leads}
use Rattle.instance_scope.specs.Scoped.{known_of}
use Rattle.instance_parts.proofs.Gathers.{closed-on}
use Rattle.instance_parts.proofs.Reaching.{AreDone}

pub grown-not : (g : Gathering) → IsGrown g g
grown-not g = record { scope = refl; grown = record { told = λ decl entries is. is; seen = λ number is. is } }

pub grown-on : (a b c : Gathering) → IsGrown a b → IsGrown b c → IsGrown a c
grown-on a b c one two = record {
  scope = two.scope ∙ one.scope;
  grown = record { told = λ decl entries is. two.grown.told decl entries (one.grown.told decl entries is); seen = λ number is. two.grown.seen number (one.grown.seen number is) };
}

pub stay-not : (count : ℕ) (g : Gathering) → StayFrom count g g
stay-not count g number within is = is

pub stay-on : (count : ℕ) (a b c : Gathering) → StayFrom count a b → StayFrom count b c → StayFrom count a c
stay-on count a b c one two number within is = one number within (two number within is)

pub gained-on : (old new : Gathering) → IsGrown old new → (decl : DeclId) (held : Held) → HasGained old decl held → HasGained new decl held
gained-on old new grown decl held gained = record {
  is = grown.grown.told decl _ gained.is ∙ ap (λ (s : Scope). Some (exported_at s.nested.items held)) (sym grown.scope);
  closed = closed-on (told_in old) (told_in new) old.seen.items new.seen.items grown.grown held gained.closed;
}

pub root-on : (old new : Gathering) → IsGrown old new → (decl : DeclId) → HasRoot old decl → HasRoot new decl
root-on old new grown decl root = record {
  held = root.held;
  known = ap (λ (s : Scope). lookup same_decl s.known decl) grown.scope ∙ root.known;
  gained = gained-on old new grown decl root.held root.gained;
}

pub some-none : {A : Type 0} {found : Option A} → found ≡ None → is_some found ≡ true → ⊥
some-none none there = cc

pub ended-same : (a b : Ended) → Some a ≡ Some b → a ≡ b
ended-same a b e = cc

-- what a table holds stands at some place of it
pub record StandsAt (leads : Leads) (decl : DeclId) (held : Held) : Type 0 where
  pub place : ℕ
  pub within : place < length leads
  pub is : slice_get leads place ≡ Some (decl, held)

pub stands-at : (leads : Leads) (decl : DeclId) (held : Held) → lookup same_decl leads decl ≡ Some held → StandsAt leads decl held
stands-at [] decl held is = cc
stands-at (lead ∷ leads) decl held is = by (same_decl decl lead.0) refl is (stands-at leads decl held)
  where
    by : (b : Bool) → same_decl decl lead.0 ≡ b → cond b (Some lead.1) (lookup same_decl leads decl) ≡ Some held → (lookup same_decl leads decl ≡ Some held → StandsAt leads decl held) → StandsAt (lead ∷ leads) decl held
    by true same is rest = record { place = zero; within = omega arith; is = ap Some (λ i. (sym (decl-equal decl lead.0 same) i, some-held lead.1 held is i)) }
      where
        some-held : (a b : Held) → Some a ≡ Some b → a ≡ b
        some-held a b e = cc
    by false same is rest = let there = rest is in record { place = suc there.place; within = let less = there.within in omega (arith, less); is = there.is }

-- and what stands in it is found
pub found-at : (leads : Leads) (place : ℕ) (decl : DeclId) (held : Held) → slice_get leads place ≡ Some (decl, held) → is_some (lookup same_decl leads decl) ≡ true
found-at [] place decl held is = cc
found-at (lead ∷ leads) zero decl held is = ap (λ (l : DeclId × Held). is_some (cond (same_decl decl l.0) (Some lead.1) (lookup same_decl leads decl))) (some-lead lead (decl, held) is) ∙ ap (λ b. is_some (cond b (Some lead.1) (lookup same_decl leads decl))) (itself decl)
  where
    some-lead : (a b : DeclId × Held) → Some a ≡ Some b → a ≡ b
    some-lead a b e = cc

    itself : (d : DeclId) → same_decl d d ≡ true
    itself d = ap (λ b. b && nat_eq d.place d.place) ((bytes_eq-Decides d.«module» d.«module»).1 refl) ∙ number d.place
      where
        number : (n : ℕ) → nat_eq n n ≡ true
        number n = grind (arith, nat_tests)
found-at (lead ∷ leads) (suc place) decl held is = by (same_decl decl lead.0) (found-at leads place decl held is)
  where
    by : (b : Bool) → is_some (lookup same_decl leads decl) ≡ true → is_some (cond b (Some lead.1) (lookup same_decl leads decl)) ≡ true
    by true rest = refl
    by false rest = rest

-- one instance more of a table
module _ (old new : Gathering) (grown : IsGrown old new) (leads : Leads) (index : ℕ) (here : DeclId) (noted held : Held) (at : slice_get leads index ≡ Some (here, noted)) (found : lookup same_decl leads here ≡ Some held) (gained : HasGained new here held)
    (before : (place : ℕ) (decl : DeclId) (noted held : Held) → place < index → slice_get leads place ≡ Some (decl, noted) → lookup same_decl leads decl ≡ Some held → HasGained old decl held) where
  pub done-more : (place : ℕ) (decl : DeclId) (other that : Held) → place < index + 1 → slice_get leads place ≡ Some (decl, other) → lookup same_decl leads decl ≡ Some that → HasGained new decl that
  done-more place decl other that within is looked = by (nat_eq place index) refl
    where
      by : (b : Bool) → nat_eq place index ≡ b → HasGained new decl that
      by true same =
          let equal : place ≡ index = grind (arith, nat_tests, same) in
          let one : decl ≡ here = first-of (decl, other) (here, noted) (sym is ∙ ap (slice_get leads) equal ∙ at) in
          subst (λ h. HasGained new decl h) (that-held held that (sym found ∙ ap (lookup same_decl leads) (sym one) ∙ looked)) (subst (λ d. HasGained new d held) (sym one) gained)
        where
          first-of : (a b : DeclId × Held) → Some a ≡ Some b → a.0 ≡ b.0
          first-of a b e = ap (λ (p : DeclId × Held). p.0) (pair-of a b e)
            where
              pair-of : (a b : DeclId × Held) → Some a ≡ Some b → a ≡ b
              pair-of a b e = cc

          that-held : (a b : Held) → Some a ≡ Some b → a ≡ b
          that-held a b e = cc
      by false apart = gained-on old new grown decl that (before place decl other that (grind (arith, nat_tests, apart, within)) is looked)

-- all of a table, once its end is reached
pub done-all : (g : Gathering) (leads : Leads) (index : ℕ) → length leads ≤ index →
    ((place : ℕ) (decl : DeclId) (noted held : Held) → place < index → slice_get leads place ≡ Some (decl, noted) → lookup same_decl leads decl ≡ Some held → HasGained g decl held) →
    (decl : DeclId) (held : Held) → lookup same_decl leads decl ≡ Some held → HasGained g decl held
done-all g leads index end before decl held found =
    let there = stands-at leads decl held found in
    before there.place decl held held (let less = there.within in omega (arith, less, end)) there.is found

-- ---- nested modules, from the last one on

pub unseen-done : (g : Gathering) (number : ℕ) → (slice_get g.seen.items number ≡ Some true → ⊥) → AreDoneFrom (number + 1) g → AreDoneFrom number g
unseen-done g number unseen done other ended within is seen = by (nat_eq other number) refl
  where
    by : (b : Bool) → nat_eq other number ≡ b → HasDone g ended
    by true same = let equal : other ≡ number = grind (arith, nat_tests, same) in absurd (unseen (ap (slice_get g.seen.items) (sym equal) ∙ seen))
    by false apart = done other ended (grind (arith, nat_tests, apart, within)) is seen

pub seen-done : (old new : Gathering) (number : ℕ) → IsGrown old new → StayFrom number old new → ((ended : Ended) → slice_get old.scope.now.nested.items number ≡ Some ended → HasDone new ended) → AreDoneFrom (number + 1) old → AreDoneFrom number new
seen-done old new number grown stays here done other ended within is seen = by (nat_eq other number) refl
  where
    before : slice_get old.scope.now.nested.items other ≡ Some ended
    before = ap (λ (s : Scope). slice_get s.nested.items other) (sym grown.scope) ∙ is

    by : (b : Bool) → nat_eq other number ≡ b → HasDone new ended
    by true same = let equal : other ≡ number = grind (arith, nat_tests, same) in here ended (ap (slice_get old.scope.now.nested.items) (sym equal) ∙ before)
    by false apart = λ decl held found. gained-on old new grown decl held (done other ended (grind (arith, nat_tests, apart, within)) before (stays other within seen) decl held found)

-- ---- meanings

pub rooted-on : (old new : Gathering) → IsGrown old new → (meanings : List Meaning) → AreRooted old meanings → AreRooted new meanings
rooted-on old new grown meanings rooted place entity callee is known =
    root-on old new grown callee.decl (rooted place entity callee is (ap (λ (s : Scope). is_some (known_of s callee.decl)) (sym grown.scope) ∙ known))

-- one meaning more
pub rooted-more : (old new : Gathering) → IsGrown old new → (meanings : List Meaning) (index : ℕ) (meaning : Meaning) → slice_get meanings index ≡ Some meaning →
    ((entity : Entity) (callee : Callee) → meaning ≡ Declared entity callee → is_some (known_of old.scope.now callee.decl) ≡ true → HasRoot new callee.decl) →
    ((place : ℕ) (entity : Entity) (callee : Callee) → place < index → slice_get meanings place ≡ Some (Declared entity callee) → is_some (known_of old.scope.now callee.decl) ≡ true → HasRoot old callee.decl) →
    (place : ℕ) (entity : Entity) (callee : Callee) → place < index + 1 → slice_get meanings place ≡ Some (Declared entity callee) → is_some (known_of new.scope.now callee.decl) ≡ true → HasRoot new callee.decl
rooted-more old new grown meanings index meaning at here before place entity callee within is known = by (nat_eq place index) refl
  where
    told : is_some (known_of old.scope.now callee.decl) ≡ true
    told = ap (λ (s : Scope). is_some (known_of s callee.decl)) (sym grown.scope) ∙ known

    same-meaning : (a b : Meaning) → Some a ≡ Some b → a ≡ b
    same-meaning a b e = cc

    by : (b : Bool) → nat_eq place index ≡ b → HasRoot new callee.decl
    by true same = let equal : place ≡ index = grind (arith, nat_tests, same) in
        here entity callee (same-meaning meaning (Declared entity callee) (sym at ∙ ap (slice_get meanings) (sym equal) ∙ is)) told
    by false apart = root-on old new grown callee.decl (before place entity callee (grind (arith, nat_tests, apart, within)) is told)

below-length : {A : Type 0} (xs : List A) (place : ℕ) (x : A) → slice_get xs place ≡ Some x → place < length xs
below-length [] place x is = cc
below-length (y ∷ xs) zero x is = omega arith
below-length (y ∷ xs) (suc place) x is = let less = below-length xs place x is in omega (arith, less)

-- all of them, once their end is reached
pub rooted-all : (g : Gathering) (meanings : List Meaning) (index : ℕ) → length meanings ≤ index →
    ((place : ℕ) (entity : Entity) (callee : Callee) → place < index → slice_get meanings place ≡ Some (Declared entity callee) → is_some (known_of g.scope.now callee.decl) ≡ true → HasRoot g callee.decl) → AreRooted g meanings
rooted-all g meanings index end before place entity callee is known = before place entity callee (let less = below-length meanings place (Declared entity callee) is in omega (arith, less, end)) is known

pub not-true : (b : Bool) → b ≡ true → b ≡ false → ⊥
not-true b passes fails = absurd (true≢false (sym passes ∙ fails))

-- ---- the instances that a table names

-- where a meaning stands
record Standing (meanings : List Meaning) (meaning : Meaning) : Type 0 where
  at : ℕ
  is : slice_get meanings at ≡ Some meaning

standing-behind : (first : Meaning) (meanings : List Meaning) (meaning : Meaning) → Standing meanings meaning → Standing (first ∷ meanings) meaning
standing-behind first meanings meaning standing = record { at = suc standing.at; is = standing.is }

-- an entry that is found among symbols
in-symbols : (symbols : List (Op × Meaning)) (name : Named) (meaning : Meaning) → entry_of (of_symbols symbols) name ≡ Some meaning → Standing (map (λ (symbol : Op × Meaning). symbol.1) symbols) meaning
in-symbols [] name meaning is = cc
in-symbols (symbol ∷ symbols) name meaning is = by (same_named name (Symbol symbol.0)) is (in-symbols symbols name meaning)
  where
    by : (b : Bool) → cond b (Some symbol.1) (entry_of (of_symbols symbols) name) ≡ Some meaning → (entry_of (of_symbols symbols) name ≡ Some meaning → Standing (map (λ (s : Op × Meaning). s.1) symbols) meaning) → Standing (map (λ (s : Op × Meaning). s.1) (symbol ∷ symbols)) meaning
    by true is rest = record { at = zero; is = is }
    by false is rest = standing-behind symbol.1 (map (λ (s : Op × Meaning). s.1) symbols) meaning (rest is)

abbrev InstanceWords : List (List ℕ × Meaning) → List Meaning
InstanceWords words = map (λ (word : List ℕ × Meaning). word.1) (words_meant is_instance words)

-- an instance that is found in a table stands among its words that mean one, or among its symbols
in-table : (words : List (List ℕ × Meaning)) (symbols : List (Op × Meaning)) (name : Named) (meaning : Meaning) → is_meant is_instance meaning ≡ true → entry_of (of_words words ++ of_symbols symbols) name ≡ Some meaning →
    (P : Type 0) → (Standing (InstanceWords words) meaning → P) → (Standing (map (λ (symbol : Op × Meaning). symbol.1) symbols) meaning → P) → P
in-table [] symbols name meaning instance is P word symbol = symbol (in-symbols symbols name meaning is)
in-table (first ∷ words) symbols name meaning instance is P word symbol = by (same_named name (Word first.0)) is (in-table words symbols name meaning instance)
  where
    -- it stands further on
    further : Standing (InstanceWords words) meaning → Standing (InstanceWords (first ∷ words)) meaning
    further standing = on (is_meant is_instance first.1)
      where
        on : (b : Bool) → Standing (map (λ (w : List ℕ × Meaning). w.1) (cond b (first ∷ words_meant is_instance words) (words_meant is_instance words))) meaning
        on true = standing-behind first.1 (InstanceWords words) meaning standing
        on false = standing

    here : first.1 ≡ meaning → Standing (InstanceWords (first ∷ words)) meaning
    here same = on (is_meant is_instance first.1) (ap (is_meant is_instance) same ∙ instance)
      where
        on : (b : Bool) → b ≡ true → Standing (map (λ (w : List ℕ × Meaning). w.1) (cond b (first ∷ words_meant is_instance words) (words_meant is_instance words))) meaning
        on true e = record { at = zero; is = ap Some same }
        on false e = cc

    some-meaning : (a b : Meaning) → Some a ≡ Some b → a ≡ b
    some-meaning a b e = cc

    by : (b : Bool) → cond b (Some first.1) (entry_of (of_words words ++ of_symbols symbols) name) ≡ Some meaning →
        (entry_of (of_words words ++ of_symbols symbols) name ≡ Some meaning → (P : Type 0) → (Standing (InstanceWords words) meaning → P) → (Standing (map (λ (s : Op × Meaning). s.1) symbols) meaning → P) → P) → P
    by true is rest = word (here (some-meaning first.1 meaning is))
    by false is rest = rest is P (λ standing. word (further standing)) symbol

-- what a table names is gathered where its words and its symbols are
pub roots-of : (g : Gathering) (table : Table Meaning) → AreReached (known_of g.scope.now) (exports_of table) → AreRooted g (InstanceWords table.words) → AreRooted g (map (λ (symbol : Op × Meaning). symbol.1) table.symbols) → HasRoots g (exports_of table)
roots-of g table reached words symbols name entity callee is instance =
    in-table table.words table.symbols name (Declared entity callee) instance is (HasRoot g callee.decl)
    (λ standing. words standing.at entity callee standing.is (reached name entity callee is instance))
    (λ standing. symbols standing.at entity callee standing.is (reached name entity callee is instance))

pub roots-on : (old new : Gathering) → IsGrown old new → (shown : Exports) → HasRoots old shown → HasRoots new shown
roots-on old new grown shown roots name entity callee is instance = root-on old new grown callee.decl (roots name entity callee is instance)

-- all nested modules that are seen are done
pub all-done : (g : Gathering) → AreDoneFrom 0 g → AreDone g.scope.now (told_in g) g.seen.items
all-done g done = record { each = λ number ended is seen. done number ended (omega arith) is seen }
