-- What is kept of nested modules that end.
use Rattle.std.proofs.Common.{◌≡◌, ⊎_elim, ◌<◌, ◌≤◌, ℕ, suc, Bool, true, false, cond, filter, List, [], ◌∷◌, ◌++◌, Option, Some, None, is_some, get_or, length, map, not, take, refl, ap, sym, subst, ◌∙◌, true≢false, arith}
use Rattle.std.specs.Prelude.{◌+◌, slice_get}
use Rattle.std.specs.Borrow.{Bor}
use Rattle.std.specs.List.{AllByRecursion}
use Rattle.std.specs.Str.{bytes_eq}
use mathlib.Core.Path.{fun_ext}
use Rattle.std.proofs.lemmas.List.{take_more}
use Rattle.list_laws.proofs.Lists.{all-both, at-end, pushed-cases}
use Rattle.tla_symbols.specs.declared.op.Op.{Op}
use Rattle.tla_model.specs.declared.ids.DeclId.{DeclId}
use Rattle.tla_model.specs.declared.names.Meaning.TheVariants.{BuiltIn, Declared}
use Rattle.tla_model.specs.Contexts.{Context}
use Rattle.tla_model.specs.Entities.{Meaning, same_decl}
use Rattle.tla_model.specs.EntityKinds.{is_instance, is_meant, stands_for_parameter, words_meant}
use Rattle.tla_model.specs.Stretches.{shown}
use Rattle.tla_model.specs.Tables.{Named, Word, Symbol, Table, has, lookup, same_named}
use Rattle.module_model.specs.Exports.{Exports, Path, at_path, behind_meaning, entries_from, entry_of, exports_of, of_symbols, of_words, parameters_in}
use Rattle.module_model.specs.Given.{AreFaces, AreReached}
use Rattle.module_model.specs.Instances.{nested_view, own_parameters}
use Rattle.tree_tasks.specs.declared.held.Held.{Held}
use Rattle.tree_tasks.specs.declared.held.Held.TheVariants.{Nowhere}
use Rattle.instance_leads.specs.declared.ended.Ended.{Ended}
use Rattle.instance_scope.specs.declared.scope.Scope.{Scope}
use Rattle.instance_leads.specs.Found.{AreIn, AreTold, IsTold, is_new_symbol, is_new_word}
use Rattle.instance_leads.specs.Leading.{AreThere, IsNoted, IsThere, Leads, behind_at, behind_found, entries_of, known_in, leads_on, or_nowhere, parameters_shown, view_at}
use Rattle.instance_scope.specs.Scoped.{IsBroughtBy, IsEnded, IsSound, known_of}
use Rattle.instance_leads.proofs.Naming.{filter-append, kept-table, symbols_meant}
use Rattle.instance_scope.proofs.Staying.{behind-stays, known-stays, there-more, view-stays}

-- ---- what is said of instances, as more is kept

pub told-grows : (old new : Leads) (one : Meaning) → AreIn new old → IsTold (lookup same_decl old) one → IsTold (lookup same_decl new) one
told-grows old new BuiltIn kept told = tt
told-grows old new (Declared entity callee) kept told = λ is. by (lookup same_decl old callee.decl) refl (told is)
  where
    by : (found : Option Held) → lookup same_decl old callee.decl ≡ found → is_some found ≡ true → is_some (lookup same_decl new callee.decl) ≡ true
    by None is there = absurd (true≢false (sym there))
    by (Some held) is there = ap is_some (kept callee.decl held is)

pub all-grow : {A : Type 0} (of : A → Meaning) (old new : Leads) (xs : List A) → AreIn new old → AllByRecursion (λ (x : A). IsTold (lookup same_decl old) (of x)) xs → AllByRecursion (λ (x : A). IsTold (lookup same_decl new) (of x)) xs
all-grow of old new [] kept told = tt
all-grow of old new (x ∷ xs) kept told = (told-grows old new (of x) kept told.0, all-grow of old new xs kept told.1)

pub told-next : {A : Type 0} (of : A → Meaning) (old new : Leads) (xs : List A) (i : ℕ) (x : A) → i < length xs → x ≡ get_or xs i x → AreIn new old → AllByRecursion (λ (z : A). IsTold (lookup same_decl old) (of z)) (take i xs) → IsTold (lookup same_decl new) (of x) →
    AllByRecursion (λ (z : A). IsTold (lookup same_decl new) (of z)) (take (i + 1) xs)
told-next of old new xs i x lt is kept told one =
    subst (AllByRecursion (λ (z : _). IsTold (lookup same_decl new) (of z))) (ap (λ z. take i xs ++ z ∷ []) is ∙ sym (take_more xs i x lt))
    (all-both (λ (z : _). IsTold (lookup same_decl new) (of z)) (take i xs) (x ∷ []) (all-grow of old new (take i xs) kept told) (one, tt))

pub in-more : (old now new : Leads) → AreIn now old → AreIn new now → AreIn new old
in-more old now new one two = λ decl held is. two decl held (one decl held is)

-- of all that is exported, by the words that name instances, and the symbols
told-words : (leads : Leads) (words : List (List ℕ × Meaning)) → AllByRecursion (λ (word : List ℕ × Meaning). IsTold (lookup same_decl leads) word.1) (words_meant is_instance words) → AreTold (lookup same_decl leads) (of_words words)
told-words leads [] told = tt
told-words leads (word ∷ words) told = at word.1 told (told-words leads words)
  where
    other : (one : Meaning) → is_meant is_instance one ≡ false → IsTold (lookup same_decl leads) one
    other BuiltIn is = tt
    other (Declared entity callee) is = λ yes. absurd (true≢false (sym yes ∙ is))

    by : (one : Meaning) (b : Bool) → is_meant is_instance one ≡ b → AllByRecursion (λ (z : List ℕ × Meaning). IsTold (lookup same_decl leads) z.1) (cond b ((word.0, one) ∷ words_meant is_instance words) (words_meant is_instance words)) →
        (AllByRecursion (λ (z : List ℕ × Meaning). IsTold (lookup same_decl leads) z.1) (words_meant is_instance words) → AreTold (lookup same_decl leads) (of_words words)) → AreTold (lookup same_decl leads) ((Word word.0, one) ∷ of_words words)
    by one true is told rest = (told.0, rest told.1)
    by one false is told rest = (other one is, rest told)

    at : (one : Meaning) → AllByRecursion (λ (z : List ℕ × Meaning). IsTold (lookup same_decl leads) z.1) (cond (is_meant is_instance one) ((word.0, one) ∷ words_meant is_instance words) (words_meant is_instance words)) →
        (AllByRecursion (λ (z : List ℕ × Meaning). IsTold (lookup same_decl leads) z.1) (words_meant is_instance words) → AreTold (lookup same_decl leads) (of_words words)) → AreTold (lookup same_decl leads) ((Word word.0, one) ∷ of_words words)
    at one told rest = by one (is_meant is_instance one) refl told rest

told-symbols : (leads : Leads) (symbols : List (Op × Meaning)) → AllByRecursion (λ (symbol : Op × Meaning). IsTold (lookup same_decl leads) symbol.1) symbols → AreTold (lookup same_decl leads) (of_symbols symbols)
told-symbols leads [] told = tt
told-symbols leads (symbol ∷ symbols) told = (told.0, told-symbols leads symbols told.1)

told-shown : (leads : Leads) (entries : List (Bor (List ℕ) × Bor Meaning)) → AllByRecursion (λ (entry : Bor (List ℕ) × Bor Meaning). IsTold (lookup same_decl leads) entry.1.now) entries → AllByRecursion (λ (word : List ℕ × Meaning). IsTold (lookup same_decl leads) word.1) (map shown entries)
told-shown leads [] told = tt
told-shown leads (entry ∷ rest) told = (told.0, told-shown leads rest told.1)

pub told-all : (words-kept kept : Leads) (table : Table Meaning) (entries : List (Bor (List ℕ) × Bor Meaning)) (symbols : List (Op × Meaning)) → map shown entries ≡ words_meant is_instance table.words → symbols ≡ table.symbols → AreIn kept words-kept →
    AllByRecursion (λ (entry : Bor (List ℕ) × Bor Meaning). IsTold (lookup same_decl words-kept) entry.1.now) entries → AllByRecursion (λ (symbol : Op × Meaning). IsTold (lookup same_decl kept) symbol.1) symbols → AreTold (lookup same_decl kept) (exports_of table)
told-all words-kept kept table entries symbols all same grown words others =
    all-both (λ (entry : Named × Meaning). IsTold (lookup same_decl kept) entry.1) (of_words table.words) (of_symbols table.symbols)
    (told-words kept table.words (all-grow (λ (word : List ℕ × Meaning). word.1) words-kept kept (words_meant is_instance table.words) grown (subst (AllByRecursion (λ (word : List ℕ × Meaning). IsTold (lookup same_decl words-kept) word.1)) all (told-shown words-kept entries words))))
    (told-symbols kept table.symbols (subst (AllByRecursion (λ (symbol : Op × Meaning). IsTold (lookup same_decl kept) symbol.1)) same others))

-- an instance behind which something is known leads somewhere
pub known-found : (nested : List Ended) (known : Leads) (entries : Exports) → AreReached (known_in nested known) entries → AreReached (lookup same_decl known) entries
known-found nested known entries reaches = λ name entity callee at is. by (lookup same_decl known callee.decl) (reaches name entity callee at is)
  where
    by : (found : Option Held) → is_some (behind_found nested found) ≡ true → is_some found ≡ true
    by None there = absurd (true≢false (sym there))
    by (Some held) there = refl

-- ---- parameters

pub filter-next : {A B : Type 0} (keep : B → Bool) (of : List A → List B) → ((a b : List A) → of (a ++ b) ≡ of a ++ of b) → (a b : List A) → filter keep (of (a ++ b)) ≡ filter keep (of a) ++ filter keep (of b)
filter-next keep of both a b = ap (filter keep) (both a b) ∙ filter-append keep (of a) (of b)

new-words : (context : Context) (words : List (List ℕ × Meaning)) → of_words (filter (is_new_word context) words) ≡ filter (λ (entry : Named × Meaning). not (has context entry.0)) (of_words words)
new-words context [] = refl
new-words context (word ∷ words) = by (not (has context (Word word.0))) (new-words context words)
  where
    by : (b : Bool) → of_words (filter (is_new_word context) words) ≡ filter (λ (entry : Named × Meaning). not (has context entry.0)) (of_words words) →
        of_words (cond b (word ∷ filter (is_new_word context) words) (filter (is_new_word context) words)) ≡ cond b ((Word word.0, word.1) ∷ filter (λ (entry : Named × Meaning). not (has context entry.0)) (of_words words)) (filter (λ (entry : Named × Meaning). not (has context entry.0)) (of_words words))
    by true rest = ap (λ z. (Word word.0, word.1) ∷ z) rest
    by false rest = rest

new-symbols : (context : Context) (symbols : List (Op × Meaning)) → of_symbols (filter (is_new_symbol context) symbols) ≡ filter (λ (entry : Named × Meaning). not (has context entry.0)) (of_symbols symbols)
new-symbols context [] = refl
new-symbols context (symbol ∷ symbols) = by (not (has context (Symbol symbol.0))) (new-symbols context symbols)
  where
    by : (b : Bool) → of_symbols (filter (is_new_symbol context) symbols) ≡ filter (λ (entry : Named × Meaning). not (has context entry.0)) (of_symbols symbols) →
        of_symbols (cond b (symbol ∷ filter (is_new_symbol context) symbols) (filter (is_new_symbol context) symbols)) ≡ cond b ((Symbol symbol.0, symbol.1) ∷ filter (λ (entry : Named × Meaning). not (has context entry.0)) (of_symbols symbols)) (filter (λ (entry : Named × Meaning). not (has context entry.0)) (of_symbols symbols))
    by true rest = ap (λ z. (Symbol symbol.0, symbol.1) ∷ z) rest
    by false rest = rest

-- what passes a test passes it once more
twice : {A : Type 0} (p q : A → Bool) (xs : List A) → filter p (filter q (filter p xs)) ≡ filter q (filter p xs)
twice p q [] = refl
twice p q (x ∷ xs) = by (p x) refl (twice p q xs)
  where
    kept : p x ≡ true → (b : Bool) → filter p (filter q (filter p xs)) ≡ filter q (filter p xs) → filter p (cond b (x ∷ filter q (filter p xs)) (filter q (filter p xs))) ≡ cond b (x ∷ filter q (filter p xs)) (filter q (filter p xs))
    kept is true rest = ap (λ (b : Bool). cond b (x ∷ filter p (filter q (filter p xs))) (filter p (filter q (filter p xs)))) is ∙ ap (λ z. x ∷ z) rest
    kept is false rest = rest

    by : (b : Bool) → p x ≡ b → filter p (filter q (filter p xs)) ≡ filter q (filter p xs) → filter p (filter q (cond b (x ∷ filter p xs) (filter p xs))) ≡ filter q (cond b (x ∷ filter p xs) (filter p xs))
    by true is rest = kept is (q x) rest
    by false is rest = rest

pub own-all : (context : Context) (table own : Table Meaning) (entries : List (List ℕ × Meaning)) (symbols : List (Op × Meaning)) → entries ≡ words_meant stands_for_parameter table.words → symbols ≡ table.symbols →
    own.words ≡ filter (is_new_word context) entries → own.symbols ≡ filter (is_new_symbol context) (symbols_meant stands_for_parameter symbols) → parameters_in (exports_of own) ≡ own_parameters context (exports_of table)
own-all context table own entries symbols all same words others =
    let absent = λ (entry : Named × Meaning). not (has context entry.0) in
    let meant = λ (entry : Named × Meaning). is_meant stands_for_parameter entry.1 in
    let shows : exports_of own ≡ filter absent (filter meant (exports_of table)) =
    (λ i. of_words ((words ∙ ap (filter (is_new_word context)) all) i) ++ of_symbols ((others ∙ ap (λ z. filter (is_new_symbol context) (symbols_meant stands_for_parameter z)) same) i))
    ∙ (λ i. new-words context (words_meant stands_for_parameter table.words) i ++ new-symbols context (symbols_meant stands_for_parameter table.symbols) i)
    ∙ sym (filter-append absent (of_words (words_meant stands_for_parameter table.words)) (of_symbols (symbols_meant stands_for_parameter table.symbols)))
    ∙ ap (filter absent) (sym (kept-table stands_for_parameter table)) in
    ap (filter meant) shows ∙ twice meant absent (exports_of table)

-- ---- one nested module more

told-entry : (said : DeclId → Option Held) (entries : Exports) (name : Named) (one : Meaning) → AreTold said entries → entry_of entries name ≡ Some one → IsTold said one
told-entry said [] name one told is = cc
told-entry said (entry ∷ rest) name one told is = by (same_named name entry.0) is (told-entry said rest name one told.1)
  where
    same : entry.1 ≡ one → IsTold said one
    same e = subst (IsTold said) e told.0

    some : {A : Type 0} (a b : A) → Some a ≡ Some b → a ≡ b
    some a b e = cc

    by : (b : Bool) → cond b (Some entry.1) (lookup same_named rest name) ≡ Some one → (lookup same_named rest name ≡ Some one → IsTold said one) → IsTold said one
    by true is next = same (some entry.1 one is)
    by false is next = next is

module _ (scope : Scope) (ended : Ended) (sound : IsSound scope) (known : AreIn scope.known ended.instances) (told : AreTold (lookup same_decl ended.instances) (exports_of ended.exports)) where
  kept-there : AreThere scope.imported.now (length scope.nested.items) ended.instances
  kept-there decl held is = sound.known decl held (known decl held is)

  led : (path : Path) (one : Option Meaning) → ((m : Meaning) → one ≡ Some m → IsTold (lookup same_decl ended.instances) m) → behind_at (scope.nested.items ++ ended ∷ []) (leads_on ended.instances one) path ≡ behind_meaning (known_of scope) one path
  led path None said = refl
  led path (Some BuiltIn) said = refl
  led path (Some (Declared entity callee)) said = by (is_instance entity) refl
    where
      found : (place : Option Held) → lookup same_decl ended.instances callee.decl ≡ place → is_some place ≡ true → behind_at (scope.nested.items ++ ended ∷ []) (or_nowhere place) path ≡ at_path (known_of scope callee.decl) path
      found None is there = absurd (true≢false (sym there))
      found (Some held) is there =
          behind-stays scope.imported.now scope.nested.items (ended ∷ []) sound.there held path (kept-there callee.decl held is)
          ∙ ap (λ z. at_path (behind_found scope.nested.items z) path) (sym (known callee.decl held is))

      by : (b : Bool) → is_instance entity ≡ b → behind_at (scope.nested.items ++ ended ∷ []) (cond b (or_nowhere (lookup same_decl ended.instances callee.decl)) Nowhere) path ≡ cond b (at_path (known_of scope callee.decl) path) []
      by true is = found (lookup same_decl ended.instances callee.decl) refl (said (Declared entity callee) refl is)
      by false is = refl

  entries-end : (path : Path) → entries_of (scope.nested.items ++ ended ∷ []) (Some ended) path ≡ entries_from (known_of scope) (exports_of ended.exports) path
  entries-end [] = refl
  entries-end (name ∷ path) =
      led path (entry_of (exports_of ended.exports) name) (λ m is. told-entry (lookup same_decl ended.instances) (exports_of ended.exports) name m told is)

  -- it is to others what its exports and the context round it make of it
  pub view-end : (context : Context) → parameters_in (exports_of ended.parameters) ≡ own_parameters context (exports_of ended.exports) → view_at (scope.nested.items ++ ended ∷ []) (length scope.nested.items) ≡ nested_view (known_of scope) context (exports_of ended.exports)
  view-end context own =
      (λ i. record { entries = entries_of (scope.nested.items ++ ended ∷ []) (at-end scope.nested.items ended i); parameters = parameters_shown (at-end scope.nested.items ended i) })
      ∙ (λ i. record { entries = fun_ext entries-end i; parameters = own i })

  pub known-end : known_in (scope.nested.items ++ ended ∷ []) scope.known ≡ known_of scope
  known-end = known-stays scope.imported.now scope.nested.items (ended ∷ []) sound.there scope.known sound.known

length-pushed : {A : Type 0} (xs : List A) (x : A) → length (xs ++ x ∷ []) ≡ suc (length xs)
length-pushed [] x = refl
length-pushed (y ∷ xs) x = ap suc (length-pushed xs x)

-- what holds of all nested modules, and of one more
each : (P : ℕ → Ended → Type 0) (nested after : List Ended) (ended : Ended) → after ≡ nested ++ ended ∷ [] → ((number : ℕ) (one : Ended) → slice_get nested number ≡ Some one → P number one) → P (length nested) ended → (number : ℕ) (one : Ended) → slice_get after number ≡ Some one → P number one
each P nested after ended is all last = λ number one at. ⊎_elim (λ (old : slice_get nested number ≡ Some one). all number one old)
    (λ (new : (number ≡ length nested) × (ended ≡ one)). subst (λ z. P z one) (sym new.0) (subst (P (length nested)) new.1 last)) (pushed-cases nested ended one number (ap (λ z. slice_get z number) (sym is) ∙ at))

module _ (scope after : Scope) (ended : Ended) (sound : IsSound scope) (known : AreIn scope.known ended.instances) (told : AreTold (lookup same_decl ended.instances) (exports_of ended.exports))
    (items : after.nested.items ≡ scope.nested.items ++ ended ∷ []) (kept : after.known ≡ scope.known) (title : after.title.now ≡ scope.title.now) (imported : after.imported.now ≡ scope.imported.now) where
  before : (decl : DeclId) (held : Held) → lookup same_decl after.known decl ≡ Some held → lookup same_decl scope.known decl ≡ Some held
  before decl held at = ap (λ z. lookup same_decl z decl) (sym kept) ∙ at

  longer : length scope.nested.items ≤ length after.nested.items
  longer = let more : length after.nested.items ≡ suc (length scope.nested.items) = ap length items ∙ length-pushed scope.nested.items ended in omega arith

  -- all goes together behind it
  pub sound-end : IsSound after
  sound-end = record {
    faces = subst (λ z. AreFaces z after.title.now) (sym imported) (subst (AreFaces scope.imported.now) (sym title) sound.faces);
    known = λ decl held at. subst (λ z. IsThere z (length after.nested.items) held) (sym imported) (there-more scope.imported.now (length scope.nested.items) (length after.nested.items) held longer (sound.known decl held (before decl held at)));
    there = subst (λ z. (number : ℕ) (one : Ended) → slice_get after.nested.items number ≡ Some one → AreThere z number one.instances) (sym imported) (each (λ number one. AreThere scope.imported.now number one.instances) scope.nested.items after.nested.items ended items sound.there (λ decl held at. sound.known decl held (known decl held at)));
    noted = each (λ number one. IsNoted after.known one) scope.nested.items after.nested.items ended items
        (λ number one at decl held is. ap (λ z. lookup same_decl z decl) kept ∙ sound.noted number one at decl held is) (λ decl held is. ap (λ z. lookup same_decl z decl) kept ∙ known decl held is);
    told = each (λ number one. AreTold (lookup same_decl one.instances) (exports_of one.exports)) scope.nested.items after.nested.items ended items sound.told told;
    foreign = λ decl held at elsewhere. subst (λ z. IsBroughtBy z decl held) (sym imported) (sound.foreign decl held (before decl held at) (ap (bytes_eq decl.«module») (sym title) ∙ elsewhere));
  }

  pub kept-end : after.words ≡ scope.words → after.paths ≡ scope.paths → IsEnded scope after
  kept-end words paths = record {
    count = ap length items ∙ length-pushed scope.nested.items ended;
    views = λ number lt. ap (λ z. view_at z number) items ∙ view-stays scope.imported.now scope.nested.items (ended ∷ []) sound.there number lt;
    title = title;
    imported = imported;
    words = words;
    paths = paths;
  }

  pub same-known : known_of after ≡ known_of scope
  same-known = (λ i. known_in (items i) (kept i)) ∙ known-end scope ended sound known told

  pub view-after : (context : Context) → parameters_in (exports_of ended.parameters) ≡ own_parameters context (exports_of ended.exports) → view_at after.nested.items (length scope.nested.items) ≡ nested_view (known_of scope) context (exports_of ended.exports)
  view-after context own = ap (λ z. view_at z (length scope.nested.items)) items ∙ view-end scope ended sound known told context own
