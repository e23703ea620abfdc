-- Where the instances lead that an imported module exports.
use Rattle.std.proofs.Common.{◌≡◌, ⊎_elim, ◌<◌, ◌≤◌, ℕ, Bool, true, false, cond, List, [], ◌∷◌, ◌++◌, Option, Some, None, is_some, get_or, length, map, take, refl, ap, sym, subst, ◌∙◌, true≢false}
use Rattle.std.specs.Prelude.{◌+◌, unwrap_or}
use Rattle.std.specs.Borrow.{Bor}
use Rattle.std.specs.List.{AllByRecursion}
use Rattle.std.specs.Str.{bytes_eq}
use mathlib.Core.Path.{fun_ext}
use denote.Enum.Bare.{same_true, true_same}
use Rattle.std.proofs.lemmas.List.{map-append, take_all, take_more}
use Rattle.list_laws.proofs.Lists.{all-both, all-left, all-right}
use Rattle.list_laws.proofs.Texts.{same-text}
use Rattle.tla_symbols.specs.declared.op.Op.{Op}
use Rattle.tla_symbols.specs.contracts.op.Op as op
use Rattle.tla_model.specs.declared.ids.DeclId.{DeclId}
use Rattle.tla_model.specs.declared.names.Meaning.TheVariants.{BuiltIn, Declared}
use Rattle.tla_model.specs.declared.entity.Entity.TheVariants as entity
use Rattle.tla_model.specs.declared.ids.Callee.{Callee}
use Rattle.tla_model.specs.Entities.{Entity, Meaning, same_decl}
use Rattle.tla_model.specs.EntityKinds.{is_instance, is_meant, words_meant}
use Rattle.tla_model.specs.Stretches.{shown}
use Rattle.tla_model.specs.Tables.{AreNew, Named, Word, Symbol, Table, added, lookup, same_symbol}
use Rattle.module_model.specs.declared.face.Face.{Face}
use Rattle.module_model.specs.Exports.{Behind, Exports, Known, and_known, behind_along, entry_of, exports_of, face_exports, face_instances, face_outside, found_behind, known_among, known_as, known_by, none_known, of_symbols, of_words, standing}
use Rattle.module_model.specs.Given.{AreReached, IsWhole}
use Rattle.module_model.specs.NamedModules.{exported_known}
use Rattle.module_model.specs.Parts.{reached}
use Rattle.module_model.proofs.Entries.{entry-of-table}
use Rattle.tree_tasks.specs.declared.held.Held.{Held}
use Rattle.instance_leads.specs.declared.ended.Ended.{Ended}
use Rattle.instance_leads.specs.Found.{AreOfFace, AreTold, IsLedBy, IsOfFace, IsTold, along, known_here}
use Rattle.instance_leads.specs.Leading.{Leads, known_in}
use Rattle.instance_leads.proofs.Faces.{led-along}
use Rattle.instance_leads.proofs.Knowing.{added-cases, and-assoc, and-none, known-added}
use Rattle.instance_leads.proofs.Naming.{all-found, word-itself}

-- ---- one more

pub of-added : (face : Face) (leads : Leads) (decl : DeclId) (held : Held) → AreOfFace face leads → IsOfFace face decl held → AreOfFace face (added same_decl leads decl held)
of-added face leads decl held led one = λ other found at. ⊎_elim (λ (before : lookup same_decl leads other ≡ Some found). led other found before)
    (λ (now : (other ≡ decl) × (held ≡ found)). subst (λ z. IsOfFace face z found) (sym now.0) (subst (λ z. IsOfFace face decl z) now.1 one)) (added-cases leads decl held other found at)

pub of-face : (face : Face) (decl : DeclId) (held : Held) → is_some (face_instances face decl) ≡ true → IsLedBy face (reached face.parts decl) held → IsOfFace face decl held
of-face face decl held there led = by (reached face.parts decl) refl there led
  where
    by : (found : Option (Table Meaning)) → reached face.parts decl ≡ found → is_some (standing found) ≡ true → IsLedBy face found held → IsOfFace face decl held
    by None is there led = absurd (true≢false (sym there))
    by (Some table) is there led = record { table = table; stands = is; led = led }

pub known-led : (nested : List Ended) (face : Face) (leads new : Leads) (decl put : DeclId) (held : Held) → put ≡ decl → IsLedBy face (reached face.parts decl) held → new ≡ added same_decl leads put held →
    known_in nested new ≡ and_known (known_in nested leads) (known_as decl (behind_along (face_instances face) (unwrap_or (face_instances face decl) [])))
known-led nested face leads new decl put held same led is =
    ap (known_in nested) (is ∙ ap (λ z. added same_decl leads z held) same) ∙ known-added nested leads decl held
    ∙ ap (λ (behind : Behind). and_known (known_in nested leads) (known_as decl behind)) (fun_ext (λ path. led-along nested face (reached face.parts decl) held path led))

-- ---- several of them

pub here-append : (face : Face) (a b : List Meaning) → known_here face (a ++ b) ≡ and_known (known_here face a) (known_here face b)
here-append face [] b = refl
here-append face (meaning ∷ a) b =
    ap (and_known (known_by (along face meaning) meaning)) (here-append face a b) ∙ sym (and-assoc (known_by (along face meaning) meaning) (known_here face a) (known_here face b))

pub here-next : {A : Type 0} (face : Face) (of : A → Meaning) (xs : List A) (i : ℕ) (x : A) (first now new : Known) → i < length xs → x ≡ get_or xs i x → new ≡ and_known now (known_here face (of x ∷ [])) → now ≡ and_known first (known_here face (map of (take i xs))) →
    new ≡ and_known first (known_here face (map of (take (i + 1) xs)))
here-next face of xs i x first now new lt is more so =
    more ∙ ap (λ z. and_known z (known_here face (of x ∷ []))) so ∙ and-assoc first (known_here face (map of (take i xs))) (known_here face (of x ∷ []))
    ∙ ap (and_known first) (sym (here-append face (map of (take i xs)) (of x ∷ [])) ∙ ap (known_here face) (sym (map-append of (take i xs) (x ∷ [])) ∙ ap (map of) (ap (λ z. take i xs ++ z ∷ []) is ∙ sym (take_more xs i x lt))))

-- those of words that are instances are all that matter
here-words : (face : Face) (words : List (List ℕ × Meaning)) → known_here face (map (λ word. word.1) (words_meant is_instance words)) ≡ known_here face (map (λ word. word.1) words)
here-words face [] = refl
here-words face (word ∷ words) = at word.1 (here-words face words)
  where
    by : (b : Bool) → known_here face (map (λ (z : List ℕ × Meaning). z.1) (words_meant is_instance words)) ≡ known_here face (map (λ (z : List ℕ × Meaning). z.1) words) → (decl : DeclId) (behind : Behind) (one : Meaning) → known_by (along face one) one ≡ cond b (known_as decl behind) none_known →
        known_here face (map (λ (z : List ℕ × Meaning). z.1) (cond b ((word.0, one) ∷ words_meant is_instance words) (words_meant is_instance words))) ≡ and_known (known_by (along face one) one) (known_here face (map (λ (z : List ℕ × Meaning). z.1) words))
    by true rest decl behind one is = ap (and_known (known_by (along face one) one)) rest
    by false rest decl behind one is = rest ∙ ap (λ z. and_known z (known_here face (map (λ (z : List ℕ × Meaning). z.1) words))) (sym is)

    at : (one : Meaning) → known_here face (map (λ (z : List ℕ × Meaning). z.1) (words_meant is_instance words)) ≡ known_here face (map (λ (z : List ℕ × Meaning). z.1) words) →
        known_here face (map (λ (z : List ℕ × Meaning). z.1) (cond (is_meant is_instance one) ((word.0, one) ∷ words_meant is_instance words) (words_meant is_instance words))) ≡ and_known (known_by (along face one) one) (known_here face (map (λ (z : List ℕ × Meaning). z.1) words))
    at BuiltIn rest = rest
    at (Declared entity callee) rest = by (is_instance entity) rest callee.decl (along face (Declared entity callee)) (Declared entity callee) refl

-- ---- what is known of all that is exported

abbrev AreFound : Exports → Exports → Type 0
AreFound all entries = AllByRecursion (λ (entry : Named × Meaning). entry_of all entry.0 ≡ Some entry.1) entries

among-here : (face : Face) (entries : Exports) → AreFound (face_exports face) entries → known_among (face_outside face) entries ≡ known_here face (map (λ entry. entry.1) entries)
among-here face [] found = refl
among-here face (entry ∷ rest) found =
    (λ i. and_known (known_by (λ path. behind_along (face_instances face) (found_behind (face_instances face) (found.0 i)) path) entry.1) (among-here face rest found.1 i))

found-words : (table : Table Meaning) (words : List (List ℕ × Meaning)) → AllByRecursion (λ (word : List ℕ × Meaning). lookup bytes_eq table.words word.0 ≡ Some word.1) words → AreFound (exports_of table) (of_words words)
found-words table [] found = tt
found-words table (word ∷ words) found = (entry-of-table table (Word word.0) ∙ found.0, found-words table words found.1)

found-symbols : (table : Table Meaning) (symbols : List (Op × Meaning)) → AllByRecursion (λ (symbol : Op × Meaning). lookup same_symbol table.symbols symbol.0 ≡ Some symbol.1) symbols → AreFound (exports_of table) (of_symbols symbols)
found-symbols table [] found = tt
found-symbols table (symbol ∷ symbols) found = (entry-of-table table (Symbol symbol.0) ∙ found.0, found-symbols table symbols found.1)

symbol-itself : (one : Op) → same_symbol one one ≡ true
symbol-itself one = true_same op.the_type one one refl

pub table-found : (table : Table Meaning) → AreNew bytes_eq [] table.words → AreNew same_symbol [] table.symbols → AreFound (exports_of table) (exports_of table)
table-found table words symbols =
    all-both (λ (entry : Named × Meaning). entry_of (exports_of table) entry.0 ≡ Some entry.1) (of_words table.words) (of_symbols table.symbols)
    (found-words table table.words (all-found bytes_eq same-text word-itself (λ (m : Meaning). true) [] table.words words))
    (found-symbols table table.symbols (all-found same_symbol (λ (a b : Op). same_true op.the_type tt a b) symbol-itself (λ (m : Meaning). true) [] table.symbols symbols))

values-words : (words : List (List ℕ × Meaning)) → map (λ (entry : Named × Meaning). entry.1) (of_words words) ≡ map (λ (word : List ℕ × Meaning). word.1) words
values-words [] = refl
values-words (word ∷ words) = ap (λ z. word.1 ∷ z) (values-words words)

values-symbols : (symbols : List (Op × Meaning)) → map (λ (entry : Named × Meaning). entry.1) (of_symbols symbols) ≡ map (λ (symbol : Op × Meaning). symbol.1) symbols
values-symbols [] = refl
values-symbols (symbol ∷ symbols) = ap (λ z. symbol.1 ∷ z) (values-symbols symbols)

-- what is known of all is what is known of its words that are instances, and of its symbols
pub known-all : (face : Face) (table : Table Meaning) → exports_of table ≡ face_exports face → AreFound (exports_of table) (exports_of table) →
    and_known (known_here face (map (λ word. word.1) (words_meant is_instance table.words))) (known_here face (map (λ symbol. symbol.1) table.symbols)) ≡ exported_known (face_outside face)
known-all face table is found =
    ap (λ z. and_known z (known_here face (map (λ (symbol : Op × Meaning). symbol.1) table.symbols))) (here-words face table.words)
    ∙ ap (λ z. and_known (known_here face (map (λ (word : List ℕ × Meaning). word.1) table.words)) (known_here face z)) (sym (values-symbols table.symbols))
    ∙ ap (λ z. and_known (known_here face z) (known_here face (map (λ (entry : Named × Meaning). entry.1) (of_symbols table.symbols)))) (sym (values-words table.words))
    ∙ sym (here-append face (map (λ (entry : Named × Meaning). entry.1) (of_words table.words)) (map (λ (entry : Named × Meaning). entry.1) (of_symbols table.symbols)))
    ∙ ap (known_here face) (sym (map-append (λ (entry : Named × Meaning). entry.1) (of_words table.words) (of_symbols table.symbols)))
    ∙ sym (among-here face (exports_of table) (subst (λ z. AreFound z (exports_of table)) is found))
    ∙ ap (known_among (face_outside face)) is

-- ---- what is said of all that is exported

told-found : {A : Type 0} (instances : DeclId → Option A) (all entries : Exports) → AreReached instances all → AreFound all entries → AreTold instances entries
told-found instances all [] reaches found = tt
told-found instances all (entry ∷ rest) reaches found = (at entry.1 found.0, told-found instances all rest reaches found.1)
  where
    at : (one : Meaning) → entry_of all entry.0 ≡ Some one → IsTold instances one
    at BuiltIn is = tt
    at (Declared entity callee) is = reaches entry.0 entity callee is

told-words : {A : Type 0} (instances : DeclId → Option A) (words : List (List ℕ × Meaning)) → AreTold instances (of_words words) → AllByRecursion (λ (word : List ℕ × Meaning). IsTold instances word.1) words
told-words instances [] told = tt
told-words instances (word ∷ words) told = (told.0, told-words instances words told.1)

told-some : {A : Type 0} (instances : DeclId → Option A) (words : List (List ℕ × Meaning)) → AllByRecursion (λ (word : List ℕ × Meaning). IsTold instances word.1) words → AllByRecursion (λ (word : List ℕ × Meaning). IsTold instances word.1) (words_meant is_instance words)
told-some instances [] told = tt
told-some instances (word ∷ words) told = by (is_meant is_instance word.1) (told-some instances words told.1)
  where
    by : (b : Bool) → AllByRecursion (λ (z : List ℕ × Meaning). IsTold instances z.1) (words_meant is_instance words) → AllByRecursion (λ (z : List ℕ × Meaning). IsTold instances z.1) (cond b (word ∷ words_meant is_instance words) (words_meant is_instance words))
    by true rest = (told.0, rest)
    by false rest = rest

told-shown : {A : Type 0} (instances : DeclId → Option A) (entries : List (Bor (List ℕ) × Bor Meaning)) → AllByRecursion (λ (word : List ℕ × Meaning). IsTold instances word.1) (map shown entries) → AllByRecursion (λ (entry : Bor (List ℕ) × Bor Meaning). IsTold instances entry.1.now) entries
told-shown instances [] told = tt
told-shown instances (entry ∷ rest) told = (told.0, told-shown instances rest told.1)

told-values : {A : Type 0} (instances : DeclId → Option A) (symbols : List (Op × Meaning)) → AreTold instances (of_symbols symbols) → AllByRecursion (λ (symbol : Op × Meaning). IsTold instances symbol.1) symbols
told-values instances [] told = tt
told-values instances (symbol ∷ symbols) told = (told.0, told-values instances symbols told.1)

module _ {A : Type 0} (instances : DeclId → Option A) (table : Table Meaning) (reaches : AreReached instances (exports_of table)) (words : AreNew bytes_eq [] table.words) (symbols : AreNew same_symbol [] table.symbols) where
  told-all : AreTold instances (exports_of table)
  told-all = told-found instances (exports_of table) (exports_of table) reaches (table-found table words symbols)

  -- of the instances among its words
  pub reached-words : (entries : List (Bor (List ℕ) × Bor Meaning)) → map shown entries ≡ words_meant is_instance table.words → AllByRecursion (λ (entry : Bor (List ℕ) × Bor Meaning). IsTold instances entry.1.now) entries
  reached-words entries all =
      told-shown instances entries (subst (AllByRecursion (λ (word : List ℕ × Meaning). IsTold instances word.1)) (sym all)
      (told-some instances table.words (told-words instances table.words (all-left (λ (entry : Named × Meaning). IsTold instances entry.1) (of_words table.words) (of_symbols table.symbols) told-all))))

  -- and of its symbols
  pub reached-symbols : (others : List (Op × Meaning)) → others ≡ table.symbols → AllByRecursion (λ (symbol : Op × Meaning). IsTold instances symbol.1) others
  reached-symbols others same =
      subst (AllByRecursion (λ (symbol : Op × Meaning). IsTold instances symbol.1)) (sym same)
      (told-values instances table.symbols (all-right (λ (entry : Named × Meaning). IsTold instances entry.1) (of_words table.words) (of_symbols table.symbols) told-all))

module _ (face : Face) (table : Table Meaning) (is : exports_of table ≡ face_exports face) (whole : IsWhole face) (words : AreNew bytes_eq [] table.words) (symbols : AreNew same_symbol [] table.symbols) where
  -- of the instances of a face
  pub told-instances : (entries : List (Bor (List ℕ) × Bor Meaning)) → map shown entries ≡ words_meant is_instance table.words → AllByRecursion (λ (entry : Bor (List ℕ) × Bor Meaning). IsTold (face_instances face) entry.1.now) entries
  told-instances = reached-words (face_instances face) table (subst (AreReached (face_instances face)) (sym is) whole.exports) words symbols

  pub told-symbols : (others : List (Op × Meaning)) → others ≡ table.symbols → AllByRecursion (λ (symbol : Op × Meaning). IsTold (face_instances face) symbol.1) others
  told-symbols = reached-symbols (face_instances face) table (subst (AreReached (face_instances face)) (sym is) whole.exports) words symbols

-- the values of words as they are shown
pub values-shown : (entries : List (Bor (List ℕ) × Bor Meaning)) → map (λ (entry : Bor (List ℕ) × Bor Meaning). entry.1.now) entries ≡ map (λ (word : List ℕ × Meaning). word.1) (map shown entries)
values-shown [] = refl
values-shown (entry ∷ rest) = ap (λ z. entry.1.now ∷ z) (values-shown rest)

-- ---- as code has them

pub meant-here : (face : Face) (meaning : Meaning) (one : Entity) (callee : Callee) (orders : List ℕ) → meaning ≡ Declared one callee → one ≡ entity.Instance orders → known_as callee.decl (behind_along (face_instances face) (unwrap_or (face_instances face callee.decl) [])) ≡ known_here face (meaning ∷ [])
meant-here face meaning one callee orders is instance =
    sym (and-none (known_as callee.decl (behind_along (face_instances face) (unwrap_or (face_instances face callee.decl) []))))
    ∙ sym (ap (λ z. known_here face (z ∷ [])) (is ∙ ap (λ (e : Entity). Declared e callee) instance))

pub here-all : {A : Type 0} (face : Face) (of : A → Meaning) (xs : List A) (i : ℕ) (first now : Known) → length xs ≤ i → now ≡ and_known first (known_here face (map of (take i xs))) → now ≡ and_known first (known_here face (map of xs))
here-all face of xs i first now past is = is ∙ ap (λ z. and_known first (known_here face (map of z))) (take_all i xs past)

pub both-here : (nested : List Ended) (face : Face) (table : Table Meaning) (none words symbols : Leads) (entries : List (Bor (List ℕ) × Bor Meaning)) (others : List (Op × Meaning)) → exports_of table ≡ face_exports face → AreFound (exports_of table) (exports_of table) →
    none ≡ [] → map shown entries ≡ words_meant is_instance table.words → others ≡ table.symbols →
    known_in nested words ≡ and_known (known_in nested none) (known_here face (map (λ (entry : Bor (List ℕ) × Bor Meaning). entry.1.now) entries)) → known_in nested symbols ≡ and_known (known_in nested words) (known_here face (map (λ (symbol : Op × Meaning). symbol.1) others)) →
    known_in nested symbols ≡ exported_known (face_outside face)
both-here nested face table none words symbols entries others is found empty all same one two =
    two ∙ ap (λ z. and_known z (known_here face (map (λ (symbol : Op × Meaning). symbol.1) others))) (one ∙ ap (λ z. and_known (known_in nested z) (known_here face (map (λ (entry : Bor (List ℕ) × Bor Meaning). entry.1.now) entries))) empty)
    ∙ (λ i. and_known (known_here face ((values-shown entries ∙ ap (map (λ (word : List ℕ × Meaning). word.1)) all) i)) (known_here face (map (λ (symbol : Op × Meaning). symbol.1) (same i))))
    ∙ known-all face table is found
