-- Modules that are read, one after another.
use Rattle.std.proofs.Common.{◌≡◌, ◌<◌, ◌^◌, ℕ, ◌+◌, List, [], ◌∷◌, ◌++◌, Option, Some, None, refl, sym, ap, ◌∙◌, cond, map, filter, not, take, length, get_or, arith, true, false, Bool, ◌||◌, ⊎_elim, subst, append_assoc, Bor}
use Rattle.std.specs.Prelude.{Contains, is_some, option_copied, unwrap_or}
use Rattle.std.specs.List.{fold}
use Rattle.std.specs.Str.{bytes_eq}
use Rattle.std.proofs.lemmas.Bool.{cases_Bool}
use Rattle.std.proofs.lemmas.List.{take_more, map-append, append-nil}
use Rattle.std.proofs.lemmas.List.Folds.{list_any-append}
use Rattle.std.proofs.lemmas.Option.{slice_get-get_or}
use Rattle.tla_tree.specs.declared.unit.ModuleTree.{ModuleTree}
use Rattle.tla_model.specs.Entities.{declaring}
use Rattle.tla_model.specs.Lexemes.{LexemesLie, spelled}
use Rattle.front_laws.specs.Fronts.{Tree, IsFront, IsTree}
use Rattle.unit_grammar.specs.Units.{ModuleUnits}
use Rattle.unit_grammar.specs.UnitNodes.{module_of}
use Rattle.std_modules.specs.StdTexts.{std_text}
use Rattle.list_laws.proofs.Options.{some-there}
use Rattle.list_laws.proofs.Tests.{and-both, or-false}
use Rattle.family_facts.specs.Family.{Member, is_there}
use Rattle.family_facts.specs.Verdicts.{AreDistinct, built_in, member_of}
use Rattle.family_tables.specs.Modules.{Entry, IsEntry, IsModule, IsTreeOf, AreModules, added}
use Rattle.family_tables.specs.Tables.{entry_of, names_in}
use Rattle.family_tables.specs.declared.reading.Module.{Module}
use Rattle.family_facts.specs.declared.verdict.File.{File}
use Rattle.family_facts.proofs.FrontLaws.{front-named}
use Rattle.family_facts.proofs.Lists.{contains-at, mapped, zip-right, zip-push}
use Rattle.family_facts.proofs.Members.{member-there, there-member}
use Rattle.family_facts.proofs.Once.{are_apart, is_apart, not-so}
use Rattle.family_tables.proofs.Tabling.{entry-found, entry-none, entry-some}
use Rattle.family_tables.proofs.Indices.{at-taken, member-named, named-member}

-- ---- trees

-- a tree that was read is that of its bytes
pub tree-of : (name bytes : List ℕ) (tree : ModuleTree) (found : ModuleUnits) → IsFront name bytes (Tree found) → IsTree tree found bytes → LexemesLie bytes (module_of tree) → length (declaring (module_of tree).units) < 2 ^ 32 → IsTreeOf name bytes tree
tree-of name bytes tree found front is lie few =
    let same : module_of tree ≡ found = (λ i. record { name = is.name i; extends = is.extends i; units = is.units.are i }) in
    let own : IsFront name bytes (Tree (module_of tree)) = subst (λ (f : ModuleUnits). IsFront name bytes (Tree f)) (sym same) front in
    record {
      front = own;
      source = is.source;
      readable = record { nodes = is.units.there; lie = subst (λ s. LexemesLie s (module_of tree)) (sym is.source) lie; few = few };
      named = ap (λ s. spelled s tree.name) is.source ∙ front-named own;
    }

-- ---- files

-- the name of the next file is none of those before it
pub file-fresh : (files : List File) (i : ℕ) (d : File) (entries : List Entry) (name : List ℕ) → AreDistinct files → i < length files → AreModules (map member_of (take i files)) entries → name ≡ (get_or files i d).name → entry_of entries name ≡ None
file-fresh files i d entries name distinct l are is = entry-none entries name (λ h.
    let m = member-named (map member_of (take i files)) entries name are h in
    let f = mapped member_of (take i files) m.0 m.1 in
    let k = contains-at (take i files) f.0 f.1 in
    let at = at-taken i files k.0 f.0 k.1 in
    let names : (f.0).name ≡ (get_or files i d).name = ap (λ (x : Member). x.name) f.2 ∙ (m.2 ∙ is) in
    let place : k.0 ≡ i = distinct k.0 i f.0 (get_or files i d) at.0 (slice_get-get_or files i d l) names in
    let less : k.0 < i = at.1 in
    absurd (omega (arith, place, less)))

pub file-more : (files : List File) (i : ℕ) (d : File) (entries entries' : List Entry) (name bytes : List ℕ) (m : Module) → i < length files → AreModules (map member_of (take i files)) entries → name ≡ (get_or files i d).name → bytes ≡ (get_or files i d).bytes → IsModule name bytes m → entries' ≡ entries ++ (name, m) ∷ [] →
    AreModules (map member_of (take (i + 1) files)) entries'
file-more files i d entries entries' name bytes m l are isname isbytes is e =
    let f : File = get_or files i d in
    let next : IsEntry (member_of f) (name, m) = record { named = isname; is = subst (λ b. IsModule name b m) isbytes is } in
    let members : map member_of (take (i + 1) files) ≡ map member_of (take i files) ++ member_of f ∷ [] = ap (map member_of) (take_more files i d l) ∙ map-append member_of (take i files) (f ∷ []) in
    subst (λ es. AreModules (map member_of (take (i + 1) files)) es) (sym e)
    (subst (λ ms. AreModules ms (entries ++ (name, m) ∷ [])) (sym members) (zip-push IsEntry (map member_of (take i files)) entries (member_of f) (name, m) are next))

-- ---- built-in modules

copied-some : {T : Type 0} (o : Option (Bor T)) → is_some o ≡ is_some (option_copied o)
copied-some None = refl
copied-some (Some x) = refl

none-item : {T : Type 0} (o : Option T) (x : T) → is_some o ≡ false → o ≡ Some x → ⊥
none-item None x e s = cc
none-item (Some y) x e s = cc

pub unwrapped : (o : Option (Bor (List ℕ))) (r d : Bor (List ℕ)) → r ≡ unwrap_or o d → d.now ≡ [] → r.now ≡ unwrap_or (option_copied o) []
unwrapped None r d e n = ap (λ (x : Bor (List ℕ)). x.now) e ∙ n
unwrapped (Some x) r d e n = ap (λ (y : Bor (List ℕ)). y.now) e

-- a name that is there is not added
pub built-in-there : (members : List Member) (entries : List Entry) (name : List ℕ) (o : Option (Bor Module)) → option_copied o ≡ entry_of entries name → is_some o ≡ true → AreModules members entries → AreModules (added members (built_in name)) entries
built-in-there members entries name o e some are =
    let item = some-there (entry_of entries name) (ap is_some (sym e) ∙ (sym (copied-some o) ∙ some)) in
    let h = entry-found entries name item.0 item.1 in
    let m = zip-right IsEntry members entries (name, item.0) are h in
    let there : is_there members name ≡ true = member-there members name m.0 m.1 (sym (m.2).named) in
    subst (λ ms. AreModules ms entries) (sym (ap (λ b. cond b members (members ++ built_in name ∷ [])) there)) are

-- and another one is
pub built-in-more : (members : List Member) (entries entries' : List Entry) (name bytes : List ℕ) (o : Option (Bor Module)) (m : Module) → option_copied o ≡ entry_of entries name → is_some o ≡ false → bytes ≡ unwrap_or (std_text name) [] → IsModule name bytes m → entries' ≡ entries ++ (name, m) ∷ [] → AreModules members entries →
    AreModules (added members (built_in name)) entries'
built-in-more members entries entries' name bytes o m e none isbytes is same are =
    let new : is_there members name ≡ false = ⊎_elim
    (λ (t : is_there members name ≡ true).
    let a = there-member members name t in
    let s = entry-some entries name (subst (λ n. Contains (names_in entries) n) a.2 (named-member members entries a.0 are a.1)) in
    absurd (none-item (entry_of entries name) s.0 (ap is_some (sym e) ∙ (sym (copied-some o) ∙ none)) s.1))
    (λ (f : is_there members name ≡ false). f)
    (cases_Bool (is_there members name)) in
    let next : IsEntry (built_in name) (name, m) = record { named = refl; is = subst (λ b. IsModule name b m) isbytes is } in
    subst (λ ms. AreModules ms entries') (sym (ap (λ b. cond b members (members ++ built_in name ∷ [])) new))
    (subst (λ es. AreModules (members ++ built_in name ∷ []) es) (sym same) (zip-push IsEntry members entries (built_in name) (name, m) are next))

abbrev visible : List Member → Member → Bool
visible members m = not (is_there members m.name)

visible-same : (members : List Member) (name : List ℕ) (names : List (List ℕ)) → is_apart name names ≡ true → filter (visible (members ++ built_in name ∷ [])) (map built_in names) ≡ filter (visible members) (map built_in names)
visible-same members name [] apart = refl
visible-same members name (x ∷ xs) apart =
    let parts = and-both (not (bytes_eq x name)) (is_apart name xs) apart in
    let other : bytes_eq x name ≡ false = not-so (bytes_eq x name) parts.0 in
    let same : is_there (members ++ built_in name ∷ []) x ≡ is_there members x =
    list_any-append (λ (m : Member). bytes_eq x m.name) members (built_in name ∷ []) ∙ (ap (λ b. is_there members x || (b || false)) other ∙ or-false (is_there members x)) in
    let rest = visible-same members name xs parts.1 in
    λ i. cond (not (same i)) (built_in x ∷ rest i) (rest i)

-- adding built-in modules gives those that are not hidden
pub added-all : (members : List Member) (names : List (List ℕ)) → are_apart names ≡ true → fold (λ found name. added found (built_in name)) members names ≡ members ++ filter (visible members) (map built_in names)
added-all members [] apart = sym (append-nil members)
added-all members (name ∷ names) apart =
    let parts = and-both (is_apart name names) (are_apart names) apart in
    let step : List Member → List ℕ → List Member = λ found n. added found (built_in n) in
    let rest : List Member = filter (visible members) (map built_in names) in
    ⊎_elim
    (λ (t : is_there members name ≡ true).
    ap (λ b. fold step (cond b members (members ++ built_in name ∷ [])) names) t ∙ (added-all members names parts.1 ∙ ap (λ b. members ++ cond (not b) (built_in name ∷ rest) rest) (sym t)))
    (λ (f : is_there members name ≡ false).
    ap (λ b. fold step (cond b members (members ++ built_in name ∷ [])) names) f
    ∙ (added-all (members ++ built_in name ∷ []) names parts.1
    ∙ (ap (λ fs. (members ++ built_in name ∷ []) ++ fs) (visible-same members name names parts.0)
    ∙ (append_assoc members (built_in name ∷ []) rest ∙ ap (λ b. members ++ cond (not b) (built_in name ∷ rest) rest) (sym f)))))
    (cases_Bool (is_there members name))
