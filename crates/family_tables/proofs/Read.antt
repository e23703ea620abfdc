-- What is so of all modules of a family that were read.
use Rattle.std.proofs.Common.{◌≡◌, ℕ, ◌+◌, List, [], ◌∷◌, Some, refl, sym, ap, ◌∙◌, take, get_or, subst}
use Rattle.std.specs.Prelude.{Contains, sum_by}
use Rattle.std.specs.List.{All, AllZip}
use Rattle.std.proofs.Math.Seq.{take-length}
use Rattle.std.proofs.lemmas.Option.{slice_get-get_or}
use Rattle.std.proofs.lemmas.List.Sums.{sum_by-cons}
use Rattle.tla_lexeme.specs.Spans.{IsPlaced}
use Rattle.tla_model.specs.declared.Diagnostic.{Diagnostic}
use Rattle.module_model.specs.Exports.{ModuleView}
use Rattle.tla_model.specs.Lexemes.{LexemesLie}
use Rattle.front_laws.specs.Fronts.{Front, Tree, Fault, IsFront, read}
use Rattle.unit_grammar.specs.Units.{ModuleUnits}
use Rattle.unit_grammar.specs.UnitNodes.{module_of}
use Rattle.family_facts.specs.Family.{Member}
use Rattle.family_tables.specs.Modules.{Entry, IsEntry, IsReading, AreModules, tree_count}
use Rattle.family_tables.specs.Outcomes.{IsSomeModule, Matches, faults_of, trees_in}
use Rattle.family_facts.specs.Fronts.{front_of}
use Rattle.family_facts.specs.Verdicts.{check_count, checks_of, family_of, text_of}
use Rattle.family_tables.specs.declared.outcome.Outcome.TheVariants as outcome
use Rattle.family_tables.specs.declared.reading.Reading.TheVariants as reading
use Rattle.family_facts.specs.declared.verdict.File.{File}
use Rattle.family_facts.proofs.Lists.{at-contains, behind, here, zip-right}
use Rattle.family_facts.proofs.FrontLaws.{front-is}
use Rattle.family_facts.proofs.Needing.{HasNoOther, fault-same, tree-same, tree-no-fault}

-- what is so of each item is so of all
pub all-by : {A : Type 0} (P : A → Type 0) (xs : List A) → ((x : A) → Contains xs x → P x) → All P xs
all-by P xs f = λ k d l. f (get_or xs k d) (at-contains xs k (get_or xs k d) (slice_get-get_or xs k d l))

pub modules-some : (family : List Member) (entries : List Entry) → AreModules family entries → All (λ (entry : Entry). IsSomeModule entry.0 entry.1) entries
modules-some family entries are = all-by (λ (entry : Entry). IsSomeModule entry.0 entry.1) entries (λ e h. let m = zip-right IsEntry family entries e are h in (m.0.bytes, (m.2).is))

-- ---- outcomes

pub zip-map : {A B : Type 0} (R S : A → B → Type 0) (xs : List A) (ys : List B) → ((x : A) (y : B) → Contains xs x → R x y → S x y) → AllZip R xs ys → AllZip S xs ys
zip-map R S [] [] f h = tt
zip-map R S [] (y ∷ ys) f h = absurd h
zip-map R S (x ∷ xs) [] f h = absurd h
zip-map R S (x ∷ xs) (y ∷ ys) f h = (f x y (here x xs) h.0, zip-map R S xs ys (λ a b c. f a b (behind x xs a c)) h.1)

-- the faults of an outcome
pub says-faults : (faults : List Diagnostic) (outside : ModuleView) (o : outcome.the_data) → Matches faults outside o → faults_of (Some o) ≡ faults
says-faults faults outside (outcome.Refused found) h = h.0
says-faults faults outside (outcome.Accepted face) h = sym h.0

-- ---- texts

-- a text with a tree is read whole
pub tree-text : {name bytes : List ℕ} {found : ModuleUnits} → IsFront name bytes (Tree found) → text_of bytes ≡ bytes
tree-text {name} {bytes} (read whole few part front) = ap (λ n. take n bytes) whole ∙ take-length bytes

module _ (one : HasNoOther) (m : Member) where
  -- a front fault stands in the text
  pub fault-placed : (name : List ℕ) (r : reading.the_data) (fault : Diagnostic) → name ≡ m.name → IsReading name m.bytes r → IsFront m.name m.bytes (Fault fault) → IsPlaced (text_of m.bytes) fault.span
  fault-placed name (reading.Tree tree) fault named is front = absurd (tree-no-fault (one m.name m.bytes (Tree (module_of tree)) (Fault fault) (subst (λ n. IsFront n m.bytes (Tree (module_of tree))) named is.front) front))
  fault-placed name (reading.Fault f) fault named is front =
      let same : f ≡ fault = fault-same (one m.name m.bytes (Fault f) (Fault fault) (subst (λ n. IsFront n m.bytes (Fault f)) named is.0) front) in
      subst (λ (x : Diagnostic). IsPlaced (text_of m.bytes) x.span) same is.1

  -- the names of a tree lie in its text
  pub tree-lies : (name : List ℕ) (r : reading.the_data) (units : ModuleUnits) → name ≡ m.name → IsReading name m.bytes r → IsFront m.name m.bytes (Tree units) → LexemesLie m.bytes units
  tree-lies name (reading.Fault f) units named is front = absurd (tree-no-fault (one m.name m.bytes (Tree units) (Fault f) front (subst (λ n. IsFront n m.bytes (Fault f)) named is.0)))
  tree-lies name (reading.Tree tree) units named is front =
      let same : module_of tree ≡ units = tree-same (one m.name m.bytes (Tree (module_of tree)) (Tree units) (subst (λ n. IsFront n m.bytes (Tree (module_of tree))) named is.front) front) in
      subst (λ (u : ModuleUnits). LexemesLie m.bytes u) same (subst (λ s. LexemesLie s (module_of tree)) is.source is.readable.lie)

-- ---- steps

front_in : reading.the_data → Front
front_in (reading.Tree tree) = Tree (module_of tree)
front_in (reading.Fault fault) = Fault fault

front-in-is : (name bytes : List ℕ) (r : reading.the_data) → IsReading name bytes r → IsFront name bytes (front_in r)
unfolding front_in
front-in-is name bytes (reading.Tree tree) is = is.front
front-in-is name bytes (reading.Fault fault) is = is.0

-- what was read of a member is its front
front-same : HasNoOther → (m : Member) (e : Entry) → IsEntry m e → front_in e.1.reading ≡ front_of m.name m.bytes
front-same one m e is = one m.name m.bytes (front_in e.1.reading) (front_of m.name m.bytes) (subst (λ n. IsFront n m.bytes (front_in e.1.reading)) is.named (front-in-is e.0 m.bytes e.1.reading is.is.reading)) (front-is m.name m.bytes)

count-in : (r : reading.the_data) → tree_count r ≡ check_count (front_in r)
unfolding front_in
count-in (reading.Tree tree) = refl
count-in (reading.Fault fault) = refl

-- as many modules are checked as have a tree
trees-same : HasNoOther → (family : List Member) (entries : List Entry) → AreModules family entries → trees_in entries ≡ sum_by (λ (m : Member). check_count (front_of m.name m.bytes)) family
trees-same one [] [] h = refl
trees-same one [] (e ∷ entries) h = absurd h
trees-same one (m ∷ family) [] h = absurd h
trees-same one (m ∷ family) (e ∷ entries) h =
    let first : tree_count e.1.reading ≡ check_count (front_of m.name m.bytes) = count-in e.1.reading ∙ ap check_count (front-same one m e h.0) in
    let rest = trees-same one family entries h.1 in
    sum_by-cons (λ (x : Entry). tree_count x.1.reading) e entries ∙ ((λ i. first i + rest i) ∙ sym (sum_by-cons (λ (x : Member). check_count (front_of x.name x.bytes)) m family))

pub checks-are : HasNoOther → (files : List File) (entries : List Entry) → AreModules (family_of files) entries → trees_in entries ≡ checks_of files
checks-are one files entries are = trees-same one (family_of files) entries are
