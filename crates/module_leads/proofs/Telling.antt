-- What answers tell, as far as numbers of nodes tell, of ends, of ways and of names.
use Rattle.std.proofs.Common.{◌≡◌, ℕ, zero, suc, ◌+◌, ◌<◌, ◌≤◌, Bool, true, false, List, [], ◌∷◌, Option, Some, None, refl, sym, ap, ◌∙◌, drop, length, subst, true≢false, arith}
use Rattle.std.specs.Prelude.{IsTrue, slice_get}
use Rattle.face_views.specs.Exact.{Tells}
use Rattle.kind_text.specs.FlatModule.{FlatModule}
use Rattle.tla_model.specs.Tables.{Named, Word, Symbol}
use Rattle.name_context.specs.declared.context.Named.TheVariants as context_name
use Rattle.tree_names.specs.Parameters.{named_in}
use Rattle.resolved_trees.specs.Resolved.{Instance, Path}
use Rattle.resolved_trees.specs.Resolved as resolved_tree
use Rattle.flattened_trees.specs.declared.End.TheVariants as end
use Rattle.flattened_trees.specs.Leads as flat_leads
use Rattle.flattened_trees.specs.Leads.{FlatFace, behind_instance, nowhere, only}
use Rattle.flattened_trees.specs.Within.{IsLeadWithin}
use Rattle.written_trees.specs.Leading.{Lead, end_in, lead_in}
use Rattle.written_trees.specs.Leading as trees
use Rattle.tree_numbers.specs.Numbered.{AreTold, IsInstance, instance_tree}
use Rattle.tree_numbers.specs.Same.{FindsSameInstance, IsNumberedInstance, IsSameInstance}
use Rattle.list_laws.proofs.Lists.{all-weaker, drop-at}
use Rattle.module_leads.specs.declared.faces.ModuleFace.{ModuleFace}
use Rattle.module_leads.specs.declared.steps.Passage.{Passage}
use Rattle.module_leads.specs.declared.steps.Step.TheVariants as step
use Rattle.module_leads.specs.declared.ways.Way.TheVariants as way
use Rattle.module_leads.specs.Alike.{Answers, AnswersAlike, AnswersEach, AnswersInstances, AnswersEither, AnswersEnds, AreAlike, AreEachAlike, AreExact, AreThere, behind_name, step_way}
use Rattle.module_leads.specs.Faces.{first_faces}
use Rattle.module_leads.specs.Paths.{IsWayBefore, LeadsNowhere}
use Rattle.module_leads.specs.Ways.{face_at, name_as, way_lead}
use Rattle.module_leads.proofs.Pairing.{some-same}

-- how deep a face can lead
abbrev pub rank : Option ℕ → ℕ
rank None = 0
rank (Some number) = suc number

-- ---- answers

module _ (flat : FlatModule) (numbers : List ℕ) where
  pub answers-yes : {There Holds : Type 0} → (AreTold flat numbers → Holds) → Answers flat numbers There Holds true
  answers-yes holds = record { same = λ is. holds; found = λ exact there h. refl }

  pub answers-no : {There Holds : Type 0} → (AreExact flat numbers → There → ¬ Holds) → Answers flat numbers There Holds false
  answers-no none = record { same = λ is. absurd (true≢false (sym is)); found = λ exact there h. absurd (none exact there h) }

  -- an answer no of what something stands on is no of this
  pub answers-fail : {There Where P Q : Type 0} (b : Bool) → b ≡ false → Answers flat numbers There P b → (Where → There) → (Q → P) → Answers flat numbers Where Q false
  answers-fail b is answers there from = answers-no (λ exact w q. true≢false (sym (answers.found exact (there w) (from q)) ∙ is))

  -- an answer goes for what stands on something, and it on that
  pub answers-as : {There Where P Q : Type 0} (b : Bool) → Answers flat numbers There P b → (Where → There) → (AreTold flat numbers → P → Q) → (Q → P) → Answers flat numbers Where Q b
  answers-as b answers there to from = record { same = λ is told. to told (answers.same is told); found = λ exact w q. answers.found exact (there w) (from q) }

  -- and of equal paths
  pub answers-of : (one one' other other' : List Named → flat_leads.Lead) (b : Bool) → one ≡ one' → other ≡ other' → AnswersAlike flat numbers one other b → AnswersAlike flat numbers one' other' b
  answers-of one one' other other' b first second answers = subst (λ z. AnswersAlike flat numbers one' z b) second (subst (λ z. AnswersAlike flat numbers z other b) first answers)

  -- and the other way round
  pub answers-turned : (one other : List Named → flat_leads.Lead) (b : Bool) → AnswersAlike flat numbers one other b → AnswersAlike flat numbers other one b
  answers-turned one other b answers = answers-as b answers (λ there names. ((there names).1, (there names).0)) (λ told alike names. sym (alike names)) (λ alike names. sym (alike names))

-- ---- names, one after another

module _ (flat : FlatModule) (numbers : List ℕ) (one other : FlatFace) (names : List Named) where
  -- each name leads alike if each from a place on does
  abbrev pub EachFrom : ℕ → Type 0
  EachFrom i = AreTold flat numbers → AreEachAlike flat one other (drop i names) → AreEachAlike flat one other names

  pub each-next : (i : ℕ) (name : Named) (b : Bool) → slice_get names i ≡ Some name → b ≡ true → AnswersAlike flat numbers (behind_name one name) (behind_name other name) b → EachFrom i → EachFrom (i + 1)
  each-next i name b at is answers before told rest = before told (subst (AreEachAlike flat one other) (sym (drop-at names i name at)) (answers.same is told, rest))

  each-at : (names : List Named) (i : ℕ) (name : Named) → slice_get names i ≡ Some name → AreEachAlike flat one other names → AreAlike flat (behind_name one name) (behind_name other name)
  each-at [] i name at all = cc
  each-at (first ∷ rest) zero name at all = subst (λ (n : Named). AreAlike flat (behind_name one n) (behind_name other n)) (some-same at) all.0
  each-at (first ∷ rest) (suc i) name at all = each-at rest i name at all.1

  pub each-not : (i : ℕ) (name : Named) (b : Bool) → slice_get names i ≡ Some name → b ≡ false → AnswersAlike flat numbers (behind_name one name) (behind_name other name) b → AnswersEach flat numbers one other names false
  each-not i name b at is answers = answers-fail flat numbers b is answers (λ there rest. there (name ∷ rest)) (each-at names i name at)

module _ (flat : FlatModule) (numbers : List ℕ) (one other : FlatFace) where
  pub each-from : (names : List Named) → AreAlike flat one.leads other.leads → AreEachAlike flat one other names
  each-from [] alike = tt
  each-from (name ∷ names) alike = (λ rest. alike (name ∷ rest), each-from names alike)

  pub leads-not : (names words : List Named) (b : Bool) → b ≡ false → AnswersEither flat numbers one other names words b → AnswersAlike flat numbers one.leads other.leads false
  leads-not names words b is answers = answers-fail flat numbers b is answers (λ there. there) (λ alike. (each-from names alike, each-from words alike))

-- ---- one instance further

-- the first instance of a path, and what is behind it
abbrev first_in : Path → Instance
first_in resolved_tree.End = resolved_tree.Absent
first_in (resolved_tree.Through instance rest) = instance

abbrev rest_in : Path → Path
rest_in resolved_tree.End = resolved_tree.End
rest_in (resolved_tree.Through instance rest) = rest

through-same : (i k : Instance) (l m : Lead) → trees.through i l ≡ trees.through k m → (i ≡ k) × (l ≡ m)
through-same i k l m same = (ap (λ (x : Lead). first_in x.path) same, ap (λ (x : Lead). record { path = rest_in x.path; end = x.end }) same)

module _ (flat : FlatModule) where
  -- where paths lead through an instance
  abbrev pub beyond : ℕ → (List Named → flat_leads.Lead) → List Named → flat_leads.Lead
  beyond j leads names = flat_leads.through j (leads names)

  through-alike : (j k : ℕ) (one other : List Named → flat_leads.Lead) → instance_tree flat j ≡ instance_tree flat k → AreAlike flat one other → AreAlike flat (beyond j one) (beyond k other)
  through-alike j k one other instance alike names = λ i. trees.through (instance i) (alike names i)

  through-back : (j k : ℕ) (one other : List Named → flat_leads.Lead) → AreAlike flat (beyond j one) (beyond k other) → (instance_tree flat j ≡ instance_tree flat k) × AreAlike flat one other
  through-back j k one other alike = (
    (through-same (instance_tree flat j) (instance_tree flat k) (lead_in flat (one [])) (lead_in flat (other [])) (alike [])).0,
    λ names. (through-same (instance_tree flat j) (instance_tree flat k) (lead_in flat (one names)) (lead_in flat (other names)) (alike names)).1,
  )

  through-there : (j k : ℕ) (one other : List Named → flat_leads.Lead) → AreThere flat (beyond j one) (beyond k other) → (IsInstance flat j × IsInstance flat k) × AreThere flat one other
  through-there j k one other there = (
    ((there []).0.path.0, (there []).1.path.0),
    λ names. (record { path = (there names).0.path.1; end = (there names).0.end }, record { path = (there names).1.path.1; end = (there names).1.end }),
  )

  behind-alike : (j k : ℕ) (one other : FlatFace) → instance_tree flat j ≡ instance_tree flat k → AreAlike flat one.leads other.leads → AreAlike flat (behind_instance j one) (behind_instance k other)
  behind-alike j k one other instance alike [] = refl
  behind-alike j k one other instance alike (name ∷ names) = λ i. trees.through (instance i) (alike (name ∷ names) i)

  behind-instance : (j k : ℕ) (one other : FlatFace) → AreAlike flat (behind_instance j one) (behind_instance k other) → instance_tree flat j ≡ instance_tree flat k
  behind-instance j k one other alike =
      (through-same (instance_tree flat j) (instance_tree flat k) (lead_in flat (one.leads (Word [] ∷ []))) (lead_in flat (other.leads (Word [] ∷ []))) (alike (Word [] ∷ []))).0

  behind-back : (j k : ℕ) (one other : FlatFace) → one.leads [] ≡ nowhere → other.leads [] ≡ nowhere → AreAlike flat (behind_instance j one) (behind_instance k other) → AreAlike flat one.leads other.leads
  behind-back j k one other first second alike [] = ap (lead_in flat) (first ∙ sym second)
  behind-back j k one other first second alike (name ∷ names) =
      (through-same (instance_tree flat j) (instance_tree flat k) (lead_in flat (one.leads (name ∷ names))) (lead_in flat (other.leads (name ∷ names))) (alike (name ∷ names))).1

  nowhere-there : (lead : flat_leads.Lead) → lead ≡ nowhere → IsLeadWithin flat lead
  nowhere-there lead is = subst (IsLeadWithin flat) (sym is) (record { path = tt; end = tt })

  behind-used : (j k : ℕ) (one other : FlatFace) → AreThere flat (behind_instance j one) (behind_instance k other) → IsInstance flat j × IsInstance flat k
  behind-used j k one other there = ((there (Word [] ∷ [])).0.path.0, (there (Word [] ∷ [])).1.path.0)

  behind-there : (j k : ℕ) (one other : FlatFace) → one.leads [] ≡ nowhere → other.leads [] ≡ nowhere → AreThere flat (behind_instance j one) (behind_instance k other) → AreThere flat one.leads other.leads
  behind-there j k one other first second there [] = (nowhere-there (one.leads []) first, nowhere-there (other.leads []) second)
  behind-there j k one other first second there (name ∷ names) =
      (record { path = (there (name ∷ names)).0.path.1; end = (there (name ∷ names)).0.end }, record { path = (there (name ∷ names)).1.path.1; end = (there (name ∷ names)).1.end })

-- ---- what has numbers

module _ (flat : FlatModule) (numbers : List ℕ) where
  -- an instance that is there has numbers
  pub instance-numbered : (j : ℕ) → length flat.nodes ≤ length numbers → IsInstance flat j → IsNumberedInstance numbers (slice_get flat.instances j)
  instance-numbered j all there =
      subst (IsNumberedInstance numbers) (sym there.1) (all-weaker (λ r. r.root < length flat.nodes) (λ r. r.root < length numbers) (λ r below. omega (arith, below, all)) there.0.replacements there.2)

  -- two instances have the same tree
  pub instances-answered : (j k : ℕ) (b : Bool) → (IsTrue b → IsSameInstance flat numbers (slice_get flat.instances j) (slice_get flat.instances k))
      → FindsSameInstance flat numbers (slice_get flat.instances j) (slice_get flat.instances k) b → AnswersInstances flat numbers j k b
  instances-answered j k b same found = record {
    same = same;
    found = λ exact there alike. found exact.trees (instance-numbered j exact.all there.0) (instance-numbered k exact.all there.1) alike;
  }

  -- ---- ways

  -- ways that are others
  pub ways-as : (f g : ℕ → FlatFace) (one one' other other' : way.the_data) (b : Bool) → one ≡ one' → other ≡ other' → AnswersAlike flat numbers (way_lead f one') (way_lead g other') b
      → AnswersAlike flat numbers (way_lead f one) (way_lead g other) b
  ways-as f g one one' other other' b first second =
      answers-of flat numbers (way_lead f one') (way_lead f one) (way_lead g other') (way_lead g other) b (λ i. way_lead f (sym first i)) (λ i. way_lead g (sym second i))

  -- ends where no name follows
  pub ends-answered : (f g : ℕ → FlatFace) (one other : end.the_data) (b : Bool) → AnswersEnds flat numbers one other b → AnswersAlike flat numbers (way_lead f (way.To one)) (way_lead g (way.To other)) b
  ends-answered f g one other b answers =
      answers-as flat numbers b answers (λ there. ((there []).0.end, (there []).1.end)) (λ told. alike) (λ all. ap (λ (x : Lead). x.end) (all []))
    where
      alike : end_in flat one ≡ end_in flat other → (names : List Named) → lead_in flat (only one names) ≡ lead_in flat (only other names)
      alike same [] = λ i. record { path = resolved_tree.End; end = same i }
      alike same (name ∷ names) = refl

  -- ways behind two instances
  pub behind-other : (f g : ℕ → FlatFace) (j k : ℕ) (p q : Option ℕ) (b : Bool) → b ≡ false → AnswersInstances flat numbers j k b
      → AnswersAlike flat numbers (way_lead f (way.Behind j p)) (way_lead g (way.Behind k q)) false
  behind-other f g j k p q b is answers =
      answers-fail flat numbers b is answers (behind-used flat j k (face_at f p) (face_at g q)) (behind-instance flat j k (face_at f p) (face_at g q))

  pub behind-answered : (f g : ℕ → FlatFace) (j k : ℕ) (p q : Option ℕ) (one other : FlatFace) (a b : Bool) → face_at f p ≡ one → face_at g q ≡ other → one.leads [] ≡ nowhere → other.leads [] ≡ nowhere
      → a ≡ true → AnswersInstances flat numbers j k a → AnswersAlike flat numbers one.leads other.leads b
      → AnswersAlike flat numbers (way_lead f (way.Behind j p)) (way_lead g (way.Behind k q)) b
  behind-answered f g j k p q one other a b here there first second is instances leads =
      answers-of flat numbers (behind_instance j one) (way_lead f (way.Behind j p)) (behind_instance k other) (way_lead g (way.Behind k q)) b (λ i. behind_instance j (sym here i)) (λ i. behind_instance k (sym there i))
      (answers-as flat numbers b leads (behind-there flat j k one other first second) (λ told. behind-alike flat j k one other (instances.same is told)) (behind-back flat j k one other first second))

  -- ways through two instances
  named-as : (name : Named) → named_in (name_as name) ≡ name
  named-as (Word bytes) = refl
  named-as (Symbol op) = refl

  through-is : (f : ℕ → FlatFace) (j : ℕ) (p : Option ℕ) (name : Named) (one : FlatFace) → face_at f p ≡ one → beyond flat j (behind_name one name) ≡ way_lead f (way.Through j p (name_as name))
  through-is f j p name one here = λ i names. flat_leads.through j ((sym here i).leads (sym (named-as name) i ∷ names))

  pub through-other : (f g : ℕ → FlatFace) (j k : ℕ) (p q : Option ℕ) (name word : Named) (b : Bool) → b ≡ false
      → AnswersInstances flat numbers j k b
      → AnswersAlike flat numbers (way_lead f (way.Through j p (name_as name))) (way_lead g (way.Through k q (name_as word))) false
  through-other f g j k p q name word b is answers =
      answers-of flat numbers (beyond flat j (behind_name (face_at f p) name)) (way_lead f (way.Through j p (name_as name))) (beyond flat k (behind_name (face_at g q) word)) (way_lead g (way.Through k q (name_as word))) false
      (through-is f j p name (face_at f p) refl) (through-is g k q word (face_at g q) refl)
      (answers-fail flat numbers b is answers (λ there. (through-there flat j k (behind_name (face_at f p) name) (behind_name (face_at g q) word) there).0)
      (λ alike. (through-back flat j k (behind_name (face_at f p) name) (behind_name (face_at g q) word) alike).0))

  pub through-answered : (f g : ℕ → FlatFace) (j k : ℕ) (p q : Option ℕ) (name word : Named) (one other : FlatFace) (a b : Bool) → face_at f p ≡ one → face_at g q ≡ other
      → a ≡ true → AnswersInstances flat numbers j k a → AnswersAlike flat numbers (behind_name one name) (behind_name other word) b
      → AnswersAlike flat numbers (way_lead f (way.Through j p (name_as name))) (way_lead g (way.Through k q (name_as word))) b
  through-answered f g j k p q name word one other a b here there is instances names =
      answers-of flat numbers (beyond flat j (behind_name one name)) (way_lead f (way.Through j p (name_as name))) (beyond flat k (behind_name other word)) (way_lead g (way.Through k q (name_as word))) b
      (through-is f j p name one here) (through-is g k q word other there)
      (answers-as flat numbers b names (λ all. (through-there flat j k (behind_name one name) (behind_name other word) all).1)
      (λ told. through-alike flat j k (behind_name one name) (behind_name other word) (instances.same is told)) (λ alike. (through-back flat j k (behind_name one name) (behind_name other word) alike).1))

  -- the same name of modules whose names lead alike
  pub names-known : (one other : FlatFace) (name word : Named) → name ≡ word → (AreTold flat numbers → AreAlike flat one.leads other.leads) → AnswersAlike flat numbers (behind_name one name) (behind_name other word) true
  names-known one other name word same alike = answers-yes flat numbers (λ told names. ap (λ n. lead_in flat (one.leads (n ∷ names))) same ∙ alike told (word ∷ names))

  -- ---- ways that differ

  -- an end, a way behind an instance, or one through it
  abbrev pub sort_of : way.the_data → ℕ
  sort_of (way.To e) = 0
  sort_of (way.Behind j p) = 1
  sort_of (way.Through j p name) = 2

  abbrev one_step : Path → Bool
  one_step resolved_tree.End = false
  one_step (resolved_tree.Through instance rest) = true

  steps-same : (one other : List Named → flat_leads.Lead) → AreAlike flat one other → (names : List Named) → one_step (lead_in flat (one names)).path ≡ one_step (lead_in flat (other names)).path
  steps-same one other alike names = ap (λ (x : Lead). one_step x.path) (alike names)

  sorts-same : (f g : ℕ → FlatFace) (one other : way.the_data) → AreAlike flat (way_lead f one) (way_lead g other) → sort_of one ≡ sort_of other
  sorts-same f g (way.To e) (way.To d) alike = refl
  sorts-same f g (way.To e) (way.Behind k q) alike = absurd (true≢false (sym (steps-same (way_lead f (way.To e)) (way_lead g (way.Behind k q)) alike (Word [] ∷ []))))
  sorts-same f g (way.To e) (way.Through k q m) alike = absurd (true≢false (sym (steps-same (way_lead f (way.To e)) (way_lead g (way.Through k q m)) alike [])))
  sorts-same f g (way.Behind j p) (way.To d) alike = absurd (true≢false (steps-same (way_lead f (way.Behind j p)) (way_lead g (way.To d)) alike (Word [] ∷ [])))
  sorts-same f g (way.Behind j p) (way.Behind k q) alike = refl
  sorts-same f g (way.Behind j p) (way.Through k q m) alike = absurd (true≢false (sym (steps-same (way_lead f (way.Behind j p)) (way_lead g (way.Through k q m)) alike [])))
  sorts-same f g (way.Through j p n) (way.To d) alike = absurd (true≢false (steps-same (way_lead f (way.Through j p n)) (way_lead g (way.To d)) alike []))
  sorts-same f g (way.Through j p n) (way.Behind k q) alike = absurd (true≢false (steps-same (way_lead f (way.Through j p n)) (way_lead g (way.Behind k q)) alike []))
  sorts-same f g (way.Through j p n) (way.Through k q m) alike = refl

  pub apart-to : (other : step.the_data) → ((d : end.the_data) → other ≡ step.To d → ⊥) → ¬ (0 ≡ sort_of (step_way other))
  apart-to (step.To d) none = λ same. none d refl
  apart-to (step.Behind passage) none = λ same. omega (arith, same)
  apart-to (step.Through passage name) none = λ same. omega (arith, same)

  pub apart-behind : (other : step.the_data) → ((p : Passage) → other ≡ step.Behind p → ⊥) → ¬ (1 ≡ sort_of (step_way other))
  apart-behind (step.To d) none = λ same. omega (arith, same)
  apart-behind (step.Behind passage) none = λ same. none passage refl
  apart-behind (step.Through passage name) none = λ same. omega (arith, same)

  pub apart-through : (other : step.the_data) → ((p : Passage) (n : context_name.the_data) → other ≡ step.Through p n → ⊥) → ¬ (2 ≡ sort_of (step_way other))
  apart-through (step.To d) none = λ same. omega (arith, same)
  apart-through (step.Behind passage) none = λ same. omega (arith, same)
  apart-through (step.Through passage name) none = λ same. none passage name refl

  pub sorts-apart : (f g : ℕ → FlatFace) (one other : way.the_data) → ¬ (sort_of one ≡ sort_of other) → AnswersAlike flat numbers (way_lead f one) (way_lead g other) false
  sorts-apart f g one other apart = answers-no flat numbers (λ exact there alike. apart (sorts-same f g one other alike))

  -- ---- nowhere

  only-nowhere : (names : List Named) → only end.Nowhere names ≡ nowhere
  only-nowhere [] = refl
  only-nowhere (name ∷ names) = refl

  end-nowhere : (e : end.the_data) → end_in flat e ≡ trees.Nowhere → e ≡ end.Nowhere
  end-nowhere end.Nowhere same = refl
  end-nowhere (end.Leaf kind) same = cc
  end-nowhere (end.Place place order) same = cc
  end-nowhere (end.Definition d) same = cc

  nowhere-alone : (f : ℕ → FlatFace) (one : way.the_data) → AreAlike flat (way_lead f one) (λ names. nowhere) → one ≡ way.To end.Nowhere
  nowhere-alone f (way.To e) alike = ap (λ (x : end.the_data). way.To x) (end-nowhere e (ap (λ (x : Lead). x.end) (alike [])))
  nowhere-alone f (way.Behind j p) alike = absurd (true≢false (steps-same (way_lead f (way.Behind j p)) (λ names. nowhere) alike (Word [] ∷ [])))
  nowhere-alone f (way.Through j p n) alike = absurd (true≢false (steps-same (way_lead f (way.Through j p n)) (λ names. nowhere) alike []))

  nowhere-answered : (f : ℕ → FlatFace) (one : way.the_data) (b : Bool) → Tells b (one ≡ way.To end.Nowhere) → AnswersAlike flat numbers (way_lead f one) (λ names. nowhere) b
  nowhere-answered f one true is = answers-yes flat numbers (λ told names. ap (λ z. lead_in flat (way_lead f z names)) is ∙ ap (lead_in flat) (only-nowhere names))
  nowhere-answered f one false isnt = answers-no flat numbers (λ exact there alike. isnt (nowhere-alone f one alike))

  pub first-nowhere : (f : ℕ → FlatFace) (first : way.the_data) (one other : List Named → flat_leads.Lead) (b : Bool) → ((names : List Named) → one names ≡ way_lead f first names) → ((names : List Named) → other names ≡ nowhere)
      → Tells b (first ≡ way.To end.Nowhere) → AnswersAlike flat numbers one other b
  first-nowhere f first one other b leads none tells = answers-of flat numbers (way_lead f first) one (λ names. nowhere) other b (λ i names. sym (leads names) i) (λ i names. sym (none names) i) (nowhere-answered f first b tells)

  -- ---- names by their ways

  -- in two modules
  module _ (listed : List ModuleFace) (limit : ℕ) (one other : Option ℕ) (name word : Named) where
    abbrev pub first_path : List Named → flat_leads.Lead
    first_path = behind_name (face_at (first_faces listed limit) one) name

    abbrev pub second_path : List Named → flat_leads.Lead
    second_path = behind_name (face_at (first_faces listed limit) other) word

    pub names-answered : (a b : ℕ) (first second : way.the_data) (s : Bool) → IsWayBefore listed limit one name a first → IsWayBefore listed limit other word b second
        → AnswersAlike flat numbers (way_lead (first_faces listed a) first) (way_lead (first_faces listed b) second) s → AnswersAlike flat numbers first_path second_path s
    names-answered a b first second s here there =
        answers-of flat numbers (way_lead (first_faces listed a) first) first_path (way_lead (first_faces listed b) second) second_path s (λ i names. sym (here.leads names) i) (λ i names. sym (there.leads names) i)

    pub second-missing : (a : ℕ) (first : way.the_data) (s : Bool) → IsWayBefore listed limit one name a first → LeadsNowhere listed limit other word → Tells s (first ≡ way.To end.Nowhere)
        → AnswersAlike flat numbers first_path second_path s
    second-missing a first s here none = first-nowhere (first_faces listed a) first first_path second_path s here.leads none

    pub first-missing : (b : ℕ) (second : way.the_data) (s : Bool) → LeadsNowhere listed limit one name → IsWayBefore listed limit other word b second → Tells s (second ≡ way.To end.Nowhere)
        → AnswersAlike flat numbers first_path second_path s
    first-missing b second s none there tells =
        answers-turned flat numbers second_path first_path s (first-nowhere (first_faces listed b) second second_path first_path s there.leads none tells)

    pub both-missing : LeadsNowhere listed limit one name → LeadsNowhere listed limit other word → AnswersAlike flat numbers first_path second_path true
    both-missing none gone = answers-yes flat numbers (λ told names. ap (lead_in flat) (none names ∙ sym (gone names)))
