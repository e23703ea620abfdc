-- What states the modules of a family have, and what their needs give, whatever is found of a module.
use Rattle.std.proofs.Common.{◌≡◌, ◌≢◌, ℕ, Bool, true, false, List, [], ◌∷◌, Option, Some, None, refl, sym, ap, ◌∙◌, subst, map, cond, inl, inr}
use mathlib.Core.Path.{fun_ext}
use Rattle.std.specs.Prelude.{◌||◌, Contains, unwrap_or}
use Rattle.std.specs.Cmp.Lexicographic.{nat_list_cmp_total}
use Rattle.std.specs.FinMap.{find, get, get-from_entries, keys}
use Rattle.std.specs.Str.{bytes_eq}
use Rattle.std.proofs.lemmas.Bool.{or_left}
use Rattle.list_laws.proofs.Texts.{same-text, text-itself}
use Rattle.tla_model.specs.declared.Diagnostic.{Diagnostic}
use Rattle.tla_model.specs.Lexemes.{spelled}
use Rattle.unit_grammar.specs.Units.{ModuleUnits}
use Rattle.index_graph.specs.Leading.{Leads, last, more}
use Rattle.module_graph.specs.Imports.{imports_of}
use Rattle.front_laws.specs.Fronts.{Front, IsFront, Tree, Fault}
use Rattle.fact_values.specs.Names.{Texts, has, name_cmp, name_eq}
use Rattle.fact_values.specs.Reach.{IsPath}
use Rattle.fact_values.specs.States.{State, no_text, cyclic, broken, fact}
use Rattle.fact_values.specs.Values as values
use Rattle.fact_values.proofs.NameLemmas.{name_eq-same, or_cases, same_name}
use Rattle.fact_values.proofs.ReachLemmas.{leads_from-path, reaches_from-leads}
use Rattle.fact_values.proofs.ValueLemmas.{needs_in-none, value-step}
use Rattle.family_facts.specs.Family as families
use Rattle.family_facts.specs.Family.{Member, Needs, IsCyclic, is_there}
use Rattle.family_facts.specs.Fronts.{front_of}
use Rattle.family_facts.specs.Facts.{Own, own_of, needs_by, needs_of, texts_of}
use Rattle.family_facts.proofs.Lists.{behind, first-or-rest, here, none-there}
use Rattle.family_facts.proofs.Members.{AreOneEach, member-there, there-member}
use Rattle.family_facts.proofs.Needing.{HasNoOther, needed, needs-or-not, needs-tree, not-there, tree-needs}
use Rattle.family_facts.proofs.FrontLaws.{front-is}

-- ---- names in lists

contains-has : (names : List (List ℕ)) (name : List ℕ) → Contains names name → has names name ≡ true
contains-has [] name h = absurd (none-there name h)
contains-has (x ∷ xs) name h = elim (first-or-rest x xs name h) as (λ _. has (x ∷ xs) name ≡ true) [
  | inl e ↦ or_left (name_eq name x) (has xs name) (name_eq-same name x (sym e))
  | inr k ↦ either (name_eq name x) (has xs name) (contains-has xs name k)
]
  where
    either : (a b : Bool) → b ≡ true → (a || b) ≡ true
    either true b e = refl
    either false b e = e

has-contains : (names : List (List ℕ)) (name : List ℕ) → has names name ≡ true → Contains names name
has-contains [] name h = cc
has-contains (x ∷ xs) name h = elim (or_cases (name_eq name x) (has xs name) h) as (λ _. Contains (x ∷ xs) name) [
  | inl e ↦ subst (λ z. Contains (x ∷ xs) z) (sym (same_name name x e)) (here x xs)
  | inr k ↦ behind x xs name (has-contains xs name k)
]

-- ---- the texts of a family

module _ (family : List Member) (distinct : AreOneEach family) where
  found-first : (ms : List Member) (m : Member) → ((x : Member) → Contains ms x → Contains family x) → Contains ms m → find name_cmp m.name (map (λ (x : Member). (x.name, x.bytes)) ms) ≡ Some m.bytes
  found-first [] m of h = absurd (none-there m h)
  found-first (x ∷ xs) m of h = by (λ k. found-first xs m (λ y at. of y (behind x xs y at)) k) (name_eq m.name x.name) refl
    where
      by : (Contains xs m → find name_cmp m.name (map (λ (y : Member). (y.name, y.bytes)) xs) ≡ Some m.bytes) → (b : Bool) → name_eq m.name x.name ≡ b → cond b (Some x.bytes) (find name_cmp m.name (map (λ (y : Member). (y.name, y.bytes)) xs)) ≡ Some m.bytes
      by rest true t = let same : x ≡ m = distinct x m (of x (here x xs)) (of m h) (sym (same_name m.name x.name t)) in ap (λ (y : Member). Some y.bytes) same
      by rest false f = elim (first-or-rest x xs m h) as (λ _. find name_cmp m.name (map (λ (y : Member). (y.name, y.bytes)) xs) ≡ Some m.bytes) [
        | inl e ↦ let t : name_eq m.name x.name ≡ true = name_eq-same m.name x.name (ap (λ (y : Member). y.name) (sym e)) in let k : true ≡ false = sym t ∙ f in cc
        | inr k ↦ rest k
      ]

  -- each member's text is there
  pub text-of-member : (m : Member) → Contains family m → get (texts_of family) m.name ≡ Some m.bytes
  text-of-member m h = get-from_entries nat_list_cmp_total (map (λ (x : Member). (x.name, x.bytes)) family) m.name ∙ found-first family m (λ x at. at) h

-- a text that is there is that of a member
pub record IsTextOf (ms : List Member) (name bytes : List ℕ) : Type 0 where
  pub member : Member
  pub there : Contains ms member
  pub named : member.name ≡ name
  pub is : member.bytes ≡ bytes

found-member : (ms : List Member) (name bytes : List ℕ) → find name_cmp name (map (λ (x : Member). (x.name, x.bytes)) ms) ≡ Some bytes → IsTextOf ms name bytes
found-member [] name bytes e = cc
found-member (x ∷ xs) name bytes e = by (λ k. found-member xs name bytes k) (name_eq name x.name) refl e
  where
    by : (find name_cmp name (map (λ (y : Member). (y.name, y.bytes)) xs) ≡ Some bytes → IsTextOf xs name bytes) → (b : Bool) → name_eq name x.name ≡ b → cond b (Some x.bytes) (find name_cmp name (map (λ (y : Member). (y.name, y.bytes)) xs)) ≡ Some bytes → IsTextOf (x ∷ xs) name bytes
    by rest true t k = record { member = x; there = here x xs; named = sym (same_name name x.name t); is = cc }
    by rest false f k = let r = rest k in record { member = r.member; there = behind x xs r.member r.there; named = r.named; is = r.is }

pub text-member : (family : List Member) (name bytes : List ℕ) → get (texts_of family) name ≡ Some bytes → IsTextOf family name bytes
text-member family name bytes e = found-member family name bytes (sym (get-from_entries nat_list_cmp_total (map (λ (x : Member). (x.name, x.bytes)) family) name) ∙ e)

no-text : (family : List Member) (name : List ℕ) → is_there family name ≡ false → get (texts_of family) name ≡ None
no-text family name f = by (get (texts_of family) name) refl
  where
    by : (o : Option (List ℕ)) → get (texts_of family) name ≡ o → o ≡ None
    by None e = refl
    by (Some bytes) e = let m = text-member family name bytes e in absurd (not-there f (member-there family name m.member m.there m.named))

-- ---- fronts

-- the front that a member has is the one that the function gives
pub front-one : HasNoOther → (m : Member) (f : Front) → IsFront m.name m.bytes f → front_of m.name m.bytes ≡ f
front-one one m f is = one m.name m.bytes (front_of m.name m.bytes) f (front-is m.name m.bytes) is

-- ---- what needs give

-- a list of needs is looked up so: under the name of a need is what its state gives, and nothing else is known
module _ {F B : Type 0} (look : List (List ℕ × State F) → List ℕ → B) (by_state : State F → B) (unknown : B) (at-none : (name : List ℕ) → look [] name ≡ unknown)
    (at-first : (need : List ℕ × State F) (needs : List (List ℕ × State F)) (name : List ℕ) → look (need ∷ needs) name ≡ cond (bytes_eq name need.0) (by_state need.1) (look needs name)) (gives : List ℕ → State F) where
  -- a need is what it gives
  need-given : (needs : List (List ℕ)) (need : List ℕ) → Contains needs need → look (map (λ n. (n, gives n)) needs) need ≡ by_state (gives need)
  need-given [] need h = absurd (none-there need h)
  need-given (x ∷ xs) need h = at-first (x, gives x) (map (λ n. (n, gives n)) xs) need ∙ by (λ k. need-given xs need k) (bytes_eq need x) refl
    where
      by : (Contains xs need → look (map (λ n. (n, gives n)) xs) need ≡ by_state (gives need)) → (b : Bool) → bytes_eq need x ≡ b → cond b (by_state (gives x)) (look (map (λ n. (n, gives n)) xs) need) ≡ by_state (gives need)
      by rest true t = ap (λ n. by_state (gives n)) (sym (same-text need x t))
      by rest false f = elim (first-or-rest x xs need h) as (λ _. look (map (λ n. (n, gives n)) xs) need ≡ by_state (gives need)) [
        | inl e ↦ let k : true ≡ false = sym (text-itself need x (sym e)) ∙ f in cc
        | inr k ↦ rest k
      ]

  -- and nothing else is known
  no-need-given : (needs : List (List ℕ)) (need : List ℕ) → (Contains needs need → ⊥) → look (map (λ n. (n, gives n)) needs) need ≡ unknown
  no-need-given [] need none = at-none need
  no-need-given (x ∷ xs) need none = at-first (x, gives x) (map (λ n. (n, gives n)) xs) need ∙ by (no-need-given xs need (λ k. none (behind x xs need k))) (bytes_eq need x) refl
    where
      by : look (map (λ n. (n, gives n)) xs) need ≡ unknown → (b : Bool) → bytes_eq need x ≡ b → cond b (by_state (gives x)) (look (map (λ n. (n, gives n)) xs) need) ≡ unknown
      by rest true t = absurd (none (subst (λ z. Contains (x ∷ xs) z) (sym (same-text need x t)) (here x xs)))
      by rest false f = rest

-- ---- a family, of whose texts facts are found by the states of their needs

module _ {F : Type 0} (fact_of : List ℕ → Own → List (List ℕ × State F) → F) (one : HasNoOther) (family : List Member) (distinct : AreOneEach family) where
  abbrev texts : Texts
  texts = texts_of family

  needs : List ℕ → List (List ℕ)
  needs = values.needs_in own_of needs_of fact_of texts

  needs-of-member : (m : Member) → Contains family m → needs m.name ≡ values.needs_of_text own_of needs_of fact_of m.name (Some m.bytes)
  unfolding needs
  needs-of-member m h = ap (values.needs_of_text own_of needs_of fact_of m.name) (text-of-member family distinct m h)

  needs-of-tree : (m : Member) (found : ModuleUnits) → Contains family m → IsFront m.name m.bytes (Tree found) → needs m.name ≡ map (spelled m.bytes) (imports_of m.bytes found)
  needs-of-tree m found h is = needs-of-member m h ∙ ap (λ f. unwrap_or (needs_by m.bytes f) []) (front-one one m (Tree found) is)

  -- one name needs another by the texts exactly where it does by the family
  need-in : (name need : List ℕ) → Needs family name need → has (needs name) need ≡ true
  need-in name need n =
      subst (λ z. has (needs z) need ≡ true) n.named
      (ap (λ ns. has ns need) (needs-of-tree n.member n.found n.there n.front) ∙ contains-has (map (spelled n.member.bytes) (imports_of n.member.bytes n.found)) need n.needs)

  need-by-front : (m : Member) (need : List ℕ) → Contains family m → (f : Front) → front_of m.name m.bytes ≡ f → has (unwrap_or (needs_by m.bytes f) []) need ≡ true → Needs family m.name need
  need-by-front m need h (Tree found) e has-need =
      record { member = m; found = found; there = h; named = refl; front = subst (λ f. IsFront m.name m.bytes f) e (front-is m.name m.bytes); needs = has-contains (map (spelled m.bytes) (imports_of m.bytes found)) need has-need }
  need-by-front m need h (Fault fault) e has-need = cc

  need-of-text : (name need : List ℕ) (o : Option (List ℕ)) → get texts name ≡ o → has (values.needs_of_text own_of needs_of fact_of name o) need ≡ true → Needs family name need
  need-of-text name need None e h = cc
  need-of-text name need (Some bytes) e h =
      let t = text-member family name bytes e in
      let own : has (unwrap_or (needs_by t.member.bytes (front_of t.member.name t.member.bytes)) []) need ≡ true = subst (λ b. has (unwrap_or (needs_by b (front_of t.member.name b)) []) need ≡ true) (sym t.is) (subst (λ n. has (unwrap_or (needs_by bytes (front_of n bytes)) []) need ≡ true) (sym t.named) h) in
      subst (λ z. Needs family z need) t.named (need-by-front t.member need t.there (front_of t.member.name t.member.bytes) refl own)

  need-out : (name need : List ℕ) → has (needs name) need ≡ true → Needs family name need
  unfolding needs
  need-out name need h = need-of-text name need (get texts name) refl h

  pub needs-out : (name need : List ℕ) → has (values.needs_in own_of needs_of fact_of texts name) need ≡ true → Needs family name need
  unfolding needs
  needs-out name need h = need-out name need h

  -- ---- cycles

  path-of : {a b : List ℕ} → Leads (families.Needs family) a b → (xs : List (List ℕ)) × IsPath needs a xs b
  path-of (last {a = a} {b = b} n) = (b ∷ [], (need-in a b n, refl))
  path-of (more {a = a} {b = b} n rest) = let p = path-of rest in (b ∷ p.0, (need-in a b n, p.1))

  cyclic-path : (name need : List ℕ) → IsCyclic family name need → (xs : List (List ℕ)) × IsPath needs need xs name
  cyclic-path name need (inl e) = ([], e)
  cyclic-path name need (inr r) = path-of r

  leads-path : (a x : List ℕ) (xs : List (List ℕ)) (b : List ℕ) → has (needs a) x ≡ true → IsPath needs x xs b → Leads (families.Needs family) a b
  leads-path a x [] b h e = last (subst (λ z. Needs family a z) e (need-out a x h))
  leads-path a x (y ∷ ys) b h p = more (need-out a x h) (leads-path x y ys b p.0 p.1)

  path-cyclic : (name need : List ℕ) (xs : List (List ℕ)) → IsPath needs need xs name → IsCyclic family name need
  path-cyclic name need [] e = inl e
  path-cyclic name need (x ∷ xs) p = inr (leads-path need x xs name p.0 p.1)

  reaches-cyclic : (name need : List ℕ) → IsCyclic family name need → values.reaches own_of needs_of fact_of texts need name ≡ true
  unfolding needs
  reaches-cyclic name need c = let p = cyclic-path name need c in leads_from-path needs (keys texts) (needs_in-none own_of needs_of fact_of texts) p.0 need name p.1

  cyclic-reaches : (name need : List ℕ) → values.reaches own_of needs_of fact_of texts need name ≡ true → IsCyclic family name need
  unfolding needs
  cyclic-reaches name need r = let p = reaches_from-leads needs (keys texts) need name r in path-cyclic name need p.0 p.1

  -- a name that is not there is on no cycle with one that is
  never-cyclic : (name need : List ℕ) → is_there family name ≡ true → is_there family need ≡ false → IsCyclic family name need → ⊥
  never-cyclic name need t f (inl e) = not-there f (subst (λ z. is_there family z ≡ true) (sym e) t)
  never-cyclic name need t f (inr (last n)) = not-there f (member-there family need n.member n.there n.named)
  never-cyclic name need t f (inr (more n rest)) = not-there f (member-there family need n.member n.there n.named)

  -- ---- states

  -- the state of each name
  pub state : List ℕ → State F
  state = values.value own_of needs_of fact_of texts

  -- what each need gives to a name
  pub gives : List ℕ → List ℕ → State F
  gives = values.gives own_of needs_of fact_of texts state

  -- what is found of a member, by what its needs give
  abbrev pub found_by_needs : Member → F
  found_by_needs m = fact_of m.name (own_of m.name m.bytes) (values.given_in own_of needs_of fact_of texts m.name)

  state-of-member : (m : Member) → Contains family m → state m.name ≡ values.value_of_needs own_of needs_of fact_of texts state m.name (own_of m.name m.bytes) (needs_by m.bytes (front_of m.name m.bytes))
  unfolding state
  state-of-member m h = value-step own_of needs_of fact_of texts m.name ∙ ap (λ t. values.value_of_text own_of needs_of fact_of texts (values.value own_of needs_of fact_of texts) m.name t) (text-of-member family distinct m h)

  given-of-tree : (m : Member) (found : ModuleUnits) → Contains family m → front_of m.name m.bytes ≡ Tree found → values.given_in own_of needs_of fact_of texts m.name ≡ map (λ need. (need, gives m.name need)) (needed m.bytes found)
  unfolding needs gives state
  given-of-tree m found h e = ap (λ ns. values.all_given own_of needs_of fact_of texts (values.value own_of needs_of fact_of texts) m.name ns) (needs-of-member m h ∙ ap (λ f. unwrap_or (needs_by m.bytes f) []) e)

  -- of a member with a tree there is a fact
  state-of-tree : (m : Member) (found : ModuleUnits) → Contains family m → front_of m.name m.bytes ≡ Tree found → state m.name ≡ fact (found_by_needs m)
  unfolding gives state
  state-of-tree m found h e =
      state-of-member m h
      ∙ ap (λ f. values.value_of_needs own_of needs_of fact_of texts state m.name (own_of m.name m.bytes) (needs_by m.bytes f)) e
      ∙ ap (λ g. fact (fact_of m.name (own_of m.name m.bytes) g)) (sym (given-of-tree m found h e))

  -- and one with a front fault is broken
  state-of-fault : (m : Member) (fault : Diagnostic) → Contains family m → front_of m.name m.bytes ≡ Fault fault → state m.name ≡ broken
  state-of-fault m fault h e = state-of-member m h ∙ ap (λ f. values.value_of_needs own_of needs_of fact_of texts state m.name (own_of m.name m.bytes) (needs_by m.bytes f)) e

  state-unknown : (name : List ℕ) → is_there family name ≡ false → state name ≡ no_text
  unfolding state
  state-unknown name f = value-step own_of needs_of fact_of texts name ∙ ap (λ t. values.value_of_text own_of needs_of fact_of texts (values.value own_of needs_of fact_of texts) name t) (no-text family name f)

  -- what a need gives that is on no cycle is its state
  pub gives-state : (name need : List ℕ) → (IsCyclic family name need → ⊥) → gives name need ≡ state need
  unfolding gives
  gives-state name need ordered = by (values.reaches own_of needs_of fact_of texts need name) refl
    where
      by : (b : Bool) → values.reaches own_of needs_of fact_of texts need name ≡ b → cond b cyclic (state need) ≡ state need
      by true r = absurd (ordered (cyclic-reaches name need r))
      by false r = refl

  -- one that is on a cycle gives just that
  pub gives-cyclic : (name need : List ℕ) → IsCyclic family name need → gives name need ≡ cyclic
  unfolding gives
  gives-cyclic name need c = ap (λ b. cond b cyclic (state need)) (reaches-cyclic name need c)

  -- and one that is not there gives nothing
  pub gives-unknown : (name need : List ℕ) → is_there family name ≡ true → is_there family need ≡ false → gives name need ≡ no_text
  gives-unknown name need t f = gives-state name need (never-cyclic name need t f) ∙ state-unknown need f

  -- ---- with and without faults

  -- faults of facts, and what is found of each name; of a member with a front fault there are some
  module _ (faults_in : F → List Diagnostic) (found : List ℕ → F) (is : (m : Member) → Contains family m → found m.name ≡ found_by_needs m)
      (faulty : (name bytes : List ℕ) (given : List (List ℕ × State F)) (fault : Diagnostic) → front_of name bytes ≡ Fault fault → faults_in (fact_of name (own_of name bytes) given) ≢ []) where
    data HasState (name : List ℕ) : Type 0 where
      broken-state : state name ≡ broken → faults_in (found name) ≢ [] → HasState name
      fact-state : state name ≡ fact (found name) → HasState name

    by-front : (m : Member) → Contains family m → (f : Front) → front_of m.name m.bytes ≡ f → HasState m.name
    by-front m h (Tree units) e = fact-state (state-of-tree m units h e ∙ ap fact (sym (is m h)))
    by-front m h (Fault fault) e = broken-state (state-of-fault m fault h e) (λ none. faulty m.name m.bytes (values.given_in own_of needs_of fact_of texts m.name) fault e (ap faults_in (sym (is m h)) ∙ none))

    has-state : (name : List ℕ) → is_there family name ≡ true → HasState name
    has-state name t = let m = there-member family name t in subst HasState m.2 (by-front m.0 m.1 (front_of m.0.name m.0.bytes) refl)

    module _ {B : Type 0} (by_state : State F → B) where
      accepted-so : (need : List ℕ) → HasState need → faults_in (found need) ≡ [] → by_state (state need) ≡ by_state (fact (found need))
      accepted-so need (broken-state e some) none = absurd (some none)
      accepted-so need (fact-state e) none = ap by_state e

      -- one without faults gives what is found of it
      pub gives-accepted : (name need : List ℕ) → (IsCyclic family name need → ⊥) → is_there family need ≡ true → faults_in (found need) ≡ [] → by_state (gives name need) ≡ by_state (fact (found need))
      gives-accepted name need ordered t none = ap by_state (gives-state name need ordered) ∙ accepted-so need (has-state need t) none

      module _ (refused : B) (at-broken : by_state broken ≡ refused) (at-fact : (f : F) → faults_in f ≢ [] → by_state (fact f) ≡ refused) where
        refused-so : (need : List ℕ) → HasState need → faults_in (found need) ≢ [] → by_state (state need) ≡ refused
        refused-so need (broken-state e s) some = ap by_state e ∙ at-broken
        refused-so need (fact-state e) some = ap by_state e ∙ at-fact (found need) some

        -- one with faults gives the same as one that is broken
        pub gives-refused : (name need : List ℕ) → (IsCyclic family name need → ⊥) → is_there family need ≡ true → faults_in (found need) ≢ [] → by_state (gives name need) ≡ refused
        gives-refused name need ordered t some = ap by_state (gives-state name need ordered) ∙ refused-so need (has-state need t) some

  -- ---- what is given to a member

  -- what is given of each need by its state, and of nothing else, is what is looked up
  module _ {B : Type 0} (look : List (List ℕ × State F) → List ℕ → B) (by_state : State F → B) (unknown : B) (at-none : (name : List ℕ) → look [] name ≡ unknown)
      (at-first : (need : List ℕ × State F) (needs : List (List ℕ × State F)) (name : List ℕ) → look (need ∷ needs) name ≡ cond (bytes_eq name need.0) (by_state need.1) (look needs name)) where
    pub given-is : (m : Member) (found : ModuleUnits) → Contains family m → IsFront m.name m.bytes (Tree found) → (given : List ℕ → B)
        → ((need : List ℕ) → Needs family m.name need → given need ≡ by_state (gives m.name need)) → ((need : List ℕ) → (Needs family m.name need → ⊥) → given need ≡ unknown)
        → given ≡ look (values.given_in own_of needs_of fact_of texts m.name)
    given-is m found h front given each others =
        fun_ext (λ need. elim (needs-or-not one family distinct m found need h front) as (λ _. given need ≡ look (map (λ n. (n, gives m.name n)) (needed m.bytes found)) need) [
          | inl n ↦ each need n ∙ sym (need-given look by_state unknown at-none at-first (gives m.name) (needed m.bytes found) need (needs-tree one family distinct m found m.name need h refl front n))
          | inr n ↦ others need n ∙ sym (no-need-given look by_state unknown at-none at-first (gives m.name) (needed m.bytes found) need (λ c. n (tree-needs one family distinct m found m.name need h refl front c)))
        ])
        ∙ ap look (sym (given-of-tree m found h (front-one one m (Tree found) front)))
