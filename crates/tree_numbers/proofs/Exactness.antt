-- Keys, and contents, are equal where they are made of the same, and there alone.
use Rattle.std.proofs.Common.{◌≡◌, ℕ, Bool, true, ◌&&◌, List, [], ◌∷◌, Option, Some, None, refl, sym, ap, subst}
use Rattle.std.specs.Prelude.{nat_eq}
use mathlib.Core.Bool.{beq}
use Rattle.std.specs.Cmp.{booleans_Decides}
use Rattle.std.specs.Cmp.Lexicographic.{pointwise}
use Rattle.std.specs.Option.{option_eq}
use Rattle.std.proofs.lemmas.Bool.{and_parts, eqb-true}
use Rattle.list_laws.proofs.Texts.{numbers-equal}
use Rattle.tla_symbols.specs.declared.level.Kind.{Kind}
use Rattle.tla_symbols.specs.declared.level.Kind.TheVariants.{Const, State, Action, BoxAction, DiamondAction, Temporal}
use Rattle.tla_symbols.specs.declared.level.Rule.{Rule}
use Rattle.tla_symbols.specs.declared.level.Rule.TheVariants.{Plain, Boolean, Prime, Unchanged, Enabled, Always, Eventually, Leads, Compose, Square, Angle, Fair}
use Rattle.kind_text.specs.FlatModule.{FlatModule}
use Rattle.tla_symbols.specs.contracts.level.KindPartialEq as kind_eq
use Rattle.tla_symbols.specs.contracts.level.RulePartialEq as rule_eq
use Rattle.tree_numbers.specs.contracts.keys.HeadPartialEq as head_eq
use Rattle.tree_numbers.specs.contracts.keys.BodyPartialEq as body_eq
use Rattle.tree_numbers.specs.contracts.keys.KeyEq.TheImpl.Laws as key_laws
use Rattle.tree_numbers.specs.contracts.keys.KeyPartialEq as key_partial_eq
use Rattle.tree_numbers.specs.contracts.keys.RootPartialEq as root_eq
use Rattle.tree_numbers.specs.contracts.keys.ContentsEq.TheImpl.Laws as contents_laws
use Rattle.tree_numbers.specs.contracts.keys.ContentsPartialEq as contents_partial_eq
use Rattle.tree_numbers.specs.declared.keys.Body.{Body}
use Rattle.tree_numbers.specs.declared.keys.Contents.{Contents}
use Rattle.tree_numbers.specs.declared.keys.Head.{Head}
use Rattle.tree_numbers.specs.declared.keys.Head.TheVariants as head
use Rattle.tree_numbers.specs.declared.keys.Key.{Key}
use Rattle.tree_numbers.specs.declared.keys.Root.{Root}
use Rattle.tree_numbers.specs.Numbered.{AreContents, Holds, IsKey, IsMadeOf}

kind-exact : (a b : Kind) → (kind_eq.TheImpl.eq-value).it a b ≡ true → a ≡ b
kind-exact Const Const h = refl
kind-exact State State h = refl
kind-exact Action Action h = refl
kind-exact BoxAction BoxAction h = refl
kind-exact DiamondAction DiamondAction h = refl
kind-exact Temporal Temporal h = refl
kind-exact a b h = cc

rule-exact : (a b : Rule) → (rule_eq.TheImpl.eq-value).it a b ≡ true → a ≡ b
rule-exact Plain Plain h = refl
rule-exact Boolean Boolean h = refl
rule-exact Prime Prime h = refl
rule-exact Unchanged Unchanged h = refl
rule-exact Enabled Enabled h = refl
rule-exact Always Always h = refl
rule-exact Eventually Eventually h = refl
rule-exact Leads Leads h = refl
rule-exact Compose Compose h = refl
rule-exact Square Square h = refl
rule-exact Angle Angle h = refl
rule-exact Fair Fair h = refl
rule-exact a b h = cc

head-exact : (a b : Head) → (head_eq.TheImpl.eq-value).it a b ≡ true → a ≡ b
head-exact (head.Leaf k) (head.Leaf l) h = ap head.Leaf (kind-exact k l h)
head-exact (head.Parameter n) (head.Parameter m) h = ap head.Parameter (eqb-true n m h)
head-exact (head.Call n) (head.Call m) h = ap head.Call (eqb-true n m h)
head-exact (head.Operation k) (head.Operation l) h = ap head.Operation (rule-exact k l h)
head-exact head.Bounded head.Bounded h = refl
head-exact head.Old head.Old h = refl
head-exact head.Let head.Let h = refl
head-exact head.Use head.Use h = refl
head-exact head.Name head.Name h = refl
head-exact (head.Symbol k) (head.Symbol l) h = ap head.Symbol (rule-exact k l h)
head-exact head.Lambda head.Lambda h = refl
head-exact a b h = cc

body-exact : (a b : Body) → (body_eq.TheImpl.eq-value).it a b ≡ true → a ≡ b
body-exact a b h =
    let both = and_parts (nat_eq a.outer b.outer) (nat_eq a.root b.root) h in
    let outer = eqb-true a.outer b.outer both.0 in
    let root = eqb-true a.root b.root both.1 in
    λ i. record { outer = outer i; root = root i }

option-exact : {A : Type 0} (same : A → A → Bool) → ((x y : A) → same x y ≡ true → x ≡ y) → (a b : Option A) → option_eq same a b ≡ true → a ≡ b
option-exact same exact None None h = refl
option-exact same exact (Some x) (Some y) h = ap Some (exact x y h)
option-exact same exact None (Some y) h = cc
option-exact same exact (Some x) None h = cc

list-exact : {A : Type 0} (same : A → A → Bool) → ((x y : A) → same x y ≡ true → x ≡ y) → (a b : List A) → pointwise same a b ≡ true → a ≡ b
list-exact same exact [] [] h = refl
list-exact same exact [] (y ∷ b) h = cc
list-exact same exact (x ∷ a) [] h = cc
list-exact same exact (x ∷ a) (y ∷ b) h = let both = and_parts (same x y) (pointwise same a b) h in λ i. exact x y both.0 i ∷ list-exact same exact a b both.1 i

root-exact : (a b : Root) → (root_eq.TheImpl.eq-value).it a b ≡ true → a ≡ b
root-exact a b h =
    let both = and_parts (nat_eq a.root b.root) (option_eq nat_eq a.most b.most) h in
    let root = eqb-true a.root b.root both.0 in
    let most = option-exact nat_eq eqb-true a.most b.most both.1 in
    λ i. record { root = root i; most = most i }

-- the test of keys
abbrev pub key_eq : Key → Key → Bool
key_eq = (key_partial_eq.TheImpl.eq-value).it

-- what a key is made of
abbrev pub made_of : Key → Head × List ℕ × Option Body × Option ℕ × List ℕ
made_of key = (key.head, key.path.items, key.body, key.places, key.parts.items)

key-exact : (a b : Key) → key_eq a b ≡ true → made_of a ≡ made_of b
key-exact a b h =
    let p = and_parts ((head_eq.TheImpl.eq-value).it a.head b.head) _ h in
    let q = and_parts (pointwise nat_eq a.path.items b.path.items) _ p.1 in
    let r = and_parts (option_eq (body_eq.TheImpl.eq-value).it a.body b.body) _ q.1 in
    let s = and_parts (option_eq nat_eq a.places b.places) (pointwise nat_eq a.parts.items b.parts.items) r.1 in
    let head = head-exact a.head b.head p.0 in
    let path = numbers-equal a.path.items b.path.items q.0 in
    let body = option-exact (body_eq.TheImpl.eq-value).it body-exact a.body b.body r.0 in
    let places = option-exact nat_eq eqb-true a.places b.places s.0 in
    let parts = numbers-equal a.parts.items b.parts.items s.1 in
    λ i. (head i, path i, body i, places i, parts i)

-- whether a key is made of this
abbrev is_made_of : Key → Head × List ℕ × Option Body × Option ℕ × List ℕ → Bool
is_made_of a m =
    (head_eq.TheImpl.eq-value).it a.head m.0 && (pointwise nat_eq a.path.items m.1 && (option_eq (body_eq.TheImpl.eq-value).it a.body m.2 && (option_eq nat_eq a.places m.3 && pointwise nat_eq a.parts.items m.4)))

pub key-same : (a b : Key) → made_of a ≡ made_of b → key_eq a b ≡ true
key-same a b same = subst (λ m. is_made_of a m ≡ true) same (key_laws.laws-law.refl a)

-- the test of contents
abbrev pub contents_eq : Contents → Contents → Bool
contents_eq = (contents_partial_eq.TheImpl.eq-value).it

-- what contents hold
abbrev pub held_in : Contents → ℕ × ℕ × Bool × List Root
held_in contents = (contents.outer, contents.parameters, contents.guards, contents.roots.items)

contents-exact : (a b : Contents) → contents_eq a b ≡ true → held_in a ≡ held_in b
contents-exact a b h =
    let p = and_parts (nat_eq a.outer b.outer) _ h in
    let q = and_parts (nat_eq a.parameters b.parameters) _ p.1 in
    let r = and_parts (beq a.guards b.guards) (pointwise (root_eq.TheImpl.eq-value).it a.roots.items b.roots.items) q.1 in
    let outer = eqb-true a.outer b.outer p.0 in
    let parameters = eqb-true a.parameters b.parameters q.0 in
    let guards = (booleans_Decides a.guards b.guards).0 r.0 in
    let roots = list-exact (root_eq.TheImpl.eq-value).it root-exact a.roots.items b.roots.items r.1 in
    λ i. (outer i, parameters i, guards i, roots i)

-- whether contents hold this
abbrev is_held : Contents → ℕ × ℕ × Bool × List Root → Bool
is_held a m = nat_eq a.outer m.0 && (nat_eq a.parameters m.1 && (beq a.guards m.2 && pointwise (root_eq.TheImpl.eq-value).it a.roots.items m.3))

pub contents-same : (a b : Contents) → held_in a ≡ held_in b → contents_eq a b ≡ true
contents-same a b same = subst (λ m. is_held a m ≡ true) same (contents_laws.laws-law.refl a)

module _ (flat : FlatModule) where
  pub key-back : (a b : Key) (n : ℕ) → key_eq a b ≡ true → IsKey flat b n → IsKey flat a n
  key-back a b n h is = subst (λ m. IsMadeOf flat m.0 m.1 m.2 m.3 m.4 n) (sym (key-exact a b h)) is

  pub contents-back : (a b : Contents) (n : ℕ) → contents_eq a b ≡ true → AreContents flat b n → AreContents flat a n
  contents-back a b n h are = subst (λ m. Holds flat m.0 m.1 m.2 m.3 n) (sym (contents-exact a b h)) are
