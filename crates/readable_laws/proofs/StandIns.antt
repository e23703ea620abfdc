-- The symbols that stand in for parameters are those that were found to, and they can.
use Rattle.std.proofs.Common.{◌≡◌, ◌≤◌, ◌+◌, ℕ, zero, suc, List, [], ◌∷◌, ◌++◌, Bool, true, false, Option, Some, None, refl, sym, ap, subst, ◌∙◌, length, drop, if◌then◌else◌, append_assoc, arith}
use Rattle.std.specs.Prelude.{Contains, slice_get}
use Rattle.std.specs.List.{AllByRecursion}
use Rattle.std.proofs.lemmas.List.{append-nil, length-append}
use Rattle.tla_symbols.specs.declared.lexeme.Lexeme.{Lexeme}
use Rattle.tla_model.specs.declared.names.Finding.TheVariants.{Implied, Unreplaced}
use Rattle.tla_model.specs.declared.names.Meaning.TheVariants.{BuiltIn, Declared}
use Rattle.tla_model.specs.Tables.{Named, is_among}
use Rattle.tla_model.specs.Entities.{Meaning, Text}
use Rattle.tla_model.specs.Contexts.{Context, meaning_of}
use Rattle.tla_model.specs.Scopes.{Finding}
use Rattle.module_model.specs.declared.bound.Implied.{Implied as Replaced}
use Rattle.module_model.specs.Bindings.{implied as all_implied, implied_at as replaced_at}
use Rattle.module_model.specs.Exports.{Exports, Known}
use Rattle.module_model.specs.Instances.{implied, implied_as}
use Rattle.tree_kinds.specs.Standing.{Outside}
use Rattle.arity_rules.specs.Arities.{arity, implied_fault, implied_faults, meaning as found_entity}
use Rattle.flattened_trees.specs.Leads.{FlatFace}
use Rattle.flattened_trees.specs.Readable.{AreImplied, CanStandFor}
use Rattle.readable_laws.specs.Uses.{implied_at, implied_by, means_by}
use Rattle.readable_laws.specs.Accepted.{IsDeclared, unwritten}
use Rattle.readable_laws.proofs.FoundMeanings.{IsAgreed, own-start}
use Rattle.readable_laws.proofs.Names.{can-stand}
use Rattle.readable_laws.proofs.Orders.{bare-use, first-empty, length-replicate, meaning-orders, places-arity, rest-empty}
use Rattle.readable_laws.proofs.Reading.{Met, left, met-first, right}

-- ---- what stands in can

rest-orderly : (a b : List Replaced) → implied_faults (a ++ b) ≡ [] → implied_faults b ≡ []
rest-orderly [] b none = none
rest-orderly (r ∷ a) b none = rest-orderly a b (rest-empty (implied_fault r) (implied_faults (a ++ b)) none)

first-stands : (l : Lexeme) (p m : Meaning) (rest : List Replaced) → IsDeclared (Implied l p m) → implied_faults (replaced_at (Implied l p m) ++ rest) ≡ [] → CanStandFor p m
first-stands l (Declared e replaced) (Declared symbol callee) rest declared none =
    let r : Replaced = record { at = l.span; parameter = e; symbol = symbol; callee = callee } in
    let m = Declared symbol callee in
    let bare = bare-use (arity e) l.span l.span symbol (first-empty (implied_fault r) (implied_faults rest) none) in
    (can-stand m (arity e) bare, ap length (meaning-orders m ∙ bare.takes) ∙ (length-replicate (arity e) ∙ sym (places-arity e)))
first-stands l BuiltIn m rest declared none = absurd declared
first-stands l (Declared e replaced) BuiltIn rest declared none = absurd declared

pub stands-at : (found : List Finding) (k : ℕ) (l : Lexeme) (p m : Meaning) → AllByRecursion IsDeclared found → implied_faults (all_implied found) ≡ [] → slice_get found k ≡ Some (Implied l p m) → CanStandFor p m
stands-at [] zero l p m declared none at = absurd (cc)
stands-at [] (suc k) l p m declared none at = absurd (cc)
stands-at (f ∷ rest) zero l p m declared none at =
    let same : f ≡ Implied l p m = cc in
    first-stands l p m (all_implied rest) (subst IsDeclared same declared.0) (subst (λ g. implied_faults (replaced_at g ++ all_implied rest) ≡ []) same none)
stands-at (f ∷ rest) (suc k) l p m declared none at = stands-at rest k l p m declared.1 (rest-orderly (replaced_at f) (all_implied rest) none) at

-- ---- which symbols stand in

pub implied-append : (start : ℕ) (a b : List Finding) → implied_by (a ++ b) start ≡ implied_by a start ++ implied_by b start
implied-append start [] b = refl
implied-append start (f ∷ a) b = ap (λ ms. implied_at start f ++ ms) (implied-append start a b) ∙ sym (append_assoc (implied_at start f) (implied_by a start) (implied_by b start))

none-left : (ms : List Meaning) → length ms ≡ 0 → ms ≡ []
none-left [] e = refl
none-left (m ∷ ms) e = absurd (omega arith)

-- those in the middle are all
middle : (a b c all : List Meaning) → all ≡ a ++ b ++ c → length all ≤ length b → all ≡ b
middle a b c all whole many =
    let counted : length all ≡ length a + length b + length c = ap length whole ∙ (length-append (a ++ b) c ∙ ap (λ n. n + length c) (length-append a b)) in
    let none_before : a ≡ [] = none-left a (omega (arith, counted, many)) in
    let none_behind : c ≡ [] = none-left c (omega (arith, counted, many)) in
    whole ∙ (ap (λ x. x ++ b ++ c) none_before ∙ (ap (λ x. b ++ x) none_behind ∙ append-nil b))

module _ (text : Text) (known : Known) (named : List ℕ → Outside) (paths : List ℕ) (found : List Finding) (faces : List ℕ → FlatFace)
    (agrees : (f : Finding) → Contains found f → IsAgreed (means_by found) (found_entity found) f) where
  abbrev Found : List Finding → Type 0
  Found fs = Met text known named paths found faces fs

  -- so many of these stand in, in the order of the parameters
  pub record StandIn (context : Context) (l : Lexeme) (written : List Named) (parameters : Exports) : Type 0 where
    pub many : length (implied_by (implied context l written parameters) l.span.start) ≡ unwritten written parameters
    pub read : AreImplied context written parameters (implied_by (implied context l written parameters) l.span.start)

  -- the same of a parameter, and of those behind it
  abbrev Next : Context → Lexeme → List Named → Named × Meaning → Exports → List Finding → Bool → Option Meaning → Type 0
  Next context l written p ps later b o =
      (length (implied_by ((if b then [] else implied_as l p.1 o) ++ later) l.span.start) ≡ (if b then unwritten written ps else suc (unwritten written ps)))
      × (elim b as (λ _. Type 0) [
        | true ↦ AreImplied context written ps (implied_by ((if b then [] else implied_as l p.1 o) ++ later) l.span.start)
        | false ↦ (m : Meaning) × (slice_get (implied_by ((if b then [] else implied_as l p.1 o) ++ later) l.span.start) 0 ≡ Some m) × (meaning_of context p.0 ≡ Some m) × CanStandFor p.1 m
            × AreImplied context written ps (drop 1 (implied_by ((if b then [] else implied_as l p.1 o) ++ later) l.span.start))
      ])

  -- a symbol that stands in, before others
  abbrev Before : Context → List Named → Named × Meaning → Exports → Meaning → List Meaning → Bool → Type 0
  Before context written p ps m symbols b =
      (length ((if b then m ∷ [] else []) ++ symbols) ≡ suc (unwritten written ps))
      × ((n : Meaning) × (slice_get ((if b then m ∷ [] else []) ++ symbols) 0 ≡ Some n) × (meaning_of context p.0 ≡ Some n) × CanStandFor p.1 n × AreImplied context written ps (drop 1 ((if b then m ∷ [] else []) ++ symbols)))

  next-stands : (context : Context) (l : Lexeme) (written : List Named) (p : Named × Meaning) (ps : Exports) (b : Bool) (o : Option Meaning) → meaning_of context p.0 ≡ o → StandIn context l written ps → Found (if b then [] else implied_as l p.1 o)
      → Next context l written p ps (implied context l written ps) b o
  next-stands context l written p ps true o at rest met = (rest.many, rest.read)
  next-stands context l written p ps false None at rest met = absurd (agrees (Unreplaced l) (met-first text known named paths found faces (Unreplaced l) [] met))
  next-stands context l written p ps false (Some m) at rest met =
      subst (Before context written p ps m (implied_by (implied context l written ps) l.span.start)) (sym (own-start l.span.start))
      (ap suc rest.many, (m, refl, at, agrees (Implied l p.1 m) (met-first text known named paths found faces (Implied l p.1 m) [] met), rest.read))

  stand-in : (context : Context) (l : Lexeme) (written : List Named) (parameters : Exports) → Found (implied context l written parameters) → StandIn context l written parameters
  stand-in context l written [] met = record { many = refl; read = refl }
  stand-in context l written (p ∷ ps) met =
      let own = if is_among written p.0 then [] else implied_as l p.1 (meaning_of context p.0) in
      let next = next-stands context l written p ps (is_among written p.0) (meaning_of context p.0) refl (stand-in context l written ps (right text known named paths found faces own met)) (left text known named paths found faces (implied context l written ps) met) in
      record { many = next.0; read = next.1 }

  pub symbols-read : (context : Context) (l : Lexeme) (written : List Named) (parameters : Exports) → length (implied_by found l.span.start) ≤ unwritten written parameters → Found (implied context l written parameters) → AreImplied context written parameters (implied_by found l.span.start)
  symbols-read context l written parameters many met =
      let own = stand-in context l written parameters met in
      let start = l.span.start in
      let here = implied context l written parameters in
      let whole : implied_by found start ≡ implied_by met.before start ++ implied_by here start ++ implied_by met.behind start =
      ap (λ fs. implied_by fs start) met.whole ∙ (implied-append start (met.before ++ here) met.behind ∙ ap (λ ms. ms ++ implied_by met.behind start) (implied-append start met.before here)) in
      subst (AreImplied context written parameters) (sym (middle (implied_by met.before start) (implied_by here start) (implied_by met.behind start) (implied_by found start) whole (omega (arith, many, own.many)))) own.read
