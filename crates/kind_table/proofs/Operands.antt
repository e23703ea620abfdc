-- A rule on its operands, one after another.
use Rattle.std.proofs.Common.{rules, ◌≡◌, ℕ, ◌+◌, max, fold, Bool, true, false, cond, List, [], ◌∷◌, Option, Some, None, refl, sym, ap, ◌∙◌, arith}
use Rattle.std.specs.Prelude.{◌==◌, nat_le, option_and_then, option_map}
use Rattle.std.proofs.lemmas.Bool.Decides.{nat_tests}
use Rattle.tla_symbols.specs.declared.level.Kind.{Kind}
use Rattle.tla_symbols.specs.declared.level.Kind.TheVariants.{Const}
use Rattle.tla_symbols.specs.declared.level.Rule.{Rule}
use Rattle.tla_symbols.specs.declared.level.Rule.TheVariants.{Plain, Boolean, Prime, Unchanged, Enabled, Always, Eventually, Leads, Compose, Square, Angle, Fair}
use Rattle.level_rules.specs.Kinds.{applied, first_refused, given, level, plain, takes, takes_subscripted}
use Rattle.kind_text.specs.ExpandedKind.{all_kinds, ruled}
use Rattle.kind_table.specs.Operands.{greater, ruled_on, with_operand}

-- ---- what is taken

const-taken : (rule : Rule) → takes rule 0 Const ≡ true
const-taken Plain = refl
const-taken Boolean = refl
const-taken Prime = refl
const-taken Unchanged = refl
const-taken Enabled = refl
const-taken Always = refl
const-taken Eventually = refl
const-taken Leads = refl
const-taken Compose = refl
const-taken Square = refl
const-taken Angle = refl
const-taken Fair = refl

-- an action with a subscript takes at its first place what it takes at another
subscripted-first : (place : ℕ) (kind : Kind) → takes_subscripted place kind ≡ true → takes_subscripted 0 kind ≡ true
subscripted-first place kind h = by_test (place == 0) h
  where
    by_test : (b : Bool) → nat_le (level kind) (cond b 2 1) ≡ true → nat_le (level kind) 2 ≡ true
    by_test true k = k
    by_test false k = grind (arith, nat_tests)

-- what is taken at a place is taken at the first
taken-first : (rule : Rule) (place : ℕ) (kind : Kind) → takes rule place kind ≡ true → takes rule 0 kind ≡ true
taken-first Plain place kind h = h
taken-first Boolean place kind h = h
taken-first Prime place kind h = h
taken-first Unchanged place kind h = h
taken-first Enabled place kind h = h
taken-first Always place kind h = h
taken-first Eventually place kind h = h
taken-first Leads place kind h = h
taken-first Compose place kind h = h
taken-first Square place kind h = subscripted-first place kind h
taken-first Angle place kind h = subscripted-first place kind h
taken-first Fair place kind h = subscripted-first place kind h

-- ---- what a rule gives

-- the kind that a rule gives where it takes its operands, from this level on
abbrev given-on : Rule → ℕ → List Kind → Kind
given-on Plain n kinds = plain (fold (λ most kind. max most (level kind)) n kinds)
given-on Boolean n kinds = plain (fold (λ most kind. max most (level kind)) n kinds)
given-on other n kinds = given other kinds

given-none : (rule : Rule) (kinds : List Kind) → given-on rule 0 kinds ≡ given rule kinds
given-none Plain kinds = refl
given-none Boolean kinds = refl
given-none Prime kinds = refl
given-none Unchanged kinds = refl
given-none Enabled kinds = refl
given-none Always kinds = refl
given-none Eventually kinds = refl
given-none Leads kinds = refl
given-none Compose kinds = refl
given-none Square kinds = refl
given-none Angle kinds = refl
given-none Fair kinds = refl

given-one : (rule : Rule) (kind : Kind) → given rule (kind ∷ []) ≡ given-on rule (level kind) []
given-one Plain kind = let m : max 0 (level kind) ≡ level kind = omega arith in ap plain m
given-one Boolean kind = let m : max 0 (level kind) ≡ level kind = omega arith in ap plain m
given-one Prime kind = refl
given-one Unchanged kind = refl
given-one Enabled kind = refl
given-one Always kind = refl
given-one Eventually kind = refl
given-one Leads kind = refl
given-one Compose kind = refl
given-one Square kind = refl
given-one Angle kind = refl
given-one Fair kind = refl

greater-level : (most kind : Kind) → level (greater most kind) ≡ max (level most) (level kind)
greater-level most kind = by_test (nat_le (level kind) (level most)) refl
  where
    by_test : (b : Bool) → nat_le (level kind) (level most) ≡ b → level (greater most kind) ≡ max (level most) (level kind)
    by_test true e = grind (arith, nat_tests)
    by_test false e = grind (arith, nat_tests)

given-more : (rule : Rule) (most kind : Kind) (kinds : List Kind) → given-on rule (level (greater most kind)) kinds ≡ given-on rule (level most) (kind ∷ kinds)
given-more Plain most kind kinds = ap (λ n. plain (fold (λ m k. max m (level k)) n kinds)) (greater-level most kind)
given-more Boolean most kind kinds = ap (λ n. plain (fold (λ m k. max m (level k)) n kinds)) (greater-level most kind)
given-more Prime most kind kinds = refl
given-more Unchanged most kind kinds = refl
given-more Enabled most kind kinds = refl
given-more Always most kind kinds = refl
given-more Eventually most kind kinds = refl
given-more Leads most kind kinds = refl
given-more Compose most kind kinds = refl
given-more Square most kind kinds = refl
given-more Angle most kind kinds = refl
given-more Fair most kind kinds = refl

-- a kind, unless an operand is refused
abbrev unless : Option ℕ → Kind → Option Kind
unless None kind = Some kind
unless (Some place) kind = None

applied-unless : (rule : Rule) (kinds : List Kind) → applied rule kinds ≡ unless (first_refused rule 0 kinds) (given rule kinds)
applied-unless rule kinds = by_refused (first_refused rule 0 kinds) refl
  where
    by_refused : (o : Option ℕ) → first_refused rule 0 kinds ≡ o → applied rule kinds ≡ unless o (given rule kinds)
    by_refused None e = search rules
    by_refused (Some place) e = search rules

-- ---- operands one after another

step-taken : (rule : Rule) (place : ℕ) (most kind : Kind) → takes rule place kind ≡ true → with_operand rule place most (Some kind) ≡ Some (greater most kind)
step-taken rule place most kind e = ap (λ b. cond b (Some (greater most kind)) None) e

step-refused : (rule : Rule) (place : ℕ) (most kind : Kind) → takes rule place kind ≡ false → with_operand rule place most (Some kind) ≡ None
step-refused rule place most kind e = ap (λ b. cond b (Some (greater most kind)) None) e

greater-taken : (rule : Rule) (most kind : Kind) → takes rule 0 most ≡ true → takes rule 0 kind ≡ true → takes rule 0 (greater most kind) ≡ true
greater-taken rule most kind h k = by_test (nat_le (level kind) (level most))
  where
    by_test : (b : Bool) → takes rule 0 (cond b most kind) ≡ true
    by_test true = h
    by_test false = k

-- the kind that is given, unless one of these is refused
abbrev unless-refused : Rule → ℕ → Kind → List Kind → Option Kind
unless-refused rule place most kinds = unless (first_refused rule place kinds) (given-on rule (level most) kinds)

refused-now : (rule : Rule) (place : ℕ) (most kind : Kind) (o : Option (List Kind)) → takes rule place kind ≡ false → None ≡ option_and_then (unless-refused rule place most) (option_map (λ ks. kind ∷ ks) o)
refused-now rule place most kind None e = refl
refused-now rule place most kind (Some ks) e = sym (ap (λ b. unless (cond b (first_refused rule (place + 1) ks) (Some place)) (given-on rule (level most) (kind ∷ ks))) e)

refused-later : (rule : Rule) (place : ℕ) (most kind : Kind) (o : Option (List Kind)) → takes rule place kind ≡ true → option_and_then (unless-refused rule (place + 1) (greater most kind)) o ≡ option_and_then (unless-refused rule place most) (option_map (λ ks. kind ∷ ks) o)
refused-later rule place most kind None e = refl
refused-later rule place most kind (Some ks) e =
    ap (unless (first_refused rule (place + 1) ks)) (given-more rule most kind ks)
    ∙ sym (ap (λ b. unless (cond b (first_refused rule (place + 1) ks) (Some place)) (given-on rule (level most) (kind ∷ ks))) e)

ruled-on-some : (rule : Rule) (place : ℕ) (most kind : Kind) (rest : List (Option Kind)) → takes rule 0 most ≡ true → (takes rule 0 (greater most kind) ≡ true → ruled_on rule (place + 1) (greater most kind) rest ≡ option_and_then (unless-refused rule (place + 1) (greater most kind)) (all_kinds rest)) → (b : Bool) → takes rule place kind ≡ b → ruled_on rule place most (Some kind ∷ rest) ≡ option_and_then (unless-refused rule place most) (all_kinds (Some kind ∷ rest))
ruled-on-some rule place most kind rest h later true e =
    ap (option_and_then (λ next. ruled_on rule (place + 1) next rest)) (step-taken rule place most kind e)
    ∙ later (greater-taken rule most kind h (taken-first rule place kind e))
    ∙ refused-later rule place most kind (all_kinds rest) e
ruled-on-some rule place most kind rest h later false e =
    ap (option_and_then (λ next. ruled_on rule (place + 1) next rest)) (step-refused rule place most kind e)
    ∙ refused-now rule place most kind (all_kinds rest) e

ruled-on-unless : (rule : Rule) (place : ℕ) (most : Kind) (kinds : List (Option Kind)) → takes rule 0 most ≡ true → ruled_on rule place most kinds ≡ option_and_then (unless-refused rule place most) (all_kinds kinds)
ruled-on-unless rule place most [] h =
    applied-unless rule (most ∷ []) ∙ ap (λ b. unless (cond b None (Some 0)) (given rule (most ∷ []))) h ∙ ap Some (given-one rule most)
ruled-on-unless rule place most (None ∷ rest) h = refl
ruled-on-unless rule place most (Some kind ∷ rest) h =
    ruled-on-some rule place most kind rest h (ruled-on-unless rule (place + 1) (greater most kind) rest) (takes rule place kind) refl

-- the kind by a rule is found with one operand after another
pub ruled-is : (rule : Rule) (kinds : List (Option Kind)) → ruled rule kinds ≡ ruled_on rule 0 Const kinds
ruled-is rule kinds = by_kinds (all_kinds kinds) ∙ sym (ruled-on-unless rule 0 Const kinds (const-taken rule))
  where
    by_kinds : (o : Option (List Kind)) → option_and_then (applied rule) o ≡ option_and_then (unless-refused rule 0 Const) o
    by_kinds None = refl
    by_kinds (Some ks) = applied-unless rule ks ∙ ap (unless (first_refused rule 0 ks)) (sym (given-none rule ks))
