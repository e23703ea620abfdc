-- What equal arguments are, and what an argument adds to a table.
use Rattle.std.proofs.Common.{◌≡◌, ℕ, ◌<◌, ◌≤◌, Bool, true, false, cond, List, [], ◌∷◌, ◌++◌, length, Option, Some, None, inl, inr, refl, sym, ap, ◌∙◌, subst, arith, length-append}
use Rattle.std.specs.Prelude.{nat_eq, ◌⊎◌, slice_get}
use Rattle.std.specs.List.{list_any}
use Rattle.std.specs.Cmp.Lexicographic.{pointwise}
use Rattle.std.proofs.lemmas.Option.{slice_get_within}
use Rattle.std.proofs.lemmas.Bool.{eqb-true, and_parts, cases_lt}
use Rattle.indexmap.specs.IndexSet.{insert_key}
use Rattle.tla_symbols.specs.declared.level.Kind.{Kind}
use Rattle.tla_symbols.specs.declared.level.Kind.TheVariants.{Const, State, Action, BoxAction, DiamondAction, Temporal}
use Rattle.tla_symbols.specs.declared.level.Rule.{Rule}
use Rattle.tla_symbols.specs.declared.level.Rule.TheVariants.{Plain, Boolean, Prime, Unchanged, Enabled, Always, Eventually, Leads, Compose, Square, Angle, Fair}
use Rattle.tla_symbols.specs.contracts.level.KindPartialEq as kind_eq
use Rattle.tla_symbols.specs.contracts.level.RulePartialEq as rule_eq
use Rattle.list_laws.proofs.Lists.{at-end}
use Rattle.list_laws.proofs.Texts.{numbers-equal}
use Rattle.kind_table.specs.contracts.argument.ArgPartialEq as arg
use Rattle.kind_table.specs.declared.argument.Arg.{Arg}
use Rattle.kind_table.specs.declared.argument.Arg.TheVariants.{Value, Stays, BuiltIn, Operator}
use Rattle.kind_table.specs.Table.{AddsOnly, Grows, IsArg, IsStored, IsTable, IsValue}
use Rattle.kind_table.proofs.Unfolding.{slice_get-more}
use Rattle.kind_table.proofs.Growth.{grows_not}

abbrev arg_eq : Arg → Arg → Bool
arg_eq = (arg.TheImpl.eq-value).it

kind-exact : (a b : Kind) → (kind_eq.TheImpl.eq-value).it a b ≡ true → a ≡ b
kind-exact Const Const h = refl
kind-exact State State h = refl
kind-exact Action Action h = refl
kind-exact BoxAction BoxAction h = refl
kind-exact DiamondAction DiamondAction h = refl
kind-exact Temporal Temporal h = refl
kind-exact a b h = cc

rule-exact : (a b : Rule) → (rule_eq.TheImpl.eq-value).it a b ≡ true → a ≡ b
rule-exact Plain Plain h = refl
rule-exact Boolean Boolean h = refl
rule-exact Prime Prime h = refl
rule-exact Unchanged Unchanged h = refl
rule-exact Enabled Enabled h = refl
rule-exact Always Always h = refl
rule-exact Eventually Eventually h = refl
rule-exact Leads Leads h = refl
rule-exact Compose Compose h = refl
rule-exact Square Square h = refl
rule-exact Angle Angle h = refl
rule-exact Fair Fair h = refl
rule-exact a b h = cc

pub arg-exact : (table : List Arg) (n : ℕ) (a b : Arg) → slice_get table n ≡ Some b → arg_eq a b ≡ true → IsStored table n a
arg-exact table n (Value None) (Value None) e h = e
arg-exact table n (Value (Some k)) (Value (Some l)) e h = e ∙ ap (λ x. Some (Value (Some x))) (sym (kind-exact k l h))
arg-exact table n (Stays k) (Stays l) e h = e ∙ ap (λ x. Some (Stays x)) (sym (rule-exact k l h))
arg-exact table n (BuiltIn k) (BuiltIn l) e h = e ∙ ap (λ x. Some (BuiltIn x)) (sym (rule-exact k l h))
arg-exact table n (Operator d ns) (Operator c ms) e h =
    let p = and_parts (nat_eq d c) (pointwise nat_eq ns.items ms.items) h in
    let same = eqb-true d c p.0 in let f = numbers-equal ns.items ms.items p.1 in
    (ms, e ∙ ap (λ x. Some (Operator x ms)) (sym same), sym f)
arg-exact table n a b e h = cc

table-push : (ks : List Arg) (a : Arg) → IsTable ks → IsArg (length ks) a → IsTable (ks ++ a ∷ [])
table-push ks a h n = record { each = λ i x e. one i x e (cases_lt i (length ks)) }
  where
    one : (i : ℕ) (x : Arg) → slice_get (ks ++ a ∷ []) i ≡ Some x → (i < length ks) ⊎ (length ks ≤ i) → IsArg i x
    one i x e c = elim c [
      | inl l ↦ h.each i x (sym (slice_get-more ks (a ∷ []) i l) ∙ e)
      | inr l ↦
          let w = slice_get_within (ks ++ a ∷ []) i x e in
          let at : i ≡ length ks = omega (arith, w, length-append ks (a ∷ [])) in
          let here : Some a ≡ Some x = sym (at-end ks a) ∙ ap (slice_get (ks ++ a ∷ [])) (sym at) ∙ e in
          let same : a ≡ x = cc in
          subst (λ y. IsArg i y) same (subst (λ j. IsArg j a) (sym at) n)
    ]

pub grows-insert : (ks new : List Arg) (a : Arg) → IsTable ks → IsArg (length ks) a → new ≡ insert_key arg_eq ks a → Grows ks new
grows-insert ks new a h n e = subst (λ x. Grows ks x) (sym e) (choice (list_any (arg_eq a) ks))
  where
    choice : (b : Bool) → Grows ks (cond b ks (ks ++ a ∷ []))
    choice true = grows_not ks h
    choice false = record { more = a ∷ []; extends = refl; table = table-push ks a h n }

-- ---- what is added

pub adds-nothing : (P : Arg → Type 0) (ks : List Arg) → AddsOnly P ks ks
adds-nothing P ks i x l e = absurd (omega (arith, l, slice_get_within ks i x e))

pub adds-insert : (ks new : List Arg) (a : Arg) → new ≡ insert_key arg_eq ks a → AddsOnly (λ x. x ≡ a) ks new
adds-insert ks new a e = subst (AddsOnly (λ x. x ≡ a) ks) (sym e) (choice (list_any (arg_eq a) ks))
  where
    last : AddsOnly (λ x. x ≡ a) ks (ks ++ a ∷ [])
    last i x l q =
        let w = slice_get_within (ks ++ a ∷ []) i x q in
        let at : i ≡ length ks = omega (arith, w, l, length-append ks (a ∷ [])) in
        let here : Some a ≡ Some x = sym (at-end ks a) ∙ ap (slice_get (ks ++ a ∷ [])) (sym at) ∙ q in
        let same : a ≡ x = cc in
        sym same

    choice : (b : Bool) → AddsOnly (λ x. x ≡ a) ks (cond b ks (ks ++ a ∷ []))
    choice true = adds-nothing (λ x. x ≡ a) ks
    choice false = last

-- one after another
pub adds_on : (P : Arg → Type 0) (a b c : List Arg) → AddsOnly P a b → Grows b c → AddsOnly P b c → AddsOnly P a c
adds_on P a b c h g k i x l e = by_place (cases_lt i (length b))
  where
    by_place : (i < length b) ⊎ (length b ≤ i) → P x
    by_place (inl m) = h i x l (sym (slice_get-more b g.more i m) ∙ ap (λ xs. slice_get xs i) (sym g.extends) ∙ e)
    by_place (inr m) = k i x m e

pub adds_value : (k : Option Kind) (a b : List Arg) → AddsOnly (λ x. x ≡ Value k) a b → AddsOnly IsValue a b
adds_value k a b h i x l e = subst IsValue (sym (h i x l e)) tt
