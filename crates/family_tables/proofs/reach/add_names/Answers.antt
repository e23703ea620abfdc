use Rattle.std.proofs.Common.{◌≡◌, ◌∙◌, ◌⊎◌, ◌+◌, inl, inr, subst, sym, take, true}
use Rattle.std.specs.Prelude.{Contains}
use Rattle.std.proofs.lemmas.List.{take_all}
use Rattle.family_tables.specs.Tables.{has_name}
use Rattle.family_tables.proofs.Taking.{before-taken, item-taken, taken-cases}
use Rattle.family_tables.proofs.reach.add_names.Goals as goal

pub loop-name-preserved : goal.loop-name-preserved
loop-name-preserved c =
    let more = c.args.more.now in
    let i = c.loop-name.name-index in
    let old = c.args.names.now in
    let new = c.add_name.new.names in
    let item = c.as_str.result.now in
    let is = c.as_str.ensures ∙ c.name-item.is in
    let ensures = c.in_ok-add_name.ensures in
    let inv = c.loop-name.invariant in
    record {
      kept = λ other h. ensures.kept other (inv.kept other h);
      added = λ other h. elim (taken-cases more i _ item c.loop-name-test.true is other h) as (λ _. has_name new other ≡ true) [
        | inl before ↦ ensures.kept other (inv.added other before)
        | inr same ↦ subst (λ x. has_name new x ≡ true) same ensures.added
      ];
      only = λ other h. elim (ensures.only other h) as (λ _. (has_name old other ≡ true) ⊎ Contains (take (i + 1) more) other) [
        | inl was ↦ elim (inv.only other was) as (λ _. (has_name old other ≡ true) ⊎ Contains (take (i + 1) more) other) [
          | inl first ↦ inl first
          | inr before ↦ inr (before-taken more i _ item c.loop-name-test.true is other before)
        ]
        | inr same ↦ inr (subst (Contains (take (i + 1) more)) (sym same) (item-taken more i _ item c.loop-name-test.true is))
      ];
    }

pub returns-clause-kept : goal.returns-clause-kept
returns-clause-kept c = c.loop-name.invariant.kept

pub returns-clause-added : goal.returns-clause-added
returns-clause-added c other h = c.loop-name.invariant.added other (subst (λ ns. Contains ns other) (sym (take_all c.loop-name.name-index c.args.more.now c.loop-name-test.false)) h)

pub returns-clause-only : goal.returns-clause-only
returns-clause-only c other h = elim (c.loop-name.invariant.only other h) as (λ _. (has_name c.args.names.now other ≡ true) ⊎ Contains c.args.more.now other) [
  | inl was ↦ inl was
  | inr there ↦ inr (subst (λ ns. Contains ns other) (take_all c.loop-name.name-index c.args.more.now c.loop-name-test.false) there)
]
