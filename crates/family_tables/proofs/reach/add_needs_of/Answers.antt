use Rattle.std.proofs.Common.{◌≡◌, ◌∙◌, ◌⊎◌, ap, inl, inr, not, subst, sym, true}
use Rattle.std.specs.Prelude.{Contains}
use Rattle.family_tables.specs.Plans.{Needs}
use Rattle.family_tables.specs.Tables.{entry_of, has_name}
use Rattle.family_tables.proofs.Reaching.{needs-here, needs-of, no-needs}
use Rattle.family_tables.proofs.Tabling.{held}
use Rattle.family_tables.proofs.reach.add_needs_of.Goals as goal

pub returns-in_ok-add_names-in-Some-clause-needs : goal.returns-in_ok-add_names-in-Some-clause-needs
returns-in_ok-add_names-in-Some-clause-needs c h need n =
    c.in_ok-add_names-in-Some.ensures.added need
    (subst (λ ns. Contains ns need) (sym c.as_slice.ensures) (needs-of c.args.modules.now c.requires.once c.args.name.now c.in-Some.module.now (sym c.in-Some.ensures) need n))

pub returns-in_ok-add_names-in-Some-clause-only : goal.returns-in_ok-add_names-in-Some-clause-only
returns-in_ok-add_names-in-Some-clause-only c other h = elim (c.in_ok-add_names-in-Some.ensures.only other h) as (λ _. (has_name c.args.names.now other ≡ true) ⊎ ((has_name c.args.names.now c.args.name.now ≡ true) × Needs c.args.modules.now c.args.name.now other)) [
  | inl was ↦ inl was
  | inr there ↦ inr (
    held c.get.result (entry_of c.args.names.now c.args.name.now) (c.is_none.ensures ∙ ap not c.if-is_none.false) c.get.ensures,
    needs-here c.args.modules.now c.args.name.now c.in-Some.module.now (sym c.in-Some.ensures) other (subst (λ ns. Contains ns other) c.as_slice.ensures there),
  )
]

pub returns-in-None-clause-needs : goal.returns-in-None-clause-needs
returns-in-None-clause-needs c h need n = absurd (no-needs c.args.modules.now c.args.name.now (sym c.in-None.ensures) need n)
