use Rattle.std.proofs.Common.{◌≡◌, ◌∙◌, Some, None, subst, sym, true}
use Rattle.std.specs.Prelude.{Contains}
use Rattle.family_tables.specs.Plans.{IsClosed, IsReached}
use Rattle.family_tables.specs.Tables.{has_name}
use Rattle.family_tables.proofs.Reaching.{given-alone, reached-from}
use Rattle.family_tables.proofs.reach.reached_by.Goals.{in-Some+in_ok-add_all_needs-in-Some, in-None+in_ok-add_needs-in-None}
use Rattle.family_tables.proofs.reach.reached_by.Goals as goal

pub returns-clause-closed : goal.returns-clause-closed
returns-clause-closed c = elim c.match-plan.branch as (λ _. IsClosed c.args.modules.now c.match-plan.reached) [
  | in-Some+in_ok-add_all_needs-in-Some w ↦ subst (IsClosed c.args.modules.now) (sym w.reached-is) w.in_ok-add_all_needs-in-Some.ensures.closed
  | in-None+in_ok-add_needs-in-None w ↦ subst (IsClosed c.args.modules.now) (sym w.reached-is) w.in_ok-add_needs-in-None.ensures.closed
]

pub returns-clause-only : goal.returns-clause-only
returns-clause-only c name acyclic h = elim c.match-plan.branch as (λ _. IsReached c.args.modules.now (Contains c.args.names.now) name) [
  | in-Some+in_ok-add_all_needs-in-Some w ↦ let k : Some w.in-Some.field-0 ≡ None = sym w.in-Some.is ∙ acyclic in cc
  | in-None+in_ok-add_needs-in-None w ↦
      reached-from c.args.modules.now (λ other. has_name c.add_names.new.names other ≡ true) (Contains c.args.names.now) (λ other there. given-alone c.args.names.now c.new-reached.result other c.new-reached.ensures (c.in_ok-add_names.ensures.only other there)) name
      (w.in_ok-add_needs-in-None.ensures.only name (subst (λ names. has_name names name ≡ true) w.reached-is h))
]
