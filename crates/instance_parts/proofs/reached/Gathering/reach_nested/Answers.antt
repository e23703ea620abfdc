use Rattle.std.proofs.Common.{◌≡◌, ◌∙◌, ap, sym, refl, arith, length, Some}
use Rattle.std.proofs.lemmas.Option.{slice_get_read}
use Rattle.std.proofs.lemmas.Bool.Decides.{nat_tests}
use Rattle.std.specs.Prelude.{slice_get}
use Rattle.tla_model.specs.Entities.{same_decl}
use Rattle.tla_model.specs.Tables.{lookup}
use Rattle.instance_leads.specs.declared.ended.Ended.{Ended}
use Rattle.instance_scope.specs.declared.scope.Scope.{Scope}
use Rattle.instance_leads.specs.Keys.{decl_of}
use Rattle.instance_parts.proofs.Gathereds.{done-all, done-more, ended-same, found-at, grown-on, some-none, stay-on}
use Rattle.instance_parts.proofs.reached.Gathering.reach_nested.Goals as goal

pub unreachable-requires-in_default-find : goal.unreachable-requires-in_default-find
unreachable-requires-in_default-find c =
    some-none (sym c.find.ensures ∙ c.in_default-find.is) (found-at c.in-Some.ended.now.instances c.loop-index.index (decl_of c.in-Some-at.«module».now c.in-Some-at.place) c.in-Some-at.field-0-2 (sym c.in-Some-at.ensures))

pub reach-requires-clause-known : goal.reach-requires-clause-known
reach-requires-clause-known c =
    c.loop-index.invariant.gathering.sound.noted c.args.number c.in-Some.ended.now
    (ap (λ (s : Scope). slice_get s.nested.items c.args.number) c.loop-index.invariant.grown.scope ∙ ap (λ z. slice_get z c.args.number) (sym c.deref.ensures.value) ∙ slice_get_read c.deref.result.now (length c.deref.result.now) c.args.number c.in-Some.ended.now refl c.in-Some.ensures.lookup.3.0 c.in-Some.ensures.lookup.1)
    (decl_of c.in-Some-at.«module».now c.in-Some-at.place) c.in-Some-find.held (sym c.find.ensures ∙ c.in-Some-find.is)

pub loop-index-preserved : goal.loop-index-preserved
loop-index-preserved c =
    let decl = decl_of c.in-Some-at.«module».now c.in-Some-at.place in
    let found = sym c.find.ensures ∙ c.in-Some-find.is in
    record {
      gathering = c.in_ok-reach.ensures.gathering;
      grown = grown-on c.args.self.now c.loop-index.self c.reach.new.self c.loop-index.invariant.grown c.in_ok-reach.ensures.grown;
      below = stay-on c.args.number c.args.self.now c.loop-index.self c.reach.new.self c.loop-index.invariant.below
          (c.in_ok-reach.ensures.below c.args.number (c.loop-index.invariant.gathering.sound.there c.args.number c.in-Some.ended.now
          (ap (λ (s : Scope). slice_get s.nested.items c.args.number) c.loop-index.invariant.grown.scope ∙ ap (λ z. slice_get z c.args.number) (sym c.deref.ensures.value) ∙ slice_get_read c.deref.result.now (length c.deref.result.now) c.args.number c.in-Some.ended.now refl c.in-Some.ensures.lookup.3.0 c.in-Some.ensures.lookup.1)
          decl c.in-Some-find.held found));
      done = done-more c.loop-index.self c.reach.new.self c.in_ok-reach.ensures.grown c.in-Some.ended.now.instances c.loop-index.index decl c.in-Some-at.field-0-2 c.in-Some-find.held (sym c.in-Some-at.ensures) found c.in_ok-reach.ensures.gained c.loop-index.invariant.done;
    }

pub returns-clause-done : goal.returns-clause-done
returns-clause-done c = λ ended is decl held found.
    let there : slice_get c.args.self.now.scope.now.nested.items c.args.number ≡ Some c.in-Some.ended.now = ap (λ z. slice_get z c.args.number) (sym c.deref.ensures.value) ∙ slice_get_read c.deref.result.now (length c.deref.result.now) c.args.number c.in-Some.ended.now refl c.in-Some.ensures.lookup.3.0 c.in-Some.ensures.lookup.1 in
    let one : ended ≡ c.in-Some.ended.now = ended-same ended c.in-Some.ended.now (sym is ∙ there) in
    done-all c.loop-index.self c.in-Some.ended.now.instances c.loop-index.index (grind (arith, nat_tests, c.loop-index-test.false, c.len-index-end.ensures)) c.loop-index.invariant.done decl held (ap (λ (e : Ended). lookup same_decl e.instances decl) (sym one) ∙ found)
