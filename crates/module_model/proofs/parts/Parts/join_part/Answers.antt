use Rattle.std.proofs.Common.{◌∙◌, refl, subst}
use Rattle.std.specs.Arc.{arc_value}
use Rattle.module_model.specs.Parts.{AreUnited, InText, IsSet}
use Rattle.module_model.proofs.PartTables.{copied-text, found-text, join-none, join-some, no-text, set-itself}
use Rattle.module_model.proofs.parts.Parts.join_part.Goals as goal

pub returns-in_default : goal.returns-in_default
returns-in_default c =
    let old = c.args.self.now in
    let title = c.args.title.now in
    let none = found-text c.self.inside.texts.entries old title c.get.result c.self.view_is c.get.ensures.value ∙ no-text c.get.result c.in_default.is in
    join-none c.set.new.self old title (arc_value c.args.part.now) none (subst (λ z. IsSet c.set.new.self old title z) c.in_ok-clone.ensures.cases c.in_ok-set.ensures)

pub returns-then-has_all : goal.returns-then-has_all
returns-then-has_all c =
    let old = c.args.self.now in
    let title = c.args.title.now in
    let first = arc_value c.in-Some.first.now in
    let some = found-text c.self.inside.texts.entries old title c.get.result c.self.view_is c.get.ensures.value ∙ copied-text c.get.result c.in-Some.first c.in-Some.is in
    join-some old old title first first (arc_value c.args.part.now) some
    (subst (λ (z : InText). AreUnited z z (arc_value c.args.part.now)) c.deref.ensures (subst (λ (z : InText). AreUnited c.deref.result.now c.deref.result.now z) c.deref-2.ensures (c.if-has_all.ensures refl)))
    (set-itself old title first some)

pub returns : goal.returns
returns c =
    let old = c.args.self.now in
    let title = c.args.title.now in
    let first = arc_value c.in-Some.first.now in
    let both = c.in_ok-both.both in
    let some = found-text c.self.inside.texts.entries old title c.get.result c.self.view_is c.get.ensures.value ∙ copied-text c.get.result c.in-Some.first c.in-Some.is in
    join-some c.set-2.new.self old title first both (arc_value c.args.part.now) some
    (subst (λ (z : InText). AreUnited both z (arc_value c.args.part.now)) c.deref-3.ensures (subst (λ (z : InText). AreUnited both c.deref-3.result.now z) c.deref-4.ensures c.in_ok-both.ensures))
    (subst (λ z. IsSet c.set-2.new.self old title z) c.in_ok-new.ensures.ok c.in_ok-set-2.ensures)
