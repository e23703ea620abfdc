use Rattle.std.proofs.Common.{◌+◌, ◌∙◌, ap, not, subst, sym, take}
use Rattle.std.proofs.lemmas.List.{take_all}
use Rattle.family_tables.specs.Agreement.{AreFrom}
use Rattle.module_model.specs.Imports.{import_of}
use Rattle.family_tables.proofs.Agreeing.{faces-from}
use Rattle.family_tables.specs.Outcomes.{ImportsOnly, IsNeedTold}
use Rattle.family_tables.proofs.Importing.{AreGiven, from-more, given-again, given-more, item-needed, others-again, others-more}
use Rattle.family_tables.proofs.Tabling.{gone, held}
use Rattle.family_tables.proofs.imports.imports_of.Goals.{then-is_none+in_ok-import_of+in_ok-add, else-is_none}
use Rattle.family_tables.proofs.imports.imports_of.Goals as goal

pub loop-need-preserved : goal.loop-need-preserved
loop-need-preserved c =
    let needs = c.args.needs.now in
    let i = c.loop-need.need-index in
    let item = c.as_str-need.result.now in
    let imports = c.loop-need.imported in
    let is = c.as_str-need.ensures ∙ c.need-item.is in
    elim c.if-is_none.branch [
      | then-is_none+in_ok-import_of+in_ok-add w ↦
          let none = gone c.get.result (import_of imports item) (c.is_none.ensures ∙ ap not w.if-is_none.true) c.get.ensures in
          let e = w.imported-is ∙ w.in_ok-add.ensures.ok in
          record {
            told = λ modules planned all.
                given-more needs i c.need-item.result item c.loop-need-test.true is imports (IsNeedTold modules c.args.outcomes.now c.args.name.now) w.in_ok-import_of.field-0 c.if-is_none.imported none e
                (w.in_ok-import_of.ensures.told modules planned (all item (item-needed needs i c.need-item.result item c.loop-need-test.true is imports))) (c.loop-need.invariant.told modules planned all);
            from = from-more c.args.outcomes.now imports item w.in_ok-import_of.field-0 c.if-is_none.imported none e w.in_ok-import_of.ensures.from c.loop-need.invariant.from;
            others = others-more needs i c.need-item.result item c.loop-need-test.true is imports w.in_ok-import_of.field-0 c.if-is_none.imported none e c.loop-need.invariant.others;
          }
      | else-is_none w ↦
          let some = ap not (held c.get.result (import_of imports item) (c.is_none.ensures ∙ ap not w.if-is_none.false) c.get.ensures) in
          record {
            told = λ modules planned all.
                subst (λ z. AreGiven (IsNeedTold modules c.args.outcomes.now c.args.name.now) (take (i + 1) needs) z) (sym w.imported-is)
                (given-again needs i c.need-item.result item c.loop-need-test.true is imports (IsNeedTold modules c.args.outcomes.now c.args.name.now) some c.loop-need.invariant.others (c.loop-need.invariant.told modules planned all));
            from = subst (AreFrom c.args.outcomes.now) (sym w.imported-is) c.loop-need.invariant.from;
            others = subst (λ z. ImportsOnly (take (i + 1) needs) z) (sym w.imported-is) (others-again needs i c.need-item.result item c.loop-need-test.true is imports c.loop-need.invariant.others);
          }
    ]

pub returns-clause-told : goal.returns-clause-told
returns-clause-told c modules planned all =
    subst (λ ns. AreGiven (IsNeedTold modules c.args.outcomes.now c.args.name.now) ns c.loop-need.imported) (take_all c.loop-need.need-index c.args.needs.now c.loop-need-test.false) (c.loop-need.invariant.told modules planned all)

pub returns-clause-only : goal.returns-clause-only
returns-clause-only c = subst (λ ns. ImportsOnly ns c.loop-need.imported) (take_all c.loop-need.need-index c.args.needs.now c.loop-need-test.false) c.loop-need.invariant.others

pub returns-clause-faces : goal.returns-clause-faces
returns-clause-faces c = faces-from c.args.outcomes.now c.loop-need.imported c.args.name.now c.requires.agreed c.requires.unfound c.loop-need.invariant.from
