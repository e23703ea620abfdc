use Rattle.std.proofs.Common.{◌++◌, ◌∙◌, ◌∷◌, [], List, Option, ap, subst, sym, take, ℕ}
use Rattle.std.proofs.lemmas.List.{take_all, take_more}
use Rattle.indexmap.specs.IndexMap.{get_by_text}
use Rattle.module_model.specs.Imports.{import_of}
use Rattle.family_tables.specs.Tables.{entry_of}
use Rattle.family_levels.specs.Numbers.{number_by}
use Rattle.family_levels.proofs.Numbering.{AreNumbered, numbered-all, numbered-more, numbered-same}
use Rattle.family_levels.proofs.numbers.numbers_of.Goals.{in-Some+in_ok-put_number, in_default}
use Rattle.family_levels.proofs.numbers.numbers_of.Goals as goal

pub loop-need-preserved : goal.loop-need-preserved
loop-need-preserved c =
    let i = c.loop-need.need-index in
    let needs = c.args.needs.now in
    let d = c.need-item.result in
    let item = c.as_str-need.result.now in
    let number : List ℕ → Option ℕ = λ name. number_by (import_of c.args.imports.now name) (entry_of c.args.numbers.now name) in
    let is = c.as_str-need.ensures ∙ c.need-item.is in
    let more = ap (λ x. take i needs ++ x ∷ []) is ∙ sym (take_more needs i d c.loop-need-test.true) in
    elim c.match-number_of.branch [
      | in-Some+in_ok-put_number w ↦
          subst (λ names. AreNumbered number names (get_by_text c.match-number_of.files)) more
          (numbered-more number (take i needs) item (get_by_text c.loop-need.files) c.loop-need.invariant (get_by_text c.match-number_of.files) w.in-Some.number (sym c.number_of.ensures ∙ w.in-Some.is)
          (λ name. ap (λ files. get_by_text files name) w.files-is ∙ w.in_ok-put_number.ensures name))
      | in_default w ↦
          subst (λ names. AreNumbered number names (get_by_text c.match-number_of.files)) more
          (subst (λ files. AreNumbered number (take i needs ++ item ∷ []) (get_by_text files)) (sym w.files-is)
          (numbered-same number (take i needs) item (get_by_text c.loop-need.files) c.loop-need.invariant (sym c.number_of.ensures ∙ w.in_default.is)))
    ]

pub returns : goal.returns
returns c =
    let needs = c.args.needs.now in
    let number : List ℕ → Option ℕ = λ name. number_by (import_of c.args.imports.now name) (entry_of c.args.numbers.now name) in
    let whole = take_all c.loop-need.need-index needs c.loop-need-test.false in
    numbered-all number needs (get_by_text c.loop-need.files) (subst (λ names. AreNumbered number names (get_by_text c.loop-need.files)) whole c.loop-need.invariant)
    (λ name out. ap (λ import. number_by import (entry_of c.args.numbers.now name)) (c.requires name out))
