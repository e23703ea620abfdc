use Rattle.std.proofs.Common.{ℕ, List, None, [], sym}
use Rattle.std.proofs.lemmas.List.{append-nil}
use Rattle.module_model.specs.Exports.{exports_of}
use Rattle.module_model.specs.Modules.{text_of}
use Rattle.module_model.specs.Resolution.{words_of}
use Rattle.module_kinds.specs.ModuleKinds.{first, last}
use Rattle.flat_kinds.proofs.Declarations.{keeps-all, keeps-first}
use Rattle.accepted_modules.proofs.Tables.{entry-there, there-holds}
use Rattle.accepted_modules.proofs.Holding.{OfEntry}
use Rattle.given_modules.specs.Yielding.{with_own_yields}
use Rattle.given_modules.proofs.Declaring.{unit-binds}
use Rattle.given_modules.proofs.Fresh.{AreNewThere}
use Rattle.given_modules.proofs.OwnNames.{own-first}
use Rattle.given_modules.proofs.Steady.{instance-gives}
use Rattle.given_modules.proofs.Usable.{IsOne, behind-ones, behind-usable, direct-of, exported-usable, view-one}
use Rattle.given_modules.proofs.Yielding.{file-still, last-exported}
use Rattle.given_modules.proofs.declarations_yield_names.Goals as goal

pub returns-clause-itself : goal.returns-clause-itself
returns-clause-itself c = λ yields flat declares behinds files outsides name bytes units good faultless others yielding steady.
    let apart = c.names_begin_apart.ensures.declared name bytes units faultless.front in
    let names = c.places_are_declared.ensures declares bytes units apart faultless.places in
    let declared = λ (title : List ℕ). (good.each title).given.names.entries in
    let keeps = keeps-all declares (text_of bytes units) outsides (words_of units) declared (first outsides bytes units) units.units names (keeps-first declares outsides bytes units declared) in
    let ones = λ (title : List ℕ). view-one declares (outsides title).view (good.each title).given.names (direct-of (good.each title).comes) in
    let offered = λ (title : List ℕ). c.modules_come_steady.ensures.offered (outsides title).view (good.each title).comes in
    let new : AreNewThere bytes units = λ before behind unit x seen split tree elsewhere. c.declared_names_are_new.ensures.trees name bytes units before behind unit x seen faultless.front split tree elsewhere in
    let own = own-first declares outsides bytes units (λ title. (good.each title).given.names.entries) names (c.own_names_are_apart.ensures.apart outsides name bytes units faultless.front) (c.own_names_are_apart.ensures.others outsides bytes units) in
    let gives = instance-gives declares outsides bytes units (λ title. (good.each title).given.names) offered ones names steady (unit-binds declares bytes units apart faultless.places) in
    let usable = (behind-usable declares outsides bytes units ones names units.units [] (sym (append-nil units.units))).0 in
    let exports = (behind-ones declares outsides bytes units ones names units.units [] (sym (append-nil units.units))).0.exports in
    c.names_come_again.ensures.exported (with_own_yields declares (text_of bytes units).file (last outsides bytes units) yields) outsides bytes units keeps.declared.here.once
    (last-exported yields declares flat (λ start. None) (λ start. []) files outsides bytes units good.foreign others (λ title. (good.each title).given.names) offered yielding ones names new own gives
    (λ n m at. (
      there-holds (OfEntry (IsOne declares)) (exports_of (last outsides bytes units).read.place.here.exports) n m exports (entry-there (exports_of (last outsides bytes units).read.place.here.exports) n m at),
      exported-usable declares outsides bytes units ones names (last outsides bytes units).read.place.here usable n m at,
    )))

pub returns-clause-others : goal.returns-clause-others
returns-clause-others c = file-still
