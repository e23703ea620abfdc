use Rattle.std.proofs.Common.{ℕ, List, [], refl, sym, subst}
use Rattle.std.proofs.lemmas.List.{append-nil}
use Rattle.module_model.specs.Modules.{text_of}
use Rattle.module_kinds.specs.ModuleKinds.{last}
use Rattle.flat_kinds.specs.Symbols.{AreDistinct}
use Rattle.flat_kinds.proofs.Declarations.{keeps-all, keeps-first}
use Rattle.flat_kinds.proofs.Distinct.{module-symbols}
use Rattle.module_meanings.proofs.Within.{exported-within}
use Rattle.module_model.specs.Exports.{exports_of}
use Rattle.module_model.specs.Resolution.{words_of}
use Rattle.module_kinds.specs.ModuleKinds.{first}
use Rattle.accepted_modules.specs.Coming.{a_module}
use Rattle.given_modules.proofs.GoodModules.{file-grows, final-within, module-extended, module-named}
use Rattle.accepted_modules.specs.Behind.{with_own}
use Rattle.given_modules.proofs.NextFiles.{file-others, next-files}
use Rattle.given_modules.proofs.Nothing.{nothing-good}
use Rattle.given_modules.proofs.Usable.{behind-usable, direct-of, exported-usable, view-one}
use Rattle.given_modules.proofs.given_modules_are_good.Goals as goal

pub returns-clause-itself : goal.returns-clause-itself
returns-clause-itself c = λ flat declares behinds means implied files outsides name bytes units symbols final asked made ordered good faultless same given.
    let names = c.places_are_declared.ensures declares bytes units (c.names_begin_apart.ensures.declared name bytes units faultless.front) faultless.places in
    let declared = λ (title : List ℕ). (good.each title).given.names.entries in
    let keeps = keeps-all declares (text_of bytes units) outsides (words_of units) declared (first outsides bytes units) units.units names (keeps-first declares outsides bytes units declared) in
    let once = keeps.declared.here.once in
    let ones = λ (title : List ℕ). view-one declares (outsides title).view (good.each title).given.names (direct-of (good.each title).comes) in
    let usable = (behind-usable declares outsides bytes units ones names units.units [] (sym (append-nil units.units))).0 in
    let found = exported-usable declares outsides bytes units ones names (last outsides bytes units).read.place.here usable in
    let distinct = subst AreDistinct (sym same) (module-symbols declares outsides bytes units declared names).distinct in
    let there = final-within flat ordered means implied files outsides bytes units symbols final asked made given (λ title. (good.each title).there) in
    record {
      comes = a_module faultless.front (λ title. (good.each title).comes);
      given = c.brought_names_come.ensures.given declares behinds outsides bytes units (λ title. (good.each title).given) good.foreign names;
      reads = record { parameters = refl; constant = refl };
      there = λ n ns. exported-within flat final.setting.leads (exports_of (last outsides bytes units).read.place.here.exports) n ns there.leads;
      named = λ new leads leaves old. module-named flat ordered means implied files outsides bytes units symbols final asked made given once found same distinct new leads leaves old;
      extended = λ leads round frame placed. module-extended flat ordered means implied files outsides bytes units symbols final asked made given once found same leads round frame placed;
    }

pub returns-clause-others : goal.returns-clause-others
returns-clause-others c = λ flat declares behinds title known face named is foreign.
    file-others flat declares behinds (with_own title known behinds) face named (c.brought_names_come.ensures.others declares behinds title known named.view is.given foreign) is

pub returns-clause-nothing : goal.returns-clause-nothing
returns-clause-nothing c = nothing-good

pub returns-clause-grows : goal.returns-clause-grows
returns-clause-grows c = λ flat more declares behinds face named extends ordered is. file-grows flat more extends ordered declares behinds face named is

pub returns-clause-next : goal.returns-clause-next
returns-clause-next c = λ flat more declares behinds title next known files outsides face named extends ordered good foreign itself itself_foreign.
    next-files flat more declares behinds title next known files outsides face named extends ordered (λ view given apart. c.brought_names_come.ensures.others declares behinds title known view given apart) good foreign itself itself_foreign
