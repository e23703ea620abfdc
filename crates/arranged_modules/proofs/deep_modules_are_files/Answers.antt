use Rattle.std.proofs.Common.{ℕ, List, [], refl, sym}
use Rattle.std.proofs.lemmas.List.{append-nil}
use Rattle.module_model.specs.Modules.{text_of}
use Rattle.module_model.specs.Resolution.{findings, words_of}
use Rattle.module_kinds.specs.ModuleKinds.{first, last, outside, views}
use Rattle.flat_kinds.proofs.Declarations.{keeps-all, keeps-first}
use Rattle.readable_laws.specs.Uses.{implied_by, means_by}
use Rattle.given_modules.proofs.Usable.{behind-usable, direct-of, exported-usable, view-one}
use Rattle.given_modules.specs.Passed.{with_own_depths}
use Rattle.given_modules.proofs.Passed.{file-gives}
use Rattle.arranged_modules.proofs.Along.{module-seen}
use Rattle.arranged_modules.proofs.Itself.{itself-deep}
use Rattle.arranged_modules.proofs.Known.{known-deep}
use Rattle.arranged_modules.proofs.NextFiles.{face-grows, next-deep}
use Rattle.given_modules.specs.Others.{IsNamedOf}
use Rattle.given_modules.proofs.Others.{brought-others}
use Rattle.arranged_modules.proofs.Others.{outside-others}
use Rattle.given_modules.proofs.Passed.{nothing-holds}
use Rattle.arranged_modules.proofs.deep_modules_are_files.Goals as goal

pub returns-clause-itself : goal.returns-clause-itself
returns-clause-itself c = λ flat declares behinds given inside files outsides name bytes units symbols final asked made ordered good deep faultless same whole.
    let found = findings (views (text_of bytes units) outsides (words_of units)) bytes units in
    let names = c.places_are_declared.ensures declares bytes units (c.names_begin_apart.ensures.declared name bytes units faultless.front) faultless.places in
    let declared = λ (title : List ℕ). (good.each title).given.names.entries in
    let keeps = keeps-all declares (text_of bytes units) outsides (words_of units) declared (first outsides bytes units) units.units names (keeps-first declares outsides bytes units declared) in
    let ones = λ (title : List ℕ). view-one declares (outsides title).view (good.each title).given.names (direct-of (good.each title).comes) in
    let usable = (behind-usable declares outsides bytes units ones names units.units [] (sym (append-nil units.units))).0 in
    let found_so = exported-usable declares outsides bytes units ones names (last outsides bytes units).read.place.here usable in
    let is = c.faultless_modules_answer_depths.ensures.outside flat declares behinds given inside files outsides name bytes units symbols final asked made ordered good deep faultless same whole in
    (is.inner, itself-deep flat (means_by found) (implied_by found) files outsides bytes units symbols final asked made whole keeps.declared.here.once found_so is)

pub returns-clause-given : goal.returns-clause-given
returns-clause-given c = λ flat declares behinds given inside files outsides name bytes units symbols final asked made good deep faultless same whole.
    let found = findings (views (text_of bytes units) outsides (words_of units)) bytes units in
    let names = c.places_are_declared.ensures declares bytes units (c.names_begin_apart.ensures.declared name bytes units faultless.front) faultless.places in
    let declared = λ (title : List ℕ). (good.each title).given.names.entries in
    let keeps = keeps-all declares (text_of bytes units) outsides (words_of units) declared (first outsides bytes units) units.units names (keeps-first declares outsides bytes units declared) in
    let ones = λ (title : List ℕ). view-one declares (outsides title).view (good.each title).given.names (direct-of (good.each title).comes) in
    let usable = (behind-usable declares outsides bytes units ones names units.units [] (sym (append-nil units.units))).0 in
    let known =
    known-deep flat declares behinds given inside files outsides name bytes units good deep faultless names (c.own_names_are_apart.ensures.apart outsides name bytes units faultless.front) (λ m others. c.own_names_are_apart.ensures.others outsides bytes units m others) in
    let ended =
    module-seen flat (means_by found) (implied_by found) files outsides name bytes units declares inside (with_own_depths outsides bytes units given) known symbols same final asked made whole in
    file-gives (with_own_depths outsides bytes units given) outsides bytes units keeps.declared.here.once
    (λ used m there behind. ended.1 m (ended.2 used m (exported-usable declares outsides bytes units ones names (last outsides bytes units).read.place.here usable used m there)))

pub returns-clause-others : goal.returns-clause-others
returns-clause-others c = λ given outsides bytes units file is others. c.own_depths_are_given.ensures.files given outsides bytes units file is (λ m used there. c.own_names_are_apart.ensures.others outsides bytes units m (brought-others (text_of bytes units).file file.view m used others there))

pub returns-clause-grows : goal.returns-clause-grows
returns-clause-grows c = λ flat more inner face file extends ordered there is. face-grows flat more extends ordered inner face file there is

pub returns-clause-next : goal.returns-clause-next
returns-clause-next c = λ flat more declares behinds given inside files outsides name bytes next units inner face extends ordered good deep faultless others is gives apart.
    let names = c.places_are_declared.ensures declares bytes units (c.names_begin_apart.ensures.declared name bytes units faultless.front) faultless.places in
    let declared = λ (title : List ℕ). (good.each title).given.names.entries in
    next-deep flat more extends ordered declares given (with_own_depths outsides bytes units given) inside (text_of bytes units).file next files outsides inner face (outside outsides bytes units) deep
    (λ title. (good.each title).there)
    (λ title. c.own_depths_are_given.ensures.files given outsides bytes units (outsides title) (deep.gives title) (λ m used there. c.own_names_are_apart.ensures.others outsides bytes units m (brought-others (text_of bytes units).file (outsides title).view m used (deep.others title) there)))
    (c.own_depths_are_given.ensures.symbols declares given outsides bytes units declared names deep.plain) others is gives (outside-others next (views (text_of bytes units) outsides (words_of units)) bytes units apart others)

pub returns-clause-nothing : goal.returns-clause-nothing
returns-clause-nothing c = λ flat given title. (
  record {
    leads = λ name names. refl;
    deep = λ name. tt;
    parameters = λ name. tt;
    takes = λ name next is. cc is;
  },
  λ m name is. cc is,
  nothing-holds (IsNamedOf title),
)

pub returns-clause-foreign : goal.returns-clause-foreign
returns-clause-foreign c = λ outsides bytes next units others apart. outside-others next (views (text_of bytes units) outsides (words_of units)) bytes units apart others
