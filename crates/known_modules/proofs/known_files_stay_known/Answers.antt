use Rattle.std.proofs.Common.{[]}
use Rattle.module_model.specs.Modules.{text_of}
use Rattle.module_kinds.specs.ModuleKinds.{last}
use Rattle.flat_trees.specs.Stands.{Unsaid}
use Rattle.known_modules.proofs.known_files_stay_known.Goals as goal

pub returns-clause-others : goal.returns-clause-others
returns-clause-others c = λ declares flat knowledge outsides bytes units face file is foreign.
    let title = (text_of bytes units).file in
    record {
      good = c.given_modules_are_good.ensures.others flat declares knowledge.behinds title (last outsides bytes units).read.known face file is.good foreign.0;
      yielding = c.declarations_yield_names.ensures.others knowledge.yields declares title (last outsides bytes units) file foreign.1 is.yielding;
      steady = is.steady;
      inner = is.inner;
      deep = is.deep;
      given = c.deep_modules_are_files.ensures.others knowledge.depths outsides bytes units file is.given foreign.1;
    }

pub returns-clause-grows : goal.returns-clause-grows
returns-clause-grows c = λ declares flat more knowledge face file extends ordered is. record {
  good = c.given_modules_are_good.ensures.grows flat more declares knowledge.behinds face file extends ordered is.good;
  yielding = is.yielding;
  steady = is.steady;
  inner = is.inner;
  deep = c.deep_modules_are_files.ensures.grows flat more is.inner face file extends ordered is.good.there is.deep;
  given = is.given;
}

pub returns-clause-nothing : goal.returns-clause-nothing
returns-clause-nothing c = λ declares flat knowledge.
    let deep = c.deep_modules_are_files.ensures.nothing flat knowledge.depths [] in
    record {
      good = c.given_modules_are_good.ensures.nothing flat declares knowledge.behinds;
      yielding = λ m name is. cc is;
      steady = c.modules_are_steady.ensures.nothing declares;
      inner = λ name. Unsaid;
      deep = deep.0;
      given = deep.1;
    }
