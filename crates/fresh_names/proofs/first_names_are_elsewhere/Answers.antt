use Rattle.list_laws.proofs.Lists.{all-both}
use Rattle.module_scope.specs.Environments.{first as first_scope}
use Rattle.module_model.specs.Modules.{text_of}
use Rattle.module_model.specs.Resolution.{words_of}
use Rattle.module_meanings.specs.Premises.{extended_meanings}
use Rattle.fresh_names.specs.Seen.{IsElsewhere, symbols_in}
use Rattle.fresh_names.proofs.First.{extended-elsewhere}
use Rattle.fresh_names.proofs.first_names_are_elsewhere.Goals as goal

pub returns : goal.returns
returns c = λ flat means implied files outsides source units symbols foreign own. (
  tt,
  all-both (IsElsewhere (text_of source units) (symbols_in units.units)) symbols
      (extended_meanings (text_of source units) outsides (words_of units) (first_scope (text_of source units).file) units.extends) own
      (extended-elsewhere (text_of source units) outsides (words_of units) (symbols_in units.units) foreign units.extends),
)
