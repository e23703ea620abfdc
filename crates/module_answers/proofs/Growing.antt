-- A module that is deep in a flat module is so in one that has more.
use Rattle.std.proofs.Common.{ℕ, List, ◌∷◌}
use Rattle.unit_grammar.specs.Units.{ModuleUnits}
use Rattle.tla_model.specs.Entities.{Meaning}
use Rattle.tla_model.specs.Tables.{Named}
use Rattle.module_model.specs.Exports.{exports_of, none_known}
use Rattle.kind_text.specs.FlatModule.{Extends, FlatModule, IsOrdered}
use Rattle.tree_kinds.specs.Standing.{Outside}
use Rattle.module_kinds.specs.ModuleKinds.{last, outside}
use Rattle.flat_depths.proofs.Growing.{has-kept}
use Rattle.flattened_trees.specs.Within.{IsLeadWithin}
use Rattle.flattened_depths.proofs.Knowing.{takes-kept}
use Rattle.flattened_units.specs.Units.{Reader, exported_leads}
use Rattle.module_meanings.proofs.Growing.{names-within}
use Rattle.module_answers.specs.Deep.{IsDeepSo}

pub deep-grows : (flat more : FlatModule) (extends : Extends flat more) (ordered : IsOrdered flat) (outsides : List ℕ → Outside) (source : List ℕ) (units : ModuleUnits) (symbols : List Meaning) (final : Reader) → ((name : Named) (names : List Named) → IsLeadWithin flat (exported_leads final.setting.leads (exports_of (last outsides source units).read.place.here.exports) (name ∷ names))) → IsDeepSo flat outsides source units symbols final → IsDeepSo more outsides source units symbols final
deep-grows flat more extends ordered outsides source units symbols final there is =
    let within = names-within flat is.inner (exported_leads final.setting.leads (exports_of (last outsides source units).read.place.here.exports)) is.leads there in
    record {
      inner = is.inner;
      leads = is.leads;
      deep = λ name. has-kept flat more extends ordered (is.inner name) 0 (λ path. (outside outsides source units).depths (name ∷ path)) (within name) (is.deep name);
      parameters = λ name. takes-kept flat none_known more extends (is.inner name) (within name) (is.parameters name);
      takes = is.takes;
    }
