use Rattle.std.proofs.Common.{◌≡◌, List, [], subst}
use Rattle.tla_model.specs.declared.Diagnostic.{Diagnostic}
use Rattle.module_model.specs.Bindings.{AreInOrder}
use Rattle.module_facts.specs.Ordered.{in_order}
use Rattle.leveled_facts.specs.Modules.{all_faults}
use Rattle.leveled_facts.proofs.Others.{imports-none, kinds-none, name-faults-none, names-first}
use Rattle.leveled_facts.proofs.faults_refuse.Goals as goal

-- where none are in order, there are none
none-in : ((all : List Diagnostic) → AreInOrder all (in_order all)) → ((all : List Diagnostic) → AreInOrder all [] → all ≡ []) → (all : List Diagnostic) → in_order all ≡ [] → all ≡ []
none-in are any all e = any all (subst (AreInOrder all) e (are all))

pub returns-clause-imports : goal.returns-clause-imports
returns-clause-imports c = λ given source units none. imports-none given source units (none-in c.in_order.ensures.are c.none_in_order.ensures.any (all_faults given source units) none)

pub returns-clause-names : goal.returns-clause-names
returns-clause-names c = λ given source units none. name-faults-none given source units (none-in c.in_order.ensures.are c.none_in_order.ensures.any (all_faults given source units) none)

pub returns-clause-kinds : goal.returns-clause-kinds
returns-clause-kinds c = λ given source units none. kinds-none given source units (none-in c.in_order.ensures.are c.none_in_order.ensures.any (all_faults given source units) none)

pub returns-clause-first : goal.returns-clause-first
returns-clause-first c = names-first
