use Rattle.tla_tree.specs.Syntax.{Node}
use Rattle.flattened_meanings.proofs.Behind.{faces-behind, names-behind, orders-behind, settings-behind, unsaid-behind}
use Rattle.flattened_meanings.proofs.surroundings_are_kept.Goals as goal

pub returns-clause-settings : goal.returns-clause-settings
returns-clause-settings c text layout setting (Node form s parts) stand lead settings leads = settings-behind text layout form s parts stand setting lead settings leads

pub returns-clause-orders : goal.returns-clause-orders
returns-clause-orders c text known layout seen (Node form s parts) stand orders names new takes = orders-behind text layout form s parts stand known seen orders names new takes

pub returns-clause-names : goal.returns-clause-names
returns-clause-names c text layout seen (Node form s parts) stand names = names-behind text layout form s parts stand seen names

pub returns-clause-unsaid : goal.returns-clause-unsaid
returns-clause-unsaid c text layout (Node form s parts) y stand unsaid new = unsaid-behind text layout form s parts stand y unsaid new

pub returns-clause-modules : goal.returns-clause-modules
returns-clause-modules c flat text named faces nameable layout (Node form s parts) stand new less all own fewer =
    faces-behind text layout form s parts stand flat named faces nameable new less all own fewer
