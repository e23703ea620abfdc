use Rattle.tla_symbols.specs.declared.op.Op.{Op}
use Rattle.tla_model.specs.Entities.{Meaning}
use Rattle.tla_model.specs.EntityKinds.{is_meant, stands_behind}
use Rattle.exact_faces.proofs.Keeping.{IsAlone}
use Rattle.exact_faces.proofs.kept.has_symbols_alone.Given as goal

abbrev pub invariant-loop-index : goal.invariant-loop-index
invariant-loop-index l = IsAlone (λ (symbol : Op × Meaning). is_meant stands_behind symbol.1) l.index l.symbols
