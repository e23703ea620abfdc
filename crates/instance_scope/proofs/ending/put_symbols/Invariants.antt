use Rattle.std.proofs.Common.{◌≡◌, ◌++◌, filter, take}
use Rattle.tla_model.specs.EntityKinds.{is_meant, stands_for_parameter}
use Rattle.name_context.specs.AsTables.{context_of}
use Rattle.instance_leads.specs.Found.{is_new_symbol}
use Rattle.instance_scope.proofs.ending.put_symbols.Given as goal

abbrev pub invariant-loop-op : goal.invariant-loop-op
invariant-loop-op l = record {
  words : l.own.words ≡ l.initial.own.words;
  symbols : l.own.symbols ≡ l.initial.own.symbols ++ filter (is_new_symbol (context_of l.context)) (filter (λ symbol. is_meant stands_for_parameter symbol.1) (take l.op-index l.symbols));
}
