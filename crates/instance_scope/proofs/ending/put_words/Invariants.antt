use Rattle.std.proofs.Common.{◌≡◌, ◌++◌, filter, map, take}
use Rattle.tla_model.specs.Stretches.{shown}
use Rattle.name_context.specs.AsTables.{context_of}
use Rattle.instance_leads.specs.Found.{is_new_word}
use Rattle.instance_scope.proofs.ending.put_words.Given as goal

abbrev pub invariant-loop-word : goal.invariant-loop-word
invariant-loop-word l = record {
  words : l.own.words ≡ l.initial.own.words ++ filter (is_new_word (context_of l.context)) (map shown (take l.word-index l.words));
  symbols : l.own.symbols ≡ l.initial.own.symbols;
}
