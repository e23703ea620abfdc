use Rattle.std.proofs.Common.{take}
use Rattle.std.specs.List.{AllByRecursion}
use Rattle.tla_model.specs.Entities.{same_decl}
use Rattle.tla_model.specs.Tables.{lookup}
use Rattle.instance_leads.specs.Found.{AreIn, IsTold}
use Rattle.instance_scope.proofs.ending.keep_words.Given as goal

abbrev pub invariant-loop-meaning : goal.invariant-loop-meaning
invariant-loop-meaning l = record {
  known : AreIn l.known l.kept;
  kept : AreIn l.kept l.initial.kept;
  told : AllByRecursion (λ entry. IsTold (lookup same_decl l.kept) entry.1.now) (take l.meaning-index l.words);
}
