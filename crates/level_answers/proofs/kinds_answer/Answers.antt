use Rattle.std.proofs.Common.{[], ◌∷◌, ap, cond, sym}
use Rattle.tree_kinds.specs.TreeLevels.{Leveled, Refused, TooHigh, is_above, level_word}
use Rattle.level_answers.proofs.Answering.{kind_found, refusal_found}
use Rattle.level_answers.proofs.kinds_answer.Goals as goal

pub returns-clause-kind : goal.returns-clause-kind
returns-clause-kind c flat frame start end kinds i h later l = kind_found flat frame start end kinds h i later l

pub returns-clause-uses : goal.returns-clause-uses
returns-clause-uses c flat frame start end kinds i name h later l = sym (ap (λ k. Leveled name (level_word k) ∷ []) (kind_found flat frame start end kinds h i later l))

pub returns-clause-refused : goal.returns-clause-refused
returns-clause-refused c flat frame start end kinds i s h ordered later l parts = sym (ap (λ b. cond b (Refused s ∷ []) []) (refusal_found flat frame start end kinds h ordered i later l parts))

pub returns-clause-high : goal.returns-clause-high
returns-clause-high c flat frame start end kinds i most s h later l = sym (ap (λ k. cond (is_above most k) (TooHigh s ∷ []) []) (kind_found flat frame start end kinds h i later l))
