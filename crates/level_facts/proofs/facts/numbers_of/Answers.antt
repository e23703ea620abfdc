use Rattle.std.proofs.Common.{[], ◌∷◌, ◌++◌, None, sym, subst, take, get_or}
use Rattle.std.proofs.lemmas.List.{take_more}
use Rattle.kind_table.specs.Flattened.{flat_of}
use Rattle.level_facts.specs.declared.facts.Argument.TheVariants.{Value}
use Rattle.level_facts.specs.Facts.{AddsArguments}
use Rattle.level_facts.proofs.Keeping.{adds_more}
use Rattle.level_facts.proofs.facts.numbers_of.Goals as goal

pub loop-argument-preserved : goal.loop-argument-preserved
loop-argument-preserved c =
    let m = flat_of c.args.flat.now in let old = c.args.facts.now.arguments.keys in let new = c.number_of.new.facts.arguments.keys in
    let xs = c.args.arguments.now in let i = c.loop-argument.argument-index in
    let more = adds_more m c.in_ok-n.n (get_or xs i (Value None)) c.loop-argument.invariant.added c.in_ok-n.ensures.added in
    record {
      facts = c.in_ok-n.ensures.facts;
      added = subst (AddsArguments m old new c.push.new.self.items) (sym (take_more xs i (Value None) c.loop-argument-test.true))
          (subst (λ ns. AddsArguments m old new ns (take i xs ++ get_or xs i (Value None) ∷ [])) (sym c.in_ok-push.ensures.items) more);
    }
