use Rattle.std.proofs.Common.{map, sym, subst}
use Rattle.tla_model.specs.EntityKinds.{is_instance, words_meant}
use Rattle.module_model.specs.Exports.{exports_of}
use Rattle.module_model.specs.Given.{AreReached}
use Rattle.instance_scope.specs.declared.scope.Scope.{Scope}
use Rattle.instance_scope.specs.Scoped.{known_of}
use Rattle.instance_parts.proofs.Gathereds.{grown-on, roots-of, rooted-on}
use Rattle.instance_parts.proofs.reached.Gathering.reach_exported.Goals as goal

pub returns-clause-roots : goal.returns-clause-roots
returns-clause-roots c =
    roots-of c.reach_symbols.new.self c.args.exports.now
    (subst (λ (s : Scope). AreReached (known_of s) (exports_of c.args.exports.now)) (sym (grown-on c.args.self.now c.reach_words.new.self c.reach_symbols.new.self c.in_ok-reach_words.ensures.grown c.in_ok-reach_symbols.ensures.grown).scope) c.requires.reached)
    (rooted-on c.reach_words.new.self c.reach_symbols.new.self c.in_ok-reach_symbols.ensures.grown (map (λ word. word.1) (words_meant is_instance c.args.exports.now.words)) c.in_ok-reach_words.ensures.rooted)
    c.in_ok-reach_symbols.ensures.rooted
