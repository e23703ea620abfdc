use Rattle.std.proofs.Common.{◌∙◌, ap, sym}
use Rattle.std.proofs.lemmas.List.{drop_all}
use Rattle.tla_symbols.specs.declared.lexeme.LexKind.TheVariants as LexKind
use Rattle.tla_symbols.specs.declared.lexeme.Lexeme.{Lexeme}
use Rattle.instance_scope.specs.Scoped.{known_of, module_in}
use Rattle.module_model.specs.Exports.{and_known}
use Rattle.module_model.specs.NamedModules.{exported_known, known_from_all}
use Rattle.instance_leads.proofs.Knowing.{and-none}
use Rattle.unit_scope.proofs.Onward.{known-more, same-module-in, same-on}
use Rattle.unit_scope.proofs.reading.note_all.Goals as goal

pub loop-name-preserved : goal.loop-name-preserved
loop-name-preserved c =
    let noted = c.in_ok-note_exported.ensures in
    let none : Lexeme = record { kind = LexKind.Name; span = record { start = 0; end = 0 }; line = 0; col = 0 } in
    let old = c.args.scope.now in
    let mid = c.loop-name.scope in
    let modules = c.args.modules.now in
    record {
      sound = noted.sound;
      same = same-on old mid c.note_exported.new.self c.loop-name.invariant.same noted.same;
      known = known-more c.args.text.now (module_in old modules) c.args.names.now c.loop-name.name-index none c.loop-name-test.true (known_of old) (known_of mid) (known_of c.note_exported.new.self) c.spelled.result.now c.spelled.ensures
          (noted.known ∙ ap (λ named. and_known (known_of mid) (exported_known (named c.spelled.result.now))) (same-module-in old mid modules c.loop-name.invariant.same)) c.loop-name.invariant.known;
    }

pub returns-clause-known : goal.returns-clause-known
returns-clause-known c =
    let old = c.args.scope.now in
    let named = module_in old c.args.modules.now in
    sym (and-none (known_of c.loop-name.scope)) ∙ ap (λ names. and_known (known_of c.loop-name.scope) (known_from_all c.args.text.now named names)) (sym (drop_all c.loop-name.name-index c.args.names.now c.loop-name-test.false)) ∙ c.loop-name.invariant.known
