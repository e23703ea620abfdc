use Rattle.std.proofs.Common.{◌∙◌, ap, refl, subst, sym}
use Rattle.tla_model.specs.Lexemes.{spelled}
use Rattle.module_model.specs.Exports.{exports_of, instantiable}
use Rattle.module_model.specs.Modules.{text_of}
use Rattle.module_model.specs.Resolution.{module_named, words_of}
use Rattle.tree_names.specs.Parameters.{entries_in}
use Rattle.brought_entries.specs.Entries.{IsExtended}
use Rattle.unit_flattener.specs.Walking.{face_number}
use Rattle.unit_flattener.proofs.BroughtNames.{module-brings}
use Rattle.unit_flattener.proofs.flattener.UnitFlattener.bring_module.Goals as goal

pub returns-in_default-clause-brings : goal.returns-in_default-clause-brings
returns-in_default-clause-brings c =
    let old = c.args.self.now in
    let text = c.args.written.now.text.now in
    let name = spelled text.source c.args.«module» in
    module-brings
    (λ outsides files source units before name have.
    c.views_go_together.ensures.named outsides files source units before name have
    ∙ ap (λ state. module_named (text_of source units) files (words_of units) state name) (sym (c.views_go_together.ensures.states outsides files source units before have)))
    c.args.written.now old (record old { leads = c.bring.new.self }) (entries_in c.as_slice.result.now) c.args.instance c.face-face.result c.args.«module»
    (subst (λ found. IsExtended text old.reader name (entries_in found)) (sym c.as_slice.ensures) (subst (λ n. IsExtended text old.reader n (entries_in c.in_ok-entries.entries)) c.spelled-name.ensures (c.in_ok-entries.ensures text)))
    (c.face-face.ensures ∙ ap (face_number old) c.spelled-name.ensures)
    (record { files = refl; modules = refl; own = refl; frame = refl; round = refl; state = refl; known = c.in_ok-bring.ensures.known; sound = c.in_ok-bring.ensures.sound }) refl

pub returns-clause-brings : goal.returns-clause-brings
returns-clause-brings c =
    let old = c.args.self.now in
    let text = c.args.written.now.text.now in
    let entries = instantiable (exports_of c.in-Some.exports.now) in
    module-brings
    (λ outsides files source units before name have.
    c.views_go_together.ensures.named outsides files source units before name have
    ∙ ap (λ state. module_named (text_of source units) files (words_of units) state name) (sym (c.views_go_together.ensures.states outsides files source units before have)))
    c.args.written.now old (record old { leads = c.bring_table.new.self }) entries c.args.instance c.face-face.result c.args.«module»
    (subst (λ n. IsExtended text old.reader n entries) c.spelled-name.ensures (c.in-Some.ensures text))
    (c.face-face.ensures ∙ ap (face_number old) c.spelled-name.ensures)
    (record { files = refl; modules = refl; own = refl; frame = refl; round = refl; state = refl; known = c.in_ok-bring_table.ensures.known; sound = c.in_ok-bring_table.ensures.sound }) refl
