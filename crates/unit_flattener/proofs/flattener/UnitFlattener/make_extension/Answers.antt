use Rattle.std.proofs.Common.{[], ◌∙◌, ap, arith, length, refl, subst, sym}
use Rattle.tla_model.specs.Lexemes.{spelled}
use Rattle.tree_flattener.specs.declared.state.Flattening.{Flattening}
use Rattle.tree_flattener.specs.Replacing.{AreStayed}
use Rattle.tree_flattener.specs.Worlds.{setting_of, with_locals}
use Rattle.tree_flattener.proofs.Stepping.{frame-kept, keeps-on}
use Rattle.tree_flattener.proofs.Within.{known-on, longer}
use Rattle.tree_names.specs.Parameters.{entries_in}
use Rattle.module_leads.specs.Leading.{leading_in}
use Rattle.module_leads.specs.Ways.{face_at}
use Rattle.unit_flattener.specs.Walked.{IsShared}
use Rattle.unit_flattener.specs.Walking.{face_number, world_at}
use Rattle.unit_flattener.proofs.ExtendedModules.{extension-made}
use Rattle.unit_flattener.proofs.Places.{ready-here}
use Rattle.unit_flattener.proofs.flattener.UnitFlattener.make_extension.Goals as goal

pub share-requires-clause-known : goal.share-requires-clause-known
share-requires-clause-known c =
    let before = c.requires.within.before in
    let ready = ready-here c.args.written.now before.walk before.before c.requires.within.rest c.args.self.now before.reader before.at in
    known-on (world_at c.args.written.now c.args.self.now) c.args.self.now.state c.stay.new.state c.in_ok-stay.ensures.steps.extends c.in_ok-stay.ensures.locals ready.known

pub share-requires-clause-locals : goal.share-requires-clause-locals
share-requires-clause-locals c = c.in_ok-stay.ensures.locals ∙ c.requires.within.before.at.locals

pub frame_len-outer-requires : goal.frame_len-outer-requires
frame_len-outer-requires c =
    let there = c.requires.within.before.at.setting.there in
    let first = longer c.args.self.now.state.frames.items c.stay.new.state.frames.items c.in_ok-stay.ensures.steps.frames in
    let then = longer c.stay.new.state.frames.items c.share.new.state.frames.items c.in_ok-share.ensures.steps.frames in
    omega (arith, there, first, then)

pub returns-clause-made : goal.returns-clause-made
returns-clause-made c =
    let old = c.args.self.now in
    let w = world_at c.args.written.now old in
    let at = c.requires.within.before.at in
    let leads = (leading_in old.leads).leads in
    let faces = (leading_in old.leads).faces in
    let name = spelled c.args.written.now.text.now.source c.args.«module» in
    let face = face_at faces (face_number old name) in
    let setting = setting_of w old.state old.frame [] in
    let same = ap (face_at faces) (c.face-face.ensures ∙ ap (face_number old) c.spelled.ensures) in
    let start = c.new-made.result.items in
    let mid = c.stay.new.made.items in
    let made = c.share.new.made.items in
    let first = c.stay.new.state in
    let then = c.share.new.state in
    let last : Flattening = record then { flat = c.instantiate.new.self } in
    let kept = frame-kept old.state.frames.items then.frames.items old.frame (keeps-on old.state.frames.items first.frames.items then.frames.items c.in_ok-stay.ensures.steps.frames c.in_ok-share.ensures.steps.frames) at.setting.there in
    extension-made old.state first then last setting face c.frame_len-outer.result c.in_ok-j.j start mid made c.new-made.ensures.items
    (subst (λ n. AreStayed old.state first n start mid) (c.outer.ensures ∙ ap (λ f. f.outer) same) c.in_ok-stay.ensures)
    (subst (λ z. IsShared first then z face.parameters mid made) (sym (ap (with_locals w leads) at.locals))
    (subst (λ entries. IsShared first then leads entries mid made) (ap entries_in c.as_slice.ensures ∙ c.in_ok-parameters.ensures ∙ ap (λ f. f.parameters) same) c.in_ok-share.ensures))
    (c.frame_len-outer.ensures ∙ ap length kept) c.in_ok-j.ensures.added c.in_ok-j.ensures.number refl refl refl
