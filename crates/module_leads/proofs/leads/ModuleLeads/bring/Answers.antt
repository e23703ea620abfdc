use Rattle.std.proofs.Common.{◌≡◌, ◌∙◌, ap, length, subst, sym}
use Rattle.std.specs.Prelude.{IfSome}
use Rattle.tree_names.specs.Parameters.{entries_in}
use Rattle.flattened_units.specs.Units.{with_brought}
use Rattle.module_leads.specs.Faces.{faces_of}
use Rattle.module_leads.specs.Layers.{IsFaceWithin, IsWayWithin, leads_by, own_way, way_by}
use Rattle.module_leads.specs.Ways.{face_at}
use Rattle.module_leads.proofs.Placed.{brought-leads, led}
use Rattle.module_leads.proofs.Within.{brought-within}
use Rattle.module_leads.proofs.leads.ModuleLeads.bring.Goals as goal

pub returns-clause-known : goal.returns-clause-known
returns-clause-known c =
    let faces = c.args.self.now.faces.items in
    let round = c.args.self.now.round.items in
    let old = c.args.self.now.here in
    let new = c.put_brought.new.layer in
    let before = leads_by (faces_of faces) (way_by round old) in
    led faces round old new (with_brought before (entries_in c.args.entries.now) c.args.instance (face_at (faces_of faces) c.args.face))
    (brought-leads (faces_of faces) round old new (entries_in c.args.entries.now) c.args.instance c.known_face-face.result c.in_ok-put_brought.ensures
    ∙ ap (λ f. with_brought before (entries_in c.args.entries.now) c.args.instance f) (subst (λ listed. face_at (faces_of listed) c.known_face-face.result ≡ face_at (faces_of listed) c.args.face) c.deref.ensures.value c.known_face-face.ensures.same))

pub returns-clause-sound : goal.returns-clause-sound
returns-clause-sound c = λ sound. record {
  outer = sound.outer;
  inner = λ m.
      subst (λ o. IfSome o (IsWayWithin (length c.args.self.now.faces.items))) (sym (c.in_ok-put_brought.ensures.ways m))
      (brought-within (length c.args.self.now.faces.items) (entries_in c.args.entries.now) c.args.instance c.known_face-face.result (own_way c.args.self.now.here m) m (subst (λ listed. IsFaceWithin (length listed) c.known_face-face.result) c.deref.ensures.value c.known_face-face.ensures.within) (sound.inner m));
}
