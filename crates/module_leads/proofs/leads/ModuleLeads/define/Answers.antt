use Rattle.std.proofs.Common.{length, refl, subst, sym}
use Rattle.std.specs.Prelude.{IfSome}
use Rattle.flattened_trees.specs.Leads.{only, with_leads}
use Rattle.module_leads.specs.declared.ways.Way.TheVariants as way
use Rattle.module_leads.specs.Faces.{faces_of}
use Rattle.module_leads.specs.Layers.{IsWayWithin, leads_by, own_way, way_by}
use Rattle.module_leads.proofs.Placed.{defined-leads, led}
use Rattle.module_leads.proofs.Within.{put-within}
use Rattle.module_leads.proofs.leads.ModuleLeads.define.Goals as goal

pub returns-clause-known : goal.returns-clause-known
returns-clause-known c =
    let faces = c.args.self.now.faces.items in
    let round = c.args.self.now.round.items in
    let old = c.args.self.now.here in
    let new = c.put_all.new.layer in
    let lead = only c.args.to in
    led faces round old new (with_leads (leads_by (faces_of faces) (way_by round old)) c.args.meanings.now lead)
    (defined-leads (faces_of faces) round old new c.args.meanings.now (way.To c.args.to) lead c.in_ok-put_all.ensures (λ names. refl))

pub returns-clause-sound : goal.returns-clause-sound
returns-clause-sound c = λ sound. record {
  outer = sound.outer;
  inner = λ m.
      subst (λ o. IfSome o (IsWayWithin (length c.args.self.now.faces.items))) (sym (c.in_ok-put_all.ensures.ways m))
      (put-within (length c.args.self.now.faces.items) c.args.meanings.now (own_way c.args.self.now.here) (way.To c.args.to) tt sound.inner m);
}
