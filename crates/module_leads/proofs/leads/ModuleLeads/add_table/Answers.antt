use Rattle.std.proofs.Common.{◌≡◌, ◌≤◌, ◌∙◌, suc, ap, arith, length, subst}
use Rattle.tree_names.specs.Parameters.{entries_in}
use Rattle.module_model.specs.Exports.{exports_of}
use Rattle.module_leads.specs.declared.faces.FaceNames.TheVariants as names
use Rattle.module_leads.specs.declared.faces.ModuleFace.{ModuleFace}
use Rattle.module_leads.specs.Faces.{HasWays, faces_of}
use Rattle.module_leads.specs.Layers.{leads_by, way_by}
use Rattle.module_leads.specs.Leading.{face_over}
use Rattle.module_leads.proofs.Numbered.{length-more}
use Rattle.module_leads.proofs.Placed.{face-over, faced, listed-ways}
use Rattle.module_leads.proofs.Within.{layer-more, layers-more}
use Rattle.module_leads.proofs.leads.ModuleLeads.add_table.Goals as goal

pub returns-clause-known : goal.returns-clause-known
returns-clause-known c =
    let faces = c.args.self.now.faces.items in
    let round = c.args.self.now.round.items in
    let here = c.args.self.now.here in
    let entries = exports_of c.args.exports.now in
    let face : ModuleFace = record { parameters = c.args.parameters; outer = c.args.outer; is_constant = c.args.is_constant; names = names.Listed c.put_table.new.names } in
    let flat = face_over (entries_in c.args.parameters) c.args.outer c.args.is_constant entries (leads_by (faces_of faces) (way_by round here)) in
    faced faces c.push.new.self.items face flat round here c.in_ok-push.ensures.items
    (face-over (faces_of faces) (way_by round here) face entries
    (listed-ways c.new-names.result c.put_table.new.names (way_by round here) entries c.new-names.ensures
    (subst (λ layers. HasWays c.new-names.result c.put_table.new.names (way_by layers here) entries) c.deref.ensures.value c.in_ok-put_table.ensures)))
    c.requires

pub returns-clause-sound : goal.returns-clause-sound
returns-clause-sound c =
    let faces = c.args.self.now.faces.items in
    let face : ModuleFace = record { parameters = c.args.parameters; outer = c.args.outer; is_constant = c.args.is_constant; names = names.Listed c.put_table.new.names } in
    let longer : length c.push.new.self.items ≡ suc (length c.args.self.now.faces.items) = ap length c.in_ok-push.ensures.items ∙ length-more c.args.self.now.faces.items face in
    let more : length c.args.self.now.faces.items ≤ length c.push.new.self.items = omega arith in
    record {
      outer = layers-more (length faces) (length c.push.new.self.items) c.args.self.now.round.items more c.requires.outer;
      inner = layer-more (length faces) (length c.push.new.self.items) c.args.self.now.here more c.requires.inner;
    }
