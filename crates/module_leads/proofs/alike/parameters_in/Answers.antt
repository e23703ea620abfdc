use Rattle.std.proofs.Common.{◌∙◌, ap, length, refl, rules, sym}
use Rattle.std.proofs.lemmas.Option.{slice_get_read}
use Rattle.tree_names.specs.Parameters.{entries_in}
use Rattle.flattened_trees.specs.Leads.{FlatFace}
use Rattle.module_leads.proofs.Numbered.{face-is, face-past}
use Rattle.module_leads.proofs.alike.parameters_in.Goals as goal

pub returns-in-Some : goal.returns-in-Some
returns-in-Some c =
    let listed = c.args.faces.now in
    let at = slice_get_read listed (length listed) c.args.number c.in-Some.face.now refl (search (rules, c.in-Some.ensures.lookup.0)) c.in-Some.ensures.lookup.1 in
    ap entries_in c.as_slice.ensures ∙ sym (ap (λ (face : FlatFace). face.parameters) (face-is listed c.args.number c.in-Some.face.now at))

pub returns-in-None : goal.returns-in-None
returns-in-None c = sym (ap (λ (face : FlatFace). face.parameters) (face-past c.args.faces.now (length c.args.faces.now) c.args.number (search (rules, c.in-None.ensures.lookup))))
