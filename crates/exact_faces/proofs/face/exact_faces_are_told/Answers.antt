use Rattle.exact_faces.proofs.Told.{faces-told}
use Rattle.exact_faces.proofs.face.exact_faces_are_told.Goals as goal

pub returns : goal.returns
returns c = faces-told
