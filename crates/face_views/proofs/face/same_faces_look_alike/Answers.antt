use Rattle.face_views.proofs.Views.{look-alike}
use Rattle.face_views.proofs.face.same_faces_look_alike.Goals as goal

pub returns : goal.returns
returns c = look-alike
