use Rattle.std.proofs.Common.{◌≡◌, [], length, ap, ◌∙◌, arith}
use Rattle.std.proofs.lemmas.List.{get_or_default}
use Rattle.euler_faces.specs.FaceWalks.{ids_of, walk_at}
use Rattle.euler_faces.proofs.FaceWalkLemmas.{stands}
use Rattle.euler_faces.proofs.face_walks.Faces.walk.Goals as goal

pub returns-clause-stands : goal.returns-clause-stands
returns-clause-stands c =
    let f = c.args.f.0 in
    let walk : ids_of c.as_slice.result.now ≡ walk_at c.args.self.now f =
    c.as_slice.ensures ∙ (c.index.ensures ∙ (get_or_default c.self.inside.walks.items f c.index.result.now [] (omega (arith, ap length c.self.view_is, c.requires))
    ∙ ap (λ ws. walk_at ws f) c.self.view_is)) in
    stands c.args.self.now f c.as_slice.result.now walk
