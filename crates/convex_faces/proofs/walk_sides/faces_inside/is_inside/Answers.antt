use Rattle.std.proofs.Common.{◌≡◌, List, [], ◌∷◌, get_or, refl, ap, ◌∙◌, arith}
use Rattle.map_lists.specs.declared.ids.DartId.{DartId}
use Rattle.euler_faces.specs.FaceWalks.{ids_of, walk_at}
use Rattle.euler_faces.proofs.NumberLemmas.{live-lt}
use Rattle.convex_faces.proofs.walk_sides.faces_inside.is_inside.Goals as goal

-- the first id of a walk
first_id : (ds : List DartId) → (get_or ds 0 (record { 0 = 0 })).0 ≡ get_or (ids_of ds) 0 0
first_id [] = refl
first_id (d ∷ ds) = refl

pub bounds-met-first : goal.bounds-met-first
bounds-met-first c =
    let map = c.args.map.now in
    let walk = c.requires.faces.each c.args.f.0 c.requires.face in
    let l = live-lt map c.args.map.now.known (get_or (walk_at c.args.faces.now c.args.f.0) 0 0) (walk.live 0 walk.some) in
    let e = first_id c.walk.result.now ∙ ap (λ us. get_or us 0 0) c.walk.ensures.walk in
    omega (arith, l, e, c.requires.room)
