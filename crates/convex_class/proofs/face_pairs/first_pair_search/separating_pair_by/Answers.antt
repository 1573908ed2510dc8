use Rattle.std.proofs.Common.{refl, arith}
use Rattle.convex_class.proofs.ShortFaces.{no_pair}
use Rattle.convex_class.proofs.face_pairs.first_pair_search.separating_pair_by.Goals as goal

pub returns-then-has_short_faces : goal.returns-then-has_short_faces
returns-then-has_short_faces c =
    no_pair c.args.map.now c.args.map.now.known c.args.faces.now c.requires.faces (c.if-has_short_faces.ensures refl)
    (record { simple = c.args.map.now.known.simple; plane = c.requires.plane; uncut = c.requires.uncut })

pub returns-then-from-n : goal.returns-then-from-n
returns-then-from-n c = λ u v pair.
    let low = c.in_ok-from.ensures u v pair in
    let l = pair.0 in
    let m = pair.1 in
    let n = c.n.ensures.count in
    let behind = c.if-from-n.true in
    omega arith
