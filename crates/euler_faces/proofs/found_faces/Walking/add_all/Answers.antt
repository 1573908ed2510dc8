use Rattle.std.proofs.Common.{arith}
use Rattle.classes.specs.Classes.{orbits}
use Rattle.map_theory.specs.Maps.{face_images}
use Rattle.map_theory.proofs.DartLemmas.{length-face_images, darts_before_none, darts_before_all}
use Rattle.classes.proofs.Orbits.{length-orbits}
use Rattle.classes.proofs.Marks.{IsCounting-le, IsCounting-all}
use Rattle.euler_faces.proofs.NumberLemmas.{few_darts, live-lt}
use Rattle.euler_faces.proofs.FaceWalkLemmas.{AreWalked-none, AreWalksBelow-all}
use Rattle.euler_faces.proofs.found_faces.Walking.add_all.Goals as goal

pub loop-v-init : goal.loop-v-init
loop-v-init c =
    let map = c.args.self.now.map.now in
    record {
      known = c.args.self.now.map.now.known;
      walking = rw (c.requires.none, darts_before_none map.lists) (AreWalked-none map c.args.self.now.map.now.known c.args.of.now c.requires.size c.requires.unset);
    }

pub returns-clause-faces : goal.returns-clause-faces
returns-clause-faces c =
    let map = c.args.self.now.map.now in
    let h = c.loop-v.invariant in
    AreWalksBelow-all map h.known _ _ h.walking.walked (darts_before_all map.lists c.loop-v.v (omega arith))

pub returns-clause-count : goal.returns-clause-count
returns-clause-count c =
    let map = c.args.self.now.map.now in
    let h = c.loop-v.invariant in
    let images = face_images map.lists in
    let all = darts_before_all map.lists c.loop-v.v (omega arith) in
    let n = length-face_images map.lists in
    let o = length-orbits images in
    IsCounting-all (orbits images) _ _ _ h.walking.counting (omega arith)

pub returns-clause-numbered : goal.returns-clause-numbered
returns-clause-numbered c =
    let map = c.args.self.now.map.now in
    let h = c.loop-v.invariant in
    let le = IsCounting-le _ _ _ _ h.walking.counting in
    let all = darts_before_all map.lists c.loop-v.v (omega arith) in
    let few = few_darts map h.known in
    record {
      few = omega arith;
      within = λ f i l m. omega (arith, h.walking.size, live-lt map h.known _ ((h.walking.walked.each f l).is_walk.live i m));
      placed = h.walking.placed;
    }
