use Rattle.std.proofs.Common.{Bool, if◌then◌else◌, eqb, ◌≡◌, ◌+◌, ◌-◌, ℕ, suc, get_or, sym, ap, ◌∙◌, subst, arith, length}
use Rattle.convex_draw.specs.declared.convex_points.spots.Spot.{Spot}
use Rattle.convex_draw.specs.Spots.{AreSettled, spot_of, settled}
use Rattle.convex_draw.proofs.Rows.{long, row_some, row_first, row_last}
use Rattle.convex_draw.proofs.Writes.{AreSettled-none}
use Rattle.convex_draw.proofs.Passing.{IsPassing, faces_small, begin, here-next, settled-next, entry_in, cut_in, far_enough, face_small, far_small, rise_small, gain_small}
use Rattle.convex_draw.proofs.convex_points.spots.CoveredRow.settle.Goals as goal

pub bounds-row-row : goal.bounds-row-row
bounds-row-row c = let w = c.requires.put in let n = row_some w.0 c.args.spots.now c.args.self.now.row.now w.2.over in omega arith

pub overflow_cast-faces : goal.overflow_cast-faces
overflow_cast-faces c = let w = c.requires.put in let n = faces_small w.0 c.args.spots.now c.args.self.now.row.now c.args.self.now.cuts.now w.1 w.2 in let m = w.2.cuts_are.long in omega arith

pub overflow_sub-j-end : goal.overflow_sub-j-end
overflow_sub-j-end c = let w = c.requires.put in let n = row_some w.0 c.args.spots.now c.args.self.now.row.now w.2.over in omega arith

pub loop-j-init : goal.loop-j-init
loop-j-init c = λ w news put z fall i e.
    let d : w.step.first ≡ i = omega arith in
    (subst (λ i. IsPassing w i 0 0 c.args.fall 0) d (begin w c.args.spots.now c.args.self.now.row.now c.args.self.now.cuts.now news put c.args.fall fall), AreSettled-none w (suc i) c.args.spots.now (omega arith))

pub slice_copy_out-old : goal.slice_copy_out-old
slice_copy_out-old c =
    let w = c.requires.put in
    let same = c.loop-j.auto.spots in
    let test = c.loop-j-test.true in
    let low = c.loop-j.auto in
    let i : ℕ = w.0.step.first + c.loop-j.j - 1 in
    entry_in w.0 c.args.spots.now c.args.self.now.row.now c.args.self.now.cuts.now w.1 w.2 i c.loop-j.face c.loop-j.gain c.loop-j.far c.loop-j.rise c.loop-j.j c.loop-j.spots (c.loop-j.invariant w.0 w.1 w.2 w.3 w.4 i (omega arith)) (omega arith) (omega arith) (omega arith) same

pub bounds-cuts-face : goal.bounds-cuts-face
bounds-cuts-face c =
    let w = c.requires.put in
    let same = c.loop-j.auto.spots in
    let test = c.loop-j-test.true in
    let low = c.loop-j.auto in
    let i : ℕ = w.0.step.first + c.loop-j.j - 1 in
    cut_in w.0 c.args.spots.now c.args.self.now.row.now c.args.self.now.cuts.now w.1 w.2 i c.loop-j.face c.loop-j.gain c.loop-j.far c.loop-j.rise c.loop-j.j c.loop-j.spots (c.loop-j.invariant w.0 w.1 w.2 w.3 w.4 i (omega arith)) (omega arith) (omega arith) (omega arith) same

pub overflow_sub-far : goal.overflow_sub-far
overflow_sub-far c =
    let w = c.requires.put in
    let same = c.loop-j.auto.spots in
    let test = c.loop-j-test.true in
    let low = c.loop-j.auto in
    let i : ℕ = w.0.step.first + c.loop-j.j - 1 in
    far_enough w.0 c.args.spots.now c.args.self.now.row.now c.args.self.now.cuts.now w.1 w.2 i c.loop-j.face c.loop-j.gain c.loop-j.far c.loop-j.rise c.loop-j.j c.loop-j.spots (c.loop-j.invariant w.0 w.1 w.2 w.3 w.4 i (omega arith)) (omega arith) (omega arith) (omega arith) same

pub overflow_add-rise : goal.overflow_add-rise
overflow_add-rise c =
    let w = c.requires.put in
    let same = c.loop-j.auto.spots in
    let test = c.loop-j-test.true in
    let low = c.loop-j.auto in
    let i : ℕ = w.0.step.first + c.loop-j.j - 1 in
    let small = rise_small w.0 c.args.spots.now c.args.self.now.row.now c.args.self.now.cuts.now w.1 w.2 i c.loop-j.face c.loop-j.gain c.loop-j.far c.loop-j.rise c.loop-j.j c.loop-j.spots (c.loop-j.invariant w.0 w.1 w.2 w.3 w.4 i (omega arith)) (omega arith) (omega arith) (omega arith) same in omega arith

pub gain_at-gain-requires : goal.gain_at-gain-requires
gain_at-gain-requires c =
    let w = c.requires.put in
    let same = c.loop-j.auto.spots in
    let test = c.loop-j-test.true in
    let low = c.loop-j.auto in
    let i : ℕ = w.0.step.first + c.loop-j.j - 1 in
    face_small w.0 c.args.spots.now c.args.self.now.row.now c.args.self.now.cuts.now w.1 w.2 i c.loop-j.face c.loop-j.gain c.loop-j.far c.loop-j.rise c.loop-j.j c.loop-j.spots (c.loop-j.invariant w.0 w.1 w.2 w.3 w.4 i (omega arith)) (omega arith) (omega arith) (omega arith) same

pub more_if-face-requires : goal.more_if-face-requires
more_if-face-requires c =
    let w = c.requires.put in
    let same = c.loop-j.auto.spots in
    let test = c.loop-j-test.true in
    let low = c.loop-j.auto in
    let i : ℕ = w.0.step.first + c.loop-j.j - 1 in
    face_small w.0 c.args.spots.now c.args.self.now.row.now c.args.self.now.cuts.now w.1 w.2 i c.loop-j.face c.loop-j.gain c.loop-j.far c.loop-j.rise c.loop-j.j c.loop-j.spots (c.loop-j.invariant w.0 w.1 w.2 w.3 w.4 i (omega arith)) (omega arith) (omega arith) (omega arith) same

pub spot-requires-clause-gain : goal.spot-requires-clause-gain
spot-requires-clause-gain c =
    let w = c.requires.put in
    let same = c.loop-j.auto.spots in
    let test = c.loop-j-test.true in
    let low = c.loop-j.auto in
    let i : ℕ = w.0.step.first + c.loop-j.j - 1 in
    let small = gain_small w.0 c.args.spots.now c.args.self.now.row.now c.args.self.now.cuts.now w.1 w.2 i c.loop-j.face c.loop-j.gain c.loop-j.far c.loop-j.rise c.loop-j.j c.loop-j.spots (c.loop-j.invariant w.0 w.1 w.2 w.3 w.4 i (omega arith)) (omega arith) (omega arith) (omega arith) same in omega (arith, small, c.gain_at-gain.ensures ∙ ap (λ (b : Bool). if eqb c.loop-j.j (get_or c.args.self.now.cuts.now (c.loop-j.face + 1) 0) then c.loop-j.face + 1 else (if b then c.loop-j.gain else c.loop-j.face + 1)) c.is_left.ensures)

pub spot-requires-clause-small : goal.spot-requires-clause-small
spot-requires-clause-small c =
    let w = c.requires.put in
    let same = c.loop-j.auto.spots in
    let test = c.loop-j-test.true in
    let low = c.loop-j.auto in
    let i : ℕ = w.0.step.first + c.loop-j.j - 1 in
    (far_small w.0 c.args.spots.now c.args.self.now.row.now c.args.self.now.cuts.now w.1 w.2 i c.loop-j.face c.loop-j.gain c.loop-j.far c.loop-j.rise c.loop-j.j c.loop-j.spots (c.loop-j.invariant w.0 w.1 w.2 w.3 w.4 i (omega arith)) (omega arith) (omega arith) (omega arith) same, rise_small w.0 c.args.spots.now c.args.self.now.row.now c.args.self.now.cuts.now w.1 w.2 i c.loop-j.face c.loop-j.gain c.loop-j.far c.loop-j.rise c.loop-j.j c.loop-j.spots (c.loop-j.invariant w.0 w.1 w.2 w.3 w.4 i (omega arith)) (omega arith) (omega arith) (omega arith) same)

pub bounds-spots-u : goal.bounds-spots-u
bounds-spots-u c =
    let w = c.requires.put in
    let same = c.loop-j.auto.spots in
    let test = c.loop-j-test.true in
    let low = c.loop-j.auto in
    let i : ℕ = w.0.step.first + c.loop-j.j - 1 in
    entry_in w.0 c.args.spots.now c.args.self.now.row.now c.args.self.now.cuts.now w.1 w.2 i c.loop-j.face c.loop-j.gain c.loop-j.far c.loop-j.rise c.loop-j.j c.loop-j.spots (c.loop-j.invariant w.0 w.1 w.2 w.3 w.4 i (omega arith)) (omega arith) (omega arith) (omega arith) same

pub loop-j-preserved : goal.loop-j-preserved
loop-j-preserved c = λ w news put z fall k e.
    let same = c.loop-j.auto.spots in
    let test = c.loop-j-test.true in
    let low = c.loop-j.auto in
    let i : ℕ = w.step.first + c.loop-j.j - 1 in
    let first = row_first w c.args.spots.now c.args.self.now.row.now put.over in
    let last = row_last w c.args.spots.now c.args.self.now.row.now put.over in
    let gain = c.gain_at-gain.ensures ∙ ap (λ (b : Bool). if eqb c.loop-j.j (get_or c.args.self.now.cuts.now (c.loop-j.face + 1) 0) then c.loop-j.face + 1 else (if b then c.loop-j.gain else c.loop-j.face + 1)) c.is_left.ensures in
    let spot : Spot = spot_of c.loop-j.spots (get_or c.args.self.now.row.now c.loop-j.j 0) in
    here-next w c.args.spots.now c.args.self.now.row.now c.args.self.now.cuts.now news put i c.loop-j.face c.loop-j.gain c.loop-j.far c.loop-j.rise c.loop-j.j c.loop-j.spots (c.loop-j.invariant w news put z fall i (omega arith)) (omega arith) (omega arith) (omega arith) same k c.more_if-face.result c.gain_at-gain.result c.spot.result (omega arith) c.more_if-face.ensures gain
    (c.spot.ensures ∙ ap (λ m. settled (length c.args.self.now.cuts.now - 1) m (c.loop-j.far - spot.one) (c.loop-j.rise + spot.two) (get_or c.args.self.now.row.now 0 0) c.args.z (get_or c.args.self.now.row.now (length c.args.self.now.row.now - 1) 0)) gain
    ∙ settled-next w c.args.spots.now c.args.self.now.row.now c.args.self.now.cuts.now news put i c.loop-j.face c.loop-j.gain c.loop-j.far c.loop-j.rise c.loop-j.j c.loop-j.spots (c.loop-j.invariant w news put z fall i (omega arith)) (omega arith) (omega arith) (omega arith) same (get_or c.args.self.now.row.now 0 0) c.args.z (get_or c.args.self.now.row.now (length c.args.self.now.row.now - 1) 0) first (sym z) last)

pub returns : goal.returns
returns c = λ w news put z fall.
    let n = long w c.args.spots.now c.args.self.now.row.now put.over in
    let o = row_some w c.args.spots.now c.args.self.now.row.now put.over in
    let test = c.loop-j-test.false in
    let low = c.loop-j.auto in
    let end = c.loop-j.auto.j-end (omega arith) in
    let i : ℕ = w.step.last - 1 in
    let here = c.loop-j.invariant w news put z fall i (omega arith) in
    let e : suc i ≡ w.step.last = omega arith in
    record {
      settled = subst (λ m. AreSettled w m c.args.spots.now c.loop-j.spots) e here.1;
      risen = λ k d. let f : k ≡ i = omega arith in omega (arith, here.0.rise_is, ap (λ k. w.at.two (w.stage.vertex k)) f);
    }
