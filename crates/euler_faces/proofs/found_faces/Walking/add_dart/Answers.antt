use Rattle.std.proofs.Common.{◌≡◌, ◌<◌, ◌+◌, ◌∙◌, ℕ, length, true, get_or, set, subst, sym, arith, length-set}
use Rattle.classes.proofs.Marks.{unmarked_below-set}
use Rattle.euler_faces.specs.Numbers.{number_at, mark_of}
use Rattle.euler_faces.specs.Search.{IsNumberedBy}
use Rattle.euler_faces.specs.FaceSearch.{AreWalked, no_face, with_face}
use Rattle.euler_faces.proofs.NumberLemmas.{number_at-lt, live-lt, SetsMark-set, mark_of-number, face_step-live}
use Rattle.euler_faces.proofs.SearchLemmas.{marks-set, length-marks_of, met, unmet, IsNumbered-set, IsNumbered-chained}
use Rattle.euler_faces.proofs.FaceWalkLemmas.{IsWalking, live_now, IsWalking-more, IsWalking-marks, IsWalking-all, here_more, few_walked, keeps_walked, least_walked, AreWalked-old, AreWalked-new}
use Rattle.euler_faces.proofs.found_faces.Walking.add_dart.Goals as goal

pub returns-then-of-start : goal.returns-then-of-start
returns-then-of-start c =
    let map = c.args.self.now.map.now in
    let w = c.requires.walking in
    let d = c.args.start.0 in
    let l = live-lt map c.args.self.now.map.now.known d c.requires.live in
    AreWalked-old map c.args.self.now.map.now.known c.args.walks.now.items c.args.of.now d c.requires.live w (met no_face c.args.of.now d (omega (arith, w.size)) c.if-of-start.true)

pub overflow_cast-f : goal.overflow_cast-f
overflow_cast-f c =
    let few = few_walked c.args.self.now.map.now c.args.self.now.map.now.known c.args.walks.now.items c.args.of.now c.args.start.0 c.requires.live c.requires.walking in
    omega (arith, few, c.len-f.ensures)

pub bounds-of-d : goal.bounds-of-d
bounds-of-d c =
    let map = c.args.self.now.map.now in
    let h = c.loop-of.invariant in
    let l = live-lt map c.args.self.now.map.now.known c.loop-of.d.0 (live_now map c.args.self.now.map.now.known _ _ _ _ _ h.walking) in
    omega (arith, h.size)

pub face_step-d-requires : goal.face_step-d-requires
face_step-d-requires c = live_now c.args.self.now.map.now c.args.self.now.map.now.known _ _ _ _ _ c.loop-of.invariant.walking

pub loop-of-smaller : goal.loop-of-smaller
loop-of-smaller c =
    let map = c.args.self.now.map.now in
    let h = c.loop-of.invariant in
    let d = c.loop-of.d.0 in
    let of = c.loop-of.of in
    let few = few_walked map c.args.self.now.map.now.known c.args.walks.now.items c.args.of.now c.args.start.0 c.requires.live c.requires.walking in
    let live = live_now map c.args.self.now.map.now.known _ _ _ _ _ h.walking in
    let l = live-lt map c.args.self.now.map.now.known d live in
    let off = unmet no_face of d (omega (arith, h.size)) c.loop-of-test.true in
    let e = marks-set no_face of d c.len-f.result (omega (arith, few, c.len-f.ensures)) in
    let long = length-marks_of no_face of in
    rw e (unmarked_below-set _ _ _ (number_at map d)
    (SetsMark-set map c.args.self.now.map.now.known (with_face of) d live (omega (arith, h.size)))
    (number_at-lt map c.args.self.now.map.now.known d live)
    (mark_of-number map c.args.self.now.map.now.known (with_face of) d live ∙ off))

pub loop-of-preserved : goal.loop-of-preserved
loop-of-preserved c =
    let map = c.args.self.now.map.now in
    let h = c.loop-of.invariant in
    let d = c.loop-of.d.0 in
    let of = c.loop-of.of in
    let f = c.len-f.result in
    let few = few_walked map c.args.self.now.map.now.known c.args.walks.now.items c.args.of.now c.args.start.0 c.requires.live c.requires.walking in
    let number : f < no_face = omega (arith, few, c.len-f.ensures) in
    let live = live_now map c.args.self.now.map.now.known _ _ _ _ _ h.walking in
    let l = live-lt map c.args.self.now.map.now.known d live in
    let l' : d < length of = omega (arith, h.size) in
    let off = unmet no_face of d l' c.loop-of-test.true in
    let e = marks-set no_face of d f number in
    let long = length-marks_of no_face of in
    record {
      size = length-set of d f ∙ h.size;
      walking =
          subst (λ ids. IsWalking map (mark_of map (with_face c.args.of.now)) (mark_of map (with_face (set of d f))) ids c.args.start.0 c.face_step-d.result.0) (sym c.in_ok-push.ensures)
          (rw e (IsWalking-more map c.args.self.now.map.now.known _ _ _ _ _ h.walking (mark_of map (set (with_face of) d true)) c.face_step-d.result.0
          (mark_of-number map c.args.self.now.map.now.known (with_face of) d live ∙ off)
          (SetsMark-set map c.args.self.now.map.now.known (with_face of) d live (omega arith))
          (face_step-live map c.args.self.now.map.now.known d c.face_step-d.result.0 live c.face_step-d.ensures)
          c.face_step-d.ensures));
      numbered = IsNumbered-chained no_face _ _ _ _ h.numbered (IsNumbered-set no_face of d f number l' off);
      here = rw c.in_ok-push.ensures (here_more of c.loop-of.walk f d l' h.here);
    }

pub returns : goal.returns
returns c =
    let map = c.args.self.now.map.now in
    let known = c.args.self.now.map.now.known in
    let walks = c.args.walks.now.items in
    let of = c.args.of.now in
    let s = c.args.start.0 in
    let live = c.requires.live in
    let w = c.requires.walking in
    let l = live-lt map known s live in
    let h = c.loop-of.invariant in
    let d = c.loop-of.d.0 in
    let here = live_now map known _ _ _ _ _ h.walking in
    let m = live-lt map known d here in
    let off = unmet no_face of s (omega (arith, w.size)) c.if-of-start.false in
    let none = mark_of-number map known (with_face of) s live ∙ off in
    let on = mark_of-number map known (with_face c.loop-of.of) d here ∙ met no_face c.loop-of.of d (omega (arith, h.size)) c.loop-of-test.false in
    let keeps = keeps_walked map known walks of s live w in
    let count : c.len-f.result ≡ length walks = omega (arith, c.len-f.ensures) in
    subst (λ walks. AreWalked map walks c.loop-of.of (number_at map s + 1)) (sym c.in_ok-push-2.ensures.items)
    (AreWalked-new map known walks of s live w c.loop-of.walk c.loop-of.of off (h.size ∙ sym w.size)
    (IsWalking-marks map known _ _ _ _ _ h.walking keeps none on)
    (IsWalking-all map known _ _ _ _ _ h.walking keeps none on (least_walked map known walks of s live w off))
    (subst (IsNumberedBy no_face of c.loop-of.of) count h.numbered)
    (subst (λ f. (i : ℕ) → i < length c.loop-of.walk → get_or c.loop-of.of (get_or c.loop-of.walk i 0) 0 ≡ f) count h.here))
