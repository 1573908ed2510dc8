use Rattle.std.proofs.Common.{arith, sym, ◌∙◌, ap, subst, ◌∷◌, [], refl, Contains}
use Rattle.std.proofs.lemmas.List.Elements.{Contains-push, Contains-append_left}
use Rattle.std.proofs.lemmas.List.{nil_from_length}
use Rattle.euler_faces.specs.declared.face_chains.FaceSide.{FaceSide}
use Rattle.euler_faces.specs.ChainSearch.{IsChaining, Meets, work}
use Rattle.euler_faces.proofs.SideMarks.{some_dart}
use Rattle.euler_faces.proofs.ChainLemmas.{starts, live_first, live_on, work_less, work_taken, goes_from, finished, met_long}
use Rattle.euler_faces.proofs.face_chains.mark_reached.Goals as goal

pub loop-side-init : goal.loop-side-init
loop-side-init g c =
    let map = c.args.map.now in
    let side : FaceSide = record { dart = c.args.start; odd = _ } in
    let m : Meets c.args.met.now [] side c.meet.new.met c.meet.new.sides.items = subst (λ sides. Meets c.args.met.now sides side c.meet.new.met c.meet.new.sides.items) c.new-sides.ensures.items c.in_ok-meet.ensures in
    record {
      marks = met_long c.args.met.now [] side c.meet.new.met c.meet.new.sides.items m ∙ c.requires.room;
      live = live_first map c.args.met.now side c.meet.new.met c.meet.new.sides.items c.requires.live m;
      search = λ base counts start tells. starts map c.args.map.now.known base counts c.args.met.now side c.meet.new.met c.meet.new.sides.items start refl c.requires.unset c.requires.room m;
    }

pub go_on-requires-clause-live : goal.go_on-requires-clause-live
go_on-requires-clause-live g c = c.loop-side.invariant.live c.in-Some.side (subst (λ sides. Contains sides c.in-Some.side) (sym c.in-Some.ensures.items) (Contains-push c.pop.new.self.items c.in-Some.side))

pub loop-side-smaller : goal.loop-side-smaller
loop-side-smaller g c =
    let map = c.args.map.now in
    let sides = c.pop.new.self.items in
    let side = c.in-Some.side in
    let live = c.loop-side.invariant.live side (subst (λ sides. Contains sides side) (sym c.in-Some.ensures.items) (Contains-push sides side)) in
    let less = work_less map c.args.map.now.known _ side c.loop-side.met sides c.go_on.new.met c.go_on.new.sides.items c.in_ok-go_on.ensures live c.loop-side.invariant.marks in
    let taken = work_taken c.loop-side.met sides side in
    let same = ap (work c.loop-side.met) c.in-Some.ensures.items in
    omega (arith, less.1, taken, same)

pub loop-side-preserved : goal.loop-side-preserved
loop-side-preserved g c =
    let map = c.args.map.now in
    let sides = c.pop.new.self.items in
    let side = c.in-Some.side in
    let h = c.loop-side.invariant in
    let live = h.live side (subst (λ sides. Contains sides side) (sym c.in-Some.ensures.items) (Contains-push sides side)) in
    let less = work_less map c.args.map.now.known _ side c.loop-side.met sides c.go_on.new.met c.go_on.new.sides.items c.in_ok-go_on.ensures live h.marks in
    let d = some_dart _ live in
    record {
      marks = less.0 ∙ h.marks;
      live = live_on map c.args.map.now.known _ side c.loop-side.met sides c.go_on.new.met c.go_on.new.sides.items c.in_ok-go_on.ensures live (λ s on. h.live s (subst (λ sides. Contains sides s) (sym c.in-Some.ensures.items) (Contains-append_left sides (side ∷ []) s on)));
      search = λ base counts start tells.
          goes_from map c.args.map.now.known base counts _ tells side c.loop-side.met sides c.go_on.new.met c.go_on.new.sides.items c.in_ok-go_on.ensures h.marks d.0 d.1 d.2
          (subst (λ sides. IsChaining map base counts c.loop-side.met sides (λ d odd. ⊥)) c.in-Some.ensures.items (h.search base counts start tells));
    }

pub returns : goal.returns
returns g c = λ base counts start tells.
    let map = c.args.map.now in
    finished map c.args.map.now.known base counts c.loop-side.met c.loop-side.sides.items (c.args.map.now.known.is_dart c.args.start.0 base.0 base.1 start) (nil_from_length c.loop-side.sides.items (omega (arith, c.in_default.ensures.cases))) (c.loop-side.invariant.search base counts start tells)
