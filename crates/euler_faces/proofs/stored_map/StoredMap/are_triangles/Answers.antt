use Rattle.std.proofs.Common.{◌≡◌, ◌<◌, ◌∷◌, ◌+◌, ◌-◌, cond, eqb, suc, length, get_or, refl, sym, ap, ◌∙◌, subst, inl, inr, arith}
use Rattle.std.proofs.lemmas.Bool.{cases_lt}
use Rattle.std.proofs.lemmas.Bool.Decides.{nat_tests}
use Rattle.map_lists.specs.Cuts.{cut}
use Rattle.map_lists.proofs.CutLemmas.{AreCuts-at}
use Rattle.map_theory.specs.Maps.{darts}
use Rattle.simple_maps.proofs.FlatLemmas.{last-is}
use Rattle.euler_faces.specs.Corners.{IsCornerOfThree}
use Rattle.euler_faces.proofs.OrbitLemmas.{twins_long, twin_step}
use Rattle.euler_faces.proofs.TriangleLemmas.{corner_at, step_in}
use Rattle.euler_faces.proofs.stored_map.StoredMap.are_triangles.Goals as goal

pub offset_bounds-map-behind : goal.offset_bounds-map-behind
offset_bounds-map-behind c =
    let at = AreCuts-at 0 c.args.self.now.ends.now (length c.args.self.now.entries.now) c.loop-v.v c.facts.ensures.cuts c.loop-v-test.true in
    omega (arith, at.1, c.facts.ensures.few)

pub bounds-map-behind : goal.bounds-map-behind
bounds-map-behind c =
    let at = AreCuts-at 0 c.args.self.now.ends.now (length c.args.self.now.entries.now) c.loop-v.v c.facts.ensures.cuts c.loop-v-test.true in
    omega (arith, at.1, c.if-behind-start.false)

pub offset_bounds-map-d : goal.offset_bounds-map-d
offset_bounds-map-d c =
    let at = AreCuts-at 0 c.args.self.now.ends.now (length c.args.self.now.entries.now) c.loop-v.v c.facts.ensures.cuts c.loop-v-test.true in
    omega (arith, at.1, c.loop-d-test.true, c.facts.ensures.few)

pub bounds-map-d : goal.bounds-map-d
bounds-map-d c =
    let at = AreCuts-at 0 c.args.self.now.ends.now (length c.args.self.now.entries.now) c.loop-v.v c.facts.ensures.cuts c.loop-v-test.true in
    omega (arith, at.1, c.loop-d-test.true)

pub offset_bounds-twins-d : goal.offset_bounds-twins-d
offset_bounds-twins-d c =
    let at = AreCuts-at 0 c.args.self.now.ends.now (length c.args.self.now.entries.now) c.loop-v.v c.facts.ensures.cuts c.loop-v-test.true in
    omega (arith, at.1, c.loop-d-test.true, c.facts.ensures.few)

pub bounds-twins-d : goal.bounds-twins-d
bounds-twins-d c =
    let at = AreCuts-at 0 c.args.self.now.ends.now (length c.args.self.now.entries.now) c.loop-v.v c.facts.ensures.cuts c.loop-v-test.true in
    omega (arith, at.1, c.loop-d-test.true, twins_long c.args.self.now.ends.now c.args.self.now.entries.now c.facts.ensures.cuts c.facts.ensures.simple c.args.twins.now c.requires)

pub after-requires-clause-v_in : goal.after-requires-clause-v_in
after-requires-clause-v_in c =
    let at = AreCuts-at 0 c.args.self.now.ends.now (length c.args.self.now.entries.now) c.loop-v.v c.facts.ensures.cuts c.loop-v-test.true in
    let d = c.loop-d.d in
    let test = c.loop-d-test.true in
    let d_in : d < length c.args.self.now.entries.now = omega (arith, at.1) in
    (twin_step c.args.self.now.ends.now c.args.self.now.entries.now c.facts.ensures.cuts c.facts.ensures.simple c.args.twins.now c.requires d d_in).0

pub after-requires-clause-fits : goal.after-requires-clause-fits
after-requires-clause-fits c =
    let at = AreCuts-at 0 c.args.self.now.ends.now (length c.args.self.now.entries.now) c.loop-v.v c.facts.ensures.cuts c.loop-v-test.true in
    let d = c.loop-d.d in
    let test = c.loop-d-test.true in
    let d_in : d < length c.args.self.now.entries.now = omega (arith, at.1) in
    let step = twin_step c.args.self.now.ends.now c.args.self.now.entries.now c.facts.ensures.cuts c.facts.ensures.simple c.args.twins.now c.requires d d_in in
    omega (arith, step.1, c.facts.ensures.few)

pub offset_bounds-map-after : goal.offset_bounds-map-after
offset_bounds-map-after c =
    let at = AreCuts-at 0 c.args.self.now.ends.now (length c.args.self.now.entries.now) c.loop-v.v c.facts.ensures.cuts c.loop-v-test.true in
    let d = c.loop-d.d in
    let test = c.loop-d-test.true in
    let d_in : d < length c.args.self.now.entries.now = omega (arith, at.1) in
    let step = twin_step c.args.self.now.ends.now c.args.self.now.entries.now c.facts.ensures.cuts c.facts.ensures.simple c.args.twins.now c.requires d d_in in
    let is = c.after.ensures ∙ step.2 in
    omega (arith, is, step_in c.args.self.now.ends.now c.args.self.now.entries.now c.facts.ensures.cuts c.facts.ensures.simple d d_in, c.facts.ensures.few)

pub bounds-map-after : goal.bounds-map-after
bounds-map-after c =
    let at = AreCuts-at 0 c.args.self.now.ends.now (length c.args.self.now.entries.now) c.loop-v.v c.facts.ensures.cuts c.loop-v-test.true in
    let d = c.loop-d.d in
    let test = c.loop-d-test.true in
    let d_in : d < length c.args.self.now.entries.now = omega (arith, at.1) in
    let step = twin_step c.args.self.now.ends.now c.args.self.now.entries.now c.facts.ensures.cuts c.facts.ensures.simple c.args.twins.now c.requires d d_in in
    let is = c.after.ensures ∙ step.2 in
    omega (arith, is, step_in c.args.self.now.ends.now c.args.self.now.entries.now c.facts.ensures.cuts c.facts.ensures.simple d d_in)

pub loop-d-preserved : goal.loop-d-preserved
loop-d-preserved c =
    let ends = c.args.self.now.ends.now in
    let entries = c.args.self.now.entries.now in
    let lists = cut 0 ends entries in
    let at = AreCuts-at 0 ends (length entries) c.loop-v.v c.facts.ensures.cuts c.loop-v-test.true in
    let h = c.loop-d.invariant in
    let v = c.loop-v.v in
    let d = c.loop-d.d in
    let test = c.loop-d-test.true in
    let low = c.loop-d.auto.d in
    let begins = c.loop-v.invariant.start_is in
    let d_in : d < length entries = omega (arith, at.1) in
    let step = twin_step ends entries c.facts.ensures.cuts c.facts.ensures.simple c.args.twins.now c.requires d d_in in
    let is = c.after.ensures ∙ step.2 in
    let here = corner_at ends entries c.facts.ensures.cuts c.facts.ensures.simple v d c.loop-v-test.true (omega arith) test d_in
    (ap (λ x. get_or entries x 0) (sym is) ∙ (c.if-map-after.false ∙ (h.before_is ∙ ap (λ s. get_or entries (cond (eqb d s) (get_or ends v 0 - 1) (d - 1)) 0) begins))) in
    let next : d ≡ cond (eqb (d + 1) c.loop-v.start) (get_or ends v 0 - 1) (d + 1 - 1) = grind (arith, nat_tests) in
    record {
      before_is = ap (λ x. get_or entries x 0) next;
      corners = λ i l. elim (cases_lt i d) [
        | inl m ↦ h.corners i m
        | inr m ↦
            (let same : d ≡ i = omega arith in
            subst (λ x. IsCornerOfThree lists (get_or (darts lists) x (0, 0)).0 (get_or (darts lists) x (0, 0)).1) same here)
      ];
    }

pub loop-v-preserved : goal.loop-v-preserved
loop-v-preserved c =
    let next : c.loop-v.v + 1 ≡ suc c.loop-v.v = omega arith in
    let test = c.loop-d-test.false in
    record {
      start_is = rw next refl;
      corners = λ i l. c.loop-d.invariant.corners i (omega arith);
    }

pub returns : goal.returns
returns c = λ i l.
    let ends = c.args.self.now.ends.now in
    let test = c.loop-v-test.false in
    let all = c.loop-v.auto.v-end in
    let last : c.loop-v.v ≡ length ends = omega arith in
    let is = c.loop-v.invariant.start_is ∙ (ap (λ x. get_or (0 ∷ ends) x 0) last ∙ last-is ends c.args.self.now.entries.now c.facts.ensures.cuts) in
    c.loop-v.invariant.corners i (omega (arith, is))
