use Rattle.std.proofs.Common.{◌≡◌, ℕ, ◌<◌, length, get_or, refl, sym, ap, ◌∙◌, subst, inl, inr, arith}
use Rattle.std.proofs.lemmas.Bool.{cases_eq, eqb-true, OnTrue_from}
use Rattle.euler_faces.proofs.OrbitLemmas.{twins_long, twin_step}
use Rattle.euler_faces.proofs.NextLemmas.{none_of_two, same_bits, next-in, corners-shown}
use Rattle.euler_faces.proofs.stored_map.StoredMap.has_triangles.Goals as goal

pub bounds-twins-after : goal.bounds-twins-after
bounds-twins-after c =
    let map = c.args.self.now in
    let are = c.if-not-write_next.ensures in
    let long = twins_long map.ends.now map.entries.now c.facts.ensures.cuts c.facts.ensures.simple c.args.twins.now c.requires.twins in
    omega (arith, long, next-in map.ends.now map.entries.now c.facts.ensures.cuts _ are c.loop-d.d c.loop-d-test.true)

pub bounds-next-twins : goal.bounds-next-twins
bounds-next-twins c =
    let map = c.args.self.now in
    let are = c.if-not-write_next.ensures in
    let a = next-in map.ends.now map.entries.now c.facts.ensures.cuts _ are c.loop-d.d c.loop-d-test.true in
    let step = twin_step map.ends.now map.entries.now c.facts.ensures.cuts c.facts.ensures.simple c.args.twins.now c.requires.twins _ a in
    omega (arith, step.1, c.write_next.auto.next, c.requires.next)

pub bounds-map-turned : goal.bounds-map-turned
bounds-map-turned c =
    let map = c.args.self.now in
    let are = c.if-not-write_next.ensures in
    let a = next-in map.ends.now map.entries.now c.facts.ensures.cuts _ are c.loop-d.d c.loop-d-test.true in
    let step = twin_step map.ends.now map.entries.now c.facts.ensures.cuts c.facts.ensures.simple c.args.twins.now c.requires.twins _ a in
    next-in map.ends.now map.entries.now c.facts.ensures.cuts _ are _ step.1

pub loop-d-preserved : goal.loop-d-preserved
loop-d-preserved c = λ none e l.
    let parts = none_of_two _ _ none in
    elim (cases_eq e c.loop-d.d) [
      | inl same ↦ subst (λ x. get_or c.args.self.now.entries.now (get_or c.write_next.new.next (get_or c.args.twins.now (get_or c.write_next.new.next x 0) 0) 0) 0 ≡ get_or c.args.self.now.entries.now x 0) (sym same) (same_bits _ _ parts.1)
      | inr ne ↦ c.loop-d.invariant parts.0 e (omega arith)
    ]

pub returns : goal.returns
returns c =
    let map = c.args.self.now in
    let are = c.if-not-write_next.ensures in
    OnTrue_from _ _ (λ t. corners-shown map.ends.now map.entries.now c.facts.ensures.cuts _ are c.facts.ensures.simple c.args.twins.now c.requires.twins (λ e l. c.loop-d.invariant (eqb-true c.loop-d.wrong 0 t) e (omega (arith, c.loop-d-test.false))))
