use Rattle.std.proofs.Common.{◌≡◌, ◌-◌, length, get_or, set, refl, ◌∙◌, arith, length-set}
use Rattle.map_lists.proofs.CutLemmas.{AreCuts-at}
use Rattle.euler_faces.proofs.NextLemmas.{AreNextTo-more}
use Rattle.euler_faces.proofs.stored_map.StoredMap.write_next.Goals as goal

pub loop-v-init : goal.loop-v-init
loop-v-init c = record {
  long = c.loop-d.invariant.long;
  next = record {
    start_is = refl;
    before = λ w d l a b. absurd (omega (arith, l));
    rest = λ d a b. c.loop-d.invariant.next d (omega (arith, c.loop-d-test.false));
  };
}

pub bounds-next-behind : goal.bounds-next-behind
bounds-next-behind c =
    let at = AreCuts-at 0 c.args.self.now.ends.now (length c.args.self.now.entries.now) c.loop-v.v c.facts.ensures.cuts c.loop-v-test.true in
    omega (arith, at.1, c.loop-v.invariant.long, c.if-behind-start.false)

pub overflow_cast-next-in-loop-v : goal.overflow_cast-next-in-loop-v
overflow_cast-next-in-loop-v c =
    let at = AreCuts-at 0 c.args.self.now.ends.now (length c.args.self.now.entries.now) c.loop-v.v c.facts.ensures.cuts c.loop-v-test.true in
    omega (arith, at.1, c.if-behind-start.false, c.facts.ensures.few)

pub offset_bounds-next-behind : goal.offset_bounds-next-behind
offset_bounds-next-behind c =
    let at = AreCuts-at 0 c.args.self.now.ends.now (length c.args.self.now.entries.now) c.loop-v.v c.facts.ensures.cuts c.loop-v-test.true in
    omega (arith, at.1, c.if-behind-start.false, c.facts.ensures.few)

pub loop-v-preserved : goal.loop-v-preserved
loop-v-preserved c =
    let ends = c.args.self.now.ends.now in
    let at = AreCuts-at 0 ends (length c.args.self.now.entries.now) c.loop-v.v c.facts.ensures.cuts c.loop-v-test.true in
    let h = c.loop-v.invariant in
    let behind = get_or ends c.loop-v.v 0 in
    record {
      long = length-set c.loop-v.next (behind - 1) c.loop-v.start ∙ h.long;
      next = AreNextTo-more ends c.loop-v.next (length c.args.self.now.entries.now) c.loop-v.start c.loop-v.v behind _ c.facts.ensures.cuts c.loop-v-test.true h.next refl (omega (arith, c.if-behind-start.false)) (omega (arith, at.1, h.long)) refl;
    }

pub returns : goal.returns
returns c = λ v d l a b. c.loop-v.invariant.next.before v d (omega (arith, c.loop-v-test.false, l)) a b
