use Rattle.std.proofs.Common.{◌≡◌, ◌+◌, ℕ, suc, List, [], ◌∷◌, length, get_or, sym, ap, ◌∙◌, subst, arith}
use Rattle.std.proofs.lemmas.List.{length-append, get_or_push}
use Rattle.convex_orders.specs.Noted.{AreNoted}
use Rattle.convex_orders.specs.Shown.{IsTrace}
use Rattle.convex_orders.proofs.Known.{based}
use Rattle.convex_orders.proofs.Noting.{AreNoted-more, AreRims-seen}
use Rattle.convex_orders.proofs.Traced.{traced_last, traced_rim, next_is, traced_more, traced_stop, traced_apart, traced_end, traced_short}
use Rattle.convex_orders.proofs.contour_tracing.ContourFaces.trace.Goals as goal

pub see-x-requires-clause-some : goal.see-x-requires-clause-some
see-x-requires-clause-some c =
    let some = c.requires.some in
    let tr = c.loop.invariant.all some.alive some.w some.r some.a some.b some.trace in
    let k : ℕ = some.a + c.loop.counter in
    let long = tr.from.long in
    let at = traced_last c.args.map.now.tables.now.lists c.args.map.now.tables.now.faces.own c.args.map.now.tables.now.faces.other c.args.map.now.tables.now.faces.count c.args.map.now.marks.now (based c.args.map.now.tables.now).three.simple c.args.map.now.tables.now.numbers c.loop.left.items c.args.stop some.alive some.w some.r k some.b tr k (sym long) in
    (some.w (suc k), traced_rim c.args.map.now.tables.now.lists c.args.map.now.tables.now.faces.own c.args.map.now.tables.now.faces.other c.args.map.now.tables.now.faces.count c.args.map.now.marks.now (based c.args.map.now.tables.now).three.simple c.args.map.now.tables.now.numbers c.loop.left.items c.args.stop some.alive some.w some.r k some.b tr c.loop.x (sym at ∙ c.loop.invariant.last k (sym long)))

pub returns-then-x-stop-clause-list : goal.returns-then-x-stop-clause-list
returns-then-x-stop-clause-list c = λ alive w r a b is.
    let tr = c.loop.invariant.all alive w r a b is in
    let k : ℕ = a + c.loop.counter in
    let long = tr.from.long in
    let at = sym (traced_last c.args.map.now.tables.now.lists c.args.map.now.tables.now.faces.own c.args.map.now.tables.now.faces.other c.args.map.now.tables.now.faces.count c.args.map.now.marks.now (based c.args.map.now.tables.now).three.simple c.args.map.now.tables.now.numbers c.loop.left.items c.args.stop alive w r k b tr k (sym long)) ∙ c.loop.invariant.last k (sym long) in
    traced_end c.args.map.now.tables.now.lists c.args.map.now.tables.now.faces.own c.args.map.now.tables.now.faces.other c.args.map.now.tables.now.faces.count c.args.map.now.marks.now (based c.args.map.now.tables.now).three.simple c.args.map.now.tables.now.numbers c.loop.left.items c.args.stop alive w r k b tr c.loop.x c.see-x.result at c.see-x.ensures.rim c.push.new.self.items c.in_ok-push.ensures.items c.if-x-stop.true

pub returns-then-x-stop-clause-noted : goal.returns-then-x-stop-clause-noted
returns-then-x-stop-clause-noted c = λ alive w r a b is.
    let tr = c.loop.invariant.all alive w r a b is in
    let k : ℕ = a + c.loop.counter in
    let long = tr.from.long in
    let at = sym (traced_last c.args.map.now.tables.now.lists c.args.map.now.tables.now.faces.own c.args.map.now.tables.now.faces.other c.args.map.now.tables.now.faces.count c.args.map.now.marks.now (based c.args.map.now.tables.now).three.simple c.args.map.now.tables.now.numbers c.loop.left.items c.args.stop alive w r k b tr k (sym long)) ∙ c.loop.invariant.last k (sym long) in
    let rim = c.see-x.ensures.rim in
    let stop = traced_stop c.args.map.now.tables.now.lists c.args.map.now.tables.now.faces.own c.args.map.now.tables.now.faces.other c.args.map.now.tables.now.faces.count c.args.map.now.marks.now (based c.args.map.now.tables.now).three.simple c.args.map.now.tables.now.numbers c.loop.left.items c.args.stop alive w r k b tr c.loop.x c.see-x.result at rim c.if-x-stop.true in
    subst (λ m. AreNoted c.args.map.now.tables.now.lists c.args.map.now.tables.now.faces.own w a m c.args.self.now c.see-x.new.self) stop
    (AreNoted-more c.args.map.now.tables.now.lists c.args.map.now.tables.now.faces.own w a k c.loop.x c.see-x.result (length c.args.map.now.tables.now.lists) c.args.self.now c.loop.self c.see-x.new.self (omega arith) (traced_apart c.args.map.now.tables.now.lists c.args.map.now.tables.now.faces.own c.args.map.now.tables.now.faces.other c.args.map.now.tables.now.faces.count c.args.map.now.marks.now (based c.args.map.now.tables.now).three.simple c.args.map.now.tables.now.numbers c.loop.left.items c.args.stop alive w r k b tr c.loop.x c.see-x.result at rim a) at (next_is c.args.map.now.tables.now.lists c.args.map.now.tables.now.faces.own c.args.map.now.tables.now.faces.other c.args.map.now.tables.now.faces.count c.args.map.now.marks.now (based c.args.map.now.tables.now).three.simple c.args.map.now.tables.now.numbers c.loop.left.items c.args.stop alive w r k b tr c.loop.x c.see-x.result at rim) rim.dart.0 c.loop.invariant.size c.see-x.ensures.seen (c.loop.invariant.noted alive w r a b is))

pub loop-preserved : goal.loop-preserved
loop-preserved c = record {
  size = AreRims-seen c.args.map.now.tables.now.lists c.args.map.now.tables.now.faces.own c.loop.x c.see-x.result (length c.args.map.now.tables.now.lists) c.loop.self c.see-x.new.self c.see-x.ensures.seen c.loop.invariant.size;
  all = λ alive w r a b is.
      let tr = c.loop.invariant.all alive w r a b is in
      let k : ℕ = a + c.loop.counter in
      let long = tr.from.long in
      let at = sym (traced_last c.args.map.now.tables.now.lists c.args.map.now.tables.now.faces.own c.args.map.now.tables.now.faces.other c.args.map.now.tables.now.faces.count c.args.map.now.marks.now (based c.args.map.now.tables.now).three.simple c.args.map.now.tables.now.numbers c.loop.left.items c.args.stop alive w r k b tr k (sym long)) ∙ c.loop.invariant.last k (sym long) in
      let z : suc k ≡ a + (c.loop.counter + 1) = omega arith in
      subst (λ m. IsTrace c.args.map.now.tables.now.lists c.args.map.now.tables.now.faces.own c.args.map.now.marks.now c.push.new.self.items c.args.stop alive w r m b) z
      (traced_more c.args.map.now.tables.now.lists c.args.map.now.tables.now.faces.own c.args.map.now.tables.now.faces.other c.args.map.now.tables.now.faces.count c.args.map.now.marks.now (based c.args.map.now.tables.now).three.simple c.args.map.now.tables.now.numbers c.loop.left.items c.args.stop alive w r k b tr c.loop.x c.see-x.result at c.see-x.ensures.rim c.push.new.self.items c.in_ok-push.ensures.items c.if-x-stop.false);
  noted = λ alive w r a b is.
      let tr = c.loop.invariant.all alive w r a b is in
      let k : ℕ = a + c.loop.counter in
      let long = tr.from.long in
      let at = sym (traced_last c.args.map.now.tables.now.lists c.args.map.now.tables.now.faces.own c.args.map.now.tables.now.faces.other c.args.map.now.tables.now.faces.count c.args.map.now.marks.now (based c.args.map.now.tables.now).three.simple c.args.map.now.tables.now.numbers c.loop.left.items c.args.stop alive w r k b tr k (sym long)) ∙ c.loop.invariant.last k (sym long) in
      let rim = c.see-x.ensures.rim in
      let z : suc k ≡ a + (c.loop.counter + 1) = omega arith in
      subst (λ m. AreNoted c.args.map.now.tables.now.lists c.args.map.now.tables.now.faces.own w a m c.args.self.now c.see-x.new.self) z
      (AreNoted-more c.args.map.now.tables.now.lists c.args.map.now.tables.now.faces.own w a k c.loop.x c.see-x.result (length c.args.map.now.tables.now.lists) c.args.self.now c.loop.self c.see-x.new.self (omega arith) (traced_apart c.args.map.now.tables.now.lists c.args.map.now.tables.now.faces.own c.args.map.now.tables.now.faces.other c.args.map.now.tables.now.faces.count c.args.map.now.marks.now (based c.args.map.now.tables.now).three.simple c.args.map.now.tables.now.numbers c.loop.left.items c.args.stop alive w r k b tr c.loop.x c.see-x.result at rim a) at (next_is c.args.map.now.tables.now.lists c.args.map.now.tables.now.faces.own c.args.map.now.tables.now.faces.other c.args.map.now.tables.now.faces.count c.args.map.now.marks.now (based c.args.map.now.tables.now).three.simple c.args.map.now.tables.now.numbers c.loop.left.items c.args.stop alive w r k b tr c.loop.x c.see-x.result at rim) rim.dart.0 c.loop.invariant.size c.see-x.ensures.seen (c.loop.invariant.noted alive w r a b is));
  last = λ k e.
      let items = c.in_ok-push.ensures.items in
      let y = c.see-x.result in
      let long = ap length items ∙ length-append c.loop.left.items (y ∷ []) in
      ap (λ (z : List ℕ). get_or z k 0) items ∙ get_or_push c.loop.left.items y 0 k (omega arith);
}

pub returns-clause-list : goal.returns-clause-list
returns-clause-list c = λ alive w r a b is.
    let tr = c.loop.invariant.all alive w r a b is in
    let short = traced_short c.args.map.now.tables.now.lists c.args.map.now.tables.now.faces.own c.args.map.now.tables.now.faces.other c.args.map.now.tables.now.faces.count c.args.map.now.marks.now (based c.args.map.now.tables.now).three.simple c.args.map.now.tables.now.numbers c.loop.left.items c.args.stop alive w r (a + c.loop.counter) b tr in
    absurd (omega (arith, short, c.loop-test.false, c.len-end.ensures.is))

pub returns-clause-noted : goal.returns-clause-noted
returns-clause-noted c = λ alive w r a b is.
    let tr = c.loop.invariant.all alive w r a b is in
    let short = traced_short c.args.map.now.tables.now.lists c.args.map.now.tables.now.faces.own c.args.map.now.tables.now.faces.other c.args.map.now.tables.now.faces.count c.args.map.now.marks.now (based c.args.map.now.tables.now).three.simple c.args.map.now.tables.now.numbers c.loop.left.items c.args.stop alive w r (a + c.loop.counter) b tr in
    absurd (omega (arith, short, c.loop-test.false, c.len-end.ensures.is))
