use Rattle.std.proofs.Common.{◌≡◌, ◌≢◌, subst, inl, inr, arith}
use Rattle.std.proofs.lemmas.Bool.{cases_lt}
use Rattle.graph_search.specs.Cuts.{IsSeparatingPair}
use Rattle.convex_class.proofs.PairMarks.{least_pair_at}
use Rattle.convex_class.proofs.face_pairs.uncut_map.UncutMap.first_pair.Goals as goal

pub returns-then-v-n : goal.returns-then-v-n
returns-then-v-n c =
    let n = c.n.ensures.count in
    let l = c.if-v-n.true in
    least_pair_at c.args.self.now.map.now.lists c.loop-u.u c.partner-v.result c.loop-u.invariant.none (c.partner-v.ensures.pair (omega arith)) c.partner-v.ensures.least

pub loop-u-init : goal.loop-u-init
loop-u-init c =
    record {
      none = λ a b l pair. let low = c.requires.from a b pair in omega arith;
      unused = λ x later l. c.requires.unused x l;
    }

pub loop-u-preserved : goal.loop-u-preserved
loop-u-preserved c =
    let lists = c.args.self.now.map.now.lists in
    let n = c.n.ensures.count in
    let high = c.if-v-n.false in
    record {
      none = λ a b l pair. elim (cases_lt a c.loop-u.u) [
        | inl less ↦ c.loop-u.invariant.none a b less pair
        | inr more ↦
            let same : a ≡ c.loop-u.u = omega arith in
            let pair' : IsSeparatingPair lists c.loop-u.u b = subst (λ x. IsSeparatingPair lists x b) same pair in
            let le = c.partner-v.ensures.least b pair' in
            let m = pair'.1 in
            absurd (omega arith)
      ];
      unused = λ x later l.
          let ne : x ≢ c.loop-u.u = λ e. absurd (omega arith) in
          c.partner-v.ensures.unused x ne (c.loop-u.invariant.unused x (omega arith) l);
    }

pub returns : goal.returns
returns c = λ u v pair.
    let l = pair.0 in
    let m = pair.1 in
    let n = c.n-u-end.ensures.count in
    let end = c.loop-u-test.false in
    c.loop-u.invariant.none u v (omega arith) pair
