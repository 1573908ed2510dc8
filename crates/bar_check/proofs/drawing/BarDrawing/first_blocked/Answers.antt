use Rattle.std.proofs.Common.{ℕ, Some, None, sym, subst, inl, inr, arith, rules}
use Rattle.std.proofs.lemmas.Bool.{cases_eq}
use Rattle.vertex_rounds.proofs.FirstLemmas.{least_one}
use Rattle.bar_check.specs.Loops.{IsBlockedFrom, IsBlockedEdge}
use Rattle.bar_check.proofs.ColumnLemmas.{least_blocked_edge}
use Rattle.drawings.proofs.EdgeCounts.{edges_before-none}
use Rattle.bar_check.proofs.drawing.BarDrawing.first_blocked.Goals as goal

pub loop-a-init : goal.loop-a-init
loop-a-init c = record { none = λ s b l. absurd (omega arith); before = edges_before-none c.args.self.now.map.now.lists; few = omega arith }

pub invariant_of-result : goal.invariant_of-result
invariant_of-result c =
    let map = c.args.self.now.map.now in
    let fig = c.args.self.now.fig.now in
    let a = c.loop-a.a in
    let least = least_blocked_edge map.lists fig a (Some c.in-Some.b) (least_one map c.args.self.now.map.now.known _ (IsBlockedFrom map.lists fig a) a (Some c.in-Some.b) c.in-Some.ensures (λ d live late r s. search rules)) in
    record { rising = least.here.edge.0 }

pub returns-in-Some : goal.returns-in-Some
returns-in-Some c =
    let map = c.args.self.now.map.now in
    let fig = c.args.self.now.fig.now in
    let a = c.loop-a.a in
    record {
      before = c.loop-a.invariant.none;
      rest = least_blocked_edge map.lists fig a (Some c.in-Some.b) (least_one map c.args.self.now.map.now.known _ (IsBlockedFrom map.lists fig a) a (Some c.in-Some.b) c.in-Some.ensures (λ d live late r s. search rules));
    }

pub loop-a-preserved : goal.loop-a-preserved
loop-a-preserved c =
    let map = c.args.self.now.map.now in
    let fig = c.args.self.now.fig.now in
    let a = c.loop-a.a in
    record {
      none = λ s b l. elim (cases_eq s a) [
        | inl same ↦
            subst (λ (z : ℕ). ¬ IsBlockedEdge map.lists fig z b) (sym same) (least_blocked_edge map.lists fig a None (least_one map c.args.self.now.map.now.known _ (IsBlockedFrom map.lists fig a) a None c.in_default.ensures (λ d live late r s. search rules)) b)
        | inr ne ↦ c.loop-a.invariant.none s b (omega (arith, l, ne))
      ];
      before = c.edges_with-before.ensures.count;
      few = c.edges_with-before.ensures.few;
    }

pub returns : goal.returns
returns c = λ a b e. c.loop-a.invariant.none a b (omega (arith, e.edge.1.0, c.loop-a-test.false, c.n-a-end.ensures.count)) e
