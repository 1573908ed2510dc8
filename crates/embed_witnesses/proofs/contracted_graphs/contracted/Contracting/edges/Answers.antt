use Rattle.std.proofs.Common.{◌≡◌, ◌++◌, ◌+◌, ◌-◌, ℕ, map, refl, sym, ap, ◌∙◌, arith}
use Rattle.std.proofs.lemmas.List.{append-nil}
use Rattle.std.specs.List.{flat_map, range_with_len}
use Rattle.graphs.specs.Graphs.{edge_of}
use Rattle.graphs.specs.Bits.{pairs, pairs_of}
use Rattle.embed_witnesses.specs.ContractedEdges.{contracted_among}
use Rattle.embed_witnesses.proofs.ContractedLemmas.{row-more, rows-more}
use Rattle.embed_witnesses.proofs.contracted_graphs.contracted.Contracting.edges.Goals as goal

pub loop-v-init : goal.loop-v-init
loop-v-init c =
    let none : c.loop-u.u + 1 - (c.loop-u.u + 1) ≡ 0 = omega arith in
    rw none (c.loop-u.invariant ∙ sym (append-nil _))

pub loop-v-preserved : goal.loop-v-preserved
loop-v-preserved c =
    row-more c.args.self.now.graph.now c.args.self.now.e.a.0 c.args.self.now.e.b.0 c.loop-u.u c.loop-v.v _ (map edge_of c.loop-v.edges.items) (map edge_of c.push_joined.new.edges.items) (omega arith) c.loop-v.invariant c.in_ok-push_joined.ensures

pub loop-u-preserved : goal.loop-u-preserved
loop-u-preserved c =
    let graph = c.args.self.now.graph.now in
    let a = c.args.self.now.e.a.0 in
    let b = c.args.self.now.e.b.0 in
    let n = c.args.n in
    let u = c.loop-u.u in
    let front = contracted_among graph a b (flat_map (pairs_of n) (range_with_len 0 u)) in
    let end : c.loop-v.v ≡ n = omega (arith, c.loop-v.auto.v-end (omega arith), c.loop-v-test.false) in
    rows-more graph a b n u front (map edge_of c.loop-v.edges.items) refl
    (c.loop-v.invariant ∙ ap (λ (k : ℕ). front ++ contracted_among graph a b (map (λ (b : ℕ). (u, b)) (range_with_len (u + 1) (k - (u + 1))))) end)

pub returns : goal.returns
unfolding pairs
returns c =
    let end : c.loop-u.u ≡ c.args.n = omega (arith, c.loop-u.auto.u-end, c.loop-u-test.false) in
    c.loop-u.invariant ∙ ap (λ (k : ℕ). contracted_among c.args.self.now.graph.now c.args.self.now.e.a.0 c.args.self.now.e.b.0 (flat_map (pairs_of c.args.n) (range_with_len 0 k))) end
