use Rattle.std.proofs.Common.{ℕ, ◌<◌, length, None, get_or, sym, subst, ◌∙◌, arith, rules}
use Rattle.map_theory.specs.Maps.{HasDart}
use Rattle.map_theory.proofs.EntryLemmas.{Contains-from_list_any}
use Rattle.vertex_rounds.proofs.FirstLemmas.{least_one}
use Rattle.vertex_rounds.proofs.LeastLemmas.{place_in}
use Rattle.draw_check.specs.Loops.{Touches}
use Rattle.draw_check.specs.declared.edge_meetings.Probe.TheVariants.{Edge}
use Rattle.draw_check.proofs.RunLemmas.{each_more}
use Rattle.draw_check.proofs.LooseLemmas.{uncrossed_but_loose}
use Rattle.draw_check.proofs.drawing.PointDrawing.may_be_crossed.Goals as goal

pub least_head-requires-clause-test : goal.least_head-requires-clause-test
least_head-requires-clause-test c =
    let edge = c.requires.edge in
    let n = length c.args.self.now.map.now.lists in
    let probe : (c.args.a.0 < n) × (c.args.b.0 < n) = (edge.1.0, c.args.self.now.map.now.known.simple.in_range c.args.a.0 c.args.b.0 edge.1) in
    search rules

pub loop-i-preserved : goal.loop-i-preserved
loop-i-preserved c =
    let lists = c.args.self.now.map.now.lists in
    let points = c.args.self.now.points.now in
    let probe = Edge c.args.a c.args.b in
    let loose = c.args.loose.now in
    each_more (λ k. (u : ℕ) → HasDart lists (get_or loose k 0) u → ¬ Touches points probe (get_or loose k 0) u) c.loop-i.i c.loop-i.invariant
    (λ u has touches. least_one c.args.self.now.map.now c.args.self.now.map.now.known _ (Touches points probe) (get_or loose c.loop-i.i 0) None c.in_default.ensures (λ d live late r s. search rules) u has touches)

pub loop-i-preserved-then-v-n : goal.loop-i-preserved-then-v-n
loop-i-preserved-then-v-n c =
    let lists = c.args.self.now.map.now.lists in
    let points = c.args.self.now.points.now in
    let loose = c.args.loose.now in
    each_more (λ k. (u : ℕ) → HasDart lists (get_or loose k 0) u → ¬ Touches points (Edge c.args.a c.args.b) (get_or loose k 0) u) c.loop-i.i c.loop-i.invariant
    (λ u has touches. absurd (let within = has.0 in omega (arith, c.n.ensures.count)))

pub returns : goal.returns
returns c = λ e s t x.
    let lists = c.args.self.now.map.now.lists in
    let points = c.args.self.now.points.now in
    let loose = c.args.loose.now in
    uncrossed_but_loose lists points loose c.args.self.now.map.now.known.simple c.requires.plane c.args.a c.args.b s t
    (sym c.is_among.ensures ∙ c.if-is_among.false) (sym c.is_among-2.ensures ∙ c.if-is_among-2.false)
    (λ v u among has.
    let at = place_in loose v (Contains-from_list_any v loose among) in
    subst (λ (w : ℕ). HasDart lists w u → ¬ Touches points (Edge c.args.a c.args.b) w u) at.2 (c.loop-i.invariant at.0 (omega (arith, at.1)) u) has) x
