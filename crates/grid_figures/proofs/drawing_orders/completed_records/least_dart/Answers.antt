use Rattle.std.proofs.Common.{ℕ, get_or, ap, ◌∙◌, arith}
use Rattle.std.specs.Prelude.{option_map}
use borrow.Author.Count.{below_more}
use Rattle.map_theory.specs.Maps.{HasDart, list_of, twin_dart}
use Rattle.map_theory.proofs.DartLemmas.{HasDart-at}
use Rattle.grid_figures.proofs.CompletionLemmas.{neighbour_in_completed}
use Rattle.grid_figures.proofs.drawing_orders.completed_records.least_dart.Goals as goal

pub loop-u-init : goal.loop-u-init
loop-u-init c = λ u l d. c.requires.triangulation.simple.no_loop 0 u d (omega arith)

pub returns-in-Some : goal.returns-in-Some
returns-in-Some c = record {
  to = c.loop-u.u;
  dart = c.twin.ensures ∙ ap (option_map twin_dart) c.in-Some.ensures;
  least = c.loop-u.invariant;
}

pub loop-u-preserved : goal.loop-u-preserved
loop-u-preserved c =
    let lists = c.args.tri.now.lists in
    below_more (λ (u : ℕ). HasDart lists 0 u → ⊥) c.loop-u.u c.loop-u.invariant (λ d. c.in_default.ensures (c.requires.triangulation.simple.both_ways 0 c.loop-u.u d))

pub unreachable-requires : goal.unreachable-requires
unreachable-requires c =
    let lists = c.args.tri.now.lists in
    let simple = c.requires.triangulation.simple in
    let some = c.requires.triangulation.some in
    let d = HasDart-at lists 0 0 0 (omega arith) (neighbour_in_completed lists c.requires.triangulation) in
    let l = simple.in_range 0 (get_or (list_of lists 0) 0 0) d in
    c.loop-u.invariant (get_or (list_of lists 0) 0 0) (omega arith) d
