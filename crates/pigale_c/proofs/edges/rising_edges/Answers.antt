-- An edge that stands twice in order stands twice in the array.
use Rattle.std.proofs.Common.{◌≤◌, List, subst, arith}
use Rattle.pigale_c.specs.EdgeLists.{times_joined}
use Rattle.pigale_c.specs.declared.edges.EdgeEnds.{EdgeEnds}
use Rattle.pigale_c.proofs.edges.rising_edges.Goals as goal

pub unreachable-requires : goal.unreachable-requires
unreachable-requires c =
    let twin = c.repeated_in-twin.result in
    let edge = c.repeated_in-twin.ensures.edge in
    let twice = subst (λ (list : List EdgeEnds). 2 ≤ times_joined twin.a twin.b list) c.deref-2.ensures.value c.repeated_in-twin.ensures.twice in
    omega (arith, twice, c.in_ok-sorted.ensures.times twin.a twin.b edge.0 edge.1, c.in-None.ensures)
