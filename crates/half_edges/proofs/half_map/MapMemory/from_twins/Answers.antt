use Rattle.std.proofs.Common.{◌≡◌, ◌/◌, length, refl, ap, ◌∙◌, arith}
use Rattle.half_edges.proofs.ArenaLemmas.{known_here, known}
use Rattle.half_edges.proofs.TableArena.{invariant_from_tables, lists_from_tables}
use Rattle.half_edges.proofs.MapLemmas.{few_ends, half_of_ends}
use Rattle.half_edges.proofs.half_map.MapMemory.from_twins.Goals as goal

pub overflow_cast-edges : goal.overflow_cast-edges
overflow_cast-edges c =
    let linked = c.in_ok-link_darts.ensures in
    omega (arith, c.len.ensures, linked.records_are.count, few_ends _ _ _ _ linked.tables)

pub invariant_of-result : goal.invariant_of-result
invariant_of-result c =
    let linked = c.in_ok-link_darts.ensures in
    rw (c.replace-darts.ensures.value, c.replace-vertices.ensures.value)
    (known_here _ _ _ _ _ (invariant_from_tables _ _ _ _ linked.tables _ _ linked.records_are linked.vertices_are _ (half_of_ends _ _ _ _ linked.tables)), tt)

pub invariant_of-result-2 : goal.invariant_of-result-2
invariant_of-result-2 c =
    let linked = c.in_ok-link_darts.ensures in
    let count : c.len.result ≡ length linked.ends = omega (arith, c.len.ensures, linked.records_are.count) in
    rw (c.replace-darts.ensures.value, c.replace-vertices.ensures.value)
    (invariant_from_tables _ _ _ _ linked.tables _ _ linked.records_are linked.vertices_are _ (ap (λ n. n / 2) count ∙ half_of_ends _ _ _ _ linked.tables))

pub returns-clause-lists : goal.returns-clause-lists
returns-clause-lists c =
    let linked = c.in_ok-link_darts.ensures in
    rw (c.replace-darts.ensures.value, c.replace-vertices.ensures.value)
    (lists_from_tables _ _ _ _ linked.tables _ _ linked.records_are linked.vertices_are _ (half_of_ends _ _ _ _ linked.tables))

pub returns-clause-known : goal.returns-clause-known
returns-clause-known c =
    let linked = c.in_ok-link_darts.ensures in
    rw (c.replace-darts.ensures.value, c.replace-vertices.ensures.value)
    (known_here _ _ _ _ _ (invariant_from_tables _ _ _ _ linked.tables _ _ linked.records_are linked.vertices_are _ (half_of_ends _ _ _ _ linked.tables)))
