use Rattle.std.proofs.Common.{◌≡◌, refl, inl, inr, arith, rules}
use Rattle.std.proofs.lemmas.Bool.{cases_lt}
use Rattle.kuratowski.specs.Witnesses.{vertex_at}
use Rattle.kuratowski.specs.Faults.{StandsTwice}
use Rattle.kuratowski.proofs.inner_vertices.is_wrong.Goals as goal

pub returns-then-path-j : goal.returns-then-path-j
returns-then-path-j c =
    let same : vertex_at c.args.path.now c.loop-j.j ≡ vertex_at c.args.path.now c.args.i = search rules in
    let two : StandsTwice c.args.path.now (vertex_at c.args.path.now c.args.i) =
    elim (cases_lt c.loop-j.j c.args.i) [
      | inl less ↦ (c.loop-j.j, c.args.i, less, c.requires, same, refl)
      | inr more ↦ (c.args.i, c.loop-j.j, omega (arith, c.if-j-i.true), omega arith, refl, same)
    ] in
    (λ t. inr two, λ s. refl)
