-- The third vertex stands behind the two before it.
use Rattle.std.proofs.Common.{◌++◌, ◌∷◌, ◌+◌, List, ℕ, decimal, ap, ◌∙◌, append_assoc}
use Rattle.std.proofs.lemmas.Result.{on_ok_weaker}
use Rattle.pigale_shell.proofs.output_lines.push_refusal.Goals as goal

pub returns-in_ok-push_vertices-in-SeparatingTriangle : goal.returns-in_ok-push_vertices-in-SeparatingTriangle
returns-in_ok-push_vertices-in-SeparatingTriangle c =
    let third : List ℕ = 32 ∷ decimal (c.in-SeparatingTriangle.c.0 + 1) in
    rw c.in-SeparatingTriangle.is (on_ok_weaker c.push_number.result (λ is. is ∙ ap (λ (x : List ℕ). x ++ third) c.in_ok-push_vertices-in-SeparatingTriangle.ensures ∙ append_assoc c.args.out.now.items _ third) (rw c.from-in-SeparatingTriangle.ensures at c.push_number.ensures))
