use Rattle.std.proofs.Common.{◌≡◌, ◌==◌, ◌++◌, ◌∷◌, [], not, take}
use Rattle.std.specs.List.{filter}
use Rattle.graph_search.proofs.list_cuts.lists_without_vertex.push_without.Given as goal

abbrev pub invariant-loop-w : goal.invariant-loop-w
invariant-loop-w l = l.rest ≡ l.fn.rest ++ filter (λ x. not (x == l.u)) (take l.w-index l.list) ∷ []
