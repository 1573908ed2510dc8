-- No bytes are the bits of no vertices.
use Rattle.std.proofs.Common.{◌≡◌, ℕ, [], List, refl, subst, sym, arith}
use Rattle.std.proofs.lemmas.List.Elements.{All-nil}
use Rattle.graphs.specs.Bits.{IsBody, IsLineByte, pair_count, body_length, pairs, edges_of}
use Rattle.graphs.proofs.EdgeLemmas.{is_set-past}
use Rattle.graphs.proofs.graph.Graph.new.Goals as goal

none-body : IsBody 0 []
unfolding body_length pair_count
none-body = record { long = refl; bytes = All-nil IsLineByte; padding = λ place h. is_set-past [] place (omega arith) }

none-edges : edges_of 0 [] ≡ []
unfolding edges_of pairs
none-edges = refl

pub invariant_of-result : goal.invariant_of-result
invariant_of-result c = (omega arith, subst (λ (x : List ℕ). IsBody 0 x) (sym c.new.ensures.items) none-body)

pub returns : goal.returns
returns c = rw c.new.ensures.items (rw none-edges refl)
