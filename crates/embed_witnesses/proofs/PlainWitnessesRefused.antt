-- Answers that wrong bodies would give: the clauses refuse them.
use Rattle.std.proofs.Common.{◌≡◌, ◌&&◌, ℕ, zero, suc, ◌<◌, [], ◌∷◌, Bool, true, refl, ap, ◌∙◌, inl, inr, arith}
use Rattle.std.proofs.lemmas.Bool.{cases_lt, and_parts}
use Rattle.graphs.specs.Graphs.{EdgeGraph, has_edge}
use Rattle.kuratowski.specs.Witnesses.{pair_at}
use Rattle.kuratowski.specs.declared.witness.Kind.TheVariants.{K5, K33}
use Rattle.embed_witnesses.specs.Kept.{IsPlain, HasPlain}
use Rattle.embed_witnesses.specs.Plain.{NoneBegins}

-- whether a test passes at each number below n
abbrev all_below : (ℕ → Bool) → ℕ → Bool
all_below test zero = true
all_below test (suc n) = test n && all_below test n

each_below : (test : ℕ → Bool) (n : ℕ) → all_below test n ≡ true → (p : ℕ) → p < n → test p ≡ true
each_below test zero t p l = absurd (omega arith)
each_below test (suc n) t p l =
    let parts = and_parts (test n) (all_below test n) t in
    elim (cases_lt p n) [
      | inl m ↦ each_below test n parts.1 p m
      | inr m ↦ (let e : p ≡ n = omega arith in ap test e ∙ parts.0)
    ]

-- the complete graph of five vertices
abbrev five : EdgeGraph
five = record { n = 5; edges = (0, 1) ∷ (0, 2) ∷ (0, 3) ∷ (0, 4) ∷ (1, 2) ∷ (1, 3) ∷ (1, 4) ∷ (2, 3) ∷ (2, 4) ∷ (3, 4) ∷ [] }

plain_five : IsPlain five K5 (λ j. j)
plain_five = record {
  vertices = λ j l. l;
  distinct = λ i j l k e. e;
  joined = each_below (λ p. has_edge five (pair_at K5 p).0 (pair_at K5 p).1) 10 refl;
}

-- the first vertex is passed over, and none of the five begins
first_vertex_passed_over : ¬ NoneBegins five K5 []
first_vertex_passed_over none = none (λ j. j) plain_five (λ i l. absurd (omega arith))

-- the graph of three and three vertices
abbrev three : EdgeGraph
three = record { n = 6; edges = (0, 3) ∷ (0, 4) ∷ (0, 5) ∷ (1, 3) ∷ (1, 4) ∷ (1, 5) ∷ (2, 3) ∷ (2, 4) ∷ (2, 5) ∷ [] }

plain_three : IsPlain three K33 (λ j. j)
plain_three = record {
  vertices = λ j l. l;
  distinct = λ i j l k e. e;
  joined = each_below (λ p. has_edge three (pair_at K33 p).0 (pair_at K33 p).1) 9 refl;
}

-- K5 alone is looked for
only_k5 : ¬ ¬ HasPlain three
only_k5 none = none (K33, (λ j. j), plain_three)
