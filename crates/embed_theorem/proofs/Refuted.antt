-- A witness is a subdivision in the map of the edges on its paths; the counts of that map refute it.
use Rattle.std.proofs.Common.{◌≡◌, ◌⊎◌, ◌&&◌, ◌||◌, ◌==◌, ℕ, suc, ◌-◌, ◌<◌, Bool, true, List, length, refl, sym, ap, ◌∙◌, inl, inr, arith, eqb-true, eq-eqb}
use Rattle.std.proofs.lemmas.Bool.{cases_order, or_cases, or_left, and_from, and_parts}
use Rattle.std.proofs.Math.Bool.{or_comm}
use Rattle.map_lists.specs.Lists.{Lists}
use Rattle.map_lists.specs.declared.ids.VertexId.{VertexId}
use Rattle.map_theory.specs.Maps.{IsSimpleMap, IsPlane}
use Rattle.plane_laws.specs.Kept.{with_kept, IsKeptMap}
use Rattle.plane_laws.proofs.KeptEdges.{kept_edges}
use Rattle.graphs.specs.Graphs.{EdgeGraph}
use Rattle.kuratowski.specs.Witnesses.{branch_count, pairs_of, vertex_at, path_at, IsInnerPlace, IsWitness}
use Rattle.kuratowski.specs.declared.witness.Kind.{Kind}
use Rattle.kuratowski.specs.declared.witness.Kind.TheVariants.{K5, K33}
use Rattle.embed_theorem.specs.Refuted.{HasEdges, WitnessesRefute}
use Rattle.embed_theorem.proofs.Tally.{some_below, some_below-gives, some_below-from, some_below-same}
use Rattle.embed_theorem.proofs.Subdivisions.{IsSubdivision}
use Rattle.embed_theorem.proofs.Counts.{AreCounts, counts}
use Rattle.embed_theorem.proofs.Patterns.{first_of, second_of, degree_of, girth_of, pattern_of, girth_is}

module _ (graph : EdgeGraph) (kind : Kind) (branch : List VertexId) (paths : List (List VertexId)) (w : IsWitness graph kind branch paths) (lists : Lists) (simple : IsSimpleMap lists) (has : HasEdges lists graph) where
  abbrev at : ℕ → ℕ → ℕ
  at p i = vertex_at (path_at paths p) i

  abbrev size : ℕ → ℕ
  size p = length (path_at paths p) - 1

  abbrev count : ℕ
  count = length (pairs_of kind)

  -- whether step i of path p joins u and v
  abbrev step : ℕ → ℕ → ℕ → ℕ → Bool
  step p i u v = ((at p i == u) && (at p (suc i) == v)) || ((at p i == v) && (at p (suc i) == u))

  -- whether a step of a path does
  keep : ℕ → ℕ → Bool
  keep u v = some_below (λ p. some_below (λ i. step p i u v) (size p)) count

  turned : (u v : ℕ) → keep u v ≡ keep v u
  unfolding keep
  turned u v = some_below-same (λ p. some_below (λ i. step p i u v) (size p)) (λ p. some_below (λ i. step p i v u) (size p)) count (λ p l.
      some_below-same (λ i. step p i u v) (λ i. step p i v u) (size p) (λ i m. or_comm ((at p i == u) && (at p (suc i) == v)) ((at p i == v) && (at p (suc i) == u))))

  kept : IsKeptMap lists (with_kept keep lists) keep
  kept = kept_edges lists keep turned simple

  keep_step : (p i : ℕ) → p < count → i < size p → keep (at p i) (at p (suc i)) ≡ true
  unfolding keep
  keep_step p i l m =
      some_below-from (λ q. some_below (λ j. step q j (at p i) (at p (suc i))) (size q)) count p l (some_below-from (λ j. step p j (at p i) (at p (suc i))) (size p) i m
      (or_left ((at p i == at p i) && (at p (suc i) == at p (suc i))) ((at p i == at p (suc i)) && (at p (suc i) == at p i)) (and_from (at p i == at p i) (at p (suc i) == at p (suc i)) (eq-eqb (at p i) (at p i) refl) (eq-eqb (at p (suc i)) (at p (suc i)) refl))))

  kept_is : (x y : ℕ) → keep x y ≡ true → (p : ℕ) × (i : ℕ) × (p < count) × (i < size p) × (((x ≡ at p i) × (y ≡ at p (suc i))) ⊎ ((y ≡ at p i) × (x ≡ at p (suc i))))
  unfolding keep
  kept_is x y e = grind (arith, some_below-gives, some_below, step, size, count, or_cases, at, and_parts, eqb-true)

  in_paths : (p : ℕ) → p < count → p < length paths
  in_paths p l = let c = w.shape.count in omega arith

  in_branch : (a : ℕ) → a < branch_count kind → a < length branch
  in_branch a l = let c = w.shape.branches in omega arith

  inner : (p i : ℕ) → 0 < i → i < size p → IsInnerPlace (path_at paths p) i
  inner p i l m = (l, omega arith)

  subdivision : IsSubdivision (branch_count kind) count (first_of kind) (second_of kind) (vertex_at branch) size at (with_kept keep lists)
  subdivision = record {
    long = λ p l. let j = (w.shape.joined p (in_paths p l)).long in omega arith;
    starts = λ p l. (w.shape.joined p (in_paths p l)).start;
    stops = λ p l. (w.shape.joined p (in_paths p l)).end;
    distinct = λ a b l m e. elim (cases_order a b) [
      | inl q ↦ q
      | inr (inl o) ↦ absurd (w.distinct a b o (in_branch b m) e)
      | inr (inr o) ↦ absurd (w.distinct b a o (in_branch a l) (sym e))
    ];
    no_branch = λ p i a l o m k. w.no_branch p i a (in_paths p l) (inner p i o m) (in_branch a k);
    once = λ p q i j l m a b c d e. elim (cases_order p q) [
      | inl same ↦
          let far : j < length (path_at paths p) = let s = ap (λ x. length (path_at paths x)) same in omega arith in
          (same, w.once p i j (in_paths p l) (inner p i a b) far (e ∙ ap (λ x. at x j) (sym same)))
      | inr (inl o) ↦ absurd (w.apart p q i j o (in_paths q m) (inner p i a b) (inner q j c d) e)
      | inr (inr o) ↦ absurd (w.apart q p j i o (in_paths p l) (inner q j c d) (inner p i a b) (sym e))
    ];
    steps = λ p i l m. (kept.darts (at p i) (at p (suc i))).1 (has (at p i) (at p (suc i)) (w.edges p i (in_paths p l) (omega arith)), keep_step p i l m);
    only = λ x y d. kept_is x y ((kept.darts x y).0 d).1;
  }

  some_branch : 0 < branch_count kind
  some_branch = grind (arith, Kind, branch_count, K5, K33)

  all_counts : IsPlane lists → AreCounts (branch_count kind) (degree_of kind) (girth_of kind)
  all_counts plane = counts (branch_count kind) count (degree_of kind) (girth_of kind) (first_of kind) (second_of kind) (vertex_at branch) size at (with_kept keep lists) kept.simple (pattern_of kind) subdivision some_branch (girth_is kind) (kept.plane plane)

-- the counts of neither are possible
no_counts : (kind : Kind) → AreCounts (branch_count kind) (degree_of kind) (girth_of kind) → ⊥
no_counts x0 c = grind (arith, K5, K33)

-- THE LAW: witnesses refute
pub witnesses_refute : WitnessesRefute
witnesses_refute graph kind branch paths w lists simple plane has = no_counts kind (all_counts graph kind branch paths w lists simple has plane)
