-- The heads of a star and their boxes, what a run of heads says of the edges before it, and the first edge that stars cross.
use Rattle.std.proofs.Common.{◌≡◌, ℕ, ◌+◌, ◌<◌, ◌≤◌, Bool, true, false, cond, nat_le, List, [], ◌∷◌, ◌++◌, length, take, get_or, All, Contains, Option, Some, None, refl, sym, ap, ◌∙◌, subst, inl, inr, arith, set, pos, get_or-set_same, get_or-set_other}
use Rattle.std.specs.Bool.{OnTrue, OnFalse}
use Rattle.std.specs.List.{filter}
use Rattle.std.specs.List.Sorted.{IsPermutation}
use Rattle.std.specs.Option.{MatchOption, option_or}
use Rattle.std.proofs.lemmas.Bool.{cases_lt, cases_eq, true≢false, leb-true, le-leb}
use Rattle.std.proofs.lemmas.List.{take_more}
use Rattle.std.proofs.lemmas.List.Sorted.{Contains-permutation, IsPermutation-sym}
use Rattle.std.proofs.lemmas.List.Elements.{filter-append, Contains-get_or}
use Rattle.map_lists.specs.Lists.{Lists}
use Rattle.map_lists.specs.declared.ids.VertexId.{VertexId}
use Rattle.map_lists.specs.declared.items.Ends.{Ends}
use Rattle.map_theory.specs.Maps.{HasDart, IsSimpleMap, list_of}
use Rattle.map_theory.proofs.DartCounts.{length-le-below}
use Rattle.map_theory.proofs.EntryLemmas.{Contains-filter, Contains-from_filter}
use Rattle.pg_plane.specs.declared.grid_points.Point.{Point}
use Rattle.plane_drawings.specs.Drawing.{place}
use Rattle.vertex_rounds.specs.Least.{IsLeast, IsLeastPair}
use Rattle.vertex_rounds.specs.Rounds.{HasEdge, ComesBefore}
use Rattle.vertex_rounds.proofs.LeastLemmas.{place_in}
use Rattle.draw_check.specs.Faults.{EdgesCross}
use Rattle.draw_check.specs.Loops.{Meets, IsCrossed}
use Rattle.pg_plane.specs.Geometry.{DoCross}
use Rattle.draw_check.specs.Spans.{IsIn}
use Rattle.draw_check.specs.Stars.{AreHeads, Reaches, IsAhead, IsCrossedBy, IsBest, IsLowered, run_at}
use Rattle.draw_check.proofs.RunLemmas.{run, by_run}
use Rattle.draw_check.specs.declared.edge_meetings.Probe.TheVariants.{Edge}
use Rattle.draw_check.specs.declared.bounding_boxes.BoundingBox.{BoundingBox}

-- one neighbour more, which is x
pub heads-more : (from : ℕ) (us : List ℕ) (k x : ℕ) (old new : List ℕ) → k < length us → get_or us k 0 ≡ x → old ≡ filter (nat_le from) (take k us) → new ≡ old ++ cond (nat_le from x) (x ∷ []) [] → new ≡ filter (nat_le from) (take (k + 1) us)
heads-more from us k x old new l x_is was now =
    now ∙ ap (λ (xs : List ℕ). xs ++ cond (nat_le from x) (x ∷ []) []) was ∙ ap (λ (u : ℕ). filter (nat_le from) (take k us) ++ cond (nat_le from u) (u ∷ []) []) (sym x_is)
    ∙ sym (filter-append (nat_le from) (take k us) (get_or us k 0 ∷ [])) ∙ ap (filter (nat_le from)) (sym (take_more us k 0 l))

-- the neighbours from a number on are the heads
pub heads_from : (lists : Lists) (v from : ℕ) (heads : List ℕ) → v < length lists → heads ≡ filter (nat_le from) (list_of lists v) → AreHeads lists v from heads
heads_from lists v from heads l e u = (
  (λ among.
      let parts = Contains-from_filter (nat_le from) (list_of lists v) u (subst (λ (us : List ℕ). Contains us u) e among) in
      (leb-true from u parts.1, (l, parts.0))),
  λ edge. subst (λ (us : List ℕ). Contains us u) (sym e) (Contains-filter (nat_le from) (list_of lists v) u edge.1.1 (le-leb from u edge.0)),
)

-- in another order they are the same
pub heads_sorted : (lists : Lists) (v from : ℕ) (old new : List ℕ) → IsPermutation old new → AreHeads lists v from old → AreHeads lists v from new
heads_sorted lists v from old new p h u = (
  (λ among. (h u).0 (Contains-permutation new old u (IsPermutation-sym old new p) among)),
  λ edge. Contains-permutation old new u p ((h u).1 edge),
)

-- the boxes of runs, one written more
pub runs-more : (runs : List BoundingBox) (k : ℕ) (x : BoundingBox) (P : ℕ → BoundingBox → Type 0) → k < length runs → P k x → ((j : ℕ) → j < k → P j (run_at runs j)) → (j : ℕ) → j < k + 1 → P j (run_at (set runs k x) j)
runs-more runs k x P l here before j less = grind (arith, BoundingBox, pos, cases_eq, run_at, set, get_or-set_same, get_or-set_other)

-- heads are vertices
pub heads_below : (lists : Lists) (v from : ℕ) (heads : List ℕ) → IsSimpleMap lists → AreHeads lists v from heads → All (λ u. u < length lists) heads
heads_below lists v from heads simple h = λ k d m. simple.in_range v (get_or heads k d) ((h (get_or heads k d)).0 (Contains-get_or heads k d m)).1

-- and their edges are those of the star
pub heads_edges : (lists : Lists) (v : ℕ) (heads : List ℕ) → AreHeads lists v (v + 1) heads → All (HasEdge lists v) heads
heads_edges lists v heads are k d l =
    let h = (are (get_or heads k d)).0 (Contains-get_or heads k d l) in
    (omega arith, h.1)

-- What a run says of an edge is whether one of the run crosses it.
pub crossed_by : (lists : Lists) (points : List Point) (v : ℕ) (heads : List ℕ) (best : Option Ends) (a b : VertexId) (r : Bool) → HasEdge lists a.0 b.0 → IsAhead best a.0 b.0
    → OnTrue r ((i : ℕ) × (i < length heads) × Meets points (Edge a b) v (get_or heads i 0)) → OnFalse r ((i : ℕ) → i < length heads → ¬ Meets points (Edge a b) v (get_or heads i 0))
    → (r ≡ true → IsCrossedBy lists points v heads best a.0 b.0) × (IsCrossedBy lists points v heads best a.0 b.0 → r ≡ true)
crossed_by lists points v heads best a b true edge ahead (i, m, meets) none = (λ _. record { edge = edge; ahead = ahead; place = i; within = m; meets = meets }, λ _. refl)
crossed_by lists points v heads best a b false edge ahead some none = (λ f. absurd (true≢false (sym f)), λ x. absurd (none x.place x.within x.meets))

-- the least neighbour of a to which the edge is crossed, of a search among all
pub least_crossed : (lists : Lists) (points : List Point) (v : ℕ) (heads : List ℕ) (best : Option Ends) (a : ℕ) (found : Option VertexId) → MatchOption found ((b : ℕ) → HasDart lists a b → ¬ IsCrossedBy lists points v heads best a b) (λ (b : VertexId). IsLeast (λ x. HasDart lists a x × IsCrossedBy lists points v heads best a x) b.0) → MatchOption found ((b : ℕ) → ¬ IsCrossedBy lists points v heads best a b) (λ (b : VertexId). IsLeast (IsCrossedBy lists points v heads best a) b.0)
least_crossed lists points v heads best a None h = λ b x. h b x.edge.1 x
least_crossed lists points v heads best a (Some b) h = record { here = h.here.1; before = λ t less x. h.before t less (x.edge.1, x) }

-- what comes before an edge that comes before the best one does so too
ahead_before : (best : Option Ends) (a b c d : ℕ) → IsAhead best c d → ComesBefore a b c d → IsAhead best a b
ahead_before None a b c d ahead first = tt
ahead_before (Some e) a b c d (inl l) (inl m) = inl (omega arith)
ahead_before (Some e) a b c d (inl l) (inr m) = inl (let same = m.0 in omega arith)
ahead_before (Some e) a b c d (inr l) (inl m) = inl (let same = l.0 in omega arith)
ahead_before (Some e) a b c d (inr l) (inr m) = let same = l.0 in let also = m.0 in let less = l.1 in let more = m.1 in inr (omega arith, omega arith)

module _ (lists : Lists) (points : List Point) where
  -- the first of two edges that cross begins before the second
  begins_before : (a b c d : ℕ) → EdgesCross lists points a b c d → a < c
  begins_before a b c d x = elim x.order [ inl less ↦ less | inr same ↦ absurd (x.apart.0 (sym same.0)) ]

  module _ (v : ℕ) (heads : List ℕ) (best : Option Ends) where
    by_cross : (a b i : ℕ) → IsAhead best a b → i < length heads → EdgesCross lists points a b v (get_or heads i 0) → IsCrossedBy lists points v heads best a b
    by_cross a b i ahead l x = record { edge = x.first; ahead = ahead; place = i; within = l; meets = (x.apart.0, x.apart.1, x.apart.2, x.apart.3, x.cross) }

    -- where no edge that comes before the best one crosses one to some heads
    pub kept : ((a b : ℕ) → a < v → ¬ IsCrossedBy lists points v heads best a b) → IsLowered lists points v heads best best
    kept none = record {
      crossed = λ h. h;
      ahead = λ a b h. h;
      none = λ a b i ahead l x. none a b (begins_before a b v (get_or heads i 0) x) (by_cross a b i ahead l x);
    }

    -- and where one is the first that does
    pub found : (e : Ends) → All (HasEdge lists v) heads → (e.a.0 < v) × IsLeastPair (IsCrossedBy lists points v heads best) e.a.0 e.b.0 → IsLowered lists points v heads best (Some e)
    found e edges least = grind (arith, place, get_or, ahead_before, by_cross, IsCrossedBy)

    -- the edge found, if there is one, and else the best one
    pub found_or_kept : (first : Option Ends) → All (HasEdge lists v) heads
        → MatchOption first ((a b : ℕ) → a < v → ¬ IsCrossedBy lists points v heads best a b) (λ (e : Ends). (e.a.0 < v) × IsLeastPair (IsCrossedBy lists points v heads best) e.a.0 e.b.0) → IsLowered lists points v heads best (option_or first best)
    found_or_kept None edges none = kept none
    found_or_kept (Some e) edges least = found e edges least

  module _ (v : ℕ) (heads : List ℕ) where
    -- a run of a star more
    pub best_more : (old new : Option Ends) (k e : ℕ) → k ≤ e → e ≤ length heads → IsBest lists points v heads k old → IsLowered lists points v (run heads k e) old new → IsBest lists points v heads e new
    best_more old new k e order within h low = record {
      crossed = low.crossed h.crossed;
      none = λ a b c d ahead done x. elim done [
        | inl l ↦ h.none a b c d (low.ahead a b ahead) (inl l) x
        | inr (same, i, l, m, is) ↦ elim (cases_lt i k) [
          | inl before ↦ h.none a b c d (low.ahead a b ahead) (inr (same, i, before, m, is)) x
          | inr late ↦
              by_run heads k e within (λ u. EdgesCross lists points a b v u → ⊥) order (λ j l. low.none a b j ahead l) i late l
              (subst (λ u. EdgesCross lists points a b v u) (sym is) (subst (λ w. EdgesCross lists points a b w d) same x))
        ]
      ];
    }

    -- the whole star
    pub best_ended : (best : Option Ends) (k : ℕ) → AreHeads lists v (v + 1) heads → length heads ≤ k → IsBest lists points v heads k best → IsBest lists points (v + 1) [] 0 best
    best_ended best k are all h = record {
      crossed = h.crossed;
      none = λ a b c d ahead done x. elim done [
        | inl l ↦ elim (cases_lt c v) [
          | inl less ↦ h.none a b c d ahead (inl less) x
          | inr more ↦
              let same : c ≡ v = omega arith in
              let at = place_in heads d ((are d).1 (omega arith, subst (λ w. HasDart lists w d) same x.second.1)) in
              h.none a b c d ahead (inr (same, at.0, omega arith, at.1, at.2)) x
        ]
        | inr (same, i, l, m, is) ↦ absurd (omega arith)
      ];
    }

  -- behind the last star
  pub best_done : (best : Option Ends) → IsBest lists points (length lists) [] 0 best → MatchOption best ((a b : ℕ) → ¬ IsCrossed lists points a b) (λ e. IsLeastPair (IsCrossed lists points) e.a.0 e.b.0)
  best_done None h = λ a b x. h.none a b x.first x.second tt (inl x.cross.second.1.0) x.cross
  best_done (Some e) h = record {
    before = λ z w less x. h.none z w x.first x.second (inl less) (inl x.cross.second.1.0) x.cross;
    rest = record {
      here = h.crossed;
      before = λ w less x. h.none e.a.0 w x.first x.second (inr (refl, less)) (inl x.cross.second.1.0) x.cross;
    };
  }

-- a box of the heads and of the vertex has what its edges reach
pub reaches_from : (lists : Lists) (points : List Point) (v : ℕ) (heads : List ℕ) (span wide : BoundingBox) → AreHeads lists v (v + 1) heads → ((i : ℕ) → i < length heads → IsIn span (place points (get_or heads i 0))) → IsIn wide (place points v) → ((u : Point) → IsIn span u → IsIn wide u) → Reaches lists points wide v
reaches_from lists points v heads span wide are held vertex more = record {
  vertex = vertex;
  heads = λ u edge.
      let at = place_in heads u ((are u).1 (omega arith, edge.1)) in
      subst (λ w. IsIn wide (place points w)) at.2 (more (place points (get_or heads at.0 0)) (held at.0 at.1));
}

-- in a wider box
pub reaches_more : (lists : Lists) (points : List Point) (span wide : BoundingBox) (v : ℕ) → ((u : Point) → IsIn span u → IsIn wide u) → Reaches lists points span v → Reaches lists points wide v
reaches_more lists points span wide v more h = record { vertex = more (place points v) h.vertex; heads = λ u edge. more (place points u) (h.heads u edge) }

-- a fan that nothing in a block crosses crosses no edge of it
pub block_uncrossed : (lists : Lists) (points : List Point) (v : ℕ) (heads : List ℕ) (best : Option Ends) (block : BoundingBox) → ((p q : Point) → IsIn block p → IsIn block q → (i : ℕ) → i < length heads → ¬ DoCross p q (place points v) (place points (get_or heads i 0))) → (a b : ℕ) → Reaches lists points block a → ¬ IsCrossedBy lists points v heads best a b
block_uncrossed lists points v heads best block misses a b reach x =
    misses (place points a) (place points b) reach.vertex (reach.heads b x.edge) x.place x.within x.meets.4

-- a vertex has less neighbours than there are vertices
pub few_neighbours : (lists : Lists) (v : ℕ) → IsSimpleMap lists → length lists < 4096 → v < length lists → length (list_of lists v) ≤ 4095
few_neighbours lists v simple few l =
    omega (arith, length-le-below (list_of lists v) (length lists) (λ u has. simple.in_range v u (l, has)) (simple.no_repeat v l))
