-- The wood of a run.
use Rattle.std.proofs.Common.{◌⊎◌, ℕ, ◌+◌, ◌<◌, ◌≤◌, length, sym, ◌∙◌, subst, inl, inr}
use Rattle.map_lists.specs.Lists.{Lists}
use Rattle.map_theory.specs.Maps.{HasDart}
use Rattle.contour_runs.specs.FaceRuns.{Step, faces_made}
use Rattle.convex_counts.specs.Counts.{face_counts}
use Rattle.convex_counts.specs.Turns.{well_turned}
use Rattle.convex_counts.proofs.Steps.{IsFalling-run}
use Rattle.convex_counts.proofs.Turns.{contours_as_before}
use Rattle.convex_counts.proofs.Whole.{touched_turns}
use Rattle.convex_counts.specs.declared.face_woods.axis.Axis.{Axis}
use Rattle.convex_counts.specs.Axes.{IsEntry, out, into}
use Rattle.convex_counts.specs.Rising.{IsRising}
use Rattle.convex_counts.proofs.Signs.{IsRising-one, IsRising-other}
use Rattle.convex_laws.specs.ConvexWoods.{AreRoots, IsOut, IsOrdered, IsConvexWood}
use Rattle.convex_laws.specs.ConvexWoodsLaws.{IsNamedRun, AreRisingOut, SomeOut, WoodOfRun}
use Rattle.convex_laws.proofs.ConvexWoodsTurned.{map_as_before}
use Rattle.convex_laws.proofs.Outs.{IsWoodRun, some_out_at, out_rises}
use Rattle.convex_laws.proofs.Orders.{ordered_at}
use Rattle.convex_laws.proofs.Heights.{height, height-rising, height-most, never_along, never_against}

pub IsWoodRun-named : (lists : Lists) (s d : ℕ) (steps : ℕ → Step) (n : ℕ) (rank : ℕ → ℕ) (face : ℕ → ℕ → ℕ) (at : ℕ → ℕ) → IsNamedRun lists s d steps n rank face at → IsWoodRun lists s d (well_turned steps) n rank face at
IsWoodRun-named lists s d steps n rank face at h =
    let c = (contours_as_before steps n).1 in
    record {
      whole = touched_turns steps n h.run.touched;
      some = h.run.touched.some;
      map = map_as_before lists (s, d) steps n rank face h.run.map;
      last = λ e has same. h.run.last e has same ∙ sym c;
      all = c ∙ h.ranked.all;
      below = h.ranked.below;
      one = h.ranked.one;
      named = h.named;
    }

pub some_out : SomeOut
some_out lists s d steps n rank face at root c v h roots l ne = some_out_at lists s d (well_turned steps) n rank face at (IsWoodRun-named lists s d steps n rank face at h) root roots c v l ne

module _ (lists : Lists) (s d : ℕ) (steps : ℕ → Step) (n : ℕ) (rank : ℕ → ℕ) (face : ℕ → ℕ → ℕ) (at : ℕ → ℕ) (h : IsWoodRun lists s d steps n rank face at) (root : Axis → ℕ) (roots : AreRoots lists (s, d) root) (out_of : Axis → ℕ → ℕ) (are : AreRisingOut lists (face_counts steps n) rank root out_of) where
  abbrev Leads : Axis → ℕ → ℕ → Type 0
  Leads = IsOut lists root out_of

  rises : (c : Axis) (v u : ℕ) → Leads c v u → HasDart lists v u × IsRising (face_counts steps n) c (rank v) (rank u)
  rises c v u o = out_rises lists s d steps n rank face at h root roots out_of are c v u o

  sums : (v : ℕ) → v < length lists → (face_counts steps n).one (rank v) + (face_counts steps n).two (rank v) ≤ faces_made steps n
  sums v l = (IsFalling-run steps n h.whole.turned.run).sums (rank v) (h.map.placed v l)

  abbrev up : Axis → ℕ → ℕ
  up c v = height (face_counts steps n) (faces_made steps n) c (rank v)

  pub out_higher : (c : Axis) (v u : ℕ) → Leads c v u → up c v < up c u
  out_higher c v u o = let r = rises c v u o in height-rising (face_counts steps n) (faces_made steps n) c (rank v) (rank u) (sums v o.vertex) r.1

  pub most : (c : Axis) (v : ℕ) → v < length lists → up c v ≤ faces_made steps n
  most c v l = height-most (face_counts steps n) (faces_made steps n) c (rank v) (sums v l)

  directed : (v u : ℕ) → HasDart lists v u → (a b : Axis) → IsEntry Leads v u a b → ((c : Axis) × Leads c v u) ⊎ ((c : Axis) × Leads c u v)
  directed v u has a b (out c l ea eb) = inl (c, l)
  directed v u has a b (into c l none ea eb) = inr (c, l)

  order : (v u : ℕ) → HasDart lists v u → IsOrdered lists (s, d) root out_of v u
  order v u has = ordered_at lists s d steps n rank face at h root roots out_of are v u has

  pub wood_at : IsConvexWood lists (s, d) root out_of
  wood_at = record {
    roots = roots;
    edges = λ c v u o. (rises c v u o).0;
    one_axis = λ c c' v u o p. IsRising-one (face_counts steps n) c c' (rank v) (rank u) (rises c v u o).1 (rises c' v u p).1;
    other_axis = λ c c' v u o p e. IsRising-other (face_counts steps n) c (rank v) (rank u) (rises c v u o).1 (subst (λ c. IsRising (face_counts steps n) c (rank u) (rank v)) (sym e) (rises c' u v p).1);
    directed = λ v u has. let z = order v u has in directed v u has z.ahead z.behind z.entry;
    order = order;
    along = λ c x y has inner all. never_along lists h.map.simple (up c) (faces_made steps n) (λ v u has. most c v has.0) x y has (λ x' y' has' same. out_higher c x' y' (all x' y' has' same));
    against = λ c x y has inner all. never_against lists h.map.simple (up c) (faces_made steps n) (λ v u has. most c v has.0) x y has (λ x' y' has' same. out_higher c y' x' (all x' y' has' same));
  }

pub wood_of_run : WoodOfRun
wood_of_run lists s d steps n rank face at root out_of h roots are = wood_at lists s d (well_turned steps) n rank face at (IsWoodRun-named lists s d steps n rank face at h) root roots out_of are
