-- Paths to the roots.
use Rattle.std.proofs.Common.{◌≡◌, ◌≢◌, ◌+◌, ◌≤◌, ℕ, zero, suc, sym, ap, ◌∙◌, subst, inl, inr, arith}
use Rattle.wood_runs.specs.Parents.{Colour}
use Rattle.schnyder_wood.specs.Parents.{Parents, root_in, parent_in, IsInnerIn, IsRooted, LeadsIn, IsPathLength}

-- one step more at the end
pub LeadsIn-more : (wood : Parents) (c : Colour) (d v w : ℕ) → LeadsIn wood c d v w → IsInnerIn wood w → LeadsIn wood c (suc d) v (parent_in wood c w)
LeadsIn-more wood c zero v w e inner = (subst (IsInnerIn wood) (sym e) inner, ap (parent_in wood c) e)
LeadsIn-more wood c (suc d) v w l inner = (l.0, LeadsIn-more wood c d (parent_in wood c v) w l.1 inner)

-- so many steps from v an inner vertex is reached, and each of them has lost height
pub record Climbs (wood : Parents) (c : Colour) (v d w : ℕ) : Type 0 where
  pub inner : IsInnerIn wood w
  pub leads : LeadsIn wood c d v w
  pub lower : (h : IsRooted wood) → h.height c w + d ≤ h.height c v

module _ (wood : Parents) (c : Colour) (v d w u : ℕ) (h : IsRooted wood) (climbs : Climbs wood c v d w) (up : u ≡ parent_in wood c w) where
  -- the root is not reached yet
  pub Climbs-more : u ≢ root_in wood c → Climbs wood c v (suc d) u
  Climbs-more ne = record {
    inner = elim (h.goes_on c w climbs.inner) [
      | inl i ↦ subst (IsInnerIn wood) (sym up) i
      | inr e ↦ absurd (ne (up ∙ e))
    ];
    leads = subst (λ u. LeadsIn wood c (suc d) v u) (sym up) (LeadsIn-more wood c d v w climbs.leads climbs.inner);
    lower = λ h.
        let fall = h.falls c w climbs.inner in
        let low = climbs.lower h in
        let e = ap (h.height c) up in
        omega arith;
  }

  -- it is
  pub IsPathLength-root : (k : ℕ) → u ≡ root_in wood c → k ≡ suc (suc d) → IsPathLength wood c v k
  IsPathLength-root k e ends = record {
    steps = suc d;
    leads = subst (λ u. LeadsIn wood c (suc d) v u) (sym up ∙ e) (LeadsIn-more wood c d v w climbs.leads climbs.inner);
    both_ends = ends;
  }
