-- Ends of lists, one more at a time.
use Rattle.std.proofs.Common.{ℕ, ◌≤◌, List, [], ◌∷◌, ◌++◌, refl, arith}
use Rattle.map_lists.specs.Cuts.{AreCuts}

-- one list more, up to where it ends
pub AreCuts-more : (from : ℕ) (ends : List ℕ) (end more : ℕ) → AreCuts from ends end → end ≤ more → AreCuts from (ends ++ more ∷ []) more
AreCuts-more from [] end more cuts later = (omega (arith, cuts, later), refl)
AreCuts-more from (e ∷ ends) end more cuts later = (cuts.0, AreCuts-more e ends end more cuts.1 later)
