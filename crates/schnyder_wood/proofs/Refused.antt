-- A length that a wrong body would give for each path.
use Rattle.std.proofs.Common.{◌≡◌, ℕ, zero, suc, inl, inr, arith}
use Rattle.wood_runs.specs.Parents.{Colour, one, two, three}
use Rattle.schnyder_wood.specs.Parents.{Parents, root_in, IsInnerIn, LeadsIn, IsPathLength}

-- a child of a root, whose path is counted without the root
root_not_counted : (wood : Parents) (c : Colour) (v : ℕ) → IsInnerIn wood v → IsPathLength wood c v 1 → ⊥
root_not_counted wood c v inner p = none p.steps p.both_ends p.leads
  where
    off : (d : Colour) → v ≡ root_in wood d → ⊥
    off one e = inner.1 (inl e)
    off two e = inner.1 (inr (inl e))
    off three e = inner.1 (inr (inr e))

    none : (steps : ℕ) → 1 ≡ suc steps → LeadsIn wood c steps v (root_in wood c) → ⊥
    none zero e l = off c l
    none (suc steps) e l = omega (arith, e)
