-- Faults of images that wrong bodies would name.
use Rattle.std.proofs.Common.{[], ◌∷◌, refl, ⊎_elim, arith}
use Rattle.pg_perm.specs.Repeat.{IsFirstRepeat, NamesFault}
use Rattle.pg_perm.specs.declared.fault.PermFault.TheVariants.{Repeated}

-- a later repeat is named
later_repeat_named : IsFirstRepeat (0 ∷ 0 ∷ 0 ∷ []) 1 2 → ⊥
later_repeat_named f =
    ⊎_elim (λ l. omega (arith, l)) (λ r. omega (arith, r.0)) (f.least 0 1 (record { order = omega arith; within = omega arith; same = refl }))

-- a repeat is named where an image is out of range
repeat_before_range : NamesFault (1 ∷ []) (Repeated 0 0) → ⊥
repeat_before_range n = omega (arith, n.1.repeat.order)
