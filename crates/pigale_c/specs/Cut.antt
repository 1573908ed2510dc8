-- What the call leaves that tells where an input may be cut.
use Rattle.std.specs.Prelude.{ℕ, ◌≡◌, ◌≢◌, ◌⊎◌, List}
use Rattle.planar_code.specs.Whole.{IsCut}

-- an input of planar_code may be cut here, behind so many records, or there was not enough memory; or the format is another
abbrev pub CutsTo : ℕ → List ℕ → ℕ → ℕ → ℕ → ℕ → ℕ → Type 0
CutsTo format input old_end old_records status end records =
    ((status ≡ 0) × (format ≡ 0) × IsCut input end records)
    ⊎ ((end ≡ old_end) × (records ≡ old_records) × (((status ≡ 16) × (format ≡ 0)) ⊎ ((status ≡ 17) × (format ≢ 0))))
