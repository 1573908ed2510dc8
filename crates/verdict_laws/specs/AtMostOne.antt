-- What at most one value is.
use Rattle.std.specs.Prelude.{◌≡◌}

-- any two values with the property are one
abbrev pub AtMostOne : (V : Type 0) → (V → Type 0) → Type 0
AtMostOne V P = (v w : V) → P v → P w → v ≡ w
