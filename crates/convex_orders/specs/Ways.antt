-- How counts rise where a part of a contour comes, and fall where it goes.
use Rattle.std.specs.Prelude.{ℕ, ◌<◌, ◌≤◌, ◌≡◌, ◌+◌}
use Rattle.convex_orders.specs.declared.count_direction.Way.{Way}
use Rattle.convex_orders.specs.declared.count_direction.Way.TheVariants.{Comes, Goes}

-- a count that comes has room for `many` more; one that goes has at least as many
abbrev pub CanMove : Way → ℕ → ℕ → Type 0
CanMove Comes old many = old + many < 65536
CanMove Goes old many = many ≤ old

-- the new count is the old one with `many` more, where they come, or as many less, where they go
abbrev pub IsMoved : Way → ℕ → ℕ → ℕ → Type 0
IsMoved Comes old many new = new ≡ old + many
IsMoved Goes old many new = new + many ≡ old
