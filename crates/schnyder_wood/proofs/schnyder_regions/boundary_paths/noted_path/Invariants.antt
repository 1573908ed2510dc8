use Rattle.std.proofs.Common.{◌≡◌, ◌<◌, ℕ, length, get_or}
use Rattle.schnyder_wood.proofs.schnyder_regions.boundary_paths.noted_path.Given as goal

abbrev pub invariant-loop-u : goal.invariant-loop-u
invariant-loop-u l = record {
  count : length l.ups.items ≡ l.u;
  own : (w : ℕ) → w < l.u → get_or l.ups.items w 0 ≡ w;
}
