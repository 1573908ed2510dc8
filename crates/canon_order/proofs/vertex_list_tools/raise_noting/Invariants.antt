use Rattle.std.proofs.Common.{◌≡◌, ◌+◌, ◌<◌, ◌≤◌, ◌==◌, ℕ, true, length, slice_index, count_by, take, All, Contains, vec_len, vec_capacity}
use Rattle.canon_order.specs.Marks.{is_set}
use Rattle.canon_order.proofs.vertex_list_tools.raise_noting.Given as goal

abbrev pub invariant-loop-u : goal.invariant-loop-u
invariant-loop-u l = record {
  counts : (w : ℕ) → w < length l.counts → slice_index l.counts w ≡ slice_index l.initial.counts w + count_by (λ u. u == w) (take l.u-index l.entries);
  kept : (w : ℕ) → Contains l.initial.stack.items w → Contains l.stack.items w;
  vertices : (n : ℕ) → All (λ w. w < n) l.entries → All (λ w. w < n) l.initial.stack.items → All (λ w. w < n) l.stack.items;
  noted : (w : ℕ) → Contains (take l.u-index l.entries) w → is_set l.marked w ≡ true → slice_index l.counts w ≡ 2 → Contains l.stack.items w;
  room : vec_len l.stack + length l.entries ≤ vec_capacity l.stack + l.u-index;
}
