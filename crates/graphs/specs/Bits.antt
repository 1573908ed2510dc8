-- The pairs of vertices of a graph as bits, six a byte: which edges a text of bits has.
use Rattle.std.specs.Prelude.{ℕ, ◌+◌, ◌-◌, ◌*◌, ◌/◌, ◌%◌, ◌^◌, ◌≤◌, ◌≡◌, ◌==◌, Bool, false, List, map, filter, length, slice_index, All}
use Rattle.std.specs.List.{range_with_len, flat_map}
use Rattle.graphs.specs.Graphs.{Edge}

-- the place of a pair u < v among the bits: (0,1), (0,2), (1,2), (0,3) and so on
unfoldable pub pair_place : ℕ → ℕ → ℕ
pair_place u v = v * (v - 1) / 2 + u

-- how many pairs n vertices have
unfoldable pub pair_count : ℕ → ℕ
pair_count n = n * (n - 1) / 2

-- how many bytes hold their bits
unfoldable pub body_length : ℕ → ℕ
body_length n = (pair_count n + 5) / 6

-- whether bit k of a byte is set, from 0 at the greatest: a byte is six bits plus 63
unfoldable pub has_bit : ℕ → ℕ → Bool
has_bit byte k = (byte - 63) / 2 ^ (5 - k) % 2 == 1

-- whether the bit at a place is set
unfoldable pub is_set : List ℕ → ℕ → Bool
is_set body place = has_bit (slice_index body (place / 6)) (place % 6)

-- the pairs a < b of the numbers below n, in the order of edges
abbrev pub pairs_of : ℕ → ℕ → List Edge
pairs_of n a = map (λ b. (a, b)) (range_with_len (a + 1) (n - (a + 1)))

unfoldable pub pairs : ℕ → List Edge
pairs n = flat_map (pairs_of n) (range_with_len 0 n)

-- the pairs whose bits are set
unfoldable pub edges_of : ℕ → List ℕ → List Edge
edges_of n body = filter (λ e. is_set body (pair_place e.0 e.1)) (pairs n)

-- six bits plus 63
abbrev pub IsLineByte : ℕ → Type 0
IsLineByte byte = (63 ≤ byte) × (byte ≤ 126)

-- the bits of the pairs of n vertices, padded by zeros
pub record IsBody (n : ℕ) (body : List ℕ) : Type 0 where
  pub long : length body ≡ body_length n
  pub bytes : All IsLineByte body
  pub padding : (place : ℕ) → pair_count n ≤ place → is_set body place ≡ false
