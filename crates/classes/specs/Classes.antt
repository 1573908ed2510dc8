-- The classes into which pairs join the numbers below k, and the orbits of a list of images.
use Rattle.std.specs.Prelude.{ℕ, zero, suc, ◌+◌, ◌<◌, min, max, Bool, true, false, ◌≡◌, ◌==◌, if◌then◌else◌, List, ◌∷◌, map, length, slice_index_or, AllPairs, All, [], ◌≢◌}
use Rattle.std.specs.List.{range_with_len, enumerate_from}

-- how many numbers below n pass a test
abbrev pub count_below : (ℕ → Bool) → ℕ → ℕ
count_below p zero = 0
count_below p (suc n) = count_below p n + (if p n then 1 else 0)

-- Classes of the numbers below k are a list of k labels: the label of a number is the least number of its class.
abbrev pub label : List ℕ → ℕ → ℕ
label labels i = slice_index_or labels i i

-- i and j are in one class
abbrev pub same_class : List ℕ → ℕ → ℕ → Bool
same_class labels i j = label labels i == label labels j

-- each number is alone in its class
abbrev pub alone : ℕ → List ℕ
alone k = range_with_len 0 k

-- the greater of two labels gives way to the lesser
abbrev pub relabel : ℕ → ℕ → ℕ → ℕ
relabel one other l = if l == max one other then min one other else l

-- the classes of a and b made one
unfoldable pub merge : List ℕ → ℕ → ℕ → List ℕ
merge labels a b = map (relabel (label labels a) (label labels b)) labels

-- each pair put into one class, in turn
abbrev pub merge_all : List ℕ → List (ℕ × ℕ) → List ℕ
merge_all labels [] = labels
merge_all labels (p ∷ pairs) = merge_all (merge labels p.0 p.1) pairs

-- the classes into which the pairs join the numbers below k
abbrev pub classes : ℕ → List (ℕ × ℕ) → List ℕ
classes k pairs = merge_all (alone k) pairs

-- how many classes there are: each has one number that is its own label
abbrev pub class_count : List ℕ → ℕ
class_count labels = count_below (λ i. label labels i == i) (length labels)

-- the orbits of a list of images: each number is joined to its image
abbrev pub orbits : List ℕ → List ℕ
orbits images = classes (length images) (enumerate_from 0 images)

-- how many orbits there are
abbrev pub orbit_count : List ℕ → ℕ
orbit_count images = class_count (orbits images)

-- the image of i, in a list of images; a number past the list is its own
abbrev pub image : List ℕ → ℕ → ℕ
image images i = slice_index_or images i i

-- the images are those of a bijection of the numbers below their count: each is below it, and no two are one
pub record IsPermutationOfBelow (images : List ℕ) : Type 0 where
  pub within : All (λ i. i < length images) images
  pub distinct : AllPairs ◌≢◌ images

-- The classes `one` are the classes `two` with those of a and b, which are apart there, made one; so they are one fewer.
pub record IsMerged (two one : List ℕ) (a b : ℕ) : Type 0 where
  pub apart : same_class two a b ≡ false
  pub joined : one ≡ merge two a b
  pub fewer : class_count two ≡ class_count one + 1

-- The law of one swap: where a and b lie in one orbit, that orbit is cut in two; where not, the two orbits become one.
pub record IsSwapOfOrbits (old new : List ℕ) (a b : ℕ) : Type 0 where
  pub cut : same_class old a b ≡ true → IsMerged new old a b
  pub joined : same_class old a b ≡ false → IsMerged old new a b
