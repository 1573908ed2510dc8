-- What stands at a vertex for each of its edges but that to its parent, and what returns by it.
use Rattle.std.specs.Prelude.{ℕ, ◌-◌, ◌<◌, ◌≡◌, Bool, ◌&&◌, ◌||◌, not, cond, eqb, ltb, List, [], ◌∷◌, ◌++◌, length, slice_index, slice_index_or, take, drop}
use Rattle.map_theory.specs.Maps.{Dart}
use Rattle.left_right_maps.specs.RootedMaps.{is_child}
use Rattle.left_right_lists.specs.Orders.{returns_in}

-- the first edges, as long as they pass
abbrev pub lead : (Dart → Bool) → List Dart → List Dart
lead p [] = []
lead p (d ∷ ds) = cond (p d) (d ∷ lead p ds) []

-- the edges from the first one that does not pass
abbrev pub trail : (Dart → Bool) → List Dart → List Dart
trail p [] = []
trail p (d ∷ ds) = cond (p d) (trail p ds) (d ∷ ds)

-- the lower ends of edges, from the last to the first
abbrev pub uppers : List Dart → List ℕ
uppers [] = []
uppers (d ∷ ds) = uppers ds ++ d.0 ∷ []

-- of what returns from below a child of v: the left edges that end at v
abbrev pub lefts : ℕ → List Dart → List Dart
lefts v ds = lead (λ d. eqb d.1 v) ds

-- of what returns from below a child of v: the edges that end above v
abbrev pub middle : ℕ → List Dart → List Dart
middle v ds = lead (λ d. not (eqb d.1 v)) (trail (λ d. eqb d.1 v) ds)

-- of what returns from below a child of v: the right edges that end at v
abbrev pub rights : ℕ → List Dart → List Dart
rights v ds = trail (λ d. not (eqb d.1 v)) (trail (λ d. eqb d.1 v) ds)

-- an edge from v to u leads to a child, or returns
abbrev pub is_item : (ℕ → ℕ → Bool) → (ℕ → ℕ) → (ℕ → ℕ) → ℕ → ℕ → Bool
is_item edge parent depth v u =
    is_child parent depth v u || (edge v u && (ltb (depth u) (depth v) && not (eqb u (parent v))))

-- the return edges by v's edge to u: those from below the child u, or that edge itself
abbrev pub returned : (ℕ → ℕ) → (ℕ → ℕ) → (ℕ → List Dart) → ℕ → ℕ → List Dart
returned parent depth opens v u = cond (is_child parent depth v u) (middle v (opens u)) ((v, u) ∷ [])

-- what stands at v for its edge to u
abbrev pub block : (ℕ → ℕ) → (ℕ → ℕ) → (ℕ → List Dart) → ℕ → ℕ → List ℕ
block parent depth opens v u =
    cond (is_child parent depth v u) (uppers (lefts v (opens u)) ++ u ∷ uppers (rights v (opens u))) (u ∷ [])

-- the lists of a vertex, in a table in which those of the last vertices come first
abbrev pub opens_in : ℕ → List ℕ → List (List Dart) → ℕ → List Dart
opens_in n number opens u = returns_in opens (n - 1 - slice_index number u)

-- a table has the values of a function below n
pub record AreValues {X : Type 0} (f : ℕ → X) (none : X) (table : List X) (n : ℕ) : Type 0 where
  pub long : length table ≡ n
  pub at : (u : ℕ) → u < n → slice_index_or table u none ≡ f u

-- the run of those that pass, from a place on, ends at another
abbrev pub IsRun : (Dart → Bool) → List Dart → ℕ → ℕ → Type 0
IsRun p ds from end = (take (end - from) (drop from ds) ≡ lead p (drop from ds)) × (drop end ds ≡ trail p (drop from ds))
