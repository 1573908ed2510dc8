-- Edges tied to others by their sides.
use Rattle.std.specs.Prelude.{ℕ, ◌<◌, ◌≡◌, ◌≢◌, Bool, not, cond, List, [], ◌∷◌, Contains}
use Rattle.std.specs.List.{AllByRecursion as Each}
use Rattle.left_right_blocks.specs.declared.ties.Tie.{Tie}

-- sides are as a tie has them
abbrev pub IsKept : (ℕ → Bool) → Tie → Type 0
IsKept side t = side t.edge ≡ cond t.turn (not (side t.to)) (side t.to)

-- sides are as all ties have them
abbrev pub AreKept : (ℕ → Bool) → List Tie → Type 0
AreKept side ties = Each (IsKept side) ties

-- the edge of a tie is not in a later one, nor in its other end
abbrev pub AreInTurn : List Tie → Type 0
AreInTurn [] = Unit {0}
AreInTurn (t ∷ ts) = (t.edge ≢ t.to) × (Each (λ (u : Tie). (t.edge ≢ u.edge) × (t.edge ≢ u.to)) ts × AreInTurn ts)

-- the edges of ties are numbers below a bound
abbrev pub AreBelow : ℕ → List Tie → Type 0
AreBelow bound ties = Each (λ (t : Tie). t.edge < bound) ties

-- the edges of ties are in no list
abbrev pub AreGone : (ℕ → List ℕ) → List Tie → Type 0
AreGone lists ties = Each (λ (t : Tie). (p : ℕ) → ¬ Contains (lists p) t.edge) ties
