-- Which boxes share a side.
use Rattle.std.proofs.Common.{◌≡◌, ℕ, zero, suc, ◌+◌, ◌-◌, ◌<◌, ◌≤◌, refl, sym, ap, subst, inl, inr, arith}
use Rattle.std.proofs.lemmas.Bool.{cases_eq, cases_lt, cases_Bool}
use Rattle.contour_runs.specs.Runs.{Step, Stage, stage_after}
use Rattle.rect_runs.specs.Labels.{labels}
use Rattle.rect_runs.specs.Numbers.{turn_of}
use Rattle.rect_runs.specs.Boxes.{Boxes}
use Rattle.rect_runs.specs.Later.{StandsOver}
use Rattle.rect_runs.specs.RectBoxesLaws.{IsBeside, IsAbove, ShareSide}
use Rattle.rect_runs.proofs.Skyline.{IsLaid, step_at, turn_at, between, settled_high, settled_right, stair_at, over_low, placed_at}
use Rattle.rect_runs.proofs.Cells.{IsInside, cells_at, new_outside}

-- a place from i up to e whose box has the height c, or the column a, within
pub record IsInColumn (g : Stage) (b : Boxes) (i e c : ℕ) : Type 0 where
  pub place : ℕ
  pub from : i ≤ place
  pub to : place ≤ e
  pub low : b.low (g.vertex place) ≤ c
  pub high : c < b.high (g.vertex place)

pub record IsInRow (g : Stage) (b : Boxes) (i e a : ℕ) : Type 0 where
  pub place : ℕ
  pub from : i ≤ place
  pub to : place ≤ e
  pub left : b.left (g.vertex place) ≤ a
  pub right : a < b.right (g.vertex place)

-- boxes that stand upon one another have each height between
column : (g : Stage) (b : Boxes) (i d c : ℕ) → ((j : ℕ) → i ≤ j → j < i + d → b.high (g.vertex (suc j)) ≡ b.low (g.vertex j)) → c < b.high (g.vertex i) → b.low (g.vertex (i + d)) ≤ c → IsInColumn g b i (i + d) c
column g b i zero c h p q = let e : i + 0 ≡ i = omega arith in record { place = i; from = omega arith; to = omega arith; low = omega (arith, ap (λ j. b.low (g.vertex j)) e); high = p }
column g b i (suc d) c h p q = elim (cases_lt c (b.low (g.vertex i))) [
  | inr a ↦ record { place = i; from = omega arith; to = omega arith; low = a; high = p }
  | inl a ↦
      let e : i + suc d ≡ suc i + d = omega arith in
      let r = column g b (suc i) d c (λ j m o. h j (omega arith) (omega arith)) (omega (arith, h i (omega arith) (omega arith))) (omega (arith, ap (λ j. b.low (g.vertex j)) e)) in
      record { place = r.place; from = omega arith; to = omega arith; low = r.low; high = r.high }
]

-- boxes that stand beside one another have each column between
pub row : (g : Stage) (b : Boxes) (i d a : ℕ) → ((j : ℕ) → i ≤ j → j < i + d → b.right (g.vertex j) ≡ b.left (g.vertex (suc j))) → b.left (g.vertex i) ≤ a → a < b.right (g.vertex (i + d)) → IsInRow g b i (i + d) a
row g b i zero a h p q = let e : i + 0 ≡ i = omega arith in record { place = i; from = omega arith; to = omega arith; left = p; right = omega (arith, ap (λ j. b.right (g.vertex j)) e) }
row g b i (suc d) a h p q = elim (cases_lt a (b.right (g.vertex i))) [
  | inl m ↦ record { place = i; from = omega arith; to = omega arith; left = p; right = m }
  | inr m ↦
      let e : i + suc d ≡ suc i + d = omega arith in
      let r = row g b (suc i) d a (λ j x y. h j (omega arith) (omega arith)) (omega (arith, h i (omega arith) (omega arith))) (omega (arith, ap (λ j. b.right (g.vertex j)) e)) in
      record { place = r.place; from = omega arith; to = omega arith; left = r.left; right = r.right }
]

-- a number in two stretches that overlap
pub record IsCommon (a b c d : ℕ) : Type 0 where
  pub at : ℕ
  pub first : (a ≤ at) × (at < b)
  pub second : (c ≤ at) × (at < d)

pub common : (a b c d : ℕ) → a < b → c < d → a < d → c < b → IsCommon a b c d
common a b c d ab cd ad cb = elim (cases_lt a c) [ inl l ↦ record { at = c; first = (omega arith, cb); second = (omega arith, cd) } | inr l ↦ record { at = a; first = (omega arith, ab); second = (l, ad) } ]

module _ (steps : ℕ → Step) (n : ℕ) (b : Boxes) (width top : ℕ) (h : IsLaid steps n b width top) (k : ℕ) (l : k < n) where
  abbrev g : Stage
  g = stage_after steps k

  abbrev s : Step
  s = steps k

  abbrev c : ℕ
  c = turn_of steps k

  abbrev z : ℕ
  z = k + 2

  -- neighbours share a side
  left_shares : (j : ℕ) → s.first ≤ j → j ≤ c → IsBeside b (g.vertex j) z
  left_shares j p q =
      let stair = stair_at steps n b width top h (suc k) l in
      let first = (between steps n b width top h k l stair).low in
      let t = turn_at steps n b width top h k l in
      let w = (step_at steps n b width top h k l).within in
      record {
        line = h.right_is k j l p q;
        first = grind (arith, cases_eq);
        second = omega (arith, over_low steps n b width top h k l stair j p q);
      }

  below_shares : (j : ℕ) → c < j → j ≤ s.last → IsAbove b (g.vertex j) z
  below_shares j p q =
      let m = between steps n b width top h k l (stair_at steps n b width top h (suc k) l) in
      let last = m.left in
      let t = turn_at steps n b width top h k l in
      let w = (step_at steps n b width top h k l).within in
      record {
        line = h.high_is k j l p q;
        first = elim (cases_eq j s.last) [
          | inl e ↦ omega (arith, ap (λ j. b.left (g.vertex j)) e)
          | inr ne ↦
              let i : ℕ = s.last - 1 in
              let e : suc i ≡ s.last = omega arith in
              omega (arith, (h.numbered k (omega arith)).run i j (omega arith) (t.runs i (omega arith) (omega arith)) (omega arith), ap (λ j. b.left (g.vertex j)) e)
        ];
        second = elim (cases_eq j s.last) [
          | inl e ↦ omega (arith, ap (λ j. b.right (g.vertex j)) e)
          | inr ne ↦
              let run = t.runs j p (omega arith) in
              omega (arith, settled_right steps n b width top h k j (omega arith) (omega arith) run, (h.put k l).before j p (omega arith) run)
        ];
      }

  pub joined_shares : (u v : ℕ) → StandsOver steps k u v → ShareSide b u v
  joined_shares u v p = grind (arith, cases_lt, IsBeside, left_shares, IsAbove, below_shares)

  -- what shares a side is a neighbour
  module _ (u : ℕ) (older : u < z) where
    same_box : (a d : ℕ) (j : ℕ) → j < g.width → IsInside b (g.vertex j) a d → IsInside b u a d → g.vertex j ≡ u
    same_box a d j m ij iu = (cells_at steps n b width top h n (omega arith)).alone (g.vertex j) u a d (placed_at steps n b width top h k j (omega arith) m) (omega arith) ij iu

    shares_left : IsBeside b u z → StandsOver steps k u z
    shares_left x =
        let t = turn_at steps n b width top h k l in
        let w = (step_at steps n b width top h k l).within in
        let m = between steps n b width top h k l (stair_at steps n b width top h (suc k) l) in
        let wu = h.wide u (omega arith) in
        let d = common (b.low u) (b.high u) (b.low z) (b.high z) (h.tall u (omega arith)) (h.tall z (omega arith)) x.first x.second in
        let d1 = d.first in
        let d2 = d.second in
        let e : c ≡ s.first + (c - s.first) = omega arith in
        let level : b.low (g.vertex c) ≤ b.low z = grind (arith, cases_Bool, labels) in
        let f = column g b s.first (c - s.first) d.at
        (λ j p q. settled_high steps n b width top h k j (omega arith) (omega arith) (t.rises j p (omega arith))) (omega (arith, d2.1)) (omega (arith, d2.0, ap (λ j. b.low (g.vertex j)) e)) in
        let f1 = f.from in
        let at = h.right_is k f.place l f1 (omega arith) in
        let beyond = (h.put k l).left f.place (omega arith) in
        let a : ℕ = b.left z - 1 in
        record {
          new = refl;
          place = f.place;
          low = f1;
          high = omega arith;
          vertex = same_box a d.at f.place (omega arith) record { left = omega arith; right = omega arith; low = f.low; high = f.high } record { left = omega arith; right = omega arith; low = d1.0; high = d1.1 };
        }

    shares_below : IsAbove b u z → StandsOver steps k u z
    shares_below x =
        let t = turn_at steps n b width top h k l in
        let w = (step_at steps n b width top h k l).within in
        let m = between steps n b width top h k l (stair_at steps n b width top h (suc k) l) in
        let tu = h.tall u (omega arith) in
        let d = common (b.left u) (b.right u) (b.left z) (b.right z) (h.wide u (omega arith)) (h.wide z (omega arith)) x.first x.second in
        let d1 = d.first in
        let d2 = d.second in
        let e : s.last ≡ suc c + (s.last - suc c) = omega arith in
        let level : b.left (g.vertex (suc c)) ≤ b.left z = grind (arith, cases_Bool, labels) in
        let f = row g b (suc c) (s.last - suc c) d.at
        (λ j p q. settled_right steps n b width top h k j (omega arith) (omega arith) (t.runs j (omega arith) (omega arith))) (omega (arith, d2.0)) (omega (arith, d2.1, ap (λ j. b.right (g.vertex j)) e)) in
        let at = h.high_is k f.place l (omega arith) (omega arith) in
        let beyond = (h.put k l).below f.place (omega arith) (omega arith) in
        let a : ℕ = b.low z - 1 in
        record {
          new = refl;
          place = f.place;
          low = omega arith;
          high = omega arith;
          vertex = same_box d.at a f.place (omega arith) record { left = f.left; right = f.right; low = omega arith; high = omega arith } record { left = d1.0; right = d1.1; low = omega arith; high = omega arith };
        }

    -- nothing older is right of the new box, or above it
    none_right : IsBeside b z u → ⊥
    none_right x =
        let d = common (b.low z) (b.high z) (b.low u) (b.high u) (h.tall z (omega arith)) (h.tall u (omega arith)) x.first x.second in
        let d1 = d.first in
        let d2 = d.second in
        let under = (cells_at steps n b width top h k (omega arith)).under u (b.right z) d.at older record { left = omega arith; right = omega arith; low = d2.0; high = d2.1 } in
        let a : ℕ = b.right z - 1 in
        new_outside steps n b width top h k l a d.at record { place = under.place; within = under.within; right = omega arith; high = under.high } record { left = omega arith; right = omega arith; low = d1.0; high = d1.1 }

    none_above : IsAbove b z u → ⊥
    none_above x =
        let d = common (b.left z) (b.right z) (b.left u) (b.right u) (h.wide z (omega arith)) (h.wide u (omega arith)) x.first x.second in
        let d1 = d.first in
        let d2 = d.second in
        let under = (cells_at steps n b width top h k (omega arith)).under u d.at (b.high z) older record { left = d2.0; right = d2.1; low = omega arith; high = omega arith } in
        let a : ℕ = b.high z - 1 in
        new_outside steps n b width top h k l d.at a record { place = under.place; within = under.within; right = under.right; high = omega arith } record { left = d1.0; right = d1.1; low = omega arith; high = omega arith }

    pub shares_joined : ShareSide b u z → StandsOver steps k u z
    shares_joined x = grind (arith, shares_left, none_right, shares_below, none_above)
