-- The quick sweep over the bars from below.
use Rattle.std.proofs.Common.{◌≡◌, ◌⊎◌, ℕ, ◌+◌, ◌-◌, ◌/◌, ◌<◌, ◌≤◌, cond, List, length, get_or, ℤ, pos, ◌≤ℤ◌, ◌<ℤ◌, sym, ap, ◌∙◌, subst, inl, inr, ⊎_elim, arith}
use Rattle.std.proofs.lemmas.Bool.{cases_lt, cases_order, lt-ltb, le-ltb}
use Rattle.std.proofs.lemmas.Int.{ints}
use Rattle.map_lists.specs.Lists.{Lists}
use Rattle.map_theory.specs.Maps.{HasDart, IsSimpleMap, list_of, place_of}
use Rattle.map_theory.proofs.DartLemmas.{place_of-lt-length, get_or-place_of}
use Rattle.pg_plane.specs.declared.figures.BarFigure.{BarFigure}
use Rattle.drawings.specs.Bars.{number_at, column_of, column_between, Holds}
use Rattle.bar_check.specs.Verdicts.{HasHeights, NoneThrough}
use Rattle.bar_check.specs.Tables.{DoGoRight, StandsAt}
use Rattle.bar_check.specs.Reach.{IsRaised, IsReached, IsPassed, IsUp, IsBegun, HasReach, IsSwept}
use Rattle.bar_check.proofs.HeightLemmas.{natural_is}

-- what is passed is not reached by more
pub low_from_passed : (y : ℤ) (h k : ℕ) (peaks blocks superblocks : List ℤ) → IsReached y k peaks blocks superblocks → IsPassed h k peaks blocks superblocks → y ≤ℤ pos h
low_from_passed y h k peaks blocks superblocks is passed =
    let c = is.superblock in
    ⊎_elim (λ p. omega (arith, ints, is.column, p)) (λ o. ⊎_elim (λ p. omega (arith, ints, is.block, p)) (λ p. omega (arith, ints, c, p)) o) passed

module _ (lists : Lists) (fig : BarFigure) where
  between-up : (a b : ℕ) → a < b → column_between lists fig a b ≡ column_of lists fig a b
  between-up a b l = ap (λ t. cond t (column_of lists fig a b) (column_of lists fig b a)) (lt-ltb a b l)

  between-down : (a b : ℕ) → a < b → column_between lists fig b a ≡ column_of lists fig a b
  between-down a b l = ap (λ t. cond t (column_of lists fig b a) (column_of lists fig a b)) (le-ltb b a (omega (arith, l)))

  module _ (h v : ℕ) where
    -- what is among the first entries and the next one
    next-is : (u b : ℕ) → HasDart lists v u → HasDart lists v b → place_of b (list_of lists v) < place_of u (list_of lists v) + 1 → (place_of b (list_of lists v) < place_of u (list_of lists v)) ⊎ (b ≡ u)
    next-is u b du db l = elim (cases_lt (place_of b (list_of lists v)) (place_of u (list_of lists v))) [
      | inl less ↦ inl less
      | inr most ↦
          let same : place_of b (list_of lists v) ≡ place_of u (list_of lists v) = omega (arith, l, most) in
          inr (sym (get_or-place_of b (list_of lists v) 0 (place_of-lt-length b (list_of lists v) db.1)) ∙ (ap (λ i. get_or (list_of lists v) i 0) same ∙ get_or-place_of u (list_of lists v) 0 (place_of-lt-length u (list_of lists v) du.1)))
    ]

    earlier : (u a b : ℕ) → HasDart lists v u → IsBegun lists fig h v (place_of u (list_of lists v) + 1) a b → IsBegun lists fig h v (place_of u (list_of lists v)) a b ⊎ ((a ≡ v) × (b ≡ u) × (pos h ≤ℤ number_at fig.y b))
    earlier u a b dart begun = ⊎_elim (λ p. inl (inl p))
        (λ n. ⊎_elim (λ less. inl (inr (record { tail = n.tail; dart = n.dart; place = less; above = n.above }))) (λ same. inr (n.tail, same, n.above)) (next-is u b dart n.dart n.place)) begun

    -- an edge that leads down begins nothing
    pub HasReach-past : (u : ℕ) (peaks blocks superblocks : List ℤ) → HasDart lists v u → number_at fig.y u <ℤ pos h → HasReach lists fig (IsBegun lists fig h v (place_of u (list_of lists v))) peaks blocks superblocks
        → HasReach lists fig (IsBegun lists fig h v (place_of u (list_of lists v) + 1)) peaks blocks superblocks
    HasReach-past u peaks blocks superblocks dart below reach = record {
      each = λ a b k p. ⊎_elim (λ old. reach.each a b k old)
          (λ n. let above : pos h ≤ℤ number_at fig.y u = subst (λ (z : ℕ). pos h ≤ℤ number_at fig.y z) n.1 n.2 in absurd (omega (arith, ints, below, above))) (earlier u a b dart p);
    }

    -- one that leads up is noted
    pub HasReach-more : (u k : ℕ) (peaks peaks' blocks blocks' superblocks superblocks' : List ℤ) → HasDart lists v u → pos k ≡ column_between lists fig v u → IsRaised k (number_at fig.y u) peaks peaks' → IsRaised (k / 16) (number_at fig.y u) blocks blocks' → IsRaised (k / 256) (number_at fig.y u) superblocks superblocks'
        → HasReach lists fig (IsBegun lists fig h v (place_of u (list_of lists v))) peaks blocks superblocks → HasReach lists fig (IsBegun lists fig h v (place_of u (list_of lists v) + 1)) peaks' blocks' superblocks'
    HasReach-more u k peaks peaks' blocks blocks' superblocks superblocks' dart is column block superblock reach = record {
      each = λ a b j p c. ⊎_elim
          (λ q.
          let was = reach.each a b j q c in
          record { column = more was.column (column.each j); block = more was.block (block.each (j / 16)); superblock = more was.superblock (superblock.each (j / 256)) })
          (λ n.
          let e : pos k ≡ pos j = is ∙ (sym (ap (λ s. column_between lists fig s b) n.0 ∙ ap (λ t. column_between lists fig v t) n.1) ∙ c) in
          let same : k ≡ j = omega (arith, ints, e) in
          let here : IsReached (number_at fig.y u) k peaks' blocks' superblocks' = record { column = column.here; block = block.here; superblock = superblock.here } in
          subst (λ (z : ℕ). IsReached (number_at fig.y z) j peaks' blocks' superblocks') (sym n.1) (subst (λ (i : ℕ). IsReached (number_at fig.y u) i peaks' blocks' superblocks') same here)) (earlier u a b dart p);
    }
      where
        more : {p q r : ℤ} → p ≤ℤ q → q ≤ℤ r → p ≤ℤ r
        more {p} {q} {r} l m = omega (arith, ints, l, m)

  module _ (heights : HasHeights lists fig) (h v : ℕ) (at : StandsAt (length lists) fig h v) where
    same_height : (u w : ℕ) → u < w → w < length lists → number_at fig.y u ≡ number_at fig.y w → ⊥
    same_height u w l lw e = (heights w lw).new u l e

    is_v : (w : ℕ) → w < length lists → number_at fig.y w ≡ pos h → w ≡ v
    is_v w lw y = elim (cases_order w v) [
      | inl s ↦ s
      | inr o ↦ elim o [ inl less ↦ absurd (same_height w v less at.0 (y ∙ sym at.1)) | inr more ↦ absurd (same_height v w more lw (at.1 ∙ sym y)) ]
    ]

    -- below height h, or at v
    below_or_at : (w : ℕ) → w < length lists → number_at fig.y w <ℤ pos (h + 1) → (number_at fig.y w <ℤ pos h) ⊎ (w ≡ v)
    below_or_at w lw below = grind (arith, natural_is, number_at, cases_lt, ints, is_v)

    -- which edges lead up from v and below
    begun-from : (a b : ℕ) → IsUp lists fig (h + 1) a b → IsBegun lists fig h v (length (list_of lists v)) a b
    begun-from a b is = grind (arith, HasDart, number_at, place_of-lt-length, list_of, ints, below_or_at)

    -- what was known when the bar of v was met is known before its edges
    pub HasReach-first : (peaks blocks superblocks : List ℤ) → HasReach lists fig (IsUp lists fig h) peaks blocks superblocks → HasReach lists fig (IsBegun lists fig h v 0) peaks blocks superblocks
    HasReach-first peaks blocks superblocks reach = record {
      each = λ a b k p. ⊎_elim (λ q. reach.each a b k q) (λ n. (let l = n.place in absurd (omega (arith, l)))) p;
    }

    -- the bar of v was met
    pub IsSwept-more : (peaks peaks' blocks blocks' superblocks superblocks' : List ℤ) → DoGoRight (length lists) fig → IsSwept lists fig h peaks blocks superblocks → ((k : ℕ) → Holds fig v (pos k) → IsPassed h k peaks blocks superblocks) → HasReach lists fig (IsBegun lists fig h v (length (list_of lists v))) peaks' blocks' superblocks'
        → IsSwept lists fig (h + 1) peaks' blocks' superblocks'
    IsSwept-more peaks peaks' blocks blocks' superblocks superblocks' go swept passed reach = record {
      reach = record { each = λ a b k p. reach.each a b k (begun-from a b p) };
      clear = λ a b w dart lw below from to. ⊎_elim (λ less. swept.clear a b w dart lw less from to)
          (λ same holds.
          let here : Holds fig v (column_between lists fig a b) = subst (λ (z : ℕ). Holds fig z (column_between lists fig a b)) same holds in
          let from' : number_at fig.y a <ℤ number_at fig.y v = subst (λ (z : ℕ). number_at fig.y a <ℤ number_at fig.y z) same from in
          let to' : number_at fig.y v <ℤ number_at fig.y b = subst (λ (z : ℕ). number_at fig.y z <ℤ number_at fig.y b) same to in
          let y = at.1 in
          let k = natural_is (column_between lists fig a b) (omega (arith, ints, (go v at.0).0, here.from)) in
          let is = swept.reach.each a b k.0 (record { dart = dart; below = omega (arith, ints, from', y); up = omega (arith, ints, from', to') }) k.1 in
          let most = low_from_passed (number_at fig.y b) h k.0 peaks blocks superblocks is (passed k.0 (subst (Holds fig v) k.1 here)) in
          omega (arith, ints, most, to', y)) (below_or_at w lw below);
    }

  module _ (simple : IsSimpleMap lists) (heights : HasHeights lists fig) where
    -- behind them
    pub NoneThrough-from : (peaks blocks superblocks : List ℤ) → IsSwept lists fig (length lists) peaks blocks superblocks → NoneThrough lists fig
    NoneThrough-from peaks blocks superblocks swept = λ a b w through.
        let l = through.edge.0 in
        let dart = through.edge.1 in
        let high = (heights w through.vertex).high in
        let holds = through.struck.holds in
        ⊎_elim
        (λ p. swept.clear a b w dart through.vertex high p.0 p.1 (subst (Holds fig w) (sym (between-up a b l)) holds))
        (λ p. swept.clear b a w (simple.both_ways a b dart) through.vertex high p.0 p.1 (subst (Holds fig w) (sym (between-down a b l)) holds)) through.struck.between
