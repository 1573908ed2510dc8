-- Two edges of one column have no height strictly inside both, where the heights are distinct and no bar is in the way of an edge.
use Rattle.std.proofs.Common.{◌≡◌, ◌⊎◌, ℕ, ◌<◌, ◌≤◌, length, ℤ, ◌<ℤ◌, sym, subst, inl, inr, ⊎_elim, arith}
use Rattle.std.proofs.lemmas.Bool.{cases_order}
use Rattle.std.proofs.lemmas.Int.{ints, by_lt_z}
use Rattle.map_lists.specs.Lists.{Lists}
use Rattle.map_theory.specs.Maps.{IsSimpleMap, list_of, edge_count}
use Rattle.pg_plane.specs.declared.figures.BarFigure.{BarFigure}
use Rattle.vertex_rounds.specs.Rounds.{HasEdge, ComesBefore}
use Rattle.drawings.specs.Bars.{number_at, column_of, IsNewHeight, IsBar, IsColumn, IsStruck, Holds, MeetInside, GoesOnceRound, IsValidBars}

first_back : (p q r s : ℤ) → MeetInside p q r s → MeetInside q p r s
first_back p q r s m = record {
  not_below = λ l. m.not_below (record { pr = l.qr; ps = l.qs; qr = l.pr; qs = l.ps });
  not_above = λ l. m.not_above (record { pr = l.ps; ps = l.pr; qr = l.qs; qs = l.qr });
}

second_back : (p q r s : ℤ) → MeetInside p q r s → MeetInside p q s r
second_back p q r s m = record {
  not_below = λ l. m.not_below (record { pr = l.ps; ps = l.pr; qr = l.qs; qs = l.qr });
  not_above = λ l. m.not_above (record { pr = l.qr; ps = l.qs; qr = l.pr; qs = l.ps });
}

module _ (lists : Lists) (fig : BarFigure) (heights : (v : ℕ) → v < length lists → IsNewHeight lists fig v) where
  abbrev y : ℕ → ℤ
  y v = number_at fig.y v

  -- two vertices of one height are one
  one_vertex : (u v : ℕ) → u < length lists → v < length lists → y u ≡ y v → u ≡ v
  one_vertex u v lu lv e = grind (arith, cases_order)

  -- an edge in column x that is clear of bars: from p up to q
  pub record IsClear (p q : ℕ) (x : ℤ) : Type 0 where
    pub low : p < length lists
    pub high : q < length lists
    pub rise : y p <ℤ y q
    pub holds_low : Holds fig p x
    pub holds_high : Holds fig q x
    pub clear : (v : ℕ) → v < length lists → Holds fig v x → y p <ℤ y v → y v <ℤ y q → ⊥

  -- of two that overlap both ends are the same
  same_ends : (p q r s : ℕ) (x : ℤ) → IsClear p q x → IsClear r s x → y r <ℤ y q → y p <ℤ y s → (p ≡ r) × (q ≡ s)
  same_ends p q r s x e f low high =
      let pr : p ≡ r = by_lt_z (y p) (y r) (λ l. absurd (e.clear r f.low f.holds_low l low)) (λ l. by_lt_z (y r) (y p) (λ l'. absurd (f.clear p e.low e.holds_low l' high)) (λ l'. one_vertex p r e.low f.low (omega (arith, ints)))) in
      let qs : q ≡ s = by_lt_z (y q) (y s) (λ l. absurd (f.clear q e.high e.holds_high (omega (arith, ints)) l)) (λ l. by_lt_z (y s) (y q) (λ l'. absurd (e.clear s f.high f.holds_high (omega (arith, ints)) l')) (λ l'. one_vertex q s e.high f.high (omega (arith, ints)))) in
      (pr, qs)

  -- two clear edges that overlap are one
  one_edge : (p q r s : ℕ) (x : ℤ) → IsClear p q x → IsClear r s x → MeetInside (y p) (y q) (y r) (y s) → (p ≡ r) × (q ≡ s)
  one_edge p q r s x e f m =
      same_ends p q r s x e f
      (by_lt_z (y r) (y q) (λ l. l) (λ l. absurd (m.not_below (record { pr = omega (arith, ints); ps = omega (arith, ints); qr = l; qs = omega (arith, ints) }))))
      (by_lt_z (y p) (y s) (λ l. l) (λ l. absurd (m.not_above (record { pr = omega (arith, ints); ps = omega (arith, ints); qr = l; qs = omega (arith, ints) }))))

  module _ (simple : IsSimpleMap lists) (width : ℤ) (ends : (a b : ℕ) → HasEdge lists a b → IsColumn fig width a b (column_of lists fig a b)) (through : (a b v : ℕ) → HasEdge lists a b → v < length lists → ¬ IsStruck fig a b (column_of lists fig a b) v) where
    -- an edge is clear in one of its two directions
    clear_edge : (a b : ℕ) → HasEdge lists a b → IsClear a b (column_of lists fig a b) ⊎ IsClear b a (column_of lists fig a b)
    clear_edge a b e =
        let c = ends a b e in
        let lb = simple.in_range a b e.1 in
        by_lt_z (y a) (y b)
        (λ l. inl (record {
          low = e.1.0;
          high = lb;
          rise = l;
          holds_low = c.lesser;
          holds_high = c.greater;
          clear = λ v lv h p q. through a b v e lv (record { between = inl (p, q); holds = h });
        }))
        (λ l. inr (record {
          low = lb;
          high = e.1.0;
          rise = by_lt_z (y b) (y a) (λ l'. l') (λ l'. absurd (simple.no_loop a b e.1 (sym (one_vertex a b e.1.0 lb (omega (arith, ints))))));
          holds_low = c.greater;
          holds_high = c.lesser;
          clear = λ v lv h p q. through a b v e lv (record { between = inr (p, q); holds = h });
        }))

    not_before : (a b c d : ℕ) → ComesBefore a b c d → a ≡ c → b ≡ d → ⊥
    not_before a b c d o p q = ⊎_elim (λ l. omega arith) (λ l. let less = l.1 in omega arith) o

    not_turned : (a b c d : ℕ) → a < b → c < d → a ≡ d → b ≡ c → ⊥
    not_turned a b c d l l' p q = omega arith

    -- no two edges of one column have a height strictly inside both
    pub bars_apart : (a b c d : ℕ) → HasEdge lists a b → HasEdge lists c d → ComesBefore a b c d → column_of lists fig a b ≡ column_of lists fig c d → ¬ MeetInside (number_at fig.y a) (number_at fig.y b) (number_at fig.y c) (number_at fig.y d)
    bars_apart a b c d first second order one m =
        let x = column_of lists fig a b in
        let turn : (p q : ℕ) → IsClear p q (column_of lists fig c d) → IsClear p q x = λ p q f. subst (λ z. IsClear p q z) (sym one) f in
        let l = first.0 in
        let l' = second.0 in
        elim (clear_edge a b first) [
          | inl e ↦ elim (clear_edge c d second) [
            | inl f ↦ (let same = one_edge a b c d x e (turn c d f) m in not_before a b c d order same.0 same.1)
            | inr f ↦ (let same = one_edge a b d c x e (turn d c f) (second_back (y a) (y b) (y c) (y d) m) in not_turned a b c d l l' same.0 same.1)
          ]
          | inr e ↦ elim (clear_edge c d second) [
            | inl f ↦ (let same = one_edge b a c d x e (turn c d f) (first_back (y a) (y b) (y c) (y d) m) in not_turned a b c d l l' same.1 same.0)
            | inr f ↦ (let same = one_edge b a d c x e (turn d c f) (second_back (y b) (y a) (y c) (y d) (first_back (y a) (y b) (y c) (y d) m)) in not_before a b c d order same.1 same.0)
          ]
        ]

-- all else that is asked of valid bars keeps edges of one column apart
pub valid_bars : (lists : Lists) (fig : BarFigure) (width : ℤ) → IsSimpleMap lists → length fig.column ≡ edge_count lists → ((v : ℕ) → v < length lists → IsNewHeight lists fig v) → ((v : ℕ) → v < length lists → IsBar fig width v) → ((a b : ℕ) → HasEdge lists a b → IsColumn fig width a b (column_of lists fig a b)) → ((a b v : ℕ) → HasEdge lists a b → v < length lists → ¬ IsStruck fig a b (column_of lists fig a b) v) → ((v : ℕ) → v < length lists → 2 ≤ length (list_of lists v) → GoesOnceRound lists fig v) → IsValidBars lists fig width
valid_bars lists fig width simple columns heights bars ends clear turns = record {
  columns = columns;
  heights = heights;
  bars = bars;
  ends = ends;
  clear = clear;
  apart = bars_apart lists fig heights simple width ends clear;
  turns = turns;
}
