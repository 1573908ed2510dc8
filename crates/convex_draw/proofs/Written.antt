-- What a step writes.
use Rattle.std.proofs.Common.{◌≡◌, ◌≢◌, ℕ, suc, ◌+◌, ◌-◌, ◌<◌, List, length, get_or, set, All, AllPairs, sym, ap, ap₂, ◌∙◌, subst, arith}
use Rattle.std.proofs.lemmas.List.{get_or_default, length-set}
use Rattle.contour_runs.specs.Runs.{Stage}
use Rattle.contour_runs.specs.FaceRuns.{Step}
use Rattle.convex_draw.specs.declared.convex_points.spots.Spot.{Spot}
use Rattle.convex_draw.specs.Spots.{Setting, IsRowOver, IsPut, IsRowSettled, AreLinked, IsWritten, spot_of}
use Rattle.convex_draw.proofs.Rows.{first_last, long, row_first, row_last, rise_to, two_most, one_most, same_place, not_new, name_within}
use Rattle.convex_draw.proofs.Writes.{spot_of-set_same, spot_of-set_other}

module _ (w : Setting) (spots : List Spot) (row cuts news : List ℕ) (put : IsPut w spots row cuts news) where
  abbrev g : Stage
  g = w.stage

  abbrev s : Step
  s = w.step

  abbrev h : IsRowOver w spots row
  h = put.over

  new_at : (i : ℕ) → i < s.vertices → get_or news i 0 ≡ w.name (g.count + i)
  new_at i l = let n = put.news_are.long in put.news_are.each i (omega arith)

  pub new_within : (i : ℕ) → i < s.vertices → w.name (g.count + i) < length spots
  new_within i l = let r = h.room in h.named.below (g.count + i) (omega arith)

  new_apart : (i j : ℕ) → i < s.vertices → j < s.vertices → w.name (g.count + i) ≡ w.name (g.count + j) → i ≡ j
  new_apart i j l m e = let r = h.room in let d = h.named.one (g.count + i) (g.count + j) (omega arith) (omega arith) e in omega arith

  pub news_within : (n : ℕ) → n ≡ length spots → All (λ u. u < n) news
  news_within n e i d l =
      let m = put.news_are.long in
      let v = new_within i (omega arith) in
      let f = new_at i (omega arith) in
      subst (λ u. u < n) (get_or_default news i 0 d l) (omega arith)

  pub news_distinct : AllPairs ◌≢◌ news
  news_distinct i j d l m f =
      let n = put.news_are.long in
      let f' : get_or news i 0 ≡ get_or news j 0 = get_or_default news i 0 d (omega arith) ∙ f ∙ sym (get_or_default news j 0 d m) in
      let e = new_apart i j (omega arith) (omega arith) (sym (new_at i (omega arith)) ∙ f' ∙ new_at j (omega arith)) in
      absurd (omega arith)

  abbrev z : ℕ
  z = get_or news 0 0

  abbrev q : ℕ
  q = get_or row (length row - 1) 0

  pub z_is : z ≡ w.name g.count
  z_is = let v = h.step.some_vertex in let e : g.count + 0 ≡ g.count = omega arith in new_at 0 v ∙ ap w.name e

  pub q_is : q ≡ w.name (g.vertex s.last)
  q_is = row_last w spots row h

  pub q_in : q < length spots
  q_in = let a = name_within w spots row h s.last (omega arith) in let b = q_is in omega arith

  pub z_in : z < length spots
  z_in = let v = h.step.some_vertex in let a = new_within 0 v in let b = new_at 0 v in omega arith

  module _ (rise : ℕ) (one : List Spot) (settled : IsRowSettled w rise spots one) where
    -- the last vertex of the row is as it was
    q_unread : spot_of one q ≡ spot_of spots q
    q_unread = settled.settled.others q (λ i a b e. let d = same_place w spots row h i s.last (omega arith) (omega arith) (e ∙ q_is) in absurd (omega arith))

    rise_is : rise + (spot_of one q).two + w.at.two (g.vertex s.first) ≡ w.at.two (g.vertex s.last)
    rise_is =
        let o = first_last w spots row h in
        let n = long w spots row h in
        let k : ℕ = s.last - 1 in
        let e : suc k ≡ s.last = omega arith in
        omega (arith, settled.risen k e, rise_to w spots row h (length row - 1) k (omega arith) (omega arith), ap (λ (x : Spot). x.two) q_unread, ap (λ i. w.at.two (g.vertex i)) e)

    pub rise_part : rise + (spot_of one q).two + s.faces < 1048576
    rise_part = let a = rise_is in let b = two_most w spots row h s.last (omega arith) in let f = h.few in omega arith

  module _ (rise fall : ℕ) (one two : List Spot) (falls : fall + w.at.one (g.vertex s.last) ≡ w.at.one (g.vertex s.first)) (settled : IsRowSettled w rise spots one) (linked : AreLinked news (length news) one two) (one_same : length one ≡ length spots) (two_same : length two ≡ length spots) where
    pub rise_room : rise + (spot_of one q).two + s.faces < 1048576
    rise_room = rise_part rise one settled

    pub fall_room : fall + s.faces < 1048576
    fall_room = let o = first_last w spots row h in let b = one_most w spots row h s.first (omega arith) in let f = h.few in omega arith

    abbrev first_spot : Spot
    first_spot = record { one = fall + (length cuts - 1); two = 0; over = get_or row 0 0 }

    abbrev last_spot : Spot
    last_spot = record { one = 0; two = rise + (spot_of one q).two + (length cuts - 1); over = get_or news (length news - 1) 0 }

    abbrev now : List Spot
    now = set (set two z first_spot) q last_spot

    unwritten : (u : ℕ) → u ≢ q → u ≢ z → spot_of now u ≡ spot_of two u
    unwritten u nq nz = spot_of-set_other (set two z first_spot) q u last_spot nq ∙ spot_of-set_other two z u first_spot nz

    q_z : q ≢ z
    q_z e = let v = h.step.some_vertex in not_new w spots row h s.last 0 (omega arith) v (sym q_is ∙ e ∙ new_at 0 v)

    unlinked : (u : ℕ) → ((i : ℕ) → suc i < s.vertices → w.name (g.count + suc i) ≢ u) → spot_of two u ≡ spot_of one u
    unlinked u away = let n = put.news_are.long in linked.others u (λ i l e. away i (omega arith) (sym (new_at (suc i) (omega arith)) ∙ e))

    pub IsWritten-put : IsWritten w spots now
    IsWritten-put =
        let o = first_last w spots row h in
        let some = h.step.some_vertex in
        let n = put.news_are.long in
        let c = put.cuts_are.long in
        let f : length cuts - 1 ≡ s.faces = omega arith in
        let size = length-set two z first_spot in
        let qi = q_in in
        let zi = z_in in
        record {
          within = λ i a b.
              unwritten (w.name (g.vertex i)) (λ e. let d = same_place w spots row h i s.last (omega arith) (omega arith) (e ∙ q_is) in absurd (omega arith)) (λ e. not_new w spots row h i 0 (omega arith) some (e ∙ new_at 0 some))
              ∙ unlinked (w.name (g.vertex i)) (λ k l e. not_new w spots row h i (suc k) (omega arith) l (sym e)) ∙ settled.settled.passed i a b;
          first_new =
              ap (spot_of now) (sym z_is) ∙ spot_of-set_other (set two z first_spot) q z last_spot (λ e. q_z (sym e)) ∙ spot_of-set_same two z first_spot (omega arith)
              ∙ ap₂ (λ a b. record { one = a; two = 0; over = b }) (let e : fall + (length cuts - 1) ≡ w.at.one (g.vertex s.first) - w.at.one (g.vertex s.last) + s.faces = omega arith in e) (row_first w spots row h);
          next_new = λ i l.
              unwritten (w.name (g.count + suc i)) (λ e. not_new w spots row h s.last (suc i) (omega arith) l (sym q_is ∙ sym e)) (λ e. let d = new_apart (suc i) 0 l some (e ∙ new_at 0 some) in absurd (omega arith))
              ∙ ap (spot_of two) (sym (new_at (suc i) l)) ∙ linked.linked i (omega arith) ∙ ap (λ a. record { one = 0; two = 0; over = a }) (new_at i (omega arith));
          last =
              let r = rise_is rise one settled in
              let e : rise + (spot_of one q).two + (length cuts - 1) ≡ w.at.two (g.vertex s.last) - w.at.two (g.vertex s.first) + s.faces = omega arith in
              let k : length news - 1 ≡ s.vertices - 1 = omega arith in
              ap (spot_of now) (sym q_is) ∙ spot_of-set_same (set two z first_spot) q last_spot (omega arith)
              ∙ ap₂ (λ a b. record { one = 0; two = a; over = b }) e (ap (λ i. get_or news i 0) k ∙ new_at (s.vertices - 1) (omega arith));
          others = λ u row_away new_away.
              unwritten u (λ e. row_away s.last o (omega arith) (sym q_is ∙ sym e)) (λ e. new_away 0 some (sym (new_at 0 some) ∙ sym e))
              ∙ unlinked u (λ i l. new_away (suc i) l) ∙ settled.settled.others u (λ i a b. row_away i a (omega arith));
        }
