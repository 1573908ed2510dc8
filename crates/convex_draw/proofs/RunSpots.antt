-- What is kept along a run, row by row.
use Rattle.std.proofs.Common.{◌≡◌, ℕ, suc, ◌+◌, ◌<◌, ◌≤◌, List, length, set, sym, ap, ◌∙◌, subst, inl, inr, arith}
use Rattle.std.proofs.lemmas.Bool.{cases_lt}
use Rattle.map_theory.specs.Maps.{list_of}
use Rattle.contour_runs.specs.Wood.{Coordinates}
use Rattle.contour_runs.specs.FaceRuns.{Step, moved, stage_after, faces_made}
use Rattle.contour_runs.proofs.FaceRunsStages.{IsStage-run, IsRun-less, count-le}
use Rattle.convex_counts.specs.Counts.{face_counts}
use Rattle.convex_counts.proofs.Steps.{IsFalling-run}
use Rattle.convex_laws.specs.declared.convex_rows.rows.ConvexRows.{ConvexRows}
use Rattle.convex_laws.proofs.FaceNumbers.{made-le}
use Rattle.convex_draw.specs.declared.convex_points.spots.Spot.{Spot}
use Rattle.convex_draw.specs.Spots.{Setting, IsPut, IsWritten, AreKept, IsUnder, spot_of}
use Rattle.convex_draw.specs.Runs.{IsCountRun}
use Rattle.convex_draw.proofs.Gone.{IsGone-run}
use Rattle.convex_draw.proofs.Puts.{kept, AreGaps-after}
use Rattle.convex_draw.proofs.Unders.{IsUnder-covered}
use Rattle.convex_draw.proofs.Writes.{spot_of-set_same}

-- the setting of step k
abbrev pub setting : (ℕ → Step) → (ℕ → ℕ) → ℕ → Setting
setting steps name k = record { stage = stage_after steps k; step = steps k; at = face_counts steps k; name = name }

pub IsUnder-unwritten : (at : Coordinates) (name : ℕ → ℕ) (old now : List Spot) (v c : ℕ) → spot_of now (name v) ≡ spot_of old (name v) → IsUnder at name old v c → IsUnder at name now v c
IsUnder-unwritten at name old now v c e h = record {
  one = omega (arith, h.one, ap (λ (x : Spot). x.one) e);
  two = omega (arith, h.two, ap (λ (x : Spot). x.two) e);
  over = ap (λ (x : Spot). x.over) e ∙ h.over;
}

pub IsPut-same : (w : Setting) (spots : List Spot) (row cuts news row' cuts' news' : List ℕ) → row' ≡ row → cuts' ≡ cuts → news' ≡ news → IsPut w spots row cuts news → IsPut w spots row' cuts' news'
IsPut-same w spots row cuts news row' cuts' news' e f h put =
    subst (λ row. IsPut w spots row cuts' news') (sym e) (subst (λ cuts. IsPut w spots row cuts news') (sym f) (subst (λ news. IsPut w spots row cuts news) (sym h) put))

-- the next width is small, and no less than 0
pub width_room : (steps : ℕ → Step) (name : ℕ → ℕ) (k width : ℕ) (spots : List Spot) (row cuts news : List ℕ) → AreKept steps name k width spots → IsPut (setting steps name k) spots row cuts news → (width + length news + 2 < 1048576) × (length row ≤ width + length news + 2)
width_room steps name k width spots row cuts news kept put =
    let a = kept.wide in
    let b = put.over.stage.few in
    let c = put.over.room in
    let d = put.over.small in
    let e = put.news_are.long in
    let f = put.over.row_is.long in
    let g = put.over.step.within in
    (omega arith, omega arith)

module _ (steps : ℕ → Step) (name : ℕ → ℕ) (rows : ConvexRows) (count : ℕ) (h : IsCountRun steps name rows count) where
  abbrev n : ℕ
  n = length rows.rows

  pub count_two : 2 ≤ count
  count_two = let s = IsStage-run steps n h.run in let a = s.wide in let b = s.few in let c = h.all in omega arith

  pub IsPut-run :
      (k j width : ℕ) (spots : List Spot) → k + suc j ≡ n → length spots ≡ count → AreKept steps name k width spots → IsPut (setting steps name k) spots (list_of rows.rows j) (list_of rows.cuts j) (list_of rows.news j)
  IsPut-run k j width spots e same before =
      let run = IsRun-less steps k n (omega arith) h.run in
      let made = made-le steps (suc k) n (omega arith) in
      let few = h.few in
      let grown = count-le steps (suc k) n (omega arith) in
      let all = h.all in
      let small = h.small in
      record {
        over =
            record {
              stage = IsStage-run steps k run;
              made = faces_made steps k;
              falling = IsFalling-run steps k run;
              few = omega arith;
              step = h.run k (omega arith);
              row_is = h.rows_are.row k j e;
              room = omega arith;
              small = omega arith;
              named = record { below = λ r l. let b = h.named.below r (omega arith) in omega arith; one = λ r q l m. h.named.one r q (omega arith) (omega arith) };
              gaps = before.gaps;
            };
        cuts_are = h.rows_are.cuts k j e;
        news_are = h.rows_are.news k j e;
        turned = h.turned k (omega arith);
        turns = h.turns k;
      }

  -- the row, the cuts and the new vertices of a step as they are read, with room for the next width
  pub IsPut-read :
      (k j width : ℕ) (spots : List Spot) (row cuts news : List ℕ) → k + suc j ≡ n → length spots ≡ count → AreKept steps name k width spots → row ≡ list_of rows.rows j → cuts ≡ list_of rows.cuts j → news ≡ list_of rows.news j
      → IsPut (setting steps name k) spots row cuts news × (width + length news + 2 < 1048576) × (length row ≤ width + length news + 2)
  IsPut-read k j width spots row cuts news e same kept r c m =
      let put = IsPut-same (setting steps name k) spots _ _ _ row cuts news r c m (IsPut-run k j width spots e same kept) in
      let room = width_room steps name k width spots row cuts news kept put in
      (put, room.0, room.1)

  pub AreKept-more :
      (k j width width' : ℕ) (old now : List Spot) → k + suc j ≡ n → length old ≡ count → AreKept steps name k width old → IsWritten (setting steps name k) old now
      → width' + length (list_of rows.rows j) ≡ width + length (list_of rows.news j) + 2 → AreKept steps name (suc k) width' now
  AreKept-more k j width width' old now e same before wrote wide =
      let run = IsRun-less steps k n (omega arith) h.run in
      let stage = IsStage-run steps k run in
      let step = h.run k (omega arith) in
      let put = IsPut-run k j width old e same before in
      let w = setting steps name k in
      let row : List ℕ = list_of rows.rows j in
      let inside = step.within in
      let was = before.wide in
      let m = (h.rows_are.row k j e).long in
      let m' = (h.rows_are.news k j e).long in
      record {
        wide = omega arith;
        gaps = AreGaps-after w old now row put.over wrote;
        under = λ l i a b c. elim (cases_lt l k) [
          | inl less ↦
              let gone = IsGone-run steps l k i run less b c in
              let v : ℕ = (stage_after steps l).vertex i in
              IsUnder-unwritten (face_counts steps (suc l)) name old now v ((stage_after steps (suc l)).vertex (moved (steps l) i))
              (kept w old now row put.over wrote v gone.0 (λ x lo hi f. gone.1 (ap (stage_after steps k).vertex (ap (stage_after steps k).place (sym f) ∙ stage.own x (omega arith)) ∙ f)))
              (before.under l i less b c)
          | inr top ↦
              let f : l ≡ k = omega arith in
              subst (λ l. (steps l).first < i → i < (steps l).last → IsUnder (face_counts steps (suc l)) name now ((stage_after steps l).vertex i) ((stage_after steps (suc l)).vertex (moved (steps l) i))) (sym f)
              (λ b c. IsUnder-covered w old now row (list_of rows.cuts j) (list_of rows.news j) put wrote i b c) b c
        ];
      }

  -- at first the second vertex of the base names the first
  pub AreKept-begin : (spots : List Spot) (d s : ℕ) → name 0 ≡ d → name 1 ≡ s → length spots ≡ count → AreKept steps name 0 2 (set spots s (record { one = 0; two = 0; over = d }))
  AreKept-begin spots d s e f same =
      let x : Spot = record { one = 0; two = 0; over = d } in
      let c = count_two in
      let l = h.named.below 1 (omega arith) in
      let at_one : (i : ℕ) → suc i < 2 → spot_of (set spots s x) (name (suc i)) ≡ x = λ i m. let k : suc i ≡ 1 = omega arith in ap (λ r. spot_of (set spots s x) (name r)) k ∙ ap (spot_of (set spots s x)) f ∙ spot_of-set_same spots s x (omega arith) in
      record {
        wide = omega arith;
        gaps = record {
          fall = λ i m. omega (arith, ap (λ (x : Spot). x.one) (at_one i m));
          rise = λ i m. omega (arith, ap (λ (x : Spot). x.two) (at_one i m));
          back = λ i m. let k : 0 ≡ i = omega arith in ap (λ (x : Spot). x.over) (at_one i m) ∙ sym e ∙ ap name k;
        };
        under = λ l i a b c. absurd (omega arith);
      }
