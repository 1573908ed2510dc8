-- The last rectangles of rows along one axis, and what the sweeps along both show of pairs.
use Rattle.std.proofs.Common.{◌≡◌, ◌≢◌, ◌⊎◌, ℕ, ◌+◌, ◌<◌, ◌≤◌, List, length, get_or, set, All, Bool, ℤ, pos, negsuc, ◌≤ℤ◌, ◌<ℤ◌, inl, inr, ⊎_elim, refl, sym, ap, subst, ◌∙◌, arith}
use Rattle.std.specs.List.Sorted.{IsPermutation}
use Rattle.std.proofs.lemmas.Bool.{cases_lt}
use Rattle.std.proofs.lemmas.Int.{ints}
use Rattle.std.proofs.lemmas.List.{get_or_default}
use Rattle.std.proofs.lemmas.List.Elements.{All-from_get_or}
use Rattle.std.proofs.lemmas.List.Sorted.{Contains-permutation, All-permutation}
use Rattle.map_lists.specs.Lists.{Lists}
use Rattle.map_theory.specs.Maps.{IsSimpleMap}
use Rattle.pg_plane.specs.declared.figures.RectFigure.{RectFigure}
use Rattle.drawings.specs.Duals.{number_at, IsRect, ShareSide}
use Rattle.rect_check.specs.Loops.{Sides, across, upwards, AreKept, AreJoined, AreFitting, HasRow, DoesFollow, FollowsInRows, AreRanked, DoFollow, HaveLast, AreRuns, IsFilled, IsRunPut, AreTaken, AreLast, HasEachVertex, AreSpans}
use Rattle.rect_check.proofs.RunLemmas.{filled, filled_is, AreRuns-closed, AreRuns-none, entry_here, AreRuns-taken}

-- a number that is not below 0
natural_is : (z : ℤ) → pos 0 ≤ℤ z → (k : ℕ) × (z ≡ pos k)
natural_is (pos k) l = (k, refl)
natural_is (negsuc k) l = absurd (omega (arith, ints))

-- the vertices in their own order
abbrev pub AreVertices : List ℕ → Type 0
AreVertices order = (v : ℕ) → v < length order → get_or order v 0 ≡ v

-- those of another order are vertices too
pub All-below : (n : ℕ) (old new : List ℕ) → length old ≡ n → AreVertices old → IsPermutation old new → All (λ v. v < n) new
All-below n old new count old_is same =
    All-permutation (λ v. v < n) old new same
    (All-from_get_or (λ v. v < n) old 0 (λ i l. let e = old_is i l in omega arith))

-- each vertex has a place
pub place_of_vertex : (n : ℕ) (old new : List ℕ) → length old ≡ n → AreVertices old → IsPermutation old new → (v : ℕ) → v < n → (i : ℕ) × (i < length new) × (get_or new i 0 ≡ v)
place_of_vertex n old new count old_is same v l =
    let within : v < length old = omega arith in
    let (i, li, e) = Contains-permutation old new v same (v, within, get_or_default old v v 0 within ∙ old_is v within) in
    (i, li, get_or_default new i 0 v li ∙ e)

-- two that have a row in common, by their ends
pub common : (n : ℕ) (low high : List ℤ) → AreSpans n low high → (u v : ℕ) → u < n → v < n → number_at low u <ℤ number_at high v → number_at low v <ℤ number_at high u → (y : ℕ) × HasRow low high u y × HasRow low high v y
common n low high rows u v lu lv a b =
    let p = natural_is (number_at low u) (rows u lu).first in
    let q = natural_is (number_at low v) (rows v lv).first in
    let ou = (rows u lu).order in
    let ov = (rows v lv).order in
    elim (cases_lt p.0 q.0) [
      | inl less ↦ (q.0, (omega (arith, ints, p.1, less), omega (arith, ints, q.1, b)), (omega (arith, ints, q.1), omega (arith, ints, q.1, ov)))
      | inr most ↦ (p.0, (omega (arith, ints, p.1), omega (arith, ints, p.1, ou)), (omega (arith, ints, q.1, most), omega (arith, ints, p.1, a)))
    ]

-- what is joined stays so where marks are kept
AreJoined-kept : (lists : Lists) (old new : List Bool) → AreKept old new → (u v : ℕ) → AreJoined lists old u v → AreJoined lists new u v
AreJoined-kept lists old new kept u v (inl d) = inl d
AreJoined-kept lists old new kept u v (inr m) = inr (kept u m.0, kept v m.1)

AreJoined-turned : (lists : Lists) (marks : List Bool) → IsSimpleMap lists → (u v : ℕ) → AreJoined lists marks u v → AreJoined lists marks v u
AreJoined-turned lists marks simple u v (inl d) = inl (simple.both_ways u v d)
AreJoined-turned lists marks simple u v (inr m) = inr (m.1, m.0)

module _ (lists : Lists) (old new : List Bool) (kept : AreKept old new) (axis : Sides) where
  pub DoesFollow-kept : (u v : ℕ) → DoesFollow lists old axis u v → DoesFollow lists new axis u v
  DoesFollow-kept u v f = record { behind = f.behind; joined = λ e. AreJoined-kept lists old new kept u v (f.joined e) }

  pub DoFollow-kept : (order : List ℕ) (i : ℕ) → DoFollow lists old axis order i → DoFollow lists new axis order i
  DoFollow-kept order i f j k l m y hu hv = DoesFollow-kept (get_or order j 0) (get_or order k 0) (f j k l m y hu hv)

  pub AreRanked-kept : AreRanked lists old axis → AreRanked lists new axis
  AreRanked-kept ranked u v other lu lv =
      ⊎_elim (λ f. inl (λ y hu hv. DoesFollow-kept u v (f y hu hv))) (λ f. inr (λ y hv hu. DoesFollow-kept v u (f y hv hu))) (ranked u v other lu lv)

-- the entry of a row is one of the table
pub row-le : (n : ℕ) (last until : List ℕ) (row : ℕ → ℕ) → AreRuns last until row 0 0 → ((y : ℕ) → get_or last y 0 ≤ n) → (y : ℕ) → y < length until → row y ≤ n
row-le n last until row runs vertices y l =
    let r = runs.each y l (inr (omega arith)) in
    let v = vertices r.0 in
    omega (arith, v, r.3)

-- the walk over the runs that v follows, from row low on
module _ (lists : Lists) (axis : Sides) (last : List ℕ) (row : ℕ → ℕ) (low high v : ℕ) where
  -- one run more
  pub AreTaken-more : (old new : List Bool) → AreKept old new → (until : List ℕ) (at before : ℕ) → low ≤ at → at < get_or until at 0 → ((u : ℕ) → get_or last at 0 ≡ u + 1 → DoesFollow lists new axis u v) → at < high
      → AreTaken lists old axis last until row low high v at before → AreTaken lists new axis last (set until at 0) row low high v (get_or until at 0) (get_or last at 0)
  AreTaken-more old new kept until at before from begins follows order t = record {
    runs = AreRuns-taken last until row low at from t.runs begins;
    follow = λ y u l m e. elim (cases_lt y at) [
      | inl less ↦ DoesFollow-kept lists old new kept axis u v (t.follow y u l less e)
      | inr most ↦ follows u (entry_here last until row low at from t.runs begins y most m ∙ e)
    ];
    rest = λ y l m. sym (entry_here last until row low at from t.runs begins y (omega (arith, l, order)) m);
  }

module _ (lists : Lists) (marks : List Bool) (axis : Sides) (spans : AreSpans (length lists) axis.begin axis.end) (rows : AreSpans (length lists) axis.low axis.high) where
  abbrev at : List ℕ → ℕ → ℕ
  at order j = get_or order j 0

  -- one vertex more, at place i of the order
  module _ (order : List ℕ) (i : ℕ) (row : ℕ → ℕ) (v : ℕ) (place : get_or order i 0 ≡ v) (lv : v < length lists) (few : (y : ℕ) → y < length lists → row y ≤ length lists) (all : HaveLast axis order i row) (before : DoFollow lists marks axis order i)
      (first behind : ℕ) (lower : pos first ≡ number_at axis.low v) (upper : pos behind ≡ number_at axis.high v) (follows : (y u : ℕ) → first ≤ y → y < behind → row y ≡ u + 1 → DoesFollow lists marks axis u v) where
    -- a row of v is one of the table
    row_is : (y : ℕ) → HasRow axis.low axis.high v y → (first ≤ y) × (y < behind) × (y < length lists)
    row_is y has =
        let l = has.0 in
        let m = has.1 in
        let high = (rows v lv).last in
        let under : y < behind = omega (arith, ints, m, upper) in
        (omega (arith, ints, l, lower), under, omega (arith, ints, under, upper, high))

    -- v follows each vertex before it
    follows_one : (j : ℕ) → j < i → FollowsInRows lists marks axis (at order j) v
    follows_one j l y hu hv =
        let is = row_is y hv in
        let e = all j y l hu in
        let t = e.0 in
        let f = follows y t is.0 is.1 e.1 in
        let b = f.behind in
        ⊎_elim (λ same. subst (λ z. DoesFollow lists marks axis z v) (sym same) f)
        (λ less.
        let lt : t < length lists = (let m = few y is.2 in omega (arith, m, e.1)) in
        let o = (spans t lt).order in
        record { behind = omega (arith, ints, less, o, b); joined = λ s. absurd (omega (arith, ints, less, o, b, s)) }) e.3

    pub DoFollow-more : DoFollow lists marks axis order (i + 1)
    DoFollow-more j k l m = elim (cases_lt k i) [
      | inl less ↦ before j k l less
      | inr most ↦ (let here : k ≡ i = omega (arith, m, most) in subst (λ z. FollowsInRows lists marks axis (at order j) z) (sym (ap (at order) here ∙ place)) (follows_one j (omega (arith, l, here))))
    ]

    pub HaveLast-more : (row' : ℕ → ℕ) → IsFilled row row' first behind (v + 1) → HaveLast axis order (i + 1) row'
    HaveLast-more row' filled j y l has = elim (cases_lt y first) [
      | inl less ↦ old (filled.outside y (inl less)) (λ hv. let f = (row_is y hv).0 in omega (arith, less, f))
      | inr from ↦ elim (cases_lt y behind) [
        | inl to ↦ (let hv : HasRow axis.low axis.high v y = (omega (arith, ints, lower, from), omega (arith, ints, upper, to)) in (v, filled.inside y from to, hv, ended hv))
        | inr past ↦ old (filled.outside y (inr past)) (λ hv. let f = (row_is y hv).1 in omega (arith, past, f))
      ]
    ]
      where
        old : row' y ≡ row y → ¬ HasRow axis.low axis.high v y → (t : ℕ) × (row' y ≡ t + 1) × HasRow axis.low axis.high t y × (((at order j) ≡ t) ⊎ (number_at axis.end (at order j) ≤ℤ number_at axis.begin t))
        old e no_row = elim (cases_lt j i) [
          | inl less ↦ (let x = all j y less has in (x.0, e ∙ x.1, x.2, x.3))
          | inr most ↦ (let here : j ≡ i = omega (arith, l, most) in absurd (no_row (subst (λ z. HasRow axis.low axis.high z y) (ap (at order) here ∙ place) has)))
        ]

        ended : HasRow axis.low axis.high v y → ((at order j) ≡ v) ⊎ (number_at axis.end (at order j) ≤ℤ number_at axis.begin v)
        ended hv = elim (cases_lt j i) [
          | inl less ↦ inr (follows_one j less y has hv).behind
          | inr most ↦ (let here : j ≡ i = omega (arith, l, most) in inl (ap (at order) here ∙ place))
        ]

    -- the runs, with one of v in place of those that it follows
    pub AreLast-put : (last last₁ last₂ until until₀ until₁ until₂ : List ℕ) (reached rest : ℕ) → ((y : ℕ) → get_or last₂ y 0 ≤ length lists) → behind ≤ reached → AreTaken lists marks axis last until₀ row first behind v reached rest
        → IsRunPut last last₁ until₀ until₁ first behind (v + 1) → IsRunPut last₁ last₂ until₁ until₂ behind reached rest → AreLast lists axis order (i + 1) last₂ until₂
    AreLast-put last last₁ last₂ until until₀ until₁ until₂ reached rest vertices order₁ taken put put₂ =
        let is = filled_is row first behind (v + 1) in
        record {
          vertices = vertices;
          row = filled row first behind (v + 1);
          runs = AreRuns-closed last₂ until₂ (filled row first behind (v + 1)) reached (put₂ (filled row first behind (v + 1)) (filled row first behind (v + 1)) reached (omega arith) (put row (filled row first behind (v + 1)) reached order₁ taken.runs is)
              (record { inside = λ y l m. is.outside y (inr l) ∙ taken.rest y l m; outside = λ y _. refl }));
          each = HaveLast-more (filled row first behind (v + 1)) is;
        }

  -- before all vertices
  pub AreLast-none : (order last last' until until' : List ℕ) (n : ℕ) → length until ≡ n → ((y : ℕ) → get_or until y 0 ≡ 0) → ((y : ℕ) → get_or last' y 0 ≤ length lists) → IsRunPut last last' until until' 0 n 0 → AreLast lists axis order 0 last' until'
  AreLast-none order last last' until until' n size none vertices put = record {
    vertices = vertices;
    row = λ y. 0;
    runs = AreRuns-closed last' until' (λ y. 0) n (put (λ y. 0) (λ y. 0) n (omega arith) (AreRuns-none last until (λ y. 0) n size none) (record { inside = λ y _ _. refl; outside = λ y _. refl }));
    each = λ j y l. absurd (omega (arith, l));
  }

  module _ (ranked : AreRanked lists marks axis) (u v : ℕ) (other : u ≢ v) (lu : u < length lists) (lv : v < length lists) (a : number_at axis.low u <ℤ number_at axis.high v) (b : number_at axis.low v <ℤ number_at axis.high u) where
    either : DoesFollow lists marks axis u v ⊎ DoesFollow lists marks axis v u
    either =
        let y = common (length lists) axis.low axis.high rows u v lu lv a b in
        ⊎_elim (λ f. inl (f y.0 y.1 y.2)) (λ f. inr (f y.0 y.2 y.1)) (ranked u v other lu lv)

    -- their interiors do not meet
    pub none_meet : number_at axis.begin u <ℤ number_at axis.end v → number_at axis.begin v <ℤ number_at axis.end u → ⊥
    none_meet l m = ⊎_elim (λ f. let e = f.behind in omega (arith, ints, e, m)) (λ f. let e = f.behind in omega (arith, ints, e, l)) either

    -- where v begins at the end of u, they are adjacent or marked
    pub joined_at : number_at axis.end u ≡ number_at axis.begin v → AreJoined lists marks u v
    joined_at e = ⊎_elim (λ f. f.joined e) (λ f. let g = f.behind in let o = (spans u lu).order in let p = (spans v lv).order in absurd (omega (arith, ints, e, g, o, p))) either

  -- where each vertex follows those before it, of each two one follows the other
  pub AreRanked-from_order : (order : List ℕ) → HasEachVertex (length lists) order → DoFollow lists marks axis order (length order) → AreRanked lists marks axis
  AreRanked-from_order order vertices follow u v other lu lv =
      let (i, li, ei) = vertices.each u lu in
      let (j, lj, ej) = vertices.each v lv in
      elim (cases_lt i j) [
        | inl before ↦ inl (subst (λ x. FollowsInRows lists marks axis x v) ei (subst (λ y. FollowsInRows lists marks axis (get_or order i 0) y) ej (follow i j before lj)))
        | inr after ↦ (let before : j < i = strictly i j u v order ei ej other after in inr (subst (λ x. FollowsInRows lists marks axis x u) ej (subst (λ y. FollowsInRows lists marks axis (get_or order j 0) y) ei (follow j i before li))))
      ]
    where
      strictly : (i j u v : ℕ) (new : List ℕ) → get_or new i 0 ≡ u → get_or new j 0 ≡ v → u ≢ v → j ≤ i → j < i
      strictly i j u v new ei ej other after =
          elim (cases_lt j i) [
            | inl l ↦ l
            | inr l ↦ absurd (let same : i ≡ j = omega arith in other (sym ei ∙ (ap (λ k. get_or new k 0) same ∙ ej)))
          ]

-- where both sweeps pass, all fit
pub AreFitting-from_ranks : (lists : Lists) (marks : List Bool) (fig : RectFigure) → IsSimpleMap lists → ((v : ℕ) → v < length lists → IsRect (length lists) fig v) → AreRanked lists marks (across fig) → AreRanked lists marks (upwards fig) → AreFitting lists marks fig
AreFitting-from_ranks lists marks fig simple rects first second u v less lv = record {
  apart = λ m. none_meet lists marks (across fig) wide tall first u v other lu lv m.low m.high m.left m.right;
  joined = joined;
}
  where
    wide : AreSpans (length lists) fig.x1 fig.x2
    wide v l = (rects v l).wide

    tall : AreSpans (length lists) fig.y1 fig.y2
    tall v l = (rects v l).tall

    lu : u < length lists
    lu = omega (arith, less, lv)

    other : u ≢ v
    other e = omega (arith, less, e)

    joined : ShareSide fig u v → AreJoined lists marks u v
    joined (inl (inl h)) = joined_at lists marks (across fig) wide tall first u v other lu lv h.low h.high h.line
    joined (inl (inr h)) = AreJoined-turned lists marks simple v u (joined_at lists marks (across fig) wide tall first v u (λ e. other (sym e)) lv lu h.low h.high h.line)
    joined (inr (inl h)) = joined_at lists marks (upwards fig) tall wide second u v other lu lv h.left h.right h.line
    joined (inr (inr h)) = AreJoined-turned lists marks simple v u (joined_at lists marks (upwards fig) tall wide second v u (λ e. other (sym e)) lv lu h.left h.right h.line)
