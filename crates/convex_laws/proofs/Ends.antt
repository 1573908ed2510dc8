-- The rows so far as a continuation: each run of what is left, with them, is a run of the whole.
use Rattle.std.proofs.Common.{◌≡◌, ℕ, suc, ◌+◌, ◌<◌, Bool, List, [], ◌∷◌, ◌++◌, length, refl, sym, ap, ◌∙◌, subst, inl, inr, arith}
use Rattle.std.proofs.lemmas.Bool.{cases_eq}
use Rattle.std.proofs.lemmas.List.{length-append, get_or_append_left, get_or_push}
use Rattle.map_lists.specs.Lists.{Lists}
use Rattle.map_theory.specs.Maps.{list_of, HasDart, IsSimpleMap, component_count}
use Rattle.contour_runs.specs.Runs.{Stage}
use Rattle.contour_runs.specs.FaceRuns.{Step, stage_after}
use Rattle.convex_peeling.specs.Polyhedral.{IsPolyhedral}
use Rattle.convex_peeling.specs.Contours.{face_of, IsContour, IsOpen, IsFirst}
use Rattle.convex_peeling.specs.Removals.{Removal, IsTakenOff}
use Rattle.convex_peeling.specs.FacePeelingLaws.{HasThree, AreOpen}
use Rattle.convex_laws.specs.Rows.{AreCuts}
use Rattle.convex_laws.specs.declared.convex_rows.rows.ConvexRows.{ConvexRows}
use Rattle.convex_laws.specs.RunsOfMaps.{IsRunOf}
use Rattle.convex_laws.proofs.Longer.{longer-low, longer-last, stage_after-same}
use Rattle.convex_laws.proofs.Grown.{IsPlaced, IsShore, IsShore-contour, IsBuilt, AreTouched, step, steps', rank', number', cases_goer, stayed_touched, built_after}
use Rattle.convex_laws.proofs.ConvexRunsWhole.{all_steps, all_ranks, numbered, run_is}
use Rattle.convex_laws.specs.Removed.{IsRowMore, HasRows}
use Rattle.convex_laws.proofs.Steps.{IsRankRow, AreRankNew, placed_more, kept_rank, row_is, cuts_is, news_is}

-- The lists of one row are those of a step.
pub record IsRowFor (lists : Lists) (rows : ConvexRows) (j : ℕ) (g : Stage) (s : Step) (rank : ℕ → ℕ) : Type 0 where
  pub row : IsRankRow lists (list_of rows.rows j) g s rank
  pub cuts : AreCuts (list_of rows.cuts j) s
  pub news : AreRankNew lists (list_of rows.news j) g s rank

-- A run of the whole goes on from the run of n steps by m more, of which the rows are, the last one first.
pub record GoesOn (lists : Lists) (s d : ℕ) (rows : ConvexRows) (m : ℕ) (alive : ℕ → Bool) (w : ℕ → ℕ) (r : ℕ) (steps : ℕ → Step) (n : ℕ) (rank : ℕ → ℕ) : Type 0 where
  pub all_steps : ℕ → Step
  pub all_rank : ℕ → ℕ
  pub face : ℕ → ℕ → ℕ
  pub run : IsRunOf lists s d all_steps (n + m) all_rank face
  pub same_steps : (k : ℕ) → k < n → all_steps k ≡ steps k
  pub same_rank : (v : ℕ) → IsPlaced lists alive w r v → all_rank v ≡ rank v
  pub rows_are : (k j : ℕ) → j < m → k + suc j ≡ n + m → IsRowFor lists rows j (stage_after all_steps k) (all_steps k) all_rank

-- There are m rows, and each run of what is left goes on by them.
pub record IsEnded (lists : Lists) (s d : ℕ) (rows : ConvexRows) (m : ℕ) (alive : ℕ → Bool) (w : ℕ → ℕ) (r : ℕ) : Type 0 where
  pub has : HasRows rows m
  pub ends : (steps : ℕ → Step) (n : ℕ) (rank number : ℕ → ℕ) → IsBuilt lists alive w r steps n rank number → AreTouched lists alive w r steps n rank → GoesOn lists s d rows m alive w r steps n rank

module _ (lists : Lists) (w : ℕ → ℕ) (o : Removal) (old new : ConvexRows) (m : ℕ) (has : HasRows old m) (more : IsRowMore lists w o old new) where
  pub has_more : HasRows new (suc m)
  has_more = grind (arith, length, length-append)

  old_at : (old_lists new_lists : Lists) (x : List ℕ) → length old_lists ≡ m → new_lists ≡ old_lists ++ x ∷ [] → (j : ℕ) → j < m → list_of new_lists j ≡ list_of old_lists j
  old_at old_lists new_lists x n e j l = ap (λ (z : Lists). list_of z j) e ∙ get_or_append_left old_lists (x ∷ []) [] j (omega arith)

  new_at : (old_lists new_lists : Lists) (x : List ℕ) → length old_lists ≡ m → new_lists ≡ old_lists ++ x ∷ [] → list_of new_lists m ≡ x
  new_at old_lists new_lists x n e = ap (λ (z : Lists). list_of z m) e ∙ get_or_push old_lists x [] m n

  pub old_row : (j : ℕ) (g : Stage) (s : Step) (rank : ℕ → ℕ) → j < m → IsRowFor lists old j g s rank → IsRowFor lists new j g s rank
  old_row j g s rank l h =
      record {
        row = subst (λ (z : List ℕ). IsRankRow lists z g s rank) (sym (old_at old.rows new.rows more.row has.rows_count more.rows_are j l)) h.row;
        cuts = subst (λ (z : List ℕ). AreCuts z s) (sym (old_at old.cuts new.cuts more.cuts has.cuts_count more.cuts_are j l)) h.cuts;
        news = subst (λ (z : List ℕ). AreRankNew lists z g s rank) (sym (old_at old.news new.news more.news has.news_count more.news_are j l)) h.news;
      }

  pub new_row : (g : Stage) (s : Step) (rank : ℕ → ℕ) → IsRankRow lists more.row g s rank → AreCuts more.cuts s → AreRankNew lists more.news g s rank → IsRowFor lists new m g s rank
  new_row g s rank a b c =
      record {
        row = subst (λ (z : List ℕ). IsRankRow lists z g s rank) (sym (new_at old.rows new.rows more.row has.rows_count more.rows_are)) a;
        cuts = subst (λ (z : List ℕ). AreCuts z s) (sym (new_at old.cuts new.cuts more.cuts has.cuts_count more.cuts_are)) b;
        news = subst (λ (z : List ℕ). AreRankNew lists z g s rank) (sym (new_at old.news new.news more.news has.news_count more.news_are)) c;
      }

module _ (lists : Lists) (s d : ℕ) (alive : ℕ → Bool) (w : ℕ → ℕ) (r : ℕ) (o : Removal) (simple : IsSimpleMap lists) (contour : IsContour lists alive w r) (off : IsTakenOff lists alive w r o) (shore : IsShore lists o.alive o.contour o.places) where
  module _ (old new : ConvexRows) (m : ℕ) (has : HasRows old m) (more : IsRowMore lists w o old new) (steps : ℕ → Step) (n : ℕ) (rank number : ℕ → ℕ) (built : IsBuilt lists o.alive o.contour o.places steps n rank number) where
    abbrev more_steps : ℕ → Step
    more_steps = steps' lists alive w r o steps n rank number simple contour off shore built

    abbrev more_ranks : ℕ → ℕ
    more_ranks = rank' lists alive w r o steps n rank number simple contour off shore built

    abbrev the_step : Step
    the_step = step lists alive w r o steps n rank number simple contour off shore built

    -- a run that goes on from what was there goes on from what is left, by one row more
    pub goes_on : GoesOn lists s d old m alive w r more_steps (suc n) more_ranks → GoesOn lists s d new (suc m) o.alive o.contour o.places steps n rank
    goes_on go =
        let z : suc n + m ≡ n + suc m = omega arith in
        let same : (k : ℕ) → k < n → go.all_steps k ≡ steps k = λ k l. go.same_steps k (omega arith) ∙ longer-low steps n the_step k l in
        let last : go.all_steps n ≡ the_step = go.same_steps n (omega arith) ∙ longer-last steps n the_step in
        let stage : stage_after go.all_steps n ≡ stage_after steps n = stage_after-same go.all_steps steps n same in
        let here : IsRowFor lists new m (stage_after steps n) the_step go.all_rank =
        new_row lists w o old new m has more (stage_after steps n) the_step go.all_rank
        (row_is lists alive w r o simple contour off shore steps n rank number built go.all_rank go.same_rank more.row more.cuts more.news more.is)
        (cuts_is lists alive w r o simple contour off shore steps n rank number built go.all_rank go.same_rank more.row more.cuts more.news more.is)
        (news_is lists alive w r o simple contour off shore steps n rank number built go.all_rank go.same_rank more.row more.cuts more.news more.is) in
        let at_n : IsRowFor lists new m (stage_after go.all_steps n) (go.all_steps n) go.all_rank =
        subst (λ t. IsRowFor lists new m t (go.all_steps n) go.all_rank) (sym stage) (subst (λ t. IsRowFor lists new m (stage_after steps n) t go.all_rank) (sym last) here) in
        record {
          all_steps = go.all_steps;
          all_rank = go.all_rank;
          face = go.face;
          run = subst (λ t. IsRunOf lists s d go.all_steps t go.all_rank go.face) z go.run;
          same_steps = same;
          same_rank = λ v p. go.same_rank v (placed_more lists alive w r o simple contour off shore v p) ∙ kept_rank lists alive w r o simple contour off shore steps n rank number built v p;
          rows_are = λ k j l e.
              elim (cases_eq j m) [
                | inl at ↦
                    let k_is : k ≡ n = omega arith in
                    subst (λ t. IsRowFor lists new t (stage_after go.all_steps k) (go.all_steps k) go.all_rank) (sym at) (subst (λ t. IsRowFor lists new m (stage_after go.all_steps t) (go.all_steps t) go.all_rank) (sym k_is) at_n)
                | inr ne ↦ old_row lists w o old new m has more j (stage_after go.all_steps k) (go.all_steps k) go.all_rank (omega arith) (go.rows_are k j (omega arith) (omega arith))
              ];
        }

  -- a removal more
  pub IsEnded-more : AreOpen lists alive w o → (old new : ConvexRows) (m : ℕ) → IsEnded lists s d old m alive w r → IsRowMore lists w o old new → IsEnded lists s d new (suc m) o.alive o.contour o.places
  IsEnded-more open_at old new m ended more =
      record {
        has = has_more lists w o old new m ended.has more;
        ends = λ steps n rank number built touched.
            goes_on old new m ended.has more steps n rank number built
            (ended.ends (steps' lists alive w r o steps n rank number simple contour off shore built) (suc n) (rank' lists alive w r o steps n rank number simple contour off shore built) (number' lists alive w r o steps n rank number simple contour off shore built)
            (built_after lists alive w r o steps n rank number simple contour off shore built touched)
            (λ i some l closed. elim (cases_goer lists alive w r o steps n rank number simple contour off shore built (w i)) [
              | inl at ↦ absurd (closed (subst (IsOpen lists alive) at.2 (open_at at.0 at.1)))
              | inr stays ↦ stayed_touched lists alive w r o steps n rank number simple contour off shore built touched i some l stays closed
            ]));
      }

-- the first removal after the face of the base
module _ (lists : Lists) (s d : ℕ) (simple : IsSimpleMap lists) (one : component_count lists ≡ 1) (polyhedral : IsPolyhedral lists) (three : HasThree lists) (base : HasDart lists s d) (alive : ℕ → Bool) (w : ℕ → ℕ) (r : ℕ) (f : IsFirst lists s d alive w r) (o : Removal) (off : IsTakenOff lists alive w r o) (first_is : o.first + 2 ≡ r) (one_is : o.vertices ≡ 1) (contour : IsContour lists o.alive o.contour o.places) where
  pub IsEnded-first : (old new : ConvexRows) → HasRows old 0 → IsRowMore lists w o old new → IsEnded lists s d new 1 o.alive o.contour o.places
  IsEnded-first old new has more =
      let shore = IsShore-contour lists o.alive o.contour o.places contour in
      record {
        has = has_more lists w o old new 0 has more;
        ends = λ steps n rank number built touched.
            let all = all_steps lists s d simple one polyhedral three base alive w r f o off first_is one_is shore steps n rank number built touched in
            let ranks = all_ranks lists s d simple one polyhedral three base alive w r f o off first_is one_is shore steps n rank number built touched in
            let z : suc n ≡ suc n + 0 = omega arith in
            goes_on lists s d alive w r o simple f.contour off shore old new 0 has more steps n rank number built
            (record {
              all_steps = all;
              all_rank = ranks;
              face = λ x y. numbered lists s d simple one polyhedral three base alive w r f o off first_is one_is shore steps n rank number built touched (face_of lists x y);
              run = subst (λ t. IsRunOf lists s d all t ranks (λ x y. numbered lists s d simple one polyhedral three base alive w r f o off first_is one_is shore steps n rank number built touched (face_of lists x y))) z
                  (run_is lists s d simple one polyhedral three base alive w r f o off first_is one_is shore steps n rank number built touched);
              same_steps = λ k l. refl;
              same_rank = λ v p. refl;
              rows_are = λ k j l e. absurd (omega arith);
            });
      }
