-- How a run that makes its record ends, and sums over points.
use Rattle.std.proofs.Common.{◌≡◌, ℕ, List, [], ◌∷◌, ◌++◌, take, Option, Some, ℤ, ◌+ℤ◌, slice_get, suc, true, refl, sym, ap, subst, ◌∙◌, arith, inl, inr}
use Rattle.std.proofs.Math.Seq.{take-suc}
use Rattle.std.proofs.lemmas.Int.{ints}
use Rattle.std.proofs.lemmas.List.{append-nil}
use Rattle.std.proofs.lemmas.Option.{slice_get_within, get_or_from_slice_get}
use Rattle.pg_plane.specs.declared.grid_points.Point.{Point}
use Rattle.map_gen.specs.Stacked.{stacked}
use Rattle.map_lists.specs.Lists.{Lists}
use Rattle.pg_io.specs.Io.{Grows, GrowsByPrefix, HasRisen}
use Rattle.pg_io.proofs.Growth.{GrowsByPrefix-none}
use Rattle.record_runs.specs.Texts.{AreBlocks}
use Rattle.record_runs.specs.Outcome.{ports, Outcome}
use Rattle.record_runs.specs.declared.main_loop.RunEnd.TheVariants.{Done, WriteFault, NoMemory}
use Rattle.planar_code.specs.Reading.{well}
use Rattle.pigale_shell.specs.Text.{last_line}
use Rattle.pigale_shell.specs.Made.{total, IsMadeBlock, made, made_answers}

-- one point more
total-append : (f : Point → ℤ) (ps qs : List Point) → total f (ps ++ qs) ≡ total f ps +ℤ total f qs
total-append f [] qs = omega (arith, ints)
total-append f (p ∷ ps) qs = omega (arith, ints, total-append f ps qs)

pub total-suc : (f : Point → ℤ) (points : List Point) (i : ℕ) (p : Point) → slice_get points i ≡ Some p → total f (take (suc i) points) ≡ total f (take i points) +ℤ f p
total-suc f points i p at =
    let parts : take (suc i) points ≡ take i points ++ p ∷ [] =
    take-suc points i p (slice_get_within points i p at) ∙ ap (λ (q : Point). take i points ++ q ∷ []) (get_or_from_slice_get points i p p at) in
    let last : total f (p ∷ []) ≡ f p = omega (arith, ints) in
    ap (total f) parts ∙ total-append f (take i points) (p ∷ []) ∙ ap (λ (z : ℤ). total f (take i points) +ℤ z) last

-- the block is the text of the one record
block-alone : (lists : Lists) (block : List ℕ) → IsMadeBlock 1 lists block → AreBlocks IsMadeBlock 1 (lists ∷ []) block
block-alone lists block is = (block, [], is, refl, sym (append-nil block))

module _ (size number reads : ℕ) {written written' : Option (List ℕ)} {writes writes' : ℕ} where
  -- the whole text was written
  pub made-whole : (block bytes : List ℕ) → IsMadeBlock 1 (stacked size number) block → bytes ≡ block ++ last_line 1 0 well → Grows written written' bytes → writes' ≡ writes → Outcome (made size number) made_answers (ports (Some []) reads written writes) (ports (Some []) reads written' writes') Done
  made-whole block bytes is text grows kept = (
    (refl, kept),
    λ input told. (
      refl,
      record {
        records = stacked size number ∷ [];
        blocks = block;
        reading = refl;
        answers = block-alone (stacked size number) block is;
        counted = (true, 0, refl, refl, refl);
        grows = subst (Grows written written') text grows;
      },
    ),
  )

  -- some first bytes of the text were written
  pub made-cut : (block bytes : List ℕ) → IsMadeBlock 1 (stacked size number) block → bytes ≡ block ++ last_line 1 0 well → GrowsByPrefix written written' bytes → HasRisen writes writes' → Outcome (made size number) made_answers (ports (Some []) reads written writes) (ports (Some []) reads written' writes') WriteFault
  made-cut block bytes is text grows risen = (
    risen,
    refl,
    λ input told. record {
      records = stacked size number ∷ [];
      blocks = block;
      last = last_line 1 0 well;
      begins = inr refl;
      answers = block-alone (stacked size number) block is;
      last_is = inr (tt, 0, refl, (true, 0, refl, refl, refl), refl);
      grows = subst (GrowsByPrefix written written') text grows;
    },
  )

-- nothing was written
pub made-none : (size number reads writes : ℕ) (written : Option (List ℕ)) → Outcome (made size number) made_answers (ports (Some []) reads written writes) (ports (Some []) reads written writes) NoMemory
made-none size number reads writes written = (
  (refl, refl),
  λ input told. record {
    records = [];
    blocks = [];
    last = [];
    begins = inl refl;
    answers = refl;
    last_is = inl refl;
    grows = GrowsByPrefix-none [] refl;
  },
)
