-- The tails of the darts of walks, one after another.
use Rattle.std.proofs.Common.{ℕ, ◌+◌, ◌<◌, ◌≡◌, inl, List, [], ◌∷◌, ◌++◌, length, get_or, take, Option, Some, None, refl, sym, ap, ◌∙◌, subst, arith, below_more}
use Rattle.std.specs.Prelude.{option_map, unwrap_or}
use Rattle.std.proofs.lemmas.List.{length-append, length-take-le, get_or-take, get_or_append_left}
use Rattle.std.proofs.Math.Seq.{get_or-append_seam}
use Rattle.map_theory.specs.Maps.{Dart}
use Rattle.half_edges.specs.Map.{Map, dart_at}
use Rattle.pigale_c.specs.Walked.{HasTails, AreTails, AreFacesWritten}
use Rattle.pigale_c.specs.Arrays.{lists_in, IsGivenMap}
use Rattle.pigale_c.specs.Failures.{Fails}
use Rattle.refusals.specs.Conditions.{fault_refusal}
use Rattle.pigale_c.specs.declared.outcome.Failure.{Failure}
use Rattle.pigale_c.specs.declared.outcome.Failure.TheVariants.{BadEdge, Refused, NoMemory, BadArgument}
use Rattle.pigale_c.specs.declared.outcome.Outcome.TheVariants.{Failed}

-- a dart by its tail
pub by_tail : (o : Option Dart) (v : ℕ) → option_map (λ (d : Dart). d.0) o ≡ Some v → (u : ℕ) × (o ≡ Some (v, u))
by_tail None v e = absurd (let none : None ≡ Some v = e in cc)
by_tail (Some (x, y)) v e = let same : x ≡ v = ap (λ (o : Option ℕ). unwrap_or o 0) e in (y, ap (λ (w : ℕ). Some (w, y)) same)

pub no_tails : (map : Map) → HasTails map [] []
no_tails map = record { count = refl; each = λ i l. absurd (omega (arith, l)) }

-- a tail more
pub more_tails : (map : Map) (walk row row' : List ℕ) (i v : ℕ) → HasTails map (take i walk) row → i < length walk → (u : ℕ) × (dart_at map (get_or walk i 0) ≡ Some (v, u)) → row' ≡ row ++ v ∷ [] → HasTails map (take (i + 1) walk) row'
more_tails map walk row row' i v h l here is = subst (λ (r : List ℕ). HasTails map (take (i + 1) walk) r) (sym is) (record {
  count = omega (arith, long, length-append row (v ∷ []), wide);
  each = each;
})
  where
    wide : length (take (i + 1) walk) ≡ i + 1
    wide = length-take-le (i + 1) walk (omega (arith, l))

    long : length row ≡ i
    long = h.count ∙ length-take-le i walk (omega (arith, l))

    Has : ℕ → Type 0
    Has k = (u : ℕ) × (dart_at map (get_or (take (i + 1) walk) k 0) ≡ Some (get_or (row ++ v ∷ []) k 0, u))

    old : (k : ℕ) → k < i → Has k
    old k m =
        let r = h.each k (omega (arith, m, length-take-le i walk (omega (arith, l)))) in
        (r.0, ap (λ (d : ℕ). dart_at map d) (get_or-take (i + 1) walk k 0 (omega (arith, m)) ∙ sym (get_or-take i walk k 0 m)) ∙ r.1 ∙ ap (λ (w : ℕ). Some (w, r.0)) (sym (get_or_append_left row (v ∷ []) 0 k (omega (arith, m, long)))))

    new : Has i
    new =
        let tail : get_or (row ++ v ∷ []) i 0 ≡ v = ap (λ (j : ℕ). get_or (row ++ v ∷ []) j 0) (sym long) ∙ get_or-append_seam row v [] 0 in
        (here.0, ap (λ (d : ℕ). dart_at map d) (get_or-take (i + 1) walk i 0 (omega arith)) ∙ here.1 ∙ ap (λ (w : ℕ). Some (w, here.0)) (sym tail))

    each : (k : ℕ) → k < length (take (i + 1) walk) → Has k
    each k m = below_more Has i old new k (omega (arith, m, wide))

-- a walk more
pub more_rows : (map : Map) (walks rows rows' : List (List ℕ)) (f : ℕ) (row : List ℕ) → AreTails map (take f walks) rows → f < length walks → HasTails map (get_or walks f []) row → rows' ≡ rows ++ row ∷ [] → AreTails map (take (f + 1) walks) rows'
more_rows map walks rows rows' f row h l here is = subst (λ (r : List (List ℕ)). AreTails map (take (f + 1) walks) r) (sym is) (record {
  count = omega (arith, long, length-append rows (row ∷ []), wide);
  each = each;
})
  where
    wide : length (take (f + 1) walks) ≡ f + 1
    wide = length-take-le (f + 1) walks (omega (arith, l))

    long : length rows ≡ f
    long = h.count ∙ length-take-le f walks (omega (arith, l))

    Has : ℕ → Type 0
    Has k = HasTails map (get_or (take (f + 1) walks) k []) (get_or (rows ++ row ∷ []) k [])

    old : (k : ℕ) → k < f → Has k
    old k m =
        subst (λ (w : List ℕ). HasTails map w (get_or (rows ++ row ∷ []) k [])) (get_or-take f walks k [] m ∙ sym (get_or-take (f + 1) walks k [] (omega (arith, m))))
        (subst (λ (r : List ℕ). HasTails map (get_or (take f walks) k []) r) (sym (get_or_append_left rows (row ∷ []) [] k (omega (arith, m, long))))
        (h.each k (omega (arith, m, length-take-le f walks (omega (arith, l))))))

    new : Has f
    new =
        let one : get_or (rows ++ row ∷ []) f [] ≡ row = ap (λ (j : ℕ). get_or (rows ++ row ∷ []) j []) (sym long) ∙ get_or-append_seam rows row [] [] in
        subst (λ (w : List ℕ). HasTails map w (get_or (rows ++ row ∷ []) f [])) (sym (get_or-take (f + 1) walks f [] (omega arith))) (subst (λ (r : List ℕ). HasTails map (get_or walks f []) r) (sym one) here)

    each : (k : ℕ) → k < length (take (f + 1) walks) → Has k
    each k m = below_more Has f old new k (omega (arith, m, wide))

pub faced_not : (ends neighbours face_ends walk : List ℕ) (count : ℕ) (failure : Failure) → Fails (IsGivenMap ends neighbours) (λ refusal. fault_refusal (lists_in ends neighbours) ≡ Some refusal) failure → AreFacesWritten ends neighbours face_ends walk count face_ends walk count (Failed failure)
faced_not ends neighbours face_ends walk count (BadEdge fault) h = absurd h
faced_not ends neighbours face_ends walk count (Refused refusal) h = (h, refl, refl, refl)
faced_not ends neighbours face_ends walk count NoMemory h = (h, refl, refl, refl)
faced_not ends neighbours face_ends walk count BadArgument h = (inl h, refl, refl, refl)
