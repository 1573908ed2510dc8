-- What a few writes to the records of an arena leave.
use Rattle.std.proofs.Common.{ℕ, ◌<◌, ◌≡◌, true, false, cond, eqb, List, length, set, refl, sym, ap, ◌∙◌, inl, inr, arith}
use Rattle.std.proofs.lemmas.List.{length-set, get_or-set_same, get_or-set_other, set_past}
use Rattle.std.proofs.lemmas.Bool.{cases_lt, cases_eq, cond-true, cond-false, eq-eqb, ne_eqb}
use Rattle.std.proofs.lemmas.Bool.Decides.{nat_tests}
use Rattle.half_edges.specs.Arena.{no_record, record_at, twin_of, next_of, prev_of, tail_of, live_of}
use Rattle.half_edges.specs.Links.{IsSpliced, IsUnspliced, IsThreaded}
use Rattle.half_edges.specs.declared.dart_records.DartRecord.{DartRecord}

-- a part that the written record has as before is as before at each place
same_at : {A : Type 0} (part : DartRecord → A) (darts : List DartRecord) (i : ℕ) (r : DartRecord) (z : ℕ) → part r ≡ part (record_at darts i) → part (record_at (set darts i r) z) ≡ part (record_at darts z)
same_at part darts i r z e = grind (arith, cases_eq, cases_lt, length, record_at, set, get_or-set_same, no_record, set_past, get_or-set_other)

-- and one that it has anew is so there, and elsewhere as before
new_at : {A : Type 0} (part : DartRecord → A) (darts : List DartRecord) (i : ℕ) (r : DartRecord) (z : ℕ) → i < length darts → part (record_at (set darts i r) z) ≡ cond (eqb z i) (part r) (part (record_at darts z))
new_at part darts i r z within =
    elim (cases_eq z i) [
      | inl same ↦ ap (λ y. part (record_at (set darts i r) y)) same ∙ ap part (get_or-set_same darts i r no_record within) ∙ sym (cond-true (eqb z i) (part r) (part (record_at darts z)) (eq-eqb z i same))
      | inr other ↦ ap part (get_or-set_other darts i z r no_record other) ∙ sym (cond-false (eqb z i) (part r) (part (record_at darts z)) (ne_eqb z i other))
    ]

-- writes of one part
abbrev pub with_next : List DartRecord → ℕ → ℕ → List DartRecord
with_next darts i n = let r = record_at darts i in set darts i (record { twin = r.twin; next = n; prev = r.prev; tail = r.tail; live = r.live })

abbrev pub with_prev : List DartRecord → ℕ → ℕ → List DartRecord
with_prev darts i n = let r = record_at darts i in set darts i (record { twin = r.twin; next = r.next; prev = n; tail = r.tail; live = r.live })

abbrev pub with_dead : List DartRecord → ℕ → List DartRecord
with_dead darts i = let r = record_at darts i in set darts i (record { twin = r.twin; next = r.next; prev = r.prev; tail = r.tail; live = false })

-- each leaves the other parts
module _ (darts : List DartRecord) (i n z : ℕ) where
  next_in : i < length darts → next_of (with_next darts i n) z ≡ cond (eqb z i) n (next_of darts z)
  next_in l = new_at (λ (r : DartRecord). r.next) darts i _ z l

  prev_in : i < length darts → prev_of (with_prev darts i n) z ≡ cond (eqb z i) n (prev_of darts z)
  prev_in l = new_at (λ (r : DartRecord). r.prev) darts i _ z l

  past_next : {A : Type 0} (part : DartRecord → A) → ((r : DartRecord) (k : ℕ) → part (record r { next = k }) ≡ part r) → part (record_at (with_next darts i n) z) ≡ part (record_at darts z)
  past_next part same = same_at part darts i _ z (same (record_at darts i) n)

  past_prev : {A : Type 0} (part : DartRecord → A) → ((r : DartRecord) (k : ℕ) → part (record r { prev = k }) ≡ part r) → part (record_at (with_prev darts i n) z) ≡ part (record_at darts z)
  past_prev part same = same_at part darts i _ z (same (record_at darts i) n)

-- the three writes of a splice
module _ (old : List DartRecord) (d e n tail : ℕ) (d_in : d < length old) (e_in : e < length old) (n_in : n < length old) (alone : e ≡ d → n ≡ d) (alone_too : n ≡ d → e ≡ d) where
  abbrev one : List DartRecord
  one = set old d (record { twin = twin_of old d; next = n; prev = e; tail = tail; live = true })

  abbrev two : List DartRecord
  two = with_next one e d

  abbrev three : List DartRecord
  three = with_prev two n d

  in_one : length one ≡ length old
  in_one = length-set old d _

  in_two : length two ≡ length old
  in_two = length-set one e _ ∙ in_one

  next_three : (z : ℕ) → next_of three z ≡ cond (eqb z e) d (cond (eqb z d) n (next_of old z))
  next_three z =
      past_prev two n d z (λ (r : DartRecord). r.next) (λ r k. refl) ∙ next_in one e d z (omega (arith, in_one))
      ∙ ap (λ k. cond (eqb z e) d k) (new_at (λ (r : DartRecord). r.next) old d _ z d_in)

  prev_three : (z : ℕ) → prev_of three z ≡ cond (eqb z n) d (cond (eqb z d) e (prev_of old z))
  prev_three z =
      prev_in two n d z (omega (arith, in_two))
      ∙ ap (λ k. cond (eqb z n) d k) (past_next one e d z (λ (r : DartRecord). r.prev) (λ r k. refl) ∙ new_at (λ (r : DartRecord). r.prev) old d _ z d_in)

  part_three : {A : Type 0} (part : DartRecord → A) (z : ℕ) → ((r : DartRecord) (k : ℕ) → part (record r { next = k }) ≡ part r) → ((r : DartRecord) (k : ℕ) → part (record r { prev = k }) ≡ part r) → part (record_at three z) ≡ part (record_at one z)
  part_three part z by_next by_prev = past_prev two n d z part by_prev ∙ past_next one e d z part by_next

  tail_three : (z : ℕ) → tail_of three z ≡ cond (eqb z d) tail (tail_of old z)
  tail_three z = part_three (λ (r : DartRecord). r.tail) z (λ r k. refl) (λ r k. refl) ∙ new_at (λ (r : DartRecord). r.tail) old d _ z d_in

  live_three : (z : ℕ) → live_of three z ≡ cond (eqb z d) true (live_of old z)
  live_three z = part_three (λ (r : DartRecord). r.live) z (λ r k. refl) (λ r k. refl) ∙ new_at (λ (r : DartRecord). r.live) old d _ z d_in

  pub IsSpliced-writes : IsSpliced old three d e n tail
  IsSpliced-writes = record {
    count = length-set two n _ ∙ in_two;
    next_here = let f = next_three d in grind (arith, nat_tests);
    next_before = let f = next_three e in grind (arith, nat_tests);
    next_other = λ z not_d not_e. let f = next_three z in grind (arith, nat_tests);
    prev_here = let f = prev_three d in grind (arith, nat_tests);
    prev_after = let f = prev_three n in grind (arith, nat_tests);
    prev_other = λ z not_d not_n. let f = prev_three z in grind (arith, nat_tests);
    twins = λ z. part_three (λ (r : DartRecord). r.twin) z (λ r k. refl) (λ r k. refl) ∙ same_at (λ (r : DartRecord). r.twin) old d _ z refl;
    tail_here = let f = tail_three d in grind (arith, nat_tests);
    tail_other = λ z not_d. let f = tail_three z in grind (arith, nat_tests);
    live_here = live_three d ∙ cond-true (eqb d d) true (live_of old d) (eq-eqb d d refl);
    live_other = λ z not_d. live_three z ∙ cond-false (eqb z d) true (live_of old z) (ne_eqb z d not_d);
  }

-- the three writes that take a dart out
module _ (old : List DartRecord) (d : ℕ) (d_in : d < length old) (before_in : prev_of old d < length old) (after_in : next_of old d < length old) where
  abbrev less_one : List DartRecord
  less_one = with_next old (prev_of old d) (next_of old d)

  abbrev less_two : List DartRecord
  less_two = with_prev less_one (next_of old d) (prev_of old d)

  in_less_one : length less_one ≡ length old
  in_less_one = length-set old (prev_of old d) _

  in_less_two : length less_two ≡ length old
  in_less_two = length-set less_one (next_of old d) _ ∙ in_less_one

  part_less : {A : Type 0} (part : DartRecord → A) (z : ℕ) → ((r : DartRecord) (k : ℕ) → part (record r { next = k }) ≡ part r) → ((r : DartRecord) (k : ℕ) → part (record r { prev = k }) ≡ part r) → part (record_at less_two z) ≡ part (record_at old z)
  part_less part z by_next by_prev = past_prev less_one (next_of old d) (prev_of old d) z part by_prev ∙ past_next old (prev_of old d) (next_of old d) z part by_next

  next_less : (z : ℕ) → next_of (with_dead less_two d) z ≡ cond (eqb z (prev_of old d)) (next_of old d) (next_of old z)
  next_less z =
      same_at (λ (r : DartRecord). r.next) less_two d _ z refl ∙ past_prev less_one (next_of old d) (prev_of old d) z (λ (r : DartRecord). r.next) (λ r k. refl)
      ∙ next_in old (prev_of old d) (next_of old d) z before_in

  prev_less : (z : ℕ) → prev_of (with_dead less_two d) z ≡ cond (eqb z (next_of old d)) (prev_of old d) (prev_of old z)
  prev_less z =
      same_at (λ (r : DartRecord). r.prev) less_two d _ z refl ∙ prev_in less_one (next_of old d) (prev_of old d) z (omega (arith, in_less_one, after_in))
      ∙ ap (λ k. cond (eqb z (next_of old d)) (prev_of old d) k) (past_next old (prev_of old d) (next_of old d) z (λ (r : DartRecord). r.prev) (λ r k. refl))

  live_less : (z : ℕ) → live_of (with_dead less_two d) z ≡ cond (eqb z d) false (live_of old z)
  live_less z =
      new_at (λ (r : DartRecord). r.live) less_two d _ z (omega (arith, in_less_two, d_in))
      ∙ ap (λ b. cond (eqb z d) false b) (part_less (λ (r : DartRecord). r.live) z (λ r k. refl) (λ r k. refl))

  pub IsUnspliced-writes : IsUnspliced old (with_dead less_two d) d
  IsUnspliced-writes = record {
    count = length-set less_two d _ ∙ in_less_two;
    next_before = let f = next_less (prev_of old d) in grind (arith, nat_tests);
    next_other = λ z not_p. let f = next_less z in grind (arith, nat_tests);
    prev_after = let f = prev_less (next_of old d) in grind (arith, nat_tests);
    prev_other = λ z not_n. let f = prev_less z in grind (arith, nat_tests);
    twins = λ z. same_at (λ (r : DartRecord). r.twin) less_two d _ z refl ∙ part_less (λ (r : DartRecord). r.twin) z (λ r k. refl) (λ r k. refl);
    tails = λ z. same_at (λ (r : DartRecord). r.tail) less_two d _ z refl ∙ part_less (λ (r : DartRecord). r.tail) z (λ r k. refl) (λ r k. refl);
    dead = live_less d ∙ cond-true (eqb d d) false (live_of old d) (eq-eqb d d refl);
    live_other = λ z not_d. live_less z ∙ cond-false (eqb z d) false (live_of old z) (ne_eqb z d not_d);
  }

-- the three writes that put an edge before the free ones
module _ (old : List DartRecord) (d t free spare : ℕ) (d_in : d < length old) (t_in : t < length old) where
  abbrev free_one : List DartRecord
  free_one = with_next old d free

  abbrev free_two : List DartRecord
  free_two = with_prev free_one d spare

  in_free_one : length free_one ≡ length old
  in_free_one = length-set old d _

  in_free_two : length free_two ≡ length old
  in_free_two = length-set free_one d _ ∙ in_free_one

  part_free : {A : Type 0} (part : DartRecord → A) (z : ℕ) → ((r : DartRecord) (k : ℕ) → part (record r { next = k }) ≡ part r) → ((r : DartRecord) (k : ℕ) → part (record r { prev = k }) ≡ part r) → part (record_at (with_prev free_two t spare) z) ≡ part (record_at old z)
  part_free part z by_next by_prev = past_prev free_two t spare z part by_prev ∙ past_prev free_one d spare z part by_prev ∙ past_next old d free z part by_next

  prev_free : (z : ℕ) → prev_of (with_prev free_two t spare) z ≡ cond (eqb z t) spare (cond (eqb z d) spare (prev_of free_one z))
  prev_free z = prev_in free_two t spare z (omega (arith, in_free_two)) ∙ ap (λ k. cond (eqb z t) spare k) (prev_in free_one d spare z (omega (arith, in_free_one)))

  pub IsThreaded-writes : IsThreaded old (with_prev free_two t spare) d t free spare
  IsThreaded-writes = record {
    count = length-set free_two t _ ∙ in_free_two;
    next_here =
        past_prev free_two t spare d (λ (r : DartRecord). r.next) (λ r k. refl) ∙ past_prev free_one d spare d (λ (r : DartRecord). r.next) (λ r k. refl)
        ∙ (let f = next_in old d free d d_in in grind (arith, nat_tests));
    prev_here = let f = prev_free d in grind (arith, nat_tests);
    prev_twin = let f = prev_free t in grind (arith, nat_tests);
    other = λ z not_d not_t. get_or-set_other free_two t z _ no_record not_t ∙ get_or-set_other free_one d z _ no_record not_d ∙ get_or-set_other old d z _ no_record not_d;
    twins = λ z. part_free (λ (r : DartRecord). r.twin) z (λ r k. refl) (λ r k. refl);
    tails = λ z. part_free (λ (r : DartRecord). r.tail) z (λ r k. refl) (λ r k. refl);
    lives = λ z. part_free (λ (r : DartRecord). r.live) z (λ r k. refl) (λ r k. refl);
  }
