-- A connected map of which all edges but those of a tree are nested in its tour: the innermost chord round each corner tells its face.
use Rattle.std.proofs.Common.{◌≡◌, ℕ, suc, ◌+◌, ◌*◌, ◌<◌, ◌≤◌, Bool, false, sym, ap, ◌∙◌, inl, inr, arith}
use Rattle.std.proofs.lemmas.Bool.{cases_Bool, cases_lt, cond-true, cond-false}
use Rattle.classes.specs.Classes.{count_below}
use Rattle.map_lists.specs.Lists.{Lists}
use Rattle.map_theory.specs.Maps.{Dart, twin_dart, HasDart, IsSimpleMap, IsPlane, follows, face_step, dart_count, vertex_count, component_count}
use Rattle.map_theory.proofs.DartPermutations.{two_m}
use Rattle.embed_surgery.proofs.Marks.{genus_by_marks, KeepsFaces, HasMarks}
use Rattle.left_right_laws.specs.Tours.{tour_step, IsTour, IsChord, AreNested}
use Rattle.left_right_laws.proofs.Nested.{IsPaired, ArePairsNested, mark, mark_single, mark_over, mark_begin, mark_end, mark_last, mark_first, pair_count, marked, marked_count, marked-mark}

module _ (lists : Lists) (along : ℕ → ℕ → Bool) (at : ℕ → Dart) (place : Dart → ℕ) (simple : IsSimpleMap lists) (turned : (v u : ℕ) → along v u ≡ along u v) (tour : IsTour lists along at place) where
  abbrev n : ℕ
  n = dart_count lists

  -- the tour goes along the dart at a place
  abbrev pub single : ℕ → Bool
  single p = along (at p).0 (at p).1

  -- the place of the dart the other way
  abbrev pub partner : ℕ → ℕ
  partner p = place (twin_dart (at p))

  pub has : (p : ℕ) → p < n → HasDart lists (at p).0 (at p).1
  has p m = tour.darts p m

  pub has_twin : (p : ℕ) → p < n → HasDart lists (at p).1 (at p).0
  has_twin p m = simple.both_ways (at p).0 (at p).1 (has p m)

  pub partner_in : (p : ℕ) → p < n → partner p < n
  partner_in p m = tour.places (at p).1 (at p).0 (has_twin p m)

  pub at_partner : (p : ℕ) → p < n → at (partner p) ≡ twin_dart (at p)
  at_partner p m = tour.there (at p).1 (at p).0 (has_twin p m)

  pub partner_back : (p : ℕ) → p < n → partner (partner p) ≡ p
  partner_back p m = ap (λ d. place (twin_dart d)) (at_partner p m) ∙ tour.back p m

  chord : (p : ℕ) → p < n → single p ≡ false → IsChord lists along (at p)
  chord p m e = (has p m, e)

  pub paired : IsPaired n single partner
  paired =
      record {
        within = λ p m e. partner_in p m;
        both = λ p m e. ap (λ d. along d.0 d.1) (at_partner p m) ∙ (turned (at p).1 (at p).0 ∙ e);
        back = λ p m e. partner_back p m;
        other = λ p m e same. simple.no_loop (at p).0 (at p).1 (has p m) (ap (λ d. d.0) (sym (at_partner p m) ∙ ap at same));
      }

  pub pairs_nested : AreNested lists along place → ArePairsNested n single partner
  pairs_nested nested p q mp mq ep eq first next last =
      nested (at p) (at q) (chord p mp ep) (chord q mq eq) (omega arith) (omega arith) last

  -- the mark of a dart: the innermost chord round the corner before it
  abbrev M : ℕ → ℕ
  M = mark n single partner paired

  abbrev pub mark_of : Dart → ℕ
  mark_of d = M (place d)

  -- the next dart of the tour has the mark of the next place
  mark_next : (p : ℕ) → p < n → M (place (tour_step along lists (at p))) ≡ M (suc p)
  mark_next p m =
      elim (cases_lt (suc p) n) [
        | inl l ↦ ap (λ d. M (place d)) (tour.next p l) ∙ ap M (tour.back (suc p) l)
        | inr l ↦
            let e : suc p ≡ n = omega arith in
            ap (λ d. M (place d)) (tour.round p e) ∙ (ap M (tour.back 0 (omega arith)) ∙ (mark_first n single partner paired ∙ (sym (mark_last n single partner paired) ∙ ap M (sym e))))
      ]

  -- behind the partner of a chord's place the mark is that of the place
  mark_chord : AreNested lists along place → (p : ℕ) → p < n → single p ≡ false → M (suc (partner p)) ≡ M p
  mark_chord nested p m e =
      elim (cases_lt p (partner p)) [
        | inl first ↦ mark_over n single partner paired (pairs_nested nested) p m e first
        | inr last ↦
            let q = partner p in
            let lq = partner_in p m in
            let back = partner_back p m in
            let eq = paired.both p m e in
            let first : q < partner q = omega (arith, paired.other p m e) in
            mark_begin n single partner paired q lq eq first ∙ (sym (mark_end n single partner paired (pairs_nested nested) q lq eq first) ∙ ap M back)
      ]

  keeps_at : AreNested lists along place → (p : ℕ) → p < n → mark_of (face_step lists (at p)) ≡ M p
  keeps_at nested p m =
      let d = at p in
      elim (cases_Bool (single p)) [
        | inl e ↦
            let step : tour_step along lists d ≡ face_step lists d = cond-true {A = Dart} (along d.0 d.1) (face_step lists d) (d.0, follows lists d.0 d.1) e in
            ap mark_of (sym step) ∙ (mark_next p m ∙ mark_single n single partner paired p m e)
        | inr e ↦
            let q = partner p in
            let c = twin_dart d in
            let off : along c.0 c.1 ≡ false = turned c.0 c.1 ∙ e in
            let step : tour_step along lists c ≡ face_step lists d = cond-false {A = Dart} (along c.0 c.1) (face_step lists c) (c.0, follows lists c.0 c.1) off in
            ap mark_of (sym step) ∙ (ap (λ c. mark_of (tour_step along lists c)) (sym (at_partner p m)) ∙ (mark_next q (partner_in p m) ∙ mark_chord nested p m e))
      ]

  keeps : AreNested lists along place → KeepsFaces lists mark_of
  keeps nested u v h =
      ap (λ d. mark_of (face_step lists d)) (sym (tour.there u v h)) ∙ keeps_at nested (place (u, v)) (tour.places u v h)

  abbrev test : ℕ → Bool
  test = marked n single partner paired

  marks : HasMarks lists mark_of n test
  marks =
      record {
        pick = at;
        darts = λ j m t. has j m;
        marked = λ j m t. ap M (tour.back j m) ∙ marked-mark n single partner paired j m t;
      }

  pub plane : AreNested lists along place → 0 < n → component_count lists ≡ 1 → count_below single n + 2 ≤ 2 * vertex_count lists → IsPlane lists
  plane nested some one tree =
      let faces = marked_count n single partner paired some in
      genus_by_marks lists mark_of n test simple (keeps nested) marks (omega (arith, pair_count n single partner paired))
