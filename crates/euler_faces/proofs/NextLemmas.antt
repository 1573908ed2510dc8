-- The dart after each in its list, as a table: how it is filled, and the corners that it shows.
use Rattle.std.proofs.Common.{◌≡◌, ◌≢◌, ℕ, zero, suc, ◌+◌, ◌-◌, ◌<◌, ◌≤◌, cond, eqb, List, ◌∷◌, length, get_or, set, sym, ap, ◌∙◌, inl, inr, arith, get_or-set_same, get_or-set_other, length-set}
use Rattle.std.proofs.lemmas.Bool.{cases_eq, cases_lt}
use Rattle.std.proofs.lemmas.Bool.Decides.{nat_tests}
use Rattle.classes.specs.Classes.{image}
use Rattle.map_lists.specs.Cuts.{cut, AreCuts}
use Rattle.std.specs.Int.Bits.{bit_or, bit_xor, xor_add_and}
use Rattle.std.proofs.lemmas.Nat.{le_or_l, le_or_r, and_le_l, and_le_r}
use Rattle.map_lists.proofs.CutLemmas.{AreCuts-at, length-cut}
use Rattle.map_theory.proofs.DartLemmas.{place_of_number}
use Rattle.map_theory.specs.Maps.{IsSimpleMap, darts, face_images}
use Rattle.simple_maps.specs.Tables.{AreTwins}
use Rattle.simple_maps.proofs.FlatLemmas.{count-is, end-is, start-is}
use Rattle.euler_faces.specs.Corners.{AreCornersBelow, AreNext}
use Rattle.euler_faces.proofs.OrbitLemmas.{twin_step}
use Rattle.euler_faces.proofs.TriangleLemmas.{corner_at}

-- lists end where the later ones begin, or before
ends_below : (ends : List ℕ) (total : ℕ) → AreCuts 0 ends total → (i w : ℕ) → i < w → w ≤ length ends → get_or ends i 0 ≤ get_or (0 ∷ ends) w 0
ends_below ends total cuts i zero l m = absurd (omega arith)
ends_below ends total cuts i (suc w) l m = elim (cases_lt i w) [
  | inl less ↦ omega (arith, ends_below ends total cuts i w less (omega arith), (AreCuts-at 0 ends total w cuts (omega arith)).0)
  | inr more ↦ (let e : i ≡ w = omega arith in omega (arith, ap (λ j. get_or ends j 0) e))
]

-- errors that are gathered are none where there is none of either
pub none_of_two : (a b : ℕ) → bit_or a b ≡ 0 → (a ≡ 0) × (b ≡ 0)
none_of_two a b e = (omega (arith, le_or_l a b), omega (arith, le_or_r a b))

pub same_bits : (a b : ℕ) → bit_xor a b ≡ 0 → a ≡ b
same_bits a b e = omega (arith, xor_add_and a b, and_le_l a b, and_le_r a b)

-- The lists before v have their next darts, and from start on, where list v begins, each dart has the one with the next number.
pub record AreNextTo (ends next : List ℕ) (start v : ℕ) : Type 0 where
  pub start_is : start ≡ get_or (0 ∷ ends) v 0
  pub before : (w d : ℕ) → w < v → get_or (0 ∷ ends) w 0 ≤ d → d < get_or ends w 0 → get_or next d 0 ≡ cond (eqb (d + 1) (get_or ends w 0)) (get_or (0 ∷ ends) w 0) (d + 1)
  pub rest : (d : ℕ) → start ≤ d → d < length next → get_or next d 0 ≡ d + 1

is_last : (x s d e : ℕ) → x ≡ s → d + 1 ≡ e → x ≡ cond (eqb (d + 1) e) s (d + 1)
is_last x s d e h l = grind (arith, nat_tests)

is_inner : (x s d e : ℕ) → x ≡ d + 1 → d + 1 < e → x ≡ cond (eqb (d + 1) e) s (d + 1)
is_inner x s d e h l = grind (arith, nat_tests)

-- one list more
pub AreNextTo-more : (ends next : List ℕ) (total start v behind v' : ℕ) → AreCuts 0 ends total → v < length ends → AreNextTo ends next start v → behind ≡ get_or ends v 0 → start < behind → behind ≤ length next → v' ≡ v + 1 → AreNextTo ends (set next (behind - 1) start) behind v'
AreNextTo-more ends next total start v behind v' cuts v_in h is less within step =
    let last = behind - 1 in
    let one : v' ≡ suc v = omega arith in
    rw one (record {
      start_is = is;
      before = λ w d l a b. elim (cases_lt w v) [
        | inl m ↦ (let other : d ≢ last = omega (arith, ends_below ends total cuts w v m (omega arith), h.start_is) in get_or-set_other next last d start 0 other ∙ h.before w d m a b)
        | inr m ↦
            (let same : w ≡ v = omega arith in
            let from = ap (λ x. get_or (0 ∷ ends) x 0) same in
            let to = ap (λ x. get_or ends x 0) same in
            let begins = h.start_is in
            elim (cases_eq d last) [
              | inl e ↦ is_last (get_or (set next last start) d 0) (get_or (0 ∷ ends) w 0) d (get_or ends w 0) (ap (λ x. get_or (set next last start) x 0) e ∙ (get_or-set_same next last start 0 (omega arith) ∙ omega arith)) (omega arith)
              | inr ne ↦ is_inner (get_or (set next last start) d 0) (get_or (0 ∷ ends) w 0) d (get_or ends w 0) (get_or-set_other next last d start 0 ne ∙ h.rest d (omega arith) (omega arith)) (omega arith)
            ])
      ];
      rest = λ d a b. let other : d ≢ last = omega arith in get_or-set_other next last d start 0 other ∙ h.rest d (omega arith) (omega (arith, length-set next last start));
    })

in_list : (x s d e n : ℕ) → s ≤ d → d < e → e ≤ n → x ≡ cond (eqb (d + 1) e) s (d + 1) → x < n
in_list x s d e n a b l is = grind (arith, nat_tests)

-- the dart before one in a list, cyclically
before_low : (s d e : ℕ) → s ≤ d → d < e → s ≤ cond (eqb d s) (e - 1) (d - 1)
before_low s d e a b = grind (arith, nat_tests)

before_high : (s d e : ℕ) → s ≤ d → d < e → cond (eqb d s) (e - 1) (d - 1) < e
before_high s d e a b = grind (arith, nat_tests)

after_before : (x s d e : ℕ) → s ≤ d → d < e → x ≡ cond (eqb (cond (eqb d s) (e - 1) (d - 1) + 1) e) s (cond (eqb d s) (e - 1) (d - 1) + 1) → x ≡ d
after_before x s d e a b is = grind (arith, nat_tests)

module _ (ends entries : List ℕ) (cuts : AreCuts 0 ends (length entries)) (next : List ℕ) (are : AreNext ends next) where
  -- each dart is in a list
  list-at : (d : ℕ) → d < length entries → (v : ℕ) × (v < length ends) × (get_or (0 ∷ ends) v 0 ≤ d) × (d < get_or ends v 0)
  list-at d l =
      let long = length-cut 0 ends entries in
      let p = place_of_number (cut 0 ends entries) d (omega (arith, count-is ends entries cuts)) in
      let v_in : p.0 < length ends = omega (arith, p.2.list_in) in
      let number : d ≡ get_or (0 ∷ ends) p.0 0 + p.1 = p.2.number ∙ ap (λ s. s + p.1) (start-is ends entries cuts p.0 (omega arith)) in
      (p.0, v_in, omega arith, omega (arith, end-is ends entries cuts p.0 v_in, p.2.entry_in))

  pub next-in : (d : ℕ) → d < length entries → get_or next d 0 < length entries
  next-in d l =
      let p = list-at d l in
      in_list (get_or next d 0) (get_or (0 ∷ ends) p.0 0) d (get_or ends p.0 0) (length entries) p.2 p.3 (AreCuts-at 0 ends (length entries) p.0 cuts p.1).1 (are p.0 d p.1 p.2 p.3)

  -- where from each dart the next one, its twin and the next one have the dart's head, all corners are those of triangles
  pub corners-shown : IsSimpleMap (cut 0 ends entries) → (twins : List ℕ) → AreTwins (darts (cut 0 ends entries)) twins (length (darts (cut 0 ends entries)))
      → ((e : ℕ) → e < length entries → get_or entries (get_or next (get_or twins (get_or next e 0) 0) 0) 0 ≡ get_or entries e 0) → AreCornersBelow (cut 0 ends entries) (length entries)
  corners-shown simple twins twins_are shown d l =
      let p = list-at d l in
      let v = p.0 in
      let s = get_or (0 ∷ ends) v 0 in
      let b = get_or ends v 0 in
      let e = cond (eqb d s) (b - 1) (d - 1) in
      let low = before_low s d b p.2 p.3 in
      let high = before_high s d b p.2 p.3 in
      let at = AreCuts-at 0 ends (length entries) v cuts p.1 in
      let back : get_or next e 0 ≡ d = after_before (get_or next e 0) s d b p.2 p.3 (are v e p.1 low high) in
      let step = twin_step ends entries cuts simple twins twins_are d l in
      let turned : get_or next (get_or twins d 0) 0 ≡ image (face_images (cut 0 ends entries)) d = are (get_or entries d 0) (get_or twins d 0) step.0 step.3.0 step.3.1 ∙ step.2 in
      corner_at ends entries cuts simple v d p.1 p.2 p.3 l
      (ap (λ x. get_or entries x 0) (sym turned) ∙ (ap (λ x. get_or entries (get_or next (get_or twins x 0) 0) 0) (sym back) ∙ shown e (omega (arith, high, at.1))))
