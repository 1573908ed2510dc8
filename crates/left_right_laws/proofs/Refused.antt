-- Statements that are wrong, though near those of the laws.
use Rattle.std.proofs.Common.{◌≡◌, ◌≢◌, ℕ, zero, suc, ◌+◌, ◌*◌, ◌<◌, Bool, not, eqb, ltb, List, [], ◌∷◌, length, get_or, Contains, refl, sym, ap, ◌∙◌, subst, inl, inr, arith}
use Rattle.std.specs.Prelude.{◌&&◌, ◌||◌}
use Rattle.std.proofs.Math.Bool.{or_comm}
use Rattle.classes.specs.Classes.{count_below, merge}
use Rattle.map_lists.specs.Lists.{Lists}
use Rattle.map_theory.specs.Maps.{Dart, HasDart, IsSimpleMap, IsPlane, list_of, place_of, entry_after, dart_count, vertex_count, face_count, component_count}
use Rattle.map_theory.proofs.DartLemmas.{Contains-from_place_of, place_of-lt-length}
use Rattle.simple_maps.specs.Faults.{first_fault}
use Rattle.simple_maps.proofs.FaultLemmas.{IsSimpleMap-from_first_fault}
use Rattle.left_right_laws.specs.Ways.{IsInTurn, first_on, last_on, AreThreeWays}
use Rattle.left_right_laws.specs.Tours.{tour_step, IsTour}
use Rattle.left_right_laws.specs.Forests.{IsReturn, IsLeftRight}
use Rattle.left_right_laws.proofs.Turns.{turn_not_both}
use Rattle.left_right_laws.proofs.ThreeWays.{three_ways}
use Rattle.left_right_laws.proofs.Lines.{AllPairs-more}
use Rattle.left_right_laws.proofs.Cases.{no_fixed_bit}

-- three ways that reach the one end in the order in which they leave the other
one_order_at_both : (lists : Lists) (x y : ℕ) (us vs ws : List ℕ) → IsSimpleMap lists → IsPlane lists → AreThreeWays lists x y us vs ws → IsInTurn (list_of lists x) (first_on us y) (first_on vs y) (first_on ws y) → ¬ IsInTurn (list_of lists y) (last_on x us) (last_on x vs) (last_on x ws)
one_order_at_both lists x y us vs ws simple plane ways turn same =
    turn_not_both (list_of lists y) (last_on x us) (last_on x vs) (last_on x ws) same ((three_ways lists x y us vs ws simple plane ways).0 turn)

-- K2,3 in a map of genus one: the vertices 0 and 1 have the others in one order
abbrev twisted : Lists
twisted = (2 ∷ 3 ∷ 4 ∷ []) ∷ (2 ∷ 3 ∷ 4 ∷ []) ∷ (0 ∷ 1 ∷ []) ∷ (0 ∷ 1 ∷ []) ∷ (0 ∷ 1 ∷ []) ∷ []

simple : IsSimpleMap twisted
unfolding first_fault
simple = IsSimpleMap-from_first_fault twisted (omega arith) refl

has : (us : List ℕ) (u : ℕ) → place_of u us < length us → Contains us u
has us u l = Contains-from_place_of u us l

lacks : (us : List ℕ) (u : ℕ) → length us ≡ place_of u us → ¬ Contains us u
lacks us u e c = omega (arith, e, place_of-lt-length u us c)

three : AreThreeWays twisted 0 1 (2 ∷ []) (3 ∷ []) (4 ∷ [])
three =
    record {
      one = ((omega arith, has (2 ∷ 3 ∷ 4 ∷ []) 2 (omega arith)), (omega arith, has (0 ∷ 1 ∷ []) 1 (omega arith)));
      two = ((omega arith, has (2 ∷ 3 ∷ 4 ∷ []) 3 (omega arith)), (omega arith, has (0 ∷ 1 ∷ []) 1 (omega arith)));
      three = ((omega arith, has (2 ∷ 3 ∷ 4 ∷ []) 4 (omega arith)), (omega arith, has (0 ∷ 1 ∷ []) 1 (omega arith)));
      apart = AllPairs-more 0 (1 ∷ 2 ∷ 3 ∷ 4 ∷ []) (lacks (1 ∷ 2 ∷ 3 ∷ 4 ∷ []) 0 refl)
          (AllPairs-more 1 (2 ∷ 3 ∷ 4 ∷ []) (lacks (2 ∷ 3 ∷ 4 ∷ []) 1 refl) (simple.no_repeat 0 (omega arith)));
    }

-- the law of three ways for maps of any genus
any_genus : ((lists : Lists) (x y : ℕ) (us vs ws : List ℕ) → IsSimpleMap lists → AreThreeWays lists x y us vs ws → IsInTurn (list_of lists x) (first_on us y) (first_on vs y) (first_on ws y) → IsInTurn (list_of lists y) (last_on x ws) (last_on x vs) (last_on x us)) → ⊥
any_genus wrong =
    let turn : IsInTurn (2 ∷ 3 ∷ 4 ∷ []) 2 3 4 = inl (omega arith, omega arith) in
    turn_not_both (2 ∷ 3 ∷ 4 ∷ []) 2 3 4 turn (wrong twisted 0 1 (2 ∷ []) (3 ∷ []) (4 ∷ []) simple three turn)

-- K2,3 of genus one, with the tour along all its edges but those from 1 to 3 and 4, which cross in it
abbrev chord : ℕ → ℕ → Bool
chord v u = eqb v 1 && ltb 2 u

abbrev along : ℕ → ℕ → Bool
along v u = not (chord v u || chord u v)

abbrev at : ℕ → Dart
at p = get_or ((0, 2) ∷ (2, 1) ∷ (1, 3) ∷ (1, 4) ∷ (1, 2) ∷ (2, 0) ∷ (0, 3) ∷ (3, 1) ∷ (3, 0) ∷ (0, 4) ∷ (4, 1) ∷ (4, 0) ∷ []) p (0, 0)

abbrev place : Dart → ℕ
place d = get_or (get_or ((0 ∷ 0 ∷ 0 ∷ 6 ∷ 9 ∷ []) ∷ (0 ∷ 0 ∷ 4 ∷ 2 ∷ 3 ∷ []) ∷ (5 ∷ 1 ∷ []) ∷ (8 ∷ 7 ∷ []) ∷ (11 ∷ 10 ∷ []) ∷ []) d.0 []) d.1 0

one_of_three : (P : ℕ → Type 0) (a b c x : ℕ) → Contains (a ∷ b ∷ c ∷ []) x → P a → P b → P c → P x
one_of_three P a b c x x5 p q r = grind arith

one_of_two : (P : ℕ → Type 0) (a b x : ℕ) → Contains (a ∷ b ∷ []) x → P a → P b → P x
one_of_two P a b x (zero, l, e) p q = subst P e p
one_of_two P a b x (suc zero, l, e) p q = subst P e q
one_of_two P a b x (suc (suc k), l, e) p q = absurd (omega arith)

each_dart : (P : ℕ → ℕ → Type 0) → P 0 2 → P 0 3 → P 0 4 → P 1 2 → P 1 3 → P 1 4 → P 2 0 → P 2 1 → P 3 0 → P 3 1 → P 4 0 → P 4 1 → (x y : ℕ) → HasDart twisted x y → P x y
each_dart P a b c d e f g h i j k l x13 y has = grind (arith, has, one_of_three, one_of_two)

each_place : (P : ℕ → Type 0) → P 0 → P 1 → P 2 → P 3 → P 4 → P 5 → P 6 → P 7 → P 8 → P 9 → P 10 → P 11 → (p : ℕ) → p < 12 → P p
each_place P a b c d e f g h i j k l x13 m = grind arith

twisted_dart : (v u : ℕ) → v < 5 → place_of u (list_of twisted v) < length (list_of twisted v) → HasDart twisted v u
twisted_dart v u l m = (l, has (list_of twisted v) u m)

tour : IsTour twisted along at place
unfolding entry_after
tour =
    record {
      darts = each_place (λ p. HasDart twisted (at p).0 (at p).1)
          (twisted_dart 0 2 (omega arith) (omega arith)) (twisted_dart 2 1 (omega arith) (omega arith)) (twisted_dart 1 3 (omega arith) (omega arith)) (twisted_dart 1 4 (omega arith) (omega arith)) (twisted_dart 1 2 (omega arith) (omega arith)) (twisted_dart 2 0 (omega arith) (omega arith))
          (twisted_dart 0 3 (omega arith) (omega arith)) (twisted_dart 3 1 (omega arith) (omega arith)) (twisted_dart 3 0 (omega arith) (omega arith)) (twisted_dart 0 4 (omega arith) (omega arith)) (twisted_dart 4 1 (omega arith) (omega arith)) (twisted_dart 4 0 (omega arith) (omega arith));
      places = each_dart (λ v u. place (v, u) < 12) (omega arith) (omega arith) (omega arith) (omega arith) (omega arith) (omega arith) (omega arith) (omega arith) (omega arith) (omega arith) (omega arith) (omega arith);
      there = each_dart (λ v u. at (place (v, u)) ≡ (v, u)) refl refl refl refl refl refl refl refl refl refl refl refl;
      back = each_place (λ p. place (at p) ≡ p) refl refl refl refl refl refl refl refl refl refl refl refl;
      next = λ p l. each_place (λ p. suc p < 12 → tour_step along twisted (at p) ≡ at (suc p)) (λ _. refl) (λ _. refl) (λ _. refl) (λ _. refl) (λ _. refl) (λ _. refl) (λ _. refl) (λ _. refl) (λ _. refl) (λ _. refl) (λ _. refl) (λ m. absurd (omega arith)) p (omega arith) l;
      round = λ p e. let last : p ≡ 11 = omega arith in ap (λ p. tour_step along twisted (at p)) last;
    }

one_part : component_count twisted ≡ 1
unfolding component_count merge
one_part = refl

not_plane : ¬ IsPlane twisted
unfolding entry_after merge face_count component_count
not_plane e = omega (arith, e)

-- the law of tours for chords that may cross
crossing_chords : ((lists : Lists) (along : ℕ → ℕ → Bool) (at : ℕ → Dart) (place : Dart → ℕ) → IsSimpleMap lists → 0 < dart_count lists → component_count lists ≡ 1 → ((v u : ℕ) → along v u ≡ along u v) → IsTour lists along at place → count_below (λ p. along (at p).0 (at p).1) (dart_count lists) + 2 ≡ 2 * vertex_count lists → IsPlane lists) → ⊥
crossing_chords wrong =
    not_plane (wrong twisted along at place simple (omega arith) one_part (λ v u. ap not (or_comm (chord v u) (chord u v))) tour refl)

-- K5 without the edge between 3 and 4, with both under 2: the vertices above are 0 and 1
abbrev parent : ℕ → ℕ
parent v = get_or (0 ∷ 0 ∷ 1 ∷ 2 ∷ 2 ∷ []) v 0

abbrev depth : ℕ → ℕ
depth v = get_or (0 ∷ 1 ∷ 2 ∷ 3 ∷ 3 ∷ []) v 0

three_to_none : IsReturn ◌≢◌ parent depth 2 3 3 0
three_to_none = record { edge = λ e. omega arith; higher = omega arith; above = record { depths = omega arith; line = refl }; under = record { depths = omega arith; line = refl }; branch = inr (λ e. omega arith, refl); away = λ e. omega arith }

three_to_one : IsReturn ◌≢◌ parent depth 2 3 3 1
three_to_one = record { edge = λ e. omega arith; higher = omega arith; above = record { depths = omega arith; line = refl }; under = record { depths = omega arith; line = refl }; branch = inr (λ e. omega arith, refl); away = λ e. omega arith }

four_to_none : IsReturn ◌≢◌ parent depth 2 4 4 0
four_to_none = record { edge = λ e. omega arith; higher = omega arith; above = record { depths = omega arith; line = refl }; under = record { depths = omega arith; line = refl }; branch = inr (λ e. omega arith, refl); away = λ e. omega arith }

four_to_one : IsReturn ◌≢◌ parent depth 2 4 4 1
four_to_one = record { edge = λ e. omega arith; higher = omega arith; above = record { depths = omega arith; line = refl }; under = record { depths = omega arith; line = refl }; branch = inr (λ e. omega arith, refl); away = λ e. omega arith }

-- all edges that return put on one side
one_side_for_all : (b : Bool) → IsLeftRight ◌≢◌ parent depth (λ t w. b) → ⊥
one_side_for_all b sides =
    let fork = sides 2 3 4 (λ e. omega arith) in
    no_fixed_bit fork.0 (sym ((fork.1 3 1 4 0 three_to_one four_to_none).0 (omega arith)) ∙ (fork.1 3 0 4 1 three_to_none four_to_one).1 (omega arith))
