-- The numbers of darts by the ends of lists, and the slots of a map as they grow.
use Rattle.std.proofs.Common.{ℕ, ◌+◌, ◌<◌, ◌≡◌, List, [], ◌∷◌, ◌++◌, length, get_or, Some, refl, sym, ap, ◌∙◌, subst, inl, inr, arith}
use Rattle.std.proofs.lemmas.List.{length_push, get_or_append_left, get_or_push}
use Rattle.std.proofs.lemmas.Bool.{cases_lt}
use Rattle.map_lists.specs.Lists.{Lists}
use Rattle.map_lists.specs.Cuts.{joined, ends_from}
use Rattle.map_lists.proofs.CutLemmas.{IsStored, IsStored-cuts, IsStored-cut, length-cut}
use Rattle.map_theory.specs.Maps.{Dart, IsSimpleMap, list_of, darts, darts_before, dart_count, dart_number, twin_dart}
use Rattle.map_theory.proofs.DartLemmas.{HasDart-at, length-darts, darts_before_none, dart_at_place}
use Rattle.simple_maps.specs.Tables.{AreTwins, AreSlots}
use Rattle.simple_maps.proofs.FlatLemmas.{start-is, end-is}
use Rattle.simple_maps.proofs.TwinLemmas.{slice_get-dart_number, AreTwins-push}

-- each list has an end
pub end-within : (lists : Lists) (ends : List ℕ) (v : ℕ) → ends ≡ ends_from 0 lists → v < length lists → v < length ends
end-within lists ends v e l =
    omega (arith, ap length (IsStored-cut lists (joined lists) ends (record { entries_are = refl; ends_are = e })), length-cut 0 ends (joined lists), l)

-- where a list ends
pub end-of : (lists : Lists) (ends : List ℕ) (v : ℕ) → ends ≡ ends_from 0 lists → v < length lists → darts_before lists v + length (list_of lists v) ≡ get_or ends v 0
end-of lists ends v e l =
    let entries = joined lists in
    let stored : IsStored lists entries ends = record { entries_are = refl; ends_are = e } in
    let cuts = IsStored-cuts lists entries ends stored in
    let same = IsStored-cut lists entries ends stored in
    let v_in = end-within lists ends v e l in
    subst (λ (ls : Lists). darts_before ls v + length (list_of ls v) ≡ get_or ends v 0) same (omega (arith, start-is ends entries cuts v (omega (arith, v_in)), end-is ends entries cuts v v_in))

-- the tails and the twins of the first n darts
pub record AreSlotsTo (lists : Lists) (tails twins : List ℕ) (n : ℕ) : Type 0 where
  pub count : length tails ≡ n
  pub tails_are : (d : ℕ) → d < n → get_or tails d 0 ≡ (get_or (darts lists) d (0, 0)).0
  pub twins_are : AreTwins (darts lists) twins n

pub AreSlotsTo-none : (lists : Lists) → AreSlotsTo lists [] [] (darts_before lists 0)
AreSlotsTo-none lists =
    let none = darts_before_none lists in
    record {
      count = sym none;
      tails_are = λ d l. absurd (omega (arith, l, none));
      twins_are = record { count = sym none; at = λ d l. absurd (omega (arith, l, none)) };
    }

-- one dart more
pub AreSlotsTo-more : (lists : Lists) (tails twins : List ℕ) (v i t : ℕ) → IsSimpleMap lists → v < length lists → i < length (list_of lists v) → t ≡ dart_number lists (get_or (list_of lists v) i 0, v) → AreSlotsTo lists tails twins (darts_before lists v + i) → AreSlotsTo lists (tails ++ v ∷ []) (twins ++ t ∷ []) (darts_before lists v + (i + 1))
AreSlotsTo-more lists tails twins v i t simple v_in i_in is h =
    let n = darts_before lists v + i in
    let u = get_or (list_of lists v) i 0 in
    let here : get_or (darts lists) n (0, 0) ≡ (v, u) = dart_at_place lists v i (0, 0) 0 v_in i_in in
    let back = simple.both_ways v u (HasDart-at lists v i 0 v_in i_in) in
    let next : n + 1 ≡ darts_before lists v + (i + 1) = omega arith in
    subst (AreSlotsTo lists (tails ++ v ∷ []) (twins ++ t ∷ [])) next (record {
      count = omega (arith, length_push tails v, h.count);
      tails_are = λ d l. elim (cases_lt d n) [
        | inl less ↦ get_or_append_left tails (v ∷ []) 0 d (omega (arith, h.count, less)) ∙ h.tails_are d less
        | inr more ↦
            let last : d ≡ n = omega arith in
            ap (λ k. get_or (tails ++ v ∷ []) k 0) last ∙ get_or_push tails v 0 n h.count ∙ sym (ap (λ k. (get_or (darts lists) k (0, 0)).0) last ∙ ap (λ (x : Dart). x.0) here)
      ];
      twins_are = AreTwins-push (darts lists) twins n t h.twins_are
          (rw is (slice_get-dart_number lists (darts lists) u v refl back ∙ ap (λ x. Some (twin_dart x)) (sym here)));
    })

-- all darts
pub AreSlotsTo-all : (lists : Lists) (tails twins : List ℕ) (n : ℕ) → IsSimpleMap lists → n ≡ dart_count lists → AreSlotsTo lists tails twins n → AreSlots lists tails twins
AreSlotsTo-all lists tails twins n simple e h =
    let long : n ≡ length (darts lists) = omega (arith, length-darts lists) in
    record {
      simple = simple;
      tails_are = λ d l. h.tails_are d (omega (arith, l));
      twins_are = subst (AreTwins (darts lists) twins) long h.twins_are;
    }
