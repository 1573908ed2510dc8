-- Marks by number: which numbers of a list have been met.
use Rattle.std.proofs.Common.{ℕ, ◌+◌, ◌<◌, ◌≡◌, ◌≢◌, List, [], ◌∷◌, ◌++◌, length, get_or, set, take, All, Contains, Option, Some, None, sym, ap, ◌∙◌, subst, inl, inr, arith}
use Rattle.std.proofs.lemmas.List.{length-set, get_or-set_same, get_or-set_other, set-get_or, take_more}
use Rattle.std.proofs.lemmas.List.Elements.{Contains-push, Contains-push_cases, Contains-append_left, All-set}
use Rattle.std.proofs.lemmas.Bool.{cases_eq}
use Rattle.simple_maps.specs.Faults.{lesser_of, least_repeated, first_from, least_out_of_range}
use Rattle.map_lists.specs.Lists.{Lists}
use Rattle.map_theory.specs.Maps.{list_of}
use Rattle.map_theory.proofs.DartLemmas.{HasDart-at}
use Rattle.simple_maps.proofs.FaultLemmas.{in_range_from_none, least_repeated_push_again, least_repeated_push_first}

-- the numbers with this mark are those of the list, and no mark is greater
pub record AreMarks (marks : List ℕ) (mark : ℕ) (seen : List ℕ) : Type 0 where
  pub marked : (w : ℕ) → w < length marks → get_or marks w 0 ≡ mark → Contains seen w
  pub seen_marked : (w : ℕ) → w < length marks → Contains seen w → get_or marks w 0 ≡ mark
  pub greatest : All (λ m. m < mark + 1) marks

-- one more number
pub AreMarks-push : (marks : List ℕ) (mark : ℕ) (seen : List ℕ) (u : ℕ) → u < length marks → AreMarks marks mark seen → AreMarks (set marks u mark) mark (seen ++ u ∷ [])
AreMarks-push marks mark seen u in_marks h = record {
  marked = λ w l e.
      elim (cases_eq w u) [
        | inl same ↦ subst (λ z. Contains (seen ++ u ∷ []) z) (sym same) (Contains-push seen u)
        | inr other ↦ Contains-append_left seen (u ∷ []) w (h.marked w (omega (arith, l, length-set marks u mark)) (sym (get_or-set_other marks u w mark 0 other) ∙ e))
      ];
  seen_marked = λ w l c.
      elim (cases_eq w u) [
        | inl same ↦ ap (λ z. get_or (set marks u mark) z 0) same ∙ get_or-set_same marks u mark 0 in_marks
        | inr other ↦ get_or-set_other marks u w mark 0 other ∙ h.seen_marked w (omega (arith, l, length-set marks u mark))
            (elim (Contains-push_cases seen u w c) [ inl before ↦ before | inr e ↦ absurd (other (sym e)) ])
      ];
  greatest = All-set (λ m. m < mark + 1) marks u mark (omega arith) h.greatest;
}

-- the marks and the least repeated number, after the first i entries of a list
pub record HasMet (marks : List ℕ) (mark : ℕ) (list : List ℕ) (i : ℕ) (least : Option ℕ) : Type 0 where
  pub are_marks : AreMarks marks mark (take i list)
  pub is_least : least ≡ least_repeated 0 (take i list)

-- one more entry, at its number's old mark
module _ (marks : List ℕ) (mark : ℕ) (list : List ℕ) (i : ℕ) (least : Option ℕ) (within : All (λ u. u < length marks) list) (l : i < length list) (h : HasMet marks mark list i least) where
  marks_more : AreMarks (set marks (get_or list i 0) mark) mark (take (i + 1) list)
  marks_more = rw (take_more list i 0 l) (AreMarks-push marks mark (take i list) (get_or list i 0) (within i 0 l) h.are_marks)

  pub HasMet-again : get_or marks (get_or list i 0) 0 ≡ mark → HasMet marks mark list (i + 1) (lesser_of least (Some (get_or list i 0)))
  HasMet-again e = record {
    are_marks = subst (λ (ms : List ℕ). AreMarks ms mark (take (i + 1) list)) (ap (set marks (get_or list i 0)) (sym e) ∙ set-get_or marks (get_or list i 0) 0) marks_more;
    is_least = rw (take_more list i 0 l) (ap (λ o. lesser_of o (Some (get_or list i 0))) h.is_least ∙ sym (least_repeated_push_again 0 (take i list) (get_or list i 0) (h.are_marks.marked (get_or list i 0) (within i 0 l) e)));
  }

  pub HasMet-first : get_or marks (get_or list i 0) 0 ≢ mark → HasMet (set marks (get_or list i 0) mark) mark list (i + 1) least
  HasMet-first n = record {
    are_marks = marks_more;
    is_least = rw (take_more list i 0 l) (h.is_least ∙ sym (least_repeated_push_first 0 (take i list) (get_or list i 0) (λ c. n (h.are_marks.seen_marked (get_or list i 0) (within i 0 l) c))));
  }

-- where no number is out of range, the entries of a list are below a number of marks for all vertices
pub entries_within : (lists : Lists) (v : ℕ) (us : List ℕ) (n : ℕ) → first_from (least_out_of_range (length lists)) 0 lists ≡ None → v < length lists → us ≡ list_of lists v → n ≡ length lists → All (λ u. u < n) us
entries_within lists v us n none l e count =
    rw (e, count) (λ k d h. in_range_from_none lists v (get_or (list_of lists v) k d) none (HasDart-at lists v k d l h))
