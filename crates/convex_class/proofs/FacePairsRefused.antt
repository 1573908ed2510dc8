-- Marks and answers that wrong bodies would give: the clauses refuse them.
use Rattle.std.proofs.Common.{◌≡◌, ◌≢◌, ◌<◌, ◌≤◌, ◌⊎◌, ℕ, List, slice_index, refl, sym, ap, ◌∙◌, inl, inr, arith}
use Rattle.std.proofs.lemmas.Bool.{cases_eq}
use Rattle.half_edges.specs.Map.{Map}
use Rattle.convex_class.specs.Passing.{IsMarked}
use Rattle.convex_class.specs.declared.face_pairs.face_meetings.Meeting.{Meeting}
use Rattle.convex_class.specs.Stamps.{IsStamped}
use Rattle.convex_class.specs.Meetings.{IsMet, meeting_at}
use Rattle.convex_class.specs.Clear.{IsOff}

-- a number that has the mark already is taken for another one
mark_not_looked_at : (u z best : ℕ) (old new : List ℕ) → slice_index old z ≡ u → z < best → ¬ IsStamped u (λ y. y ≡ z) old best new best
mark_not_looked_at u z best old new e l w = let low = (w.again z refl e).1 in omega arith

-- the vertices of a short face are not marked
short_face_passed_over : (map : Map) (walks : List (List ℕ)) (most u d z best result : ℕ) (marks : List ℕ) → IsOff map walks most u d z → slice_index marks z ≢ u → ¬ IsStamped u (IsOff map walks most u d) marks best marks result
short_face_passed_over map walks most u d z best result marks off other w = other (w.set z off)

-- a face that met the face of the round at u meets it at v too, and neither counts
second_meeting_not_told : (f z u v best : ℕ) (old new : List Meeting) → (meeting_at old z).face ≡ f → (meeting_at old z).tail ≡ u → u ≢ v → u < best → ¬ IsMet f (λ w x y. (w ≡ z) × (x ≡ v) × (y ≡ v)) old best new best
second_meeting_not_told f z u v best old new met at ne l w = grind (arith, Meeting)

lesser_of_two : (w best r s : ℕ) → (r ≤ w) × (r ≤ best) × ((r ≡ w) ⊎ (r ≡ best)) → (s ≤ w) × (s ≤ best) × ((s ≡ w) ⊎ (s ≡ best)) → r ≡ s
lesser_of_two w best r s (a, b, inl e) (c, d, inl f) = omega arith
lesser_of_two w best r s (a, b, inl e) (c, d, inr f) = omega arith
lesser_of_two w best r s (a, b, inr e) (c, d, inl f) = omega arith
lesser_of_two w best r s (a, b, inr e) (c, d, inr f) = omega arith

-- what is met twice has one least number: not the last one, nor one that is met once
IsMarked-unique : (u w : ℕ) (marks : List ℕ) (best : ℕ) (new made : List ℕ) (r s : ℕ) → IsMarked u w marks best new r → IsMarked u w marks best made s → r ≡ s
IsMarked-unique u w marks best new made r s a b =
    elim (cases_eq (slice_index marks w) u) [
      | inl e ↦ lesser_of_two w best r s (a.again e) (b.again e)
      | inr e ↦ let h = a.first e in let k = b.first e in omega arith
    ]
