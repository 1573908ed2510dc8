-- One verdict on rectangles.
use Rattle.std.proofs.Common.{◌≡◌, ℕ, inl, inr, refl, sym, ap, ap₂, ◌∙◌}
use Rattle.map_lists.specs.Lists.{Lists}
use Rattle.map_lists.specs.declared.ids.VertexId.{VertexId}
use Rattle.pg_plane.specs.declared.figures.RectFigure.{RectFigure}
use Rattle.vertex_rounds.specs.Least.{IsLeast, IsLeastPair}
use Rattle.drawings.specs.Duals.{IsFramed, HasFrame, top_vertex, right_vertex, bottom_vertex}
use Rattle.rect_check.specs.Faults.{HasBadRect, RectsMeet, HasWrongContact, IsFirstUnframed}
use Rattle.rect_check.specs.Verdicts.{AreRects, NoneMeet, DoFill, HasContacts, IsUnframed, IsRectVerdict}
use Rattle.rect_check.specs.declared.verdict.RectVerdict.{RectVerdict}
use Rattle.rect_check.specs.declared.verdict.RectVerdict.TheVariants.{BadRect, Meet, Gap, Contact, NoFrame, Frame, Yes}
use Rattle.verdict_laws.specs.AtMostOne.{AtMostOne}
use Rattle.verdict_laws.proofs.Firsts.{IsFirstOr, one_or_others, only_one, least_is_one, pair_first, pair_second, same_vertex}

-- one vertex is the first of the four that is not at its end, and none is where all are
module _ (fig : RectFigure) (s d p q : ℕ) where
  first_unframed : (v w : ℕ) → IsFirstUnframed fig s d p q v → IsFirstUnframed fig s d p q w → v ≡ w
  first_unframed v w (inl a) (inl b) = a.1 ∙ sym b.1
  first_unframed v w (inl a) (inr b) = absurd (a.0 b.0)
  first_unframed v w (inr a) (inl b) = absurd (b.0 a.0)
  first_unframed v w (inr (l, inl a)) (inr (m, inl b)) = a.1 ∙ sym b.1
  first_unframed v w (inr (l, inl a)) (inr (m, inr b)) = absurd (a.0 b.0)
  first_unframed v w (inr (l, inr a)) (inr (m, inl b)) = absurd (b.0 a.0)
  first_unframed v w (inr (l, inr (i, inl a))) (inr (m, inr (j, inl b))) = a.1 ∙ sym b.1
  first_unframed v w (inr (l, inr (i, inl a))) (inr (m, inr (j, inr b))) = absurd (a.0 b.0)
  first_unframed v w (inr (l, inr (i, inr a))) (inr (m, inr (j, inl b))) = absurd (b.0 a.0)
  first_unframed v w (inr (l, inr (i, inr a))) (inr (m, inr (j, inr b))) = a.2 ∙ sym b.2

  framed_has_none : (v : ℕ) → IsFirstUnframed fig s d p q v → IsFramed fig s d p q → ⊥
  framed_has_none v (inl a) h = a.0 h.left
  framed_has_none v (inr (l, inl a)) h = a.0 h.top
  framed_has_none v (inr (l, inr (i, inl a))) h = a.0 h.right
  framed_has_none v (inr (l, inr (i, inr a))) h = a.1 h.bottom

module _ (lists : Lists) (fig : RectFigure) where
  -- the four at the ends
  abbrev IsInFrame : Type 0
  IsInFrame = IsFramed fig 0 (top_vertex lists) (right_vertex lists) (bottom_vertex lists)

  -- the verdict is of a kind, with its least ids
  abbrev Rects : RectVerdict → Type 0
  Rects verdict = (v : VertexId) × (verdict ≡ BadRect v) × IsLeast (HasBadRect lists fig) v.0

  abbrev Meets : RectVerdict → Type 0
  Meets verdict = (u : VertexId) × (v : VertexId) × (verdict ≡ Meet u v) × IsLeastPair (RectsMeet lists fig) u.0 v.0

  abbrev Gaps : RectVerdict → Type 0
  Gaps verdict = (verdict ≡ Gap) × ¬ DoFill lists fig

  abbrev Contacts : RectVerdict → Type 0
  Contacts verdict = (u : VertexId) × (v : VertexId) × (verdict ≡ Contact u v) × IsLeastPair (HasWrongContact lists fig) u.0 v.0

  abbrev Frameless : RectVerdict → Type 0
  Frameless verdict = (verdict ≡ NoFrame) × ¬ HasFrame lists

  abbrev Unframed : RectVerdict → Type 0
  Unframed verdict = (v : VertexId) × (verdict ≡ Frame v) × IsUnframed lists fig v.0

  -- the kinds in turn
  abbrev FromUnframed : RectVerdict → Type 0
  FromUnframed = IsFirstOr RectVerdict Unframed IsInFrame (λ verdict. verdict ≡ Yes)

  abbrev FromFrameless : RectVerdict → Type 0
  FromFrameless = IsFirstOr RectVerdict Frameless (HasFrame lists) FromUnframed

  abbrev FromContacts : RectVerdict → Type 0
  FromContacts = IsFirstOr RectVerdict Contacts (HasContacts lists fig) FromFrameless

  abbrev FromGaps : RectVerdict → Type 0
  FromGaps = IsFirstOr RectVerdict Gaps (DoFill lists fig) FromContacts

  abbrev FromMeets : RectVerdict → Type 0
  FromMeets = IsFirstOr RectVerdict Meets (NoneMeet lists fig) FromGaps

  abbrev FromRects : RectVerdict → Type 0
  FromRects = IsFirstOr RectVerdict Rects (AreRects lists fig) FromMeets

  in_turn : (verdict : RectVerdict) → IsRectVerdict lists fig verdict → FromRects verdict
  in_turn (BadRect v) h = inl (v, refl, h)
  in_turn (Meet u v) h = inr (h.0, inl (u, v, refl, h.1))
  in_turn Gap h = inr (h.0, inr (h.1, inl (refl, h.2)))
  in_turn (Contact u v) h = inr (h.0, inr (h.1, inr (h.2, inl (u, v, refl, h.3))))
  in_turn NoFrame h = inr (h.0, inr (h.1, inr (h.2, inr (h.3, inl (refl, h.4)))))
  in_turn (Frame v) h = inr (h.0, inr (h.1, inr (h.2, inr (h.3, inr (h.4, inl (v, refl, h.5))))))
  in_turn Yes h = inr (h.rects, inr (h.apart, inr (h.areas, inr (h.contacts, inr (h.frame, inr (h.framed, refl))))))

  -- each kind once
  one_rects : AtMostOne RectVerdict Rects
  one_rects v w f g = f.1 ∙ (ap (λ u. BadRect u) (same_vertex f.0 g.0 (least_is_one (HasBadRect lists fig) f.0.0 g.0.0 f.2 g.2)) ∙ sym g.1)

  one_meets : AtMostOne RectVerdict Meets
  one_meets v w f g =
      let P = RectsMeet lists fig in
      f.2 ∙ (ap₂ (λ a b. Meet a b) (same_vertex f.0 g.0 (pair_first P f.0.0 f.1.0 g.0.0 g.1.0 f.3 g.3)) (same_vertex f.1 g.1 (pair_second P f.0.0 f.1.0 g.0.0 g.1.0 f.3 g.3)) ∙ sym g.2)

  one_contacts : AtMostOne RectVerdict Contacts
  one_contacts v w f g =
      let P = HasWrongContact lists fig in
      f.2 ∙ (ap₂ (λ a b. Contact a b) (same_vertex f.0 g.0 (pair_first P f.0.0 f.1.0 g.0.0 g.1.0 f.3 g.3)) (same_vertex f.1 g.1 (pair_second P f.0.0 f.1.0 g.0.0 g.1.0 f.3 g.3)) ∙ sym g.2)

  one_unframed : AtMostOne RectVerdict Unframed
  one_unframed v w f g = f.1 ∙ (ap (λ u. Frame u) (same_vertex f.0 g.0 (first_unframed fig 0 (top_vertex lists) (right_vertex lists) (bottom_vertex lists) f.0.0 g.0.0 f.2 g.2)) ∙ sym g.1)

  -- so there is one
  from_unframed : AtMostOne RectVerdict FromUnframed
  from_unframed = one_or_others RectVerdict Unframed IsInFrame (λ verdict. verdict ≡ Yes) one_unframed (λ v f h. framed_has_none fig 0 (top_vertex lists) (right_vertex lists) (bottom_vertex lists) f.0.0 f.2 h) (only_one RectVerdict Yes)

  from_frameless : AtMostOne RectVerdict FromFrameless
  from_frameless = one_or_others RectVerdict Frameless (HasFrame lists) FromUnframed (λ v w f g. f.0 ∙ sym g.0) (λ v f has. f.1 has) from_unframed

  from_contacts : AtMostOne RectVerdict FromContacts
  from_contacts = one_or_others RectVerdict Contacts (HasContacts lists fig) FromFrameless one_contacts (λ v f all. f.3.rest.here.wrong (all f.0.0 f.1.0 f.3.rest.here.order f.3.rest.here.vertex)) from_frameless

  from_gaps : AtMostOne RectVerdict FromGaps
  from_gaps = one_or_others RectVerdict Gaps (DoFill lists fig) FromContacts (λ v w f g. f.0 ∙ sym g.0) (λ v f fill. f.1 fill) from_contacts

  from_meets : AtMostOne RectVerdict FromMeets
  from_meets = one_or_others RectVerdict Meets (NoneMeet lists fig) FromGaps one_meets (λ v f none. none f.0.0 f.1.0 f.3.rest.here.order f.3.rest.here.vertex f.3.rest.here.meet) from_gaps

  from_rects : AtMostOne RectVerdict FromRects
  from_rects = one_or_others RectVerdict Rects (AreRects lists fig) FromMeets one_rects (λ v f all. f.2.here.bad (all f.0.0 f.2.here.vertex)) from_meets

  pub one_rect_verdict : AtMostOne RectVerdict (IsRectVerdict lists fig)
  one_rect_verdict v w h g = from_rects v w (in_turn v h) (in_turn w g)
