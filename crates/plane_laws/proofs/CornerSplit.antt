-- Where two corners of a vertex lie in one face of a map of genus zero, the vertex separates the two parts of its list: cutting its orbit at the two corners parts the classes.
use Rattle.std.proofs.Common.{◌≡◌, ◌≢◌, ◌⊎◌, ℕ, [], ◌∷◌, Contains, sym, ap, ◌∙◌, subst, inl, inr, arith}
use Rattle.classes.specs.Classes.{label}
use Rattle.map_theory.specs.Maps.{dart_number, dart_count, edge_count}
use Rattle.map_theory.proofs.EntryLemmas.{Contains-here}
use Rattle.classes.proofs.Swap.{exchange, swapped_other, IsPermuting-exchange}
use Rattle.classes.proofs.Bound.{joint}
use Rattle.map_theory.proofs.DartPermutations.{rotation, twin, IsPermuting-rotation, IsPairing-twin, same_orbit, balances_map, two_m}
use Rattle.plane_laws.specs.Laws.{CornerSplit}
use Rattle.plane_laws.proofs.PlaneCuts.{plane_cut-images_apart}
use Rattle.plane_laws.proofs.DartPaths.{before_dart, face_together, corner_of, numbers_apart, HoldsCut-joint, arcs_joined}

-- THE LAW: two corners of a vertex in one face of a map of genus zero
pub corner_split : CornerSplit
corner_split lists v a b simple plane has_a has_b ne face s t in_s in_t path j =
    let f = rotation lists in
    let g = twin lists in
    let k = dart_count lists in
    let w = IsPermuting-rotation lists simple in
    let x = corner_of lists simple v a has_a in
    let y = corner_of lists simple v b has_b in
    let x_y : x.0 ≢ y.0 = λ e. ne (numbers_apart lists v a b has_a has_b (sym x.1.leads ∙ (ap f e ∙ y.1.leads))) in
    let K = joint (exchange f x.0 y.0) g k in
    let avoided = v ∷ [] in
    let cut : ℕ → ℕ → Type 0 = λ p z. (p ≡ v) × ((z ≡ a) ⊎ (z ≡ b)) in
    let holds = HoldsCut-joint lists simple (exchange f x.0 y.0) avoided cut (IsPermuting-exchange f k x.0 y.0 x.1.within y.1.within w)
    (λ p z has uncut. ap f (swapped_other x.0 y.0 (dart_number lists (p, z))
    (λ q. let at = before_dart lists x.0 v a p z has_a x.1.leads has q in uncut (at.0, inl at.1))
    (λ q. let at = before_dart lists y.0 v b p z has_b y.1.leads has q in uncut (at.0, inr at.1))))
    (λ p z c. subst (Contains avoided) (sym c.0) (Contains-here v [])) in
    let joined = arcs_joined lists simple K avoided cut holds v a b v b a has_a has_b (λ z c. c.1) (λ z c. elim c.1 [ inl e ↦ inr e | inr e ↦ inl e ]) s t in_s in_t path j in
    let L = label K in
    plane_cut-images_apart f g k (edge_count lists) x.0 y.0 (two_m lists simple) w (IsPairing-twin lists simple) x.1.within y.1.within x_y
    (same_orbit lists simple x.0 y.0 x.1.within y.1.within (x.1.tail ∙ sym y.1.tail))
    (balances_map lists simple 0 (omega (arith, plane)))
    (x.1.face ∙ (face_together lists simple (v, a) (v, b) face ∙ sym y.1.face))
    (ap L x.1.leads ∙ (joined ∙ sym (ap L y.1.leads)))
