-- The frame of a closed map, and the vertices taken off.
use Rattle.std.proofs.Common.{◌≡◌, ◌≢◌, ℕ, ◌<◌, List, length, All, AllPairs, ap, arith, reverse}
use Rattle.std.proofs.lemmas.List.{length-reverse}
use Rattle.map_lists.specs.Lists.{Lists}
use Rattle.canon_order.proofs.Counters.{All-from_reverse, AllPairs-from_reverse}
use Rattle.rect_orders.specs.Maps.{closed}
use Rattle.rect_orders.specs.Orders.{IsRectOrder}
use Rattle.rect_orders.proofs.Closed.{s_not_d, s_not_t, d_not_t, dart_sd, dart_dp, dart_ts}
use Rattle.rect_orders.specs.Contours.{IsClosedOf}
use Rattle.rect_orders.proofs.Contours.{same_length}

-- the frame's vertices are vertices, and apart
pub record IsFramedIn (lists : Lists) (s d p t : ℕ) : Type 0 where
  pub s_in : s < length lists
  pub d_in : d < length lists
  pub p_in : p < length lists
  pub t_in : t < length lists
  pub s_d : s ≢ d
  pub s_t : s ≢ t
  pub d_t : d ≢ t

pub IsFramedIn-class : (lists map : Lists) (s d p t x : ℕ) → IsClosedOf lists map s d p t x → IsFramedIn lists s d p t
IsFramedIn-class lists map s d p t x h =
    let n = same_length map s d p t x lists h in
    let k = h.class in
    let a = (dart_sd map s d p t k).0 in
    let b = (dart_dp map s d p t k).0 in
    let c = k.near.simple.in_range d p (dart_dp map s d p t k) in
    let e = (dart_ts map s d p t k).0 in
    record { s_in = omega arith; d_in = omega arith; p_in = omega arith; t_in = omega arith; s_d = s_not_d map s d p t k; s_t = s_not_t map s d p t k; d_t = d_not_t map s d p t k }

-- the vertices taken off, from the last to the first, are all of them, each once
module _ (lists map : Lists) (s d p t x : ℕ) (h : IsClosedOf lists map s d p t x) (us : List ℕ) (order : IsRectOrder map s d p t (reverse us)) where
  pub taken_within : All (λ v. v < length us) us
  taken_within =
      let n = length-reverse us in
      λ k d' l. let lt = All-from_reverse (λ v. v < length (closed map s d p t)) us order.canonical.vertices k d' l in omega arith

  pub taken_count : length us ≡ length lists
  taken_count = let n = length-reverse us in let c = order.canonical.count in let e = ap length h.closed_is in omega arith

  pub taken_apart : AllPairs ◌≢◌ us
  taken_apart = AllPairs-from_reverse us order.canonical.built.once
