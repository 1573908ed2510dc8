-- Where faces bend, as the calls of a map answer it.
use Rattle.std.proofs.Common.{◌≡◌, ℕ, ◌<◌, List, length, Contains, pos, ◌<ℤ◌, refl, sym, ap, subst, ◌∙◌, arith}
use Rattle.classes.proofs.Classes.{Together-from, same_class-from}
use Rattle.map_theory.specs.Maps.{HasDart, follows, face_classes}
use Rattle.map_theory.specs.Paths.{SameFace}
use Rattle.half_edges.specs.Map.{Map, IsHalfMap, IsLive}
use Rattle.euler_faces.specs.Numbers.{number_at}
use Rattle.euler_faces.specs.FaceWalks.{walk_at, AreFaces}
use Rattle.pg_plane.specs.declared.grid_points.Point.{Point}
use Rattle.pg_plane.specs.Geometry.{area}
use Rattle.plane_drawings.specs.Drawing.{place}
use Rattle.vertex_rounds.specs.Rounds.{dart_of}
use Rattle.euler_faces.proofs.WalkFaces.{in_class, in_walk}
use Rattle.convex_check.specs.Verdicts.{NoneBent, IsBentFrom}
use Rattle.drawings.specs.Convex.{IsBent}
use Rattle.vertex_rounds.specs.Least.{IsLeastPair, IsLeastTriple}

-- Two ids stand in one walk exactly where their darts are in one face.
module _ (map : Map) (h : IsHalfMap map) (walks : List (List ℕ)) (faces : AreFaces map walks) (d e : ℕ) (live : IsLive map d) (live' : IsLive map e) where
  pub one_walk_face : (f : ℕ) → f < length walks → Contains (walk_at walks f) d → Contains (walk_at walks f) e → SameFace map.lists (dart_of map d) (dart_of map e)
  one_walk_face f l c c' =
      let walk = walk_at walks f in
      same_class-from (face_classes map.lists) (number_at map d) (number_at map e) (sym (in_class map h walk (faces.each f l) d c) ∙ in_class map h walk (faces.each f l) e c')

  pub in_walk_of : (f : ℕ) → f < length walks → Contains (walk_at walks f) d → SameFace map.lists (dart_of map d) (dart_of map e) → Contains (walk_at walks f) e
  in_walk_of f l c same =
      let walk = walk_at walks f in
      in_walk map h walk (faces.each f l) e live' (in_class map h walk (faces.each f l) d c ∙ Together-from (face_classes map.lists) (number_at map d) (number_at map e) same)

  pub face_one_walk : (f g : ℕ) → f < length walks → g < length walks → Contains (walk_at walks f) d → Contains (walk_at walks g) e → SameFace map.lists (dart_of map d) (dart_of map e) → g ≡ f
  face_one_walk f g l m c c' same = faces.apart g f e m l c' (in_walk_of f l c same)

-- what the calls answer for a dart, its face step and the turn there
module _ (map : Map) (points : List Point) (base a b s t w : ℕ) (tail : s ≡ a) (head : t ≡ b) (third : follows map.lists b a ≡ w) where
  turn_is : area (place points s) (place points t) (place points w) ≡ area (place points a) (place points b) (place points (follows map.lists b a))
  turn_is =
      ap (λ z. area (place points z) (place points t) (place points w)) tail
      ∙ (ap (λ z. area (place points a) (place points z) (place points w)) head ∙ ap (λ z. area (place points a) (place points b) (place points z)) (sym third))

  pub IsBentFrom-turn : HasDart map.lists a b → ¬ SameFace map.lists (dart_of map base) (a, b) → area (place points s) (place points t) (place points w) <ℤ pos 0 → IsBentFrom map points base a b
  IsBentFrom-turn has other turn = record { dart = has; third = refl; other = other; turn = subst (λ z. z <ℤ pos 0) turn_is turn }

  pub turn-IsBentFrom : IsBentFrom map points base a b → area (place points s) (place points t) (place points w) <ℤ pos 0
  turn-IsBentFrom bent = subst (λ z. z <ℤ pos 0) (sym turn_is) bent.turn

module _ (map : Map) (points : List Point) (base : ℕ) where
  -- three vertices where a face bends are told by the first two
  told_by_two : (a b w : ℕ) → IsBent map.lists points (dart_of map base) a b w → IsBentFrom map points base a b
  told_by_two a b w x = subst (IsBent map.lists points (dart_of map base) a b) (sym x.third) x

  pub none_bent : ((a b : ℕ) → ¬ IsBentFrom map points base a b) → NoneBent map.lists points (dart_of map base)
  none_bent none a b w x = none a b (told_by_two a b w x)

  pub least_bent : (a b w : ℕ) → IsLeastPair (IsBentFrom map points base) a b → follows map.lists b a ≡ w → IsLeastTriple (IsBent map.lists points (dart_of map base)) a b w
  least_bent a b w least third = grind (arith, told_by_two, IsBent, dart_of)
