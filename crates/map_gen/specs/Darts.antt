-- Faces under the ids of their darts.
use Rattle.std.specs.Prelude.{ℕ, ◌≡◌, Some}
use Rattle.half_edges.specs.Map.{Map, dart_at}
use Rattle.map_gen.specs.Stacked.{Face, with_vertex}
use Rattle.map_gen.specs.declared.stacked_maps.FaceDarts.{FaceDarts}

-- the ids have the darts of the face, in its order
pub record HasDarts (map : Map) (ids : FaceDarts) (f : Face) : Type 0 where
  pub ab : dart_at map ids.a.0 ≡ Some (f.a, f.b)
  pub bc : dart_at map ids.b.0 ≡ Some (f.b, f.c)
  pub ca : dart_at map ids.c.0 ≡ Some (f.c, f.a)

-- The vertex k was put into the face f, which is split into three: those of its first, second and third dart. Old darts keep their ids.
pub record IsVertexPut (old new : Map) (k : ℕ) (f : Face) (one two three : FaceDarts) : Type 0 where
  pub lists : new.lists ≡ with_vertex old.lists k f
  pub ids : (e v u : ℕ) → dart_at old e ≡ Some (v, u) → dart_at new e ≡ Some (v, u)
  pub of_ab : HasDarts new one (record { a = f.a; b = f.b; c = k })
  pub of_bc : HasDarts new two (record { a = f.b; b = f.c; c = k })
  pub of_ca : HasDarts new three (record { a = f.c; b = f.a; c = k })
