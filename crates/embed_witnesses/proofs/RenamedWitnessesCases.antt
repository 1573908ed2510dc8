-- The definitions, run on a worked case: a table of two entries, and a number past it.
use Rattle.std.proofs.Common.{◌≡◌, [], ◌∷◌, refl}
use Rattle.map_lists.specs.declared.ids.VertexId.{VertexId}
use Rattle.embed_witnesses.specs.Renamed.{named, renamed_list}

exchanged : renamed_list (named (1 ∷ 0 ∷ [])) ((let v : VertexId = record { 0 = 0 } in v) ∷ record { 0 = 1 } ∷ record { 0 = 2 } ∷ []) ≡ record { 0 = 1 } ∷ record { 0 = 0 } ∷ record { 0 = 2 } ∷ []
exchanged = refl
