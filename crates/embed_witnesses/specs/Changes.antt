-- Witnesses changed: a vertex put into one step of a path, and K5 split into K3,3.
use Rattle.std.specs.Prelude.{ℕ, suc, ◌+◌, ◌-◌, ◌/◌, ◌%◌, ◌≡◌, ◌&&◌, ◌==◌, nat_lt, if◌then◌else◌, List, map, length}
use Rattle.std.specs.List.{range_with_len}
use Rattle.map_lists.specs.declared.ids.VertexId.{VertexId}
use Rattle.graphs.specs.Graphs.{EdgeGraph}
use Rattle.kuratowski.specs.Witnesses.{branch_count, vertex_at, path_at, IsWitness}
use Rattle.kuratowski.specs.declared.witness.Kind.{Kind}
use Rattle.kuratowski.specs.declared.witness.Kind.TheVariants.{K33}
use Rattle.kuratowski.specs.declared.witness.Witness.{Witness}
use Rattle.embed_contraction.specs.Traces.{path_count}
use Rattle.embed_contraction.proofs.Traces.{vertices_of}
use Rattle.embed_witnesses.specs.Merged.{exchanged_number}
use Rattle.embed_witnesses.specs.declared.lifted_witnesses.change_kinds.Mending.{Mending}
use Rattle.embed_witnesses.specs.declared.lifted_witnesses.change_kinds.Splitting.{Splitting}
use Rattle.embed_witnesses.specs.declared.lifted_witnesses.change_kinds.Change.{Change}
use Rattle.embed_witnesses.specs.declared.lifted_witnesses.change_kinds.Change.TheVariants.{Mended, Split}

-- how many steps path p has
abbrev pub step_count : List (List VertexId) → ℕ → ℕ
step_count paths p = length (path_at paths p) - 1

-- the vertex of path p at a place
abbrev pub place_in : List (List VertexId) → ℕ → ℕ → ℕ
place_in paths p i = vertex_at (path_at paths p) i

-- ---- a vertex put in
abbrev pub moved : Mending → ℕ → ℕ
moved m v = if m.exchange then exchanged_number m.a m.b v else v

abbrev pub put_in : Mending → ℕ
put_in m = if m.exchange then m.a else m.b

abbrev pub mended_count : Mending → List (List VertexId) → ℕ → ℕ
mended_count m paths p = if p == m.path then suc (step_count paths p) else step_count paths p

-- the path that gets the vertex
abbrev pub longer : Mending → List (List VertexId) → ℕ → ℕ
longer m paths i =
    if nat_lt m.place i then (if i == suc m.place then put_in m else moved m (place_in paths m.path (i - 1))) else moved m (place_in paths m.path i)

abbrev pub mended_place : Mending → List (List VertexId) → ℕ → ℕ → ℕ
mended_place m paths p i = if p == m.path then longer m paths i else moved m (place_in paths p i)

-- ---- K5 split
-- the branch with a name: 0 is split, the paths to 1 and 2 stay at it, and those to 3 and 4 end at the other vertex
abbrev pub named_branch : ℕ → ℕ → ℕ
named_branch order k =
    if k == 0 then order % 5 else if k == 1 then order / 5 % 5 else if k == 2 then order / 25 % 5 else if k == 3 then order / 125 % 5 else order / 625 % 5

-- the names of the two ends of a path of K3,3, where 0 stands for the other vertex too
abbrev pub first_name : ℕ → ℕ
first_name p = if p / 3 == 0 then 0 else p / 3 + 2

abbrev pub second_name : ℕ → ℕ
second_name p = p % 3

-- the number of the path of K5 between two branches, of which a is the lesser
abbrev pub path_between : ℕ → ℕ → ℕ
path_between a b = if a == 0 then b - 1 else if a == 1 then b + 2 else if a == 2 then b + 4 else 9

-- the number of the path of K5 between two branches, in either order
abbrev pub link_between : ℕ → ℕ → ℕ
link_between a b = if nat_lt a b then path_between a b else path_between b a

-- the path of K5 that is path p of K3,3
abbrev pub link_of : ℕ → ℕ → ℕ
link_of order p = link_between (named_branch order (first_name p)) (named_branch order (second_name p))

-- it is read backwards where its first branch is the greater
abbrev pub linked_place : ℕ → List (List VertexId) → ℕ → ℕ → ℕ
linked_place order paths p i =
    if nat_lt (named_branch order (first_name p)) (named_branch order (second_name p)) then place_in paths (link_of order p) i else place_in paths (link_of order p) (step_count paths (link_of order p) - i)

-- where it ends at the vertex that is split, it ends at the other in its place
abbrev pub ended : Splitting → ℕ → ℕ → ℕ
ended t p v = if (second_name p == 0) && (v == t.a) then t.b else v

abbrev pub split_count : Splitting → List (List VertexId) → ℕ → ℕ
split_count t paths p = if p == 0 then 1 else step_count paths (link_of t.order p)

abbrev pub split_place : Splitting → List (List VertexId) → ℕ → ℕ → ℕ
split_place t paths p i = if p == 0 then (if i == 0 then t.a else t.b) else ended t p (linked_place t.order paths p i)

abbrev pub split_branch : Splitting → List VertexId → ℕ → ℕ
split_branch t branch j =
    if j == 3 then t.b else vertex_at branch (named_branch t.order (if j == 0 then 0 else if nat_lt j 3 then j + 2 else j - 3))

-- ---- both
abbrev pub kind_in : Change → Kind → Kind
kind_in (Mended m) kind = kind
kind_in (Split t) kind = K33

abbrev pub branch_in : Change → List VertexId → ℕ → ℕ
branch_in (Mended m) branch j = moved m (vertex_at branch j)
branch_in (Split t) branch j = split_branch t branch j

abbrev pub count_in : Change → List (List VertexId) → ℕ → ℕ
count_in (Mended m) paths p = mended_count m paths p
count_in (Split t) paths p = split_count t paths p

abbrev pub vertex_in : Change → List (List VertexId) → ℕ → ℕ → ℕ
vertex_in (Mended m) paths p i = mended_place m paths p i
vertex_in (Split t) paths p i = split_place t paths p i

-- the branches and paths of the changed witness
abbrev pub branches_in : Change → Witness → List VertexId
branches_in change old = vertices_of (branch_in change old.branch) (branch_count (kind_in change old.kind))

abbrev pub path_in : Change → List (List VertexId) → ℕ → List VertexId
path_in change paths p = vertices_of (vertex_in change paths p) (suc (count_in change paths p))

abbrev pub paths_in : Change → Witness → List (List VertexId)
paths_in change old = map (path_in change old.paths) (range_with_len 0 (path_count (kind_in change old.kind)))

pub record IsChanged (change : Change) (old new : Witness) : Type 0 where
  pub kind : new.kind ≡ kind_in change old.kind
  pub branch : new.branch ≡ branches_in change old
  pub paths : new.paths ≡ paths_in change old

-- the changed witness is one of the graph
abbrev pub IsRight : EdgeGraph → Witness → Change → Type 0
IsRight graph old change = IsWitness graph (kind_in change old.kind) (branches_in change old) (paths_in change old)
