-- The maps that the generator makes: triangles in which vertex after vertex is put into a face.
use Rattle.std.specs.Prelude.{ℕ, zero, suc, ◌+◌, ◌*◌, ◌-◌, ◌/◌, ◌%◌, List, [], ◌∷◌, ◌++◌, length, slice_set, slice_index_or, insert, replicate}
use Rattle.map_lists.specs.Lists.{Lists}
use Rattle.map_theory.specs.Maps.{list_of, place_of}

-- a face by its vertices: it goes from a to b, to c, and back to a
pub record Face : Type 0 where
  pub a : ℕ
  pub b : ℕ
  pub c : ℕ

-- the next number of a row of pseudorandom ones, each below 2^32
abbrev pub next_number : ℕ → ℕ
next_number z = (z * 1103515245 + 12345) % 4294967296

-- the face that the number z chooses of `faces`, by its upper half
abbrev pub chosen : ℕ → ℕ → ℕ
chosen z faces = (z / 65536) % faces

-- a list with x directly behind u
abbrev pub with_behind : List ℕ → ℕ → ℕ → List ℕ
with_behind us u x = insert us (place_of u us + 1) x

-- The vertex k put into the face f and joined to its three vertices: k comes after c in a's list, after a in b's, and after b in c's, and its own list is a, c, b.
abbrev pub with_vertex : Lists → ℕ → Face → Lists
with_vertex lists k f =
    slice_set (slice_set (slice_set (slice_set lists f.a (with_behind (list_of lists f.a) f.c k)) f.b (with_behind (list_of lists f.b) f.a k)) f.c (with_behind (list_of lists f.c) f.b k)) k (f.a ∷ f.c ∷ f.b ∷ [])

-- What the generator keeps: the lists, the inner faces, and the number that chose last.
pub record Stacking : Type 0 where
  pub lists : Lists
  pub faces : List Face
  pub number : ℕ

-- the faces with the face number i split into three about k
abbrev pub with_faces : List Face → ℕ → ℕ → Face → List Face
with_faces faces i k f =
    slice_set faces i (record { a = f.a; b = f.b; c = k }) ++ record { a = f.b; b = f.c; c = k } ∷ record { a = f.c; b = f.a; c = k } ∷ []

-- the face number i
abbrev pub face_at : List Face → ℕ → Face
face_at faces i = slice_index_or faces i (record { a = 0; b = 0; c = 0 })

-- the vertex k put into the face that the next number chooses
abbrev pub stack : ℕ → Stacking → Stacking
stack k s =
    let z = next_number s.number in
    let i = chosen z (length s.faces) in
    let face = face_at s.faces i in
    record { lists = with_vertex s.lists k face; faces = with_faces s.faces i k face; number = z }

-- the triangle among n vertices, of which the others are isolated, with one inner face
abbrev pub triangle : ℕ → ℕ → Stacking
triangle n number = record {
  lists = (1 ∷ 2 ∷ []) ∷ (2 ∷ 0 ∷ []) ∷ (0 ∷ 1 ∷ []) ∷ replicate (n - 3) [];
  faces = record { a = 0; b = 2; c = 1 } ∷ [];
  number = number;
}

-- the triangle with k more vertices put in
unfoldable pub stacking : ℕ → ℕ → ℕ → Stacking
stacking n number zero = triangle n number
stacking n number (suc k) = stack (k + 3) (stacking n number k)

-- the map of n vertices that the generator makes from a number
abbrev pub stacked : ℕ → ℕ → Lists
stacked n number = (stacking n number (n - 3)).lists
