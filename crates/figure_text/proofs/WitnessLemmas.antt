-- What is printed of a witness is read as it was.
use Rattle.std.proofs.Common.{◌≡◌, ℕ, zero, suc, ◌+◌, ◌/◌, ◌%◌, ◌<◌, ◌≤◌, ◌==◌, Bool, true, false, List, [], ◌∷◌, ◌++◌, length, map, get_or, refl, sym, ap, ap₂, ◌∙◌, subst, arith, append_assoc, lit≤}
use Rattle.std.proofs.lemmas.Bool.Decides.{nat_tests}
use Rattle.std.specs.Prelude.{codes, decimal, All, IsTrue, Some, None, nat_lt}
use Rattle.std.proofs.lemmas.List.{length-map}
use Rattle.std.proofs.lemmas.List.Elements.{All-nil, All-cons, All-append, All-map, All-weaker, All-get_or, All-from_recursion}
use Rattle.map_lists.specs.Lists.{Lists}
use Rattle.map_lists.specs.declared.ids.VertexId.{VertexId}
use Rattle.graphs.specs.Graphs.{EdgeGraph}
use Rattle.graphs.specs.Bits.{IsLineByte}
use Rattle.graph6_text.specs.Lines.{IsLine as IsGraphLine, count_form}
use Rattle.graph6_text.specs.Faults.{line_fault}
use Rattle.kuratowski.specs.declared.witness.Kind.{Kind as Subdivided}
use Rattle.kuratowski.specs.declared.witness.Kind.TheVariants.{K5 as FiveJoined, K33 as ThreeByThree}
use Rattle.kuratowski.specs.declared.witness.Witness.{Witness as AWitness}
use Rattle.kuratowski.specs.Witnesses.{branch_count, pairs_of}
use Rattle.figure_text.specs.declared.figure.Figure.TheVariants.{Witness as WitnessFigure}
use Rattle.figure_text.specs.declared.line_words.Name.TheVariants as name
use Rattle.figure_text.specs.declared.line_shapes.Kind.TheVariants.{Witness}
use Rattle.figure_text.specs.Words.{word_of, parts_of, part_at}
use Rattle.figure_text.specs.Lines.{kind_of, is_graph_shaped, IsTail, TailInRange}
use Rattle.figure_text.specs.Reading.{IsPlain}
use Rattle.figure_text.specs.Figures.{ids, witness_of}
use Rattle.figure_text.specs.Text.{joined, kind_word, witness_first_line, vertex_numbers, witness_lists, HasPaths}
use Rattle.figure_text.specs.Laws.{AreLists, AreNumbered}
use Rattle.figure_text.proofs.NumeralLemmas.{Dark, decimal-dark}
use Rattle.figure_text.proofs.TextLemmas.{path-list}
use Rattle.figure_text.proofs.RoundLemmas.{name-dark, joined-parts, joined-plain, neighbour_words, AreLong}

-- the first line, without the byte that closes it
abbrev witness_words : ℕ → Subdivided → List ℕ → List (List ℕ)
witness_words k kind line = codes "figure" ∷ decimal k ∷ codes "witness" ∷ kind_word kind ∷ line ∷ []

abbrev pub witness_head : ℕ → Subdivided → List ℕ → List ℕ
witness_head k kind line = joined (witness_words k kind line)

pub witness_first_line-text : (k : ℕ) (kind : Subdivided) (line : List ℕ) → witness_first_line k kind line ≡ witness_head k kind line ++ 10 ∷ []
unfolding witness_first_line
witness_first_line-text k kind line = simp append_assoc

kind-dark : (kind : Subdivided) → Dark (kind_word kind)
kind-dark FiveJoined = name-dark name.K5
kind-dark ThreeByThree = name-dark name.K33

-- the line of a graph has no space
count-dark : (n : ℕ) → Dark (count_form n)
count-dark n = grind (arith, nat_lt, Dark, count_form, All-cons, All-nil, All-from_recursion, lit≤)

pub graph-dark : (line : List ℕ) (graph : EdgeGraph) → IsGraphLine line graph → Dark line
graph-dark line graph is =
    subst (λ (x : List ℕ). Dark x) (sym is.front)
    (All-append (λ b. 33 ≤ b) (count_form graph.n) is.body (count-dark graph.n) (All-weaker IsLineByte (λ b. 33 ≤ b) (λ b h. omega (arith, h.0)) is.body is.is_body.bytes))

witness-dark : (k : ℕ) (kind : Subdivided) (line : List ℕ) → k ≤ 16777216 → Dark line → All Dark (witness_words k kind line)
witness-dark k kind line most dark =
    All-from_recursion Dark (witness_words k kind line) (name-dark name.Figure, (decimal-dark k (omega arith), (name-dark name.Witness, (kind-dark kind, (dark, tt)))))

pub witness-parts : (k : ℕ) (kind : Subdivided) (line : List ℕ) → k ≤ 16777216 → Dark line → parts_of (witness_head k kind line) ≡ witness_words k kind line
witness-parts k kind line most dark = joined-parts (witness_words k kind line) (lit≤ tt) (witness-dark k kind line most dark)

pub witness-plain : (k : ℕ) (kind : Subdivided) (line : List ℕ) → k ≤ 16777216 → Dark line → IsPlain (witness_head k kind line)
witness-plain k kind line most dark = joined-plain (witness_words k kind line) (witness-dark k kind line most dark)

pub witness-part : (k : ℕ) (kind : Subdivided) (line : List ℕ) → k ≤ 16777216 → Dark line → part_at (witness_head k kind line) 4 ≡ line
witness-part k kind line most dark = ap (λ (ps : List (List ℕ)). get_or ps 4 []) (witness-parts k kind line most dark)

pub witness-tail : (k : ℕ) (kind : Subdivided) (line : List ℕ) → k ≤ 16777216 → Dark line → line_fault line ≡ None → IsTail (Some (Witness kind)) (witness_head k kind line)
witness-tail k kind line most dark none = (
  ap (λ (ps : List (List ℕ)). length (map word_of ps)) (witness-parts k kind line most dark),
  subst (λ (x : List ℕ). IsTrue (is_graph_shaped (line_fault x))) (sym (witness-part k kind line most dark)) (rw none refl),
)

pub witness-graph : (k : ℕ) (kind : Subdivided) (line : List ℕ) → k ≤ 16777216 → Dark line → line_fault line ≡ None → TailInRange (Some (Witness kind)) (witness_head k kind line)
witness-graph k kind line most dark none = ap line_fault (witness-part k kind line most dark) ∙ none

pub kind-again : (kind : Subdivided) (a b : List ℕ) (c : List (List ℕ)) → kind_of (map word_of (a ∷ b ∷ codes "witness" ∷ kind_word kind ∷ c)) ≡ Some (Witness kind)
kind-again FiveJoined a b c = refl
kind-again ThreeByThree a b c = refl

-- the lists of branches and paths are within the ranges of lists of vertices, and each line is long enough
numbered : (us : List VertexId) → AreNumbered us → All (λ u. u < 65535) (vertex_numbers us)
numbered us small = All-map (λ u. u < 65535) (λ (u : VertexId). u.0) us small

few-pairs : (kind : Subdivided) → length (pairs_of kind) ≤ 10
few-pairs FiveJoined = omega arith
few-pairs ThreeByThree = omega arith

pub witness-lists : (witness : AWitness) → HasPaths witness → AreNumbered witness.branch → All AreNumbered witness.paths → AreLists (witness_lists witness)
witness-lists witness whole small all =
    let count = length-map witness.paths vertex_numbers in
    let paths = whole.paths in
    record {
      some = omega arith;
      most = omega (arith, few-pairs witness.kind);
      neighbours = All-cons (λ us. All (λ u. u < 65535) us) (vertex_numbers witness.branch) (map vertex_numbers witness.paths) (numbered witness.branch small)
          (All-map (λ us. All (λ u. u < 65535) us) vertex_numbers witness.paths (All-weaker AreNumbered (λ path. All (λ u. u < 65535) (vertex_numbers path)) (λ path h. numbered path h) witness.paths all));
    }

words-count : (us : List VertexId) → length (neighbour_words (vertex_numbers us)) ≡ length us
words-count us = length-map (vertex_numbers us) (λ u. word_of (decimal (u + 1))) ∙ length-map us (λ (u : VertexId). u.0)

pub witness-long : (witness : AWitness) → HasPaths witness → AreLong (Witness witness.kind) (λ v. []) (witness_lists witness)
witness-long witness whole zero h = by_length (length (neighbour_words (vertex_numbers witness.branch))) (words-count witness.branch ∙ whole.branches)
  where
    by_length : (n : ℕ) → n ≡ branch_count witness.kind → IsTrue (suc n == branch_count witness.kind + 1)
    by_length n e = grind (arith, nat_tests)
witness-long witness whole (suc p) h =
    let within : p < length witness.paths = omega (arith, length-map witness.paths vertex_numbers) in
    let some : 0 < length (get_or witness.paths p []) = All-get_or (λ path. 0 < length path) witness.paths p [] within whole.some in
    let later : (suc p + 1 == 1) ≡ false = grind (arith, nat_tests) in
    let count = ap (λ (us : List ℕ). length (neighbour_words us)) (path-list p witness.paths) ∙ words-count (get_or witness.paths p []) in
    rw later (by_length (length (neighbour_words (get_or (map vertex_numbers witness.paths) p []))) (omega (arith, count, some)))
  where
    by_length : (n : ℕ) → 0 < n → IsTrue (nat_lt 1 (suc n))
    by_length n some = grind (arith, nat_tests)

-- vertices by their numbers, and back
numbers-back : (us : List VertexId) → ids (vertex_numbers us) ≡ us
numbers-back [] = refl
numbers-back (u ∷ us) = ap (λ (xs : List VertexId). u ∷ xs) (numbers-back us)

paths-back : (paths : List (List VertexId)) → map ids (map vertex_numbers paths) ≡ paths
paths-back [] = refl
paths-back (path ∷ paths) = ap₂ (λ (x : List VertexId) (xs : List (List VertexId)). x ∷ xs) (numbers-back path) (paths-back paths)

pub witness-same : (graph : EdgeGraph) (witness : AWitness) (lists : Lists) → lists ≡ witness_lists witness → WitnessFigure graph witness ≡ WitnessFigure graph (witness_of witness.kind lists)
witness-same graph witness lists e =
    ap (λ (w : AWitness). WitnessFigure graph w) (sym (ap (witness_of witness.kind) e ∙ ap₂ (λ (b : List VertexId) (ps : List (List VertexId)). made b ps) (numbers-back witness.branch) (paths-back witness.paths)))
  where
    made : List VertexId → List (List VertexId) → AWitness
    made b ps = record { kind = witness.kind; branch = b; paths = ps }
