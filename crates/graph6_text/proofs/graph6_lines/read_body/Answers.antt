use Rattle.std.proofs.Common.{◌≡◌, ◌-◌, ℕ, List, length, take, drop, sym, subst, ap, ◌∙◌, arith, length-drop}
use Rattle.std.proofs.lemmas.List.{take_all}
use Rattle.graphs.specs.Graphs.{EdgeGraph}
use Rattle.graphs.specs.Bits.{IsBody, edges_of}
use Rattle.graph6_text.specs.Lines.{IsLine}
use Rattle.graph6_text.proofs.LineLemmas.{body_of}
use Rattle.graph6_text.proofs.graph6_lines.read_body.Goals as goal

whole : (line : List ℕ) (start : ℕ) → take (length line - start) (drop start line) ≡ drop start line
whole line start = let len = length-drop start line in take_all (length line - start) (drop start line) (omega arith)

pub of_body-requires-clause-bits : goal.of_body-requires-clause-bits
of_body-requires-clause-bits c =
    let h = body_of c.args.line.now c.args.n c.args.start c.requires.bytes c.requires.start (sym c.body_fault.ensures ∙ c.in-None.is) in
    subst (IsBody c.args.n) (sym (whole c.args.line.now c.args.start)) h.0

pub returns-in-Ok-clause-ok : goal.returns-in-Ok-clause-ok
returns-in-Ok-clause-ok c =
    let h = body_of c.args.line.now c.args.n c.args.start c.requires.bytes c.requires.start (sym c.body_fault.ensures ∙ c.in-None.is) in
    let same = c.in-Ok.ensures ∙ ap (λ (body : List ℕ). let g : EdgeGraph = record { n = c.args.n; edges = edges_of c.args.n body } in g) (whole c.args.line.now c.args.start) in
    subst (IsLine c.args.line.now) (sym same) h.1
