-- What a line in its ranges has behind its front are vertices.
use Rattle.figure_text.proofs.vertex_lines.push_row.Goals as goal

pub push_vertices-requires : goal.push_vertices-requires
push_vertices-requires c = rw (c.words_from.ensures, c.pieces.ensures.pieces, c.deref.ensures.value) c.requires.vertices
