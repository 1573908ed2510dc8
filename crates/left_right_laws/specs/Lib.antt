-- Ways in maps, and the order in which they leave a vertex; rooted forests and sides.
pub mod Ways
pub mod Forests
pub mod Tours
