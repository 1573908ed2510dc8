-- Views of a tree, and what stands.
pub mod Outs
pub mod Standing
pub mod Views
pub mod Items
