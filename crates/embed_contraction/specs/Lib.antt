-- Edges that can be contracted.
pub mod Linked
-- Two sets of places of a ring, and the Kuratowski witnesses of two adjacent vertices beside a ring.
pub mod Traces
-- Contracted edges, witnesses lifted back, and witnesses with a path in place of an edge.
pub mod Contracted
pub mod Routed
