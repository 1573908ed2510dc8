-- Orders of the vertices of a map from one end of an edge to the other.
pub mod StOrders
pub mod Placing
