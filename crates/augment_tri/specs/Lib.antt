-- How maps grow, edge by edge.
pub mod Growing
