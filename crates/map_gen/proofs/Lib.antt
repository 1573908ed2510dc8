-- The maps of the generator.
mod Cases
mod Making
mod Spokes
mod Stackings
mod Start
mod VertexPut
