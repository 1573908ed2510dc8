-- How maps grow, edge by edge, until all faces are triangles.
mod EarCover
mod Growth
mod JoinedParts
mod NearEars
mod Refused
