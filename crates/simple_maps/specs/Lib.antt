-- Which lists are a simple map, and its tables.
pub mod Faults
pub mod Pass
pub mod MapFault
pub mod Tables
pub mod Laws
