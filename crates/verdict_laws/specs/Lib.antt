-- At most one verdict on a drawing, and at most one refusal of a record.
pub mod AtMostOne
pub mod Laws
