-- Jobs, statuses, and the words that name a job.
pub mod Status
pub mod Jobs
pub mod Numbers
pub mod Words
pub mod Spelling
