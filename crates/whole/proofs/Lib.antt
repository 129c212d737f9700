pub mod SetMarks
pub mod Walking
pub mod Lists
pub mod Empty
