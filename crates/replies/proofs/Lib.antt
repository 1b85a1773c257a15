-- The laws of the first refusal that callers cite.
pub mod First
