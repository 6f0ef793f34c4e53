pub mod ByKind
pub mod Steps
