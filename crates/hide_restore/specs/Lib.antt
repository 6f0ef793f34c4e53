pub mod Again
pub mod Canon
pub mod Edits
pub mod Net
pub mod Refusals
