pub mod Shown
pub mod Kept
pub mod Checked
pub mod Renamed
pub mod Told
pub mod Carried
pub mod Codes
