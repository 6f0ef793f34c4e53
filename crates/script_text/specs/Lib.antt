pub mod Said
pub mod Token
pub mod Text
pub mod Form
pub mod Table
pub mod Line
pub mod Borrowed
