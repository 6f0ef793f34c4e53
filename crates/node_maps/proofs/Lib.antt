mod Hashed
mod Rows
mod Served
mod Tables
mod Unread
