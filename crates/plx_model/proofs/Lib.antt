pub mod Places
mod Filled
mod Fits
mod Numbered
mod OnResult
mod Pictures
mod Reports
mod SameBytes
mod Tables
