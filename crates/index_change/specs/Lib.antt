pub mod Repaging
