pub mod TagCode
