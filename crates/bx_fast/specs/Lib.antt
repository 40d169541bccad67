pub mod Fast
