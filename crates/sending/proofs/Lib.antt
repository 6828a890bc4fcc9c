pub mod Acking
