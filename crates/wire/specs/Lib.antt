pub mod Kinds
pub mod Datagram
pub mod DatagramLaws
pub mod Reading
pub mod FormLaws
pub mod Series
