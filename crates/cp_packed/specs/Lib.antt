pub mod Words
pub mod Packed
pub mod Unpacking
pub mod Groups
pub mod Decoding
pub mod Packing
