pub mod Cut
pub mod Canonical
pub mod Arenas
