pub mod Notebook
pub mod Page
pub mod Watcher
