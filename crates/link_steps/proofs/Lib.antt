pub mod LinksKept
