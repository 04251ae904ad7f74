pub mod GroupsKept
