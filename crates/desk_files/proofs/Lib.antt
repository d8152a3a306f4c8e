pub mod FileClaims
pub mod KeptFiles
pub mod Migrating
pub mod OneFinding
pub mod Rows
pub mod Shelves
