pub mod Runs
pub mod Iri
pub mod Bracketed
pub mod Forms
pub mod IriCow
