pub mod Goes
pub mod Near
