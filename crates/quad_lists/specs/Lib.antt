pub mod Keys
pub mod Known
pub mod KnownOrder
pub mod KnownKey
pub mod QuadList
pub mod Part
